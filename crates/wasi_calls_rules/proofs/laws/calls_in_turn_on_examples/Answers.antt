use Rattle.wasi_calls_rules.proofs.StoryExamplesHold.{rename_story, unlink_story, size_story}
use Rattle.wasi_calls_rules.proofs.StoryExamplesHold.{answer_story, page_story}
use Rattle.wasi_calls_rules.proofs.laws.calls_in_turn_on_examples.Goals as goal

pub returns-clause-renaming : goal.returns-clause-renaming
returns-clause-renaming c = rename_story

pub returns-clause-unlinking : goal.returns-clause-unlinking
returns-clause-unlinking c = unlink_story

pub returns-clause-sizes : goal.returns-clause-sizes
returns-clause-sizes c = size_story

pub returns-clause-answers : goal.returns-clause-answers
returns-clause-answers c = answer_story

pub returns-clause-pages : goal.returns-clause-pages
returns-clause-pages c = page_story
