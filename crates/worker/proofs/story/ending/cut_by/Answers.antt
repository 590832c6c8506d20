use Rattle.worker.proofs.EndLemmas.{is_found}
use Rattle.worker.proofs.story.ending.cut_by.Goals as goal

pub returns-clause-found : goal.returns-clause-found
returns-clause-found c =
    is_found _ _ _ c.into_cut.ensures.cut c.into_cut.ensures.crash_image c.into_cut.ensures.shows
    c.into_cut.ensures.all_synced
