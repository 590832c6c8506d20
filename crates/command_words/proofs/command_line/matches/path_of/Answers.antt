use Rattle.std.proofs.Common.{ap, sym, is_some, true≢false, ◌∙◌}
use Rattle.clap.specs.Words.{found_of}
use Rattle.command_words.proofs.WordLemmas.Meets.{path_is_some}
use Rattle.command_words.proofs.command_line.matches.path_of.Goals as goal

pub unreachable-requires : goal.unreachable-requires
unreachable-requires c = absurd (true≢false (sym c.requires
    ∙ ap is_some (path_is_some (found_of c.args.matches.now) c.args.name.now _
    c.in_default.ensures)))

pub returns : goal.returns
returns c = path_is_some (found_of c.args.matches.now) c.args.name.now _ c.in-Some.ensures
