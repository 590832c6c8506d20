use Rattle.std.proofs.Common.{sym, ap}
use Rattle.file_tree.specs.rules.Files.{Path}
use Rattle.file_listing.specs.Separators.{separator_behind}
use Rattle.file_listing.proofs.PathLemmas.{top_path}
use Rattle.file_listing.proofs.listing.separator.Goals as goal

pub returns-in-None : goal.returns-in-None
returns-in-None c =
    ap (λ (p : Path). separator_behind p)
    (sym (top_path c.args.tree.now c.args.directory c.in-None.ensures.none))
