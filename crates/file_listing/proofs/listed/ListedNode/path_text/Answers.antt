use Rattle.std.proofs.Common.{subst, sym}
use Rattle.std.specs.Str.{IsUtf8}
use Rattle.file_listing.proofs.NameLemmas.{is_utf8}
use Rattle.file_listing.proofs.listed.ListedNode.path_text.Goals as goal

pub unreachable-requires : goal.unreachable-requires
unreachable-requires c = c.in-Err.ensures.cases.0
    (subst IsUtf8 (sym c.as_slice.ensures) (is_utf8 c.args.self.now.path c.requires))
