use Rattle.std.proofs.Common.{take}
use Rattle.command_words.specs.rules.Listings.{TellsImports}
use Rattle.command_words.proofs.verdicts.listing.print_refused_imports.Given as goal

-- the first imports are told
abbrev pub invariant-loop-import : goal.invariant-loop-import
invariant-loop-import g l =
    TellsImports l.types (take l.import-index l.imports) l.fn.out l.out
