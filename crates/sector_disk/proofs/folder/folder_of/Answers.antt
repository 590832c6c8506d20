use Rattle.std.proofs.Common.{◌≡◌, ◌∙◌, [], sym, ap, arith, rules}
use Rattle.sector_disk.specs.rules.Folder.{or_root}
use Rattle.sector_disk.proofs.FolderLemmas.{in_current, before_slash, or_root_some}
use Rattle.sector_disk.proofs.folder.folder_of.Goals as goal

pub returns-in-None : goal.returns-in-None
returns-in-None c = sym (in_current c.args.path.now c.in-None.ensures.cases)

pub returns-in-Some-empty-default : goal.returns-in-Some-empty-default
returns-in-Some-empty-default c =
    let split = c.in-Some-empty-default.ensures.cases in
    let front = c.in-Some-empty-default.field-0-0.now in
    let is_before = before_slash c.args.path.now front split.0 split.1 split.2.1 split.2.0
    split.3 (omega (arith, split.7)) in
    sym (is_before ∙ ap or_root c.in-Some-empty-default.is-empty)

pub returns-in-Some : goal.returns-in-Some
returns-in-Some c =
    let split = c.in-Some.ensures.cases in
    let front = c.in-Some.folder.now in
    let some : front ≡ [] → ⊥ = search rules in
    let is_before = before_slash c.args.path.now front split.0 split.1 split.2.1 split.2.0
    split.3 (omega (arith, split.7)) in
    sym (is_before ∙ or_root_some front some)
