-- What is the same in all versions, and the marks that tell one from another.
use Rattle.std.proofs.Common.{◌≡◌, ℕ, ◌≤◌, List, ◌∷◌, ◌++◌, length, Option, Some, None}
use Rattle.std.proofs.Common.{refl, sym, ap, ◌∙◌, arith, lit≤}
use Rattle.std.proofs.lemmas.List.{append_cancel_left}
use Rattle.wasi_abi.specs.declared.version.Version.{Version}
use Rattle.wasi_abi.specs.declared.version.Version.TheVariants.{One, Two}
use Rattle.wasi_abi.specs.rules.Versions.{version_number, text_limit, widenings}
use Rattle.state_image.specs.rules.ProcessImage.{Saved, process_image, process_image_mark}
use Rattle.state_image.specs.rules.ProcessImage.{IsMarkedOtherwise}
use Rattle.state_image.specs.rules.Reading.{HasField, ReadsField}
use Rattle.state_image.specs.laws.Marks.{IsVersionOf}
use Rattle.state_image.proofs.Fields.{Tells, same_front}

-- ---- limits

-- a widening is one answer at most
pub few_widenings : (v : Version) → widenings v ≤ 1
few_widenings One = lit≤ tt
few_widenings Two = lit≤ tt

-- the texts of version 2 are the longest ones
pub short_texts : (v : Version) → text_limit v ≤ 65536
short_texts One = lit≤ tt
short_texts Two = lit≤ tt

-- ---- marks

pub mark_length : (v : Version) → length (process_image_mark v) ≡ 8
mark_length One = refl
mark_length Two = refl

-- the eighth byte
abbrev pub digit_of : List ℕ → ℕ
digit_of (a ∷ b ∷ c ∷ d ∷ e ∷ f ∷ g ∷ digit ∷ rest) = digit
digit_of other = 0

-- a mark in front tells the version, and what is after it
pub same_version : (v w : Version) (rest other : List ℕ)
    → process_image_mark v ++ rest ≡ process_image_mark w ++ other → (v ≡ w) × (rest ≡ other)
same_version One One rest other e = (refl, append_cancel_left (process_image_mark One) rest other e)
same_version Two Two rest other e = (refl, append_cancel_left (process_image_mark Two) rest other e)
same_version One Two rest other e =
    let digits : ◌≡◌ {A = ℕ} 49 50 = ap digit_of e in absurd (omega (arith, digits))
same_version Two One rest other e =
    let digits : ◌≡◌ {A = ℕ} 50 49 = ap digit_of e in absurd (omega (arith, digits))

-- so equal images are of one version
pub version_of_process_image : (s t : Saved) → process_image s ≡ process_image t
    → s.version ≡ t.version
version_of_process_image s t e = (same_version s.version t.version _ _ e).0

pub mark_field : Tells Version (λ version. Unit {0}) process_image_mark
mark_field = record { front = told } where
  told : (x y : Version) (rest other : List ℕ) → Unit {0} → Unit {0}
      → process_image_mark x ++ rest ≡ process_image_mark y ++ other → (x ≡ y) × (rest ≡ other)
  told x y rest other p q e = same_version x y rest other e

-- so many bytes are a mark where they have a version
pub marked : (o : Option Version) (mark : List ℕ) {old new : List ℕ}
    → HasField (λ (b : List ℕ). b) (λ b. length b ≡ 8) mark old new → IsVersionOf mark o
    → ReadsField process_image_mark (λ version. Unit {0}) o old new
marked (Some version) mark {old} {new} has is =
    record { in_range = tt; is = has.is ∙ ap (λ (b : List ℕ). b ++ new) is }
marked None mark {old} {new} has other = record {
  none = λ version rest u e.
      other version (same_front ℕ mark (process_image_mark version) new rest
      (has.in_range ∙ sym (mark_length version)) (sym has.is ∙ e)).0;
  passed = mark;
  is = has.is;
}

-- ---- the mark of another version

-- the image of a process has the mark of its version
pub own_mark : (s : Saved) → IsMarkedOtherwise s.version (process_image s) → ⊥
own_mark s otherwise =
    let same = same_version s.version otherwise.marked _ otherwise.rest otherwise.begins in
    otherwise.other (sym same.0)

-- a version that is no other one is this one
no_other : (v w : Version) → ((v ≡ w → ⊥) → ⊥) → v ≡ w
no_other One One same = refl
no_other Two Two same = refl
no_other One Two same =
    absurd (same (λ e. let n : ◌≡◌ {A = ℕ} 1 2 = ap version_number e in omega (arith, n)))
no_other Two One same =
    absurd (same (λ e. let n : ◌≡◌ {A = ℕ} 2 1 = ap version_number e in omega (arith, n)))

-- and so that of the version of which it isn't marked otherwise
pub marked_as : (v : Version) (s : Saved) → (IsMarkedOtherwise v (process_image s) → ⊥)
    → s.version ≡ v
marked_as v s same =
    no_other s.version v
    (λ other. same (record { marked = s.version; other = other; rest = _; begins = refl }))
