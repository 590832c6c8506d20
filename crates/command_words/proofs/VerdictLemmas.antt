-- Imports that are looked at one after another, and what is told of a module.
use Rattle.std.proofs.Common.{◌≡◌, ◌∙◌, inl, inr, refl, sym, ap, subst, arith, ℕ, ◌+◌, ◌<◌, Bool}
use Rattle.std.proofs.Common.{true, false, List, ◌++◌, length, get_or, Option, Some, ◌≤◌, not}
use Rattle.std.proofs.Common.{codes}
use Rattle.std.specs.Prelude.{nat_le, nat_lt, slice_get, Result, Ok, Err, OnOk, if◌then◌else◌}
use Rattle.std.specs.Prelude.{IfErr, IfOk}
use Rattle.std.specs.Fmt.{decimal}
use Rattle.std.specs.Io.KnownBytes.{Appends}
use Rattle.std.proofs.lemmas.Bool.Decides.{nat_tests}
use Rattle.std.proofs.lemmas.Option.{slice_get_read}
use Rattle.wasm_syntax.specs.declared.types.FunctionType.{FunctionType}
use Rattle.wasm_syntax.specs.declared.module.Import.{Import}
use Rattle.command_words.specs.rules.Printers.{PrinterState, IsPrinted, printers}
use Rattle.wasm_syntax.specs.declared.module.Module.{Module}
use Rattle.machine.specs.declared.instance.fault.LinkFault.{LinkFault}
use Rattle.machine.specs.declared.instance.fault.LinkFault.TheVariants.{TooManyPages}
use Rattle.machine.specs.declared.from_bytes.fault.ModuleFault.{ModuleFault}
use Rattle.machine.specs.declared.from_bytes.fault.ModuleFault.TheVariants.{Decode, Valid, Link}
use Rattle.machine.specs.rules.Acceptance.{IsReported, is_want, passed_in}
use Rattle.wasm_decode.specs.declared.items.limit.PassedLimit.{PassedLimit}
use Rattle.wasm_decode.specs.declared.fault.DecodeFault.TheVariants as decode
use Rattle.command_words.specs.Statuses.{IsRight, status_by}
use Rattle.command_words.specs.declared.bounds.Bound.TheVariants as bound
use Rattle.command_words.specs.rules.Bounds.{IsOutside, range_words}
use Rattle.command_words.specs.rules.Reports.{SaysLine}
use Rattle.command_words.specs.rules.Checks.{ChecksModule, EndsAsAsked, IsChecked, ShowsAccepted}
use Rattle.command_words.specs.rules.Checks.{TellsWhy, accepted_text}
use Rattle.command_words.specs.rules.Verdicts.{EndsWithMore, IsImportOffered, SaysMore, TellsMore}
use Rattle.command_words.specs.rules.Verdicts.{TellsOfLink, first_pages, pages_text}
use Rattle.command_words.specs.declared.status.Status.{Status}
use Rattle.command_words.specs.declared.status.Status.TheVariants as exit
use Rattle.command_words.proofs.PrinterLemmas.{writes_so}

-- ---- tests

pub not_false : (b : Bool) → not b ≡ false → b ≡ true
not_false true e = refl
not_false false e = absurd (cc)

pub not_true : (b : Bool) → not b ≡ true → b ≡ false
not_true true e = absurd (cc)
not_true false e = refl

-- ---- imports

-- each import before this place is offered
abbrev pub AreOfferedBefore : List FunctionType → List Import → ℕ → Type 0
AreOfferedBefore types imports place = (k : ℕ) (other : Import) → k < place
    → slice_get imports k ≡ Some other → IsImportOffered types other

pub none_before : (types : List FunctionType) (imports : List Import)
    → AreOfferedBefore types imports 0
none_before types imports = λ k other before is. absurd (omega (arith, before))

-- the import at a place of the loop
pub read_there : (imports : List Import) (place : ℕ) (i : Import) → place < length imports
    → i ≡ get_or imports place i → slice_get imports place ≡ Some i
read_there imports place i inside is =
    slice_get_read imports (length imports) place i refl inside is

pub one_more : (types : List FunctionType) (imports : List Import) (place : ℕ) (i : Import)
    → slice_get imports place ≡ Some i → IsImportOffered types i
    → AreOfferedBefore types imports place → AreOfferedBefore types imports (place + 1)
one_more types imports place i there offered so_far =
    λ k other before is. by_place k other before is (nat_lt k place) refl
  where
    by_place : (k : ℕ) (other : Import) → k < place + 1 → slice_get imports k ≡ Some other
        → (b : Bool) → nat_lt k place ≡ b → IsImportOffered types other
    by_place k other before is true e = so_far k other (grind (arith, nat_tests)) is
    by_place k other before is false e =
        let here : k ≡ place = grind (arith, nat_tests) in
        let read : Some other ≡ Some i =
        sym is ∙ (ap (slice_get imports) here ∙ there) in
        let same : i ≡ other = cc in
        subst (IsImportOffered types) same offered

-- ---- pages

-- so many pages are told of a module that begins with too many
pub pages_told : {T E : Type 0} (r : Result T E) (m : Module) (fault : LinkFault)
    (old new : PrinterState) (n : ℕ) → fault ≡ TooManyPages → n ≡ first_pages m
    → OnOk r (IsPrinted old new (pages_text n)) → OnOk r (TellsOfLink m fault old new)
pages_told r m fault old new n is count told =
    subst (λ f. OnOk r (TellsOfLink m f old new)) (sym is)
    (subst (λ k. OnOk r (IsPrinted old new (pages_text k))) count told)

-- the text of so many pages, as it is written for a test of their number
abbrev pub pages_written : ℕ → Bool → List ℕ
pages_written n few = codes "begins with " ++ (decimal n
    ++ (if few then codes " pages: --pages " ++ (decimal n ++ codes "\n")
    else codes " pages, and a worker has at most 256\n"))

module _ {T E : Type 0} (r : Result T E) (old new : PrinterState) (n : ℕ) where
  written_so : (few : Bool) → nat_le n 256 ≡ few
      → OnOk r (Appends old.contents new.contents (pages_written n few))
      → OnOk r (new.failed ≡ old.failed) → OnOk r (IsPrinted old new (pages_text n))
  written_so few is bytes steady =
      writes_so r old new (pages_text n)
      (subst (λ t. OnOk r (Appends old.contents new.contents t))
      (ap (pages_written n) (sym is)) bytes) steady

  pub few_written : n ≤ 256
      → OnOk r (Appends old.contents new.contents (pages_written n true))
      → OnOk r (new.failed ≡ old.failed) → OnOk r (IsPrinted old new (pages_text n))
  few_written few bytes steady = by_test (nat_le n 256) refl
    where
      by_test : (b : Bool) → nat_le n 256 ≡ b → OnOk r (IsPrinted old new (pages_text n))
      by_test true e = written_so true e bytes steady
      by_test false e = absurd (grind (arith, nat_tests))

  pub many_written : 256 < n
      → OnOk r (Appends old.contents new.contents (pages_written n false))
      → OnOk r (new.failed ≡ old.failed) → OnOk r (IsPrinted old new (pages_text n))
  many_written many bytes steady = by_test (nat_le n 256) refl
    where
      by_test : (b : Bool) → nat_le n 256 ≡ b → OnOk r (IsPrinted old new (pages_text n))
      by_test true e = absurd (grind (arith, nat_tests))
      by_test false e = written_so false e bytes steady

-- the words of a module that is accepted, as they are written for a test of its pages
abbrev pub accepted_written : ℕ → Bool → List ℕ
accepted_written n few = if few then codes "accepted\n"
    else codes "accepted\ncreate it with --pages " ++ (decimal n ++ codes "\n")

module _ {T E : Type 0} (r : Result T E) (old new : PrinterState) (n : ℕ) where
  told_so : (few : Bool) → nat_le n 16 ≡ few
      → OnOk r (Appends old.contents new.contents (accepted_written n few))
      → OnOk r (Appends old.contents new.contents (accepted_text n))
  told_so few is bytes = subst (λ t. OnOk r (Appends old.contents new.contents t))
      (ap (accepted_written n) (sym is)) bytes

  pub few_accepted : n ≤ 16 → OnOk r (Appends old.contents new.contents (accepted_written n true))
      → OnOk r (Appends old.contents new.contents (accepted_text n))
  few_accepted few bytes = by_test (nat_le n 16) refl
    where
      by_test : (b : Bool) → nat_le n 16 ≡ b
          → OnOk r (Appends old.contents new.contents (accepted_text n))
      by_test true e = told_so true e bytes
      by_test false e = absurd (grind (arith, nat_tests))

  pub many_accepted : 16 < n
      → OnOk r (Appends old.contents new.contents (accepted_written n false))
      → OnOk r (Appends old.contents new.contents (accepted_text n))
  many_accepted many bytes = by_test (nat_le n 16) refl
    where
      by_test : (b : Bool) → nat_le n 16 ≡ b
          → OnOk r (Appends old.contents new.contents (accepted_text n))
      by_test true e = absurd (grind (arith, nat_tests))
      by_test false e = told_so false e bytes

-- what holds of the limit that is found holds of the limit that is passed
pub of_limit : (P : PassedLimit → Type 0) (found passed : PassedLimit) (limit : Option PassedLimit)
    → Some found ≡ limit → limit ≡ Some passed → P found → P passed
of_limit P found passed limit is told h =
    let both : Some found ≡ Some passed = is ∙ told in
    let same : found ≡ passed = cc in
    subst P same h

-- no fault has the status of an accepted module
undone_by : (want : Bool)
    → ◌≡◌ {A = Status} (if want then exit.OutOfMemory else exit.Refused) exit.Done → ⊥
undone_by true is = absurd cc
undone_by false is = absurd cc

-- ---- what is told last

module _ (bytes : List ℕ) where
  -- nothing more is told of a limit
  says_nothing : (why : ModuleFault) (passed : PassedLimit) (state : PrinterState)
      → passed_in why ≡ Some passed → TellsMore bytes why state state
  says_nothing (Decode (decode.Limit at)) passed state is = refl
  says_nothing (Decode (decode.Malformed at)) passed state is = absurd cc
  says_nothing (Decode (decode.Float at)) passed state is = absurd cc
  says_nothing (Decode decode.Memory) passed state is = absurd cc
  says_nothing (Valid fault) passed state is = refl
  says_nothing (Link fault) passed state is = inl refl

  pub says_plainly : (why : ModuleFault) (passed : PassedLimit) (new : PrinterState)
      → passed_in why ≡ Some passed → SaysMore bytes why new
  says_plainly why passed new is = inl (new, says_nothing why passed new is)

  pub ends_plainly : {T E : Type 0} (r : Result T E) (why : ModuleFault) (passed : PassedLimit)
      (new : PrinterState) → passed_in why ≡ Some passed → OnOk r (EndsWithMore bytes why new)
  ends_plainly (Ok done) why passed new is = (new, says_nothing why passed new is)
  ends_plainly (Err e) why passed new is = tt

  pub ends_with : {T E : Type 0} (r : Result T E) (why : ModuleFault) (mid new : PrinterState)
      → OnOk r (TellsMore bytes why mid new) → OnOk r (EndsWithMore bytes why new)
  ends_with (Ok done) why mid new told = (mid, told)
  ends_with (Err e) why mid new told = tt

  pub told_why : (lists_all : Bool) (pages : ℕ) (new : PrinterState)
      (verdict : Result ℕ ModuleFault) → IfErr verdict (IsReported pages bytes)
      → IfErr verdict (λ fault. EndsAsAsked lists_all bytes fault new)
      → status_by verdict ≡ exit.Refused → TellsWhy lists_all pages bytes new
  told_why lists_all pages new (Ok first) reported more is = absurd cc
  told_why lists_all pages new (Err fault) reported more is = (fault, reported, more)

  -- ---- a check

  -- a verdict whose line was printed
  pub shown_accepted : (pages : ℕ) (old new : PrinterState)
      (verdict : Result ℕ ModuleFault) → IsRight pages bytes verdict
      → IfOk verdict (λ first. Appends old.contents new.contents (accepted_text first))
      → status_by verdict ≡ exit.Done → ShowsAccepted pages bytes old new
  shown_accepted pages old new (Ok first) right printed is = (
    right.0,
    right.1,
    subst (λ n. Appends old.contents new.contents (accepted_text n)) right.2 printed,
  )
  shown_accepted pages old new (Err fault) right printed is =
      absurd (undone_by (is_want fault) is)

  pub checked : (lists_all : Bool) (pages n : ℕ) (out out' err : PrinterState) (status : Status)
      → n ≡ pages → 1 ≤ pages → pages ≤ 256 → IsChecked lists_all n bytes out status out'
      → ChecksModule lists_all pages bytes (printers out err) (printers out' err) status
  checked lists_all pages n out out' err status is least most h =
      inl (least, most, subst (λ k. IsChecked lists_all k bytes out status out') is h, refl)

  pub unchecked : (lists_all : Bool) (pages : ℕ) (out err err' : PrinterState) (status : Status)
      (line : List ℕ)
      → IsOutside 1 256 pages → line ≡ range_words bound.Pages
      → SaysLine line exit.Refused err status err'
      → ChecksModule lists_all pages bytes (printers out err) (printers out err') status
  unchecked lists_all pages out err err' status line outside is said =
      inr (outside, subst (λ l. SaysLine l exit.Refused err status err') is said, refl)
