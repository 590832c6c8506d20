-- What the status of a print says, taken apart and put together.
use Rattle.std.proofs.Common.{◌≡◌, ◌≢◌, inl, inr, ℕ, List, ◌++◌, refl, sym, subst, ◌∙◌}
use Rattle.std.specs.Prelude.{Result, Ok, Err, OnOk}
use Rattle.std.specs.Io.KnownBytes.{Appends}
use Rattle.command_words.specs.rules.Printers.{PrinterState, IsPrinted, IsSaid, SaysText, HeedsBoth}
use Rattle.command_words.specs.rules.Printers.{printers}
use Rattle.command_words.specs.rules.Texts.{named_number}
use Rattle.command_words.specs.declared.status.Status.{Status}
use Rattle.command_words.specs.declared.status.Status.TheVariants as exit
use Rattle.command_words.proofs.LineLemmas.Printed.{prints_both}

-- ---- texts

pub prints_four : (a b c d e : PrinterState) (p q r s : List ℕ) → IsPrinted a b p
    → IsPrinted b c q → IsPrinted c d r → IsPrinted d e s → IsPrinted a e (p ++ q ++ r ++ s)
prints_four a b c d e p q r s h i j k =
    prints_both a d e (p ++ q ++ r) s
    (prints_both a c d (p ++ q) r (prints_both a b c p q h i) j) k

pub prints_six : (a b c d e f g : PrinterState) (p q r s t u : List ℕ) → IsPrinted a b p
    → IsPrinted b c q → IsPrinted c d r → IsPrinted d e s → IsPrinted e f t → IsPrinted f g u
    → IsPrinted a g (p ++ q ++ r ++ s ++ t ++ u)
prints_six a b c d e f g p q r s t u h i j k l m =
    prints_both a f g (p ++ q ++ r ++ s ++ t) u
    (prints_both a e f (p ++ q ++ r ++ s) t (prints_four a b c d e p q r s h i j k) l) m

pub prints_seven : (a b c d e f g h : PrinterState) (p q r s t u v : List ℕ) → IsPrinted a b p
    → IsPrinted b c q → IsPrinted c d r → IsPrinted d e s → IsPrinted e f t → IsPrinted f g u
    → IsPrinted g h v → IsPrinted a h (p ++ q ++ r ++ s ++ t ++ u ++ v)
prints_seven a b c d e f g h p q r s t u v i j k l m n o =
    prints_both a g h (p ++ q ++ r ++ s ++ t ++ u) v
    (prints_six a b c d e f g p q r s t u i j k l m n) o

-- a name with a number, where that is this one
pub names_as : (old new : PrinterState) (name : List ℕ) (m n : ℕ) → m ≡ n
    → IsPrinted old new (named_number name m) → IsPrinted old new (named_number name n)
names_as old new name m n is printed =
    subst (λ k. IsPrinted old new (named_number name k)) is printed

-- a write that has not failed
pub writes_so : {T E : Type 0} (r : Result T E) (old new : PrinterState) (text : List ℕ)
    → OnOk r (Appends old.contents new.contents text) → OnOk r (new.failed ≡ old.failed)
    → OnOk r (IsPrinted old new text)
writes_so (Ok done) old new text bytes steady = (bytes, steady)
writes_so (Err why) old new text bytes steady = tt

-- ---- exit statuses

module _ (status : Status) (old : PrinterState) (answered : Status) (new : PrinterState) where
  -- the error output tells it
  pub heeds_err : (out : PrinterState) → status ≢ exit.Unwritten → IsSaid status old answered new
      → HeedsBoth (printers out old) (printers out new) answered
  heeds_err out other (inl said) =
      inl ((λ seven. other (sym said.0 ∙ seven)), refl, said.1)
  heeds_err out other (inr unsaid) = inr (unsaid.0, inr unsaid.1)

  module _ (text : List ℕ) where
    pub text_is_said : SaysText text status old answered new → IsSaid status old answered new
    text_is_said (inl said) = inl (said.0, said.1.1)
    text_is_said (inr unsaid) = inr unsaid

    -- the output tells it
    pub heeds_out : (err : PrinterState) → status ≢ exit.Unwritten
        → SaysText text status old answered new
        → HeedsBoth (printers old err) (printers new err) answered
    heeds_out err other (inl said) =
        inl ((λ seven. other (sym said.0 ∙ seven)), said.1.1, refl)
    heeds_out err other (inr unsaid) = inr (unsaid.0, inl unsaid.1)
