-- Lines that were taken one after another are printed one after another.
use Rattle.std.proofs.Common.{◌≡◌, ℕ, ◌+◌, List, [], ◌∷◌, ◌++◌, Some, None, refl, sym, ap, ◌∙◌}
use Rattle.std.proofs.Common.{subst}
use Rattle.std.specs.Prelude.{Option}
use Rattle.std.specs.Io.KnownBytes.{Appends}
use Rattle.std.proofs.lemmas.List.{append_assoc, append-nil}
use Rattle.command_words.specs.rules.Printers.{PrinterState, IsPrinted}
use Rattle.command_words.specs.rules.Texts.{printed}
use Rattle.command_words.specs.laws.Printed.{all_printed, TakenLinesArePrinted}

pub appends_nothing : (o : Option (List ℕ)) → Appends o o []
appends_nothing None = tt
appends_nothing (Some xs) = sym (append-nil xs)

pub appends_both : (a b c : Option (List ℕ)) (front rest : List ℕ) → Appends a b front
    → Appends b c rest → Appends a c (front ++ rest)
appends_both None b c front rest h k = tt
appends_both (Some xs) None c front rest h k = absurd h
appends_both (Some xs) (Some ys) None front rest h k = absurd k
appends_both (Some xs) (Some ys) (Some zs) front rest h k = k ∙ ap (λ v. v ++ rest) h
    ∙ append_assoc xs front rest

-- six texts that were printed one after the other
pub appends_six : (a b c d e f g : Option (List ℕ)) (p q r s t u : List ℕ) → Appends a b p
    → Appends b c q → Appends c d r → Appends d e s → Appends e f t → Appends f g u
    → Appends a g (p ++ q ++ r ++ s ++ t ++ u)
appends_six a b c d e f g p q r s t u h i j k l m =
    appends_both a f g (p ++ q ++ r ++ s ++ t) u
    (appends_both a e f (p ++ q ++ r ++ s) t
    (appends_both a d e (p ++ q ++ r) s
    (appends_both a c d (p ++ q) r (appends_both a b c p q h i) j) k) l) m

-- two that a printer has printed one after the other
pub prints_both : (a b c : PrinterState) (front rest : List ℕ) → IsPrinted a b front
    → IsPrinted b c rest → IsPrinted a c (front ++ rest)
prints_both a b c front rest h k =
    (appends_both a.contents b.contents c.contents front rest h.0 k.0, k.1 ∙ h.1)

pub prints_nothing : (a b : PrinterState) → b ≡ a → IsPrinted a b []
prints_nothing a b is =
    subst (λ z. IsPrinted a z []) (sym is) (appends_nothing a.contents, refl)

pub taken_are_printed : TakenLinesArePrinted
taken_are_printed first [] old new h = prints_nothing old new h
taken_are_printed first (line ∷ lines) old new h =
    prints_both old h.0 new (printed first line) (all_printed (first + 1) lines) h.1
    (taken_are_printed (first + 1) lines h.0 new h.2)
