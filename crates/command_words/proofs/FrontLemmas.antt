-- What a writer took of a text, one write after another.
use Rattle.std.proofs.Common.{◌≡◌, true, ℕ, ◌-◌, List, ◌++◌, length, take, drop, None, Some, Ok}
use Rattle.std.proofs.Common.{Err, sym, ap, ◌∙◌, append_assoc, take-append-drop}
use Rattle.std.proofs.lemmas.List.{take_rest}
use Rattle.std.specs.Prelude.{Option, Result, IsErr, OnErr, OnOk}
use Rattle.std.specs.Io.KnownBytes.{Appends, Keeps}
use Rattle.command_words.specs.rules.Prints.{PrintsText}
use Rattle.command_words.specs.rules.Printers.{PrinterState, IsPrinted, StopsPrinting, GrowsByFront}
use Rattle.command_words.proofs.LineLemmas.Printed.{appends_both}

-- what was taken of a text so far, and what is left of it
pub record HasTaken (old new : Option (List ℕ)) (text rest : List ℕ) : Type 0 where
  pub front : List ℕ
  pub is : text ≡ front ++ rest
  pub taken : Appends old new front

appends_kept : (a b c : Option (List ℕ)) (front : List ℕ) → Appends a b front → Keeps b c
    → Appends a c front
appends_kept None b c front h k = tt
appends_kept (Some xs) None c front h k = absurd h
appends_kept (Some xs) (Some ys) None front h k = absurd k
appends_kept (Some xs) (Some ys) (Some zs) front h k = k ∙ h

module _ (a b : Option (List ℕ)) (text rest : List ℕ) (so_far : HasTaken a b text rest) where
  pub takes_more : (c : Option (List ℕ)) (n : ℕ) → Appends b c (take n rest)
      → HasTaken a c text (take (length rest - n) (drop n rest))
  takes_more c n more = record {
    front = so_far.front ++ take n rest;
    is = so_far.is ∙ ap (λ l. so_far.front ++ l) (sym (take-append-drop n rest))
        ∙ sym (append_assoc so_far.front (take n rest) (drop n rest))
        ∙ ap (λ l. (so_far.front ++ take n rest) ++ l) (sym (take_rest rest n));
    taken = appends_both a b c so_far.front (take n rest) so_far.taken more;
  }

  pub takes_none : (c : Option (List ℕ)) → Keeps b c → HasTaken a c text rest
  takes_none c keeps = record {
    front = so_far.front;
    is = so_far.is;
    taken = appends_kept a b c so_far.front so_far.taken keeps;
  }

-- ---- texts of a printer

appends_front : (a b c : Option (List ℕ)) (front text : List ℕ) → Appends a b front
    → GrowsByFront b c text → GrowsByFront a c (front ++ text)
appends_front a b c front text h more = (
  front ++ more.0,
  more.1,
  ap (λ l. front ++ l) more.2 ∙ sym (append_assoc front more.0 more.1),
  appends_both a b c front more.0 h more.3,
)

module _ {E : Type 0} (old new : PrinterState) (text : List ℕ) where
  -- what a failed write has left
  pub stops : (r : Result (Unit {0}) E) → IsErr r → StopsPrinting old new text
      → PrintsText old text r new
  stops (Ok done) h stopped = absurd (cc)
  stops (Err e) h stopped = stopped

  -- the clauses of a write in one
  pub writes : (r : Result (Unit {0}) E) → OnOk r (Appends old.contents new.contents text)
      → OnErr r (GrowsByFront old.contents new.contents text) → OnOk r (new.failed ≡ old.failed)
      → OnErr r (new.failed ≡ true) → PrintsText old text r new
  writes (Ok done) bytes front steady failed = (bytes, steady)
  writes (Err e) bytes front steady failed = (front, failed)

-- a text stops within its first part
pub stops_first : (old new : PrinterState) (front rest : List ℕ) → StopsPrinting old new front
    → StopsPrinting old new (front ++ rest)
stops_first old new front rest stopped = (
  (
    stopped.0.0,
    stopped.0.1 ++ rest,
    ap (λ l. l ++ rest) stopped.0.2 ∙ append_assoc stopped.0.0 stopped.0.1 rest,
    stopped.0.3,
  ),
  stopped.1,
)

module _ (old mid new : PrinterState) (front text : List ℕ) (first : IsPrinted old mid front) where
  -- or after that
  pub stops_then : StopsPrinting mid new text → StopsPrinting old new (front ++ text)
  stops_then stopped = (
    appends_front old.contents mid.contents new.contents front text first.0 stopped.0,
    stopped.1,
  )

  pub prints_then : {E : Type 0} (r : Result (Unit {0}) E) → PrintsText mid text r new
      → PrintsText old (front ++ text) r new
  prints_then (Ok done) more = (
    appends_both old.contents mid.contents new.contents front text first.0 more.0,
    more.1 ∙ first.1,
  )
  prints_then (Err e) stopped = stops_then stopped
