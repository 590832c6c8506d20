-- Lines that wait are released one after another.
use Rattle.std.proofs.Common.{◌≡◌, ℕ, suc, ◌+◌, ◌-◌, ◌<◌, ◌≤◌, List, [], ◌∷◌, ◌++◌, length, take}
use Rattle.std.proofs.Common.{drop, get_or, Ok, Err, refl, sym, ◌∙◌, ap, subst, arith}
use Rattle.std.specs.Prelude.{Bool, true, false, Result}
use Rattle.std.specs.Result.{is_err}
use Rattle.std.proofs.lemmas.List.{take_more, length-take-le}
use Rattle.std.proofs.Math.Seq.{split_at}
use Rattle.wasi_calls_rules.specs.WasiStates.{Line}
use Rattle.wasi_calls_rules.specs.declared.output_stream.OutputStream.{OutputStream}
use Rattle.record_replay.specs.declared.fault.OutletFault.{OutletFault}
use Rattle.record_replay.specs.rules.Calls.{Taking, Begun, Released, Releases, all_taken}
use Rattle.record_replay.proofs.Following.{leads_on, tells_on}
use Rattle.process.specs.rules.Values.{ProcessValue, waiting_in, lines_in}
use Rattle.record_replay.specs.rules.Waiting.{first_waiting, ReleasesSome}

-- a release that isn't a fault was taken, and the other one says nothing
taken_or_not : (said : Result (Unit {0}) OutletFault) (b : Bool) → b ≡ is_err said → b ≡ false
    → said ≡ Ok tt
taken_or_not (Ok done) b is no_fault = refl
taken_or_not (Err e) b is no_fault = absurd (cc)

refused_or_not : (said : Result (Unit {0}) OutletFault) (b : Bool) → b ≡ is_err said → b ≡ true
    → said ≡ Err (record {})
refused_or_not (Ok done) b is fault = absurd (cc)
refused_or_not (Err e) b is fault = refl

module _ {O : Type 0} (takes : Taking O) (v : ProcessValue) (o p q : O) (lines : List Line)
    (i count : ℕ) (stream : OutputStream) (text : List ℕ) (line : Line)
    (said : Result (Unit {0}) OutletFault) (b : Bool) (waiting : lines
    ≡ waiting_in v) (counted : count ≡ lines_in v) (within : i < length lines) (at : line
    ≡ get_or lines i line) (same_stream : stream ≡ line.stream) (same_text : text ≡ line.text)
    (told : Releases takes o (all_taken (first_waiting v) (take i (waiting_in v))) p)
    (is_told : takes p ((count - length lines) + i + 1)
    (record { stream = stream; text = text }) said q) (tells : b ≡ is_err said) where
  abbrev before : List Line
  before = take i (waiting_in v)

  here : i < length (waiting_in v)
  here = subst (λ z. i < length z) waiting within

  is_line : line ≡ get_or (waiting_in v) i line
  is_line = at ∙ ap (λ z. get_or z i line) waiting

  few : length before ≡ i
  few =
      let le : i ≤ length (waiting_in v) = (let below = here in omega arith) in
      length-take-le i (waiting_in v) le

  number : (count - length lines) + i + 1 ≡ first_waiting v + length before
  number =
      let size : length lines ≡ length (waiting_in v) = ap length waiting in
      let so_many = few in
      omega arith

  written : record { stream = stream; text = text } ≡ line
  written = ap (λ z. record { stream = z; text = text }) same_stream
      ∙ ap (λ z. record { stream = line.stream; text = z }) same_text

  told_now : takes p (first_waiting v + length before) line said q
  told_now =
      subst (λ z. takes p (first_waiting v + length before) z said q) written
      (subst (λ z. takes p z (record { stream = stream; text = text }) said q) number is_told)

  pub one_more : b ≡ false
      → Releases takes o (all_taken (first_waiting v) (take (i + 1) (waiting_in v))) q
  one_more no_fault =
      let is_taken : takes p (first_waiting v + length before) line (Ok tt) q =
      subst (λ z. takes p (first_waiting v + length before) line z q)
      (taken_or_not said b tells no_fault) told_now in
      let on = tells_on takes o p q (first_waiting v) before line told is_taken in
      let more : take (i + 1) (waiting_in v) ≡ before ++ (line ∷ []) =
      take_more (waiting_in v) i line here ∙ ap (λ z. before ++ (z ∷ [])) (sym is_line) in
      subst (λ z. Releases takes o (all_taken (first_waiting v) z) q) (sym more) on

  pub refused : b ≡ true → ReleasesSome takes v v o q
  refused fault =
      let begun : Begun = record {
        number = first_waiting v + length before;
        line = line;
        said = Err (record {});
      } in
      let is_refused : takes p (first_waiting v + length before) line (Err (record {})) q =
      subst (λ z. takes p (first_waiting v + length before) line z q)
      (refused_or_not said b tells fault) told_now in
      record {
        told = before;
        line = line;
        others = drop (suc i) (waiting_in v);
        waiting = split_at (waiting_in v) i line here
            ∙ ap (λ z. before ++ (z ∷ drop (suc i) (waiting_in v))) (sym is_line);
        refused = leads_on (Released takes) o q p (all_taken (first_waiting v) before) begun told
            is_refused;
        same = refl;
      }
