-- How many lines there are.
use Rattle.std.proofs.Common.{◌≡◌, ◌≢◌, ℕ, ◌+◌, ◌<◌, ◌≤◌, List, [], ◌∷◌, ◌++◌, length, refl, ap}
use Rattle.std.proofs.Common.{◌∙◌, arith, length-append, append-nil}
use Rattle.std.specs.Prelude.{ltb, ◌==◌, true, false}
use Rattle.std.proofs.lemmas.Bool.{ltb-true, eqb-true}
use Rattle.std.proofs.lemmas.Bool.Decides.{nat_tests}
use Rattle.wasi_calls_rules.specs.WasiStates.{Line, WasiState}
use Rattle.wasi_calls_rules.specs.Lines.{lines_ended}
use Rattle.wasi_calls_rules.specs.laws.Laws.{Emits}
use Rattle.wasi_calls.specs.rules.Held.{HeldWasiState, ShowsWasiState, behind_lines}
use Rattle.wasi_calls.proofs.Emitted.{in_front}
use Rattle.process_rules.specs.Processes.{HasLineNumbers}
use Rattle.process.specs.Parts.{HasFewLines}

pub lines_shown : (held : HeldWasiState) (h : WasiState) → ShowsWasiState held h
    → length h.lines ≡ held.released + length held.host.lines
lines_shown held h s =
    let lines : length h.lines ≡ length (s.before ++ held.host.lines) =
    ap (λ (g : WasiState). length g.lines) s.is in
    let count : length s.before ≡ held.released = s.count in
    omega (arith, lines, count, length-append s.before held.host.lines)

-- unfinished ones counted
pub all_shown : (held : HeldWasiState) (h : WasiState) → ShowsWasiState held h
    → length (lines_ended h).lines ≡ held.released + length (lines_ended held.host).lines
all_shown held h s =
    let lines : length (lines_ended h).lines ≡ length
    (lines_ended (behind_lines s.before held.host)).lines =
    ap (λ (g : WasiState). length (lines_ended g).lines) s.is in
    let count : length s.before ≡ held.released = s.count in
    omega (arith, lines, count, in_front s.before held.host)

pub few_shown : (held : HeldWasiState) (h : WasiState) → ShowsWasiState held h → HasLineNumbers h
    → HasFewLines held
few_shown held h s few = omega (arith, all_shown held h s, few)

-- where as many lines were released, and none waits before or after, the lines are the same
no_more : (a b : List Line) → length (a ++ b) ≡ length a → b ≡ []
no_more a [] e = refl
no_more a (x ∷ b) e = absurd (omega (arith, e, length-append a (x ∷ b)))

pub same_lines : (old new : HeldWasiState) (g h : WasiState) → ShowsWasiState old g
    → ShowsWasiState new h → new.released ≡ old.released → old.host.lines ≡ [] → new.host.lines
    ≡ [] → Emits g h → h.lines ≡ g.lines
same_lines old new g h s t released before after emits =
    let x = lines_shown old g s in
    let y = lines_shown new h t in
    let none_before : length old.host.lines ≡ 0 = ap (λ (ls : List Line). length ls) before in
    let none_after : length new.host.lines ≡ 0 = ap (λ (ls : List Line). length ls) after in
    let grown : length h.lines ≡ length (g.lines ++ emits.lines) =
    ap (λ (ls : List Line). length ls) emits.are in
    let more : emits.lines ≡ [] = no_more g.lines emits.lines (omega arith) in
    emits.are ∙ (rw more (append-nil g.lines))

-- where one waits after, they are not
pub other_lines : (old new : HeldWasiState) (g h : WasiState) (line : Line) (rest : List Line)
    → ShowsWasiState old g → ShowsWasiState new h → new.released ≡ old.released
    → old.host.lines ≡ [] → new.host.lines ≡ line ∷ rest → h.lines ≢ g.lines
other_lines old new g h line rest s t released before after same =
    let x = lines_shown old g s in
    let y = lines_shown new h t in
    let none_before : length old.host.lines ≡ 0 = ap (λ (ls : List Line). length ls) before in
    let some_after : length new.host.lines ≡ length (line ∷ rest) =
    ap (λ (ls : List Line). length ls) after in
    let counts : length h.lines ≡ length g.lines = ap (λ (ls : List Line). length ls) same in
    omega arith

-- ---- tests

pub less_when : (a b : ℕ) → ltb a b ≡ true → a < b
less_when a b e = ltb-true a b e

pub more_when : (a b : ℕ) → ltb a b ≡ false → b ≤ a
more_when a b e = grind (arith, nat_tests)

pub below_when : (a b : ℕ) → a ≤ b → a ≢ b → a < b
below_when a b within apart = grind arith

pub empty_when : (lines : List Line) → (length lines == 0) ≡ true → lines ≡ []
empty_when [] e = refl
empty_when (line ∷ lines) e =
    let none : length (line ∷ lines) ≡ 0 = eqb-true (length (line ∷ lines)) 0 e in
    absurd (omega (arith, none))
