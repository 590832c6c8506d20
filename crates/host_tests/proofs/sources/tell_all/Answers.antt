use Rattle.std.proofs.Common.{◌≡◌, ◌∙◌, ℕ, ◌+◌, ◌<◌, ◌≤◌, List, [], ◌∷◌, ◌++◌, length, map, take}
use Rattle.std.proofs.Common.{get_or, Ok, refl, sym, ap, subst, arith}
use Rattle.std.proofs.lemmas.List.{take_more, map-append, length-take-le, length-map, take_all}
use Rattle.record_replay.specs.rules.Calls.{Taking, Releases, all_taken}
use Rattle.host_tests.proofs.sources.tell_all.Invariants.{on_stdout}
use Rattle.record_replay.proofs.Following.{tells_on}
use Rattle.host_tests.proofs.sources.tell_all.Goals as goal

-- the text at i was told with the number i + 1
one_more : {O : Type 0} (takes : Taking O) (o p q : O) (texts : List (List ℕ)) (i : ℕ)
    (x y : List ℕ) → i < length texts → x ≡ get_or texts i x → y ≡ x
    → Releases takes o (all_taken 1 (map on_stdout (take i texts))) p
    → takes p (i + 1) (on_stdout y) (Ok tt) q
    → Releases takes o (all_taken 1 (map on_stdout (take (i + 1) texts))) q
one_more takes o p q texts i x y within at same told is_taken =
    let text : List ℕ = get_or texts i x in
    let le : i ≤ length texts = omega arith in
    let few : length (map on_stdout (take i texts)) ≡ i = length-map (take i texts) on_stdout
    ∙ length-take-le i texts le in
    let number : i + 1 ≡ 1 + length (map on_stdout (take i texts)) = omega (arith, few) in
    let more : map on_stdout (take (i + 1) texts) ≡ map on_stdout (take i texts)
    ++ on_stdout text ∷ [] =
    ap (map on_stdout) (take_more texts i x within)
    ∙ map-append on_stdout (take i texts) (text ∷ []) in
    let is_this : takes p (i + 1) (on_stdout text) (Ok tt) q =
    subst (λ z. takes p (i + 1) (on_stdout z) (Ok tt) q) (same ∙ at) is_taken in
    let is_next : takes p (1 + length (map on_stdout (take i texts))) (on_stdout text)
    (Ok tt) q = subst (λ n. takes p n (on_stdout text) (Ok tt) q) number is_this in
    subst (λ z. Releases takes o (all_taken 1 z) q) (sym more)
    (tells_on takes o p q 1 (map on_stdout (take i texts)) (on_stdout text) told is_next)

pub loop-i-init : goal.loop-i-init
loop-i-init g c = refl

pub loop-i-preserved : goal.loop-i-preserved
loop-i-preserved g c =
    one_more g.O.Outlet.takes _ _ _ c.args.texts.now c.loop-i.i c.index-texts-i.result
    c.as_slice.result.now c.loop-i-test.true c.index-texts-i.is c.as_slice.ensures
    c.loop-i.invariant c.in_ok-release.ensures

pub returns : goal.returns
returns g c =
    subst (λ z. Releases g.O.Outlet.takes c.args.outlet.now
    (all_taken 1 (map on_stdout z)) c.loop-i.outlet)
    (take_all c.loop-i.i c.args.texts.now c.loop-i-test.false)
    c.loop-i.invariant
