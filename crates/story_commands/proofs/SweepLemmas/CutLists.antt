-- The cuts of a sweep, call by call.
use Rattle.std.proofs.Common.{◌≡◌, ℕ, ◌+◌, ◌<◌, List, [], ◌∷◌, ◌++◌, length, map, take, get_or}
use Rattle.std.proofs.Common.{sym, ap, ◌∙◌, refl, subst, add-one, length-append, arith, inl, inr}
use Rattle.std.proofs.Common.{Bool, false, Ok, Err, Result, true≢false}
use Rattle.std.specs.List.{All}
use Rattle.std.specs.Prelude.{IfOk, OnOk}
use Rattle.std.specs.Result.{is_err}
use Rattle.std.proofs.lemmas.List.{length-map, map_more}
use Rattle.std.proofs.lemmas.List.Elements.{All-append, All-nil, All-push}
use Rattle.sector_disk.specs.declared.fault_point.FaultPoint.{FaultPoint}
use Rattle.story_commands.specs.rules.Sweeps.{AreCutsOf, AreCutsTo, SomeCut, cut_point}
use Rattle.story_commands.specs.laws.CutRuns.{HasAgreed, HaveAgreed, IsSweptAt}
use Rattle.story_commands.specs.declared.sweeping.calling.CutProgress.{CutProgress}
use Rattle.story_commands.specs.declared.sweeping.cutting.Sweep.{Sweep}
use Rattle.story_commands.specs.declared.sweeping.fault.SweepFault.{SweepFault}

-- none yet
pub none_made : (Cuts : FaultPoint → Bool → Type 0) (fronts : List ℕ)
    → (places : List FaultPoint) × AreCutsTo Cuts 0 fronts places × (0 ≡ length places)
unfolding AreCutsTo
none_made Cuts fronts = ([], refl, refl)

-- those of one call more
call_more : (Cuts : FaultPoint → Bool → Type 0) (calls : ℕ) (fronts : List ℕ)
    (earlier these : List FaultPoint) → AreCutsTo Cuts calls fronts earlier
    → AreCutsOf Cuts (calls + 1) fronts these → AreCutsTo Cuts (calls + 1) fronts (earlier ++ these)
unfolding AreCutsTo
call_more Cuts calls fronts earlier these so_far made =
    subst (λ (n : ℕ). AreCutsTo Cuts n fronts (earlier ++ these)) (sym (add-one calls)) (
      earlier,
      these,
      refl,
      so_far,
      subst (λ (n : ℕ). AreCutsOf Cuts n fronts these) (add-one calls) made,
    )

-- one more of a call
pub one_cut_more : (P : FaultPoint → Type 0) (call : ℕ) (fronts : List ℕ) (i front : ℕ)
    → i < length fronts → front ≡ get_or fronts i 0
    → All P (map (cut_point call) (take i fronts)) → P (cut_point call front)
    → All P (map (cut_point call) (take (i + 1) fronts))
one_cut_more P call fronts i front within is so_far one =
    let whole : map (cut_point call) (take (i + 1) fronts)
    ≡ map (cut_point call) (take i fronts) ++ cut_point call front ∷ []
    = map_more (cut_point call) fronts i 0 within
    ∙ ap (λ (f : ℕ). map (cut_point call) (take i fronts) ++ cut_point call f ∷ []) (sym is) in
    subst (All P) (sym whole)
    (All-push P (map (cut_point call) (take i fronts)) (cut_point call front) so_far one)

-- and how many they are
pub one_call_more : (sweep : Sweep) (calls : ℕ) (fronts : List ℕ) (before cuts : ℕ)
    → HaveAgreed sweep calls fronts before → HasAgreed sweep (calls + 1) fronts before cuts
    → HaveAgreed sweep (calls + 1) fronts cuts
one_call_more sweep calls fronts before cuts (earlier, so_far, counted) (these, made, more) = (
  earlier ++ these,
  call_more (IsSweptAt sweep) calls fronts earlier these so_far made,
  more ∙ ap (λ n. n + length these) counted ∙ sym (length-append earlier these),
)

-- no fronts, and so no cuts
pub no_fronts : (sweep : Sweep) (call : ℕ) (fronts : List ℕ) (before : ℕ) → fronts ≡ []
    → HasAgreed sweep call fronts before before
no_fronts sweep call fronts before none =
    subst (λ (fs : List ℕ). HasAgreed sweep call fs before before) (sym none)
    ([], inl (refl, All-nil (SomeCut (IsSweptAt sweep))), omega arith)

-- the only cut of a call that is no write
pub one_cut : (sweep : Sweep) (call : ℕ) (fronts others : List ℕ) (first before cuts : ℕ)
    (in_write : Bool) → fronts ≡ first ∷ others → in_write ≡ false
    → IsSweptAt sweep (cut_point call first) in_write → cuts ≡ before + 1
    → HasAgreed sweep call fronts before cuts
one_cut sweep call fronts others first before cuts in_write whole elsewhere made counted =
    let place = cut_point call first in
    subst (λ (fs : List ℕ). HasAgreed sweep call fs before cuts) (sym whole) (
      place ∷ [],
      inr (
        refl,
        All-push (λ p. IsSweptAt sweep p false) [] place
            (All-nil (λ p. IsSweptAt sweep p false))
            (subst (λ (b : Bool). IsSweptAt sweep place b) elsewhere made),
      ),
      counted,
    )

-- the cuts of a write
pub all_cuts : (sweep : Sweep) (call : ℕ) (fronts others : List ℕ) (first before mid : ℕ)
    (in_write : Bool) (result : Result CutProgress SweepFault) → fronts ≡ first ∷ others
    → IsSweptAt sweep (cut_point call first) in_write → mid ≡ before + 1
    → IfOk result (λ now. All (SomeCut (IsSweptAt sweep)) (map (cut_point call) others)
    × (now.cuts ≡ mid + length others))
    → IfOk result (λ now. HasAgreed sweep call fronts before now.cuts)
all_cuts sweep call fronts others first before mid in_write (Ok now) whole made counted rest =
    let place = cut_point call first in
    let P = SomeCut (IsSweptAt sweep) in
    subst (λ (fs : List ℕ). HasAgreed sweep call fs before now.cuts) (sym whole) (
      place ∷ map (cut_point call) others,
      inl (
        refl,
        All-append P (place ∷ []) (map (cut_point call) others)
            (All-push P [] place (All-nil P) (in_write, made)) rest.0,
      ),
      omega (arith, counted, rest.1, length-map others (cut_point call)),
    )
all_cuts sweep call fronts others first before mid in_write (Err why) whole made counted rest = tt

-- what a call that hasn't failed ensures
pub at_ok : {A E P : Type 0} (r : Result A E) (b : Bool) → b ≡ is_err r → b ≡ false → OnOk r P → P
at_ok (Ok x) b is off h = h
at_ok (Err y) b is off h = absurd (true≢false (sym is ∙ off))
