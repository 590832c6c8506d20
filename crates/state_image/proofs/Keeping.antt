-- What pushes keep that each push keeps.
use Rattle.std.proofs.Common.{◌≡◌, ℕ, List, [], ◌∷◌, ◌++◌, sym, ap, ◌∙◌, subst, append_assoc}
use Rattle.std.specs.Prelude.{Ok}
use Rattle.std.proofs.lemmas.List.{append-nil}
use Rattle.state_image.specs.rules.Sinks.{TakingPieces, joined, TakesPieces, Pushes, KeepsBytes}

-- a piece that is taken after these bytes keeps what holds of them and the sink
abbrev pub IsKept : {S F : Type 0} → TakingPieces S F → (List ℕ → S → Type 0) → Type 0
IsKept {S} takes P =
    (bytes : List ℕ) (s : S) (piece : List ℕ) (t : S) → P bytes s → takes s piece (Ok tt) t
    → P (bytes ++ piece) t

module _ {S F : Type 0} (takes : TakingPieces S F) (P : List ℕ → S → Type 0)
    (is_kept : IsKept takes P) where
  kept_on : (front : List ℕ) (a z : S) (pieces : List (List ℕ)) → P front a
      → TakesPieces takes a pieces z → P (front ++ joined pieces) z
  kept_on front a z [] holds same =
      subst (λ b. P b z) (sym (append-nil front)) (subst (λ s. P front s) (sym same) holds)
  kept_on front a z (piece ∷ pieces) holds all =
      subst (λ b. P b z) (append_assoc front piece (joined pieces))
      (kept_on (front ++ piece) all.0 z pieces (is_kept front a piece all.0 holds all.1) all.2)

  -- it holds of all bytes, once they were pushed
  pub pushes_keep : (a z : S) (bytes : List ℕ) → P [] a → Pushes takes a bytes (Ok tt) z
      → P bytes z
  pushes_keep a z bytes holds pushed =
      let all : TakesPieces takes a pushed.taken z =
      subst (λ s. TakesPieces takes a pushed.taken s) (sym pushed.stops.1) pushed.all in
      let is : bytes ≡ joined pushed.taken =
      pushed.is
      ∙ (ap (λ x. joined pushed.taken ++ x) pushed.stops.0 ∙ append-nil (joined pushed.taken)) in
      subst (λ b. P b z) (sym is) (kept_on [] a z pushed.taken holds all)

-- what a sink of bytes has, once all were pushed
pub kept : (F : Type 0) (old new bytes : List ℕ)
    → Pushes {F = F} (λ a piece said z. KeepsBytes a piece said z) old bytes (Ok tt) new
    → new ≡ old ++ bytes
kept F old new bytes pushed =
    pushes_keep {F = F} (λ a piece said z. KeepsBytes a piece said z) (λ b s. s ≡ old ++ b)
    (λ b s piece t is_now is_taken.
    is_taken ∙ (ap (λ x. x ++ piece) is_now ∙ append_assoc old b piece)) old new bytes
    (sym (append-nil old)) pushed
