-- Lines of requests that nobody took, counted one by one.
use Rattle.std.proofs.Common.{◌≡◌, ℕ, suc, ◌+◌, ◌≤◌, ◌<◌, List, [], ◌∷◌, length, refl, sym, ap, ◌∙◌}
use Rattle.std.proofs.Common.{subst, inl, arith}
use Rattle.command_words.specs.rules.Later.{CountsLater, IsLaterLine}
use Rattle.command_words.specs.rules.Pieces.{lines_of}

-- Of the text's lines so many were counted in front of the rest, however many are in it.
pub record HasCounted (limit taken : ℕ) (text : List ℕ) (count : ℕ) (rest : List ℕ) : Type 0 where
  pub within : count + length rest ≤ length text
  pub counts : (more : ℕ) → CountsLater limit taken (lines_of rest) more
      → CountsLater limit taken (lines_of text) (count + more)

module _ (limit taken : ℕ) (text : List ℕ) (count : ℕ) (rest line behind : List ℕ)
    (so_far : HasCounted limit taken text count rest) (cut : lines_of rest ≡ line ∷ lines_of behind)
    (shorter : length behind < length rest) where
  pub counted_later : IsLaterLine limit taken line → HasCounted limit taken text (count + 1) behind
  counted_later later = record {
    within = (let room = so_far.within in omega (arith, room, shorter));
    counts = λ more h.
        let one : CountsLater limit taken (line ∷ lines_of behind) (suc more) =
        inl (more, refl, later, h) in
        let all = so_far.counts (suc more)
        (subst (λ l. CountsLater limit taken l (suc more)) (sym cut) one) in
        subst (λ n. CountsLater limit taken (lines_of text) n) (omega arith) all;
  }

no_lines : lines_of [] ≡ []
unfolding lines_of
no_lines = refl

-- nothing is left
pub all_counted : (limit taken : ℕ) (text : List ℕ) (count : ℕ) (rest : List ℕ)
    → HasCounted limit taken text count rest → rest ≡ []
    → CountsLater limit taken (lines_of text) count
all_counted limit taken text count rest so_far empty =
    let none : lines_of rest ≡ [] = ap lines_of empty ∙ no_lines in
    let last = so_far.counts 0 (subst (λ l. CountsLater limit taken l 0) (sym none) refl) in
    subst (λ n. CountsLater limit taken (lines_of text) n) (omega arith) last
