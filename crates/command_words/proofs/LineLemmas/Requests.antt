-- A request line: digits, a space, and what is said after it.
use Rattle.std.proofs.Common.{◌≡◌, ◌≢◌, sym, ap, ◌∙◌, subst, ◌<◌, ◌≤◌, ◌^◌, ℕ, List, ◌∷◌, ◌++◌, ◌+◌}
use Rattle.std.proofs.Common.{◌-◌, length, slice_index, codes, arith}
use Rattle.std.specs.Fmt.{decimal}
use Rattle.std.proofs.Math.ListN.{take, drop, get_or-append}
use Rattle.std.proofs.Math.Seq.{take-append_seam, drop-append-add, get_or-append_seam}
use Rattle.std.proofs.lemmas.Fmt.{decimal_is_IsNumeral}
use Rattle.std.proofs.lemmas.List.{append_assoc, length-append, take_all}
use Rattle.std.proofs.lemmas.Str.Parse.{digit_at}
use Rattle.command_words.specs.rules.Texts.{IsRequestLine}
use Rattle.command_words.specs.declared.lines.request.Request.TheVariants as request

-- no digit is a space
pub digits_alone : (n : ℕ) → n < 2 ^ 64 → (k : ℕ) → k < length (decimal n)
    → slice_index (decimal n) k ≢ 32
digits_alone n small k inside is =
    let bounds = digit_at (decimal n) k (decimal_is_IsNumeral n small).0.1 inside
    in omega (arith, is, bounds)

no_space : (n : ℕ) → n < 2 ^ 63 → (k : ℕ) → k < length (decimal n) → slice_index (decimal n) k ≢ 32
no_space n small = digits_alone n (omega (arith, small))

module _ (line front back : List ℕ) (is : line ≡ front ++ 32 ∷ back) where
  pub seam_inside : length front < length line
  seam_inside = let long = ap length is ∙ length-append front (32 ∷ back) in omega (arith, long)

  pub seam_is_space : slice_index line (length front) ≡ 32
  seam_is_space = ap (λ l. slice_index l (length front)) is ∙ get_or-append_seam front 32 back 0

  module _ (none : (k : ℕ) → k < length front
      → slice_index front k ≢ 32) (i : ℕ) (there : slice_index line i ≡ 32) (first : (k : ℕ) → k < i
      → slice_index line k ≢ 32) where
    before : i < length front → ⊥
    before less =
        none i less (sym (ap (λ l. slice_index l i) is ∙ get_or-append front (32 ∷ back) 0 i less)
        ∙ there)

    behind : length front < i → ⊥
    behind less = first (length front) less seam_is_space

    seam : i ≡ length front
    seam = omega (arith, before, behind)

    pub first_parts : (take i line ≡ front)
        × (take (length line - (i + 1)) (drop (i + 1) line) ≡ back)
    first_parts =
        subst (λ j. (take j line ≡ front)
        × (take (length line - (j + 1)) (drop (j + 1) line) ≡ back)) (sym seam) (digits, said)
      where
        digits : take (length front) line ≡ front
        digits = ap (take (length front)) is ∙ take-append_seam front (32 ∷ back)

        rest : drop (length front + 1) line ≡ back
        rest = ap (drop (length front + 1)) is ∙ drop-append-add front (32 ∷ back) 1

        said : take (length line - (length front + 1)) (drop (length front + 1) line) ≡ back
        said = ap (take (length line - (length front + 1))) rest
            ∙ take_all _ back (let long = ap length is ∙ length-append front (32 ∷ back) in
            omega (arith, long))

-- what is said after the number: a text of so many bytes at most, or the end
pub data IsSaid (limit : ℕ) : List ℕ → Type 0 where
  of_text : (bytes : List ℕ) → length bytes ≤ limit → IsSaid limit (codes "r " ++ bytes)
  of_end : IsSaid limit (codes "e")

pub is_read : {limit : ℕ} {said back : List ℕ} {P : Type 0} → IsSaid limit back → said ≡ back
    → ((bytes : List ℕ) → said ≡ codes "r " ++ bytes → length bytes ≤ limit → P)
    → (said ≡ codes "e" → P) → P
is_read (of_text bytes short) is text end = text bytes is short
is_read of_end is text end = end is

pub record HasParts (limit : ℕ) (line : List ℕ) : Type 0 where
  pub number : ℕ
  pub positive : 1 ≤ number
  pub small : number < 2 ^ 63
  pub back : List ℕ
  pub said : IsSaid limit back
  pub whole : line ≡ decimal number ++ 32 ∷ back
  pub no_space : (k : ℕ) → k < length (decimal number) → slice_index (decimal number) k ≢ 32

pub has_parts : (limit : ℕ) (line : List ℕ) → IsRequestLine limit line → HasParts limit line
has_parts limit line (request.Text number bytes, numbered, short, is) =
    record {
      number = number;
      positive = numbered.0;
      small = numbered.1;
      back = codes "r " ++ bytes.now;
      said = of_text bytes.now short;
      whole = is ∙ append_assoc (decimal number) (codes " r ") bytes.now;
      no_space = no_space number numbered.1;
    }
has_parts limit line (request.End number, numbered, short, is) =
    record {
      number = number;
      positive = numbered.0;
      small = numbered.1;
      back = codes "e";
      said = of_end;
      whole = is;
      no_space = no_space number numbered.1;
    }
