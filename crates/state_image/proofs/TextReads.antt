-- Texts, memory and words, read after their length.
use Rattle.std.proofs.Common.{◌≡◌, ℕ, zero, suc, ◌*◌, ◌/◌, ◌<◌, Bool, true, false, List, []}
use Rattle.std.proofs.Common.{◌∷◌, ◌++◌, length, take, drop, refl, sym, ap, subst, ◌∙◌}
use Rattle.std.proofs.Common.{◌^◌, length-append, arith}
use Rattle.std.proofs.Math.Nat.{pow-suc}
use Rattle.std.specs.Prelude.{Option, Some, None}
use Rattle.std.specs.List.{AllByRecursion, flat_map}
use Rattle.std.proofs.lemmas.List.{take-append-drop, length-take-le, length-drop}
use Rattle.guest_memory.specs.rules.Bytes.{IsByte, number_of, bytes_of, page_size}
use Rattle.guest_memory.proofs.ByteLemmas.{bytes_of-number_of}
use Rattle.wasi_abi.specs.rules.Layouts.{u32_bytes, u64_bytes}
use Rattle.state_image.specs.rules.ProcessImage.{flag_of, memory_bytes, items_bytes}
use Rattle.state_image.specs.rules.Ranges.{IsIn, AreWords, IsWhole}
use Rattle.state_image.specs.rules.Reading.{HasField, LacksField, ReadsField}
use Rattle.state_image.specs.laws.WordLists.{numbers_in}
use Rattle.state_image.proofs.Fields.{byte_field, number_field}
use Rattle.state_image.proofs.ReadLemmas.{in_two, is_that, none_behind}
use Rattle.state_image.proofs.WordLemmas.{length_numbers}

-- ---- flags

-- a byte that is no flag
pub no_flag : (b : ℕ) {old new : List ℕ} → HasField (λ (b : ℕ). b ∷ []) (IsIn 1) b old new
    → (b ≡ 0 → ⊥) → (b ≡ 1 → ⊥) → LacksField (λ flag. flag_of flag ∷ []) (λ flag. Unit {0}) old new
no_flag b {old} {new} has zero_not one_not = record { none = told; passed = b ∷ []; is = has.is }
  where
    told : (flag : Bool) (rest : List ℕ) → Unit {0} → old ≡ flag_of flag ∷ rest → ⊥
    told true rest u e = one_not (is_that byte_field has 1 rest (omega arith) e).0
    told false rest u e = zero_not (is_that byte_field has 0 rest (omega arith) e).0

-- ---- texts

-- a length, and then so many bytes or none
pub counted_text : (n l : ℕ) (old mid new : List ℕ) (o : Option (List ℕ))
    → HasField (bytes_of n) (IsIn n) l old mid
    → ReadsField (λ b. b) (λ b. length b ≡ l) o mid new
    → ReadsField (λ text. bytes_of n (length text) ++ text) (λ text. IsIn n (length text)) o old new
counted_text n l old mid new (Some b) has here = record {
  in_range = subst (IsIn n) (sym here.in_range) has.in_range;
  is = in_two (bytes_of n (length b)) b old mid new
      (has.is ∙ ap (λ k. bytes_of n k ++ mid) (sym here.in_range)) here.is;
}
counted_text n l old mid new None has lacks =
    none_behind (number_field n) length (λ text. text) (λ text h. h) has
    (λ text rest h same e. lacks.none text rest same e) lacks.passed lacks.is

-- ---- memory

pages_of : (p n : ℕ) → n ≡ p * page_size → n / page_size ≡ p
pages_of p n e = omega (arith, e)

-- how many pages, and then their bytes or none
pub counted_pages : (p : ℕ) (old mid new : List ℕ) (o : Option (List ℕ))
    → HasField u32_bytes (IsIn 4) p old mid
    → ReadsField (λ b. b) (λ b. length b ≡ p * page_size) o mid new
    → ReadsField memory_bytes IsWhole o old new
counted_pages p old mid new (Some b) has here = record {
  in_range = record { pages = p; whole = here.in_range; few = has.in_range };
  is = in_two (u32_bytes (length b / page_size)) b old mid new
      (has.is ∙ ap (λ k. u32_bytes k ++ mid) (sym (pages_of p (length b) here.in_range))) here.is;
}
counted_pages p old mid new None has lacks =
    none_behind (number_field 4) (λ memory. length memory / page_size) (λ memory. memory)
    (λ memory h. subst (IsIn 4) (sym (pages_of h.pages (length memory) h.whole)) h.few) has
    (λ memory rest h same e. lacks.none memory rest (h.whole ∙ ap (λ k. k * page_size)
    (sym (pages_of h.pages (length memory) h.whole) ∙ same)) e) lacks.passed lacks.is

-- ---- words

length_words : (ws : List ℕ) → length (flat_map u64_bytes ws) ≡ 8 * length ws
length_words [] = refl
length_words (w ∷ ws) =
    let e = length_words ws in
    length-append (u64_bytes w) (flat_map u64_bytes ws) ∙ omega (arith, e)

front_bytes : (n : ℕ) (b : List ℕ) → AllByRecursion IsByte b → AllByRecursion IsByte (take n b)
front_bytes zero b h = tt
front_bytes (suc n) [] h = tt
front_bytes (suc n) (x ∷ b) h = (h.0, front_bytes n b h.1)

back_bytes : (n : ℕ) (b : List ℕ) → AllByRecursion IsByte b → AllByRecursion IsByte (drop n b)
back_bytes zero b h = h
back_bytes (suc n) [] h = tt
back_bytes (suc n) (x ∷ b) h = back_bytes n b h.1

-- bytes are those of the words that they spell
pub spelled_words : (n : ℕ) (b : List ℕ) → length b ≡ 8 * n → AllByRecursion IsByte b
    → flat_map u64_bytes (numbers_in n b) ≡ b
spelled_words zero [] l h = refl
spelled_words zero (x ∷ b) l h = absurd (omega (arith, l))
spelled_words (suc n) b l h =
    let eight : length (take 8 b) ≡ 8 = length-take-le 8 b (omega (arith, l)) in
    let behind : length (drop 8 b) ≡ 8 * n = omega (arith, l, length-drop 8 b) in
    let first : u64_bytes (number_of (take 8 b)) ≡ take 8 b =
    ap (λ k. bytes_of k (number_of (take 8 b))) (sym eight)
    ∙ bytes_of-number_of (take 8 b) (front_bytes 8 b h) in
    ap (λ xs. xs ++ flat_map u64_bytes (numbers_in n (drop 8 b))) first
    ∙ ap (λ xs. take 8 b ++ xs) (spelled_words n (drop 8 b) behind (back_bytes 8 b h))
    ∙ take-append-drop 8 b

word_small : (b : List ℕ) → AllByRecursion IsByte b → number_of b < 256 ^ length b
word_small [] h = omega arith
word_small (x ∷ b) h =
    let e = word_small b h.1 in let small : x < 256 = h.0 in
    rw (pow-suc 256 (length b)) (omega arith)

all_small : (n : ℕ) (b : List ℕ) → length b ≡ 8 * n → AllByRecursion IsByte b
    → AllByRecursion (IsIn 8) (numbers_in n b)
all_small zero b l h = tt
all_small (suc n) b l h =
    let eight : length (take 8 b) ≡ 8 = length-take-le 8 b (omega (arith, l)) in
    let behind : length (drop 8 b) ≡ 8 * n = omega (arith, l, length-drop 8 b) in (
      subst (λ k. number_of (take 8 b) < 256 ^ k) eight (word_small (take 8 b) (front_bytes 8 b h)),
      all_small n (drop 8 b) behind (back_bytes 8 b h),
    )

pub are_words : (n : ℕ) (b : List ℕ) → IsIn 4 n → length b ≡ 8 * n → AllByRecursion IsByte b
    → AreWords (numbers_in n b)
are_words n b few l h = record {
  few = subst (IsIn 4) (sym (length_numbers n b)) few;
  each = all_small n b l h;
}

-- their number, and then their bytes
pub counted_words : (n : ℕ) (b ws : List ℕ) {old mid new : List ℕ}
    → HasField u32_bytes (IsIn 4) n old mid
    → HasField (λ (b : List ℕ). b) (λ b. length b ≡ 8 * n) b mid new
    → flat_map u64_bytes ws ≡ b → AreWords ws → HasField (items_bytes u64_bytes) AreWords ws old new
counted_words n b ws {old} {mid} {new} has here spelled few =
    let count : 8 * length ws ≡ 8 * n = sym (length_words ws) ∙ ap length spelled ∙ here.in_range in
    let same : n ≡ length ws = omega (arith, count) in
    record {
      in_range = few;
      is = in_two (u32_bytes (length ws)) (flat_map u64_bytes ws) old mid new
          (has.is ∙ ap (λ k. u32_bytes k ++ mid) same)
          (here.is ∙ ap (λ xs. xs ++ new) (sym spelled));
    }

-- their number, and then too few bytes
pub no_words : (n : ℕ) {old mid new : List ℕ} → HasField u32_bytes (IsIn 4) n old mid
    → LacksField (λ b. b) (λ b. length b ≡ 8 * n) mid new
    → LacksField (items_bytes u64_bytes) AreWords old new
no_words n has lacks =
    none_behind (number_field 4) length (flat_map u64_bytes) (λ ws h. h.few) has
    (λ ws rest h same e. lacks.none (flat_map u64_bytes ws) rest
    (length_words ws ∙ ap (λ k. 8 * k) same) e) lacks.passed lacks.is
