-- Words that are read from bytes.
use Rattle.std.proofs.Common.{◌≡◌, ℕ, zero, suc, List, length, drop, refl, arith}
use Rattle.state_image.specs.laws.WordLists.{numbers_in}

pub length_numbers : (n : ℕ) (bytes : List ℕ) → length (numbers_in n bytes) ≡ n
length_numbers zero bytes = refl
length_numbers (suc n) bytes = let e = length_numbers n (drop 8 bytes) in omega (arith, e)
