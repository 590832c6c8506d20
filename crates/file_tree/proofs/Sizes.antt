-- Bytes of a file that is written or cut.
use Rattle.std.proofs.Common.{◌≡◌, ℕ, zero, suc, ◌+◌, ◌<◌, ◌≤◌, max, false, List, [], ◌∷◌, ◌++◌}
use Rattle.std.proofs.Common.{length, take, drop, get_or, refl, arith, length-append, length-take}
use Rattle.std.proofs.Common.{length-drop}
use Rattle.std.specs.Prelude.{replicate}
use Rattle.std.specs.List.{AllByRecursion}
use Rattle.std.proofs.lemmas.List.{length-replicate}
use Rattle.file_tree.specs.declared.store.node.NodeContent as store
use Rattle.file_tree.specs.declared.store.node.NodeContent.TheVariants as content
use Rattle.file_tree.specs.Store.Changes.{content_written, content_resized}
use Rattle.file_tree.specs.rules.Bytes.{written, resized}
use Rattle.file_tree.specs.rules.Files.{Content, Directory, File, bytes_of_content}
use Rattle.file_tree.specs.rules.Files.{is_directory_content, IsSmallContent}
use Rattle.file_tree.specs.declared.limits.TheConstants.{FILE_BYTES}
use Rattle.file_tree.specs.Links.{content_shown}

abbrev pub AreBytes : List ℕ → Type 0
AreBytes bytes = AllByRecursion (λ b. b < 256) bytes

pub all_bytes : (xs : List ℕ) → ((k : ℕ) → get_or xs k 0 < 256) → AreBytes xs
all_bytes [] h = tt
all_bytes (x ∷ xs) h = (h 0, all_bytes xs (λ k. h (suc k)))

all_append : (xs ys : List ℕ) → AreBytes xs → AreBytes ys → AreBytes (xs ++ ys)
all_append [] ys h k = k
all_append (x ∷ xs) ys h k = (h.0, all_append xs ys h.1 k)

all_take : (n : ℕ) (xs : List ℕ) → AreBytes xs → AreBytes (take n xs)
all_take zero xs h = tt
all_take (suc n) [] h = tt
all_take (suc n) (x ∷ xs) h = (h.0, all_take n xs h.1)

all_drop : (n : ℕ) (xs : List ℕ) → AreBytes xs → AreBytes (drop n xs)
all_drop zero xs h = h
all_drop (suc n) [] h = tt
all_drop (suc n) (x ∷ xs) h = all_drop n xs h.1

all_zeros : (n : ℕ) → AreBytes (replicate n 0)
all_zeros zero = tt
all_zeros (suc n) = (omega arith, all_zeros n)

pub length-zeros : (n : ℕ) → length (replicate {A = ℕ} n 0) ≡ n
length-zeros n = length-replicate n 0

pub length-written : (old : List ℕ) (from : ℕ) (bytes : List ℕ)
    → length (written old from bytes) ≡ max (length old) (from + length bytes)
length-written old from bytes =
    let front = take from (old ++ replicate from 0) in
    let back = drop (from + length bytes) old in
    omega (
      arith,
      length-append front (bytes ++ back),
      length-append bytes back,
      length-take from (old ++ replicate from 0),
      length-append old (replicate from 0),
      length-zeros from,
      length-drop (from + length bytes) old,
    )

pub length-resized : (old : List ℕ) (size : ℕ) → length (resized old size) ≡ size
length-resized old size =
    omega (
      arith,
      length-take size (old ++ replicate size 0),
      length-append old (replicate size 0),
      length-zeros size,
    )

pub small_written : (old : List ℕ) (from : ℕ) (bytes : List ℕ) → IsSmallContent (File old)
    → AreBytes bytes → from + length bytes ≤ FILE_BYTES
    → IsSmallContent (File (written old from bytes))
small_written old from bytes small b fits = (
  omega (arith, length-written old from bytes, small.0, fits),
  all_append (take from (old ++ replicate from 0)) (bytes
      ++ drop (from + length bytes) old) (all_take from (old
      ++ replicate from 0) (all_append old (replicate from 0) small.1 (all_zeros from)))
      (all_append bytes (drop (from + length bytes) old) b
      (all_drop (from + length bytes) old small.1)),
)

pub small_resized : (old : List ℕ) (size : ℕ) → IsSmallContent (File old) → size ≤ FILE_BYTES
    → IsSmallContent (File (resized old size))
small_resized old size small fits = (
  omega (arith, length-resized old size, fits),
  all_take size (old
      ++ replicate size 0) (all_append old (replicate size 0) small.1 (all_zeros size)),
)

-- what a file shows after a change
pub file_is : (c : Content) → is_directory_content c ≡ false → c ≡ File (bytes_of_content c)
file_is Directory e = absurd cc
file_is (File bytes) e = refl

pub shown_written : (from : ℕ) (bytes : List ℕ) (c : store.NodeContent)
    → is_directory_content (content_shown c) ≡ false
    → content_shown (content_written from bytes c)
    ≡ File (written (bytes_of_content (content_shown c)) from bytes)
shown_written from bytes content.Directory e = absurd cc
shown_written from bytes (content.File old) e = refl

pub shown_resized : (size : ℕ) (c : store.NodeContent)
    → is_directory_content (content_shown c) ≡ false
    → content_shown (content_resized size c)
    ≡ File (resized (bytes_of_content (content_shown c)) size)
shown_resized size content.Directory e = absurd cc
shown_resized size (content.File old) e = refl
