-- Nodes by rising numbers.
use Rattle.std.proofs.Common.{◌≡◌, ◌≢◌, ℕ, zero, suc, ◌<◌, ◌≤◌, List, [], ◌∷◌, length, get_or}
use Rattle.std.proofs.Common.{arith}
use Rattle.std.specs.List.{AllByRecursion}
use Rattle.file_tree.specs.declared.store.node.Node.{Node}
use Rattle.file_tree.specs.Store.Stored.{changed}
use Rattle.file_tree.specs.Store.Cuts.{AreOrdered, IsCut}
use Rattle.file_tree.specs.Store.Kept.{IsLower, HasLower, HasNoLower}
use Rattle.file_tree.specs.Links.{IsPlace, IsNowhere}

-- a change that keeps numbers
module _ (f : Node → Node) (keeps : (n : Node) → (f n).number ≡ n.number) where
  all_lower : (m : Node) (ns : List Node) (i : ℕ)
      → AllByRecursion (IsLower m) ns → AllByRecursion (IsLower m) (changed f i ns)
  all_lower m [] i h = tt
  all_lower m (n ∷ ns) zero h = (omega (arith, h.0, keeps n), h.1)
  all_lower m (n ∷ ns) (suc i) h = (h.0, all_lower m ns i h.1)

  lower_so : (n : Node) (ns : List Node)
      → AllByRecursion (IsLower n) ns → AllByRecursion (IsLower (f n)) ns
  lower_so n [] h = tt
  lower_so n (m ∷ ns) h = (omega (arith, h.0, keeps n), lower_so n ns h.1)

  pub ordered_changed : (ns : List Node) (i : ℕ)
      → AreOrdered IsLower ns → AreOrdered IsLower (changed f i ns)
  ordered_changed [] i h = tt
  ordered_changed (n ∷ ns) zero h = (lower_so n ns h.0, h.1)
  ordered_changed (n ∷ ns) (suc i) h = (all_lower n ns i h.0, ordered_changed ns i h.1)

-- ---- a search by number

pub lower_down : (k : ℕ) (n m : Node) → IsLower n m → HasLower k m → HasLower k n
lower_down k n m b h = omega (arith, b, h)

pub not_lower_up : (k : ℕ) (n m : Node) → IsLower n m → HasNoLower k n → HasNoLower k m
not_lower_up k n m b h = omega (arith, b, h)

pub place_at_cut : (k : ℕ) (ns : List Node) (i : ℕ) (d : Node) → i < length ns
    → IsCut (HasLower k) (HasNoLower k) ns i → (get_or ns i d).number ≡ k → IsPlace ns k i
place_at_cut k [] i d lt cut e = absurd (omega arith)
place_at_cut k (n ∷ ns) zero d lt cut e = e
place_at_cut k (n ∷ ns) (suc i) d lt cut e =
    ((λ s. absurd (omega (arith, s, cut.0))), place_at_cut k ns i d (omega arith) cut.1 e)

all_other : (k : ℕ) (ns : List Node) → AllByRecursion (λ (n : Node). k < n.number) ns
    → IsNowhere ns k
all_other k [] h = tt
all_other k (n ∷ ns) h = ((λ s. absurd (omega (arith, s, h.0))), all_other k ns h.1)

above : (k : ℕ) (n : Node) (ns : List Node) → k ≤ n.number
    → AllByRecursion (IsLower n) ns → AllByRecursion (λ (m : Node). k < m.number) ns
above k n [] le h = tt
above k n (m ∷ ns) le h = (omega (arith, le, h.0), above k n ns le h.1)

-- the node at the cut has another number
pub nowhere_at_cut : (k : ℕ) (ns : List Node) (i : ℕ) (d : Node) → AreOrdered IsLower ns
    → IsCut (HasLower k) (HasNoLower k) ns i
    → (i < length ns → (get_or ns i d).number ≢ k) → IsNowhere ns k
nowhere_at_cut k [] i d order cut ne = tt
nowhere_at_cut k (n ∷ ns) zero d order cut ne =
    (ne (omega arith), all_other k ns (above k n ns cut.0 order.0))
nowhere_at_cut k (n ∷ ns) (suc i) d order cut ne = (
  (λ s. absurd (omega (arith, s, cut.0))),
  nowhere_at_cut k ns i d order.1 cut.1 (λ lt. ne (omega (arith, lt))),
)

-- all have lower numbers
pub nowhere_at_end : (k : ℕ) (ns : List Node) (i : ℕ)
    → IsCut (HasLower k) (HasNoLower k) ns i → length ns ≤ i → IsNowhere ns k
nowhere_at_end k [] i cut le = tt
nowhere_at_end k (n ∷ ns) zero cut le = absurd (omega (arith, le))
nowhere_at_end k (n ∷ ns) (suc i) cut le =
    ((λ s. absurd (omega (arith, s, cut.0))), nowhere_at_end k ns i cut.1 (omega (arith, le)))

-- ---- nodes of a tree
