-- Nodes by the order of their paths: each comes after its directory.
use Rattle.std.proofs.Common.{◌≡◌, ◌⊎◌, ℕ, ◌+◌, Bool, true, false, List, [], ◌∷◌, ◌++◌, length}
use Rattle.std.proofs.Common.{refl, sym, ap, ap₂, subst, ◌∙◌, inl, inr, arith, length-append}
use Rattle.std.proofs.Common.{true≢false}
use Rattle.std.specs.Prelude.{Contains}
use Rattle.std.specs.Borrow.{Bor}
use Rattle.std.specs.Cmp.{IsStrictWeakOrder}
use Rattle.std.specs.Cmp.Lexicographic.{slice_cmp}
use Rattle.std.specs.Fn.{Called, ComparesAs, Mut}
use Rattle.std.specs.List.Sorted.{IsPermutation, IsSortedBy}
use Rattle.std.specs.Ordering.{is_lt, nat_cmp, ordering_then}
use Rattle.std.specs.declared.cmp.Ordering.{Ordering}
use Rattle.std.proofs.lemmas.Cmp.{nat_cmp_total, nat_list_cmp_total, tied_itself}
use Rattle.std.proofs.lemmas.Fn.{always_returns_same}
use Rattle.std.proofs.lemmas.List.{get_or-append-add, get_or_at}
use Rattle.std.proofs.lemmas.List.Elements.{All-contains, Contains-append_cases}
use Rattle.std.proofs.lemmas.List.Elements.{Contains-append_right}
use Rattle.std.proofs.lemmas.List.Sorted.{All-permutation, Contains-permutation, ranks_by}
use Rattle.std.proofs.lemmas.List.Sorted.{sorted_far}
use Rattle.file_tree.specs.rules.Files.{slash}
use Rattle.file_listing.specs.declared.listed.ListedNode.{ListedNode}
use Rattle.file_listing.specs.rules.Listed.{HaveParents, IsPlacedAmong}
use Rattle.disk_commands.specs.NodeOrders.{ParentsComeFirst}

-- the first node's path is less than the other one's, byte by byte
abbrev pub has_less_path : ListedNode → ListedNode → Bool
has_less_path node other = is_lt (slice_cmp nat_cmp node.path other.path)

has_less_path_orders : IsStrictWeakOrder has_less_path
has_less_path_orders = ranks_by nat_list_cmp_total (λ (node : ListedNode). node.path)

-- what a sort by the paths gives
pub sorted_by_paths : {F : Type 0}
    {g : Mut F (Bor ListedNode × (Bor ListedNode × Unit {0})) Ordering} {f : F}
    (nodes : List ListedNode)
    → ((lt : ListedNode → ListedNode → Bool) → IsStrictWeakOrder lt → ComparesAs g lt f
    → IsSortedBy lt nodes)
    → ((a : Bor ListedNode × (Bor ListedNode × Unit {0})) (r : Ordering) (f' : F)
    → Called g f a r f' → (r ≡ slice_cmp nat_cmp a.0.now.path a.1.0.now.path) × (f' ≡ f))
    → IsSortedBy has_less_path nodes
sorted_by_paths {g = g} {f = f} nodes sorted each =
    sorted has_less_path has_less_path_orders
    (always_returns_same g (λ a r. is_lt r ≡ has_less_path a.0.now a.1.0.now) f
    (λ a r f' call. (ap is_lt (each a r f' call).0, (each a r f' call).1)))

-- a text is less than one that goes on behind it
front_is_less : (front : List ℕ) (byte : ℕ) (rest : List ℕ)
    → is_lt (slice_cmp nat_cmp front (front ++ byte ∷ rest)) ≡ true
front_is_less [] byte rest = refl
front_is_less (a ∷ front) byte rest =
    ap (λ (o : Ordering). is_lt (ordering_then o (slice_cmp nat_cmp front (front ++ byte ∷ rest))))
    (tied_itself nat_cmp_total a)
    ∙ front_is_less front byte rest

-- of nodes in order, one with a less path comes before
less_is_before : (before after : List ListedNode) (node less : ListedNode)
    → IsSortedBy has_less_path (before ++ node ∷ after) → has_less_path less node ≡ true
    → Contains (before ++ node ∷ after) less → Contains before less
less_is_before before after node less sorted is has =
    by (Contains-append_cases before (node ∷ after) less has)
  where
    not_later : Contains (node ∷ after) less → has_less_path less node ≡ false
    not_later later =
        let place : ℕ = later.0 in
        let here = get_or_at before node after less (length before) refl in
        let there = get_or-append-add before (node ∷ after) place less ∙ later.2 in
        ap₂ has_less_path (sym there) (sym here)
        ∙ sorted_far has_less_path has_less_path_orders (before ++ node ∷ after) sorted
        (length before) (length before + place) less (omega arith)
        (omega (arith, later.1, length-append before (node ∷ after)))

    by : Contains before less ⊎ Contains (node ∷ after) less → Contains before less
    by (inl found) = found
    by (inr later) = absurd (true≢false (sym is ∙ not_later later))

-- nodes by the order of their paths, where each one's directory is among them
pub parents_come_first : (listed nodes : List ListedNode) → HaveParents listed
    → IsPermutation listed nodes → IsSortedBy has_less_path nodes → ParentsComeFirst nodes
parents_come_first listed nodes parents order sorted = record {
  at = λ before after node split. by before after node split
      (All-contains (λ (n : ListedNode). IsPlacedAmong listed n.path) nodes node
      (All-permutation (λ (n : ListedNode). IsPlacedAmong listed n.path) listed nodes order parents)
      (subst (λ (all : List ListedNode). Contains all node) (sym split)
      (Contains-append_right before (node ∷ after) node (0, omega arith, refl))));
}
  where
    by : (before after : List ListedNode) (node : ListedNode) → nodes ≡ before ++ node ∷ after
        → IsPlacedAmong listed node.path → IsPlacedAmong before node.path
    by before after node split (inr named) = inr named
    by before after node split (inl has) = inl (record {
      parent = has.parent;
      listed = less_is_before before after node has.parent
          (subst (λ (all : List ListedNode). IsSortedBy has_less_path all) split sorted)
          (ap (λ (path : List ℕ). is_lt (slice_cmp nat_cmp has.parent.path path)) has.is
          ∙ front_is_less has.parent.path slash has.name)
          (subst (λ (all : List ListedNode). Contains all has.parent) split
          (Contains-permutation listed nodes has.parent order has.listed));
      directory = has.directory;
      name = has.name;
      named = has.named;
      is = has.is;
    })
