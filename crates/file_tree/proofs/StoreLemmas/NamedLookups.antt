-- What a search among keys by their nodes' addresses finds in the list of all nodes.
use Rattle.std.proofs.Common.{◌≡◌, ◌≢◌, ℕ, suc, ◌+◌, ◌-◌, ◌≤◌, true, false, List, [], ◌∷◌, length}
use Rattle.std.proofs.Common.{get_or, Some, None, sym, ap, subst, ◌∙◌, arith}
use Rattle.std.specs.Prelude.{slice_get}
use Rattle.std.specs.List.{AllByRecursion}
use Rattle.slab.specs.Slab.{Slab, ContainsKey, get}
use Rattle.file_tree.specs.declared.store.node.Node.{Node}
use Rattle.file_tree.specs.rules.Files.{Name}
use Rattle.file_tree.specs.Links.{is_hooked, child_in}
use Rattle.file_tree.specs.Nearest.{nearest_node, node_listed, IsCountListed}
use Rattle.file_tree.specs.Store.Stored.{stored}
use Rattle.file_tree.specs.Store.Cuts.{IsCut}
use Rattle.file_tree.specs.Store.Named.{KeyBehind, KeyUpTo, AreByAddress, NoKey}
use Rattle.file_tree.specs.Store.Named.{in_directory, named_node}
use Rattle.file_tree.specs.Store.Kept.{AreStoredNodes}
use Rattle.file_tree.proofs.NamedNodes.{NodeBehind, NodeUpTo, AreListed, child_there}
use Rattle.file_tree.proofs.NamedNodes.{child_not_there, child_before_all, nearest_found}
use Rattle.file_tree.proofs.NamedNodes.{listed_found}
use Rattle.file_tree.proofs.NearestNodes.{none_listed}
use Rattle.file_tree.proofs.StoreLemmas.Cuts.{behind_all}
use Rattle.file_tree.proofs.StoreLemmas.Keys.{length-stored}
use Rattle.file_tree.proofs.StoreLemmas.NamedStored.{cut_stored, in_order, are_listed, node_at}
use Rattle.file_tree.proofs.StoreLemmas.Places.{none_at}

pub keys_in_order : {slab : Slab Node} {order names keys : List ℕ}
    → AreStoredNodes slab order names → keys ≡ names → AreByAddress slab keys
keys_in_order {slab} {order} {names} kept same =
    subst (AreByAddress slab) (sym same)
    (in_order NoKey slab order names kept.are.present kept.named)

pub key_before : {slab : Slab Node} {keys : List ℕ} (p : ℕ) → AreByAddress slab keys → p ≢ 0
    → p ≤ length keys
    → ContainsKey slab (get_or keys (p - 1) 0)
key_before {slab} {keys} p order some within =
    behind_all (ContainsKey slab) keys (p - 1) 0 order.present (omega (arith, some, within))

-- the key before this place has a node that hangs in a directory, where it isn't the first
abbrev pub IsLastBelow : Slab Node → List ℕ → ℕ → ℕ → ℕ → Type 0
IsLastBelow slab keys d first low =
    (i : ℕ) → first ≤ i → suc i ≡ low → in_directory d (named_node slab keys i) ≢ None

module _ {slab : Slab Node} {order names keys : List ℕ} {ns : List Node}
    (kept : AreStoredNodes slab order names) (same : keys ≡ names)
    (shown : stored slab order ≡ ns) where
  keys_listed : AreListed ns (stored slab keys)
  keys_listed =
      subst (λ (ks : List ℕ). AreListed ns (stored slab ks)) (sym same)
      (subst (λ (ms : List Node). AreListed ms (stored slab names)) shown
      (are_listed slab order names kept.are.present kept.named))

  keys_present : AllByRecursion (ContainsKey slab) keys
  keys_present = (keys_in_order kept same).present

  module _ (d : ℕ) (name : Name) (p : ℕ) (cut : IsCut (KeyUpTo (d ∷ name) slab) (KeyBehind (d
      ∷ name) slab) keys p) where
    node_cut : IsCut (NodeUpTo (d ∷ name)) (NodeBehind (d ∷ name)) (stored slab keys) p
    node_cut = cut_stored (d ∷ name) slab keys p keys_present cut

    pub none_before : p ≡ 0 → child_in ns d name ≡ None
    none_before e =
        child_before_all d name ns (stored slab keys) keys_listed
        (subst (λ (i : ℕ). IsCut (NodeUpTo (d ∷ name)) (NodeBehind (d ∷ name)) (stored slab keys) i)
        e node_cut)

    pub nearest_at : nearest_node d name None ns ≡ in_directory d (slice_get (stored slab keys) p)
    nearest_at = nearest_found d name ns (stored slab keys) p keys_listed node_cut

    module _ (some : p ≢ 0) (within : p ≤ length keys) (n : Node)
        (is : get slab (get_or keys (p - 1) 0) ≡ Some n) where
      last_cut : IsCut (NodeUpTo (d ∷ name)) (NodeBehind (d ∷ name)) (stored slab keys)
          (suc (p - 1))
      last_cut =
          let more : p ≡ suc (p - 1) = omega (arith, some) in
          subst (λ (i : ℕ). IsCut (NodeUpTo (d ∷ name)) (NodeBehind (d ∷ name))
          (stored slab keys) i) more node_cut

      last_node : slice_get (stored slab keys) (p - 1) ≡ Some n
      last_node = node_at slab keys (p - 1) 0 n keys_present (omega (arith, some, within)) is

      pub hooked_before : is_hooked d name n.hook ≡ true → child_in ns d name ≡ Some n.number
      hooked_before test =
          child_there d name ns (stored slab keys) (p - 1) n keys_listed last_cut last_node test

      pub not_hooked_before : is_hooked d name n.hook ≡ false → child_in ns d name ≡ None
      not_hooked_before test =
          child_not_there d name ns (stored slab keys) (p - 1) n keys_listed last_cut last_node test

  module _ (d p : ℕ) (cut : IsCut (KeyUpTo (d ∷ []) slab) (KeyBehind (d ∷ []) slab) keys p) where
    pub listed_at : (i : ℕ)
        → node_listed ns d i ≡ in_directory d (slice_get (stored slab keys) (i + p))
    listed_at i = listed_found d ns (stored slab keys) p i keys_listed (node_cut d [] p cut)

    pub none_listed_at : (i : ℕ) → p ≤ length keys → length keys - p ≤ i
        → node_listed ns d i ≡ None
    none_listed_at i within past =
        let far : length (stored slab keys) ≤ i + p =
        omega (arith, within, past, length-stored slab keys keys_present) in
        listed_at i ∙ ap (in_directory d) (none_at (stored slab keys) (i + p) far)

    -- where a search for the last one of a directory ends
    pub counted_at : (low : ℕ) → p ≤ low → IsLastBelow slab keys d p low
        → in_directory d (named_node slab keys low) ≡ None → IsCountListed ns d (low - p)
    counted_at low le last none = record {
      some = λ i lt gone.
          (let q = (low - p) - 1 in
          let same : q + p ≡ low - 1 = omega (arith, lt) in
          let end : node_listed ns d q ≡ None = none_listed ns d i q (omega (arith, lt)) gone in
          last (low - 1) (omega (arith, lt)) (omega (arith, lt))
          (ap (λ (k : ℕ). in_directory d (named_node slab keys k)) (sym same)
          ∙ sym (listed_at q) ∙ end));
      no_more =
          (let same : (low - p) + p ≡ low = omega (arith, le) in
          listed_at (low - p)
          ∙ ap (λ (k : ℕ). in_directory d (named_node slab keys k)) same ∙ none);
    }

    -- it begins with all keys
    pub none_past : in_directory d (named_node slab keys (length keys)) ≡ None
    none_past =
        let far : length (stored slab keys) ≤ length keys =
        omega (arith, length-stored slab keys keys_present) in
        ap (in_directory d) (none_at (stored slab keys) (length keys) far)
