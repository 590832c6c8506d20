-- Nodes in a slab, by rising numbers and by their addresses, and what a change leaves of that.
use Rattle.std.proofs.Common.{◌≡◌, ◌≢◌, ℕ, ◌<◌, inl, inr, List, [], ◌∷◌, ◌++◌, length, get_or}
use Rattle.std.proofs.Common.{Option, Some, None, refl, sym, ap, subst, ◌∙◌}
use Rattle.std.specs.List.{AllByRecursion, remove}
use Rattle.std.proofs.lemmas.Bool.{cases_eq}
use Rattle.slab.specs.Slab.{Slab, ContainsKey, get, Updates, with_value}
use Rattle.file_tree.specs.declared.store.node.Hook.{Hook}
use Rattle.file_tree.specs.declared.store.node.NodeContent.{NodeContent}
use Rattle.file_tree.specs.declared.store.node.Node.{Node}
use Rattle.file_tree.specs.declared.store.node.Hook.TheVariants.{Root, Removed, In}
use Rattle.file_tree.specs.rules.Files.{Name}
use Rattle.file_tree.specs.Links.{hook_held, child_in}
use Rattle.file_tree.specs.Store.Stored.{stored, AreStored, changed}
use Rattle.file_tree.specs.Store.Changes.{with_hook, with_content}
use Rattle.file_tree.specs.Store.Cuts.{HasElement, AreOrdered}
use Rattle.file_tree.specs.Store.Named.{address_of, address_at, AreNamed, NoKey, OnlyKey}
use Rattle.file_tree.specs.Store.Named.{IsFreeHook}
use Rattle.file_tree.specs.Store.Kept.{IsLower, AreStoredNodes}
use Rattle.file_tree.proofs.StoreLemmas.Keys.{IsKeyAt, Adds, with_room, stored-with_room}
use Rattle.file_tree.proofs.StoreLemmas.Keys.{stored_push, keys_push, no_keys, not_both, is_value}
use Rattle.file_tree.proofs.StoreLemmas.Keys.{replaced, changed_keys, changed_value, removed_keys}
use Rattle.file_tree.proofs.StoreLemmas.Keys.{removed_value}
use Rattle.file_tree.proofs.StoreLemmas.Cuts.{ordered_added, ordered_but}
use Rattle.file_tree.proofs.StoreLemmas.NamedKeys.{none_named, address_changed, key_new}
use Rattle.file_tree.proofs.StoreLemmas.NamedKeys.{key_forgotten}
use Rattle.file_tree.proofs.StoreLemmas.NamedStored.{address_of_node, stored_holds}
use Rattle.file_tree.proofs.NamedNodes.{none_hangs}
use Rattle.file_tree.proofs.StoreLemmas.Numbers.{ordered_changed}
use Rattle.file_tree.proofs.StoreLemmas.Places.{held_by_all, held_at, some_at}

pub none_kept : (slab : Slab Node) (order names : List ℕ) → order ≡ [] → names ≡ []
    → AreStoredNodes slab order names
none_kept slab order names e f =
    record {
      are = no_keys slab order e;
      rising = subst (λ (ks : List ℕ). AreOrdered IsLower (stored slab ks)) (sym e) tt;
      named = none_named (address_at slab) order names e f;
    }

-- ---- what is written into a node

same_addresses : (old new : Slab Node) (order names : List ℕ)
    → ((k : ℕ) → address_at old k ≡ address_at new k)
    → AreNamed NoKey (address_at old) order names → AreNamed NoKey (address_at new) order names
same_addresses old new order names same are =
    let functions : address_at old ≡ address_at new = (λ i k. same k i) in
    subst (λ (address : ℕ → List ℕ). AreNamed NoKey address order names) functions are

pub content_kept : (slab : Slab Node) (order names : List ℕ) (ns : List Node) (place key : ℕ)
    (n : Node) (content : NodeContent)
    → AreStoredNodes slab order names → IsKeyAt slab order ns place key → get slab key ≡ Some n
    → AreStoredNodes (with_value slab key (with_content content n)) order names
content_kept slab order names ns place key n content kept at is =
    let after : stored new order ≡ changed (with_content content) place ns =
    changed_value slab order ns place key (with_content content) n node at is refl in
    let before : AreOrdered IsLower ns = subst (AreOrdered IsLower) at.shown kept.rising in
    record {
      are = changed_keys slab order ns place key n node at is;
      rising = subst (AreOrdered IsLower) (sym after) (ordered_changed (with_content content) (λ m.
          refl) ns place before);
      named = same_addresses slab new order names (λ k.
          elim (cases_eq k key) [ inl e ↦ here k e | inr ne ↦ elsewhere k ne ]) kept.named;
    } where
      node : Node
      node = with_content content n

      new : Slab Node
      new = with_value slab key node

      up : Updates slab new key (Some node)
      up = replaced slab key node n is

      here : (k : ℕ) → k ≡ key → address_at slab k ≡ address_at new k
      here k e =
          address_of_node slab k n (ap (get slab) e ∙ is)
          ∙ sym (address_of_node new k node (ap (get new) e ∙ up.changed))

      elsewhere : (k : ℕ) → k ≢ key → address_at slab k ≡ address_at new k
      elsewhere k ne = ap (λ (o : Option Node). address_of (hook_held o)) (sym (up.others k ne))

-- another hook, of a key that isn't listed by its address
pub hook_kept : (slab : Slab Node) (order before names : List ℕ) (ns : List Node) (place key : ℕ)
    (n : Node) (hook : Hook)
    → AreStoredNodes slab order before → IsKeyAt slab order ns place key → get slab key ≡ Some n
    → AreNamed NoKey (address_at (with_value slab key (with_hook hook n))) order names
    → AreStoredNodes (with_value slab key (with_hook hook n)) order names
hook_kept slab order before names ns place key n hook kept at is named =
    let node = with_hook hook n in
    let after : stored (with_value slab key node) order ≡ changed (with_hook hook) place ns =
    changed_value slab order ns place key (with_hook hook) n node at is refl in
    let rising : AreOrdered IsLower ns = subst (AreOrdered IsLower) at.shown kept.rising in
    record {
      are = changed_keys slab order ns place key n node at is;
      rising = subst (AreOrdered IsLower) (sym after) (ordered_changed (with_hook hook) (λ m.
          refl) ns place rising);
      named = named;
    }

pub hook_changed : (slab : Slab Node) (order names : List ℕ) (key : ℕ) (n : Node) (hook : Hook)
    → get slab key ≡ Some n
    → AreNamed (OnlyKey key) (address_at slab) order names
    → AreNamed (OnlyKey key) (address_at (with_value slab key (with_hook hook n))) order names
hook_changed slab order names key n hook is =
    address_changed (address_at slab) (address_at (with_value slab key (with_hook hook n))) order
    names key
    (λ k ne. ap (λ (o : Option Node). address_of (hook_held o))
    ((replaced slab key (with_hook hook n) n is).others k ne))

pub new_address : (slab : Slab Node) (key : ℕ) (n : Node) (hook : Hook) → get slab key ≡ Some n
    → address_at (with_value slab key (with_hook hook n)) key ≡ address_of hook
new_address slab key n hook is =
    address_of_node (with_value slab key (with_hook hook n)) key (with_hook hook n)
    (replaced slab key (with_hook hook n) n is).changed

-- ---- a node more or less

pub room_kept : (old new : Slab Node) (capacity : ℕ) (order names : List ℕ)
    → new ≡ record old { capacity = capacity }
    → AreStoredNodes old order names → AreStoredNodes new order names
room_kept old new capacity order names e kept =
    record {
      are = with_room old new capacity order e kept.are;
      rising = subst (AreOrdered IsLower) (sym (stored-with_room old new capacity order e))
          kept.rising;
      named = same_addresses old new order names (λ k. ap (λ (s : Slab Node). address_at s k)
          (sym e)) kept.named;
    }

pub push_kept : (old new : Slab Node) (key : ℕ) (n : Node) (order before names : List ℕ)
    (ns : List Node)
    → Adds old new key n
    → AreStoredNodes old order before → stored old order ≡ ns
    → AllByRecursion (λ (m : Node). m.number < n.number) ns
    → AreNamed NoKey (address_at new) (order ++ key ∷ []) names
    → AreStoredNodes new (order ++ key ∷ []) names
push_kept old new key n order before names ns adds kept shown lower named =
    let after : stored new (order ++ key ∷ []) ≡ ns ++ n ∷ [] =
    stored_push old new key n order adds kept.are.present
    ∙ ap (λ (ms : List Node). ms ++ n ∷ []) shown in
    let rising : AreOrdered IsLower ns = subst (AreOrdered IsLower) shown kept.rising in
    record {
      are = keys_push old new key n order adds kept.are;
      rising = subst (AreOrdered IsLower) (sym after) (ordered_added IsLower ns n rising lower);
      named = named;
    }

not_vacant_key : (slab : Slab Node) (order : List ℕ) (key : ℕ)
    → AllByRecursion (ContainsKey slab) order → get slab key ≡ None → HasElement order key → ⊥
not_vacant_key slab order key present vacant at =
    not_both (get slab key) (held_by_all (ContainsKey slab) order key present at) vacant

pub key_pushed : (old new : Slab Node) (key : ℕ) (n : Node) (order names : List ℕ)
    → Adds old new key n → AreStoredNodes old order names
    → AreNamed (OnlyKey key) (address_at new) (order ++ key ∷ []) names
key_pushed old new key n order names adds kept =
    key_new (address_at old) (address_at new) order names key
    (λ k ne. ap (λ (o : Option Node). address_of (hook_held o)) (adds.updates.others k ne))
    (not_vacant_key old order key kept.are.present adds.was_vacant) kept.named

pub without_kept : (old new : Slab Node) (order before names : List ℕ) (ns : List Node)
    (place key : ℕ)
    → AreStoredNodes old order before → IsKeyAt old order ns place key → Updates old new key None
    → AreNamed (OnlyKey key) (address_at old) order names
    → AreStoredNodes new (remove order place) names
without_kept old new order before names ns place key kept at up named =
    let after : stored new (remove order place) ≡ remove ns place =
    removed_value old new order ns place key at up in
    let rising : AreOrdered IsLower ns = subst (AreOrdered IsLower) at.shown kept.rising in
    let are : AreStored new (remove order place) = removed_keys old new order ns place key at up in
    record {
      are = are;
      rising = subst (AreOrdered IsLower) (sym after) (ordered_but IsLower ns place rising);
      named =
          key_forgotten (address_at new) order names key place key
          (address_changed (address_at old) (address_at new) order names key
          (λ k ne. ap (λ (o : Option Node). address_of (hook_held o)) (up.others k ne)) named)
          (not_vacant_key new (remove order place) key are.present up.changed) at.is;
    }

-- ---- a key and its node

held_get : (xs : List ℕ) (i d : ℕ) → i < length xs → HasElement xs (get_or xs i d)
held_get xs i d lt = held_at xs i (get_or xs i d) (some_at xs i d lt)

pub key_held : (slab : Slab Node) (order : List ℕ) (ns : List Node) (place key : ℕ)
    → IsKeyAt slab order ns place key → HasElement order key
key_held slab order ns place key at =
    subst (HasElement order) at.is (held_get order place key at.within)

pub key_there : (slab : Slab Node) (order : List ℕ) (ns : List Node) (place key : ℕ)
    → IsKeyAt slab order ns place key → ContainsKey slab key
key_there slab order ns place key at =
    held_by_all (ContainsKey slab) order key at.are.present (key_held slab order ns place key at)

pub key_listed : (slab : Slab Node) (order names : List ℕ) (ns : List Node) (place key : ℕ)
    → AreStoredNodes slab order names
    → IsKeyAt slab order ns place key → address_at slab key ≢ [] → HasElement names key
key_listed slab order names ns place key kept at some =
    kept.named.all key (key_held slab order ns place key at) some (λ none. none)

-- no node hangs where another one is put
none_there : (slab : Slab Node) (order names : List ℕ) (ns : List Node) (d : ℕ) (name : Name)
    (k : ℕ)
    → AllByRecursion (ContainsKey slab) order → stored slab order ≡ ns → child_in ns d name ≡ None
    → HasElement order k
    → address_at slab k ≢ d ∷ name
none_there slab order names ns d name k present shown none at e =
    let v = is_value (get slab k) (held_by_all (ContainsKey slab) order k present at) in
    none_hangs d name ns v.0 none (subst (λ (ms : List Node). HasElement ms v.0) shown
    (stored_holds slab order k v.0 present at v.1))
    (sym (address_of_node slab k v.0 v.1) ∙ e)

pub free_moved : (slab : Slab Node) (order names : List ℕ) (ns : List Node) (place key : ℕ)
    (n : Node) (d : ℕ) (name : Name)
    → IsKeyAt slab order ns place key → get slab key ≡ Some n
    → AreNamed (OnlyKey key) (address_at slab) order names
    → child_in ns d name ≡ None → (k : ℕ) → HasElement names k
    → address_at (with_value slab key (with_hook (In d name) n)) k
    ≢ address_at (with_value slab key (with_hook (In d name) n)) key
free_moved slab order names ns place key n d name at is named none k held e =
    let new = with_value slab key (with_hook (In d name) n) in
    let kept : address_at new k ≡ address_at slab k =
    ap (λ (o : Option Node). address_of (hook_held o))
    ((replaced slab key (with_hook (In d name) n) n is).others k (λ out.
    named.without k held out)) in
    none_there slab order names ns d name k at.are.present at.shown none (named.among k held)
    (sym kept ∙ e ∙ new_address slab key n (In d name) is)

pub free_pushed : (old new : Slab Node) (order names : List ℕ) (ns : List Node) (key : ℕ) (n : Node)
    → Adds old new key n
    → AreStoredNodes old order names → stored old order ≡ ns → IsFreeHook n.hook ns → (k : ℕ)
    → HasElement names k → address_at new k ≢ address_at new key
free_pushed old new order names ns key n adds kept shown free k held e = by n.hook refl free where
  fresh : k ≢ key
  fresh same =
      not_vacant_key old order key kept.are.present adds.was_vacant
      (subst (HasElement order) same (kept.named.among k held))

  address_kept : address_at new k ≡ address_at old k
  address_kept = ap (λ (o : Option Node). address_of (hook_held o)) (adds.updates.others k fresh)

  own : address_at new key ≡ address_of n.hook
  own = address_of_node new key n adds.updates.changed

  by : (h : Hook) → n.hook ≡ h → IsFreeHook h ns → ⊥
  by Root is free = kept.named.hung k held (sym address_kept ∙ e ∙ own ∙ ap address_of is)
  by Removed is free = kept.named.hung k held (sym address_kept ∙ e ∙ own ∙ ap address_of is)
  by (In d name) is free =
      none_there old order names ns d name k kept.are.present shown free (kept.named.among k held)
      (sym address_kept ∙ e ∙ own ∙ ap address_of is)

pub hook_present : (slab : Slab Node) (order : List ℕ) (ns : List Node) (place key : ℕ) (n : Node)
    (hook : Hook)
    → IsKeyAt slab order ns place key → get slab key ≡ Some n
    → AllByRecursion (ContainsKey (with_value slab key (with_hook hook n))) order
hook_present slab order ns place key n hook at is =
    (changed_keys slab order ns place key n (with_hook hook n) at is).present

-- a node that the slab has taken at the key that it gave before
pub adds_there : (old new : Slab Node) (key taken : ℕ) (n : Node) → key ≡ old.vacant_key
    → taken ≡ old.vacant_key → get old taken ≡ None
    → Updates old new taken (Some n) → Adds old new key n
adds_there old new key taken n e f vacant up =
    subst (λ (k : ℕ). Adds old new k n) (f ∙ sym e) (record { was_vacant = vacant; updates = up })

pub reserved_kept : (old new : Slab Node) (order names reserved : List ℕ)
    → new ≡ record old { capacity = new.capacity } → reserved ≡ names
    → AreStoredNodes old order names → AreStoredNodes new order reserved
reserved_kept old new order names reserved e f kept =
    subst (AreStoredNodes new order) (sym f) (room_kept old new new.capacity order names e kept)
