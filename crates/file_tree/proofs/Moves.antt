-- A node that is moved, with all below it.
use Rattle.std.proofs.Common.{◌≡◌, ◌≢◌, ℕ, inl, inr, true, false, List, [], ◌∷◌, ◌++◌, reverse}
use Rattle.std.proofs.Common.{get_or, Option, Some, None, sym, ap, subst, ◌∙◌}
use Rattle.std.specs.Prelude.{option_map, is_some}
use Rattle.std.proofs.lemmas.Bool.{cases_eq}
use mathlib.Core.List.{reverse-cons, reverse-append}
use Rattle.file_tree.specs.declared.store.node.Hook.{Hook}
use Rattle.file_tree.specs.declared.store.node.Hook.TheVariants.{Root, Removed, In}
use Rattle.file_tree.specs.declared.store.node.NodeContent.TheVariants as content
use Rattle.file_tree.specs.declared.store.node.Node.{Node}
use Rattle.file_tree.specs.Store.Stored.{changed}
use Rattle.file_tree.specs.Store.Changes.{with_hook}
use Rattle.file_tree.specs.rules.Files.{Name, IsNodeName, Path, FileNode, Files, path_of}
use Rattle.file_tree.specs.rules.Files.{path_behind, path_moved, renamed, child}
use Rattle.file_tree.specs.rules.Changes.{path_at, IsFree, CanMove, within_path}
use Rattle.file_tree.specs.Links.{Up, climb, IsTree, node_in, hook_held, hook_of, content_shown}
use Rattle.file_tree.specs.Links.{is_directory_in, used_in, AreNodes, shown_node, files}
use Rattle.file_tree.specs.Links.{IsPlace, IsNowhere, child_in}
use Rattle.file_tree.proofs.Climbs.{one_path, path_is, no_path, there, in_is}
use Rattle.file_tree.proofs.Renames.{behind_front}
use Rattle.file_tree.proofs.Ends.{moved_up, renamed_path, reverse-moved_up}
use Rattle.file_tree.proofs.Lookups.{node_at_place, node_nowhere, path_shown}
use Rattle.file_tree.proofs.Seen.{child_shown}
use Rattle.file_tree.proofs.Lists.{shown_changed}
use Rattle.file_tree.proofs.Grows.{removed_or_not, way_up, some_path, IsFreeIn, free_in}
use Rattle.file_tree.proofs.Hangs.{Hangs, hung_here, hung_others, hung_used, hung_nodes}

-- ---- a node that hangs in another place

-- a tree before and after node m, whose path from the node up is old, hangs in directory d under a
-- name
pub record MovesNode (hook after : ℕ
    → Hook) (next m d : ℕ) (name : Name) (old up : Path) : Type 0 where
  pub tree : IsTree hook next
  pub at : Up hook m old
  pub not_root : old ≢ []
  pub put : after m ≡ In d name
  pub others : (q : ℕ) → q ≢ m → after q ≡ hook q
  pub under : Up hook d up
  pub not_below : (xs : Path) → up ≡ xs ++ old → ⊥
  pub free : (k : ℕ) → hook k ≡ In d name → ⊥

module _ (hook after : ℕ
    → Hook) (next m d : ℕ) (name : Name) (old up : Path)
    (v : MovesNode hook after next m d name old up) where
  not_below_kept : (k : ℕ) (a : Path) → ((xs : Path) → a ≡ xs ++ old → ⊥) → Up hook k a
      → Up after k a
  not_below_kept k [] never h = v.others k (λ e. never [] (one_path hook k [] old h (rw e v.at)))
      ∙ h
  not_below_kept k (n ∷ a) never h = (
    h.0,
    v.others k (λ e. never [] (one_path hook k (n ∷ a) old h (rw e v.at)))
        ∙ h.1,
    not_below_kept h.0 a (λ xs e. never (n ∷ xs) (ap (λ (p : Path). n ∷ p) e)) h.2,
  )

  pub put_path : Up after m (name ∷ up)
  put_path = (d, v.put, not_below_kept d up v.not_below v.under)

  pub moved_path : (k : ℕ) (a : Path) → Up hook k a → Up after k (moved_up old (name ∷ up) a)
  moved_path k a h =
      renamed_path hook after next v.tree m old (name ∷ up) v.at v.not_root v.others put_path k a h

  here : hook m ≢ Removed
  here = there hook m old v.at

  pub moved_tree : IsTree after next
  moved_tree = record {
    root = v.others 1 (λ e. v.not_root (one_path hook m old [] v.at (rw (← e) v.tree.root)))
        ∙ v.tree.root;
    one_root = λ k e. elim (cases_eq k m) [
      | inl same ↦ absurd (let t : Root ≡ In d name = sym e ∙ ap after same ∙ v.put in cc)
      | inr ne ↦ v.tree.one_root k (sym (v.others k ne) ∙ e)
    ];
    below = λ k h. elim (cases_eq k m) [
      | inl same ↦ v.tree.below k (rw same here)
      | inr ne ↦ v.tree.below k (λ e. h (v.others k ne ∙ e))
    ];
    reached = λ k h. elim (cases_eq k m) [
      | inl same ↦ rw same (name ∷ up, put_path)
      | inr ne ↦ (let r = v.tree.reached k (λ e. h (v.others k ne ∙ e)) in
          (moved_up old (name ∷ up) r.0, moved_path k r.0 r.1))
    ];
    one_each = λ j k e n hj hk. elim (cases_eq j m) [
      | inl j_same ↦ elim (cases_eq k m) [
        | inl k_same ↦ j_same ∙ sym k_same
        | inr k_ne ↦ absurd (v.free k (sym (v.others k k_ne) ∙ hk ∙ sym hj ∙ ap after j_same
            ∙ v.put))
      ]
      | inr j_ne ↦ elim (cases_eq k m) [
        | inl k_same ↦ absurd (v.free j (sym (v.others j j_ne) ∙ hj ∙ sym hk ∙ ap after k_same
            ∙ v.put))
        | inr k_ne ↦ v.tree.one_each j k e n (sym (v.others j j_ne) ∙ hj) (sym (v.others k k_ne)
            ∙ hk)
      ]
    ];
  }

  -- the path that climbing finds for each node changes its front
  pub moved_climb : (k : ℕ)
      → option_map reverse (climb next after k)
      ≡ option_map (path_moved (reverse old) (reverse (name ∷ up)))
      (option_map reverse (climb next hook k))
  moved_climb k =
      elim (removed_or_not (hook k)) [
        | inl gone ↦
            let other : k ≢ m = λ e. here (ap hook (sym e) ∙ gone) in
            ap (option_map reverse) (no_path next after k (v.others k other ∙ gone))
            ∙ sym (ap (λ (o : Option Path).
            option_map (path_moved (reverse old) (reverse (name ∷ up))) (option_map reverse o))
            (no_path next hook k gone))
        | inr some ↦
            let r = v.tree.reached k some in
            ap (option_map reverse) (path_is after next moved_tree k (moved_up old (name ∷ up) r.0)
            (moved_path k r.0 r.1))
            ∙ ap (λ (p : Path). Some p) (reverse-moved_up old (name ∷ up) r.0)
            ∙ sym (ap (λ (o : Option Path).
            option_map (path_moved (reverse old) (reverse (name ∷ up))) (option_map reverse o))
            (path_is hook next v.tree k r.0 r.1))
      ]

-- ---- the same of a list of nodes

-- all of it, where files are what the nodes show
pub record IsMoved (ns : List Node) (next k i d : ℕ) (name : Name) (fs : Files) : Type 0 where
  pub nodes : AreNodes (changed (with_hook (In d name)) i ns) next
  pub files_are : files (changed (with_hook (In d name)) i ns) next
      ≡ renamed (path_at fs k) (path_at fs d ++ name ∷ []) fs
  pub used : used_in (changed (with_hook (In d name)) i ns) ≡ used_in ns

-- a prefix of the path would be an end of the way up
not_end : (old up : Path) → is_some (path_behind (reverse old) (reverse up)) ≡ false → (xs : Path)
    → up ≡ xs ++ old → ⊥
not_end old up none xs e =
    let found : path_behind (reverse old) (reverse up) ≡ Some (reverse xs) =
    ap (path_behind (reverse old)) (ap reverse e ∙ reverse-append xs old)
    ∙ behind_front (reverse old) (reverse xs) in
    absurd (let t : true ≡ false = sym (ap is_some found) ∙ none in cc)

module _ (ns : List Node) (next k i d : ℕ) (name : Name) (are : AreNodes ns next)
    (place : IsPlace ns k i) (can : CanMove (files ns next) k d name) where
  abbrev default : Node
  default = record { number = 0; hook = Root; content = content.Directory }

  abbrev n : Node
  n = get_or ns i default

  is_there : node_in ns k ≡ Some n
  is_there = node_at_place ns k i default place

  hangs : Hangs ns next k i n
  hangs = record { are = are; place = place; there = is_there }

  free : (up : Path) × IsFreeIn ns next d name (path_at (files ns next) d) up
  free = free_in ns next d name are can.free

  from : (up : Path) × (reverse up ≡ path_at (files ns next) k) × Up (hook_of ns) k up
  from = way_up ns next k (path_at (files ns next) k)
      (some_path (path_of (files ns next) k) can.there)

  outside : is_some (path_behind (reverse from.0) (reverse free.0)) ≡ false
  outside =
      ap (λ (p : Path). is_some (path_behind p (reverse free.0))) from.1
      ∙ ap (λ (p : Path). is_some (path_behind (path_at (files ns next) k) p)) free.1.up_is
      ∙ sym (ap (λ (o : Option Path). within_path o (path_of (files ns next) d))
      (some_path (path_of (files ns next) k) can.there)
      ∙ ap (within_path (Some (path_at (files ns next) k))) free.1.path)
      ∙ can.outside

  not_empty : from.0 ≢ []
  not_empty e = can.not_root (are.tree.one_root k (subst (Up (hook_of ns) k) e from.2))

  moves : MovesNode (hook_of ns) (hook_of (changed (with_hook (In d name)) i ns)) next k d name
      from.0 free.0
  moves = record {
    tree = are.tree;
    at = from.2;
    not_root = not_empty;
    put = hung_here ns next k i n (In d name) hangs;
    others = hung_others ns next k i n (In d name) hangs;
    under = free.1.under;
    not_below = not_end from.0 free.0 outside;
    free = free.1.free;
  }

  placed : (j e : ℕ) (other : Name) → hook_of (changed (with_hook (In d name)) i ns) j ≡ In e other
      → IsNodeName other × (is_directory_in ns e ≡ true)
  placed j e other h = elim (cases_eq j k) [
    | inl same ↦ (let t = in_is d e name other (sym moves.put
        ∙ ap (hook_of (changed (with_hook (In d name)) i ns)) (sym same) ∙ h) in (
          subst IsNodeName t.1 can.free.named,
          subst (λ (x : ℕ). is_directory_in ns x ≡ true) t.0 free.1.directory,
        ))
    | inr ne ↦ (let before = sym (moves.others j ne) ∙ h in
        (are.named j e other before, are.placed j e other before))
  ]

  pub moved_all : IsMoved ns next k i d name (files ns next)
  moved_all =
      let hook = hook_of ns in
      let after = hook_of (changed (with_hook (In d name)) i ns) in
      let old = from.0 in
      let up = free.0 in
      let G : FileNode → FileNode = λ x. record {
        number = x.number;
        path = option_map (path_moved (reverse old) (reverse (name ∷ up))) x.path;
        content = x.content;
      } in
      let each : (m : Node) → shown_node next after m ≡ G (shown_node next hook m) =
      λ m. ap (λ (o : Option Path). record {
        number = m.number;
        path = o;
        content = content_shown m.content;
      })
      (moved_climb hook after next k d name old up moves m.number) in
      let whole : reverse (name ∷ up) ≡ path_at (files ns next) d ++ name ∷ [] =
      reverse-cons name up ∙ ap (λ (q : Path). q ++ name ∷ []) free.1.up_is in
      record {
        nodes = hung_nodes ns next k i n (In d name) hangs
            (moved_tree hook after next k d name old up moves) placed;
        files_are =
            ap (λ (xs : List FileNode). record {
              nodes = xs;
              next = next;
            }) (shown_changed (shown_node next hook) (shown_node next after) G
            (with_hook (In d name)) 1 ns next k i n place is_there are.rising (λ m ne. each m)
            (each n))
            ∙ ap (λ (p : Path). renamed p (reverse (name ∷ up)) (files ns next)) from.1
            ∙ ap (λ (p : Path). renamed (path_at (files ns next) k) p (files ns next)) whole;
        used = hung_used ns next k i n (In d name) hangs;
      }

pub is_moved : (ns : List Node) (next k i d : ℕ) (name : Name) (fs : Files) → files ns next ≡ fs
    → AreNodes ns next → IsPlace ns k i → CanMove fs k d name → IsMoved ns next k i d name fs
is_moved ns next k i d name fs e are place can =
    subst (λ (x : Files). CanMove x k d name
    → IsMoved ns next k i d name x) e (λ can. moved_all ns next k i d name are place can) can

-- a node that can be moved is there
pub not_nowhere : (ns : List Node) (next k d : ℕ) (name : Name) (fs : Files) → files ns next ≡ fs
    → CanMove fs k d name → IsNowhere ns k → ⊥
not_nowhere ns next k d name fs e can none =
    let path : path_of fs k ≡ None = sym (ap (λ (x : Files). path_of x k) e) ∙ path_shown ns next k
    ∙ ap (option_map reverse)
    (no_path next (hook_of ns) k (ap hook_held (node_nowhere ns k none))) in
    absurd (let t : false ≡ true = sym (ap is_some path) ∙ can.there in cc)

-- nothing hangs where a name is free
pub nothing_hangs : (ns : List Node) (next d : ℕ) (name : Name) (fs : Files) → files ns next ≡ fs
    → AreNodes ns next → IsFree fs d name
    → child_in ns d name ≡ None
nothing_hangs ns next d name fs e are free =
    sym (child_shown ns next d name are) ∙ ap (λ (x : Files). child x d name) e ∙ free.free
