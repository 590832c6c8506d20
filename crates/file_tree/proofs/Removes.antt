-- A node that loses its path.
use Rattle.std.proofs.Common.{◌≡◌, ◌≢◌, ℕ, inl, inr, true, not, eqb, List, [], ◌∷◌, length, reverse}
use Rattle.std.proofs.Common.{get_or, Option, Some, None, refl, sym, ap, subst, ◌∙◌}
use Rattle.std.specs.Prelude.{option_map}
use Rattle.std.proofs.lemmas.Bool.{not-true}
use Rattle.file_tree.specs.declared.store.node.Hook.{Hook}
use Rattle.file_tree.specs.declared.store.node.Hook.TheVariants.{Root, Removed, In}
use Rattle.file_tree.specs.declared.store.node.NodeContent.TheVariants as content
use Rattle.file_tree.specs.declared.store.node.Node.{Node}
use Rattle.file_tree.specs.Store.Stored.{changed}
use Rattle.file_tree.specs.Store.Changes.{with_hook}
use Rattle.file_tree.specs.rules.Files.{Name, IsNodeName, Path, FileNode, Files, removed}
use Rattle.file_tree.specs.rules.Files.{entries_of, is_directory}
use Rattle.file_tree.specs.rules.Changes.{CanLose}
use Rattle.file_tree.specs.Links.{Up, climb, IsTree, node_in, hook_of, content_shown}
use Rattle.file_tree.specs.Links.{is_directory_in, has_child, used_in, AreNodes}
use Rattle.file_tree.specs.Links.{shown_node, files, IsPlace, IsNowhere}
use Rattle.file_tree.proofs.Climbs.{path_is, no_path}
use Rattle.file_tree.proofs.Lookups.{directory_shown, node_at_place}
use Rattle.file_tree.proofs.Lists.{shown_changed_one, none_changed, number_in}
use Rattle.file_tree.proofs.Grows.{removed_or_not}
use Rattle.file_tree.proofs.Hangs.{Hangs, hung_here, hung_others, hung_used, hung_nodes}
use Rattle.file_tree.proofs.Seen.{empty_shown, no_child}

pub record Loses (hook after : ℕ → Hook) (next k : ℕ) : Type 0 where
  pub tree : IsTree hook next
  pub not_root : k ≢ 1
  pub gone : after k ≡ Removed
  pub others : (j : ℕ) → j ≢ k → after j ≡ hook j
  pub empty : (j : ℕ) (name : Name) → hook j ≢ In k name

module _ (hook after : ℕ → Hook) (next k : ℕ) (l : Loses hook after next k) where
  kept_up : (j : ℕ) (a : Path) → j ≢ k → Up hook j a → Up after j a
  kept_up j [] ne h = l.others j ne ∙ h
  kept_up j (name ∷ a) ne h =
      let other : h.0 ≢ k = λ e. l.empty j name (h.1 ∙ ap (λ (x : ℕ). In x name) e) in
      (h.0, l.others j ne ∙ h.1, kept_up h.0 a other h.2)

  here_still : (j : ℕ) → after j ≢ Removed → j ≢ k
  here_still j h e = h (ap after e ∙ l.gone)

  pub lost_tree : IsTree after next
  lost_tree = record {
    root = l.others 1 (λ e. l.not_root (sym e)) ∙ l.tree.root;
    one_root = λ j e. (let ne = here_still j (λ g. absurd (let t : Root ≡ Removed = sym e ∙ g in
        cc)) in l.tree.one_root j (sym (l.others j ne) ∙ e));
    below = λ j h. (let ne = here_still j h in l.tree.below j (λ g. h (l.others j ne ∙ g)));
    reached = λ j h. (let ne = here_still j h in
        let r = l.tree.reached j (λ g. h (l.others j ne ∙ g)) in (r.0, kept_up j r.0 ne r.1));
    one_each = λ i j d name hi hj.
        (let ni = here_still i (λ g. absurd (let t : In d name ≡ Removed = sym hi ∙ g in cc)) in
        let nj = here_still j (λ g. absurd (let t : In d name ≡ Removed = sym hj ∙ g in cc)) in
        l.tree.one_each i j d name (sym (l.others i ni) ∙ hi) (sym (l.others j nj) ∙ hj));
  }

  pub lost_climb : (j : ℕ) → j ≢ k → climb next after j ≡ climb next hook j
  lost_climb j ne = elim (removed_or_not (hook j)) [
    | inl gone ↦ no_path next after j (l.others j ne ∙ gone) ∙ sym (no_path next hook j gone)
    | inr here ↦ (let r = l.tree.reached j here in
        path_is after next lost_tree j r.0 (kept_up j r.0 ne r.1)
        ∙ sym (path_is hook next l.tree j r.0 r.1))
  ]

-- all of it, where files are what the nodes show
pub record IsLost (ns : List Node) (next k i : ℕ) (fs : Files) : Type 0 where
  pub nodes : AreNodes (changed (with_hook Removed) i ns) next
  pub files_are : files (changed (with_hook Removed) i ns) next ≡ removed k fs
  pub used : used_in (changed (with_hook Removed) i ns) ≡ used_in ns

nothing_hangs : (ns : List Node) (next k : ℕ) (fs : Files) → files ns next ≡ fs → AreNodes ns next
    → CanLose fs k → (j : ℕ) (name : Name) → hook_of ns j ≢ In k name
nothing_hangs ns next k fs e are can j name h =
    let inside : is_directory fs k ≡ true = sym (ap (λ (x : Files). is_directory x k) e)
    ∙ directory_shown ns next k ∙ are.placed j k name h in
    let none : not (has_child ns k) ≡ true = sym (empty_shown ns next k are)
    ∙ ap (λ (x : Files). eqb (length (entries_of x k)) 0) e ∙ can.empty inside in
    no_child ns k (not-true (has_child ns k) none) j name h

pub is_lost : (ns : List Node) (next k i : ℕ) (fs : Files) → files ns next ≡ fs → AreNodes ns next
    → IsPlace ns k i → CanLose fs k → IsLost ns next k i fs
is_lost ns next k i fs e are place can =
    let hook = hook_of ns in
    let after = hook_of (changed (with_hook Removed) i ns) in
    let n : Node = get_or ns i (record { number = 0; hook = Root; content = content.Directory }) in
    let there : node_in ns k ≡ Some n =
    node_at_place ns k i (record { number = 0; hook = Root; content = content.Directory }) place
    in
    let h : Hangs ns next k i n = record { are = are; place = place; there = there } in
    let l : Loses hook after next k = record {
      tree = are.tree;
      not_root = can.not_root;
      gone = hung_here ns next k i n Removed h;
      others = hung_others ns next k i n Removed h;
      empty = nothing_hangs ns next k fs e are can;
    } in
    let placed : (j d : ℕ) (name : Name) → after j ≡ In d name → IsNodeName name
    × (is_directory_in ns d ≡ true) = λ j d name g.
    (let ne = here_still hook after next k l j (λ gone. absurd (let t : In d name
    ≡ Removed = sym g ∙ gone in cc)) in let before = sym (l.others j ne) ∙ g in
    (are.named j d name before, are.placed j d name before)) in
    let S = shown_node next hook in
    let T = shown_node next after in
    let g : FileNode → FileNode = λ x. record {
      number = x.number;
      path = None;
      content = x.content;
    } in
    let others : (m : Node) → m.number ≢ k → T m ≡ S m =
    λ m ne. ap (λ (o : Option Path). record {
      number = m.number;
      path = option_map reverse o;
      content = content_shown m.content;
    }) (lost_climb hook after next k l m.number ne) in
    let one : T (with_hook Removed n) ≡ g (S n) =
    ap (λ (o : Option Path). record {
      number = n.number;
      path = option_map reverse o;
      content = content_shown n.content;
    })
    (no_path next after n.number (ap after (number_in ns k n there) ∙ l.gone)) in
    record {
      nodes = hung_nodes ns next k i n Removed h (lost_tree hook after next k l) placed;
      files_are = ap (λ (xs : List FileNode). record {
        nodes = xs;
        next = next;
      }) (shown_changed_one S T g (with_hook Removed) 1 ns next k i n place there
          are.rising (λ m. refl) others one) ∙ ap (removed k) e;
      used = hung_used ns next k i n Removed h;
    }

-- where no node has the number nothing is changed
pub none_lost : (ns : List Node) (next k : ℕ) (fs : Files) → files ns next ≡ fs → IsNowhere ns k
    → fs ≡ removed k fs
none_lost ns next k fs e h =
    subst (λ (x : Files). x ≡ removed k x) e
    (ap (λ (xs : List FileNode). record {
      nodes = xs;
      next = next;
    }) (sym (none_changed (shown_node next (hook_of ns)) (λ (x : FileNode).
    record x { path = None }) ns k (λ m. refl) h)))
