-- A node that is dropped.
use Rattle.std.proofs.Common.{◌≡◌, ◌≢◌, ℕ, zero, suc, ◌+◌, ◌<◌, ◌≤◌, inl, inr, Bool, false, not}
use Rattle.std.proofs.Common.{cond, eqb, List, [], ◌∷◌, length, map, get_or, Option, Some, None}
use Rattle.std.proofs.Common.{refl, sym, ap, subst, ◌∙◌, arith}
use Rattle.std.specs.Prelude.{filter, is_some}
use Rattle.std.specs.List.{AllByRecursion, remove}
use Rattle.std.proofs.lemmas.Bool.{cases_eq, eq-eqb, ne_eqb}
use Rattle.std.proofs.lemmas.List.Edits.{length-remove}
use Rattle.std.proofs.lemmas.List.Sums.{sum_by-remove}
use Rattle.file_tree.specs.declared.store.node.Hook.{Hook}
use Rattle.file_tree.specs.declared.store.node.Hook.TheVariants.{Root, Removed, In}
use Rattle.file_tree.specs.declared.store.node.Node.{Node}
use Rattle.file_tree.specs.rules.Files.{Name, Path, FileNode, Files, IsSmallContent, forgotten}
use Rattle.file_tree.specs.rules.Files.{path_of}
use Rattle.file_tree.specs.Links.{IsTree, node_in, hook_held, hook_of, content_held, content_shown}
use Rattle.file_tree.specs.Links.{holds_directory_node, is_directory_in, is_hung, file_bytes_of}
use Rattle.file_tree.specs.Links.{used_in, AreNodes, AreRisingNodes, shown_node, files}
use Rattle.file_tree.specs.Links.{IsPlace, IsNowhere}
use Rattle.file_tree.proofs.Lookups.{node_nowhere, hung_has_path}
use Rattle.file_tree.proofs.Lists.{numbers_from, nowhere_above}
use Rattle.file_tree.proofs.Seen.{nothing_in}

in_without_other : (ns : List Node) (k i j : ℕ) → IsPlace ns k i → j ≢ k
    → node_in (remove ns i) j ≡ node_in ns j
in_without_other [] k i j h ne = absurd h
in_without_other (m ∷ ns) k zero j h ne =
    sym (ap (λ (b : Bool). cond b (Some m) (node_in ns j)) (ne_eqb m.number j (λ e. ne (sym e
    ∙ h))))
in_without_other (m ∷ ns) k (suc i) j h ne =
    ap (λ (o : Option Node). cond (eqb m.number j) (Some m) o) (in_without_other ns k i j h.1 ne)

nowhere_without : (least : ℕ) (ns : List Node) (next k i : ℕ) → AreRisingNodes least ns next
    → IsPlace ns k i → IsNowhere (remove ns i) k
nowhere_without least [] next k i rising h = absurd h
nowhere_without least (m ∷ ns) next k zero rising h =
    nowhere_above k (m.number + 1) ns (omega (
      arith,
      h,
    )) (numbers_from (m.number + 1) ns next rising.1)
nowhere_without least (m ∷ ns) next k (suc i) rising h =
    (h.0, nowhere_without (m.number + 1) ns next k i rising.1 h.1)

lower : (less least : ℕ) (ns : List Node) (next : ℕ) → less ≤ least → AreRisingNodes least ns next
    → AreRisingNodes less ns next
lower less least [] next le h = omega (arith, le, h)
lower less least (m ∷ ns) next le h = (omega (arith, le, h.0), h.1)

rising_without : (least : ℕ) (ns : List Node) (next i : ℕ) → AreRisingNodes least ns next
    → AreRisingNodes least (remove ns i) next
rising_without least [] next zero h = h
rising_without least [] next (suc i) h = h
rising_without least (m ∷ ns) next zero h =
    lower least (m.number + 1) ns next (omega (arith, h.0)) h.1
rising_without least (m ∷ ns) next (suc i) h = (h.0, rising_without (m.number + 1) ns next i h.1)

all_without : (P : Node → Type 0) (ns : List Node) (i : ℕ) → AllByRecursion P ns
    → AllByRecursion P (remove ns i)
all_without P [] zero h = tt
all_without P [] (suc i) h = tt
all_without P (m ∷ ns) zero h = h.1
all_without P (m ∷ ns) (suc i) h = (h.0, all_without P ns i h.1)

within_place : (ns : List Node) (k i : ℕ) → IsPlace ns k i → i < length ns
within_place [] k i h = absurd h
within_place (m ∷ ns) k zero h = omega arith
within_place (m ∷ ns) k (suc i) h = omega (arith, within_place ns k i h.1)

all_kept : (S : Node → FileNode) (ns : List Node) (k : ℕ) → ((m : Node) → (S m).number ≡ m.number)
    → IsNowhere ns k → map S ns ≡ filter (λ (n : FileNode). not (eqb n.number k)) (map S ns)
all_kept S [] k numbers h = refl
all_kept S (m ∷ ns) k numbers h =
    ap (λ (xs : List FileNode). S m ∷ xs) (all_kept S ns k numbers h.1)
    ∙ sym (ap (λ (b : Bool). cond (not b) (S m
    ∷ filter (λ (n : FileNode). not (eqb n.number k)) (map S ns)) (filter (λ (n : FileNode).
    not (eqb n.number k)) (map S ns))) (ne_eqb (S m).number k (λ e. h.0 (sym (numbers m) ∙ e))))

shown_without : (S : Node → FileNode) (least : ℕ) (ns : List Node) (next k i : ℕ)
    → ((m : Node) → (S m).number ≡ m.number) → AreRisingNodes least ns next → IsPlace ns k i
    → map S (remove ns i) ≡ filter (λ (n : FileNode). not (eqb n.number k)) (map S ns)
shown_without S least [] next k i numbers rising h = absurd h
shown_without S least (m ∷ ns) next k zero numbers rising h =
    all_kept S ns k numbers (nowhere_without least (m ∷ ns) next k 0 rising h)
    ∙ sym (ap (λ (b : Bool). cond (not b) (S m
    ∷ filter (λ (n : FileNode). not (eqb n.number k)) (map S ns)) (filter (λ (n : FileNode).
    not (eqb n.number k)) (map S ns))) (eq-eqb (S m).number k (numbers m ∙ h)))
shown_without S least (m ∷ ns) next k (suc i) numbers rising h =
    ap (λ (xs : List FileNode). S m
    ∷ xs) (shown_without S (m.number + 1) ns next k i numbers rising.1 h.1)
    ∙ sym (ap (λ (b : Bool). cond (not b) (S m
    ∷ filter (λ (n : FileNode). not (eqb n.number k)) (map S ns)) (filter (λ (n : FileNode).
    not (eqb n.number k)) (map S ns))) (ne_eqb (S m).number k (λ e. h.0 (sym (numbers m) ∙ e))))

pub not_hung : (h : Hook) → is_hung h ≡ false → h ≡ Removed
not_hung Root e = absurd cc
not_hung Removed e = refl
not_hung (In d name) e = absurd cc

-- all of it, where files are what the nodes show
pub record IsForgotten (ns : List Node) (next k i : ℕ) (n : Node) (fs : Files) : Type 0 where
  pub nodes : AreNodes (remove ns i) next
  pub files_are : files (remove ns i) next ≡ forgotten k fs
  pub used : used_in (remove ns i) + length (file_bytes_of n) ≡ used_in ns

pub no_path_is : (o : Option Path) → is_some o ≡ false → o ≡ None
no_path_is None e = refl
no_path_is (Some p) e = absurd cc

pub is_forgotten : (ns : List Node) (next k i : ℕ) (n : Node) (fs : Files) → files ns next ≡ fs
    → AreNodes ns next → IsPlace ns k i → n ≡ get_or ns i n → is_some (path_of fs k) ≡ false
    → IsForgotten ns next k i n fs
is_forgotten ns next k i n fs e are place at gone =
    let unseen : is_some (path_of (files ns next) k) ≡ false =
    ap (λ (x : Files). is_some (path_of x k)) e ∙ gone in
    let was : hook_of ns k ≡ Removed = not_hung (hook_of ns k) (sym (hung_has_path ns next k are)
    ∙ unseen) in
    let vacant : node_in (remove ns i) k ≡ None =
    node_nowhere (remove ns i) k (nowhere_without 1 ns next k i are.rising place) in
    let same : (j : ℕ) → hook_of (remove ns i) j ≡ hook_of ns j = λ j. elim (cases_eq j k) [
      | inl eq ↦ ap (hook_of (remove ns i)) eq ∙ ap hook_held vacant ∙ sym was
          ∙ ap (hook_of ns) (sym eq)
      | inr ne ↦ ap hook_held (in_without_other ns k i j place ne)
    ] in
    let hooks : hook_of (remove ns i) ≡ hook_of ns = λ i j. same j i in
    let stays : (d : ℕ) → d ≢ k → is_directory_in (remove ns i) d ≡ is_directory_in ns d =
    λ d ne. ap (λ (o : Option Node). holds_directory_node (content_held o))
    (in_without_other ns k i d place ne) in
    let empty : (j d : ℕ) (name : Name) → hook_of ns j ≡ In d name → d ≢ k =
    λ j d name h eq. nothing_in ns next k are (no_path_is (path_of (files ns next) k) unseen) j
    name (h ∙ ap (λ (x : ℕ). In x name) eq) in
    let lt = within_place ns k i place in
    record {
      nodes = record {
        tree = subst (λ (h : ℕ → Hook). IsTree h next) (sym hooks) are.tree;
        rising = rising_without 1 ns next i are.rising;
        named = λ j d name h. are.named j d name (sym (same j) ∙ h);
        placed = λ j d name h. (let before = sym (same j) ∙ h in stays d (empty j d name before)
            ∙ are.placed j d name before);
        root = stays 1 (λ eq. absurd (let t : Root ≡ Removed = sym are.tree.root
            ∙ ap (hook_of ns) eq ∙ was in cc)) ∙ are.root;
        contents = all_without (λ (x : Node). IsSmallContent (content_shown x.content)) ns i
            are.contents;
        few = omega (arith, length-remove ns i lt, are.few);
      };
      files_are =
          ap (λ (h : ℕ → Hook). record {
            nodes = map (shown_node next h) (remove ns i);
            next = next;
          }) hooks
          ∙ ap (λ (xs : List FileNode). record {
            nodes = xs;
            next = next;
          }) (shown_without (shown_node next (hook_of ns)) 1 ns next k i (λ m.
          refl) are.rising place)
          ∙ ap (forgotten k) e;
      used = (let sum = sum_by-remove (λ (x : Node). length (file_bytes_of x)) ns i n lt in
          omega (arith, sum, ap (λ (x : Node). length (file_bytes_of x)) at));
    }

-- where no node has the number nothing is changed
pub none_forgotten : (ns : List Node) (next k : ℕ) (fs : Files) → files ns next ≡ fs
    → IsNowhere ns k → fs ≡ forgotten k fs
none_forgotten ns next k fs e h =
    subst (λ (x : Files). x ≡ forgotten k x) e
    (ap (λ (xs : List FileNode). record {
      nodes = xs;
      next = next;
    }) (all_kept (shown_node next (hook_of ns)) ns k (λ m. refl) h))
