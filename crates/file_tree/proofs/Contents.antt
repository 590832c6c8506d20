-- A file whose bytes are changed.
use Rattle.std.proofs.Common.{◌≡◌, ℕ, zero, suc, ◌∷◌, [], ◌+◌, ◌-◌, ◌*◌, ◌^◌, get_or, ◌<◌, ◌≤◌, inl}
use Rattle.std.proofs.Common.{inr, false, List, length, Option, Some, refl, sym, ap, subst, ◌∙◌}
use Rattle.std.proofs.Common.{arith, take, drop}
use Rattle.std.proofs.lemmas.List.{take_all, drop_all}
use Rattle.std.proofs.lemmas.Bool.{cases_eq}
use Rattle.file_tree.specs.declared.store.node.Hook.{Hook}
use Rattle.file_tree.specs.declared.store.node.Node.{Node}
use Rattle.file_tree.specs.Store.Stored.{changed}
use Rattle.file_tree.specs.rules.Bytes.{written, resized}
use Rattle.file_tree.specs.rules.Files.{FileNode, Files, Content, File, bytes_of_content}
use Rattle.file_tree.specs.rules.Files.{is_directory, is_directory_content, IsSmallContent}
use Rattle.file_tree.specs.rules.Files.{bytes_of_node, with_file_bytes}
use Rattle.file_tree.specs.declared.limits.TheConstants.{CHUNK_BYTES, NODES, FILE_BYTES}
use Rattle.file_tree.specs.rules.Chunks.{chunk_of}
use Rattle.file_tree.specs.Store.Changes.{node_written, node_resized}
use Rattle.file_tree.specs.Links.{IsTree, node_in, hook_held, hook_of, content_held, content_shown}
use Rattle.file_tree.specs.Links.{holds_directory_node, is_directory_in, file_bytes_of}
use Rattle.file_tree.specs.Links.{bytes_held_in, used_in, AreNodes, shown_node, files}
use Rattle.file_tree.specs.Links.{IsPlace, IsNowhere}
use Rattle.file_tree.proofs.Lookups.{directory_shown, bytes_shown, node_at_place}
use Rattle.file_tree.proofs.Lists.{in_changed_same, in_changed_other, rising_changed}
use Rattle.file_tree.proofs.Lists.{length-changed, all_changed, all_in, shown_changed_one}
use Rattle.file_tree.proofs.Lists.{none_changed, used_changed, used_holds, used_small}
use Rattle.file_tree.proofs.Sizes.{AreBytes, length-written, file_is, shown_written, shown_resized}
use Rattle.file_tree.proofs.Sizes.{small_written, small_resized}

-- the file at a place gets other bytes
pub record Rewrites (ns : List Node) (next k i : ℕ) (n : Node) (f : Node
    → Node) (bytes : List ℕ) : Type 0 where
  pub are : AreNodes ns next
  pub place : IsPlace ns k i
  pub there : node_in ns k ≡ Some n
  pub file : is_directory_content (content_shown n.content) ≡ false
  pub numbers : (m : Node) → (f m).number ≡ m.number
  pub hooks : (m : Node) → (f m).hook ≡ m.hook
  pub content : content_shown (f n).content ≡ File bytes
  pub small : IsSmallContent (File bytes)

module _ (ns : List Node) (next k i : ℕ) (n : Node) (f : Node
    → Node) (bytes : List ℕ) (r : Rewrites ns next k i n f bytes) where
  same_hook : (j : ℕ) → hook_of (changed f i ns) j ≡ hook_of ns j
  same_hook j = elim (cases_eq j k) [
    | inl same ↦ subst (λ (x : ℕ). hook_of (changed f i ns) x
        ≡ hook_of ns x) (sym same) (ap hook_held
        (in_changed_same f r.numbers ns k i n r.place r.there)
        ∙ r.hooks n ∙ sym (ap hook_held r.there))
    | inr ne ↦ ap hook_held (in_changed_other f r.numbers ns k i j r.place ne)
  ]

  same_hooks : hook_of (changed f i ns) ≡ hook_of ns
  same_hooks = λ i j. same_hook j i

  same_directory : (j : ℕ) → is_directory_in (changed f i ns) j ≡ is_directory_in ns j
  same_directory j = elim (cases_eq j k) [
    | inl same ↦ subst (λ (x : ℕ). is_directory_in (changed f i ns) x
        ≡ is_directory_in ns x) (sym same)
        (ap (λ (o : Option Node). holds_directory_node (content_held o))
        (in_changed_same f r.numbers ns k i n r.place r.there) ∙ ap is_directory_content r.content
        ∙ sym r.file
        ∙ sym (ap (λ (o : Option Node). holds_directory_node (content_held o)) r.there))
    | inr ne ↦ ap (λ (o : Option Node). holds_directory_node (content_held o))
        (in_changed_other f r.numbers ns k i j r.place ne)
  ]

  pub rewritten_nodes : AreNodes (changed f i ns) next
  rewritten_nodes = record {
    tree = subst (λ (h : ℕ → Hook). IsTree h next) (sym same_hooks) r.are.tree;
    rising = rising_changed f r.numbers 1 ns i next r.are.rising;
    named = λ j d name e. r.are.named j d name (sym (same_hook j) ∙ e);
    placed = λ j d name e. same_directory d ∙ r.are.placed j d name (sym (same_hook j) ∙ e);
    root = same_directory 1 ∙ r.are.root;
    contents = all_changed (λ (x : Node). IsSmallContent (content_shown x.content)) f ns k i n
        r.place r.there (subst IsSmallContent (sym r.content) r.small) r.are.contents;
    few = omega (arith, length-changed f ns i, r.are.few);
  }

  pub rewritten_files : files (changed f i ns) next ≡ with_file_bytes k bytes (files ns next)
  rewritten_files =
      let S = shown_node next (hook_of ns) in
      let after = shown_node next (hook_of (changed f i ns)) in
      let same : (m : Node) → after m ≡ S m =
      λ m. ap (λ (h : ℕ → Hook). shown_node next h m) same_hooks in
      let g : FileNode → FileNode = λ x. record {
        number = x.number;
        path = x.path;
        content = File bytes;
      } in
      let one : after (f n) ≡ g (S n) =
      same (f n) ∙ ap (λ (j : ℕ). record (S n) {
        number = j;
        path = (shown_node next (hook_of ns) (record (f n) { number = j })).path;
        content = content_shown (f n).content;
      }) (r.numbers n)
      ∙ ap (λ (c : Content). record {
        number = n.number;
        path = (S n).path;
        content = c;
      }) r.content in
      ap (λ (xs : List FileNode). record {
        nodes = xs;
        next = next;
      }) (shown_changed_one S after g f 1 ns next k i n r.place r.there r.are.rising
      (λ m. refl) (λ m ne. same m) one)

-- the file that a caller knows of
pub file_at : (ns : List Node) (next k : ℕ) (n : Node) (fs : Files) → files ns next ≡ fs
    → node_in ns k ≡ Some n → is_directory fs k ≡ false
    → is_directory_content (content_shown n.content) ≡ false
file_at ns next k n fs e there file =
    sym (ap (λ (o : Option Node). holds_directory_node (content_held o)) there)
    ∙ sym (directory_shown ns next k) ∙ ap (λ (x : Files). is_directory x k) e ∙ file

pub bytes_at : (ns : List Node) (next k : ℕ) (n : Node) (fs : Files) → files ns next ≡ fs
    → node_in ns k ≡ Some n → file_bytes_of n ≡ bytes_of_node fs k
bytes_at ns next k n fs e there = sym (ap bytes_held_in there) ∙ sym (bytes_shown ns next k)
    ∙ ap (λ (x : Files). bytes_of_node x k) e

-- where no node has the number nothing is changed
pub no_bytes_changed : (ns : List Node) (next k : ℕ) (bytes : List ℕ) (fs : Files)
    → files ns next ≡ fs → IsNowhere ns k → fs ≡ with_file_bytes k bytes fs
no_bytes_changed ns next k bytes fs e h =
    subst (λ (x : Files). x ≡ with_file_bytes k bytes x) e
    (ap (λ (xs : List FileNode). record {
      nodes = xs;
      next = next;
    }) (sym (none_changed (shown_node next (hook_of ns)) (λ (x : FileNode).
    record x { content = File bytes }) ns k (λ m. refl) h)))

-- all of it, where files are what the nodes show
pub record IsRewritten (ns : List Node) (next k i : ℕ) (n : Node) (f : Node
    → Node) (bytes : List ℕ) (fs : Files) : Type 0 where
  pub nodes : AreNodes (changed f i ns) next
  pub files_are : files (changed f i ns) next ≡ with_file_bytes k bytes fs
  pub used : used_in (changed f i ns) ≡ used_in ns - length (file_bytes_of n) + length bytes
  pub fits : used_in ns - length (file_bytes_of n) + length bytes < 2 ^ 64

is_rewritten : (ns : List Node) (next k i : ℕ) (n : Node) (f : Node
    → Node) (bytes : List ℕ) (fs : Files) → files ns next ≡ fs → Rewrites ns next k i n f bytes
    → IsRewritten ns next k i n f bytes fs
is_rewritten ns next k i n f bytes fs e r = record {
  nodes = rewritten_nodes ns next k i n f bytes r;
  files_are = rewritten_files ns next k i n f bytes r ∙ ap (with_file_bytes k bytes) e;
  used = omega (
    arith,
    used_changed f ns k i n r.place r.there,
    used_holds ns k n r.there,
    ap (λ (c : Content). length (bytes_of_content c)) r.content,
  );
  fits = (let most : length ns * FILE_BYTES ≤ NODES * FILE_BYTES = omega (arith, r.are.few) in
      omega (arith, used_small ns r.are.contents, most, r.small.0));
}

is_written : (ns : List Node) (next k i : ℕ) (n : Node) (from : ℕ) (bytes : List ℕ) (fs : Files)
    → files ns next ≡ fs → AreNodes ns next → IsPlace ns k i → n ≡ get_or ns i n
    → is_directory fs k ≡ false → AreBytes bytes → from + length bytes ≤ length (bytes_of_node fs k)
    → IsRewritten ns next k i n (node_written from bytes) (written (bytes_of_node fs k) from bytes)
    fs
is_written ns next k i n from bytes fs e are place at file b fits =
    let there : node_in ns k ≡ Some n = node_at_place ns k i n place
    ∙ ap (λ (x : Node). Some x) (sym at) in
    let is_file = file_at ns next k n fs e there file in
    let small : IsSmallContent (File (file_bytes_of n)) =
    subst IsSmallContent (file_is (content_shown n.content) is_file)
    (all_in (λ (x : Node). IsSmallContent (content_shown x.content)) ns k n there are.contents)
    in
    subst (λ (old : List ℕ). IsRewritten ns next k i n (node_written from bytes)
    (written old from bytes) fs) (bytes_at ns next k n fs e there)
    (is_rewritten ns next k i n (node_written from bytes) (written (file_bytes_of n) from bytes) fs
    e (record {
      are = are;
      place = place;
      there = there;
      file = is_file;
      numbers = λ m. refl;
      hooks = λ m. refl;
      content = shown_written from bytes n.content is_file;
      small = small_written (file_bytes_of n) from bytes small b (omega (
        arith,
        small.0,
        fits,
        ap length (bytes_at ns next k n fs e there),
      ));
    }))

pub is_resized : (ns : List Node) (next k i : ℕ) (n : Node) (size : ℕ) (fs : Files)
    → files ns next ≡ fs → AreNodes ns next → IsPlace ns k i → n ≡ get_or ns i n
    → is_directory fs k ≡ false → size ≤ FILE_BYTES
    → IsRewritten ns next k i n (node_resized size) (resized (bytes_of_node fs k) size) fs
is_resized ns next k i n size fs e are place at file fits =
    let there : node_in ns k ≡ Some n = node_at_place ns k i n place
    ∙ ap (λ (x : Node). Some x) (sym at) in
    let is_file = file_at ns next k n fs e there file in
    let small : IsSmallContent (File (file_bytes_of n)) =
    subst IsSmallContent (file_is (content_shown n.content) is_file)
    (all_in (λ (x : Node). IsSmallContent (content_shown x.content)) ns k n there are.contents)
    in
    subst (λ (old : List ℕ). IsRewritten ns next k i n (node_resized size) (resized old size) fs)
    (bytes_at ns next k n fs e there)
    (is_rewritten ns next k i n (node_resized size) (resized (file_bytes_of n) size) fs e (record {
      are = are;
      place = place;
      there = there;
      file = is_file;
      numbers = λ m. refl;
      hooks = λ m. refl;
      content = shown_resized size n.content is_file;
      small = small_resized (file_bytes_of n) size small fits;
    }))

pub bytes_at_place : (ns : List Node) (next k i : ℕ) (n : Node) (fs : Files) → files ns next ≡ fs
    → IsPlace ns k i → n ≡ get_or ns i n → file_bytes_of n ≡ bytes_of_node fs k
bytes_at_place ns next k i n fs e place at = bytes_at ns next k n fs e (node_at_place ns k i n place
    ∙ ap (λ (x : Node). Some x) (sym at))

-- bytes in the place of others, where files are what the nodes show
pub record IsOverwritten (ns : List Node) (next k i from : ℕ) (bytes : List ℕ)
    (fs : Files) : Type 0 where
  pub nodes : AreNodes (changed (node_written from bytes) i ns) next
  pub files_are : files (changed (node_written from bytes) i ns) next
      ≡ with_file_bytes k (written (bytes_of_node fs k) from bytes) fs
  pub used : used_in (changed (node_written from bytes) i ns) ≡ used_in ns

same_node : (a b : Node) → Some a ≡ Some b → a ≡ b
same_node a b e = cc

-- the node at a place, whatever stands for none
pub own_place : (ns : List Node) (k i : ℕ) (d : Node) → IsPlace ns k i
    → get_or ns i d ≡ get_or ns i (get_or ns i d)
own_place ns k i d place =
    same_node (get_or ns i d) (get_or ns i (get_or ns i d))
    (sym (node_at_place ns k i d place) ∙ node_at_place ns k i (get_or ns i d) place)

pub node_placed : (ns : List Node) (k i : ℕ) → IsPlace ns k i → (n : Node) × (n ≡ get_or ns i n)
node_placed [] k i h = absurd h
node_placed (n ∷ ns) k zero h = (n, refl)
node_placed (n ∷ ns) k (suc i) h = node_placed ns k i h.1

-- nothing is read where nothing is
pub nothing_read : (most from : ℕ) → ◌≡◌ {A = List ℕ} [] (take most (drop from []))
nothing_read most from =
    let none : List ℕ = [] in
    sym (ap (take most) (drop_all from none (omega arith)) ∙ take_all most none (omega arith))

pub nothing_in_chunk : (i : ℕ) → ◌≡◌ {A = List ℕ} [] (chunk_of [] i)
nothing_in_chunk i = nothing_read CHUNK_BYTES (i * CHUNK_BYTES)

-- the file with a number, by its place
pub placed_bytes : (ns : List Node) (k i : ℕ) (place : IsPlace ns k i)
    → file_bytes_of (node_placed ns k i place).0 ≡ bytes_held_in (node_in ns k)
placed_bytes ns k i place =
    let n = node_placed ns k i place in
    sym (ap bytes_held_in (node_at_place ns k i n.0 place ∙ ap (λ (x : Node). Some x) (sym n.1)))

pub is_overwritten : (ns : List Node) (next k i from : ℕ) (bytes : List ℕ) (fs : Files)
    → files ns next ≡ fs → AreNodes ns next → IsPlace ns k i → is_directory fs k ≡ false
    → AreBytes bytes → from + length bytes ≤ length (bytes_of_node fs k)
    → IsOverwritten ns next k i from bytes fs
is_overwritten ns next k i from bytes fs e are place file b fits =
    let n = node_placed ns k i place in
    let all = is_written ns next k i n.0 from bytes fs e are place n.1 file b fits in
    let there : node_in ns k ≡ Some n.0 = node_at_place ns k i n.0 place
    ∙ ap (λ (x : Node). Some x) (sym n.1) in
    let same : length (written (bytes_of_node fs k) from bytes) ≡ length (file_bytes_of n.0) =
    omega (
      arith,
      length-written (bytes_of_node fs k) from bytes,
      fits,
      ap length (bytes_at ns next k n.0 fs e there),
    ) in
    record {
      nodes = all.nodes;
      files_are = all.files_are;
      used = omega (arith, all.used, used_holds ns k n.0 there, same);
    }
