-- A node that is hung in a directory is one entry more there.
use Rattle.std.proofs.Common.{◌≡◌, ◌≢◌, ◌⊎◌, inl, inr, ℕ, zero, suc, Bool, true, false, cond, eqb}
use Rattle.std.proofs.Common.{List, [], ◌∷◌, ◌++◌, map, Option, Some, None, refl, sym, ap, subst}
use Rattle.std.proofs.Common.{◌∙◌}
use Rattle.std.specs.Prelude.{option_map, find, is_some}
use Rattle.std.specs.Option.{option_and_then}
use Rattle.std.specs.List.{AllByRecursion}
use Rattle.std.proofs.lemmas.Bool.{eqb-true, eq-eqb, ne_eqb}
use Rattle.file_tree.specs.declared.store.node.Hook.{Hook}
use Rattle.file_tree.specs.declared.store.node.Hook.TheVariants.{Root, Removed, In}
use Rattle.file_tree.specs.declared.store.node.Node.{Node}
use Rattle.file_tree.specs.Store.Stored.{changed}
use Rattle.file_tree.specs.Store.Changes.{with_hook}
use Rattle.file_tree.specs.rules.Files.{Name, Path, FileNode, Files, Content, Entry, IsFiles}
use Rattle.file_tree.specs.rules.Files.{is_before, inserted, sorted, node_of, path_of, entries_of}
use Rattle.file_tree.specs.rules.Files.{entries_under, changed_at, hung}
use Rattle.file_tree.specs.rules.Changes.{path_at, CanHang}
use Rattle.file_tree.specs.laws.Laws.{node_number, content_of}
use Rattle.file_tree.specs.laws.Rebuilding.{entry_under, HasHung, HangingAddsAnEntry}
use Rattle.file_tree.specs.Links.{node_in, hook_held, hook_of, AreNodes, files, IsPlace}
use Rattle.file_tree.specs.Links.{hooked_name, hooked_entry, hooked_entries, with_entry}
use Rattle.file_tree.proofs.Order.{Before, before_or_not, before_both}
use Rattle.file_tree.proofs.Seen.{entries_shown, own_hooks}
use Rattle.file_tree.proofs.Grows.{free_in}
use Rattle.file_tree.proofs.IsFiles.{are_files}
use Rattle.file_tree.proofs.Returns.{IsReturned, not_hung, is_returned}
use Rattle.file_tree.proofs.KeptFiles.{place_in}
use Rattle.file_tree.proofs.Rebuilt.{rebuilt, rebuilt_are, rebuilt_show, there, found_number}
use Rattle.file_tree.proofs.Closest.{Sides, sides}
use Rattle.file_tree.proofs.KeptEntries.{some_node}
use Rattle.file_tree.proofs.Forgets.{no_path_is}

-- ---- two entries are put in either way round

put_both : (e f : Entry) (es : List Entry) → e.name ≢ f.name
    → inserted f (inserted e es) ≡ inserted e (inserted f es)
put_both e f [] ne = by (sides e.name f.name ne) where
  by : Sides e.name f.name
      → cond (is_before f.name e.name) (f ∷ e ∷ []) (e ∷ f ∷ [])
      ≡ cond (is_before e.name f.name) (e ∷ f ∷ []) (f ∷ e ∷ [])
  by (inl h) = (let a = h.0 in let b = h.1 in rw (a, b) refl)
  by (inr h) = (let a = h.0 in let b = h.1 in rw (a, b) refl)
put_both e f (g ∷ es) ne =
    by (before_or_not e.name g.name) (before_or_not f.name g.name) (sides e.name f.name ne)
    (put_both e f es ne) where
      Side : Name → Name → Type 0
      Side x y =
          ((is_before x y ≡ true) × Before x y) ⊎ ((is_before x y ≡ false) × (Before x y → ⊥))

      by : Side e.name g.name → Side f.name g.name → Sides e.name f.name
          → inserted f (inserted e es) ≡ inserted e (inserted f es)
          → inserted f (cond (is_before e.name g.name) (e ∷ g ∷ es) (g ∷ inserted e es))
          ≡ inserted e (cond (is_before f.name g.name) (f ∷ g ∷ es) (g ∷ inserted f es))
      by (inl u) (inl v) (inl s) later =
          (let p = u.0 in let q = v.0 in let a = s.0 in let b = s.1 in simp (p, q, a, b))
      by (inl u) (inl v) (inr s) later =
          (let p = u.0 in let q = v.0 in let a = s.0 in let b = s.1 in simp (p, q, a, b))
      by (inl u) (inr v) (inl s) later =
          (let p = u.0 in let q = v.0 in let b = s.1 in simp (p, q, b))
      by (inl u) (inr v) (inr s) later =
          absurd (v.1 (before_both f.name e.name g.name s.2 u.1))
      by (inr u) (inl v) (inl s) later =
          absurd (u.1 (before_both e.name f.name g.name s.2 v.1))
      by (inr u) (inl v) (inr s) later =
          (let p = u.0 in let q = v.0 in let a = s.0 in simp (p, q, a))
      by (inr u) (inr v) s later =
          ap (λ (t : Bool). inserted f (cond t (e ∷ g ∷ es) (g ∷ inserted e es))) u.0
          ∙ ap (λ (t : Bool). cond t (f ∷ g ∷ inserted e es) (g ∷ inserted f (inserted e es))) v.0
          ∙ ap (λ (xs : List Entry). g ∷ xs) later
          ∙ sym (ap (λ (t : Bool). inserted e (cond t (f ∷ g ∷ es) (g ∷ inserted f es))) v.0
          ∙ ap (λ (t : Bool). cond t (e ∷ g ∷ inserted f es) (g ∷ inserted e (inserted f es))) u.0)

-- ---- the entry of one node

own_entry : (d : ℕ) (name : Name) (n : Node)
    → hooked_entry d (with_hook (In d name) n) ≡ Some (entry_under name n.number)
own_entry d name n = rw (eq-eqb d d refl) refl

other_entry : (d e : ℕ) (name : Name) (n : Node) → e ≢ d
    → hooked_entry e (with_hook (In d name) n) ≡ None
other_entry d e name n ne = rw (ne_eqb d e (λ same. ne (sym same))) refl

no_entry : (d : ℕ) (n : Node) → n.hook ≡ Removed → hooked_entry d n ≡ None
no_entry d n gone = rw gone refl

entry_name : (other : Name) (k : ℕ) (f : Entry) → Some (entry_under other k) ≡ Some f
    → other ≡ f.name
entry_name other k f e =
    (let same : entry_under other k ≡ f = cc in ap (λ (x : Entry). x.name) same)

-- a node with an entry hangs there under its name
entry_hook : (d : ℕ) (n : Node) (f : Entry) → hooked_entry d n ≡ Some f → n.hook ≡ In d f.name
entry_hook d n f e = by n.hook e where
  by_test : (x : ℕ) (other : Name) (b : Bool) → eqb x d ≡ b
      → option_map (λ (name : Name). entry_under name n.number) (cond b (Some other) None) ≡ Some f
      → In x other ≡ In d f.name
  by_test x other true is e =
      ap (λ (y : ℕ). In y other) (eqb-true x d is) ∙ ap (In d) (entry_name other n.number f e)
  by_test x other false is e = absurd cc

  by : (h : Hook)
      → option_map (λ (name : Name). entry_under name n.number) (hooked_name d h) ≡ Some f
      → h ≡ In d f.name
  by Root e = absurd cc
  by Removed e = absurd cc
  by (In x other) e = by_test x other (eqb x d) refl e

-- ---- the entries after the node at a place is hung

first_removed : (n : Node) (ns : List Node) (k : ℕ) → n.number ≡ k → hook_of (n ∷ ns) k ≡ Removed
    → n.hook ≡ Removed
first_removed n ns k e gone =
    sym (ap (λ (b : Bool). hook_held (cond b (Some n) (node_in ns k))) (eq-eqb n.number k e)) ∙ gone

later_removed : (n : Node) (ns : List Node) (k : ℕ) → n.number ≢ k → hook_of (n ∷ ns) k ≡ Removed
    → hook_of ns k ≡ Removed
later_removed n ns k ne gone =
    sym (ap (λ (b : Bool). hook_held (cond b (Some n) (node_in ns k))) (ne_eqb n.number k ne))
    ∙ gone

others_same : (d e k : ℕ) (name : Name) → e ≢ d → (ns : List Node) (i : ℕ) → IsPlace ns k i
    → hook_of ns k ≡ Removed
    → hooked_entries e (changed (with_hook (In d name)) i ns) ≡ hooked_entries e ns
others_same d e k name ne [] i at gone = absurd at
others_same d e k name ne (n ∷ ns) zero at gone =
    ap (λ (o : Option Entry). with_entry o (hooked_entries e ns))
    (other_entry d e name n ne ∙ sym (no_entry e n (first_removed n ns k at gone)))
others_same d e k name ne (n ∷ ns) (suc i) at gone =
    ap (with_entry (hooked_entry e n))
    (others_same d e k name ne ns i at.1 (later_removed n ns k at.0 gone))

one_more : (d k : ℕ) (name : Name) (ns : List Node) (i : ℕ) → IsPlace ns k i
    → hook_of ns k ≡ Removed → AllByRecursion (λ (n : Node). n.hook ≢ In d name) ns
    → sorted (hooked_entries d (changed (with_hook (In d name)) i ns))
    ≡ inserted (entry_under name k) (sorted (hooked_entries d ns))
one_more d k name [] i at gone free = absurd at
one_more d k name (n ∷ ns) zero at gone free =
    ap (λ (o : Option Entry). sorted (with_entry o (hooked_entries d ns)))
    (own_entry d name n ∙ ap (λ (j : ℕ). Some (entry_under name j)) at)
    ∙ sym (ap (λ (o : Option Entry).
    inserted (entry_under name k) (sorted (with_entry o (hooked_entries d ns))))
    (no_entry d n (first_removed n ns k at gone)))
one_more d k name (n ∷ ns) (suc i) at gone free =
    by (hooked_entry d n) (λ f is same.
    free.0 (entry_hook d n f is ∙ ap (In d) (sym same)))
    (one_more d k name ns i at.1 (later_removed n ns k at.0 gone) free.1) where
      new : Entry
      new = entry_under name k

      es : List Entry
      es = hooked_entries d ns

      after : List Entry
      after = hooked_entries d (changed (with_hook (In d name)) i ns)

      by : (o : Option Entry) → ((f : Entry) → o ≡ Some f → name ≢ f.name)
          → sorted after ≡ inserted new (sorted es)
          → sorted (with_entry o after) ≡ inserted new (sorted (with_entry o es))
      by None apart later = later
      by (Some f) apart later = ap (inserted f) later ∙ put_both new f (sorted es) (apart f refl)

none_here : (d : ℕ) (name : Name) (hook : ℕ → Hook) (ns : List Node)
    → AllByRecursion (λ (n : Node). hook n.number ≡ n.hook) ns
    → ((k : ℕ) → hook k ≡ In d name → ⊥) → AllByRecursion (λ (n : Node). n.hook ≢ In d name) ns
none_here d name hook [] own free = tt
none_here d name hook (n ∷ ns) own free =
    ((λ e. free n.number (own.0 ∙ e)), none_here d name hook ns own.1 free)

-- ---- nodes with another path

module _ (k : ℕ) (p : Path) where
  abbrev put_at : FileNode → FileNode
  put_at n = record n { path = Some p }

  numbers_kept : (ns : List FileNode)
      → map node_number ns ≡ map node_number (map (changed_at k put_at) ns)
  numbers_kept [] = refl
  numbers_kept (n ∷ ns) = by (eqb n.number k) (numbers_kept ns) where
    by : (b : Bool) → map node_number ns ≡ map node_number (map (changed_at k put_at) ns)
        → n.number ∷ map node_number ns
        ≡ node_number (cond b (put_at n) n) ∷ map node_number (map (changed_at k put_at) ns)
    by true later = ap (λ (xs : List ℕ). n.number ∷ xs) later
    by false later = ap (λ (xs : List ℕ). n.number ∷ xs) later

  contents_kept : (ns : List FileNode)
      → map content_of ns ≡ map content_of (map (changed_at k put_at) ns)
  contents_kept [] = refl
  contents_kept (n ∷ ns) = by (eqb n.number k) (contents_kept ns) where
    by : (b : Bool) → map content_of ns ≡ map content_of (map (changed_at k put_at) ns)
        → n.content ∷ map content_of ns
        ≡ content_of (cond b (put_at n) n) ∷ map content_of (map (changed_at k put_at) ns)
    by true later = ap (λ (xs : List Content). n.content ∷ xs) later
    by false later = ap (λ (xs : List Content). n.content ∷ xs) later

  found_kept : (ns : List FileNode) (j : ℕ)
      → find (λ (n : FileNode). eqb n.number j) (map (changed_at k put_at) ns)
      ≡ option_map (changed_at k put_at) (find (λ (n : FileNode). eqb n.number j) ns)
  found_kept [] j = refl
  found_kept (n ∷ ns) j = by (eqb n.number k) (eqb n.number j) refl refl (found_kept ns j) where
    Later : Type 0
    Later =
        find (λ (n : FileNode). eqb n.number j) (map (changed_at k put_at) ns)
        ≡ option_map (changed_at k put_at) (find (λ (n : FileNode). eqb n.number j) ns)

    by : (b t : Bool) → eqb n.number k ≡ b → eqb n.number j ≡ t → Later
        → find (λ (n : FileNode). eqb n.number j) (map (changed_at k put_at) (n ∷ ns))
        ≡ option_map (changed_at k put_at) (find (λ (n : FileNode). eqb n.number j) (n ∷ ns))
    by true true is test later = rw (is, test) (rw is refl)
    by true false is test later = rw (is, test) later
    by false true is test later = rw (is, test) (rw is refl)
    by false false is test later = rw (is, test) later

  own_path : (fs : Files) (n : FileNode) → node_of fs k ≡ Some n → path_of (hung k p fs) k ≡ Some p
  own_path fs n e =
      ap (option_and_then (λ (x : FileNode). x.path))
      (found_kept fs.nodes k ∙ ap (option_map (changed_at k put_at)) e)
      ∙ ap (λ (b : Bool). (cond b (put_at n) n).path)
      (eq-eqb n.number k (found_number fs.nodes k n e))

  other_path : (fs : Files) (j : ℕ) → j ≢ k → path_of (hung k p fs) j ≡ path_of fs j
  other_path fs j ne =
      ap (option_and_then (λ (x : FileNode). x.path)) (found_kept fs.nodes j)
      ∙ by (node_of fs j) refl where
        by : (o : Option FileNode) → node_of fs j ≡ o
            → option_and_then (λ (x : FileNode). x.path) (option_map (changed_at k put_at) o)
            ≡ option_and_then (λ (x : FileNode). x.path) o
        by None e = refl
        by (Some n) e =
            let same = found_number fs.nodes j n e in
            ap (λ (b : Bool). (cond b (put_at n) n).path)
            (ne_eqb n.number k (λ is. ne (sym same ∙ is)))

-- ---- all of it

module _ (ns : List Node) (next k i d : ℕ) (name : Name) (are : AreNodes ns next)
    (place : IsPlace ns k i) (can : CanHang (files ns next) k d name) where
  abbrev before : Files
  before = files ns next

  abbrev after : Files
  after = hung k (path_at before d ++ name ∷ []) before

  all : IsReturned ns next k i d name before
  all = is_returned ns next k i d name before refl are place can

  gone : hook_of ns k ≡ Removed
  gone = not_hung ns next k are can.no_path

  free : AllByRecursion (λ (n : Node). n.hook ≢ In d name) ns
  free =
      none_here d name (hook_of ns) ns (own_hooks 1 ns next are.rising)
      (free_in ns next d name are can.free).1.free

  shown_after : (e : ℕ) → entries_of after e
      ≡ sorted (hooked_entries e (changed (with_hook (In d name)) i ns))
  shown_after e =
      ap (λ (x : Files). entries_of x e) (sym all.files_are)
      ∙ entries_shown (changed (with_hook (In d name)) i ns) next e all.nodes

  pub entries_here : entries_of after d ≡ inserted (entry_under name k) (entries_of before d)
  entries_here =
      shown_after d ∙ one_more d k name ns i place gone free
      ∙ ap (inserted (entry_under name k)) (sym (entries_shown ns next d are))

  pub entries_elsewhere : (e : ℕ) → e ≢ d → entries_of after e ≡ entries_of before e
  entries_elsewhere e ne =
      shown_after e ∙ ap sorted (others_same d e k name ne ns i place gone)
      ∙ sym (entries_shown ns next e are)

  not_own : k ≢ d
  not_own e =
      absurd (let t : true ≡ false =
      sym can.free.path ∙ ap (λ (j : ℕ). is_some (path_of before j)) (sym e) ∙ can.no_path in cc)

  pub entries_own : entries_of after k ≡ []
  entries_own =
      entries_elsewhere k not_own
      ∙ ap (entries_under before) (no_path_is (path_of before k) can.no_path)

  pub files_after : IsFiles after
  files_after =
      subst IsFiles all.files_are
      (are_files (changed (with_hook (In d name)) i ns) next all.nodes)

hanging : (ns : List Node) (next k d : ℕ) (name : Name) (x : Node) → AreNodes ns next
    → node_in ns k ≡ Some x → (n : FileNode) → node_of (files ns next) k ≡ Some n
    → CanHang (files ns next) k d name
    → HasHung (files ns next)
    (hung k (path_at (files ns next) d ++ name ∷ []) (files ns next)) k d name
hanging ns next k d name x are held n found can =
    let at = place_in ns k x held in
    let fs = files ns next in
    let p = path_at fs d ++ name ∷ [] in
    record {
      are = files_after ns next k at.0 d name are at.1 can;
      nodes = record {
        next = refl;
        numbers = numbers_kept k p fs.nodes;
        contents = contents_kept k p fs.nodes;
      };
      here = entries_here ns next k at.0 d name are at.1 can;
      others = entries_elsewhere ns next k at.0 d name are at.1 can;
      own = entries_own ns next k at.0 d name are at.1 can;
      path = own_path k p fs n found;
      paths = λ j ne. other_path k p fs j ne;
    }

pub hanging_adds_an_entry : HangingAddsAnEntry
hanging_adds_an_entry fs k d name are some can =
    let n = some_node (node_of fs k) some in
    let x = there fs are k n.0 n.1 in
    subst (λ (y : Files). node_of y k ≡ Some n.0 → CanHang y k d name
    → HasHung y (hung k (path_at y d ++ name ∷ []) y) k d name) (rebuilt_show fs are)
    (λ found can.
    hanging (rebuilt fs are) fs.next k d name x.0 (rebuilt_are fs are) x.1 n.0 found can)
    n.1 can
