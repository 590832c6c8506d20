-- Changes that leave the entries of directories, and entries that are put in one after the other.
use Rattle.std.proofs.Common.{◌≡◌, ℕ, zero, suc, ◌+◌, ◌<◌, ◌≤◌, Bool, true, false, cond, eqb, List}
use Rattle.std.proofs.Common.{[], ◌∷◌, ◌++◌, length, map, take, Option, Some, None, refl, sym, ap}
use Rattle.std.proofs.Common.{subst, ◌∙◌, arith}
use Rattle.std.specs.Prelude.{find, slice_get, is_some}
use Rattle.std.specs.Option.{option_and_then}
use Rattle.file_tree.specs.declared.node_type.NodeType.{NodeType}
use Rattle.file_tree.specs.declared.limits.TheConstants.{NODES}
use Rattle.file_tree.specs.declared.store.node.Hook.TheVariants.{Removed}
use Rattle.file_tree.specs.declared.store.node.Node.{Node}
use Rattle.file_tree.specs.rules.Files.{Path, FileNode, Files, File, Entry, IsFiles, IsSmallContent}
use Rattle.file_tree.specs.rules.Files.{is_before, inserted, sorted, node_of, path_of, entry_of}
use Rattle.file_tree.specs.rules.Files.{is_directory, entries_in, entries_under, entries_of, used}
use Rattle.file_tree.specs.rules.Files.{changed_at, created_removed, with_next, with_file_bytes}
use Rattle.file_tree.specs.rules.Changes.{empty}
use Rattle.file_tree.specs.laws.Rebuilding.{HaveSameEntries, OthersKeepEntries, EntriesComeInOrder}
use Rattle.file_tree.proofs.Order.{Before, Ordered, before_both, not_itself, not_in_front, all_at}
use Rattle.file_tree.proofs.NearestNodes.{ordered_entries}
use Rattle.file_tree.proofs.IsFiles.{are_files}
use Rattle.file_tree.proofs.Rises.{risen_nodes, risen_files, is_added}
use Rattle.file_tree.proofs.KeptFiles.{rewritten_files_are}
use Rattle.file_tree.proofs.Rebuilt.{content_kept, content_same, rebuilt, rebuilt_are, rebuilt_show}

-- the path in what is found
abbrev path_in : Option FileNode → Option Path
path_in o = option_and_then (λ (n : FileNode). n.path) o

-- the node of a number
abbrev found_in : List FileNode → ℕ → Option FileNode
found_in ns j = find (λ (n : FileNode). eqb n.number j) ns

-- lists of nodes that give each directory the same entries, and each number the same path
record AreAlike (ns ms : List FileNode) : Type 0 where
  paths : (j : ℕ) → path_in (found_in ms j) ≡ path_in (found_in ns j)
  entries : (p : Path) → entries_in p ms ≡ entries_in p ns

same_entries : (fs gs : Files) → AreAlike fs.nodes gs.nodes → (d : ℕ)
    → entries_of gs d ≡ entries_of fs d
same_entries fs gs alike d = ap (entries_under gs) (alike.paths d) ∙ by (path_of fs d) where
  by : (o : Option Path) → entries_under gs o ≡ entries_under fs o
  by None = refl
  by (Some p) = ap sorted (alike.entries p)

all_same : (fs gs : Files) → AreAlike fs.nodes gs.nodes → IsFiles gs → HaveSameEntries fs gs
all_same fs gs alike are =
    record { are = are; entries = same_entries fs gs alike; paths = alike.paths }

-- one node more in front
next_same : (p : Path) (n m : FileNode) (ns ms : List FileNode) → entry_of p m ≡ entry_of p n
    → entries_in p ms ≡ entries_in p ns → entries_in p (m ∷ ms) ≡ entries_in p (n ∷ ns)
next_same p n m ns ms same rest = by (entry_of p n) refl same rest where
  by : (o : Option Entry) → entry_of p n ≡ o → entry_of p m ≡ entry_of p n
      → entries_in p ms ≡ entries_in p ns → entries_in p (m ∷ ms) ≡ entries_in p (n ∷ ns)
  by None e same rest = (let f : entry_of p m ≡ None = same ∙ e in rw (e, f) rest)
  by (Some x) e same rest =
      let f : entry_of p m ≡ Some x = same ∙ e in
      rw (e, f) (ap (λ (es : List Entry). x ∷ es) rest)

-- ---- a node without a path behind the others

module _ (n : FileNode) (none : n.path ≡ None) where
  path_pushed : (ns : List FileNode) (j : ℕ)
      → path_in (found_in (ns ++ n ∷ []) j) ≡ path_in (found_in ns j)
  path_pushed [] j = by (eqb n.number j) where
    by : (b : Bool) → path_in (cond b (Some n) None) ≡ None
    by true = none
    by false = refl
  path_pushed (m ∷ ns) j = by (eqb m.number j) (path_pushed ns j) where
    by : (b : Bool) → path_in (found_in (ns ++ n ∷ []) j) ≡ path_in (found_in ns j)
        → path_in (cond b (Some m) (found_in (ns ++ n ∷ []) j))
        ≡ path_in (cond b (Some m) (found_in ns j))
    by true later = refl
    by false later = later

  entries_pushed : (p : Path) (ns : List FileNode)
      → entries_in p (ns ++ n ∷ []) ≡ entries_in p ns
  entries_pushed p [] = rw none refl
  entries_pushed p (m ∷ ns) = next_same p m m ns (ns ++ n ∷ []) refl (entries_pushed p ns)

-- ---- other bytes

module _ (k : ℕ) (bytes : List ℕ) where
  abbrev with_bytes : FileNode → FileNode
  with_bytes n = record n { content = File bytes }

  path_rewritten : (ns : List FileNode) (j : ℕ)
      → path_in (found_in (map (changed_at k with_bytes) ns) j) ≡ path_in (found_in ns j)
  path_rewritten [] j = refl
  path_rewritten (n ∷ ns) j =
      by (eqb n.number k) (eqb n.number j) refl (path_rewritten ns j) where
        by : (b t : Bool) → eqb n.number j ≡ t
            → path_in (found_in (map (changed_at k with_bytes) ns) j) ≡ path_in (found_in ns j)
            → path_in (found_in (cond b (with_bytes n) n ∷ map (changed_at k with_bytes) ns) j)
            ≡ path_in (found_in (n ∷ ns) j)
        by true true e later = rw e refl
        by true false e later = rw e later
        by false true e later = rw e refl
        by false false e later = rw e later

  entries_rewritten : (p : Path) (ns : List FileNode)
      → entries_in p (map (changed_at k with_bytes) ns) ≡ entries_in p ns
  entries_rewritten p [] = refl
  entries_rewritten p (n ∷ ns) =
      next_same p n (changed_at k with_bytes n) ns (map (changed_at k with_bytes) ns)
      (by (eqb n.number k)) (entries_rewritten p ns) where
        by : (b : Bool) → entry_of p (cond b (with_bytes n) n) ≡ entry_of p n
        by true = refl
        by false = refl

-- ---- all of it

created_keeps : (fs : Files) (k : ℕ) (node_type : NodeType) → IsFiles fs → fs.next ≤ k
    → length fs.nodes < NODES → HaveSameEntries fs (created_removed k (empty node_type) fs)
created_keeps fs k node_type are most room =
    let x : Node = record {
      number = k;
      hook = Removed;
      content = content_kept
          (empty node_type);
    } in
    let added =
    is_added (rebuilt fs are) fs.next node_type x fs (rebuilt_show fs are)
    (rebuilt_are fs are) most room refl (content_same (empty node_type)) in
    let n : FileNode = record { number = k; path = None; content = empty node_type } in
    all_same fs (created_removed k (empty node_type) fs) (record {
      paths = path_pushed n refl fs.nodes;
      entries = λ p. entries_pushed n refl p fs.nodes;
    })
    (subst IsFiles added.files_are (are_files (rebuilt fs are ++ x ∷ []) (k + 1) added.nodes))

next_keeps : (fs : Files) (most : ℕ) → IsFiles fs → fs.next ≤ most
    → HaveSameEntries fs (with_next most fs)
next_keeps fs most are le =
    let ns = rebuilt fs are in
    let nodes = risen_nodes ns fs.next most (rebuilt_are fs are) le in
    all_same fs (with_next most fs) (record { paths = λ j. refl; entries = λ p. refl })
    (subst IsFiles (risen_files ns fs.next most fs (rebuilt_show fs are) (rebuilt_are fs are) le)
    (are_files ns most nodes))

pub some_node : (o : Option FileNode) → is_some o ≡ true → (n : FileNode) × (o ≡ Some n)
some_node None e = absurd cc
some_node (Some n) e = (n, refl)

bytes_keep : (fs : Files) (k : ℕ) (bytes : List ℕ) → IsFiles fs → is_some (node_of fs k) ≡ true
    → is_directory fs k ≡ false → IsSmallContent (File bytes)
    → HaveSameEntries fs (with_file_bytes k bytes fs)
bytes_keep fs k bytes are some file small =
    let n = some_node (node_of fs k) some in
    let within =
    rewritten_files_are fs are k n.0 n.1 bytes (used fs + length bytes) file small (omega arith) in
    all_same fs (with_file_bytes k bytes fs) (record {
      paths = path_rewritten k bytes fs.nodes;
      entries = λ p. entries_rewritten k bytes p fs.nodes;
    }) within.are

pub others_keep_entries : OthersKeepEntries
others_keep_entries = record { created = created_keeps; next = next_keeps; bytes = bytes_keep }

-- ---- entries in order

put_last : (es : List Entry) (i : ℕ) (e : Entry) → Ordered es → slice_get es i ≡ Some e
    → inserted e (take i es) ≡ take (suc i) es
put_last [] i e order is = absurd cc
put_last (f ∷ es) zero e order is = (let same : f ≡ e = cc in ap (λ (x : Entry). x ∷ []) (sym same))
put_last (f ∷ es) (suc i) e order is =
    let front : Before f.name e.name =
    all_at (λ (g : Entry). Before f.name g.name) es i e order.0 is in
    let behind : is_before e.name f.name ≡ false =
    not_in_front e.name f.name
    (λ b. not_itself e.name (before_both e.name f.name e.name b front)) in
    ap (λ (b : Bool). cond b (e ∷ f ∷ take i es) (f ∷ inserted e (take i es))) behind
    ∙ ap (λ (xs : List Entry). f ∷ xs) (put_last es i e order.1 is)

pub entries_come_in_order : EntriesComeInOrder
entries_come_in_order fs d place e are is =
    let order : Ordered (entries_of fs d) =
    subst (λ (x : Files). Ordered (entries_of x d)) (rebuilt_show fs are)
    (ordered_entries (rebuilt fs are) fs.next d (rebuilt_are fs are)) in
    let more : suc place ≡ place + 1 = omega arith in
    put_last (entries_of fs d) place e order is
    ∙ ap (λ (i : ℕ). take i (entries_of fs d)) more
