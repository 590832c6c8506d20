-- The numbers of a file system are within the fields that an image has for them.
use Rattle.std.proofs.Common.{◌≡◌, inl, inr, ℕ, suc, ◌<◌, ◌≤◌, List, [], ◌∷◌, ◌++◌, length}
use Rattle.std.proofs.Common.{length-append, map, Option, Some, None, refl, ap, arith, subst, sym}
use Rattle.std.specs.List.{AllByRecursion}
use Rattle.std.proofs.lemmas.List.{length-map}
use Rattle.file_tree.specs.rules.Files.{IsNodeName, Name, Path, Files, FileNode, Content, Directory}
use Rattle.file_tree.specs.rules.Files.{File, Entry, path_of, entry_of, entries_in, entries_under}
use Rattle.file_tree.specs.rules.Files.{entries_of, IsPlaced, IsSmallContent, IsFiles}
use Rattle.file_tree.proofs.Order.{all_sorted}
use Rattle.file_tree.proofs.Seen.{length-sorted}
use Rattle.file_tree.proofs.Rebuilt.{numbers_below}
use Rattle.state_image.specs.rules.Ranges.{IsIn, AreFew, IsEntryIn}
use Rattle.state_image.specs.restoring.Named.{held_of, named}
use Rattle.state_image.proofs.Named.{IsHeldIn, IsNamedIn, AreNamedIn}
use Rattle.state_image.proofs.Among.{IsAmong, all_among, among_all, next_entries, is_entry_of}
use Rattle.state_image.proofs.PathsTold.{placed_at}

-- ---- how many entries

no_more_entries : (p : Path) (ns : List FileNode) → length (entries_in p ns) ≤ length ns
no_more_entries p [] = omega arith
no_more_entries p (n ∷ ns) = by (entry_of p n) refl (no_more_entries p ns) where
  by : (o : Option Entry) → entry_of p n ≡ o → length (entries_in p ns) ≤ length ns
      → length (entries_in p (n ∷ ns)) ≤ suc (length ns)
  by None e le = omega (arith, le, ap length (next_entries p n ns None e))
  by (Some x) e le = omega (arith, le, ap length (next_entries p n ns (Some x) e))

-- ---- each entry

-- two paths that are the same end in one name
pub one_last : (a b : Path) (x y : Name) → a ++ x ∷ [] ≡ b ++ y ∷ [] → x ≡ y
one_last [] [] x y e = cc
one_last [] (n ∷ b) x y e = absurd (omega (arith, ap length e, length-append b (y ∷ [])))
one_last (m ∷ a) [] x y e = absurd (omega (arith, ap length e, length-append a (x ∷ [])))
one_last (m ∷ a) (n ∷ b) x y e = one_last a b x y (tails e) where
  tails : m ∷ (a ++ x ∷ []) ≡ n ∷ (b ++ y ∷ []) → a ++ x ∷ [] ≡ b ++ y ∷ []
  tails e = cc

-- the last name of a path is one that a node may have
pub last_is_name : (fs : Files) (p : Path) (name : Name) → IsPlaced fs (p ++ name ∷ [])
    → IsNodeName name
last_is_name fs p name (inl e) = absurd (omega (arith, ap length e, length-append p (name ∷ [])))
last_is_name fs p name (inr h) = subst IsNodeName (sym (one_last p h.1 name h.2 h.3)) h.4

number_within : (fs : Files) → IsFiles fs → IsIn 8 fs.next → (n : FileNode) → IsAmong n fs.nodes
    → IsIn 8 n.number
number_within fs is next n among =
    let below : n.number < fs.next = all_among FileNode (λ (x : FileNode). x.number < fs.next)
    fs.nodes n (numbers_below 1 fs.nodes fs.next is.rising).1 among in
    omega (arith, below, next)

-- a name of 255 bytes at most
abbrev pub IsNameShort : Entry → Type 0
IsNameShort e = length e.name ≤ 255

-- the name of an entry
pub entry_name : (fs : Files) → IsFiles fs → (p : Path) (e : Entry)
    → IsAmong e (entries_in p fs.nodes) → IsNodeName e.name
entry_name fs is p e among =
    let of = is_entry_of p fs.nodes e among in
    last_is_name fs p e.name (placed_at fs is of.node (p ++ e.name ∷ []) of.among of.path)

pub name_short : (fs : Files) → IsFiles fs → (p : Path) (e : Entry)
    → IsAmong e (entries_in p fs.nodes) → IsNameShort e
name_short fs is p e among = (entry_name fs is p e among).short

entry_within : (fs : Files) → IsFiles fs → IsIn 8 fs.next → (p : Path) (e : Entry)
    → IsAmong e (entries_in p fs.nodes) → IsEntryIn e
entry_within fs is next p e among =
    let of = is_entry_of p fs.nodes e among in
    let short : length e.name ≤ 255 = name_short fs is p e among in
    let below : IsIn 8 of.node.number = number_within fs is next of.node of.among in
    record { name = omega (arith, short); number = omega (arith, below, of.number) }

entries_within : (fs : Files) → IsFiles fs → IsIn 8 fs.next → (k : ℕ)
    → AreFew Entry IsEntryIn (entries_of fs k)
entries_within fs is next k = by (path_of fs k) where
  by : (o : Option Path) → AreFew Entry IsEntryIn (entries_under fs o)
  by None = record { few = omega arith; each = tt }
  by (Some p) = record {
    few = (let nodes : length fs.nodes ≤ 1024 = is.few in omega
        (arith, length-sorted (entries_in p fs.nodes), no_more_entries p fs.nodes, nodes));
    each = all_sorted IsEntryIn (entries_in p fs.nodes)
        (among_all Entry IsEntryIn (entries_in p fs.nodes) (entry_within fs is next p));
  }

-- ---- each node

held_within : (fs : Files) → IsFiles fs → IsIn 8 fs.next → (k : ℕ) (c : Content) → IsSmallContent c
    → IsHeldIn (held_of fs k c)
held_within fs is next k Directory small = entries_within fs is next k
held_within fs is next k (File bytes) small =
    (let most : length bytes ≤ 1048576 = small.0 in omega (arith, most))

node_within : (fs : Files) → IsFiles fs → IsIn 8 fs.next → (n : FileNode) → IsAmong n fs.nodes
    → IsNamedIn (named fs n)
node_within fs is next n among = record {
  number = number_within fs is next n among;
  held = held_within fs is next n.number n.content
      (all_among FileNode (λ (x : FileNode). IsSmallContent x.content) fs.nodes n is.contents
      among);
}

all_named : (fs : Files) (ns : List FileNode)
    → AllByRecursion (λ (n : FileNode). IsNamedIn (named fs n)) ns
    → AllByRecursion IsNamedIn (map (named fs) ns)
all_named fs [] h = tt
all_named fs (n ∷ ns) h = (h.0, all_named fs ns h.1)

pub files_within : (fs : Files) → IsFiles fs → IsIn 8 fs.next → AreNamedIn fs
files_within fs is next = record {
  next = next;
  nodes = record {
    few = (let nodes : length fs.nodes ≤ 1024 = is.few in omega
        (arith, length-map fs.nodes (named fs), nodes));
    each = all_named fs fs.nodes
        (among_all FileNode (λ (n : FileNode). IsNamedIn (named fs n)) fs.nodes
        (node_within fs is next));
  };
}
