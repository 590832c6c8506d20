-- Entries of a directory, and bytes that are put one after another.
use Rattle.std.proofs.Common.{◌≡◌, ◌⊎◌, inl, inr, ℕ, zero, suc, ◌+◌, ◌-◌, ◌≤◌, Bool, true, false}
use Rattle.std.proofs.Common.{List, [], ◌∷◌, ◌++◌, length, take, drop, refl, sym, ap, ◌∙◌, arith}
use Rattle.std.proofs.Common.{append_assoc, add-one, length-append, length-take, length-drop}
use Rattle.std.specs.Prelude.{Option, Some, None, IfSome, option_map, slice_get, if◌then◌else◌}
use Rattle.std.specs.Option.{option_and_then}
use Rattle.std.specs.List.{AllByRecursion}
use Rattle.std.proofs.lemmas.List.{take_at, drop_at, drop_all, drop-drop, drop-append-le}
use Rattle.std.proofs.lemmas.List.{take-append-drop, same_from_push}
use Rattle.std.proofs.lemmas.Option.{same_Some}
use Rattle.guest_memory.specs.rules.Bytes.{part, with_part}
use Rattle.guest_memory.specs.rules.Memories.{LinearMemory, with_bytes, with_lent}
use Rattle.guest_memory.proofs.Ranges.{length-with_part, with_lent-with_bytes}
use Rattle.file_tree.specs.declared.limits.TheConstants.{NODES, NAME_BYTES}
use Rattle.file_tree.specs.rules.Files.{Name, Path, FileNode, Files, Entry, IsFiles, IsPlaced}
use Rattle.file_tree.specs.rules.Files.{is_same_name, path_of, name_behind, entry_of}
use Rattle.file_tree.specs.rules.Files.{entries_in, entries_under, entries_of}
use Rattle.file_tree.specs.rules.Listings.{number_at_place, HasNameAtPlace}
use Rattle.file_tree.proofs.Order.{all_sorted, all_at}
use Rattle.file_tree.proofs.Seen.{length-sorted}
use Rattle.wasi_abi.specs.rules.Layouts.{dirent_bytes}
use Rattle.wasi_calls_rules.specs.Entries.{node_type, listed}
use Rattle.wasi_calls.specs.Listings.{entries_behind}

-- ---- bytes that are put one after another

front_of : (n : ℕ) (xs ys : List ℕ)
    → take n (xs ++ ys) ≡ take n xs ++ take (n - length xs) ys
front_of zero xs ys =
    let none : 0 ≡ 0 - length xs = omega arith in
    ap (λ (k : ℕ). take k ys) none
front_of (suc n) [] ys =
    let same : suc n ≡ suc n - 0 = omega arith in
    ap (λ (k : ℕ). take k ys) same
front_of (suc n) (x ∷ xs) ys =
    let count_left : n - length xs ≡ suc n - length (x ∷ xs) = omega arith in
    ap (λ (zs : List ℕ). x ∷ zs) (front_of n xs ys)
    ∙ ap (λ (k : ℕ). x ∷ (take n xs ++ take k ys)) count_left

pub part_twice : (m x y : List ℕ) (a : ℕ) → a + length x ≤ length m
    → with_part (with_part m a x) (a + length x) y ≡ with_part m a (x ++ y)
part_twice m x y a h =
    let p : List ℕ = take a m ++ x in
    let d : List ℕ = drop (a + length x) m in
    let whole : with_part m a x ≡ p ++ d = sym (append_assoc (take a m) x d) in
    let at : length p ≡ a + length x =
    omega (arith, length-append (take a m) x, length-take a m) in
    let front : take (a + length x) (with_part m a x) ≡ p =
    ap (take (a + length x)) whole ∙ take_at p d (a + length x) at in
    let sum : a + length x + length y ≡ a + length (x ++ y) = omega (arith, length-append x y) in
    let back : drop (a + length x + length y) (with_part m a x) ≡ drop (a + length (x ++ y)) m =
    sym (drop-drop (length y) (a + length x) (with_part m a x))
    ∙ ap (drop (length y)) (ap (drop (a + length x)) whole ∙ drop_at p d (a + length x) at)
    ∙ drop-drop (length y) (a + length x) m ∙ ap (λ (k : ℕ). drop k m) sum in
    let e : List ℕ = drop (a + length (x ++ y)) m in
    ap (λ (z : List ℕ). z ++ (y ++ drop (a + length x + length y) (with_part m a x))) front
    ∙ ap (λ (z : List ℕ). p ++ (y ++ z)) back ∙ append_assoc (take a m) x (y ++ e)
    ∙ ap (λ (z : List ℕ). take a m ++ z) (sym (append_assoc x y e))

-- With the rest put after the first so many bytes, as far as there is room, these bytes are there,
-- and so many were put.
pub record Remains (total : List ℕ) (count : ℕ) (into : List ℕ) (done : ℕ)
    (rest : List ℕ) : Type 0 where
  pub within : done ≤ length into
  pub bytes : with_part into done (take (length into - done) rest) ≡ total
  pub many : done + length (take (length into - done) rest) ≡ count

-- one more piece of the rest is put
pub put_more : (total : List ℕ) (count : ℕ) (into : List ℕ) (done : ℕ) (piece rest : List ℕ)
    (after : List ℕ) (now : ℕ) → Remains total count into done (piece ++ rest)
    → after ≡ with_part into done (take (length into - done) piece)
    → now ≡ done + length (take (length into - done) piece) → Remains total count after now rest
put_more total count into done piece rest after now r e f =
    let room : ℕ = length into - done in
    let t : List ℕ = take room piece in
    let few = r.within in
    let cut = length-take room piece in
    let fits : done + length t ≤ length into = omega (arith, few, cut) in
    let size : length after ≡ length into =
    ap (λ (xs : List ℕ). length xs) e ∙ length-with_part into done t fits in
    let count_left : length after - now ≡ room - length piece = omega (arith, size, f, cut, few) in
    let both : take room (piece ++ rest) ≡ t ++ take (room - length piece) rest =
    front_of room piece rest in
    record {
      within = omega (arith, size, f, fits);
      bytes = ap (λ (k : ℕ). with_part after now (take k rest)) count_left
          ∙ ap (λ (xs : List ℕ). with_part xs now (take (room - length piece) rest)) e
          ∙ ap (λ (k : ℕ). with_part (with_part into done t) k (take (room - length piece) rest)) f
          ∙ part_twice into t (take (room - length piece) rest) done fits
          ∙ ap (λ (xs : List ℕ). with_part into done xs) (sym both) ∙ r.bytes;
      many =
          let more : length (take (length after - now) rest)
          ≡ length (take (room - length piece) rest) =
          ap (λ (k : ℕ). length (take k rest)) count_left in
          let all : length (take room (piece ++ rest))
          ≡ length t + length (take (room - length piece) rest) =
          ap (λ (xs : List ℕ). length xs) both
          ∙ length-append t (take (room - length piece) rest) in
          let was = r.many in
          omega (arith, more, all, was, f);
    }

-- one piece after another
pub put_both : (into after last : List ℕ) (done now : ℕ) (piece other : List ℕ) → done ≤ length into
    → after ≡ with_part into done (take (length into - done) piece)
    → now ≡ done + length (take (length into - done) piece)
    → last ≡ with_part after now (take (length after - now) other)
    → last ≡ with_part into done (take (length into - done) (piece ++ other))
put_both into after last done now piece other h e f g =
    let all : List ℕ = take (length into - done) (piece ++ other) in
    g ∙ (put_more (with_part into done all) (done + length all) into done piece other after now
    (record { within = h; bytes = refl; many = refl }) e f).bytes

pub put_none : (into : List ℕ) (done : ℕ) (piece : List ℕ) → done ≤ length into → piece ≡ []
    → (with_part into done piece ≡ into) × (done + length piece ≡ done)
put_none into done piece h e =
    let same : done + 0 ≡ done = omega arith in (
      ap (with_part into done) e ∙ ap (λ (k : ℕ). take done into ++ drop k into) same
          ∙ whole done into,
      ap (λ (xs : List ℕ). done + length xs) e ∙ same,
    )
  where
    whole : (n : ℕ) (xs : List ℕ) → take n xs ++ drop n xs ≡ xs
    whole zero xs = refl
    whole (suc n) [] = refl
    whole (suc n) (x ∷ xs) = ap (λ (ys : List ℕ). x ∷ ys) (whole n xs)

front_none : (n : ℕ) (xs : List ℕ) → xs ≡ [] → take n xs ≡ []
front_none zero xs e = refl
front_none (suc n) [] e = refl
front_none (suc n) (x ∷ xs) e = absurd (cc)

-- where nothing of the rest is put, all that is to be there does
pub all_put : (total : List ℕ) (count : ℕ) (into : List ℕ) (done : ℕ) (rest : List ℕ)
    → Remains total count into done rest → (rest ≡ []) ⊎ (done ≡ length into)
    → (into ≡ total) × (done ≡ count)
all_put total count into done rest r stop =
    let none = put_none into done (take (length into - done) rest) r.within (nothing stop) in
    (sym none.0 ∙ r.bytes, sym none.1 ∙ r.many)
  where
    nothing : (rest ≡ []) ⊎ (done ≡ length into) → take (length into - done) rest ≡ []
    nothing (inl e) = front_none (length into - done) rest e
    nothing (inr e) =
        let zero_left : length into - done ≡ 0 = omega (arith, e) in
        ap (λ (k : ℕ). take k rest) zero_left

-- nothing was put yet
pub none_put : (into rest : List ℕ)
    → Remains (take (length into) rest ++ drop (length (take (length into) rest)) into)
    (length (take (length into) rest)) into 0 rest
none_put into rest =
    let room : length into - 0 ≡ length into = omega arith in
    let t : List ℕ = take (length into) rest in
    let sum : 0 + length t ≡ length t = omega arith in
    record {
      within = omega arith;
      bytes = ap (λ (k : ℕ). with_part into 0 (take k rest)) room
          ∙ ap (λ (k : ℕ). t ++ drop k into) sum;
      many = ap (λ (k : ℕ). 0 + length (take k rest)) room ∙ sum;
    }

abbrev with_memory : LinearMemory → List ℕ → LinearMemory
with_memory m xs = record m { bytes = xs }

-- bytes put into a range that was lent, as far as it reaches
pub lent_front : (m : LinearMemory) (from len count : ℕ) (bytes now after : List ℕ)
    → from + len ≤ length m.bytes → now ≡ part m.bytes from len → length now ≡ len
    → after ≡ take (length now) bytes ++ drop count now
    → count ≡ length (take (length now) bytes)
    → with_lent from after m ≡ with_bytes from (take len bytes) m
lent_front m from len count bytes now after fits is size e f =
    let t : List ℕ = take len bytes in
    let d : List ℕ = drop from m.bytes in
    let whole = take-append-drop len d in
    let cut = length-take len bytes in
    let long : length t ≡ count = ap (λ (k : ℕ). length (take k bytes)) (sym size) ∙ sym f in
    let behind : length (drop count now) ≡ len - count = length-drop count now
    ∙ ap (λ (k : ℕ). k - count) size in
    let all : after ≡ t ++ drop count now =
    e ∙ ap (λ (k : ℕ). take k bytes ++ drop count now) size in
    let sum : length after ≡ len =
    ap (λ (xs : List ℕ). length xs) all
    ∙ omega (arith, length-append t (drop count now), long, behind, cut) in
    let room : from + length after ≤ length m.bytes = omega (arith, sum, fits) in
    let ends : from + length after ≡ from + len = omega (arith, sum) in
    let count_left = length-drop from m.bytes in
    let rest : drop count now ++ drop len d ≡ drop count d =
    ap (λ (xs : List ℕ). drop count xs ++ drop len d) is
    ∙ sym (drop-append-le count (take len d) (drop len d)
    (omega (arith, length-take len d, count_left, fits, long, cut)))
    ∙ ap (drop count) whole in
    let same : with_part m.bytes from after ≡ with_part m.bytes from t =
    ap (λ (k : ℕ). take from m.bytes ++ (after ++ drop k m.bytes)) ends
    ∙ ap (λ (xs : List ℕ). take from m.bytes ++ (xs ++ drop (from + len) m.bytes)) all
    ∙ ap (λ (xs : List ℕ). take from m.bytes ++ ((t ++ drop count now) ++ xs))
    (sym (drop-drop len from m.bytes))
    ∙ ap (λ (xs : List ℕ). take from m.bytes ++ xs)
    (append_assoc t (drop count now) (drop len d) ∙ ap (λ (xs : List ℕ). t ++ xs) rest)
    ∙ ap (λ (xs : List ℕ). take from m.bytes ++ (t ++ xs)) (drop-drop count from m.bytes)
    ∙ ap (λ (k : ℕ). take from m.bytes ++ (t ++ drop (from + k) m.bytes)) (sym long) in
    with_lent-with_bytes from after m room
    ∙ ap (with_memory m) same

-- ---- entries

drop_one : (es : List Entry) (i : ℕ) (e : Entry) → slice_get es i ≡ Some e
    → drop i es ≡ e ∷ drop (suc i) es
drop_one [] i e is = absurd (cc)
drop_one (f ∷ es) zero e is = (let same : f ≡ e = cc in ap (λ (x : Entry). x ∷ es) same)
drop_one (f ∷ es) (suc i) e is = drop_one es i e is

drop_none : (es : List Entry) (i : ℕ) → slice_get es i ≡ None → drop i es ≡ []
drop_none [] zero is = refl
drop_none [] (suc i) is = refl
drop_none (f ∷ es) zero is = absurd (cc)
drop_none (f ∷ es) (suc i) is = drop_none es i is

-- the entry at a place, and those after it
pub entry_first : (fs : Files) (d place node : ℕ) (name : Name)
    → number_at_place fs d place ≡ Some node → HasNameAtPlace fs d place name
    → entries_behind fs d place
    ≡ dirent_bytes (place + 1) node (node_type fs node) name ++ entries_behind fs d (place + 1)
entry_first fs d place node name number named =
    by (slice_get (entries_of fs d) place) refl number named
  where
    by : (o : Option Entry) → slice_get (entries_of fs d) place ≡ o
        → option_map (λ (e : Entry). e.number) o ≡ Some node
        → option_map (λ (e : Entry). e.name) o ≡ Some name
        → entries_behind fs d place
        ≡ dirent_bytes (place + 1) node (node_type fs node) name ++ entries_behind fs d (place + 1)
    by None is one two = absurd (cc)
    by (Some e) is one two =
        ap (listed fs place) (drop_one (entries_of fs d) place e is)
        ∙ ap (λ (k : ℕ). dirent_bytes (place + 1) e.number (node_type fs e.number) e.name
        ++ listed fs (place + 1) (drop k (entries_of fs d))) (sym (add-one place))
        ∙ ap (λ (k : ℕ). dirent_bytes (place + 1) k (node_type fs k) e.name
        ++ entries_behind fs d (place + 1)) (same_Some e.number node one)
        ∙ ap (λ (x : Name). dirent_bytes (place + 1) node (node_type fs node) x
        ++ entries_behind fs d (place + 1)) (same_Some e.name name two)

pub no_entries : (fs : Files) (d place : ℕ) → number_at_place fs d place ≡ None
    → entries_behind fs d place ≡ []
no_entries fs d place none = by (slice_get (entries_of fs d) place) refl none where
  by : (o : Option Entry) → slice_get (entries_of fs d) place ≡ o
      → option_map (λ (e : Entry). e.number) o ≡ None → entries_behind fs d place ≡ []
  by None is e = ap (listed fs place) (drop_none (entries_of fs d) place is)
  by (Some x) is e = absurd (cc)

-- ---- they are few

few_in : (p : Path) (nodes : List FileNode) → length (entries_in p nodes) ≤ length nodes
few_in p [] = omega arith
few_in p (n ∷ nodes) = by (entry_of p n) refl (few_in p nodes) where
  by : (o : Option Entry) → entry_of p n ≡ o → length (entries_in p nodes) ≤ length nodes
      → length (entries_in p (n ∷ nodes)) ≤ length (n ∷ nodes)
  by None e later = rw e (omega (arith, later))
  by (Some x) e later = rw e (omega (arith, later))

few_entries : (fs : Files) (d : ℕ) → IsFiles fs → length (entries_of fs d) ≤ NODES
few_entries fs d are = by (path_of fs d) where
  by : (o : Option Path) → length (entries_under fs o) ≤ NODES
  by None = omega arith
  by (Some p) =
      let same = length-sorted (entries_in p fs.nodes) in
      let less = few_in p fs.nodes in
      let most = are.few in
      omega (arith, same, less, most)

pub none_past : (fs : Files) (d place : ℕ) → IsFiles fs → NODES ≤ place
    → entries_behind fs d place ≡ []
none_past fs d place are le =
    let few = few_entries fs d are in
    ap (listed fs place) (drop_all place (entries_of fs d) (omega (arith, few, le)))

-- ---- their names are short

IsShort : Entry → Type 0
IsShort e = length e.name ≤ NAME_BYTES

behind_ends : (p q : Path) (name : Name) → name_behind p q ≡ Some name
    → (above : Path) × (q ≡ above ++ name ∷ [])
behind_ends [] [] name e = absurd (cc)
behind_ends [] (x ∷ []) name e =
    (let same : x ≡ name = cc in ([], ap (λ (y : Name). y ∷ []) same))
behind_ends [] (x ∷ y ∷ q) name e = absurd (cc)
behind_ends (a ∷ p) [] name e = absurd (cc)
behind_ends (a ∷ p) (b ∷ q) name e = by (is_same_name a b) e (behind_ends p q name) where
  by : (t : Bool) → (if t then name_behind p q else None) ≡ Some name
      → (name_behind p q ≡ Some name → (above : Path) × (q ≡ above ++ name ∷ []))
      → (above : Path) × (b ∷ q ≡ above ++ name ∷ [])
  by true is later = (let r = later is in (b ∷ r.0, ap (λ (z : Path). b ∷ z) r.1))
  by false is later = absurd (cc)

placed_short : (fs : Files) (p : Path) (number : ℕ) (path : Option Path)
    → IfSome path (IsPlaced fs) → (o : Option Name) → option_and_then (name_behind p) path ≡ o
    → IfSome o (λ (name : Name). length name ≤ NAME_BYTES)
placed_short fs p number path placed None e = tt
placed_short fs p number None placed (Some name) e = absurd (cc)
placed_short fs p number (Some q) placed (Some name) e =
    let ends = behind_ends p q name e in
    by placed ends.0 ends.1
  where
    by : IsPlaced fs q → (above : Path) → q ≡ above ++ name ∷ [] → length name ≤ NAME_BYTES
    by (inl root) above is = absurd (no_root above (sym root ∙ is)) where
      no_root : (above : Path) → [] ≡ above ++ name ∷ [] → ⊥
      no_root [] e = absurd (cc)
      no_root (x ∷ above) e = absurd (cc)
    by (inr there) above is =
        let same : there.2 ≡ name =
        (same_from_push there.1 above there.2 name (sym there.3 ∙ is)).1 in
        let short = there.4.short in
        omega (arith, short, ap (λ (x : Name). length x) same)

short_in : (fs : Files) (p : Path) (nodes : List FileNode)
    → AllByRecursion (λ (n : FileNode). IfSome n.path (IsPlaced fs)) nodes
    → AllByRecursion IsShort (entries_in p nodes)
unfolding IsShort
short_in fs p [] h = tt
short_in fs p (n ∷ nodes) h =
    by (option_and_then (name_behind p) n.path) refl
    (placed_short fs p n.number n.path h.0 (option_and_then (name_behind p) n.path) refl)
    (short_in fs p nodes h.1)
  where
    by : (o : Option Name) → option_and_then (name_behind p) n.path ≡ o
        → IfSome o (λ (name : Name). length name ≤ NAME_BYTES)
        → AllByRecursion IsShort (entries_in p nodes)
        → AllByRecursion IsShort (entries_in p (n ∷ nodes))
    by None e short later = rw e later
    by (Some name) e short later = rw e (short, later)

short_under : (fs : Files) (o : Option Path) → IsFiles fs
    → AllByRecursion IsShort (entries_under fs o)
short_under fs None are = tt
short_under fs (Some p) are =
    all_sorted IsShort (entries_in p fs.nodes) (short_in fs p fs.nodes are.placed)

pub short_name : (fs : Files) (d place : ℕ) (name : Name) → IsFiles fs
    → HasNameAtPlace fs d place name → length name ≤ NAME_BYTES
unfolding IsShort
short_name fs d place name are named = by (slice_get (entries_of fs d) place) refl named where
  by : (o : Option Entry) → slice_get (entries_of fs d) place ≡ o
      → option_map (λ (e : Entry). e.name) o ≡ Some name → length name ≤ NAME_BYTES
  by None is e = absurd (cc)
  by (Some x) is e =
      let short = all_at IsShort (entries_of fs d) place x (short_under fs (path_of fs d) are) is in
      omega (arith, short, ap (λ (y : Name). length y) (same_Some x.name name e))

-- ---- a directory's entries, one after another

module _ (fs : Files) (d cookie : ℕ) (into : List ℕ) where
  abbrev all : List ℕ
  all = take (length into) (entries_behind fs d cookie)

  -- the entries in front of a place are put, and this is the node at it
  pub record ListsOn (now : List ℕ) (done : ℕ) (entry : Option ℕ) (place : ℕ) : Type 0 where
    pub entry_is : entry ≡ number_at_place fs d place
    pub size : length now ≡ length into
    pub rest : Remains (all ++ drop (length all) into) (length all) now done
        (entries_behind fs d place)

  pub lists_from : (entry : Option ℕ) → entry ≡ number_at_place fs d cookie
      → ListsOn into 0 entry cookie
  lists_from entry e = record {
    entry_is = e;
    size = refl;
    rest = none_put into (entries_behind fs d cookie);
  }

  abbrev HasAll : List ℕ → ℕ → Type 0
  HasAll now done =
      (now ≡ all ++ drop done into) × (done ≡ length all) × (done ≤ length into)

  has_all : (now : List ℕ) (done place : ℕ)
      → Remains (all ++ drop (length all) into) (length all) now done (entries_behind fs d place)
      → length now ≡ length into → (entries_behind fs d place ≡ []) ⊎ (done ≡ length now)
      → HasAll now done
  has_all now done place r size stop =
      let end = all_put (all ++ drop (length all) into) (length all) now done
      (entries_behind fs d place) r stop in
      let within = r.within in (
        end.0 ∙ ap (λ (k : ℕ). all ++ drop k into) (sym end.1),
        end.1,
        omega (arith, within, size),
      )

  -- after the last entry
  pub lists_end : (now : List ℕ) (done place : ℕ) (entry : Option ℕ)
      → ListsOn now done entry place → entry ≡ None → HasAll now done
  lists_end now done place entry l e =
      has_all now done place l.rest l.size (inl (no_entries fs d place (sym l.entry_is ∙ e)))

  -- after all places
  pub lists_past : (now : List ℕ) (done place : ℕ) (entry : Option ℕ) → IsFiles fs
      → ListsOn now done entry place → NODES ≤ place → HasAll now done
  lists_past now done place entry are l le =
      has_all now done place l.rest l.size (inl (none_past fs d place are le))

  module _ (now : List ℕ) (done place node : ℕ) (entry : Option ℕ) (name head after : List ℕ)
      (end : ℕ) (l : ListsOn now done entry place) (some : entry ≡ Some node)
      (named : HasNameAtPlace fs d place name)
      (is : head ++ name ≡ dirent_bytes (place + 1) node (node_type fs node) name)
      (put : after ≡ with_part now done (take (length now - done) (head ++ name)))
      (count : end ≡ done + length (take (length now - done) (head ++ name)))
      (size : length after ≡ length now) where
    more : Remains (all ++ drop (length all) into) (length all) after end
        (entries_behind fs d (place + 1))
    more =
        let first : entries_behind fs d place ≡ (head ++ name) ++ entries_behind fs d (place + 1) =
        entry_first fs d place node name (sym l.entry_is ∙ some) named
        ∙ ap (λ (xs : List ℕ). xs ++ entries_behind fs d (place + 1)) (sym is) in
        put_more (all ++ drop (length all) into) (length all) now done (head ++ name)
        (entries_behind fs d (place + 1)) after end (rw first at l.rest) put count

    -- there is no room for more
    pub lists_full : end ≡ length after → HasAll after end
    lists_full full = has_all after end (place + 1) more (size ∙ l.size) (inr full)

    pub lists_more : (next : Option ℕ) → next ≡ number_at_place fs d (place + 1)
        → ListsOn after end next (place + 1)
    lists_more next e = record { entry_is = e; size = size ∙ l.size; rest = more }
