-- Nodes that are made one after the other, and what told files have at the same place.
use Rattle.std.proofs.Common.{◌≡◌, ◌≢◌, ℕ, zero, suc, ◌+◌, ◌<◌, ◌≤◌, Bool, true, false}
use Rattle.std.proofs.Common.{cond, eqb, List, [], ◌∷◌, ◌++◌, length, map, take, drop, replicate}
use Rattle.std.proofs.Common.{Option, Some, None, refl, sym, ap, subst, ◌∙◌, length-append, arith}
use Rattle.std.specs.Prelude.{find, is_some, slice_get}
use Rattle.std.specs.List.{AllByRecursion}
use Rattle.std.proofs.lemmas.Bool.{eqb-true, eq-eqb, ne_eqb}
use Rattle.std.proofs.lemmas.List.{length-map, map-append, length-take-le}
use Rattle.std.proofs.lemmas.List.{length-replicate, drop_all, append-nil}
use Rattle.std.proofs.lemmas.Option.{same_Some}
use Rattle.file_tree.specs.declared.node_type.NodeType.TheVariants as node_types
use Rattle.file_tree.specs.rules.Files.{FileNode, Files, Content, Directory, File, IsFiles}
use Rattle.file_tree.specs.rules.Files.{AreRising, IsSmallContent, node_of, path_of, is_directory}
use Rattle.file_tree.specs.rules.Files.{entries_of, fresh, created_removed, with_file_bytes}
use Rattle.file_tree.specs.rules.Files.{with_next, bytes_of_node, holds_directory, bytes_held}
use Rattle.file_tree.specs.rules.Bytes.{written, resized}
use Rattle.file_tree.specs.declared.limits.TheConstants.{NODES}
use Rattle.file_tree.specs.laws.Laws.{node_number, content_of}
use Rattle.file_tree.specs.laws.Rebuilding.{HaveSameEntries}
use Rattle.file_tree.proofs.KeptEntries.{others_keep_entries}
use Rattle.file_tree.proofs.Filled.{filled_files}
use Rattle.file_tree.proofs.SameNames.{heads}
use Rattle.file_tree.proofs.Rebuilt.{numbers_below, numbers_from}
use Rattle.state_image.specs.restoring.Named.{NamedNode}
use Rattle.state_image.specs.restoring.SavedNodes.{saved_number, saved_content, content_of_saved}
use Rattle.state_image.specs.restoring.SavedNodes.{AreAs, IsSavedFiles, CanCreate, BeginsWithRoot}
use Rattle.state_image.specs.restoring.SavedNodes.{next_behind, IsMadeOf}
use Rattle.state_image.specs.restoring.Hanging.{HangsUpTo}
use Rattle.state_image.proofs.Among.{all_among, found_among}
use Rattle.state_image.proofs.PushedItems.{front_more}
use Rattle.state_image.proofs.RestoreLemmas.SavedNodes.{told_as}
use Rattle.state_image.proofs.NodesAt.{directory_content}

-- ---- a new node is found

found_last : (least : ℕ) (ns : List FileNode) (next : ℕ) (n : FileNode) → AreRising least ns next
    → next ≤ n.number → find (λ (m : FileNode). eqb m.number n.number) (ns ++ n ∷ []) ≡ Some n
found_last least [] next n h le = rw (eq-eqb n.number n.number refl) refl
found_last least (m ∷ ns) next n h le =
    let below = numbers_below (m.number + 1) ns next h.1 in
    let ne : eqb m.number n.number ≡ false =
    ne_eqb m.number n.number (λ e. absurd (omega (arith, below.0, le, e))) in
    rw ne (found_last (m.number + 1) ns next n h.1 le)

abbrev pub new_node : ℕ → Content → FileNode
new_node k c = record { number = k; path = None; content = c }

pub new_found : (fs : Files) (k : ℕ) (c : Content) → IsFiles fs → fs.next ≤ k
    → node_of (created_removed k c fs) k ≡ Some (new_node k c)
new_found fs k c are le = found_last 1 fs.nodes fs.next (new_node k c) are.rising le

-- a new file is no directory
pub no_directory : (fs : Files) (k : ℕ) (bytes : List ℕ) → IsFiles fs → fs.next ≤ k
    → is_directory (created_removed k (File bytes) fs) k ≡ false
no_directory fs k bytes are le = ap holds_directory (new_found fs k (File bytes) are le)

-- ---- a file that is filled

pub file_made : (fs gs : Files) (k : ℕ) (bytes : List ℕ) → IsFiles fs → fs.next ≤ k
    → gs ≡ created_removed k (File bytes) fs → is_directory gs k ≡ false
file_made fs gs k bytes are le is = ap (λ (x : Files). is_directory x k) is
    ∙ no_directory fs k bytes are le

-- so many zeros
pub zeros : ℕ → List ℕ
zeros size = take size (replicate size 0)

length-zeros : (size : ℕ) → length (zeros size) ≡ size
unfolding zeros
length-zeros size =
    let all : length {A = ℕ} (replicate size 0) ≡ size = length-replicate size 0 in
    length-take-le size (replicate size 0) (omega (arith, all))

-- it has been cut to so many bytes
pub cut_made : (fs gs hs : Files) (k size : ℕ) → IsFiles fs → fs.next ≤ k
    → gs ≡ created_removed k (File []) fs
    → hs ≡ with_file_bytes k (resized (bytes_of_node gs k) size) gs
    → hs ≡ created_removed k (File (zeros size)) fs
unfolding zeros
cut_made fs gs hs k size are le made cut =
    cut
    ∙ ap (λ (x : Files). with_file_bytes k (resized (bytes_of_node x k) size) x) made
    ∙ ap (λ (old : List ℕ).
    with_file_bytes k (resized old size) (created_removed k (File []) fs))
    (ap bytes_held (new_found fs k (File []) are le))
    ∙ filled_files.new fs k [] (take size (replicate size 0)) are le

-- it has so many
pub size_made : (fs hs : Files) (k size : ℕ) → IsFiles fs → fs.next ≤ k
    → hs ≡ created_removed k (File (zeros size)) fs → length (bytes_of_node hs k) ≡ size
size_made fs hs k size are le made =
    ap (λ (x : Files). length (bytes_of_node x k)) made
    ∙ ap (λ (o : Option FileNode). length (bytes_held o))
    (new_found fs k (File (zeros size)) are le)
    ∙ length-zeros size

-- bytes are written over all of it
pub fill_made : (fs hs gs : Files) (k : ℕ) (bytes : List ℕ) → IsFiles fs → fs.next ≤ k
    → hs ≡ created_removed k (File (zeros (length bytes))) fs
    → gs ≡ with_file_bytes k (written (bytes_of_node hs k) 0 bytes) hs
    → gs ≡ created_removed k (File bytes) fs
fill_made fs hs gs k bytes are le made filled =
    filled
    ∙ ap (λ (x : Files). with_file_bytes k (written (bytes_of_node x k) 0 bytes) x) made
    ∙ ap (λ (was : List ℕ).
    with_file_bytes k (written was 0 bytes)
    (created_removed k (File (zeros (length bytes))) fs))
    (ap bytes_held (new_found fs k (File (zeros (length bytes))) are le))
    ∙ ap (λ (new : List ℕ).
    with_file_bytes k new (created_removed k (File (zeros (length bytes))) fs)) whole
    ∙ filled_files.new fs k (zeros (length bytes)) bytes are le
  where
    whole : written (zeros (length bytes)) 0 bytes ≡ bytes
    whole =
        let few = length-zeros (length bytes) in
        ap (λ (rest : List ℕ). bytes ++ rest)
        (drop_all (0 + length bytes) (zeros (length bytes)) (omega (arith, few)))
        ∙ append-nil bytes

-- ---- entries stay

same_then : (fs gs hs : Files) → HaveSameEntries fs gs → HaveSameEntries gs hs
    → HaveSameEntries fs hs
same_then fs gs hs a b = record {
  are = b.are;
  entries = λ d. b.entries d ∙ a.entries d;
  paths = λ k. b.paths k ∙ a.paths k;
}

created_keeps : (fs : Files) (k : ℕ) (c : Content) → IsFiles fs → fs.next ≤ k
    → length fs.nodes < NODES → IsSmallContent c → HaveSameEntries fs (created_removed k c fs)
created_keeps fs k Directory are le room small =
    others_keep_entries.created fs k node_types.Directory are le room
created_keeps fs k (File bytes) are le room small =
    let new = others_keep_entries.created fs k node_types.File are le room in
    let full = others_keep_entries.bytes (created_removed k (File []) fs) k bytes new.are
    (ap is_some (new_found fs k (File []) are le)) (no_directory fs k [] are le) small in
    same_then fs (created_removed k (File []) fs) (created_removed k (File bytes) fs) new
    (subst (HaveSameEntries (created_removed k (File []) fs))
    (filled_files.new fs k [] bytes are le) full)

-- ---- one node more

behind_more : (least : ℕ) (ns : List NamedNode) (n : NamedNode)
    → next_behind least (ns ++ n ∷ []) ≡ n.number + 1
behind_more least [] n = refl
behind_more least (m ∷ ns) n = behind_more (m.number + 1) ns n

made_more : (ns : List NamedNode) (fs : Files) (n : NamedNode) → IsMadeOf ns fs → CanCreate fs n
    → IsMadeOf (ns ++ n ∷ []) (created_removed n.number (saved_content n.held) fs)
made_more ns fs n h can =
    let keeps = created_keeps fs n.number (saved_content n.held) h.are can.next
    can.room can.small in
    record {
      are = keeps.are;
      same = record {
        numbers =
            map-append node_number fs.nodes (new_node n.number (saved_content n.held) ∷ [])
            ∙ ap (λ (xs : List ℕ). xs ++ n.number ∷ []) h.same.numbers
            ∙ sym (map-append saved_number ns (n ∷ []));
        contents =
            map-append content_of fs.nodes (new_node n.number (saved_content n.held) ∷ [])
            ∙ ap (λ (xs : List Content). xs ++ saved_content n.held ∷ []) h.same.contents
            ∙ sym (map-append content_of_saved ns (n ∷ []));
      };
      bare = same_then fresh fs (created_removed n.number (saved_content n.held) fs) h.bare keeps;
      next = sym (behind_more 1 ns n);
    }

-- the node at a place, after those before it
pub node_made : (ns : List NamedNode) (fs gs : Files) (place : ℕ) (n : NamedNode)
    → IsMadeOf (take place ns) fs → slice_get ns place ≡ Some n → CanCreate fs n
    → gs ≡ created_removed n.number (saved_content n.held) fs → IsMadeOf (take (place + 1) ns) gs
node_made ns fs gs place n h at can is =
    subst (λ (xs : List NamedNode). IsMadeOf xs gs) (sym (front_more ns place n at))
    (subst (IsMadeOf (take place ns ++ n ∷ [])) (sym is) (made_more (take place ns) fs n h can))

-- ---- the first node

-- ---- what is told of files at the same place

rising_behind : (least : ℕ) (ms : List FileNode) (next : ℕ) (ns : List NamedNode) (n : NamedNode)
    (more : List NamedNode) → AreRising least ms next
    → map node_number ms ≡ map saved_number (ns ++ n ∷ more)
    → (next_behind least ns ≤ n.number) × (n.number + 1 ≤ next)
rising_behind least [] next [] n more h e = absurd cc
rising_behind least [] next (a ∷ ns) n more h e = absurd cc
rising_behind least (m ∷ ms) next [] n more h e =
    let same = (heads m.number n.number (map node_number ms) (map saved_number more) e).0 in
    let below = (numbers_below (m.number + 1) ms next h.1).0 in
    (omega (arith, same, h.0), omega (arith, same, below))
rising_behind least (m ∷ ms) next (a ∷ ns) n more h e =
    let both = heads m.number a.number (map node_number ms)
    (map saved_number (ns ++ n ∷ more)) e in
    let later = rising_behind (m.number + 1) ms next ns n more h.1 both.1 in
    (subst (λ (k : ℕ). next_behind (k + 1) ns ≤ n.number) both.0 later.0, later.1)

all_behind_told : (least : ℕ) (ms : List FileNode) (next : ℕ) (ns : List NamedNode)
    → AreRising least ms next → map node_number ms ≡ map saved_number ns
    → next_behind least ns ≤ next
all_behind_told least [] next [] h e = h
all_behind_told least [] next (a ∷ ns) h e = absurd cc
all_behind_told least (m ∷ ms) next [] h e = absurd cc
all_behind_told least (m ∷ ms) next (a ∷ ns) h e =
    let both = heads m.number a.number (map node_number ms) (map saved_number ns) e in
    subst (λ (k : ℕ). next_behind (k + 1) ns ≤ next) both.0
    (all_behind_told (m.number + 1) ms next ns h.1 both.1)

small_told : (ms : List FileNode) (ns : List NamedNode) (n : NamedNode) (more : List NamedNode)
    → AllByRecursion (λ (m : FileNode). IsSmallContent m.content) ms
    → map content_of ms ≡ map content_of_saved (ns ++ n ∷ more)
    → IsSmallContent (saved_content n.held)
small_told [] [] n more h e = absurd cc
small_told [] (a ∷ ns) n more h e = absurd cc
small_told (m ∷ ms) [] n more h e =
    subst IsSmallContent
    (heads m.content (saved_content n.held) (map content_of ms)
    (map content_of_saved more) e).0 h.0
small_told (m ∷ ms) (a ∷ ns) n more h e =
    small_told ms ns n more h.1
    (heads m.content (saved_content a.held) (map content_of ms)
    (map content_of_saved (ns ++ n ∷ more)) e).1

split_at : (ns : List NamedNode) (i : ℕ) (n : NamedNode) → slice_get ns i ≡ Some n
    → ns ≡ take i ns ++ n ∷ drop (suc i) ns
split_at [] i n e = absurd cc
split_at (m ∷ ns) zero n e = ap (λ (x : NamedNode). x ∷ ns) (same_Some m n e)
split_at (m ∷ ns) (suc i) n e = ap (λ (xs : List NamedNode). m ∷ xs) (split_at ns i n e)

-- the node at a place can be made, if files are told so
pub can_be_created : (ns : List NamedNode) (fs gs : Files) (next place : ℕ) (n : NamedNode)
    → IsMadeOf (take place ns) fs → slice_get ns place ≡ Some n → IsSavedFiles gs next ns
    → CanCreate fs n
can_be_created ns fs gs next place n h at t =
    let front = take place ns in
    let more = drop (suc place) ns in
    let alike = told_as gs next ns t.told in
    let split = split_at ns place n at in
    let numbers : map node_number gs.nodes ≡ map saved_number (front ++ n ∷ more) =
    alike.numbers ∙ ap (map saved_number) split in
    let contents : map content_of gs.nodes ≡ map content_of_saved (front ++ n ∷ more) =
    alike.contents ∙ ap (map content_of_saved) split in
    let bounds = rising_behind 1 gs.nodes gs.next front n more t.are.rising numbers in
    let here = h.next in
    let within = t.within in
    let few : length gs.nodes ≤ NODES = t.are.few in
    let longer : length gs.nodes ≡ length front + suc (length more) =
    sym (length-map gs.nodes node_number) ∙ ap length numbers
    ∙ length-map (front ++ n ∷ more) saved_number ∙ length-append front (n ∷ more) in
    let now : length fs.nodes ≡ length front =
    sym (length-map fs.nodes node_number) ∙ ap length h.same.numbers
    ∙ length-map front saved_number in
    record {
      next = omega (arith, here, bounds.0);
      number = omega (arith, within, bounds.1);
      room = omega (arith, few, longer, now);
      small = small_told gs.nodes front n more t.are.contents contents;
    }

-- ---- the root that is told

root_first : (n : FileNode) (ns : List FileNode) (next : ℕ) (o : Option FileNode)
    → AreRising 1 (n ∷ ns) next
    → find (λ (m : FileNode). eqb m.number 1) (n ∷ ns) ≡ o → is_some o ≡ true
    → (n.number ≡ 1) × (o ≡ Some n)
root_first n ns next o h found some = by (eqb n.number 1) refl found where
  gone : (p : Option FileNode) → find (λ (m : FileNode). eqb m.number 1) ns ≡ p → is_some p ≡ true
      → n.number ≢ 1 → ⊥
  gone None e some ne = absurd cc
  gone (Some m) e some ne =
      let is = found_among 1 ns m e in
      let above : n.number + 1 ≤ m.number = all_among FileNode
      (λ (x : FileNode). n.number + 1 ≤ x.number) ns m (numbers_from (n.number + 1) ns next h.1)
      is.0 in
      absurd (omega (arith, above, is.1, h.0))

  by : (b : Bool) → eqb n.number 1 ≡ b
      → cond b (Some n) (find (λ (m : FileNode). eqb m.number 1) ns) ≡ o
      → (n.number ≡ 1) × (o ≡ Some n)
  by true is e = (eqb-true n.number 1 is, sym e)
  by false is e = absurd (gone o e some (λ same.
      let t : false ≡ true = sym is ∙ eq-eqb n.number 1 same in absurd cc))

holds_some : (o : Option FileNode) → holds_directory o ≡ true → is_some o ≡ true
holds_some None e = absurd cc
holds_some (Some n) e = refl

-- files that are told begin with the root
pub told_begins : (ns : List NamedNode) (gs : Files) (next : ℕ) → IsSavedFiles gs next ns
    → BeginsWithRoot ns
told_begins ns gs next t = by gs.nodes ns t.are.rising t.are.root_is_directory alike.numbers
    alike.contents where
      alike : AreAs gs ns
      alike = told_as gs next ns t.told

      by : (ms : List FileNode) (ns : List NamedNode) → AreRising 1 ms gs.next
          → holds_directory (find (λ (m : FileNode). eqb m.number 1) ms) ≡ true
          → map node_number ms ≡ map saved_number ns → map content_of ms ≡ map content_of_saved ns
          → BeginsWithRoot ns
      by [] ns h d e f = absurd cc
      by (m ∷ ms) [] h d e f = absurd cc
      by (m ∷ ms) (n ∷ ns) h d e f =
          let first = root_first m ms gs.next (find (λ (x : FileNode). eqb x.number 1) (m ∷ ms)) h
          refl (holds_some (find (λ (x : FileNode). eqb x.number 1) (m ∷ ms)) d) in
          let numbers = heads m.number n.number (map node_number ms) (map saved_number ns) e
          in
          let contents = heads m.content (saved_content n.held) (map content_of ms)
          (map content_of_saved ns) f in (
            sym numbers.0 ∙ first.0,
            sym contents.0 ∙ directory_content m.content (sym (ap holds_directory first.1) ∙ d),
          )

pub next_told : (ns : List NamedNode) (fs gs : Files) (next : ℕ) → IsMadeOf ns fs
    → IsSavedFiles gs next ns → fs.next ≤ next
next_told ns fs gs next h t =
    let behind = all_behind_told 1 gs.nodes gs.next ns t.are.rising
    (told_as gs next ns t.told).numbers in
    let here = h.next in
    let last = t.told.next in
    omega (arith, behind, here, last)

-- ---- on to the entries

fresh_entries : (d : ℕ) → entries_of fresh d ≡ []
fresh_entries d = by (eqb 1 d) refl where
  by : (b : Bool) → eqb 1 d ≡ b → entries_of fresh d ≡ []
  by true is = rw is refl
  by false is = rw is refl

fresh_path : (d : ℕ) → is_some (path_of fresh d) ≡ true → 1 ≡ d
fresh_path d = by (eqb 1 d) refl where
  by : (b : Bool) → eqb 1 d ≡ b → is_some (path_of fresh d) ≡ true → 1 ≡ d
  by true is path = eqb-true 1 d is
  by false is path = absurd (let t : false ≡ true = sym no ∙ path in cc) where
    no : is_some (path_of fresh d) ≡ false
    no = rw is refl

alone_at : (j d : ℕ) → slice_get (1 ∷ []) j ≡ Some d → (j ≡ 0) × (1 ≡ d)
alone_at zero d e = (refl, same_Some 1 d e)
alone_at (suc j) d e = absurd cc

-- nothing hangs yet, and the root waits
pub nothing_hangs : (ns : List NamedNode) (fs gs : Files) (next : ℕ) → IsMadeOf ns fs
    → fs.next ≤ next → gs ≡ with_next next fs → HangsUpTo ns gs (1 ∷ []) 0 0
nothing_hangs ns fs gs next h le is = subst (λ (x : Files). HangsUpTo ns x (1 ∷ []) 0 0) (sym is)
    begun where
      keeps : HaveSameEntries fresh (with_next next fs)
      keeps = same_then fresh fs (with_next next fs) h.bare
          (others_keep_entries.next fs next h.are le)

      none : (d : ℕ) → entries_of (with_next next fs) d ≡ []
      none d = keeps.entries d ∙ fresh_entries d

      root : (d : ℕ) → 1 ≡ d → (is_directory (with_next next fs) d ≡ true)
          × (is_some (path_of (with_next next fs) d) ≡ true)
      root d same = subst (λ (k : ℕ). (is_directory (with_next next fs) k ≡ true)
          × (is_some (path_of (with_next next fs) k) ≡ true)) same
          (keeps.are.root_is_directory, ap is_some keeps.are.root)

      begun : HangsUpTo ns (with_next next fs) (1 ∷ []) 0 0
      begun = record {
        are = keeps.are;
        same = record { numbers = h.same.numbers; contents = h.same.contents };
        done = λ j d at lt. absurd (omega (arith, lt));
        begun = λ d at. none d;
        still = λ j d at lt. none d;
        hung = λ j d at. root d (alone_at j d at).1;
        once = λ j l d p q. (alone_at j d p).0 ∙ sym (alone_at l d q).0;
        all = λ d directory path. (
          0,
          ap (λ (k : ℕ). Some k)
              (fresh_path d (sym (ap is_some (keeps.paths d)) ∙ path)),
        );
      }
