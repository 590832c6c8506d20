-- Nodes and entries at their places, and what they hold.
use Rattle.std.proofs.Common.{◌≡◌, inl, inr, ℕ, zero, suc, ◌<◌, ◌++◌, true, false, List, [], ◌∷◌}
use Rattle.std.proofs.Common.{length, Option, Some, None, refl, sym, ap, subst, ◌∙◌}
use Rattle.std.specs.Prelude.{Result, IsSome, slice_get, option_map}
use Rattle.std.proofs.lemmas.Option.{same_Some}
use Rattle.wasi_abi.specs.rules.Layouts.{u16_bytes, u64_bytes}
use Rattle.file_tree.specs.rules.Files.{Name, Files, FileNode, Content, Directory, File, Entry}
use Rattle.file_tree.specs.rules.Files.{IsFiles, node_of, is_directory, holds_directory}
use Rattle.file_tree.specs.rules.Files.{is_directory_content, bytes_of_node, bytes_held, entries_of}
use Rattle.file_tree.specs.rules.Listings.{number_at, number_at_place, HasNameAtPlace}
use Rattle.file_tree.proofs.Sizes.{file_is}
use Rattle.state_image.specs.rules.ProcessImage.{entry_bytes}
use Rattle.state_image.specs.rules.Sinks.{TakingPieces, Pushes}
use Rattle.state_image.proofs.Among.{IsAmong, found_own}
use Rattle.state_image.proofs.PushedItems.{item_at}

-- ---- nodes

among_at : (ns : List FileNode) (i : ℕ) (n : FileNode) → slice_get ns i ≡ Some n → IsAmong n ns
among_at [] i n e = absurd cc
among_at (m ∷ ns) zero n e = inl (sym (same_Some m n e))
among_at (m ∷ ns) (suc i) n e = inr (among_at ns i n e)

-- the node at a place is the one of its number
pub node_found : (fs : Files) → IsFiles fs → (i : ℕ) (n : FileNode) (k : ℕ)
    → slice_get fs.nodes i ≡ Some n → n.number ≡ k → node_of fs k ≡ Some n
node_found fs is i n k e same =
    subst (λ j. node_of fs j ≡ Some n) same
    (found_own 1 fs.nodes fs.next n is.rising (among_at fs.nodes i n e))

-- at each place there is a number
pub has_number : (fs : Files) (i : ℕ) (o : Option ℕ) → o ≡ number_at fs i → i < length fs.nodes
    → IsSome o
has_number fs i o e inside =
    let n = item_at fs.nodes i inside in
    let is : o ≡ Some n.0.number = e ∙ ap (option_map (λ (m : FileNode). m.number)) n.1 in
    subst (λ x. IsSome x) (sym is) refl

-- whose number it is
pub numbered : (ns : List FileNode) (i k : ℕ)
    → option_map (λ (n : FileNode). n.number) (slice_get ns i) ≡ Some k
    → (n : FileNode) × (slice_get ns i ≡ Some n) × (n.number ≡ k)
numbered ns i k e = by (slice_get ns i) refl e where
  by : (o : Option FileNode) → slice_get ns i ≡ o
      → option_map (λ (n : FileNode). n.number) o ≡ Some k
      → (n : FileNode) × (slice_get ns i ≡ Some n) × (n.number ≡ k)
  by None is e = absurd cc
  by (Some n) is e = (n, is, same_Some n.number k e)

pub directory_content : (c : Content) → is_directory_content c ≡ true → c ≡ Directory
directory_content Directory e = refl
directory_content (File bytes) e = absurd cc

pub directory_held : (fs : Files) (k : ℕ) (n : FileNode) → node_of fs k ≡ Some n
    → is_directory fs k ≡ true → n.content ≡ Directory
directory_held fs k n found is =
    directory_content n.content (sym (ap holds_directory found) ∙ is)

pub file_held : (fs : Files) (k : ℕ) (n : FileNode) → node_of fs k ≡ Some n
    → is_directory fs k ≡ false → n.content ≡ File (bytes_of_node fs k)
file_held fs k n found is =
    file_is n.content (sym (ap holds_directory found) ∙ is)
    ∙ ap (λ (o : Option FileNode). File (bytes_held o)) (sym found)

-- ---- entries

pub has_entry : (fs : Files) (d i : ℕ) (o : Option ℕ) → o ≡ number_at_place fs d i
    → i < length (entries_of fs d) → IsSome o
has_entry fs d i o e inside =
    let n = item_at (entries_of fs d) i inside in
    let is : o ≡ Some n.0.number = e ∙ ap (option_map (λ (x : Entry). x.number)) n.1 in
    subst (λ x. IsSome x) (sym is) refl

-- what is pushed of an entry that was read by its number and its name
pub entry_pushed : {S F : Type 0} {takes : TakingPieces S F} {a z : S} {said : Result (Unit {0}) F}
    (fs : Files) (d i : ℕ) (e : Entry) → slice_get (entries_of fs d) i ≡ Some e
    → (k : ℕ) (name : Name) → number_at_place fs d i ≡ Some k → HasNameAtPlace fs d i name
    → Pushes takes a (u16_bytes (length name) ++ (name ++ u64_bytes k)) said z
    → Pushes takes a (entry_bytes e) said z
entry_pushed {S} {F} {takes} {a} {z} {said} fs d i e at k name numbered named pushed =
    let same : k ≡ e.number = same_Some k e.number
    (sym numbered ∙ ap (option_map (λ (x : Entry). x.number)) at) in
    let called : name ≡ e.name = same_Some name e.name
    (sym named ∙ ap (option_map (λ (x : Entry). x.name)) at) in
    subst (λ x. Pushes takes a (u16_bytes (length x) ++ (x ++ u64_bytes e.number)) said z) called
    (subst (λ j. Pushes takes a (u16_bytes (length name) ++ (name ++ u64_bytes j)) said z) same
    pushed)
