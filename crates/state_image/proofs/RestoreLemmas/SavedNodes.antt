-- What is told of files: directories, nodes that are there, and entries.
use Rattle.std.proofs.Common.{◌≡◌, ℕ, Bool, true, false, cond, eqb, List, [], ◌∷◌, map, Option}
use Rattle.std.proofs.Common.{Some, None, refl, sym, ap, ◌∙◌}
use Rattle.std.specs.Prelude.{find, is_some, option_map}
use Rattle.file_tree.specs.rules.Files.{Files, FileNode, Content, Directory, File, node_of}
use Rattle.file_tree.specs.rules.Files.{is_directory, is_directory_content, holds_directory}
use Rattle.file_tree.specs.rules.Files.{entries_of}
use Rattle.file_tree.specs.laws.Laws.{node_number, content_of}
use Rattle.file_tree.specs.laws.Rebuilding.{HaveSameNodes}
use Rattle.state_image.specs.restoring.Named.{NamedNode, held_of, named, AreNamedNodes}
use Rattle.state_image.specs.restoring.SavedNodes.{saved_number, saved_content, content_of_saved}
use Rattle.state_image.specs.restoring.SavedNodes.{saved_entries, entries_in_found, listed_node}
use Rattle.state_image.specs.restoring.SavedNodes.{AreAs}
use Rattle.state_image.proofs.Among.{found_among}
use Rattle.state_image.proofs.PathsTold.{named_found}

-- ---- by numbers and contents alone

abbrev directory_in : List ℕ → List Content → ℕ → Bool
directory_in [] cs k = false
directory_in (n ∷ ns) [] k = false
directory_in (n ∷ ns) (c ∷ cs) k =
    cond (eqb n k) (is_directory_content c) (directory_in ns cs k)

directory_by : (ns : List FileNode) (k : ℕ)
    → holds_directory (find (λ (n : FileNode). eqb n.number k) ns)
    ≡ directory_in (map node_number ns) (map content_of ns) k
directory_by [] k = refl
directory_by (n ∷ ns) k = by (eqb n.number k) (directory_by ns k) where
  by : (b : Bool) → holds_directory (find (λ (m : FileNode). eqb m.number k) ns)
      ≡ directory_in (map node_number ns) (map content_of ns) k
      → holds_directory (cond b (Some n) (find (λ (m : FileNode). eqb m.number k) ns))
      ≡ cond b (is_directory_content n.content)
      (directory_in (map node_number ns) (map content_of ns) k)
  by true later = refl
  by false later = later

abbrev there_in : List ℕ → ℕ → Bool
there_in [] k = false
there_in (n ∷ ns) k = cond (eqb n k) true (there_in ns k)

there_by : (ns : List FileNode) (k : ℕ)
    → is_some (find (λ (n : FileNode). eqb n.number k) ns) ≡ there_in (map node_number ns) k
there_by [] k = refl
there_by (n ∷ ns) k = by (eqb n.number k) (there_by ns k) where
  by : (b : Bool) → is_some (find (λ (m : FileNode). eqb m.number k) ns)
      ≡ there_in (map node_number ns) k
      → is_some (cond b (Some n) (find (λ (m : FileNode). eqb m.number k) ns))
      ≡ cond b true (there_in (map node_number ns) k)
  by true later = refl
  by false later = later

-- the same numbers are of directories
pub one_directory : (fs gs : Files) (ns : List NamedNode) → AreAs fs ns → AreAs gs ns → (k : ℕ)
    → is_directory fs k ≡ is_directory gs k
one_directory fs gs ns a b k =
    directory_by fs.nodes k
    ∙ ap (λ (xs : List ℕ). directory_in xs (map content_of fs.nodes) k)
    (a.numbers ∙ sym b.numbers)
    ∙ ap (λ (cs : List Content). directory_in (map node_number gs.nodes) cs k)
    (a.contents ∙ sym b.contents)
    ∙ sym (directory_by gs.nodes k)

-- the same numbers are of nodes
pub one_there : (fs gs : Files) (ns : List NamedNode) → AreAs fs ns → AreAs gs ns → (k : ℕ)
    → is_some (node_of fs k) ≡ is_some (node_of gs k)
one_there fs gs ns a b k =
    there_by fs.nodes k
    ∙ ap (λ (xs : List ℕ). there_in xs k) (a.numbers ∙ sym b.numbers)
    ∙ sym (there_by gs.nodes k)

-- other files of the same nodes
pub still_as : (fs gs : Files) (ns : List NamedNode) → HaveSameNodes fs gs → AreAs fs ns
    → AreAs gs ns
still_as fs gs ns same a = record {
  numbers = sym same.numbers ∙ a.numbers;
  contents = sym same.contents ∙ a.contents;
}

-- ---- by all that is told

numbers_named : (fs : Files) (ms : List FileNode)
    → map node_number ms ≡ map saved_number (map (named fs) ms)
numbers_named fs [] = refl
numbers_named fs (m ∷ ms) = ap (λ (xs : List ℕ). m.number ∷ xs) (numbers_named fs ms)

content_back : (fs : Files) (k : ℕ) (c : Content) → c ≡ saved_content (held_of fs k c)
content_back fs k Directory = refl
content_back fs k (File bytes) = refl

contents_named : (fs : Files) (ms : List FileNode)
    → map content_of ms ≡ map content_of_saved (map (named fs) ms)
contents_named fs [] = refl
contents_named fs (m ∷ ms) =
    ap (λ (c : Content). c ∷ map content_of ms) (content_back fs m.number m.content)
    ∙ ap (λ (xs : List Content). saved_content (held_of fs m.number m.content) ∷ xs)
    (contents_named fs ms)

pub told_as : (gs : Files) (next : ℕ) (ns : List NamedNode) → AreNamedNodes gs next ns → AreAs gs ns
told_as gs next ns told = record {
  numbers = numbers_named gs gs.nodes ∙ ap (map saved_number) told.nodes;
  contents = contents_named gs gs.nodes ∙ ap (map content_of_saved) told.nodes;
}

-- the entries of a directory are told
pub told_listed : (gs : Files) (next : ℕ) (ns : List NamedNode) → AreNamedNodes gs next ns → (d : ℕ)
    → is_directory gs d ≡ true → listed_node ns d ≡ entries_of gs d
told_listed gs next ns told d is =
    ap (λ (ms : List NamedNode). entries_in_found (find (λ (n : NamedNode). eqb n.number d) ms))
    (sym told.nodes)
    ∙ ap entries_in_found (named_found gs d gs.nodes)
    ∙ by (node_of gs d) refl is
  where
    content : (k : ℕ) (c : Content) → k ≡ d → is_directory_content c ≡ true
        → saved_entries (held_of gs k c) ≡ entries_of gs d
    content k Directory same t = ap (entries_of gs) same
    content k (File bytes) same t = absurd cc

    by : (o : Option FileNode) → node_of gs d ≡ o → holds_directory o ≡ true
        → entries_in_found (option_map (named gs) o) ≡ entries_of gs d
    by None found t = absurd cc
    by (Some n) found t = content n.number n.content (found_among d gs.nodes n found).1 t
