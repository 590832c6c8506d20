-- Files whose nodes have all been hung are the ones that are told.
use Rattle.std.proofs.Common.{◌≡◌, inl, inr, ℕ, ◌+◌, ◌≤◌, Bool, true, false, eqb, List, []}
use Rattle.std.proofs.Common.{◌∷◌, map, Option, Some, None, refl, sym, ap, subst, ◌∙◌, arith}
use Rattle.std.specs.Prelude.{find, is_some}
use Rattle.std.specs.List.{AllByRecursion}
use Rattle.std.proofs.lemmas.Bool.{eq-eqb, ne_eqb}
use Rattle.file_tree.specs.rules.Files.{Path, FileNode, Files, Content, Directory, File, Entry}
use Rattle.file_tree.specs.rules.Files.{AreRising, path_of, is_directory, is_directory_content}
use Rattle.file_tree.specs.rules.Files.{holds_directory, entries_of, entries_under}
use Rattle.file_tree.specs.laws.Laws.{node_number, content_of}
use Rattle.file_tree.proofs.FilesTold.{entries_tell_files}
use Rattle.file_tree.proofs.SameNames.{heads}
use Rattle.state_image.specs.restoring.Named.{Held, Entries, Bytes, NamedNode, held_of, named}
use Rattle.state_image.specs.restoring.Named.{AreNamedNodes}
use Rattle.state_image.specs.declared.restoring.whole_node.WholeNode.{WholeNode}
use Rattle.state_image.specs.restoring.SavedNodes.{lent_whole, saved_number, saved_content}
use Rattle.state_image.specs.restoring.SavedNodes.{content_of_saved, saved_entries}
use Rattle.state_image.specs.restoring.SavedNodes.{entries_in_found, AreAs, IsSavedFiles, MayStay}
use Rattle.state_image.specs.restoring.SavedNodes.{MayAllStay}
use Rattle.state_image.specs.restoring.Hanging.{IsHung}
use Rattle.state_image.proofs.Among.{IsAmong, among_all, all_among, found_own}
use Rattle.state_image.proofs.Named.{same_named}
use Rattle.state_image.proofs.RestoreLemmas.SavedNodes.{one_directory, told_as, told_listed}

-- ---- what is told of a node is found by its number

abbrev AreRisingTold : ℕ → List NamedNode → Type 0
AreRisingTold least [] = Unit {0}
AreRisingTold least (n ∷ ns) = (least ≤ n.number) × AreRisingTold (n.number + 1) ns

rising_told : (least : ℕ) (ms : List FileNode) (next : ℕ) (ns : List NamedNode)
    → AreRising least ms next → map node_number ms ≡ map saved_number ns → AreRisingTold least ns
rising_told least ms next [] h e = tt
rising_told least [] next (n ∷ ns) h e = absurd cc
rising_told least (m ∷ ms) next (n ∷ ns) h e =
    let both = heads m.number n.number (map node_number ms) (map saved_number ns) e in (
      subst (λ (k : ℕ). least ≤ k) both.0 h.0,
      subst (λ (k : ℕ). AreRisingTold (k + 1) ns) both.0
          (rising_told (m.number + 1) ms next ns h.1 both.1),
    )

told_from : (least : ℕ) (ns : List NamedNode) (n : NamedNode) → AreRisingTold least ns
    → IsAmong n ns → least ≤ n.number
told_from least [] n h k = absurd k
told_from least (m ∷ ns) n h (inl e) = subst (λ (x : NamedNode). least ≤ x.number) (sym e) h.0
told_from least (m ∷ ns) n h (inr k) =
    let above : m.number + 1 ≤ n.number = told_from (m.number + 1) ns n h.1 k in
    omega (arith, above, h.0)

own_found : (least : ℕ) (ns : List NamedNode) (n : NamedNode) → AreRisingTold least ns
    → IsAmong n ns → find (λ (m : NamedNode). eqb m.number n.number) ns ≡ Some n
own_found least [] n h k = absurd k
own_found least (m ∷ ns) n h (inl e) = rw
    (eq-eqb m.number n.number (ap (λ (x : NamedNode). x.number) (sym e)))
    (ap (λ (x : NamedNode). Some x) (sym e))
own_found least (m ∷ ns) n h (inr k) =
    let above : m.number + 1 ≤ n.number = told_from (m.number + 1) ns n h.1 k in
    rw (ne_eqb m.number n.number (λ e. absurd (omega (arith, above, e))))
    (own_found (m.number + 1) ns n h.1 k)

-- ---- all that is told of the nodes

-- the entries that are told of a directory are its own
abbrev Fits : Files → NamedNode → Type 0
Fits fs n = is_directory fs n.number ≡ true → entries_of fs n.number ≡ saved_entries n.held

-- its number leads to the node
abbrev IsOwn : Files → FileNode → Type 0
IsOwn fs m = is_directory fs m.number ≡ is_directory_content m.content

held_same : (fs : Files) (k j : ℕ) (c : Content) (h : Held) → k ≡ j → c ≡ saved_content h
    → (is_directory_content c ≡ true → entries_of fs j ≡ saved_entries h) → held_of fs k c ≡ h
held_same fs k j c (Entries es) same is fits =
    ap (held_of fs k) is
    ∙ ap (λ (xs : List Entry). Entries xs)
    (ap (entries_of fs) same ∙ fits (ap is_directory_content is))
held_same fs k j c (Bytes bytes) same is fits = ap (held_of fs k) is

named_pair : (fs : Files) (m : FileNode) (n : NamedNode) → m.number ≡ n.number
    → m.content ≡ saved_content n.held → IsOwn fs m → Fits fs n → named fs m ≡ n
named_pair fs m n same content own fits =
    same_named (named fs m) n same
    (held_same fs m.number n.number m.content n.held same content
    (λ is. fits (sym (ap (is_directory fs) same) ∙ own ∙ is)))

named_pairs : (fs : Files) (ms : List FileNode) (ns : List NamedNode)
    → map node_number ms ≡ map saved_number ns → map content_of ms ≡ map content_of_saved ns
    → AllByRecursion (IsOwn fs) ms → AllByRecursion (Fits fs) ns → map (named fs) ms ≡ ns
named_pairs fs [] [] e f own fits = refl
named_pairs fs [] (n ∷ ns) e f own fits = absurd cc
named_pairs fs (m ∷ ms) [] e f own fits = absurd cc
named_pairs fs (m ∷ ms) (n ∷ ns) e f own fits =
    let numbers = heads m.number n.number (map node_number ms) (map saved_number ns) e in
    let contents = heads m.content (saved_content n.held) (map content_of ms)
    (map content_of_saved ns) f in
    ap (λ (x : NamedNode). x ∷ map (named fs) ms)
    (named_pair fs m n numbers.0 contents.0 own.0 fits.0)
    ∙ ap (λ (xs : List NamedNode). n ∷ xs)
    (named_pairs fs ms ns numbers.1 contents.1 own.1 fits.1)

-- without a path there are no entries
no_entries : (fs : Files) (o : Option Path) → is_some o ≡ false → entries_under fs o ≡ []
no_entries fs None e = refl
no_entries fs (Some p) e = absurd cc

fits_told : (fs : Files) (ns : List NamedNode) (n : NamedNode) → IsHung ns fs → IsAmong n ns
    → MayStay fs n → Fits fs n
fits_told fs ns n h among stay directory = by (is_some (path_of fs n.number)) refl where
  by : (b : Bool) → is_some (path_of fs n.number) ≡ b
      → entries_of fs n.number ≡ saved_entries n.held
  by true path =
      h.entries n.number directory path
      ∙ ap entries_in_found
      (own_found 1 ns n (rising_told 1 fs.nodes fs.next ns h.are.rising h.same.numbers) among)
  by false path = no_entries fs (path_of fs n.number) path ∙ sym (stay path)

stay_told : (fs : Files) (nodes : List WholeNode) → MayAllStay fs nodes
    → AllByRecursion (MayStay fs) (map lent_whole nodes)
stay_told fs [] h = tt
stay_told fs (n ∷ nodes) h = (h.0, stay_told fs nodes h.1)

-- all that is told is so of the files whose nodes have been hung
pub named_again : (fs : Files) (next : ℕ) (nodes : List WholeNode)
    → IsHung (map lent_whole nodes) fs → fs.next ≡ next → MayAllStay fs nodes
    → AreNamedNodes fs next (map lent_whole nodes)
named_again fs next nodes h is stay =
    let ns = map lent_whole nodes in
    record {
      next = is;
      nodes = named_pairs fs fs.nodes ns h.same.numbers h.same.contents
          (among_all FileNode (IsOwn fs) fs.nodes
          (λ m among. ap holds_directory
          (found_own 1 fs.nodes fs.next m h.are.rising among)))
          (among_all NamedNode (Fits fs) ns (λ n among. fits_told fs ns n h among
          (all_among NamedNode (MayStay fs) ns n (stay_told fs nodes stay) among)));
    }

-- ---- files that are told are these

pub all_stay : (fs gs : Files) (next : ℕ) (nodes : List WholeNode)
    → IsHung (map lent_whole nodes) fs → fs.next ≡ next → IsSavedFiles gs next
    (map lent_whole nodes) → MayAllStay fs nodes
all_stay fs gs next nodes h is t = each gs.nodes nodes t.told.nodes where
  alike : AreAs gs (map lent_whole nodes)
  alike = told_as gs next (map lent_whole nodes) t.told

  same : gs ≡ fs
  same = entries_tell_files gs fs t.are h.are (record {
    nodes = record {
      next = t.told.next ∙ sym is;
      numbers = alike.numbers ∙ sym h.same.numbers;
      contents = alike.contents ∙ sym h.same.contents;
    };
    entries = λ d directory path.
        sym (told_listed gs next (map lent_whole nodes) t.told d
        (one_directory gs fs (map lent_whole nodes) alike h.same d ∙ directory))
        ∙ sym (h.entries d directory path);
  })

  stays : (k : ℕ) (c : Content) → is_some (path_of fs k) ≡ false
      → saved_entries (held_of gs k c) ≡ []
  stays k Directory path = no_entries gs (path_of gs k)
      (ap (λ (x : Files). is_some (path_of x k)) same ∙ path)
  stays k (File bytes) path = refl

  each : (ms : List FileNode) (xs : List WholeNode) → map (named gs) ms ≡ map lent_whole xs
      → AllByRecursion (λ (n : WholeNode). MayStay fs (lent_whole n)) xs
  each ms [] e = tt
  each [] (x ∷ xs) e = absurd cc
  each (m ∷ ms) (x ∷ xs) e =
      let both = heads (named gs m) (lent_whole x) (map (named gs) ms)
      (map lent_whole xs) e in (
        subst (MayStay fs) both.0 (stays m.number m.content),
        each ms xs both.1,
      )
