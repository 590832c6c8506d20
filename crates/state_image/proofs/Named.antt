-- What an image has of nodes: numbers and contents, and no paths. The bytes tell it.
use Rattle.std.proofs.Common.{◌≡◌, ℕ, List, [], ◌∷◌, ◌++◌, length, map, refl, sym, ap, ◌∙◌}
use Rattle.std.proofs.Common.{append_assoc, arith}
use Rattle.std.specs.List.{flat_map}
use Rattle.std.proofs.lemmas.List.{length-map}
use Rattle.wasi_abi.specs.rules.Layouts.{u16_bytes, u32_bytes, u64_bytes}
use Rattle.file_tree.specs.rules.Files.{Files, FileNode, Content, Directory, File, Entry}
use Rattle.file_tree.proofs.SameNames.{heads}
use Rattle.state_image.specs.rules.ProcessImage.{items_bytes, entry_bytes, content_bytes}
use Rattle.state_image.specs.rules.ProcessImage.{node_bytes, files_bytes}
use Rattle.state_image.specs.restoring.Named.{Held, Entries, Bytes, NamedNode, held_of, named}
use Rattle.state_image.specs.restoring.Named.{held_bytes, named_bytes}
use Rattle.state_image.specs.rules.Ranges.{IsIn, AreFew, IsEntryIn}
use Rattle.state_image.proofs.Fields.{Tells, same_front, cut, number_field, items_field}
use Rattle.state_image.proofs.Among.{entry_with}

-- ---- the image is made of what is named

content_named : (fs : Files) (k : ℕ) (c : Content)
    → content_bytes fs k c ≡ held_bytes (held_of fs k c)
content_named fs k Directory = refl
content_named fs k (File bytes) = refl

node_named : (fs : Files) (n : FileNode) → node_bytes fs n ≡ named_bytes (named fs n)
node_named fs n = ap (λ (bytes : List ℕ). u64_bytes n.number ++ bytes)
    (content_named fs n.number n.content)

nodes_named : (fs : Files) (ns : List FileNode)
    → flat_map (node_bytes fs) ns ≡ flat_map named_bytes (map (named fs) ns)
nodes_named fs [] = refl
nodes_named fs (n ∷ ns) =
    ap (λ (bytes : List ℕ). bytes ++ flat_map (node_bytes fs) ns) (node_named fs n)
    ∙ ap (λ (bytes : List ℕ). named_bytes (named fs n) ++ bytes) (nodes_named fs ns)

items_named : (fs : Files) (ns : List FileNode)
    → items_bytes (node_bytes fs) ns ≡ items_bytes named_bytes (map (named fs) ns)
items_named fs ns =
    ap (λ (count : ℕ). u32_bytes count ++ flat_map (node_bytes fs) ns)
    (sym (length-map ns (named fs)))
    ∙ ap (λ (bytes : List ℕ). u32_bytes (length (map (named fs) ns)) ++ bytes) (nodes_named fs ns)

-- ---- the fields of an entry

same_entry : (e f : Entry) → e.name ≡ f.name → e.number ≡ f.number → e ≡ f
same_entry e f a b =
    let whole : entry_with e.name e.number ≡ entry_with f.name f.number = rw (a, b) refl in whole

pub entry_field : Tells Entry IsEntryIn entry_bytes
entry_field = record { front = told } where
  told : (e f : Entry) (rest other : List ℕ) → IsEntryIn e → IsEntryIn f
      → entry_bytes e ++ rest ≡ entry_bytes f ++ other → (e ≡ f) × (rest ≡ other)
  told e f rest other p q is =
      let lengths = cut ℕ (IsIn 2) u16_bytes (number_field 2) (length e.name) (length f.name)
      (e.name ++ u64_bytes e.number) (f.name ++ u64_bytes f.number) rest other p.name q.name
      is in
      let names = same_front ℕ e.name f.name (u64_bytes e.number ++ rest)
      (u64_bytes f.number ++ other) lengths.0
      (sym (append_assoc e.name (u64_bytes e.number) rest) ∙ lengths.1 ∙ append_assoc f.name
      (u64_bytes f.number) other) in
      let numbers = (number_field 8).front e.number f.number rest other p.number q.number
      names.1 in
      (same_entry e f names.0 numbers.0, numbers.1)

-- ---- the fields of a node

abbrev pub IsHeldIn : Held → Type 0
IsHeldIn (Entries es) = AreFew Entry IsEntryIn es
IsHeldIn (Bytes bytes) = IsIn 8 (length bytes)

same_held : (a b : Held) (rest other : List ℕ) → IsHeldIn a → IsHeldIn b
    → held_bytes a ++ rest ≡ held_bytes b ++ other → (a ≡ b) × (rest ≡ other)
same_held (Entries es) (Entries fs) rest other p q is =
    let first = heads 3 3 (items_bytes entry_bytes es ++ rest)
    (items_bytes entry_bytes fs ++ other) is in
    let same = (items_field Entry IsEntryIn entry_bytes entry_field).front es fs rest other p q
    first.1 in
    (ap (λ (x : List Entry). Entries x) same.0, same.1)
same_held (Bytes a) (Bytes b) rest other p q is =
    let first = heads 4 4 ((u64_bytes (length a) ++ a) ++ rest)
    ((u64_bytes (length b) ++ b) ++ other) is in
    let lengths = cut ℕ (IsIn 8) u64_bytes (number_field 8) (length a) (length b) a b rest other p
    q first.1 in
    let same = same_front ℕ a b rest other lengths.0 lengths.1 in
    (ap (λ (x : List ℕ). Bytes x) same.0, same.1)
same_held (Entries es) (Bytes b) rest other p q is =
    let first = heads 3 4 (items_bytes entry_bytes es ++ rest)
    ((u64_bytes (length b) ++ b) ++ other) is in
    absurd (omega (arith, first.0))
same_held (Bytes a) (Entries fs) rest other p q is =
    let first = heads 4 3 ((u64_bytes (length a) ++ a) ++ rest)
    (items_bytes entry_bytes fs ++ other) is in
    absurd (omega (arith, first.0))

pub record IsNamedIn (n : NamedNode) : Type 0 where
  pub number : IsIn 8 n.number
  pub held : IsHeldIn n.held

named_node : ℕ → Held → NamedNode
named_node number held = record { number = number; held = held }

pub same_named : (m n : NamedNode) → m.number ≡ n.number → m.held ≡ n.held → m ≡ n
unfolding named_node
same_named m n a b = let whole : named_node m.number m.held ≡ named_node n.number n.held = rw
    (a, b) refl in whole

named_field : Tells NamedNode IsNamedIn named_bytes
named_field = record { front = told } where
  told : (m n : NamedNode) (rest other : List ℕ) → IsNamedIn m → IsNamedIn n
      → named_bytes m ++ rest ≡ named_bytes n ++ other → (m ≡ n) × (rest ≡ other)
  told m n rest other p q e =
      let numbers = cut ℕ (IsIn 8) u64_bytes (number_field 8) m.number n.number (held_bytes m.held)
      (held_bytes n.held) rest other p.number q.number e in
      let held = same_held m.held n.held rest other p.held q.held numbers.1 in
      (same_named m n numbers.0 held.0, held.1)

-- ---- files

pub record AreNamedIn (fs : Files) : Type 0 where
  pub next : IsIn 8 fs.next
  pub nodes : AreFew NamedNode IsNamedIn (map (named fs) fs.nodes)

-- of two file systems the same is named
pub record SameNamed (fs gs : Files) : Type 0 where
  pub next : fs.next ≡ gs.next
  pub nodes : map (named fs) fs.nodes ≡ map (named gs) gs.nodes

pub files_named : (fs : Files) (rest : List ℕ)
    → files_bytes fs ++ rest ≡
    (u64_bytes fs.next ++ items_bytes named_bytes (map (named fs) fs.nodes)) ++ rest
files_named fs rest = ap (λ (bytes : List ℕ). (u64_bytes fs.next ++ bytes) ++ rest)
    (items_named fs fs.nodes)

pub same_files_named : (fs gs : Files) (rest other : List ℕ) → AreNamedIn fs → AreNamedIn gs
    → files_bytes fs ++ rest ≡ files_bytes gs ++ other → SameNamed fs gs × (rest ≡ other)
same_files_named fs gs rest other p q e =
    let named_e = sym (files_named fs rest) ∙ e ∙ files_named gs other in
    let next = cut ℕ (IsIn 8) u64_bytes (number_field 8) fs.next gs.next
    (items_bytes named_bytes (map (named fs) fs.nodes))
    (items_bytes named_bytes (map (named gs) gs.nodes)) rest other p.next q.next named_e in
    let nodes = (items_field NamedNode IsNamedIn named_bytes named_field).front
    (map (named fs) fs.nodes) (map (named gs) gs.nodes) rest other p.nodes q.nodes next.1 in
    (record { next = next.0; nodes = nodes.0 }, nodes.1)
