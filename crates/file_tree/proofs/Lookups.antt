-- The node with a number, in a list and in the files that it shows.
use Rattle.std.proofs.Common.{◌≡◌, ◌≢◌, ℕ, zero, suc, ◌+◌, Bool, true, false, cond, eqb, List, []}
use Rattle.std.proofs.Common.{◌∷◌, length, map, reverse, get_or, Option, Some, None, refl, sym, ap}
use Rattle.std.proofs.Common.{◌∙◌}
use Rattle.std.specs.Prelude.{option_map, find, is_some}
use Rattle.std.specs.Option.{option_and_then}
use Rattle.std.proofs.lemmas.Bool.{eq-eqb, ne_eqb}
use Rattle.std.proofs.lemmas.List.Sums.{sum_by-cons}
use Rattle.file_tree.specs.declared.store.node.Hook.{Hook}
use Rattle.file_tree.specs.declared.store.node.Hook.TheVariants.{Root, Removed, In}
use Rattle.file_tree.specs.declared.store.node.Node.{Node}
use Rattle.file_tree.specs.rules.Files.{Path, FileNode, node_of, path_of, is_directory}
use Rattle.file_tree.specs.rules.Files.{holds_directory, bytes_of_node, bytes_held}
use Rattle.file_tree.specs.rules.Files.{bytes_of_content, used}
use Rattle.file_tree.specs.rules.Chunks.{chunks_for, chunks_of}
use Rattle.file_tree.specs.Links.{climb, node_in, hook_held, hook_of, content_held, is_directory_in}
use Rattle.file_tree.specs.Links.{holds_directory_node, file_bytes_of, bytes_held_in, used_in}
use Rattle.file_tree.specs.Links.{chunks_in, is_hung, AreNodes, shown_node, files, IsPlace}
use Rattle.file_tree.specs.Links.{IsNowhere}
use Rattle.file_tree.proofs.Climbs.{path_is, no_path}
use Rattle.file_tree.proofs.Lists.{number_in}

-- ---- places

pub node_at_place : (ns : List Node) (k i : ℕ) (d : Node) → IsPlace ns k i
    → node_in ns k ≡ Some (get_or ns i d)
node_at_place [] k i d h = absurd h
node_at_place (n ∷ ns) k zero d h = rw (eq-eqb n.number k h) refl
node_at_place (n ∷ ns) k (suc i) d h = rw (ne_eqb n.number k h.0) (node_at_place ns k i d h.1)

pub node_nowhere : (ns : List Node) (k : ℕ) → IsNowhere ns k → node_in ns k ≡ None
node_nowhere [] k h = refl
node_nowhere (n ∷ ns) k h = rw (ne_eqb n.number k h.0) (node_nowhere ns k h.1)

-- ---- what is shown of a node

pub node_shown : (next : ℕ) (hook : ℕ → Hook) (ns : List Node) (k : ℕ)
    → find (λ (n : FileNode). eqb n.number k) (map (shown_node next hook) ns)
    ≡ option_map (shown_node next hook) (node_in ns k)
node_shown next hook [] k = refl
node_shown next hook (n ∷ ns) k = by_test (eqb n.number k) (node_shown next hook ns k) where
  by_test : (b : Bool) → find (λ (n : FileNode). eqb n.number k) (map (shown_node next hook) ns)
      ≡ option_map (shown_node next hook) (node_in ns k)
      → cond b (Some (shown_node next hook n)) (find (λ (n : FileNode). eqb n.number k)
      (map (shown_node next hook) ns))
      ≡ option_map (shown_node next hook) (cond b (Some n) (node_in ns k))
  by_test true later = refl
  by_test false later = later

pub directory_shown : (ns : List Node) (next k : ℕ)
    → is_directory (files ns next) k ≡ is_directory_in ns k
directory_shown ns next k = ap holds_directory (node_shown next (hook_of ns) ns k)
    ∙ of_node (node_in ns k) where
      of_node : (o : Option Node) → holds_directory (option_map (shown_node next (hook_of ns)) o)
          ≡ holds_directory_node (content_held o)
      of_node None = refl
      of_node (Some n) = refl

pub bytes_shown : (ns : List Node) (next k : ℕ)
    → bytes_of_node (files ns next) k ≡ bytes_held_in (node_in ns k)
bytes_shown ns next k = ap bytes_held (node_shown next (hook_of ns) ns k)
    ∙ of_node (node_in ns k) where
      of_node : (o : Option Node) → bytes_held (option_map (shown_node next (hook_of ns)) o)
          ≡ bytes_held_in o
      of_node None = refl
      of_node (Some n) = refl

pub there_shown : (ns : List Node) (next k : ℕ)
    → is_some (node_of (files ns next) k) ≡ is_some (node_in ns k)
there_shown ns next k = ap is_some (node_shown next (hook_of ns) ns k)
    ∙ of_node (node_in ns k) where
      of_node : (o : Option Node) → is_some (option_map (shown_node next (hook_of ns)) o)
          ≡ is_some o
      of_node None = refl
      of_node (Some n) = refl

-- the path that is shown is the one that climbing finds
pub path_shown : (ns : List Node) (next k : ℕ)
    → path_of (files ns next) k ≡ option_map reverse (climb next (hook_of ns) k)
path_shown ns next k =
    ap (option_and_then (λ (n : FileNode). n.path)) (node_shown next (hook_of ns) ns k)
    ∙ of_node (node_in ns k) refl where
      of_node : (o : Option Node) → node_in ns k ≡ o
          → option_and_then (λ (n : FileNode). n.path) (option_map (shown_node next (hook_of ns)) o)
          ≡ option_map reverse (climb next (hook_of ns) k)
      of_node None e = sym (ap (option_map reverse) (no_path next (hook_of ns) k (ap hook_held e)))
      of_node (Some n) e =
          ap (λ (j : ℕ). option_map reverse (climb next (hook_of ns) j)) (number_in ns k n e)

pub used_shown : (ns : List Node) (next : ℕ) → used (files ns next) ≡ used_in ns
used_shown ns next = go ns where
  go : (ms : List Node) → used (record {
    nodes = map (shown_node next (hook_of ns)) ms;
    next = next;
  }) ≡ used_in ms
  go [] = refl
  go (m ∷ ms) =
      sum_by-cons (λ (n : FileNode). length (bytes_of_content n.content))
      (shown_node next (hook_of ns) m) (map (shown_node next (hook_of ns)) ms)
      ∙ ap (λ (n : ℕ). length (file_bytes_of m) + n) (go ms)
      ∙ sym (sum_by-cons (λ (n : Node). length (file_bytes_of n)) m ms)

pub chunks_shown : (ns : List Node) (next : ℕ) → chunks_of (files ns next) ≡ chunks_in ns
chunks_shown ns next = go ns where
  go : (ms : List Node) → chunks_of (record {
    nodes = map (shown_node next (hook_of ns)) ms;
    next = next;
  }) ≡ chunks_in ms
  go [] = refl
  go (m ∷ ms) =
      sum_by-cons (λ (n : FileNode). chunks_for (length (bytes_of_content n.content)))
      (shown_node next (hook_of ns) m) (map (shown_node next (hook_of ns)) ms)
      ∙ ap (λ (n : ℕ). chunks_for (length (file_bytes_of m)) + n) (go ms)
      ∙ sym (sum_by-cons (λ (n : Node). chunks_for (length (file_bytes_of n))) m ms)

-- ---- whether a node has a path

pub hung_has_path : (ns : List Node) (next k : ℕ) → AreNodes ns next
    → is_some (path_of (files ns next) k) ≡ is_hung (hook_of ns k)
hung_has_path ns next k are = ap is_some (path_shown ns next k) ∙ by_hook (hook_of ns k) refl where
  up_is : (up : Path) → climb next (hook_of ns) k ≡ Some up
      → is_some (option_map reverse (climb next (hook_of ns) k)) ≡ true
  up_is up e = rw e refl

  there : hook_of ns k ≢ Removed → is_some (option_map reverse (climb next (hook_of ns) k)) ≡ true
  there ne = (let r = are.tree.reached k ne in
      up_is r.0 (path_is (hook_of ns) next are.tree k r.0 r.1))

  by_hook : (h : Hook) → hook_of ns k ≡ h → is_some (option_map reverse (climb next (hook_of ns) k))
      ≡ is_hung h
  by_hook Root e = there (λ r. absurd (let t : Root ≡ Removed = sym e ∙ r in cc))
  by_hook Removed e =
      ap (λ (o : Option Path). is_some (option_map reverse o)) (no_path next (hook_of ns) k e)
  by_hook (In d name) e = there (λ r. absurd (let t : In d name ≡ Removed = sym e ∙ r in cc))
