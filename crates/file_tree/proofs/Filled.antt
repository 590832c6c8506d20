-- Files that are filled with bytes.
use Rattle.std.proofs.Common.{◌≡◌, ℕ, ◌+◌, ◌<◌, ◌≤◌, Bool, true, false, cond, eqb, List, []}
use Rattle.std.proofs.Common.{◌∷◌, ◌++◌, map, Option, Some, None, refl, sym, ap, ◌∙◌, arith}
use Rattle.std.specs.Prelude.{find, is_some}
use Rattle.std.specs.List.{AllByRecursion}
use Rattle.std.proofs.lemmas.Bool.{eq-eqb, ne_eqb}
use Rattle.std.proofs.lemmas.List.{map_push}
use Rattle.file_tree.specs.rules.Files.{FileNode, File, AreRising, changed_at, bytes_held}
use Rattle.file_tree.specs.laws.Rebuilding.{FilledFiles}
use Rattle.file_tree.proofs.Rebuilt.{numbers_below}
use Rattle.file_tree.proofs.FilesTold.{files_with}

-- a node with these bytes
abbrev pub with_bytes : List ℕ → FileNode → FileNode
with_bytes bytes n = record n { content = File bytes }

none_rewritten : (k least : ℕ) (bytes : List ℕ) (ns : List FileNode) (next : ℕ)
    → AreRising least ns next → next ≤ k → map (changed_at k (with_bytes bytes)) ns ≡ ns
none_rewritten k least bytes ns next rising le = go ns (numbers_below least ns next rising).1 where
  go : (ms : List FileNode) → AllByRecursion (λ (n : FileNode). n.number < next) ms
      → map (changed_at k (with_bytes bytes)) ms ≡ ms
  go [] h = refl
  go (m ∷ ms) h =
      let apart : eqb m.number k ≡ false =
      ne_eqb m.number k (λ e. absurd (omega (arith, h.0, le, e))) in
      ap (λ (b : Bool).
      cond b (with_bytes bytes m) m ∷ map (changed_at k (with_bytes bytes)) ms) apart
      ∙ ap (λ (xs : List FileNode). m ∷ xs) (go ms h.1)

last_rewritten : (k : ℕ) (bytes : List ℕ) (n : FileNode) → n.number ≡ k
    → changed_at k (with_bytes bytes) n ≡ with_bytes bytes n
last_rewritten k bytes n e =
    ap (λ (b : Bool). cond b (with_bytes bytes n) n) (eq-eqb n.number k e)

twice_rewritten : (k : ℕ) (old bytes : List ℕ) (ns : List FileNode)
    → map (changed_at k (with_bytes bytes)) (map (changed_at k (with_bytes old)) ns)
    ≡ map (changed_at k (with_bytes bytes)) ns
twice_rewritten k old bytes [] = refl
twice_rewritten k old bytes (n ∷ ns) =
    by (eqb n.number k) refl (twice_rewritten k old bytes ns) where
      twice : List FileNode
      twice = map (changed_at k (with_bytes bytes)) (map (changed_at k (with_bytes old)) ns)

      once : List FileNode
      once = map (changed_at k (with_bytes bytes)) ns

      by : (b : Bool) → eqb n.number k ≡ b → twice ≡ once
          → map (changed_at k (with_bytes bytes)) (map (changed_at k (with_bytes old)) (n ∷ ns))
          ≡ map (changed_at k (with_bytes bytes)) (n ∷ ns)
      by true is later =
          ap (λ (b : Bool).
          changed_at k (with_bytes bytes) (cond b (with_bytes old n) n) ∷ twice) is
          ∙ ap (λ (b : Bool). cond b (with_bytes bytes n) (with_bytes old n) ∷ twice) is
          ∙ ap (λ (xs : List FileNode). with_bytes bytes n ∷ xs) later
          ∙ sym (ap (λ (b : Bool). cond b (with_bytes bytes n) n ∷ once) is)
      by false is later =
          ap (λ (b : Bool).
          changed_at k (with_bytes bytes) (cond b (with_bytes old n) n) ∷ twice) is
          ∙ ap (λ (xs : List FileNode). changed_at k (with_bytes bytes) n ∷ xs) later

bytes_rewritten : (k : ℕ) (bytes : List ℕ) (ns : List FileNode)
    → is_some (find (λ (n : FileNode). eqb n.number k) ns) ≡ true
    → bytes_held (find (λ (n : FileNode). eqb n.number k)
    (map (changed_at k (with_bytes bytes)) ns))
    ≡ bytes
bytes_rewritten k bytes [] some = absurd cc
bytes_rewritten k bytes (n ∷ ns) some =
    by (eqb n.number k) refl (bytes_rewritten k bytes ns) some where
      found : List FileNode → Option FileNode
      found ms = find (λ (m : FileNode). eqb m.number k) ms

      rest : List FileNode
      rest = map (changed_at k (with_bytes bytes)) ns

      by : (b : Bool) → eqb n.number k ≡ b
          → (is_some (found ns) ≡ true → bytes_held (found rest) ≡ bytes)
          → is_some (cond b (Some n) (found ns)) ≡ true
          → bytes_held (found (changed_at k (with_bytes bytes) n ∷ rest)) ≡ bytes
      by true is later some =
          ap (λ (b : Bool). bytes_held (found (cond b (with_bytes bytes n) n ∷ rest))) is
          ∙ ap (λ (b : Bool). bytes_held (cond b (Some (with_bytes bytes n)) (found rest))) is
      by false is later some =
          ap (λ (b : Bool). bytes_held (found (cond b (with_bytes bytes n) n ∷ rest))) is
          ∙ ap (λ (b : Bool). bytes_held (cond b (Some n) (found rest))) is
          ∙ later some

-- a new file with these bytes
abbrev new_file : ℕ → List ℕ → FileNode
new_file k bytes = record { number = k; path = None; content = File bytes }

pub filled_files : FilledFiles
filled_files = record {
  new = λ fs k old bytes are le.
      ap (λ (xs : List FileNode). files_with xs (k + 1))
      (map_push (changed_at k (with_bytes bytes)) fs.nodes (new_file k old)
      ∙ ap (λ (xs : List FileNode).
      xs ++ changed_at k (with_bytes bytes) (new_file k old) ∷ [])
      (none_rewritten k 1 bytes fs.nodes fs.next are.rising le)
      ∙ ap (λ (x : FileNode). fs.nodes ++ x ∷ [])
      (last_rewritten k bytes (new_file k old) refl));
  again = λ fs k old bytes.
      ap (λ (xs : List FileNode). files_with xs fs.next) (twice_rewritten k old bytes fs.nodes);
  bytes = λ fs k bytes some. bytes_rewritten k bytes fs.nodes some;
}
