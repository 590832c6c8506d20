-- UTF-8 is of bytes, so the names of files are. So is all that files hold.
use Rattle.std.proofs.Common.{◌≡◌, ◌⊎◌, inl, inr, ℕ, zero, suc, ◌<◌, ◌≤◌, true, arith, List, []}
use Rattle.std.proofs.Common.{◌∷◌, ◌++◌, length, length-append, Some, None, sym, ap, subst}
use Rattle.std.specs.Prelude.{Option, IfSome}
use Rattle.std.specs.List.{AllByRecursion}
use Rattle.std.specs.Str.{IsUtf8}
use Rattle.std.proofs.lemmas.Bool.{cases_lt, lt-ltb, le-ltb, and_parts}
use Rattle.std.proofs.Math.Utf8.{scalar, scalars, encode, encodes, scalar_cases}
use Rattle.guest_memory.specs.rules.Bytes.{IsByte}
use Rattle.guest_memory.proofs.Lists.{all_both}
use Rattle.wasi_abi.specs.rules.Answers.{AreBytes}
use Rattle.file_tree.specs.rules.Files.{Path, Content, Directory, File, FileNode, Files, IsFiles}
use Rattle.file_tree.specs.rules.Files.{IsPlaced, IsSmallContent, node_of, path_of}
use Rattle.file_tree.proofs.Rebuilt.{all_found, path_there}
use Rattle.wasi_calls_rules.specs.laws.Laws.{IsPathOfBytes, IsContentOfBytes, IsNodeOfBytes}

-- ---- texts

encode_bytes : (c : ℕ) → c < 1114112 → AllByRecursion IsByte (encode c)
unfolding encode
encode_bytes c lt = by (cases_lt c 128) (cases_lt c 2048) (cases_lt c 65536) where
  by : (c < 128) ⊎ (128 ≤ c) → (c < 2048) ⊎ (2048 ≤ c) → (c < 65536) ⊎ (65536 ≤ c)
      → AllByRecursion IsByte (encode c)
  by (inl h) y z = rw (lt-ltb c 128 h) (omega (arith, h), tt)
  by (inr h) (inl k) z = rw (le-ltb c 128 h, lt-ltb c 2048 k) (omega (arith, k), (omega arith, tt))
  by (inr h) (inr k) (inl l) =
      rw (le-ltb c 128 h, le-ltb c 2048 k, lt-ltb c 65536 l)
      (omega (arith, l), (omega arith, (omega arith, tt)))
  by (inr h) (inr k) (inr l) =
      rw (le-ltb c 128 h, le-ltb c 2048 k, le-ltb c 65536 l)
      (omega (arith, lt), (omega arith, (omega arith, (omega arith, tt))))

below : (c : ℕ) → (c < 55296) ⊎ ((57344 ≤ c) × (c < 1114112)) → c < 1114112
below c (inl h) = omega (arith, h)
below c (inr h) = h.1

encodes_bytes : (cs : List ℕ) → scalars cs ≡ true → AllByRecursion IsByte (encodes cs)
encodes_bytes [] e = tt
encodes_bytes (c ∷ cs) e =
    let parts = and_parts (scalar c) (scalars cs) e in
    all_both IsByte (encode c) (encodes cs)
    (encode_bytes c (below c (scalar_cases c parts.0))) (encodes_bytes cs parts.1)

pub text_of_bytes : (text : List ℕ) → IsUtf8 text → AllByRecursion IsByte text
text_of_bytes text h = subst (AllByRecursion IsByte) h.1.1 (encodes_bytes h.0 h.1.0)

-- ---- files

content_of_bytes : (c : Content) → IsSmallContent c → IsContentOfBytes c
content_of_bytes Directory small = tt
content_of_bytes (File bytes) small = small.1

module _ (fs : Files) (is : IsFiles fs) where
  placed_at : (d : ℕ) (p : Path) → path_of fs d ≡ Some p → IsPlaced fs p
  placed_at d p at =
      let n = path_there (node_of fs d) p at in
      let placed = all_found (λ (x : FileNode). IfSome x.path (IsPlaced fs)) fs.nodes d n.0
      is.placed n.1 in
      subst (λ (o : Option Path). IfSome o (IsPlaced fs)) n.2 placed

  -- a path of so many names at most
  path_bytes : (n : ℕ) (p : Path) → length p ≤ n → IsPlaced fs p → AllByRecursion AreBytes p
  path_bytes n p few (inl root) = subst (AllByRecursion AreBytes) (sym root) tt
  path_bytes zero p few (inr (d, parent, name, ends, named, above, directory)) =
      absurd (let count : length p ≡ length (parent ++ name ∷ []) = ap length ends in
      omega (arith, few, count, length-append parent (name ∷ [])))
  path_bytes (suc n) p few (inr (d, parent, name, ends, named, above, directory)) =
      let count : length p ≡ length (parent ++ name ∷ []) = ap length ends in
      let fewer : length parent ≤ n =
      omega (arith, few, count, length-append parent (name ∷ [])) in
      subst (AllByRecursion AreBytes) (sym ends)
      (all_both AreBytes parent (name ∷ []) (path_bytes n parent fewer (placed_at d parent above))
      (text_of_bytes name named.utf8, tt))

  given_bytes : (o : Option Path) → IfSome o (IsPlaced fs) → IsPathOfBytes o
  given_bytes None placed = tt
  given_bytes (Some p) placed = path_bytes (length p) p (omega arith) placed

  nodes_bytes : (ns : List FileNode)
      → AllByRecursion (λ (n : FileNode). IfSome n.path (IsPlaced fs)) ns
      → AllByRecursion (λ (n : FileNode). IsSmallContent n.content) ns
      → AllByRecursion IsNodeOfBytes ns
  nodes_bytes [] placed small = tt
  nodes_bytes (n ∷ ns) placed small = (
    record {
      path = given_bytes n.path placed.0;
      content = content_of_bytes n.content small.0;
    },
    nodes_bytes ns placed.1 small.1,
  )

pub files_of_bytes : (fs : Files) → IsFiles fs → AllByRecursion IsNodeOfBytes fs.nodes
files_of_bytes fs is = nodes_bytes fs is fs.nodes is.placed is.contents
