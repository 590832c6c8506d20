-- Bytes put into a file one piece after another, and the file that they make.
use Rattle.std.proofs.Common.{◌≡◌, ◌≢◌, ℕ, zero, suc, ◌+◌, ◌<◌, ◌≤◌, max, inl, inr, List, [], ◌∷◌}
use Rattle.std.proofs.Common.{◌++◌, length, take, drop, refl, sym, ap, ◌∙◌, append_assoc, arith}
use Rattle.std.proofs.Common.{length-take, length-drop, length-append}
use Rattle.std.specs.Prelude.{Bool, true, false, ◌==◌, if◌then◌else◌, replicate, map, find, Some}
use Rattle.std.specs.Prelude.{option_map}
use Rattle.std.proofs.lemmas.Bool.{cases_lt, eqb-true, eqb-false}
use Rattle.std.proofs.lemmas.List.{append-nil, take-take, take-append-drop, take-append-le}
use Rattle.std.proofs.lemmas.List.{drop_all, drop-drop}
use Rattle.std.proofs.Math.Seq.{take-append_seam, drop-append-add}
use Rattle.file_tree.specs.rules.Bytes.{written, resized}
use Rattle.file_tree.specs.rules.Files.{Files, FileNode, File, Content, is_directory}
use Rattle.file_tree.specs.rules.Files.{holds_directory, bytes_of_node, bytes_held, node_of}
use Rattle.file_tree.specs.rules.Files.{changed_at, with_file_bytes, AreRising, IsFiles}
use Rattle.file_tree.proofs.Sizes.{length-written, length-resized, file_is}
use Rattle.guest_memory.specs.rules.Bytes.{part}
use Rattle.guest_memory.proofs.Ranges.{length-part}
use Rattle.wasi_calls_rules.specs.WasiStates.{Node, IsThere}
use Rattle.wasi_calls_rules.specs.Checks.{Bytes, Buffer, gathered}
use Rattle.wasi_calls_rules.proofs.NodesAfter.{node_there, mapped_node, changed_number, changed_own}
use Rattle.wasi_calls_rules.proofs.NodesAfter.{changed_other, rewritten_there}
use Rattle.file_tree.proofs.Rebuilt.{found_number}
use Rattle.file_tree.proofs.Filled.{with_bytes}
use Rattle.wasi_calls.specs.Moves.{total_len, AreInside}
use Rattle.wasi_calls.proofs.Fronts.{length_gathered}
use Rattle.wasi_calls.proofs.Pieces.{next_inside, next_gathered, next_total}

-- ---- bytes

-- within the bytes, no zeros are needed
pub written_within : (old : List ℕ) (from : ℕ) (bytes : List ℕ) → from ≤ length old
    → written old from bytes ≡ (take from old ++ bytes) ++ drop (from + length bytes) old
written_within old from bytes within =
    ap (λ (x : List ℕ). x ++ (bytes ++ drop (from + length bytes) old))
    (take-append-le from old (replicate from 0) within)
    ∙ sym (append_assoc (take from old) bytes (drop (from + length bytes) old))

pub written_none : (old : List ℕ) (from : ℕ) → from ≤ length old → written old from [] ≡ old
written_none old from within =
    let at : from + 0 ≡ from = omega arith in
    written_within old from [] within
    ∙ ap (λ (x : List ℕ). x ++ drop (from + 0) old) (append-nil (take from old))
    ∙ ap (λ (n : ℕ). take from old ++ drop n old) at ∙ take-append-drop from old

-- a piece, and then the others after it
pub written_both : (old : List ℕ) (from : ℕ) (piece rest : List ℕ)
    → from + length (piece ++ rest) ≤ length old
    → written (written old from piece) (from + length piece) rest
    ≡ written old from (piece ++ rest)
written_both old from piece rest within =
    let size = length-append piece rest in
    let n : ℕ = length piece in
    let front : List ℕ = take from old ++ piece in
    let back : List ℕ = drop (from + n) old in
    let once : written old from piece ≡ front ++ back =
    written_within old from piece (omega (arith, within, size)) in
    let long : length front ≡ from + n =
    omega (arith, length-append (take from old) piece, length-take from old, within, size) in
    let all : length (front ++ back) ≡ length old =
    omega (arith, length-append front back, long, length-drop (from + n) old, within, size) in
    let twice : written (front ++ back) (from + n) rest
    ≡ (take (from + n) (front ++ back) ++ rest) ++ drop (from + n + length rest) (front ++ back) =
    written_within (front ++ back) (from + n) rest (omega (arith, all, within, size)) in
    let kept : take (from + n) (front ++ back) ≡ front =
    ap (λ (k : ℕ). take k (front ++ back)) (sym long) ∙ take-append_seam front back in
    let end : from + n + length rest ≡ from + length (piece ++ rest) = omega (arith, size) in
    let after : drop (from + n + length rest) (front ++ back)
    ≡ drop (from + length (piece ++ rest)) old =
    ap (λ (k : ℕ). drop (k + length rest) (front ++ back)) (sym long)
    ∙ drop-append-add front back (length rest) ∙ drop-drop (length rest) (from + n) old
    ∙ ap (λ (k : ℕ). drop k old) end in
    ap (λ (x : List ℕ). written x (from + n) rest) once ∙ twice
    ∙ ap (λ (x : List ℕ). (x ++ rest) ++ drop (from + n + length rest) (front ++ back)) kept
    ∙ ap (λ (x : List ℕ). (front ++ rest) ++ x) after
    ∙ ap (λ (x : List ℕ). x ++ drop (from + length (piece ++ rest)) old)
    (append_assoc (take from old) piece rest)
    ∙ sym (written_within old from (piece ++ rest) (omega (arith, within)))

-- as many zeros as are needed, and more
enough_zeros : (n a b : ℕ) (xs : List ℕ) → n ≤ a → n ≤ b
    → take n (xs ++ replicate a 0) ≡ take n (xs ++ replicate b 0)
enough_zeros zero a b xs p q = refl
enough_zeros (suc n) zero b xs p q = absurd (omega (arith, p))
enough_zeros (suc n) (suc a) zero xs p q = absurd (omega (arith, q))
enough_zeros (suc n) (suc a) (suc b) [] p q =
    ap (λ (x : List ℕ). 0 ∷ x) (enough_zeros n a b [] (omega (arith, p)) (omega (arith, q)))
enough_zeros (suc n) (suc a) (suc b) (x ∷ xs) p q =
    ap (λ (y : List ℕ). x ∷ y)
    (enough_zeros n (suc a) (suc b) xs (omega (arith, p)) (omega (arith, q)))

-- a file that was made as large as it will be, and then written
pub written_resized : (old : List ℕ) (from size : ℕ) (bytes : List ℕ)
    → size ≡ max (length old) (from + length bytes)
    → written (resized old size) from bytes ≡ written old from bytes
written_resized old from size bytes is =
    let n : ℕ = from + length bytes in
    let full = length-resized old size in
    let front : take from (resized old size ++ replicate from 0)
    ≡ take from (old ++ replicate from 0) =
    take-append-le from (resized old size) (replicate from 0) (omega (arith, full, is))
    ∙ take-take from size (old ++ replicate size 0) (omega (arith, is))
    ∙ enough_zeros from size from old (omega (arith, is)) (omega arith) in
    let back : drop n (resized old size) ≡ drop n old = elim (cases_lt (length old) n) [
      | inl lt ↦ (
          drop_all n (resized old size) (omega (arith, full, is, lt))
          ∙ sym (drop_all n old (omega (arith, lt))))
      | inr ge ↦ (
          let same : size ≡ length old = omega (arith, is, ge) in
          ap (drop n) (ap (λ (k : ℕ). take k (old ++ replicate size 0)) same
          ∙ take-append_seam old (replicate size 0)))
    ] in
    ap (λ (x : List ℕ). x ++ (bytes ++ drop n (resized old size))) front
    ∙ ap (λ (x : List ℕ). take from (old ++ replicate from 0) ++ (bytes ++ x)) back

-- ---- files

twice : (k : ℕ) (a b : List ℕ) (n : FileNode) (p : Bool) → (n.number == k) ≡ p
    → changed_at k (with_bytes b) (if p then with_bytes a n else n)
    ≡ (if p then with_bytes b n else n)
twice k a b n true e = rw e refl
twice k a b n false e = rw e refl

each_twice : (k : ℕ) (a b : List ℕ) (ns : List FileNode)
    → map (changed_at k (with_bytes b)) (map (changed_at k (with_bytes a)) ns)
    ≡ map (changed_at k (with_bytes b)) ns
each_twice k a b [] = refl
each_twice k a b (n ∷ ns) =
    ap (λ (x : FileNode). x
    ∷ map (changed_at k (with_bytes b)) (map (changed_at k (with_bytes a)) ns))
    (twice k a b n (n.number == k) refl)
    ∙ ap (λ (xs : List FileNode). changed_at k (with_bytes b) n ∷ xs) (each_twice k a b ns)

-- a file that is written again
pub rewritten_again : (k : ℕ) (a b : List ℕ) (fs : Files)
    → with_file_bytes k b (with_file_bytes k a fs) ≡ with_file_bytes k b fs
rewritten_again k a b fs =
    ap (λ (ns : List FileNode). record { nodes = ns; next = fs.next }) (each_twice k a b fs.nodes)

-- the node of a file that was written
node_now : (fs : Files) (k : ℕ) (bytes : List ℕ) → IsThere fs (Node k)
    → (n : FileNode) × (node_of (with_file_bytes k bytes fs) k ≡ Some (with_bytes bytes n))
node_now fs k bytes there =
    let n = node_there fs k there in
    let found = found_number fs.nodes k n.0 n.1 in
    let own = changed_own k (with_bytes bytes) (λ x. refl) n.0 found in (
      n.0,
      mapped_node fs (with_file_bytes k bytes fs) (changed_at k (with_bytes bytes)) k
          (changed_number k (with_bytes bytes) (λ x. refl)) refl
          ∙ ap (option_map (changed_at k (with_bytes bytes))) n.1
          ∙ ap (λ (x : FileNode). Some x) own,
    )

pub bytes_now : (fs : Files) (k : ℕ) (bytes : List ℕ) → IsThere fs (Node k)
    → bytes_of_node (with_file_bytes k bytes fs) k ≡ bytes
bytes_now fs k bytes there = ap bytes_held (node_now fs k bytes there).1

pub file_now : (fs : Files) (k : ℕ) (bytes : List ℕ) → IsThere fs (Node k)
    → is_directory (with_file_bytes k bytes fs) k ≡ false
file_now fs k bytes there = ap holds_directory (node_now fs k bytes there).1

-- ---- a file with its own bytes

none_above : (k : ℕ) (bytes : List ℕ) (least : ℕ) (ns : List FileNode) (next : ℕ) → k < least
    → AreRising least ns next → map (changed_at k (with_bytes bytes)) ns ≡ ns
none_above k bytes least [] next above rising = refl
none_above k bytes least (n ∷ ns) next above rising =
    let low = rising.0 in
    let other : n.number ≢ k = λ e. omega (arith, e, low, above) in
    ap (λ (x : FileNode). x ∷ map (changed_at k (with_bytes bytes)) ns)
    (changed_other k (with_bytes bytes) (λ x. refl) n other)
    ∙ ap (λ (xs : List FileNode). n ∷ xs)
    (none_above k bytes (n.number + 1) ns next (omega (arith, low, above)) rising.1)

own_each : (k : ℕ) (bytes : List ℕ) (least : ℕ) (ns : List FileNode) (next : ℕ)
    → AreRising least ns next
    → holds_directory (find (λ (n : FileNode). n.number == k) ns) ≡ false
    → bytes_held (find (λ (n : FileNode). n.number == k) ns) ≡ bytes
    → map (changed_at k (with_bytes bytes)) ns ≡ ns
own_each k bytes least [] next rising file is = refl
own_each k bytes least (n ∷ ns) next rising file is =
    by_test (n.number == k) refl (own_each k bytes (n.number + 1) ns next rising.1) file is
  where
    by_test : (p : Bool) → (n.number == k) ≡ p
        → (holds_directory (find (λ (n : FileNode). n.number == k) ns) ≡ false
        → bytes_held (find (λ (n : FileNode). n.number == k) ns) ≡ bytes
        → map (changed_at k (with_bytes bytes)) ns ≡ ns)
        → holds_directory (if p then Some n else find (λ (n : FileNode). n.number == k) ns) ≡ false
        → bytes_held (if p then Some n else find (λ (n : FileNode). n.number == k) ns) ≡ bytes
        → (changed_at k (with_bytes bytes) n ∷ map (changed_at k (with_bytes bytes)) ns) ≡ n ∷ ns
    by_test true e later f is =
        let same : n.number ≡ k = eqb-true n.number k e in
        let content : n.content ≡ File bytes =
        file_is n.content f ∙ ap (λ (b : List ℕ). File b) is in
        ap (λ (x : FileNode). x ∷ map (changed_at k (with_bytes bytes)) ns)
        (changed_own k (with_bytes bytes) (λ x. refl) n same
        ∙ ap (λ (c : Content). record n { content = c }) (sym content))
        ∙ ap (λ (xs : List FileNode). n ∷ xs)
        (none_above k bytes (n.number + 1) ns next (omega (arith, same)) rising.1)
    by_test false e later f is =
        ap (λ (x : FileNode). x ∷ map (changed_at k (with_bytes bytes)) ns)
        (changed_other k (with_bytes bytes) (λ x. refl) n (λ same. eqb-false n.number k e same))
        ∙ ap (λ (xs : List FileNode). n ∷ xs)
        (later f is)

-- writing what is there changes nothing
pub own_bytes : (fs : Files) (k : ℕ) → IsFiles fs → is_directory fs k ≡ false
    → with_file_bytes k (bytes_of_node fs k) fs ≡ fs
own_bytes fs k are file =
    ap (λ (ns : List FileNode). record { nodes = ns; next = fs.next })
    (own_each k (bytes_of_node fs k) 1 fs.nodes fs.next are.rising file refl)

-- ---- a file that is written piece by piece

-- the buffers before these are in the file
pub record IsPut (m : Bytes) (bs rest : List Buffer) (k from place : ℕ) (old now : Files)
    : Type 0 where
  pub inside : AreInside m rest
  pub there : IsThere now (Node k)
  pub file : is_directory now k ≡ false
  pub size : length (bytes_of_node now k) ≡ length (bytes_of_node old k)
  pub is : now ≡ with_file_bytes k (bytes_of_node now k) old
  pub on : written (bytes_of_node now k) place (gathered m rest)
      ≡ written (bytes_of_node old k) from (gathered m bs)
  pub within : place + total_len rest ≤ length (bytes_of_node now k)

pub put_next : (m : Bytes) (bs items : List Buffer) (k from place i : ℕ) (old now : Files)
    (b : Buffer) (split : drop i items ≡ b ∷ drop (i + 1) items) (piece : Bytes) (after : Files)
    (n : ℕ) → IsPut m bs (drop i items) k from place old now → piece ≡ part m b.from b.len
    → after ≡ with_file_bytes k (written (bytes_of_node now k) place piece) now
    → n ≡ place + length piece → IsPut m bs (drop (i + 1) items) k from n old after
put_next m bs items k from place i old now b split piece after n so_far is put count =
    let c : Bytes = bytes_of_node now k in
    let d : Bytes = written c place piece in
    let rest : List Buffer = drop (i + 1) items in
    let both = next_inside m items i b split so_far.inside in
    let size : length piece ≡ b.len = ap length is ∙ length-part m b.from b.len both.0 in
    let len = length_gathered m rest both.1 in
    let within = so_far.within in
    let total = next_total m items i b split in
    let fits : place + length (piece ++ gathered m rest) ≤ length c =
    omega (arith, within, total, size, len, length-append piece (gathered m rest)) in
    let held : bytes_of_node after k ≡ d = ap (λ (fs : Files). bytes_of_node fs k) put
    ∙ bytes_now now k d so_far.there in
    let long : length d ≡ length c =
    omega (arith, length-written c place piece, fits, length-append piece (gathered m rest)) in
    record {
      inside = both.1;
      there = rw put (rewritten_there now k d k so_far.there);
      file = rw put (file_now now k d so_far.there);
      size = ap length held ∙ long ∙ so_far.size;
      is = put ∙ ap (with_file_bytes k d) so_far.is ∙ rewritten_again k c d old
          ∙ ap (λ (x : Bytes). with_file_bytes k x old) (sym held);
      on = ap (λ (x : Bytes). written x n (gathered m rest)) held
          ∙ ap (λ (x : ℕ). written d x (gathered m rest)) count
          ∙ written_both c place piece (gathered m rest) fits
          ∙ ap (λ (x : Bytes). written c place (x ++ gathered m rest)) is
          ∙ ap (written c place) (sym (next_gathered m items i b split)) ∙ so_far.on;
      within = omega (arith, within, total, size, count, ap length held, long);
    }

pub put_all : (m : Bytes) (bs : List Buffer) (k from place : ℕ) (old now : Files)
    → IsPut m bs [] k from place old now
    → now ≡ with_file_bytes k (written (bytes_of_node old k) from (gathered m bs)) old
put_all m bs k from place old now all =
    let within = all.within in
    all.is ∙ ap (λ (x : Bytes). with_file_bytes k x old)
    (sym (written_none (bytes_of_node now k) place (omega (arith, within))) ∙ all.on)
