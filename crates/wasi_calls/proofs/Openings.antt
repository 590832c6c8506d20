-- Nodes that are opened, and the numbers of their descriptors.
use Rattle.std.proofs.Common.{◌≡◌, ℕ, zero, suc, ◌<◌, List, [], ◌∷◌, ◌++◌, length, sym, subst}
use Rattle.std.proofs.Common.{arith}
use Rattle.std.specs.Prelude.{true, Option, Some, None, Ok, IfSome, slice_get, slice_set}
use Rattle.file_tree.specs.rules.Files.{Path, File, Files, IsFiles, is_directory, created}
use Rattle.wasi_calls_rules.specs.WasiStates.{Node, Descriptor, WasiState, IsThere, IsDescriptor}
use Rattle.wasi_calls_rules.specs.WasiStates.{IsWasiState}
use Rattle.wasi_calls_rules.specs.Checks.{node_named}
use Rattle.wasi_calls_rules.specs.Entries.{free_number}
use Rattle.wasi_calls_rules.specs.Paths.{WalkEnd, Self, Leaf, node_at}
use Rattle.wasi_calls_rules.proofs.KeepsWasiStates.{file_state, with_file_state}
use Rattle.wasi_calls_rules.proofs.NodesAfter.{there_node, directory_there, path_node, child_path}
use Rattle.wasi_calls_rules.proofs.NodesAfter.{child_parent, created_own}
use Rattle.wasi_calls_rules.proofs.FileState.{new_kept}
use Rattle.wasi_calls_rules.proofs.Tables.{free_place}
use Rattle.wasi_calls.specs.Places.{IsWellPlaced}

-- ---- free numbers

there_below : {X : Type 0} (xs : List X) (n : ℕ) (x : X) → slice_get xs n ≡ Some x → n < length xs
there_below [] n x e = absurd (cc)
there_below (y ∷ xs) zero x e = omega arith
there_below (y ∷ xs) (suc n) x e = (let h = there_below xs n x e in omega (arith, h))

pub free_within : (h : WasiState) (n : ℕ) → free_number h ≡ Ok n → n < length h.descriptors
free_within h n e = there_below h.descriptors n None (free_place h n e)

-- ---- what is opened

pub well_there : (fs : Files) (place : WalkEnd) (o : Option ℕ) → IsFiles fs
    → IsWellPlaced fs place → o ≡ node_at fs place → IfSome o (λ k. IsThere fs (Node k))
well_there fs (Self j) None are well e = tt
well_there fs (Self j) (Some k) are well e =
    let same : j ≡ k = cc in
    there_node fs k (directory_there fs k (subst (λ (i : ℕ). is_directory fs i ≡ true) same well))
well_there fs (Leaf d name) None are well e = tt
well_there fs (Leaf d name) (Some k) are well e =
    let above = child_parent fs d k name (sym e) in
    there_node fs k (path_node fs k (above.0 ++ name ∷ [])
    (child_path fs d k name above.0 are above.1 (sym e)))

-- a file that was made is there
pub made_there : (fs after : Files) (p : Path) (k : ℕ) → after ≡ created p (File []) fs
    → k ≡ fs.next → IsThere after (Node k)
made_there fs after p k e f =
    subst (λ (x : Files). IsThere x (Node k)) (sym e)
    (subst (λ (i : ℕ). IsThere (created p (File []) fs) (Node i)) (sym f)
    (created_own fs p (File [])))

-- ---- hosts

pub opened_host : (h : WasiState) (n : ℕ) (d : Descriptor) → IsWasiState h → free_number h ≡ Ok n
    → d.target ≡ Node (node_named d.target) → IsDescriptor h.files d
    → IsWasiState (record h { descriptors = slice_set h.descriptors n (Some d) })
opened_host h n d is free target own =
    with_file_state h h.files (slice_set h.descriptors n (Some d)) is
    (new_kept h.files h.descriptors h.room n (node_named d.target) d (file_state h is)
    (free_place h n free) target own)
