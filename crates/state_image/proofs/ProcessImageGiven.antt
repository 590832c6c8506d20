-- The fields of an image in their order: items after their number, and what is left after each
-- field. `from_counts` and the like of `Whole` name what is left.
use Rattle.std.proofs.Common.{◌≡◌, ℕ, Bool, true, false, List, [], ◌∷◌, ◌++◌, length, reverse}
use Rattle.std.proofs.Common.{◌<◌, refl, sym, ap, ◌∙◌, append_assoc, arith}
use Rattle.std.specs.List.{flat_map}
use Rattle.std.proofs.lemmas.List.{append-nil}
use Rattle.std.proofs.lemmas.Grind.{flat_map-append}
use Rattle.wasi_abi.specs.rules.Layouts.{u32_bytes, u64_bytes}
use Rattle.file_tree.specs.rules.Files.{Files, is_directory}
use Rattle.wasi_calls_rules.specs.WasiStates.{Target, Stream, Node}
use Rattle.machine_slots.specs.rules.Places.{MachineState}
use Rattle.state_image.specs.rules.ProcessImage.{items_bytes, place_bytes, memory_bytes}
use Rattle.state_image.specs.rules.ProcessImage.{machine_bytes, node_bytes, files_bytes, Numbered}
use Rattle.state_image.specs.rules.Ranges.{IsIn}
use Rattle.state_image.specs.rules.RawDescriptors.{raw_target_type, raw_node, raw_of, IsRawIn}
use Rattle.state_image.specs.restoring.Descriptors.{IsTargetIn}
use Rattle.state_image.proofs.Places.{IsNumberedIn}
use Rattle.state_image.proofs.ReadLemmas.{in_two}

-- ---- items behind their number

-- one item more that was read
pub item_more : {X : Type 0} (bytes : X → List ℕ) (xs : List X) (x : X) (old mid new : List ℕ)
    → old ≡ flat_map bytes xs ++ mid → mid ≡ bytes x ++ new
    → old ≡ flat_map bytes (xs ++ x ∷ []) ++ new
item_more bytes xs x old mid new before here =
    in_two (flat_map bytes xs) (bytes x) old mid new before here
    ∙ ap (λ (ys : List ℕ). ys ++ new) (ap (λ (ys : List ℕ). flat_map bytes xs ++ ys)
    (sym (append-nil (bytes x))) ∙ sym (flat_map-append bytes xs (x ∷ [])))

-- their number, and so many items
pub items_read : {X : Type 0} (bytes : X → List ℕ) (xs : List X) (old mid new : List ℕ)
    → old ≡ u32_bytes (length xs) ++ mid → mid ≡ flat_map bytes xs ++ new
    → old ≡ items_bytes bytes xs ++ new
items_read bytes xs old mid new count here =
    in_two (u32_bytes (length xs)) (flat_map bytes xs) old mid new count here

-- ---- a machine's fields, and those of files

pub machine_in_order : (m : MachineState) (rest : List ℕ)
    → machine_bytes m ++ rest
    ≡ items_bytes u64_bytes m.globals ++ (items_bytes place_bytes (reverse m.frames)
    ++ (memory_bytes m.memory ++ rest))
machine_in_order m rest =
    append_assoc (items_bytes u64_bytes m.globals)
    (items_bytes place_bytes (reverse m.frames) ++ memory_bytes m.memory) rest
    ∙ ap (λ (bytes : List ℕ). items_bytes u64_bytes m.globals ++ bytes)
    (append_assoc (items_bytes place_bytes (reverse m.frames)) (memory_bytes m.memory) rest)

pub files_in_order : (fs : Files) (rest : List ℕ)
    → files_bytes fs ++ rest ≡ u64_bytes fs.next ++ (items_bytes (node_bytes fs) fs.nodes ++ rest)
files_in_order fs rest =
    append_assoc (u64_bytes fs.next) (items_bytes (node_bytes fs) fs.nodes) rest

-- ---- ranges of what is read in steps

pub raw_within : (fs : Files) (d : Numbered) → IsNumberedIn d → IsRawIn (raw_of fs d)
raw_within fs d h = record {
  number = h.number;
  target_type = target_type_within d.descriptor.target h.descriptor.target;
  node = node_within d.descriptor.target h.descriptor.target;
  offset = h.descriptor.offset;
  flags = h.descriptor.flags;
  base = h.descriptor.base;
  inheriting = h.descriptor.inheriting;
} where
  of_node : (b : Bool) (k : ℕ) → is_directory fs k ≡ b → raw_target_type fs (Node k) < 256
  of_node true k e = rw e (omega arith)
  of_node false k e = rw e (omega arith)

  target_type_within : (t : Target) → IsTargetIn t → IsIn 1 (raw_target_type fs t)
  target_type_within (Stream s) few = omega (arith, few)
  target_type_within (Node k) few = of_node (is_directory fs k) k refl

  node_within : (t : Target) → IsTargetIn t → IsIn 8 (raw_node t)
  node_within (Stream s) few = omega arith
  node_within (Node k) few = few
