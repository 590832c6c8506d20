-- Frames, fronts of nodes, entries and descriptors, read field by field.
use Rattle.std.proofs.Common.{◌≡◌, ℕ, List, [], ◌∷◌, ◌++◌, length, sym, ap, ◌∙◌}
use Rattle.std.proofs.Common.{append_assoc, arith}
use Rattle.wasi_abi.specs.rules.Layouts.{u16_bytes, u32_bytes, u64_bytes}
use Rattle.wasi_abi.specs.rules.Numbers.{directory_type, regular_file}
use Rattle.file_tree.specs.rules.Files.{Entry}
use Rattle.machine_slots.specs.rules.Places.{ShownFrame}
use Rattle.state_image.specs.declared.reading.descriptors.ReadDescriptor.{ReadDescriptor}
use Rattle.state_image.specs.rules.ProcessImage.{items_bytes, place_bytes, entry_bytes}
use Rattle.state_image.specs.rules.Ranges.{IsIn, AreWords, IsPlaceIn, IsEntryIn}
use Rattle.state_image.specs.rules.Reading.{HasField, LacksField}
use Rattle.state_image.specs.rules.Fronts.{ContentFront, EntryCount, FileBytes, NodeFront}
use Rattle.state_image.specs.rules.Fronts.{content_front_bytes, front_bytes, IsContentFrontIn}
use Rattle.state_image.specs.rules.Fronts.{IsFrontIn}
use Rattle.state_image.specs.rules.RawDescriptors.{raw_bytes, IsRawIn}
use Rattle.state_image.proofs.Fields.{byte_field, number_field, counted_field}
use Rattle.state_image.proofs.ReadLemmas.{in_two, is_that, none_first, none_after, none_of}

-- ---- frames

abbrev pub from_position : ShownFrame → List ℕ
from_position f = u32_bytes f.position ++ items_bytes u64_bytes f.slots

abbrev pub slots_of : ShownFrame → List ℕ
slots_of f = items_bytes u64_bytes f.slots

pub no_function : {old new : List ℕ} → LacksField u32_bytes (IsIn 4) old new
    → LacksField place_bytes IsPlaceIn old new
no_function lacks = none_first (λ f. f.function) from_position (λ f h. h.function) lacks

pub no_position : {old new : List ℕ} → LacksField u32_bytes (IsIn 4) old new
    → LacksField from_position IsPlaceIn old new
no_position lacks = none_first (λ f. f.position) slots_of (λ f h. h.position) lacks

pub no_slots : {old new : List ℕ} → LacksField (items_bytes u64_bytes) AreWords old new
    → LacksField slots_of IsPlaceIn old new
no_slots lacks = none_of (λ f. f.slots) (λ f h. h.slots) lacks

pub after_function : {x : ℕ} {old mid new : List ℕ} → HasField u32_bytes (IsIn 4) x old mid
    → LacksField from_position IsPlaceIn mid new → LacksField place_bytes IsPlaceIn old new
after_function has lacks =
    none_after (number_field 4) (λ f. f.function) from_position (λ f h. h.function) has lacks

pub after_position : {x : ℕ} {old mid new : List ℕ} → HasField u32_bytes (IsIn 4) x old mid
    → LacksField slots_of IsPlaceIn mid new → LacksField from_position IsPlaceIn old new
after_position has lacks =
    none_after (number_field 4) (λ f. f.position) slots_of (λ f h. h.position) has lacks

-- ---- entries

pub no_entry_number : {name old mid new : List ℕ}
    → HasField (λ name. u16_bytes (length name) ++ name) (λ name. IsIn 2 (length name)) name old mid
    → LacksField u64_bytes (IsIn 8) mid new → LacksField entry_bytes IsEntryIn old new
no_entry_number has lacks =
    let none = none_after (counted_field 2) (λ (e : Entry). e.name) (λ e. u64_bytes e.number)
    (λ e h. h.name) has (none_of (λ e. e.number) (λ e h. h.number) lacks) in
    record {
      none = λ e rest h is. none.none e rest h (is ∙ ap (λ bytes. bytes ++ rest)
          (sym (append_assoc (u16_bytes (length e.name)) e.name (u64_bytes e.number))));
      passed = none.passed;
      is = none.is;
    }

-- ---- fronts of nodes

abbrev pub content_in : NodeFront → List ℕ
content_in n = content_front_bytes n.content

pub no_content : {x : ℕ} {old mid new : List ℕ} → HasField u64_bytes (IsIn 8) x old mid
    → LacksField content_front_bytes IsContentFrontIn mid new
    → LacksField front_bytes IsFrontIn old new
no_content has lacks =
    none_after (number_field 8) (λ n. n.number) content_in (λ n h. h.number) has
    (none_of (λ n. n.content) (λ n h. h.content) lacks)

-- a directory, and then no number of entries
pub no_count : (file_type : ℕ) (old mid new : List ℕ)
    → HasField (λ (b : ℕ). b ∷ []) (IsIn 1) file_type old mid → file_type ≡ directory_type
    → LacksField u32_bytes (IsIn 4) mid new
    → LacksField content_front_bytes IsContentFrontIn old new
no_count file_type old mid new has is lacks = record {
  none = told;
  passed = (file_type ∷ []) ++ lacks.passed;
  is = in_two (file_type ∷ []) lacks.passed old mid new has.is lacks.is;
} where
  told : (front : ContentFront) (rest : List ℕ) → IsContentFrontIn front
      → old ≡ content_front_bytes front ++ rest → ⊥
  told (EntryCount count) rest h e =
      let same = is_that byte_field has directory_type (u32_bytes count ++ rest) (omega arith) e in
      lacks.none count rest h same.1
  told (FileBytes bytes) rest h e =
      let same = is_that byte_field has regular_file ((u64_bytes (length bytes) ++ bytes) ++ rest)
      (omega arith) e in
      absurd (omega (arith, is, same.0))

-- a file, and then no bytes of one
pub no_file : (file_type : ℕ) (old mid new : List ℕ)
    → HasField (λ (b : ℕ). b ∷ []) (IsIn 1) file_type old mid → file_type ≡ regular_file
    → LacksField (λ text. u64_bytes (length text) ++ text) (λ text. IsIn 8 (length text)) mid new
    → LacksField content_front_bytes IsContentFrontIn old new
no_file file_type old mid new has is lacks = record {
  none = told;
  passed = (file_type ∷ []) ++ lacks.passed;
  is = in_two (file_type ∷ []) lacks.passed old mid new has.is lacks.is;
} where
  told : (front : ContentFront) (rest : List ℕ) → IsContentFrontIn front
      → old ≡ content_front_bytes front ++ rest → ⊥
  told (EntryCount count) rest h e =
      let same = is_that byte_field has directory_type (u32_bytes count ++ rest) (omega arith) e in
      absurd (omega (arith, is, same.0))
  told (FileBytes bytes) rest h e =
      let same = is_that byte_field has regular_file ((u64_bytes (length bytes) ++ bytes) ++ rest)
      (omega arith) e in
      lacks.none bytes rest h same.1

-- neither a directory nor a file
pub no_file_type : (file_type : ℕ) (old mid : List ℕ) → HasField (λ (b : ℕ). b
    ∷ []) (IsIn 1) file_type old mid → (file_type ≡ directory_type → ⊥)
    → (file_type ≡ regular_file → ⊥) → LacksField content_front_bytes IsContentFrontIn old mid
no_file_type file_type old mid has not_directory not_file = record {
  none = told;
  passed = file_type ∷ [];
  is = has.is;
} where
  told : (front : ContentFront) (rest : List ℕ) → IsContentFrontIn front
      → old ≡ content_front_bytes front ++ rest → ⊥
  told (EntryCount count) rest h e =
      not_directory (is_that byte_field has directory_type (u32_bytes count ++ rest) (omega arith)
      e).0
  told (FileBytes bytes) rest h e =
      not_file (is_that byte_field has regular_file ((u64_bytes (length bytes) ++ bytes) ++ rest)
      (omega arith) e).0

-- ---- descriptors

abbrev pub from_inheriting : ReadDescriptor → List ℕ
from_inheriting d = u64_bytes d.inheriting

abbrev pub from_base : ReadDescriptor → List ℕ
from_base d = u64_bytes d.base ++ from_inheriting d

abbrev pub from_flags : ReadDescriptor → List ℕ
from_flags d = u16_bytes d.flags ++ from_base d

abbrev pub from_offset : ReadDescriptor → List ℕ
from_offset d = u64_bytes d.offset ++ from_flags d

abbrev pub from_node : ReadDescriptor → List ℕ
from_node d = u64_bytes d.node ++ from_offset d

abbrev pub from_target_type : ReadDescriptor → List ℕ
from_target_type d = (d.target_type ∷ []) ++ from_node d

pub no_raw_number : {old new : List ℕ} → LacksField u32_bytes (IsIn 4) old new
    → LacksField raw_bytes IsRawIn old new
no_raw_number lacks = none_first (λ d. d.number) from_target_type (λ d h. h.number) lacks

pub no_raw_target_type : {old new : List ℕ} → LacksField (λ (b : ℕ). b ∷ []) (IsIn 1) old new
    → LacksField from_target_type IsRawIn old new
no_raw_target_type lacks = none_first (λ d. d.target_type) from_node (λ d h. h.target_type) lacks

pub no_raw_node : {old new : List ℕ} → LacksField u64_bytes (IsIn 8) old new
    → LacksField from_node IsRawIn old new
no_raw_node lacks = none_first (λ d. d.node) from_offset (λ d h. h.node) lacks

pub no_raw_offset : {old new : List ℕ} → LacksField u64_bytes (IsIn 8) old new
    → LacksField from_offset IsRawIn old new
no_raw_offset lacks = none_first (λ d. d.offset) from_flags (λ d h. h.offset) lacks

pub no_raw_flags : {old new : List ℕ} → LacksField u16_bytes (IsIn 2) old new
    → LacksField from_flags IsRawIn old new
no_raw_flags lacks = none_first (λ d. d.flags) from_base (λ d h. h.flags) lacks

pub no_raw_base : {old new : List ℕ} → LacksField u64_bytes (IsIn 8) old new
    → LacksField from_base IsRawIn old new
no_raw_base lacks = none_first (λ d. d.base) from_inheriting (λ d h. h.base) lacks

pub no_raw_inheriting : {old new : List ℕ} → LacksField u64_bytes (IsIn 8) old new
    → LacksField from_inheriting IsRawIn old new
no_raw_inheriting lacks = none_of (λ d. d.inheriting) (λ d h. h.inheriting) lacks

pub after_raw_number : {x : ℕ} {old mid new : List ℕ} → HasField u32_bytes (IsIn 4) x old mid
    → LacksField from_target_type IsRawIn mid new → LacksField raw_bytes IsRawIn old new
after_raw_number has lacks =
    none_after (number_field 4) (λ d. d.number) from_target_type (λ d h. h.number) has lacks

pub after_raw_target_type : {x : ℕ} {old mid new : List ℕ}
    → HasField (λ (b : ℕ). b ∷ []) (IsIn 1) x old mid
    → LacksField from_node IsRawIn mid new → LacksField from_target_type IsRawIn old new
after_raw_target_type has lacks =
    none_after byte_field (λ d. d.target_type) from_node (λ d h. h.target_type) has lacks

pub after_raw_node : {x : ℕ} {old mid new : List ℕ} → HasField u64_bytes (IsIn 8) x old mid
    → LacksField from_offset IsRawIn mid new → LacksField from_node IsRawIn old new
after_raw_node has lacks =
    none_after (number_field 8) (λ d. d.node) from_offset (λ d h. h.node) has lacks

pub after_raw_offset : {x : ℕ} {old mid new : List ℕ} → HasField u64_bytes (IsIn 8) x old mid
    → LacksField from_flags IsRawIn mid new → LacksField from_offset IsRawIn old new
after_raw_offset has lacks =
    none_after (number_field 8) (λ d. d.offset) from_flags (λ d h. h.offset) has lacks

pub after_raw_flags : {x : ℕ} {old mid new : List ℕ} → HasField u16_bytes (IsIn 2) x old mid
    → LacksField from_base IsRawIn mid new → LacksField from_flags IsRawIn old new
after_raw_flags has lacks =
    none_after (number_field 2) (λ d. d.flags) from_base (λ d h. h.flags) has lacks

pub after_raw_base : {x : ℕ} {old mid new : List ℕ} → HasField u64_bytes (IsIn 8) x old mid
    → LacksField from_inheriting IsRawIn mid new → LacksField from_base IsRawIn old new
after_raw_base has lacks =
    none_after (number_field 8) (λ d. d.base) from_inheriting (λ d h. h.base) has lacks
