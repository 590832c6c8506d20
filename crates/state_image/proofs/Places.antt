-- Open descriptors with their numbers, told by their bytes; and all places, told by the open ones.
use Rattle.std.proofs.Common.{◌≡◌, ℕ, ◌+◌, ◌^◌, ◌<◌, ◌≤◌, Bool, true, false, List, [], ◌∷◌, ◌++◌}
use Rattle.std.proofs.Common.{length, Option, Some, None, refl, sym, ap, subst, ◌∙◌, arith}
use Rattle.std.specs.Prelude.{if◌then◌else◌, IfSome}
use Rattle.std.specs.List.{AllByRecursion}
use Rattle.wasi_abi.specs.rules.Layouts.{u16_bytes, u32_bytes, u64_bytes}
use Rattle.wasi_abi.specs.rules.Numbers.{directory_type, regular_file}
use Rattle.file_tree.specs.rules.Files.{Files, is_directory}
use Rattle.file_tree.proofs.SameNames.{heads}
use Rattle.wasi_calls_rules.specs.WasiStates.{Target, Stream, Node, Descriptor}
use Rattle.state_image.specs.rules.ProcessImage.{target_bytes, Numbered, open_from}
use Rattle.state_image.specs.rules.ProcessImage.{descriptor_bytes, items_bytes}
use Rattle.state_image.specs.rules.Ranges.{IsIn, AreFew}
use Rattle.state_image.specs.restoring.Descriptors.{IsTargetIn}
use Rattle.state_image.proofs.Fields.{Tells, cut, number_field, items_field}

-- ---- targets

abbrev type_number_of : Bool → ℕ
type_number_of directory = if directory then directory_type else regular_file

least_type_number : (b : Bool) → 3 ≤ type_number_of b
least_type_number true = omega arith
least_type_number false = omega arith

same_target : (fs : Files) (a b : Target) (rest other : List ℕ) → IsTargetIn a → IsTargetIn b
    → target_bytes fs a ++ rest ≡ target_bytes fs b ++ other → (a ≡ b) × (rest ≡ other)
same_target fs (Stream s) (Stream t) rest other p q e =
    let first = heads s t (u64_bytes 0 ++ rest) (u64_bytes 0 ++ other) e in
    let last = (number_field 8).front 0 0 rest other (omega arith) (omega arith) first.1 in
    (ap (λ n. Stream n) first.0, last.1)
same_target fs (Node k) (Node j) rest other p q e =
    let first = heads (type_number_of (is_directory fs k)) (type_number_of (is_directory fs j))
    (u64_bytes k ++ rest) (u64_bytes j ++ other) e in
    let last = (number_field 8).front k j rest other p q first.1 in
    (ap (λ n. Node n) last.0, last.1)
same_target fs (Stream s) (Node j) rest other p q e =
    let first = heads s (type_number_of (is_directory fs j)) (u64_bytes 0
    ++ rest) (u64_bytes j ++ other) e in
    absurd (omega (arith, p, first.0, least_type_number (is_directory fs j)))
same_target fs (Node k) (Stream t) rest other p q e =
    let first = heads (type_number_of (is_directory fs k)) t (u64_bytes k
    ++ rest) (u64_bytes 0 ++ other) e in
    absurd (omega (arith, q, first.0, least_type_number (is_directory fs k)))

target_field : (fs : Files) → Tells Target IsTargetIn (target_bytes fs)
target_field fs = record { front = same_target fs }

-- ---- descriptors

pub record IsDescriptorIn (d : Descriptor) : Type 0 where
  pub target : IsTargetIn d.target
  pub offset : IsIn 8 d.offset
  pub flags : IsIn 2 d.flags
  pub base : IsIn 8 d.base
  pub inheriting : IsIn 8 d.inheriting

pub record IsNumberedIn (d : Numbered) : Type 0 where
  pub number : IsIn 4 d.number
  pub descriptor : IsDescriptorIn d.descriptor

descriptor_with : Target → ℕ → ℕ → ℕ → ℕ → Descriptor
descriptor_with target offset flags base inheriting = record
    { target = target; offset = offset; flags = flags; base = base; inheriting = inheriting }

same_descriptor : (d e : Descriptor) → d.target ≡ e.target → d.offset ≡ e.offset
    → d.flags ≡ e.flags → d.base ≡ e.base → d.inheriting ≡ e.inheriting → d ≡ e
unfolding descriptor_with
same_descriptor d e a b c f g =
    let whole : descriptor_with d.target d.offset d.flags d.base d.inheriting ≡ descriptor_with
    e.target e.offset e.flags e.base e.inheriting = rw (a, b, c, f, g) refl in whole

numbered : ℕ → Descriptor → Numbered
numbered number descriptor = record { number = number; descriptor = descriptor }

same_numbered : (d e : Numbered) → d.number ≡ e.number → d.descriptor ≡ e.descriptor → d ≡ e
unfolding numbered
same_numbered d e a b = let whole : numbered d.number d.descriptor ≡ numbered e.number
    e.descriptor = rw (a, b) refl in whole

abbrev from_base : Descriptor → List ℕ
from_base d = u64_bytes d.base ++ u64_bytes d.inheriting

abbrev from_flags : Descriptor → List ℕ
from_flags d = u16_bytes d.flags ++ from_base d

abbrev from_offset : Descriptor → List ℕ
from_offset d = u64_bytes d.offset ++ from_flags d

same_fields : (fs : Files) (d e : Descriptor) (rest other : List ℕ) → IsDescriptorIn d
    → IsDescriptorIn e
    → (target_bytes fs d.target ++ from_offset d) ++ rest ≡
    (target_bytes fs e.target ++ from_offset e) ++ other → (d ≡ e) × (rest ≡ other)
same_fields fs d e rest other p q is =
    let target = cut Target IsTargetIn (target_bytes fs) (target_field fs) d.target e.target
    (from_offset d) (from_offset e) rest other p.target q.target is in
    let offset = cut ℕ (IsIn 8) u64_bytes (number_field 8) d.offset e.offset (from_flags d)
    (from_flags e) rest other p.offset q.offset target.1 in
    let flags = cut ℕ (IsIn 2) u16_bytes (number_field 2) d.flags e.flags (from_base d)
    (from_base e) rest other p.flags q.flags offset.1 in
    let base = cut ℕ (IsIn 8) u64_bytes (number_field 8) d.base e.base (u64_bytes d.inheriting)
    (u64_bytes e.inheriting) rest other p.base q.base flags.1 in
    let inheriting = (number_field 8).front d.inheriting e.inheriting rest other p.inheriting
    q.inheriting base.1 in
    (same_descriptor d e target.0 offset.0 flags.0 base.0 inheriting.0, inheriting.1)

pub descriptor_field : (fs : Files) → Tells Numbered IsNumberedIn (descriptor_bytes fs)
descriptor_field fs = record { front = told } where
  told : (d e : Numbered) (rest other : List ℕ) → IsNumberedIn d → IsNumberedIn e
      → descriptor_bytes fs d ++ rest ≡ descriptor_bytes fs e ++ other → (d ≡ e) × (rest ≡ other)
  told d e rest other p q is =
      let number = cut ℕ (IsIn 4) u32_bytes (number_field 4) d.number e.number
      (target_bytes fs d.descriptor.target ++ from_offset d.descriptor)
      (target_bytes fs e.descriptor.target ++ from_offset e.descriptor) rest other p.number
      q.number is in
      let descriptor = same_fields fs d.descriptor e.descriptor rest other p.descriptor
      q.descriptor number.1 in
      (same_numbered d e number.0 descriptor.0, descriptor.1)

-- ---- places

all_open : (n : ℕ) (ds : List (Option Descriptor))
    → AllByRecursion (λ (o : Option Descriptor). IfSome o IsDescriptorIn) ds
    → n + length ds < 2 ^ 32 → AllByRecursion IsNumberedIn (open_from n ds)
all_open n [] h lt = tt
all_open n (None ∷ ds) h lt = all_open (n + 1) ds h.1 (omega (arith, lt))
all_open n (Some d ∷ ds) h lt = (
  record { number = omega (arith, lt); descriptor = h.0 },
  all_open (n + 1) ds h.1
      (omega (arith, lt)),
)

pub few_open : (n : ℕ) (ds : List (Option Descriptor)) → length (open_from n ds) ≤ length ds
few_open n [] = omega arith
few_open n (None ∷ ds) = omega (arith, few_open (n + 1) ds)
few_open n (Some d ∷ ds) = omega (arith, few_open (n + 1) ds)

open_above : (n : ℕ) (ds : List (Option Descriptor))
    → AllByRecursion (λ (d : Numbered). n ≤ d.number) (open_from n ds)
open_above n [] = tt
open_above n (None ∷ ds) = lower (open_from (n + 1) ds) (open_above (n + 1) ds) where
  lower : (xs : List Numbered) → AllByRecursion (λ (d : Numbered). n + 1 ≤ d.number) xs
      → AllByRecursion (λ (d : Numbered). n ≤ d.number) xs
  lower [] h = tt
  lower (x ∷ xs) h = (omega (arith, h.0), lower xs h.1)
open_above n (Some d ∷ ds) =
    (omega arith, lower (open_from (n + 1) ds) (open_above (n + 1) ds)) where
      lower : (xs : List Numbered) → AllByRecursion (λ (d : Numbered). n + 1 ≤ d.number) xs
          → AllByRecursion (λ (d : Numbered). n ≤ d.number) xs
      lower [] h = tt
      lower (x ∷ xs) h = (omega (arith, h.0), lower xs h.1)

-- the first open one has another number
not_here : (n : ℕ) (ds : List (Option Descriptor)) (d : Descriptor) (xs : List Numbered)
    → open_from (n + 1) ds ≡ numbered n d ∷ xs → ⊥
unfolding numbered
not_here n ds d xs e =
    let above : AllByRecursion (λ (x : Numbered). n + 1 ≤ x.number) (numbered n d ∷ xs) = subst
    (AllByRecursion (λ (x : Numbered). n + 1 ≤ x.number)) e (open_above (n + 1) ds) in
    let here : n + 1 ≤ n = above.0 in
    absurd (omega (arith, here))

first_open : (a b : Numbered) (xs ys : List Numbered) → a ∷ xs ≡ b ∷ ys → (a ≡ b) × (xs ≡ ys)
first_open a b xs ys e = (cc, cc)

pub same_places : (n : ℕ) (ds es : List (Option Descriptor)) → length ds ≡ length es
    → open_from n ds ≡ open_from n es → ds ≡ es
unfolding numbered
same_places n [] [] l e = refl
same_places n [] (o ∷ es) l e = absurd (omega (arith, l))
same_places n (o ∷ ds) [] l e = absurd (omega (arith, l))
same_places n (None ∷ ds) (None ∷ es) l e = ap (λ (xs : List (Option Descriptor)). None ∷ xs)
    (same_places (n + 1) ds es (omega (arith, l)) e)
same_places n (None ∷ ds) (Some d ∷ es) l e = absurd (not_here n ds d (open_from (n + 1) es) e)
same_places n (Some d ∷ ds) (None ∷ es) l e = absurd
    (not_here n es d (open_from (n + 1) ds) (sym e))
same_places n (Some c ∷ ds) (Some d ∷ es) l e =
    let both = first_open (numbered n c) (numbered n d) (open_from (n + 1) ds)
    (open_from (n + 1) es) e in
    let one : c ≡ d = ap (λ (x : Numbered). x.descriptor) both.0 in
    let others = same_places (n + 1) ds es (omega (arith, l)) both.1 in
    ap (λ (x : Descriptor). Some x ∷ ds) one ∙ ap (λ (xs : List (Option Descriptor)). Some d ∷ xs)
    others

pub record HasPlaces (ds : List (Option Descriptor)) : Type 0 where
  pub places : length ds ≡ 64
  pub each : AllByRecursion (λ (o : Option Descriptor). IfSome o IsDescriptorIn) ds

pub open_in : (ds : List (Option Descriptor)) → HasPlaces ds
    → AreFew Numbered IsNumberedIn (open_from 0 ds)
open_in ds h = record {
  few = omega (arith, few_open 0 ds, h.places);
  each = all_open 0 ds h.each
      (omega (arith, h.places));
}

pub same_open : (fs : Files) (ds es : List (Option Descriptor)) (rest other : List ℕ)
    → HasPlaces ds → HasPlaces es
    → items_bytes (descriptor_bytes fs) (open_from 0 ds) ++ rest ≡ items_bytes
    (descriptor_bytes fs) (open_from 0 es) ++ other → ds ≡ es
same_open fs ds es rest other p q e =
    let same = (items_field Numbered IsNumberedIn (descriptor_bytes fs)
    (descriptor_field fs)).front (open_from 0 ds) (open_from 0 es) rest other (open_in ds p)
    (open_in es q) e in
    same_places 0 ds es (p.places ∙ sym q.places) same.0
