-- The numbers of descriptors are within the fields that an image has for them.
use Rattle.std.proofs.Common.{◌≡◌, ℕ, suc, ◌^◌, ◌<◌, ◌≤◌, true, bit_and, List, [], ◌∷◌, Option}
use Rattle.std.proofs.Common.{Some, None, refl, arith}
use Rattle.std.specs.Prelude.{slice_get, IfSome}
use Rattle.std.specs.List.{AllByRecursion}
use Rattle.std.proofs.lemmas.Bool.{eqb-true}
use Rattle.std.proofs.lemmas.Nat.{and_le_r}
use Rattle.wasi_abi.specs.rules.Numbers.{are_within, all_rights}
use Rattle.file_tree.specs.rules.Files.{Files, FileNode, node_of, IsFiles}
use Rattle.file_tree.proofs.Rebuilt.{numbers_below}
use Rattle.wasi_calls_rules.specs.WasiStates.{Target, Stream, Node, Descriptor, WasiState, IsThere}
use Rattle.wasi_calls_rules.specs.WasiStates.{IsDescriptor, IsWasiState}
use Rattle.state_image.specs.rules.Ranges.{IsIn}
use Rattle.state_image.specs.restoring.Descriptors.{IsTargetIn}
use Rattle.state_image.proofs.Among.{all_among, found_among}
use Rattle.state_image.proofs.Places.{IsDescriptorIn, HasPlaces}

-- ---- targets

there_below : (fs : Files) → IsFiles fs → (k : ℕ) → IsThere fs (Node k) → k < fs.next
there_below fs is k there = by (node_of fs k) refl there where
  by : (o : Option FileNode) → node_of fs k ≡ o → IsThere fs (Node k) → k < fs.next
  by None e there = absurd (rw e at there)
  by (Some n) e there =
      let found = found_among k fs.nodes n e in
      let below : n.number < fs.next = all_among FileNode (λ (x : FileNode). x.number < fs.next)
      fs.nodes n (numbers_below 1 fs.nodes fs.next is.rising).1 found.0 in
      omega (arith, below, found.1)

pub target_within : (fs : Files) → IsFiles fs → IsIn 8 fs.next → (t : Target) → IsThere fs t
    → ((s : ℕ) → t ≡ Stream s → s ≤ 2) → IsTargetIn t
target_within fs is next (Stream s) there few = few s refl
target_within fs is next (Node k) there few =
    (let below = there_below fs is k there in omega (arith, below, next))

-- ---- rights

pub rights_within : (rights : ℕ) → are_within rights all_rights ≡ true → IsIn 8 rights
rights_within rights h =
    let same : bit_and rights all_rights ≡ rights = eqb-true (bit_and rights all_rights) rights
    h in
    let least : bit_and rights all_rights ≤ all_rights = and_le_r rights all_rights in
    omega (arith, same, least)

-- ---- descriptors

-- a stream's number is one of three
abbrev pub IsFewStream : Descriptor → Type 0
IsFewStream d = (s : ℕ) → d.target ≡ Stream s → s ≤ 2

descriptor_within : (fs : Files) → IsFiles fs → IsIn 8 fs.next → (d : Descriptor)
    → IsDescriptor fs d → IsFewStream d → IsDescriptorIn d
descriptor_within fs is next d h few =
    let offset : d.offset < 2 ^ 63 = h.offset in
    let flags : d.flags ≤ 31 = h.flags in
    record {
      target = target_within fs is next d.target h.there few;
      offset = omega (arith, offset);
      flags = omega (arith, flags);
      base = rights_within d.base h.base;
      inheriting = rights_within d.inheriting h.inheriting;
    }

pub few_streams : (ds : List (Option Descriptor))
    → ((n s : ℕ) (d : Descriptor) → slice_get ds n ≡ Some (Some d) → d.target ≡ Stream s → s ≤ 2)
    → AllByRecursion (λ (o : Option Descriptor). IfSome o IsFewStream) ds
few_streams [] h = tt
few_streams (None ∷ ds) h = (tt, few_streams ds (λ n s d. h (suc n) s d))
few_streams (Some d ∷ ds) h = (λ s e. h 0 s d refl e, few_streams ds (λ n s d. h (suc n) s d))

all_within : (fs : Files) → IsFiles fs → IsIn 8 fs.next → (ds : List (Option Descriptor))
    → AllByRecursion (λ (o : Option Descriptor). IfSome o (IsDescriptor fs)) ds
    → AllByRecursion (λ (o : Option Descriptor). IfSome o IsFewStream) ds
    → AllByRecursion (λ (o : Option Descriptor). IfSome o IsDescriptorIn) ds
all_within fs is next [] h k = tt
all_within fs is next (None ∷ ds) h k = (tt, all_within fs is next ds h.1 k.1)
all_within fs is next (Some d ∷ ds) h k =
    (descriptor_within fs is next d h.0 k.0, all_within fs is next ds h.1 k.1)

pub places_within : (h : WasiState) → IsWasiState h → IsIn 8 h.files.next → HasPlaces h.descriptors
places_within h is next = record {
  places = is.places;
  each = all_within h.files is.files next h.descriptors is.descriptors
      (few_streams h.descriptors (λ n s d at t. (is.streams n s d at t).few));
}
