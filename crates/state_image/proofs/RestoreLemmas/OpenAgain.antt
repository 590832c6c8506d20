-- Descriptors that are opened again, one after the other.
use Rattle.std.proofs.Common.{◌≡◌, ℕ, zero, suc, ◌+◌, ◌-◌, ◌^◌, ◌<◌, ◌≤◌, List, [], ◌∷◌, ◌++◌}
use Rattle.std.proofs.Common.{length, replicate, Option, Some, None, refl, sym, ap, subst, ◌∙◌}
use Rattle.std.proofs.Common.{append_assoc, length-append, arith}
use Rattle.std.specs.Prelude.{IfSome}
use Rattle.std.specs.List.{AllByRecursion, flat_map}
use Rattle.std.proofs.lemmas.List.{append-nil, length-replicate, replicate_more}
use Rattle.std.proofs.lemmas.Grind.{flat_map-append}
use Rattle.wasi_abi.specs.rules.Layouts.{u32_bytes}
use Rattle.file_tree.specs.rules.Files.{Files}
use Rattle.wasi_calls_rules.specs.WasiStates.{Target, Stream, Node, Descriptor}
use Rattle.state_image.specs.declared.reading.descriptors.ReadDescriptor.{ReadDescriptor}
use Rattle.state_image.specs.rules.ProcessImage.{items_bytes, Numbered, open_from, descriptor_bytes}
use Rattle.state_image.specs.rules.Ranges.{IsIn}
use Rattle.state_image.specs.rules.RawDescriptors.{raw_bytes, IsRawIn, raw_target_type, raw_node}
use Rattle.state_image.specs.rules.RawDescriptors.{raw_of}
use Rattle.state_image.specs.rules.Reading.{HasField, LacksField}
use Rattle.state_image.specs.restoring.Opened.{IsTargetOf, IsReadAs}
use Rattle.state_image.specs.restoring.Descriptors.{IsTargetIn, IsRestorable, AreAllRestorable}
use Rattle.state_image.specs.restoring.Descriptors.{AreRestorable, behind_last, closed_up_to}
use Rattle.state_image.specs.restoring.Descriptors.{AreOpened, CanComeBehind, IsReadBehind}
use Rattle.state_image.proofs.Fields.{Tells, cut, number_field}
use Rattle.state_image.proofs.FieldsGiven.{raw_field, raw}
use Rattle.state_image.proofs.WasiStateWithin.{rights_within}
use Rattle.state_image.proofs.ProcessImageGiven.{raw_within}
use Rattle.state_image.proofs.Opened.{open_from-append}
use Rattle.state_image.proofs.Places.{IsDescriptorIn, IsNumberedIn, descriptor_field, few_open}
use Rattle.state_image.proofs.ReadLemmas.{is_that}
use Rattle.state_image.proofs.StepsRead.{descriptor_read_in_steps}

-- ---- what is within the fields

pub restorable_in : (d : Descriptor) → IsRestorable d → IsDescriptorIn d
restorable_in d h =
    let offset : d.offset < 2 ^ 63 = h.bounded.offset in
    let flags : d.flags ≤ 31 = h.bounded.flags in
    record {
      target = h.target;
      offset = omega (arith, offset);
      flags = omega (arith, flags);
      base = rights_within d.base h.bounded.base;
      inheriting = rights_within d.inheriting h.bounded.inheriting;
    }

-- an open one, under a number below
record IsOpenBelow (m : ℕ) (x : Numbered) : Type 0 where
  number : x.number < m
  restorable : IsRestorable x.descriptor

all_open_below : (m n : ℕ) (ds : List (Option Descriptor)) → AreAllRestorable ds
    → n + length ds ≤ m → AllByRecursion (IsOpenBelow m) (open_from n ds)
all_open_below m n [] h le = tt
all_open_below m n (None ∷ ds) h le = all_open_below m (n + 1) ds h.1 (omega (arith, le))
all_open_below m n (Some d ∷ ds) h le = (
  record { number = omega (arith, le); restorable = h.0 },
  all_open_below m (n + 1) ds h.1 (omega (arith, le)),
)

open_numbered : (x : Numbered) → IsOpenBelow 64 x → IsNumberedIn x
open_numbered x h =
    let below : x.number < 64 = h.number in
    record { number = omega (arith, below); descriptor = restorable_in x.descriptor h.restorable }

open_field : (fs : Files) → Tells Numbered (IsOpenBelow 64) (descriptor_bytes fs)
open_field fs = record {
  front = λ x y rest other p q e. (descriptor_field fs).front x y rest other (open_numbered x p)
      (open_numbered y q) e;
}

-- ---- the next one

-- of more items than these, the next one is in front of what is after these
record IsNextOf (X : Type 0) (spell : X → List ℕ) (xs ys : List X) (rest other : List ℕ) : Type 0
  where
    next : X
    more : List X
    list : ys ≡ xs ++ next ∷ more
    is : rest ≡ spell next ++ (flat_map spell more ++ other)

next_of : (X : Type 0) (P : X → Type 0) (spell : X → List ℕ) → Tells X P spell
    → (xs ys : List X) (rest other : List ℕ) → length xs < length ys → AllByRecursion P xs
    → AllByRecursion P ys → flat_map spell xs ++ rest ≡ flat_map spell ys ++ other
    → IsNextOf X spell xs ys rest other
next_of X P spell tells [] [] rest other lt p q e = absurd (omega (arith, lt))
next_of X P spell tells [] (y ∷ ys) rest other lt p q e = record {
  next = y;
  more = ys;
  list = refl;
  is = e ∙ append_assoc (spell y) (flat_map spell ys) other;
}
next_of X P spell tells (x ∷ xs) [] rest other lt p q e = absurd (omega (arith, lt))
next_of X P spell tells (x ∷ xs) (y ∷ ys) rest other lt p q e =
    let first = cut X P spell tells x y (flat_map spell xs) (flat_map spell ys) rest other p.0 q.0
    e in
    let later = next_of X P spell tells xs ys rest other (omega (arith, lt)) p.1 q.1 first.1 in
    record {
      next = later.next;
      more = later.more;
      list = ap (λ (zs : List X). y ∷ zs) later.list
          ∙ ap (λ (z : X). z ∷ (xs ++ later.next ∷ later.more)) (sym first.0);
      is = later.is;
    }

-- numbers rise from this one on
abbrev IsRisingFrom : ℕ → List Numbered → Type 0
IsRisingFrom n [] = Unit {0}
IsRisingFrom n (x ∷ xs) = (n ≤ x.number) × IsRisingFrom (x.number + 1) xs

from_less : (m n : ℕ) (xs : List Numbered) → n ≤ m → IsRisingFrom m xs → IsRisingFrom n xs
from_less m n [] le h = tt
from_less m n (x ∷ xs) le h = (omega (arith, le, h.0), h.1)

open_rising : (n : ℕ) (ds : List (Option Descriptor)) → IsRisingFrom n (open_from n ds)
open_rising n [] = tt
open_rising n (None ∷ ds) =
    from_less (n + 1) n (open_from (n + 1) ds) (omega arith) (open_rising (n + 1) ds)
open_rising n (Some d ∷ ds) = (omega arith, open_rising (n + 1) ds)

behind_all : (n : ℕ) (xs : List Numbered) (x : Numbered) (more : List Numbered)
    → IsRisingFrom n (xs ++ x ∷ more) → behind_last n xs ≤ x.number
behind_all n [] x more h = h.0
behind_all n (y ∷ xs) x more h = behind_all (y.number + 1) xs x more h.1

last_put : (n : ℕ) (xs : List Numbered) (x : Numbered) → behind_last n (xs ++ x ∷ []) ≡ x.number + 1
last_put n [] x = refl
last_put n (y ∷ xs) x = last_put (y.number + 1) xs x

of_next : (P : Numbered → Type 0) (xs : List Numbered) (x : Numbered) (more : List Numbered)
    → AllByRecursion P (xs ++ x ∷ more) → P x
of_next P [] x more h = h.0
of_next P (y ∷ xs) x more h = of_next P xs x more h.1

-- one more is in front, and can be after those that were opened
pub record ComesNext (fs : Files) (ds : List (Option Descriptor)) (bytes : List ℕ) : Type 0 where
  pub next : Numbered
  pub can : CanComeBehind ds next
  pub rest : List ℕ
  pub is : bytes ≡ descriptor_bytes fs next ++ rest

pub one_more_comes : (fs : Files) (i : ℕ) (ds es : List (Option Descriptor))
    (old now rest : List ℕ) → AreOpened fs i ds old now → AreRestorable es
    → i < length (open_from 0 es)
    → old ≡ flat_map (descriptor_bytes fs) (open_from 0 es) ++ rest → ComesNext fs ds now
one_more_comes fs i ds es old now rest opened all lt is =
    let within : length ds ≤ 64 = opened.within in
    let places : length es ≡ 64 = all.places in
    let mine = all_open_below 64 0 ds opened.each (omega (arith, within)) in
    let theirs = all_open_below 64 0 es all.each (omega (arith, places)) in
    let next = next_of Numbered (IsOpenBelow 64) (descriptor_bytes fs) (open_field fs)
    (open_from 0 ds) (open_from 0 es) now rest (omega (arith, opened.many, lt)) mine theirs
    (sym opened.is ∙ is) in
    let rising : IsRisingFrom 0 (open_from 0 ds ++ next.next ∷ next.more) =
    subst (IsRisingFrom 0) next.list (open_rising 0 es) in
    let here = of_next (IsOpenBelow 64) (open_from 0 ds) next.next next.more
    (subst (AllByRecursion (IsOpenBelow 64)) next.list theirs) in
    let behind = behind_all 0 (open_from 0 ds) next.next next.more rising in
    record {
      next = next.next;
      can = record {
        behind = omega (arith, opened.last, behind);
        within = here.number;
        restorable = here.restorable;
      };
      rest = flat_map (descriptor_bytes fs) next.more ++ rest;
      is = next.is;
    }

-- ---- one more is opened

closed_none : (n k : ℕ) → open_from n (replicate k None) ≡ []
closed_none n zero = refl
closed_none n (suc k) = closed_none (n + 1) k

closed_open : (n : ℕ) (ds : List (Option Descriptor))
    → open_from 0 (closed_up_to n ds) ≡ open_from 0 ds
closed_open n ds =
    open_from-append 0 ds (replicate (n - length ds) None)
    ∙ ap (λ (xs : List Numbered). open_from 0 ds ++ xs)
    (closed_none (0 + length ds) (n - length ds))
    ∙ append-nil (open_from 0 ds)

closed_length : (n : ℕ) (ds : List (Option Descriptor)) → length ds ≤ n
    → length (closed_up_to n ds) ≡ n
closed_length n ds le =
    let fill : List (Option Descriptor) = replicate (n - length ds) None in
    let all : length (ds ++ fill) ≡ length ds + length fill = length-append ds fill in
    let many : length fill ≡ n - length ds = length-replicate (n - length ds) None in
    omega (arith, le, all, many)

-- one place more is closed
pub one_more_closed : (X : Type 0) (ds now next : List (Option X)) (i : ℕ) → length ds ≤ i
    → now ≡ ds ++ replicate (i - length ds) None → next ≡ now ++ None ∷ []
    → next ≡ ds ++ replicate (i + 1 - length ds) None
one_more_closed X ds now next i le so_far is =
    let k = i - length ds in
    is
    ∙ ap (λ (xs : List (Option X)). xs ++ None ∷ []) so_far
    ∙ append_assoc ds (replicate k None) (None ∷ [])
    ∙ ap (λ (xs : List (Option X)). ds ++ xs) (replicate_more k None)
    ∙ ap (λ (n : ℕ). ds ++ replicate n None) (omega (arith, le))

all_append : (P : Option Descriptor → Type 0) (ds es : List (Option Descriptor))
    → AllByRecursion P ds → AllByRecursion P es → AllByRecursion P (ds ++ es)
all_append P [] es h k = k
all_append P (o ∷ ds) es h k = (h.0, all_append P ds es h.1 k)

none_all : (k : ℕ) → AreAllRestorable (replicate k None)
none_all zero = tt
none_all (suc k) = (tt, none_all k)

closed_all : (n : ℕ) (ds : List (Option Descriptor)) → AreAllRestorable ds
    → AreAllRestorable (closed_up_to n ds)
closed_all n ds h =
    all_append (λ (o : Option Descriptor). IfSome o IsRestorable) ds
    (replicate (n - length ds) None) h (none_all (n - length ds))

opened_put : (ds : List (Option Descriptor)) (x : Numbered) → length ds ≤ x.number
    → open_from 0 (closed_up_to x.number ds ++ Some x.descriptor ∷ []) ≡ open_from 0 ds ++ x ∷ []
opened_put ds x le =
    let before = closed_up_to x.number ds in
    let long = closed_length x.number ds le in
    open_from-append 0 before (Some x.descriptor ∷ [])
    ∙ ap (λ (xs : List Numbered). xs ++ open_from (0 + length before) (Some x.descriptor ∷ []))
    (closed_open x.number ds)
    ∙ ap (λ (n : ℕ). open_from 0 ds ++ open_from n (Some x.descriptor ∷ []))
    (omega (arith, long))

pub one_more_opened : (fs : Files) (i : ℕ) (ds es : List (Option Descriptor))
    (old now after : List ℕ) → AreOpened fs i ds old now → IsReadBehind fs ds es now after
    → AreOpened fs (i + 1) es old after
one_more_opened fs i ds es old now after opened read =
    let x = read.opened in
    let put : open_from 0 es ≡ open_from 0 ds ++ x ∷ [] =
    ap (open_from 0) read.list ∙ opened_put ds x read.can.behind in
    let long : length es ≡ x.number + 1 =
    ap length read.list
    ∙ length-append (closed_up_to x.number ds) (Some x.descriptor ∷ [])
    ∙ ap (λ (n : ℕ). n + 1) (closed_length x.number ds read.can.behind) in
    let below : x.number < 64 = read.can.within in
    record {
      is = opened.is
          ∙ ap (λ (bytes : List ℕ). flat_map (descriptor_bytes fs) (open_from 0 ds) ++ bytes)
          read.is
          ∙ sym (append_assoc (flat_map (descriptor_bytes fs) (open_from 0 ds))
          (descriptor_bytes fs x) after)
          ∙ ap (λ (bytes : List ℕ). bytes ++ after)
          (ap (λ (bytes : List ℕ). flat_map (descriptor_bytes fs) (open_from 0 ds) ++ bytes)
          (sym (append-nil (descriptor_bytes fs x)))
          ∙ sym (flat_map-append (descriptor_bytes fs) (open_from 0 ds) (x ∷ []))
          ∙ ap (flat_map (descriptor_bytes fs)) (sym put));
      many = ap length put ∙ length-append (open_from 0 ds) (x ∷ [])
          ∙ ap (λ (n : ℕ). n + 1) opened.many;
      within = omega (arith, long, below);
      each = subst AreAllRestorable (sym read.list)
          (all_append (λ (o : Option Descriptor). IfSome o IsRestorable)
          (closed_up_to x.number ds) (Some x.descriptor ∷ [])
          (closed_all x.number ds opened.each) (read.can.restorable, tt));
      last = long ∙ sym (ap (behind_last 0) put ∙ last_put 0 (open_from 0 ds) x);
    }

-- ---- all of them

-- all places, and what stood in the bytes
pub record AreAllOpened (fs : Files) (ds : List (Option Descriptor)) (old new : List ℕ) : Type 0
  where
    pub is : old ≡ items_bytes (descriptor_bytes fs) (open_from 0 ds) ++ new
    pub all : AreRestorable ds

pub all_opened : (fs : Files) (count : ℕ) (ds es : List (Option Descriptor))
    (old mid new : List ℕ) → HasField u32_bytes (IsIn 4) count old mid
    → AreOpened fs count ds mid new → es ≡ closed_up_to 64 ds → AreAllOpened fs es old new
all_opened fs count ds es old mid new has opened is =
    let within : length ds ≤ 64 = opened.within in
    let spelled = flat_map (descriptor_bytes fs) (open_from 0 ds) in
    let same : open_from 0 ds ≡ open_from 0 es =
    sym (ap (open_from 0) is ∙ closed_open 64 ds) in
    record {
      is = has.is
          ∙ ap (λ (bytes : List ℕ). u32_bytes count ++ bytes) opened.is
          ∙ sym (append_assoc (u32_bytes count) spelled new)
          ∙ ap (λ (n : ℕ). (u32_bytes n ++ spelled) ++ new) (sym opened.many)
          ∙ ap (λ (xs : List Numbered). items_bytes (descriptor_bytes fs) xs ++ new) same;
      all = record {
        places = ap length is ∙ closed_length 64 ds within;
        each = subst AreAllRestorable (sym is) (closed_all 64 ds opened.each);
      };
    }

few_places : (ds : List (Option Descriptor)) → AreRestorable ds → IsIn 4 (length (open_from 0 ds))
few_places ds all =
    let places : length ds ≡ 64 = all.places in
    omega (arith, few_open 0 ds, places)

-- no count is in front
pub no_count : (fs : Files) (old new : List ℕ) → LacksField u32_bytes (IsIn 4) old new
    → (ds : List (Option Descriptor)) (rest : List ℕ) → AreRestorable ds
    → old ≡ items_bytes (descriptor_bytes fs) (open_from 0 ds) ++ rest → ⊥
no_count fs old new lacks ds rest all is =
    let spelled = flat_map (descriptor_bytes fs) (open_from 0 ds) in
    lacks.none (length (open_from 0 ds)) (spelled ++ rest) (few_places ds all)
    (is ∙ append_assoc (u32_bytes (length (open_from 0 ds))) spelled rest)

-- so many are after the count
pub so_many : (fs : Files) (count : ℕ) (old mid : List ℕ)
    → HasField u32_bytes (IsIn 4) count old mid
    → (ds : List (Option Descriptor)) (rest : List ℕ) → AreRestorable ds
    → old ≡ items_bytes (descriptor_bytes fs) (open_from 0 ds) ++ rest
    → (length (open_from 0 ds) ≡ count)
    × (mid ≡ flat_map (descriptor_bytes fs) (open_from 0 ds) ++ rest)
so_many fs count old mid has ds rest all is =
    let spelled = flat_map (descriptor_bytes fs) (open_from 0 ds) in
    let same = is_that (number_field 4) has (length (open_from 0 ds)) (spelled ++ rest)
    (few_places ds all)
    (is ∙ append_assoc (u32_bytes (length (open_from 0 ds))) spelled rest) in
    (sym same.0, same.1)

-- ---- one of them

raw_in : (fs : Files) (ds : List (Option Descriptor)) (x : Numbered) → CanComeBehind ds x
    → IsRawIn (raw_of fs x)
raw_in fs ds x can =
    raw_within fs x (open_numbered x
    (record { number = can.within; restorable = can.restorable }))

-- its bytes, as they are read
in_raw : (fs : Files) (x : Numbered) (bytes rest : List ℕ) → bytes ≡ descriptor_bytes fs x ++ rest
    → bytes ≡ raw_bytes (raw_of fs x) ++ rest
in_raw fs x bytes rest is =
    is ∙ ap (λ (xs : List ℕ). xs ++ rest) (descriptor_read_in_steps fs x)

raw_is : (fs : Files) (r : ReadDescriptor) (old new : List ℕ) → HasField raw_bytes IsRawIn r old new
    → (ds : List (Option Descriptor)) (x : Numbered) (rest : List ℕ) → CanComeBehind ds x
    → old ≡ descriptor_bytes fs x ++ rest → r ≡ raw_of fs x
raw_is fs r old new has ds x rest can is =
    (is_that raw_field has (raw_of fs x) rest (raw_in fs ds x can) (in_raw fs x old rest is)).0

-- none is in front
pub no_descriptor : (fs : Files) (old new : List ℕ) → LacksField raw_bytes IsRawIn old new
    → (ds : List (Option Descriptor)) (x : Numbered) (rest : List ℕ) → CanComeBehind ds x
    → old ≡ descriptor_bytes fs x ++ rest → ⊥
no_descriptor fs old new lacks ds x rest can is =
    lacks.none (raw_of fs x) rest (raw_in fs ds x can) (in_raw fs x old rest is)

target_own : (fs : Files) (t : Target) → IsTargetIn t
    → IsTargetOf fs (raw_target_type fs t) (raw_node t) t
target_own fs (Stream s) h = (h, refl, refl)
target_own fs (Node k) h = (refl, refl)

-- no descriptor is read so
pub not_descriptor : (fs : Files) (r : ReadDescriptor) (old new : List ℕ)
    → HasField raw_bytes IsRawIn r old new → (ds : List (Option Descriptor))
    → ((d : Descriptor) → IsReadAs fs r d → ⊥)
    → (x : Numbered) (rest : List ℕ) → CanComeBehind ds x
    → old ≡ descriptor_bytes fs x ++ rest → ⊥
not_descriptor fs r old new has ds none x rest can is =
    none x.descriptor
    (subst (λ (d : ReadDescriptor). IsReadAs fs d x.descriptor)
    (sym (raw_is fs r old new has ds x rest can is)) (record {
      target = target_own fs x.descriptor.target can.restorable.target;
      offset = refl;
      flags = refl;
      base = refl;
      inheriting = refl;
      bounded = can.restorable.bounded;
    }))

target_read : (fs : Files) (target_type node : ℕ) (t : Target) → IsIn 8 node
    → IsTargetOf fs target_type node t → IsTargetIn t
target_read fs target_type node (Stream s) within h = h.0
target_read fs target_type node (Node k) within h = subst (IsIn 8) h.0 within

target_type_read : (fs : Files) (target_type node : ℕ) (t : Target)
    → IsTargetOf fs target_type node t → (target_type ≡ raw_target_type fs t) × (node ≡ raw_node t)
target_type_read fs target_type node (Stream s) h = (h.1, h.2)
target_type_read fs target_type node (Node k) h = (h.1, h.0)

raw_again : (fs : Files) (r : ReadDescriptor) (d : Descriptor) → IsReadAs fs r d
    → r ≡ raw_of fs (record { number = r.number; descriptor = d })
unfolding raw
raw_again fs r d read =
    let target = target_type_read fs r.target_type r.node d.target read.target in
    let target_type = target.0 in let node = target.1 in let offset = read.offset in
    let flags = read.flags in let base = read.base in let inheriting = read.inheriting in
    let whole : raw r.number r.target_type r.node r.offset r.flags r.base r.inheriting
    ≡ raw r.number (raw_target_type fs d.target) (raw_node d.target) d.offset d.flags d.base
    d.inheriting = rw (target_type, node, offset, flags, base, inheriting) refl in
    whole

-- it is opened after the others
pub one_opened : (fs : Files) (r : ReadDescriptor) (d : Descriptor)
    (ds es : List (Option Descriptor)) (old new : List ℕ) → HasField raw_bytes IsRawIn r old new
    → (length ds ≤ r.number) × (r.number < 64) → IsReadAs fs r d
    → es ≡ closed_up_to r.number ds ++ Some d ∷ [] → IsReadBehind fs ds es old new
one_opened fs r d ds es old new has next read list =
    let x : Numbered = record { number = r.number; descriptor = d } in
    record {
      opened = x;
      can = record {
        behind = next.0;
        within = next.1;
        restorable = record {
          target = target_read fs r.target_type r.node d.target has.in_range.node read.target;
          bounded = read.bounded;
        };
      };
      is = has.is
          ∙ ap (λ (xs : List ℕ). xs ++ new)
          (ap raw_bytes (raw_again fs r d read) ∙ sym (descriptor_read_in_steps fs x));
      list = list;
    }
