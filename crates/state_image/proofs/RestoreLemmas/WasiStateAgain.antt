-- A host that is made again of what an image tells.
use Rattle.std.proofs.Common.{◌≡◌, ℕ, ◌^◌, ◌<◌, Bool, List, [], ◌∷◌, ◌++◌, Option, Some}
use Rattle.std.proofs.Common.{None, refl, sym, ap, subst, ◌∙◌, append_assoc}
use Rattle.std.specs.Prelude.{IfSome, Result, Ok, Err}
use Rattle.std.specs.List.{AllByRecursion}
use Rattle.std.specs.Result.{IsErrAnd}
use Rattle.wasi_abi.specs.rules.Configs.{Settings}
use Rattle.file_tree.specs.rules.Files.{Files, IsFiles}
use Rattle.wasi_calls_rules.specs.WasiStates.{Descriptor, Line, WasiState, IsDescriptor}
use Rattle.wasi_calls_rules.specs.WasiStates.{IsWasiState}
use Rattle.wasi_abi.specs.declared.version.Version.{Version}
use Rattle.wasi_calls.specs.declared.host.restoring.WasiStateParts.{WasiStateParts}
use Rattle.wasi_calls.specs.declared.host.restoring.PartsFault.{PartsFault}
use Rattle.wasi_calls.specs.declared.host.restoring.PartsFault.TheVariants as parts
use Rattle.wasi_calls.specs.rules.Restored.{held_host_from}
use Rattle.state_image.specs.declared.restoring.progress.ProcessProgress.{ProcessProgress}
use Rattle.state_image.specs.declared.restoring.fault.RestoreFault.{RestoreFault}
use Rattle.state_image.specs.declared.restoring.fault.RestoreFault.TheVariants as fault
use Rattle.state_image.specs.rules.ProcessImage.{files_bytes, items_bytes, descriptor_bytes}
use Rattle.state_image.specs.rules.ProcessImage.{open_from}
use Rattle.state_image.specs.rules.Ranges.{IsIn}
use Rattle.state_image.specs.restoring.Descriptors.{AreAllRestorable, AreRestorable}
use Rattle.state_image.specs.restoring.SavedHosts.{host_bytes, IsSavedHost}
use Rattle.state_image.specs.restoring.SavedHosts.{AreReadParts, fault_of_parts}
use Rattle.state_image.proofs.Named.{same_files_named}
use Rattle.state_image.proofs.FilesWithin.{files_within}
use Rattle.state_image.proofs.PathsTold.{same_files}
use Rattle.state_image.proofs.WasiStateWithin.{IsFewStream, few_streams, target_within}
use Rattle.state_image.proofs.Places.{IsDescriptorIn, HasPlaces, same_open}
use Rattle.state_image.proofs.RestoreLemmas.OpenAgain.{restorable_in}

-- ---- the descriptors of a host

all_restorable : (fs : Files) → IsFiles fs → IsIn 8 fs.next → (ds : List (Option Descriptor))
    → AllByRecursion (λ (o : Option Descriptor). IfSome o (IsDescriptor fs)) ds
    → AllByRecursion (λ (o : Option Descriptor). IfSome o IsFewStream) ds → AreAllRestorable ds
all_restorable fs is next [] h k = tt
all_restorable fs is next (None ∷ ds) h k = (tt, all_restorable fs is next ds h.1 k.1)
all_restorable fs is next (Some d ∷ ds) h k = (
  record {
    target = target_within fs is next d.target h.0.there k.0;
    bounded = search (h.0);
  },
  all_restorable fs is next ds h.1 k.1,
)

pub host_restorable : (h : WasiState) → IsWasiState h → IsIn 8 h.files.next
    → AreRestorable h.descriptors
host_restorable h is next = record {
  places = is.places;
  each = all_restorable h.files is.files next h.descriptors is.descriptors
      (few_streams h.descriptors (λ n s d at t. (is.streams n s d at t).few));
}

all_places : (ds : List (Option Descriptor)) → AreAllRestorable ds
    → AllByRecursion (λ (o : Option Descriptor). IfSome o IsDescriptorIn) ds
all_places [] h = tt
all_places (None ∷ ds) h = (tt, all_places ds h.1)
all_places (Some d ∷ ds) h = (restorable_in d h.0, all_places ds h.1)

restorable_places : (ds : List (Option Descriptor)) → AreRestorable ds → HasPlaces ds
restorable_places ds all = record { places = all.places; each = all_places ds all.each }

-- ---- the files that were read are those of the host

-- the same files, and what is after them
record AreSameFiles (fs : Files) (h : WasiState) (mid rest : List ℕ) : Type 0 where
  files : fs ≡ h.files
  is : mid ≡ items_bytes (descriptor_bytes fs) (open_from 0 h.descriptors) ++ rest

files_of_host : (fs : Files) (old mid : List ℕ) → IsFiles fs → fs.next < 2 ^ 64
    → old ≡ files_bytes fs ++ mid → (h : WasiState) (rest : List ℕ) → IsWasiState h
    → h.files.next < 2 ^ 64 → old ≡ host_bytes h ++ rest → AreSameFiles fs h mid rest
files_of_host fs old mid are next read h rest is its_next stands =
    let others = items_bytes (descriptor_bytes h.files) (open_from 0 h.descriptors) in
    let same = same_files_named fs h.files mid (others ++ rest) (files_within fs are next)
    (files_within h.files is.files its_next)
    (sym read ∙ stands ∙ append_assoc (files_bytes h.files) others rest) in
    let files = same_files fs h.files are is.files same.0 in
    record {
      files = files;
      is = same.1
          ∙ ap (λ (gs : Files).
          items_bytes (descriptor_bytes gs) (open_from 0 h.descriptors) ++ rest) (sym files);
    }

-- no files are in front
pub no_files_of_host : (old : List ℕ) → ((fs : Files) (rest : List ℕ) → IsFiles fs
    → fs.next < 2 ^ 64 → old ≡ files_bytes fs ++ rest → ⊥)
    → (h : WasiState) (rest : List ℕ) → IsWasiState h → h.files.next < 2 ^ 64
    → old ≡ host_bytes h ++ rest → ⊥
no_files_of_host old none h rest is next stands =
    let others = items_bytes (descriptor_bytes h.files) (open_from 0 h.descriptors) in
    none h.files (others ++ rest) is.files next
    (stands ∙ append_assoc (files_bytes h.files) others rest)

-- no descriptors are after them
pub no_descriptors_of_host : (fs : Files) (old mid : List ℕ) → IsFiles fs → fs.next < 2 ^ 64
    → old ≡ files_bytes fs ++ mid
    → ((ds : List (Option Descriptor)) (rest : List ℕ) → AreRestorable ds
    → mid ≡ items_bytes (descriptor_bytes fs) (open_from 0 ds) ++ rest → ⊥)
    → (h : WasiState) (rest : List ℕ) → IsWasiState h → h.files.next < 2 ^ 64
    → old ≡ host_bytes h ++ rest → ⊥
no_descriptors_of_host fs old mid are next read none h rest is its_next stands =
    let same = files_of_host fs old mid are next read h rest is its_next stands in
    none h.descriptors rest (host_restorable h is its_next) same.is

-- ---- the host

unfoldable pub host_with : Files → List (Option Descriptor) → List ℕ → Bool → ℕ → List ℕ
    → List ℕ → List Line → List (List ℕ) → List (List ℕ) → ℕ → Version → WasiState
host_with files descriptors unread input_ended last_monotonic first second lines arguments
    environment room version = record {
      files = files;
      descriptors = descriptors;
      unread = unread;
      input_ended = input_ended;
      last_monotonic = last_monotonic;
      first = first;
      second = second;
      lines = lines;
      arguments = arguments;
      environment = environment;
      room = room;
      version = version;
    }

-- lines that were emitted count for nothing
without_lines : (h : WasiState) → IsWasiState h → IsWasiState (record h { lines = [] })
without_lines h is = search

-- a host of these bytes, of which this was told, is that of the parts
pub host_of_parts : (config : Settings) (before : ProcessProgress) (p : WasiStateParts)
    (old new : List ℕ) → AreReadParts before p old new → (h : WasiState) (rest : List ℕ)
    → IsWasiState h → h.files.next < 2 ^ 64 → IsSavedHost config before h
    → old ≡ host_bytes h ++ rest → IsWasiState (held_host_from config before.version p).host
unfolding host_with
host_of_parts config before p old new read h rest is next told stands =
    let others = items_bytes (descriptor_bytes p.tree) (open_from 0 p.descriptors.items) in
    let same = files_of_host p.tree old (others ++ new) read.files read.next
    (read.is ∙ append_assoc (files_bytes p.tree) others new) h rest is next stands in
    let files = sym same.files in
    let descriptors = sym (same_open p.tree p.descriptors.items h.descriptors new rest
    (restorable_places p.descriptors.items read.descriptors)
    (restorable_places h.descriptors (host_restorable h is next)) same.is) in
    let unread = told.unread ∙ sym read.unread in
    let input_ended = told.input_ended ∙ sym read.input_ended in
    let last_monotonic = told.last_monotonic ∙ sym read.last_monotonic in
    let first = told.first ∙ sym read.first in
    let second = told.second ∙ sym read.second in
    let room = told.configured.room in
    let version = told.version in
    let arguments = told.configured.arguments in
    let environment = told.configured.environment in
    let whole : host_with h.files h.descriptors h.unread h.input_ended h.last_monotonic h.first
    h.second [] h.arguments h.environment h.room h.version
    ≡ (held_host_from config before.version p).host = rw (
      files,
      descriptors,
      unread,
      input_ended,
      last_monotonic,
      first,
      second,
      arguments,
      environment,
      room,
      version,
    ) refl in
    subst IsWasiState whole (without_lines h is)

-- a fault of the parts that is handed on
pub fault_of_host : {X Y : Type 0} (r : Result X RestoreFault) (f : PartsFault)
    → IsErrAnd r (λ y. y ≡ fault_of_parts f) → r ≡ Err fault.NotAnImage
    → ◌≡◌ {A = Result Y PartsFault} (Err f) (Err parts.NoWasiState)
fault_of_host (Ok x) f is e = absurd cc
fault_of_host (Err y) parts.NoWasiState is e = refl
fault_of_host (Err y) parts.Memory is e =
    let same : y ≡ fault.Memory = is in let it : y ≡ fault.NotAnImage = cc in absurd cc
