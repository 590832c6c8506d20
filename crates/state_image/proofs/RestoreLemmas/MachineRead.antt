-- A machine that is put together of calls, globals, frames and memory is the one that was read.
use Rattle.std.proofs.Common.{◌≡◌, ◌≢◌, ℕ, ◌*◌, ◌≤◌, List, [], ◌∷◌, ◌++◌, length, reverse, refl}
use Rattle.std.proofs.Common.{sym, ap, subst, ◌∙◌, arith}
use Rattle.std.specs.Prelude.{codes, Result, Ok, Err, OnOk, IfErr}
use Rattle.std.proofs.lemmas.List.{append-nil, reverse-reverse, length-reverse}
use Rattle.std.proofs.lemmas.List.Sums.{sum_by-cons}
use Rattle.guest_memory.specs.rules.Bytes.{page_size}
use Rattle.wasm_syntax.specs.declared.module.Module.{Module}
use Rattle.wasm_syntax.specs.declared.module.ExportItem.TheVariants as export
use Rattle.wasm_rules.specs.Validity.{IsValid}
use Rattle.wasm_rules.specs.Linking.{HasEntry}
use Rattle.wasi_abi.specs.rules.Layouts.{u64_bytes}
use Rattle.process_rules.proofs.OneStart.{entry_once, item_number}
use Rattle.machine_slots.specs.declared.limits.TheConstants.{FRAMES}
use Rattle.machine_slots.specs.declared.slots.TheConstants.{SLOTS}
use Rattle.machine_slots.specs.rules.Places.{ShownFrame, MachineState}
use Rattle.machine_frame.specs.rules.Stacked.{slots_held}
use Rattle.machine.specs.declared.loading.fault.LoadFault.TheVariants as load
use Rattle.machine.specs.rules.Loading.{emptied, with_call, ShowsSome, BytesDenied}
use Rattle.machine.specs.rules.Values.{MachineValue, IsSameMachine, least_of}
use Rattle.machine.proofs.Alike.{machine_with}
use Rattle.state_image.specs.declared.reading.progress.ReadPhase.{ReadPhase}
use Rattle.state_image.specs.declared.reading.progress.ReadPhase.TheVariants as read
use Rattle.state_image.specs.declared.restoring.fault.RestoreFault.{RestoreFault}
use Rattle.state_image.specs.declared.restoring.fault.RestoreFault.TheVariants as fault
use Rattle.state_image.specs.rules.ProcessImage.{items_bytes, place_bytes, memory_bytes}
use Rattle.state_image.specs.rules.ProcessImage.{machine_bytes}
use Rattle.state_image.specs.rules.Ranges.{AreFew, AreWords, IsPlaceIn, IsWhole, HasMachine}
use Rattle.state_image.specs.rules.Reading.{HasField, LacksField}
use Rattle.state_image.specs.rules.WellTyped.{slots_in}
use Rattle.state_image.specs.restoring.Machines.{AreToCome, IsReadMachine, PutsField, PutsCalls}
use Rattle.state_image.specs.restoring.Machines.{with_globals_behind, with_frames_inside}
use Rattle.state_image.specs.restoring.Machines.{with_bytes_in, HaveStackRoom, IsMemoryWithin}
use Rattle.state_image.proofs.Fields.{Tells, items_field}
use Rattle.state_image.proofs.FieldsGiven.{memory_field}
use Rattle.state_image.proofs.ProcessImageGiven.{machine_in_order}
use Rattle.state_image.proofs.Machines.{all_reversed, place_field, same_machine, words_field}
use Rattle.state_image.proofs.ReadLemmas.{is_that}
use Rattle.state_image.proofs.RestoreLemmas.Loaded.{held_reversed}

-- ---- memory

-- bytes that memory can't have are none of a machine's
pub no_memory : (least most : ℕ) (memory old mid : List ℕ)
    → HasField memory_bytes IsWhole memory old mid
    → BytesDenied memory least most load.Unfit → (x rest : List ℕ)
    → IsMemoryWithin least most x → old ≢ memory_bytes x ++ rest
no_memory least most memory old mid has denied x rest may e =
    let same = is_that memory_field has x rest may.whole e in
    denied may.whole.pages (ap length same.0 ∙ may.whole.whole) may.least may.most

pub no_memory_bytes : (least most : ℕ) (old new : List ℕ)
    → LacksField memory_bytes IsWhole old new → (x rest : List ℕ)
    → IsMemoryWithin least most x → old ≢ memory_bytes x ++ rest
no_memory_bytes least most old new lacks x rest may e = lacks.none x rest may.whole e

-- ---- what was put, on to what is asked

pub when_done : {P Q : Type 0} (r : Result (Unit {0}) RestoreFault) → OnOk r P → (P → Q) → OnOk r Q
when_done (Ok x) h f = f h
when_done (Err e) h f = tt

-- out of memory refuses nothing
pub never_refused : (r : Result (Unit {0}) RestoreFault) → IfErr r (λ e. e ≡ fault.Memory)
    → r ≡ Err fault.NotAnImage → ⊥
never_refused (Ok x) h e = absurd cc
never_refused (Err f) h e =
    let memory : f ≡ fault.Memory = h in
    let none : f ≡ fault.NotAnImage = cc in
    absurd cc

-- ---- calls

-- in no other phase is a call to come
pub none_to_come : (p : ReadPhase) (m : Module) → p ≢ read.Starting → AreToCome m p []
none_to_come read.Starting m other = absurd (other refl)
none_to_come _ m other = refl

pub none_put : (p : ReadPhase) (v : MachineValue) → p ≢ read.Starting → PutsCalls p v v
none_put p v other = record { calls = []; are = none_to_come p v.guest other; is = refl }

pub start_put : (p : ReadPhase) (v w : MachineValue) → p ≡ read.Starting
    → (entry : ℕ) × HasEntry v.guest entry × (w ≡ with_call entry v) → PutsCalls p v w
start_put p v w starts put = record {
  calls = put.0 ∷ [];
  are = subst (λ (q : ReadPhase). AreToCome v.guest q (put.0 ∷ [])) (sym starts)
      (put.0, put.1, refl);
  is = put.2;
}

-- a module without `_start` has none to come
pub no_start : (p : ReadPhase) (m : Module) → p ≡ read.Starting
    → ((entry : ℕ) → HasEntry m entry → ⊥) → (later : List ℕ) → AreToCome m p later → ⊥
no_start p m starts none later come =
    let at : AreToCome m read.Starting later =
    subst (λ (q : ReadPhase). AreToCome m q later) starts come in
    none at.0 at.1

-- the calls to come are always the same
one_to_come : (p : ReadPhase) (m : Module) (later others : List ℕ) → IsValid m
    → AreToCome m p later → AreToCome m p others → later ≡ others
one_to_come read.Starting m later others valid h k =
    let entries : h.0 ≡ k.0 = item_number h.0 k.0
    (entry_once m.exports (codes "_start") (export.Function h.0) (export.Function k.0) valid.names
    h.1.exported k.1.exported) in
    h.2 ∙ ap (λ (f : ℕ). f ∷ []) entries ∙ sym k.2
one_to_come _ m later others valid h k = h ∙ sym k

-- ---- the whole

frames_field : Tells (List ShownFrame) (AreFew ShownFrame IsPlaceIn) (items_bytes place_bytes)
frames_field = items_field ShownFrame IsPlaceIn place_bytes place_field

turned_few : (fs : List ShownFrame) → AreFew ShownFrame IsPlaceIn fs
    → AreFew ShownFrame IsPlaceIn (reverse fs)
turned_few fs h = record {
  few = rw (length-reverse fs) h.few;
  each = all_reversed ShownFrame IsPlaceIn fs h.each;
}

abbrev pub PutsGlobals : MachineValue → MachineValue → List ℕ → List ℕ → Type 0
PutsGlobals a b old new = PutsField (items_bytes u64_bytes) AreWords with_globals_behind a b old new

abbrev pub PutsFrames : MachineValue → MachineValue → List ℕ → List ℕ → Type 0
PutsFrames a b old new =
    PutsField (items_bytes place_bytes) (AreFew ShownFrame IsPlaceIn) with_frames_inside a b old new

abbrev pub PutsMemory : MachineValue → MachineValue → List ℕ → List ℕ → Type 0
PutsMemory a b old new = PutsField memory_bytes IsWhole with_bytes_in a b old new

-- what there is after each step
module _ (phase : ReadPhase) (v a : MachineValue) (bare : v ≡ emptied v)
    (calls : PutsCalls phase v a) where
  same_called : IsSameMachine v a
  same_called = record {
    guest = ap (λ (x : MachineValue). x.guest) calls.is;
    most_pages = ap (λ (x : MachineValue). x.most_pages) calls.is;
    table = ap (λ (x : MachineValue). x.table) calls.is;
  }

  -- nothing but the calls
  no_globals_before : a.state.globals ≡ []
  no_globals_before =
      ap (λ (x : MachineValue). x.state.globals) calls.is
      ∙ ap (λ (x : MachineValue). x.state.globals) bare

  no_frames_before : a.state.frames ≡ []
  no_frames_before =
      ap (λ (x : MachineValue). x.state.frames) calls.is
      ∙ ap (λ (x : MachineValue). x.state.frames) bare

  called : a.state.later ≡ calls.calls
  called =
      ap (λ (x : MachineValue). x.state.later) calls.is
      ∙ ap (λ (later : List ℕ). calls.calls ++ later)
      (ap (λ (x : MachineValue). x.state.later) bare)
      ∙ append-nil calls.calls

  pub still_no_frames : (b : MachineValue) (old first : List ℕ) → PutsGlobals a b old first
      → b.state.frames ≡ []
  still_no_frames b old first globals =
      ap (λ (x : MachineValue). x.state.frames) globals.is ∙ no_frames_before

  pub still_least : (b c : MachineValue) (old first second : List ℕ) → PutsGlobals a b old first
      → PutsFrames b c first second → least_of c.guest ≡ least_of v.guest
  still_least b c old first second globals frames =
      ap (λ (x : MachineValue). least_of x.guest) frames.is
      ∙ ap (λ (x : MachineValue). least_of x.guest) globals.is
      ∙ ap least_of same_called.guest

  pub still_most : (b c : MachineValue) (old first second : List ℕ) → PutsGlobals a b old first
      → PutsFrames b c first second → c.most_pages ≡ v.most_pages
  still_most b c old first second globals frames =
      ap (λ (x : MachineValue). x.most_pages) frames.is
      ∙ ap (λ (x : MachineValue). x.most_pages) globals.is
      ∙ same_called.most_pages

  module _ (b c d : MachineValue) (old first second last : List ℕ) (globals : PutsGlobals a b old
      first) (frames : PutsFrames b c first second) (memory : PutsMemory c d second last) where
    -- what no later step changes
    later_is : d.state.later ≡ a.state.later
    later_is =
        ap (λ (x : MachineValue). x.state.later) memory.is
        ∙ ap (λ (x : MachineValue). x.state.later) frames.is
        ∙ ap (λ (x : MachineValue). x.state.later) globals.is

    guest_is : d.guest ≡ v.guest
    guest_is =
        ap (λ (x : MachineValue). x.guest) memory.is
        ∙ ap (λ (x : MachineValue). x.guest) frames.is
        ∙ ap (λ (x : MachineValue). x.guest) globals.is
        ∙ same_called.guest

    globals_are : d.state.globals ≡ globals.field
    globals_are =
        ap (λ (x : MachineValue). x.state.globals) memory.is
        ∙ ap (λ (x : MachineValue). x.state.globals) frames.is
        ∙ ap (λ (x : MachineValue). x.state.globals) globals.is
        ∙ ap (λ (gs : List ℕ). gs ++ globals.field) no_globals_before

    frames_are : d.state.frames ≡ reverse frames.field
    frames_are =
        ap (λ (x : MachineValue). x.state.frames) memory.is
        ∙ ap (λ (x : MachineValue). x.state.frames) frames.is
        ∙ ap (λ (fs : List ShownFrame). reverse frames.field ++ fs)
        (still_no_frames b old first globals)
        ∙ append-nil (reverse frames.field)

    memory_is : d.state.memory ≡ memory.field
    memory_is = ap (λ (x : MachineValue). x.state.memory) memory.is

    fields_are : HasMachine d.state
    fields_are = record {
      globals = subst AreWords (sym globals_are) globals.has.in_range;
      frames = subst (AreFew ShownFrame IsPlaceIn) (sym frames_are)
          (turned_few frames.field frames.has.in_range);
      memory = subst IsWhole (sym memory_is) memory.has.in_range;
    }

    spelled : old ≡ machine_bytes d.state ++ last
    spelled =
        let g = globals.field in let fs = frames.field in let bytes = memory.field in
        let read : old ≡ items_bytes u64_bytes g ++ (items_bytes place_bytes fs
        ++ (memory_bytes bytes ++ last)) =
        globals.has.is
        ∙ ap (λ (xs : List ℕ). items_bytes u64_bytes g ++ xs)
        (frames.has.is
        ∙ ap (λ (xs : List ℕ). items_bytes place_bytes fs ++ xs) memory.has.is) in
        let turned : reverse d.state.frames ≡ fs = ap reverse frames_are ∙ reverse-reverse fs in
        read
        ∙ ap (λ (xs : List ℕ). items_bytes u64_bytes xs ++ (items_bytes place_bytes fs
        ++ (memory_bytes bytes ++ last))) (sym globals_are)
        ∙ ap (λ (xs : List ShownFrame). items_bytes u64_bytes d.state.globals
        ++ (items_bytes place_bytes xs ++ (memory_bytes bytes ++ last))) (sym turned)
        ∙ ap (λ (xs : List ℕ). items_bytes u64_bytes d.state.globals
        ++ (items_bytes place_bytes (reverse d.state.frames) ++ (memory_bytes xs ++ last)))
        (sym memory_is)
        ∙ sym (machine_in_order d.state last)

    pub machine_read : IsReadMachine v phase old last d
    machine_read = record {
      same = record {
        guest = guest_is;
        most_pages = ap (λ (x : MachineValue). x.most_pages) memory.is
            ∙ still_most b c old first second globals frames;
        table = ap (λ (x : MachineValue). x.table) memory.is
            ∙ ap (λ (x : MachineValue). x.table) frames.is
            ∙ ap (λ (x : MachineValue). x.table) globals.is
            ∙ same_called.table;
      };
      limit = ap (λ (x : MachineValue). x.limit) memory.is
          ∙ ap (λ (x : MachineValue). x.limit) frames.is
          ∙ ap (λ (x : MachineValue). x.limit) globals.is
          ∙ ap (λ (x : MachineValue). x.limit) calls.is;
      later = subst (λ (m : Module). AreToCome m phase d.state.later) (sym guest_is)
          (subst (λ (later : List ℕ). AreToCome v.guest phase later) (sym (later_is ∙ called))
          calls.are);
      within = fields_are;
      is = spelled;
    }

-- ---- what is refused

slots_are : (fs : List ShownFrame) → slots_in fs ≡ slots_held fs
slots_are [] = refl
slots_are (place ∷ places) =
    let all = sum_by-cons (λ (f : ShownFrame). length f.slots) place places in
    let others = slots_are places in
    omega (arith, all, others)

pub few_slots_in : (n : ℕ) (fs : List ShownFrame) → n ≡ slots_held fs → n ≤ SLOTS
    → slots_in fs ≤ SLOTS
few_slots_in n fs is few = (let same = slots_are fs in omega (arith, is, few, same))

-- frames and memory, and what is after them
abbrev from_frames : MachineState → List ℕ → List ℕ
from_frames m rest = items_bytes place_bytes (reverse m.frames) ++ (memory_bytes m.memory ++ rest)

module _ (phase : ReadPhase) (v w : MachineValue) (old rest : List ℕ) (r : IsReadMachine v phase old
    rest w) where
  pub no_calls : ((later : List ℕ) → AreToCome v.guest phase later → ⊥) → ⊥
  no_calls refuses =
      refuses w.state.later
      (subst (λ (m : Module). AreToCome m phase w.state.later) r.same.guest r.later)

  in_fields : old ≡ items_bytes u64_bytes w.state.globals ++ from_frames w.state rest
  in_fields = r.is ∙ machine_in_order w.state rest

  pub no_globals : ((x more : List ℕ) → AreWords x → old ≢ items_bytes u64_bytes x ++ more) → ⊥
  no_globals refuses =
      refuses w.state.globals (from_frames w.state rest) r.within.globals in_fields

  behind_globals : (globals first : List ℕ)
      → HasField (items_bytes u64_bytes) AreWords globals old first
      → first ≡ from_frames w.state rest
  behind_globals globals first has =
      (is_that words_field has w.state.globals (from_frames w.state rest) r.within.globals
      in_fields).1

  pub no_frames : (outer : List ShownFrame) (globals first : List ℕ) → outer ≡ []
      → HasField (items_bytes u64_bytes) AreWords globals old first
      → ((places : List ShownFrame) (more : List ℕ)
      → AreFew ShownFrame IsPlaceIn places × HaveStackRoom outer places
      → first ≢ items_bytes place_bytes places ++ more)
      → slots_in w.state.frames ≤ SLOTS → ShowsSome w → ⊥
  no_frames outer globals first none has refuses few shows =
      let places = w.state.frames in
      let no_outer : length outer ≡ 0 = ap length none in
      let none_held : slots_held outer ≡ 0 = ap slots_held none in
      let few_frames : length places ≤ FRAMES = shows.shows.shows.few_frames in
      let same = slots_are places in
      let held = held_reversed places in
      let turned = length-reverse places in
      refuses (reverse places) (memory_bytes w.state.memory ++ rest) (
        turned_few places r.within.frames,
        record {
          few = omega (arith, no_outer, few_frames, turned);
          slots = omega (arith, none_held, few, same, held);
        },
      ) (behind_globals globals first has)

  pub no_bytes : (least most : ℕ) (globals first second : List ℕ) (places : List ShownFrame)
      → least ≡ least_of v.guest → most ≡ v.most_pages
      → HasField (items_bytes u64_bytes) AreWords globals old first
      → HasField (items_bytes place_bytes) (AreFew ShownFrame IsPlaceIn) places first second
      → ((x more : List ℕ) → IsMemoryWithin least most x → second ≢ memory_bytes x ++ more)
      → ShowsSome w → ⊥
  no_bytes least most globals first second places least_is most_is has has_frames refuses shows =
      let behind = is_that frames_field has_frames (reverse w.state.frames)
      (memory_bytes w.state.memory ++ rest) (turned_few w.state.frames r.within.frames)
      (behind_globals globals first has) in
      let typed = shows.shows.shows.typed.store.memory in
      let whole = r.within.memory in
      let held : length w.state.memory ≡ typed.pages * page_size =
      ap length shows.shows.shows.memory ∙ typed.whole in
      let mine : length w.state.memory ≡ whole.pages * page_size = whole.whole in
      let enough = typed.least in
      let within = typed.within in
      let program_least : shows.program.least_pages ≡ least =
      shows.shows.is.is_program.least_pages ∙ ap least_of r.same.guest ∙ sym least_is in
      let program_most = shows.shows.is.most in
      let same_most = r.same.most_pages in
      refuses w.state.memory rest
      (record {
        whole = whole;
        least = omega (arith, held, mine, enough, program_least);
        most = omega (arith, held, mine, within, program_most, same_most, most_is);
      }) behind.1

-- ---- one machine is read

pub one_read : (phase : ReadPhase) (v d w : MachineValue) (old new rest : List ℕ)
    → IsValid v.guest → IsReadMachine v phase old new d → IsReadMachine v phase old rest w → d ≡ w
one_read phase v d w old new rest valid r s =
    let parts = same_machine d.state w.state new rest r.within s.within (sym r.is ∙ s.is) in
    let guest : d.guest ≡ w.guest = r.same.guest ∙ sym s.same.guest in
    let most : d.most_pages ≡ w.most_pages = r.same.most_pages ∙ sym s.same.most_pages in
    let table : d.table ≡ w.table = r.same.table ∙ sym s.same.table in
    let limit : d.limit ≡ w.limit = r.limit ∙ sym s.limit in
    let frames = parts.0.frames in let globals = parts.0.globals in
    let memory = parts.0.memory in
    let later : d.state.later ≡ w.state.later =
    one_to_come phase v.guest d.state.later w.state.later valid
    (subst (λ (m : Module). AreToCome m phase d.state.later) r.same.guest r.later)
    (subst (λ (m : Module). AreToCome m phase w.state.later) s.same.guest s.later) in
    let whole : machine_with d.guest d.most_pages d.table d.state.frames d.state.globals
    d.state.memory d.state.later d.limit
    ≡ machine_with w.guest w.most_pages w.table w.state.frames w.state.globals w.state.memory
    w.state.later w.limit =
    rw (guest, most, table, frames, globals, memory, later, limit) refl in
    whole

pub not_shown : (phase : ReadPhase) (v d w : MachineValue) (old new rest : List ℕ)
    → IsValid v.guest → IsReadMachine v phase old new d → IsReadMachine v phase old rest w
    → (ShowsSome d → ⊥) → ShowsSome w → ⊥
not_shown phase v d w old new rest valid r s denies shows =
    denies (subst ShowsSome (sym (one_read phase v d w old new rest valid r s)) shows)

-- ---- into the machine that was linked

pub emptied_once : (m l : MachineValue) → l ≡ emptied m → l ≡ emptied l
emptied_once m l is = is ∙ sym (ap emptied is)

pub read_linked : (m l : MachineValue) → l ≡ emptied m → (phase : ReadPhase) (old new : List ℕ)
    (v : MachineValue) → IsReadMachine l phase old new v → IsReadMachine m phase old new v
read_linked m l is phase old new v r = record {
  same = record {
    guest = r.same.guest ∙ ap (λ (x : MachineValue). x.guest) is;
    most_pages = r.same.most_pages ∙ ap (λ (x : MachineValue). x.most_pages) is;
    table = r.same.table ∙ ap (λ (x : MachineValue). x.table) is;
  };
  limit = r.limit ∙ ap (λ (x : MachineValue). x.limit) is;
  later = r.later;
  within = r.within;
  is = r.is;
}

pub read_emptied : (m l : MachineValue) → l ≡ emptied m → (phase : ReadPhase) (old new : List ℕ)
    (v : MachineValue) → IsReadMachine m phase old new v → IsReadMachine l phase old new v
read_emptied m l is phase old new v r = record {
  same = record {
    guest = r.same.guest ∙ sym (ap (λ (x : MachineValue). x.guest) is);
    most_pages = r.same.most_pages ∙ sym (ap (λ (x : MachineValue). x.most_pages) is);
    table = r.same.table ∙ sym (ap (λ (x : MachineValue). x.table) is);
  };
  limit = r.limit ∙ sym (ap (λ (x : MachineValue). x.limit) is);
  later = r.later;
  within = r.within;
  is = r.is;
}
