-- What is put into a state, as contracts see it.
use Rattle.std.proofs.Common.{◌≡◌, ◌≢◌, ◌⊎◌, inl, inr, ⊎_elim, ℕ, suc, ◌*◌, ◌-◌, ◌≤◌, List, []}
use Rattle.std.proofs.Common.{◌∷◌, ◌++◌, length, take, drop, Result, Ok, Err, IfOk, IfErr, OnOk}
use Rattle.std.proofs.Common.{OnErr, refl, sym, ap, ◌∙◌, subst, arith, length-append}
use Rattle.std.specs.Prelude.{reverse}
use Rattle.std.specs.List.{AllByRecursion}
use Rattle.std.proofs.lemmas.List.{reverse-append}
use Rattle.guest_memory.specs.rules.Bytes.{page_size}
use Rattle.guest_memory.specs.rules.Memories.{LinearMemory}
use Rattle.wasm_rules.specs.Typed.{IsTypedEntry}
use Rattle.machine_slots.specs.rules.Places.{ShownFrame}
use Rattle.machine_slots.specs.declared.slots.TheConstants.{SLOTS}
use Rattle.machine_frame.specs.declared.rules.frame.StackFrame.{StackFrame}
use Rattle.machine_frame.specs.rules.Stacked.{AreStacked, slots_held}
use Rattle.machine_frame.specs.rules.Threads.{places_of}
use Rattle.machine.specs.declared.execution.code.Executable.{Executable}
use Rattle.machine.specs.declared.execution.state.State.{State}
use Rattle.machine.specs.declared.loading.fault.LoadFault.{LoadFault}
use Rattle.machine.specs.declared.loading.fault.LoadFault.TheVariants.{Unfit}
use Rattle.machine.specs.Insides.{seen, IsMachine, IsLoading, IsLoadedCode, with_memory_of}
use Rattle.machine.specs.rules.Values.{least_of}
use Rattle.machine.specs.rules.Loading.{IsSlotPushed, with_frames}
use Rattle.machine.proofs.Placed.{reduced_zeroed}
use Rattle.machine.proofs.LoadingLemmas.Frames.{held_count}

-- ---- results

pub if_ok : {X E : Type 0} (P Q : X → Type 0) (r : Result X E) → ((x : X) → P x → Q x)
    → IfOk r P → IfOk r Q
if_ok P Q (Ok x) f h = f x h
if_ok P Q (Err e) f h = tt

pub if_err : {X E : Type 0} (P Q : E → Type 0) (r : Result X E) → ((e : E) → P e → Q e)
    → IfErr r P → IfErr r Q
if_err P Q (Ok x) f h = tt
if_err P Q (Err e) f h = f e h

-- ---- an emptied machine

loaded_code : {code : Executable} {s : State} {most : ℕ} → IsMachine code s most
    → IsLoadedCode code most
loaded_code machine = record {
  functions = machine.functions;
  program = machine.program;
  is = machine.is;
  is_code = λ functions program is.
      (reduced_zeroed machine is).stands.is_code;
  table = λ functions program is.
      let k = (reduced_zeroed machine is).stands.stands in
      subst (AllByRecursion (IsTypedEntry program)) k.same_table k.typed.store.table;
}

pub loading_of : {code : Executable} {old : State} (new : State) {most : ℕ} → IsMachine code old
    most
    → new.frames ≡ [] → new.slots ≡ [] → new.memory.limit ≡ most
    → least_of code.«module» * page_size ≤ length new.memory.bytes → IsLoading code new most
loading_of new machine frames slots limit least = record {
  loaded = loaded_code machine;
  own = machine.own;
  stacked = subst (λ (z : List StackFrame). AreStacked z new.slots) (sym frames) slots;
  limit = limit;
  least = least;
}

-- ---- one more slot

module _ (word : ℕ) where
  stacked_more : (frames : List StackFrame) (words : List ℕ) → frames ≢ []
      → AreStacked frames words → AreStacked frames (word ∷ words)
  stacked_more [] words some h = absurd (some refl)
  stacked_more (frame ∷ frames) words some h =
      (word ∷ h.0, h.1, ap (λ z. word ∷ z) h.2, h.3, h.4)

  -- the innermost frame has it after its others
  more_places : (frames : List StackFrame) (words : List ℕ) → AreStacked frames words
      → (place : ShownFrame) (places : List ShownFrame) → places_of frames words ≡ place ∷ places
      → places_of frames (word ∷ words)
      ≡ record place { slots = place.slots ++ word ∷ [] } ∷ places
  more_places [] words h place places e = absurd (cc)
  more_places (frame ∷ frames) words h place places e =
      let base = h.3 in
      let below : suc (length words) - frame.base ≡ suc (length words - frame.base) =
      omega (arith, base, ap length h.2, length-append h.0 h.1) in
      let k = length words - frame.base in
      let top : ShownFrame = record {
        function = frame.function;
        position = frame.position;
        slots = reverse (take k words);
      } in
      let rest = places_of frames (drop k words) in
      let first : top ≡ place = cc in
      let others : rest ≡ places = cc in
      let turned : reverse (word ∷ take k words) ≡ reverse (take k words) ++ word ∷ [] =
      reverse-append (word ∷ []) (take k words) in
      let P : ℕ → List ShownFrame = λ n. record {
        function = frame.function;
        position = frame.position;
        slots = reverse (take n (word ∷ words));
      } ∷ places_of frames (drop n (word ∷ words)) in
      let Q : List ℕ → List ShownFrame = λ z. record {
        function = frame.function;
        position = frame.position;
        slots = z;
      } ∷ rest in
      let R : ShownFrame → List ShownFrame =
      λ p. record p { slots = p.slots ++ word ∷ [] } ∷ rest in
      let S : List ShownFrame → List ShownFrame =
      λ z. record place { slots = place.slots ++ word ∷ [] } ∷ z in
      ap P below ∙ (ap Q turned ∙ (ap R first ∙ ap S others))

module _ (code : Executable) (old new : State) (most word : ℕ)
    (r : Result (Unit {0}) LoadFault) where
  pub slot_loading : OnOk r ((old.frames ≢ []) × (new ≡ record old { slots = word ∷ old.slots }))
      → OnErr r (new ≡ old) → IsLoading code old most → IsLoading code new most
  slot_loading pushed kept h = by_result r pushed kept
    where
      by_result : (r : Result (Unit {0}) LoadFault)
          → OnOk r ((old.frames ≢ []) × (new ≡ record old { slots = word ∷ old.slots }))
          → OnErr r (new ≡ old) → IsLoading code new most
      by_result (Ok x) pushed kept =
          subst (λ s. IsLoading code s most) (sym pushed.1) (record {
            loaded = h.loaded;
            own = h.own;
            stacked = stacked_more word old.frames old.slots pushed.0 h.stacked;
            limit = h.limit;
            least = h.least;
          })
      by_result (Err e) pushed kept = subst (λ s. IsLoading code s most) (sym kept) h

  pub slot_pushed : OnOk r ((old.frames ≢ []) × (new ≡ record old { slots = word ∷ old.slots }))
      → AreStacked old.frames old.slots
      → OnOk r ((places_of old.frames old.slots ≢ [])
      × IsSlotPushed word (seen code old most) (seen code new most))
  slot_pushed pushed h = by_result r pushed
    where
      no_place : (frames : List StackFrame) → places_of frames old.slots ≡ [] → frames ≡ []
      no_place [] e = refl
      no_place (frame ∷ frames) e = absurd (cc)

      by_result : (r : Result (Unit {0}) LoadFault)
          → OnOk r ((old.frames ≢ []) × (new ≡ record old { slots = word ∷ old.slots }))
          → OnOk r ((places_of old.frames old.slots ≢ [])
          × IsSlotPushed word (seen code old most) (seen code new most))
      by_result (Ok x) pushed = (
        λ none. pushed.0 (no_place old.frames none),
        λ place places e.
            ap (λ s. seen code s most) pushed.1
            ∙ ap (λ z. with_frames z (seen code old most))
            (more_places word old.frames old.slots h place places e),
      )
      by_result (Err e) pushed = tt

-- ---- other bytes in memory

module _ {code : Executable} {s : State} {most least : ℕ} (memory : LinearMemory) (bytes : List ℕ)
    (r : Result (Unit {0}) LoadFault) where
  -- they are enough pages, or memory is as it was
  pub memory_loading : IsLoading code s most → least ≡ least_of code.«module»
      → OnOk r (memory.bytes ≡ bytes) → memory.limit ≡ s.memory.limit
      → OnOk r (least * page_size ≤ length bytes) → OnErr r (memory ≡ s.memory)
      → IsLoading code (with_memory_of s memory) most
  memory_loading h is bytes_are limit enough kept = record {
    loaded = h.loaded;
    own = h.own;
    stacked = h.stacked;
    limit = limit ∙ h.limit;
    least = by_result r bytes_are enough kept;
  }
    where
      by_result : (r : Result (Unit {0}) LoadFault) → OnOk r (memory.bytes ≡ bytes)
          → OnOk r (least * page_size ≤ length bytes) → OnErr r (memory ≡ s.memory)
          → least_of code.«module» * page_size ≤ length memory.bytes
      by_result (Ok x) bytes_are enough kept =
          subst (λ n. n * page_size ≤ length memory.bytes) is
          (subst (λ (z : List ℕ). least * page_size ≤ length z) (sym bytes_are) enough)
      by_result (Err e) bytes_are enough kept =
          subst (λ (m : LinearMemory). least_of code.«module» * page_size ≤ length m.bytes)
          (sym kept) h.least

pub slot_full : (s : State) (r : Result (Unit {0}) LoadFault)
    → IfErr r (λ e. (e ≡ Unfit) × ((s.frames ≡ []) ⊎ (length s.slots ≡ SLOTS)))
    → AreStacked s.frames s.slots
    → IfErr r (λ e. (e ≡ Unfit) × ((places_of s.frames s.slots ≡ [])
    ⊎ (slots_held (places_of s.frames s.slots) ≡ SLOTS)))
slot_full s r full h =
    if_err _ _ r (λ e k. (
      k.0,
      ⊎_elim
          (λ (none : s.frames ≡ []). inl (ap (λ z. places_of z s.slots) none))
          (λ (many : length s.slots ≡ SLOTS). inr (held_count s.frames s.slots h ∙ many))
          k.1,
    )) full
