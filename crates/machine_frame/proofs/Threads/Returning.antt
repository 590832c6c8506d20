-- What a return and the end of a body lead to.
use Rattle.std.proofs.Common.{◌≡◌, ◌≢◌, ⊎_elim, ℕ, ◌+◌, ◌≤◌, List, [], ◌∷◌, ◌++◌, length, Some}
use Rattle.std.proofs.Common.{refl, sym, ap, ◌∙◌, subst, arith, append_assoc, length-append, Option}
use Rattle.std.specs.Prelude.{map}
use Rattle.std.proofs.lemmas.List.{length-reverse}
use Rattle.wasm_syntax.specs.declared.value.Value.{Value}
use Rattle.wasm_syntax.specs.declared.instruction.Instruction.{Instruction}
use Rattle.wasm_syntax.specs.declared.instruction.Instruction.TheVariants as instr
use Rattle.wasm_syntax.specs.rules.Sequence.{Sequence, Stop}
use Rattle.wasm_rules.specs.Types.{AreOf, number_in, gives_of}
use Rattle.wasm_rules.specs.Typing.{Context}
use Rattle.wasm_rules.specs.Configuration.{Program, Label, Configuration}
use Rattle.wasm_rules.specs.Steps.{topmost, returned, held_by}
use Rattle.wasm_rules.specs.Typed.{IsTyped}
use Rattle.wasm_rules.proofs.Soundness.Values.{topmost_are}
use Rattle.wasm_rules.proofs.Soundness.AdministrativeSound.{administrative_typed}
use Rattle.machine_slots.specs.rules.Places.{all_below, held_beside}
use Rattle.machine_jumps.specs.Moves.{opcodes_of, HasOpcode, IsTypedBody}
use Rattle.machine_jumps.specs.Tables.{Table}
use Rattle.machine_frame.specs.rules.FramePosition.{IsTypedAt}
use Rattle.machine_frame.proofs.FramePosition.Positions.{is_typed_somewhere}
use Rattle.machine_frame.specs.declared.rules.frame.StackFrame.{StackFrame}
use Rattle.machine_frame.specs.rules.Threads.{context_of, IsReadyProgram, MachineParts}
use Rattle.machine_frame.specs.rules.Threads.{PartsStandFor}
use Rattle.machine_frame.specs.laws.Threads.{Top, WordsReturned, frames_behind, ReturnsLead}
use Rattle.machine_frame.specs.laws.Threads.{BodiesEnd}
use Rattle.machine_frame.proofs.Threads.Words.{values_count, frame_holds}
use Rattle.machine_frame.proofs.Threads.Running.{frames_run}
use Rattle.machine_frame.proofs.Threads.Waiting.{none_behind, executes, frame_ends, fewer_held}
use Rattle.machine_frame.proofs.Threads.Waiting.{fewer_frames}
use Rattle.machine_frame.proofs.Threads.CountedSteps.{reduced_before, counted_typed, with_rest}
use Rattle.machine_frame.proofs.Threads.CountedSteps.{return_counted, end_administrative}

-- ---- what remains at the end

at_end : {c : Context} {body : Sequence} {p : ℕ} {ls vs : List Value} {labels : List Label}
    {rest : Sequence} → IsTypedBody c body → IsTypedAt c body p ls labels vs rest
    → p ≡ length (opcodes_of body) → (labels ≡ []) × (rest ≡ Stop) × AreOf c.returns vs
at_end {c} {body} {p} {ls} {vs} {labels} {rest} typed s at =
    ⊎_elim
    (λ (h : (i : Instruction) × HasOpcode body p i × (labels ≢ [])).
    absurd (none_behind (opcodes_of body) p at h.1)) (λ (h : (p ≡ length (opcodes_of body)) ×
    (labels ≡ []) × (rest ≡ Stop) × AreOf c.returns vs).
    (h.1, h.2, h.3))
    (is_typed_somewhere c body p ls vs labels rest typed s)

topmost_all : (vs : List Value) → topmost (length vs) vs ≡ Some vs
topmost_all [] = refl
topmost_all (v ∷ vs) = rw (topmost_all vs) refl

module _ {c : Context} {program : Program} {opcodes : ℕ → List Instruction} {tables : ℕ → Table}
    {table : List (Option ℕ)} {held : MachineParts} {d : Configuration} {frame : StackFrame}
    {frames : List StackFrame} (ready : IsReadyProgram c program opcodes tables)
    (stands : PartsStandFor c program table held d) (were : held.frames ≡ frame ∷ frames)
    (top : Top c program held d frame frames) where
  few_results : length top.own.signature.results ≤ 1
  few_results = let one = (ready.routines frame.function top.own).one in
      omega (arith, one, length-reverse top.own.signature.results)

  results_fit : length top.own.signature.results ≤ length top.runs.vs
      → length top.own.signature.results + frame.base ≤ length held.words
  results_fit h =
      let here = ap length top.runs.words_are in
      let base = top.base_is in
      omega (arith, h, here, base, frame_holds top.runs.ls top.runs.vs top.runs.labels top.callers)

  -- the whole after the frame has ended with these results
  ended : {results : List Value} → AreOf (gives_of top.own.signature) results
      → topmost (length top.own.signature.results) top.runs.vs ≡ Some results → (words : List ℕ)
      → WordsReturned frames (length top.own.signature.results) frame.base held.words words
      → IsTyped c program (record d { thread = returned results top.thread })
      → PartsStandFor c program table (record held {
        frames = frames_behind frames;
        words = words;
      }) (record d { thread = returned results top.thread })
  ended {results} o t words falls typed =
      let beside : length top.runs.ls + held_by top.thread ≤ 65536 =
      subst (λ t. held_beside t ≤ 65536) top.runs.thread stands.few_values in
      let count : length (frame ∷ frames) ≤ 512 = subst (λ z. length z ≤ 512) were stands.few_frames
      in
      record {
        typed = typed;
        frames = frame_ends c program (λ f own. (ready.routines f own).typed) top.own.signature
            frames top.callers top.thread (length top.own.signature.results) top.runs.ls top.runs.vs
            (map number_in (all_below top.runs.labels)) words o top.waiting t top.base_is
            top.runs.words_are falls;
        shown = stands.shown;
        same_table = stands.same_table;
        later = stands.later;
        few_frames = omega (arith, count, fewer_frames frames);
        few_values = omega (arith, beside, fewer_held results top.thread);
      }

-- ---- the end of a body

pub bodies_end : BodiesEnd
bodies_end c program opcodes tables table held d frame frames ready stands were at =
    let top = frames_run c program opcodes tables table held d frame frames ready stands were in
    let routine = ready.routines frame.function top.own in
    let s = at_end routine.typed top.runs.is_there (at ∙ ap length routine.spelled) in
    let count : length top.own.signature.results ≡ length top.runs.vs =
    sym (values_count (gives_of top.own.signature) top.runs.vs s.2
    ∙ length-reverse top.own.signature.results) in
    let leaves =
    end_administrative program d frame.function top.runs.ls top.runs.vs top.thread top.runs.thread
    s.0 s.1 in
    let t : topmost (length top.own.signature.results) top.runs.vs ≡ Some top.runs.vs =
    rw count (topmost_all top.runs.vs) in (
      top.own,
      few_results ready stands were top,
      results_fit ready stands were top (omega (arith, count)),
      λ words falls. (
        record d { thread = returned top.runs.vs top.thread },
        leaves,
        ended ready stands were top s.2 t words falls (administrative_typed c program d _
            ready.typed stands.typed leaves),
      ),
    )

-- ---- return

pub returns_lead : ReturnsLead
returns_lead c program opcodes tables table held d frame frames ready stands is =
    let top = frames_run c program opcodes tables table held d frame frames ready stands
    is.frames_are in
    let routine = ready.routines frame.function top.own in
    let here : HasOpcode top.own.body frame.position instr.Return = (rw routine.spelled at is.here)
    in
    let s = top.runs.is_there in
    let x = executes (context_of c top.own) top.own.body frame.position instr.Return s.shapes
    s.types top.runs.rest routine.typed s.reached here tt in
    let split : s.types ≡ gives_of top.own.signature ++ (x.typing.0 ++ x.below) =
    x.split ∙ ap (λ z. z ++ x.below) x.typing.1
    ∙ append_assoc (gives_of top.own.signature) x.typing.0 x.below in
    let operands : AreOf (gives_of top.own.signature ++ (x.typing.0 ++ x.below)) top.runs.vs =
    (rw split at s.operands) in
    let r = topmost_are (gives_of top.own.signature) (x.typing.0 ++ x.below) top.runs.vs operands in
    let same : length (gives_of top.own.signature) ≡ length top.own.signature.results =
    length-reverse top.own.signature.results in
    let t : topmost (length top.own.signature.results) top.runs.vs ≡ Some r.0 =
    subst (λ n. topmost n top.runs.vs ≡ Some r.0) same r.1 in
    let thread =
    with_rest d frame.function top.runs.ls top.runs.vs top.runs.labels top.thread top.runs.thread
    x.remains in
    let goes = return_counted program d frame.function top.runs.ls top.runs.vs top.runs.labels
    x.after top.thread thread top.own.is r.1 in
    let reduced =
    reduced_before program d frame.function top.runs.ls top.runs.vs top.runs.labels instr.Return
    x.after top.thread thread in
    let typed = counted_typed (record d { thread = returned r.0 top.thread }) ready.typed
    stands.typed reduced goes in
    let given = gives_of top.own.signature ++ (x.typing.0 ++ x.below) in
    let many = values_count given top.runs.vs operands in (
      top.own,
      few_results ready stands is.frames_are top,
      results_fit ready stands is.frames_are top (omega (
        arith,
        many,
        same,
        length-append (gives_of top.own.signature) (x.typing.0 ++ x.below),
      )),
      λ words falls. (
        record d { thread = returned r.0 top.thread },
        goes,
        ended ready stands is.frames_are top r.2 t words falls typed,
      ),
    )
