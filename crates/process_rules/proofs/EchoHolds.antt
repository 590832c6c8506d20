-- The worked example `echo` holds: the answers, step by step.
use Rattle.std.proofs.Common.{◌≡◌, ◌≢◌, inl, ℕ, ◌+◌, ◌==◌, true, false, List, [], ◌∷◌, ◌++◌}
use Rattle.std.proofs.Common.{replicate, codes, Option, Some, None, refl, sym, ap, subst, lit≤, suc}
use Rattle.std.proofs.Common.{arith, ◌<◌, length}
use Rattle.wasm_syntax.specs.declared.value.Value.{Value}
use Rattle.wasm_syntax.specs.declared.instruction.Instruction.{Instruction}
use Rattle.wasm_syntax.specs.declared.instruction.Instruction.TheVariants as instr
use Rattle.wasm_syntax.specs.rules.Sequence.{Sequence, Stop, Plain}
use Rattle.wasm_syntax.specs.laws.Examples.{echo, no_type, transfer_type}
use Rattle.wasm_rules.specs.Configuration.{Imported, Own, LabelOf, FrameOf, Thread}
use Rattle.wasm_rules.specs.Configuration.{Configuration, Goes, Main}
use Rattle.wasm_rules.specs.laws.Examples.{v}
use Rattle.wasm_rules.specs.Instantiation.{filled_memory, empty_memory}
use Rattle.wasm_rules.specs.Steps.{counted_step, loop_label, IsReduced, here, on}
use Rattle.wasm_rules.specs.Validity.{memories_of}
use Rattle.wasi_abi.specs.declared.answer.Question.{Question}
use Rattle.wasi_abi.specs.declared.answer.Question.TheVariants as question
use Rattle.wasi_abi.specs.declared.answer.Answer.{Answer}
use Rattle.wasi_abi.specs.declared.answer.Answer.TheVariants as answer
use Rattle.wasi_abi.specs.declared.call.Call.TheVariants as call
use Rattle.wasi_abi.specs.rules.Answers.{Fits, IsRequestText}
use Rattle.wasi_abi.specs.rules.Configs.{Settings}
use Rattle.wasi_calls_rules.specs.WasiStates as host
use Rattle.wasi_calls_rules.specs.declared.output_stream.OutputStream.TheVariants.{Stdout}
use Rattle.wasi_calls_rules.specs.Checks.{Bytes}
use Rattle.wasi_abi.specs.declared.version.Version.TheVariants.{One}
use Rattle.wasi_abi.specs.rules.Versions.{text_limit}
use Rattle.process_rules.specs.Processes.{ProcessState, Guest, Exited, IsStart, host_of, closed}
use Rattle.process_rules.specs.Runs.{On, Wants, next_of, after_counted_step, stepped, IsWanted}
use Rattle.process_rules.specs.Runs.{Kept, LeadsTo, Moves, Given, Wider, widened, Runs, Reaches}
use Rattle.process_rules.specs.Runs.{none, step, take, widen}
use Rattle.process_rules.specs.laws.Examples.{ComesTo, at_rest, abc_and_end, echo_memory, echo_end}
use Rattle.process_rules.specs.laws.Examples.{EchoEnds}
use Rattle.process_rules.specs.laws.WideningExamples.{EchoWantsMore}
use Rattle.process_rules.proofs.Quiet.{runs_join}
use Rattle.process_rules.proofs.Ended.{comes}
use Rattle.process_rules.proofs.EchoValid.{load_there, store_there, again, testing, round}
use Rattle.process_rules.proofs.EchoValid.{looping, echo_spells, echo_is_valid}

abbrev guest_of : Settings → Guest
guest_of config = record {
  program = record {
    types = no_type ∷ transfer_type ∷ [];
    functions = Imported transfer_type ∷ Imported transfer_type ∷ Own no_type [] looping ∷ [];
    least_pages = 1;
    most_pages = config.pages;
  };
  calls = call.FdRead ∷ call.FdWrite ∷ [];
}

-- ---- memory

-- the two buffers
first_memory : Bytes
first_memory = 64 ∷ 0 ∷ 0 ∷ 0 ∷ 0 ∷ 16 ∷ 0 ∷ 0 ∷ 64 ∷ 0 ∷ 0 ∷ 0 ∷ replicate 65524 0

-- with these four bytes from 12, from 16 and from 20 on, and the text
abbrev with_counts : ℕ → ℕ → ℕ → Bytes
with_counts lent read written =
    (64 ∷ 0 ∷ 0 ∷ 0 ∷ 0 ∷ 16 ∷ 0 ∷ 0 ∷ []) ++ (64 ∷ 0 ∷ 0 ∷ 0 ∷ lent ∷ 0 ∷ 0 ∷ 0 ∷ [])
    ++ (read ∷ 0 ∷ 0 ∷ 0 ∷ []) ++ (written ∷ 0 ∷ 0 ∷ 0 ∷ [])
    ++ replicate 40 0 ++ (codes "abc" ++ 10 ∷ []) ++ replicate 65468 0

memory_read : Bytes
memory_read = with_counts 0 4 0

memory_copied : Bytes
memory_copied = with_counts 4 4 0

memory_written : Bytes
memory_written = with_counts 4 4 4

last_memory : Bytes
last_memory = with_counts 4 0 4

filled : filled_memory [] echo.data_segments (empty_memory (memories_of echo)) ≡ Some first_memory
unfolding first_memory
filled = refl

all_memory : last_memory ≡ echo_memory
unfolding last_memory
all_memory = refl

-- ---- places

abbrev blank : Thread → Bytes → Configuration
blank thread memory = record {
  store = record { memory = memory; globals = []; table = [] };
  thread = thread;
  later = [];
}

abbrev around : Thread
around = FrameOf 2 [] (LabelOf 0 Stop [] Stop Main ∷ []) [] looping ∷ []

abbrev inside : List Value → Sequence → Thread
inside values rest =
    FrameOf 2 [] (loop_label None round [] Stop ∷ LabelOf 0 Stop [] Stop Main ∷ []) values rest ∷ []

-- after n steps, that many answers
abbrev after : ℕ → ℕ → host.WasiState → Configuration → ProcessState
after n answers h c = record {
  configuration = c;
  host = h;
  steps = n;
  answers = answers;
  requests = answers;
  ended = None;
}

abbrev wrote : Settings → host.WasiState
wrote config = record (host_of config) {
  lines = record { stream = Stdout; text = codes "abc" } ∷ [];
}

abbrev ended_input : Settings → host.WasiState
ended_input config = record (wrote config) { input_ended = true }

abbrev abc : Answer
abc = answer.Request (codes "abc")

abbrev last : Settings → Bytes → ProcessState
last config memory = record (echo_end config) { configuration = at_rest memory }

-- ---- steps

-- a step that the next thing leads to, which is reduced
pub leads_on : (guest : Guest) (p : ProcessState) (given : Option Answer) (c : Configuration)
    (h : host.WasiState) → p.ended ≡ None → IsWanted guest p given → next_of guest p given ≡ On c h
    → IsReduced guest.program c → Moves guest p given (closed (stepped given c h p))
leads_on guest p given c h running wanted e reduced =
    record {
      running = running;
      wanted = wanted;
      leads = subst (λ z. LeadsTo guest z given p (closed (stepped given c h p))) (sym e) (
        c,
        here reduced,
        refl,
      );
    }

-- an instruction after which the loop goes on
goes : (config : Settings) {n answers : ℕ} {h : host.WasiState} {m m' : Bytes} {values values' :
    List Value} {i j : Instruction} {rest rest' : Sequence}
    → counted_step (guest_of config).program (blank (inside values (Plain i rest)) m)
    ≡ Goes (blank (inside values' (Plain j rest')) m')
    → Moves (guest_of config) (after n answers h (blank (inside values (Plain i rest)) m)) None
    (after (n + 1) (answers + 0) h (blank (inside values' (Plain j rest')) m'))
goes config {n = n} {answers = answers} {h = h} {m = m} {m' = m'} {values = values}
    {values' = values'} {i = i} {j = j} {rest = rest} {rest' = rest'} e =
    leads_on (guest_of config) (after n answers h (blank (inside values (Plain i rest)) m)) None
    (blank (inside values' (Plain j rest')) m') h refl tt
    (ap (λ o. after_counted_step (guest_of config) o None (blank
    (inside values (Plain i rest)) m) h) e) refl

enters : (config : Settings) (n answers : ℕ) (h : host.WasiState) (m : Bytes)
    → Moves (guest_of config) (after n answers h (blank around m)) None
    (after (n + 1) (answers + 0) h (blank (inside [] round) m))
enters config n answers h m = record { running = refl; wanted = tt; leads = (_, here refl, refl) }

turns : (config : Settings) (n answers : ℕ) (h : host.WasiState) (m : Bytes)
    → Moves (guest_of config) (after n answers h (blank (inside [] (Plain (instr.Br 0) Stop)) m))
    None (after (n + 1) (answers + 0) h (blank around m))
turns config n answers h m = record { running = refl; wanted = tt; leads = (_, here refl, refl) }

-- ---- steps that read memory or write it

abbrev at_read : ℕ → ℕ → host.WasiState → Bytes → ProcessState
at_read n answers h m =
    after n answers h (blank (inside (v 16 ∷ v 1 ∷ v 0 ∷ v 0 ∷ []) (Plain (instr.Call 0) testing))
    m)

wants_first : (config : Settings)
    → next_of (guest_of config) (at_read 5 0 (host_of config) first_memory) None
    ≡ Wants question.Request
unfolding first_memory
wants_first config = refl

reads_first : (config : Settings)
    → next_of (guest_of config) (at_read 5 0 (host_of config) first_memory) (Some abc)
    ≡ On (blank (inside (v 0 ∷ []) testing) memory_read) (host_of config)
unfolding first_memory memory_read
reads_first config = refl

wants_last : (config : Settings)
    → next_of (guest_of config) (at_read 27 1 (wrote config) memory_written) None
    ≡ Wants question.Request
unfolding memory_written
wants_last config = refl

reads_last : (config : Settings)
    → next_of (guest_of config) (at_read 27 1 (wrote config) memory_written) (Some answer.End)
    ≡ On (blank (inside (v 0 ∷ []) testing) last_memory) (ended_input config)
unfolding memory_written last_memory
reads_last config = refl

abbrev at_write : Settings → ProcessState
at_write config =
    after 19 1 (host_of config)
    (blank (inside (v 20 ∷ v 1 ∷ v 8 ∷ v 1 ∷ []) (Plain (instr.Call 1) again)) memory_copied)

writes : (config : Settings)
    → next_of (guest_of config) (at_write config) None
    ≡ On (blank (inside (v 0 ∷ []) again) memory_written) (wrote config)
unfolding memory_copied memory_written
writes config = refl

loads_four : (config : Settings) (values : List Value) (rest : Sequence)
    → counted_step (guest_of config).program
    (blank (inside (v 16 ∷ values) (Plain load_there rest)) memory_read)
    ≡ Goes (blank (inside (v 4 ∷ values) rest) memory_read)
unfolding memory_read
loads_four config values rest = refl

loads_none : (config : Settings) (rest : Sequence)
    → counted_step (guest_of config).program
    (blank (inside (v 16 ∷ []) (Plain load_there rest)) last_memory)
    ≡ Goes (blank (inside (v 0 ∷ []) rest) last_memory)
unfolding last_memory
loads_none config rest = refl

stores_four : (config : Settings) (rest : Sequence)
    → counted_step (guest_of config).program
    (blank (inside (v 4 ∷ v 12 ∷ []) (Plain store_there rest)) memory_read)
    ≡ Goes (blank (inside [] rest) memory_copied)
unfolding memory_read memory_copied
stores_four config rest = refl

differs : (b : ℕ) → (b == 10) ≡ false → b ≢ 10
differs b other e = let clash : (b == 10) ≡ true = ap (λ z. z == 10) e in absurd (cc)

pub abc_fits : IsRequestText (text_limit One) (codes "abc")
abc_fits = record {
  short = lit≤ tt;
  are_bytes = (omega arith, (omega arith, (omega arith, tt)));
  no_newline = (differs 97 refl, (differs 98 refl, (differs 99 refl, tt)));
}

-- ---- the run

-- the five steps up to the question of a round
asks : (config : Settings) (n answers : ℕ) {h : host.WasiState} {m : Bytes} {kept : List Kept}
    {k : ℕ} {r : ProcessState}
    → Runs (guest_of config) (at_read (n + 1 + 1 + 1 + 1 + 1) (answers + 0 + 0 + 0 + 0 + 0) h m)
    kept k r
    → Runs (guest_of config) (after n answers h (blank around m)) kept
    (suc (suc (suc (suc (suc k))))) r
asks config n answers {h = h} {m = m} rest =
    step (enters config n answers h m)
    (step (goes config refl)
    (step (goes config refl) (step (goes config refl) (step (goes config refl) rest))))

abbrev start : Settings → ProcessState
start config = after 0 0 (host_of config) (blank around first_memory)

-- behind the first answer
abbrev behind_abc : Settings → ProcessState
behind_abc config = after 6 1 (host_of config) (blank (inside (v 0 ∷ []) testing) memory_read)

-- from its start on, through the first answer
takes_abc : (config : Settings) {kept : List Kept} {k : ℕ} {r : ProcessState}
    → Runs (guest_of config) (behind_abc config) kept k r
    → Runs (guest_of config) (start config) (Given abc ∷ kept)
    (suc (suc (suc (suc (suc (suc k)))))) r
takes_abc config rest =
    asks config 0 0 (take (leads_on (guest_of config) _ (Some abc) _ _ refl
    (question.Request, wants_first config, abc_fits) (reads_first config) refl) rest)

-- from the first answer on to the second question
abbrev so_far : ℕ → ℕ
so_far k = suc (suc (suc (suc (suc (suc (suc (suc k)))))))

rereads : (config : Settings) {kept : List Kept} {k : ℕ} {r : ProcessState}
    → Runs (guest_of config) (at_read 27 1 (wrote config) memory_written) kept k r
    → Runs (guest_of config) (behind_abc config) kept
    (so_far (so_far (suc (suc (suc (suc (suc k))))))) r
rereads config rest =
    step (goes config refl) (step (goes config refl)
    (step (goes config (loads_four config _ _)) (step (goes config refl)
    (step (goes config refl)
    (step (goes config refl) (step (goes config refl)
    (step (goes config (loads_four config _ _)) (step (goes config (stores_four config _))
    (step (goes config refl)
    (step (goes config refl) (step (goes config refl) (step (goes config refl)
    (step (leads_on (guest_of config) _ None _ _ refl tt (writes config) refl)
    (step (goes config refl) (step (turns config 21 1 (wrote config) memory_written)
    (asks config 22 1 rest))))))))))))))))

ends : (config : Settings)
    → Runs (guest_of config) (at_read 27 1 (wrote config) memory_written)
    (Given answer.End ∷ []) 6 (last config last_memory)
ends config =
    take (leads_on (guest_of config) _ (Some answer.End) _ _ refl
    (question.Request, wants_last config, tt) (reads_last config) refl)
    (step (goes config refl) (step (goes config refl) (step (goes config (loads_none config _))
    (step (goes config refl)
    (step (record {
      running = refl;
      wanted = tt;
      leads = (_, on refl (here refl), refl);
    }) none)))))

runs : (config : Settings)
    → Runs (guest_of config) (start config) abc_and_end 33 (last config last_memory)
runs config = takes_abc config (rereads config (ends config))

begins : (config : Settings)
    → IsStart echo config (guest_of config) (start config)
begins config = record {
  entry = 2;
  first = blank around first_memory;
  exported = inl (refl, refl);
  calls = (refl, refl, (refl, refl, tt));
  begins = record {
    is_program = record {
      types = refl;
      functions = (refl, (refl, (refl, refl, echo_spells, tt)));
      least_pages = refl;
      most_pages = refl;
    };
    store = (blank [] first_memory).store;
    is_store = record { globals = tt; table = refl; memory = filled };
    reduces = on refl (here refl);
  };
  is = refl;
}

-- ---- where it asks

-- The processes that ask for the two answers, and the one that has taken the first. The line is
-- emitted in between.
pub record EchoAsks (config : Settings) : Type 0 where
  pub guest : Guest
  pub start : ProcessState
  pub begins : IsStart echo config guest start
  pub asking : ProcessState
  pub to_asking : Runs guest start [] 5 asking
  pub no_line : asking.host.lines ≡ []
  pub asks : next_of guest asking None ≡ Wants question.Request
  pub wants_request : IsWanted guest asking (Some (answer.Request (codes "abc")))
  pub taken : ProcessState
  pub to_taken : Runs guest start (Given (answer.Request (codes "abc")) ∷ []) 6 taken
  pub still_no_line : taken.host.lines ≡ []
  pub asking_again : ProcessState
  pub to_asking_again : Runs guest start (Given (answer.Request (codes "abc")) ∷ []) 27 asking_again
  pub one_line : asking_again.host.lines ≡ record { stream = Stdout; text = codes "abc" } ∷ []
  pub wants_end : IsWanted guest asking_again (Some answer.End)

pub echo_asks : (config : Settings) → EchoAsks config
echo_asks config = record {
  guest = guest_of config;
  start = start config;
  begins = begins config;
  asking = at_read 5 0 (host_of config) first_memory;
  to_asking = asks config 0 0 none;
  no_line = refl;
  asks = wants_first config;
  wants_request = (question.Request, wants_first config, abc_fits);
  taken = behind_abc config;
  to_taken = takes_abc config none;
  still_no_line = refl;
  asking_again = at_read 27 1 (wrote config) memory_written;
  to_asking_again = takes_abc config (rereads config none);
  one_line = refl;
  wants_end = (question.Request, wants_last config, tt);
}

-- ---- widened where it asks

wants_wide : (config : Settings)
    → next_of (guest_of config) (widened (at_read 5 0 (host_of config) first_memory)) None
    ≡ Wants question.Request
unfolding first_memory
wants_wide config = refl

-- what version 1 wants is short
wants_short : (config : Settings) (text : List ℕ) → 4096 < length text
    → IsWanted (guest_of config) (at_read 5 0 (host_of config) first_memory)
    (Some (answer.Request text)) → ⊥
wants_short config text long wanted =
    let first = wants_first config in
    let asked : wanted.0 ≡ question.Request =
    let there = wanted.1 in cc in
    let fits : IsRequestText 4096 text =
    subst (λ (k : Question). Fits 4096 k (answer.Request text)) asked wanted.2 in
    let short = fits.short in
    omega (arith, long, short)

pub echo_wants_more : (config : Settings) → EchoWantsMore config
unfolding echo_asks
echo_wants_more config =
    let asking : ProcessState = at_read 5 0 (host_of config) first_memory in
    let five : Runs (guest_of config) (start config) [] 5 asking = (echo_asks config).to_asking in
    record {
      asking = asking;
      reached = record {
        guest = guest_of config;
        start = start config;
        begins = begins config;
        runs = five;
      };
      too_long = wants_short config;
      wide = record {
        guest = guest_of config;
        start = start config;
        begins = begins config;
        runs = runs_join (guest_of config) (start config) asking (widened asking) []
            (Wider 5 ∷ []) 5 0 five (widen (record { narrow = refl; at = refl }) none);
      };
      wanted = λ text fits. (question.Request, wants_wide config, fits);
    }

pub echo_ends : (config : Settings) → EchoEnds config
echo_ends config =
    let reaches : Reaches echo config abc_and_end 33 (last config last_memory) =
    record {
      guest = guest_of config;
      start = start config;
      begins = begins config;
      runs = runs config;
    } in
    subst (λ memory. ComesTo echo config abc_and_end (last config memory)) all_memory
    (comes echo config abc_and_end (Exited 0) (last config last_memory) echo_is_valid refl
    reaches)
