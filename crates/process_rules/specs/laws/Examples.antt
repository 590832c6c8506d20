-- Worked examples: what whole modules come to, under any configuration.
use Rattle.std.specs.Prelude.{◌≡◌, ℕ, ◌≤◌, List, [], ◌∷◌, ◌++◌, replicate, true, Some, codes}
use Rattle.wasm_syntax.specs.declared.value.Trap.TheVariants as trap
use Rattle.wasm_syntax.specs.declared.instruction.Instruction.TheVariants as instr
use Rattle.wasm_syntax.specs.declared.module.Module.{Module}
use Rattle.wasm_syntax.specs.laws.Examples.{hello, echo, idle, idle_with_code}
use Rattle.wasm_rules.specs.Configuration.{Configuration}
use Rattle.guest_memory.specs.rules.Bytes.{number_of, part, page_size}
use Rattle.wasi_abi.specs.declared.answer.Answer.TheVariants as answer
use Rattle.wasi_abi.specs.rules.Configs.{Settings}
use Rattle.wasi_calls_rules.specs.declared.output_stream.OutputStream.TheVariants.{Stdout}
use Rattle.process_rules.specs.Processes.{ProcessState, Exited, Trapped, host_of}
use Rattle.process_rules.specs.Runs.{Kept, Given, Reaches}

-- On these answers, all of them, the module reaches this process in the counted steps that it
-- counts. In as many it reaches no other, and in more it reaches none.
pub record ComesTo (m : Module) (config : Settings) (kept : List Kept) (p : ProcessState) :
    Type 0 where
  pub reached : Reaches m config kept p.steps p
  pub no_other : (other : ProcessState) → Reaches m config kept p.steps other → other ≡ p
  pub no_more : (k : ℕ) (other : ProcessState) → Reaches m config kept k other → k ≤ p.steps

-- nothing is left to execute; beside this memory there are no globals and no table
abbrev pub at_rest : List ℕ → Configuration
at_rest memory = record {
  store = record { memory = memory; globals = []; table = [] };
  thread = [];
  later = [];
}

-- ---- a line and an exit

-- The memory of `hello` at its end. It has where its text is and how long, the text and its
-- newline, and zeros up to the bytes 16 to 19. Into these the call has put the number 3. Zeros
-- are from there to the end of the page.
abbrev pub hello_memory : List ℕ
hello_memory = (8 ∷ 0 ∷ 0 ∷ 0 ∷ 3 ∷ 0 ∷ 0 ∷ 0 ∷ []) ++ (codes "hi" ++ 10 ∷ []) ++ replicate 5 0
    ++ (3 ∷ 0 ∷ 0 ∷ 0 ∷ []) ++ replicate 65516 0

-- Four constants, `fd_write`, a drop, a constant and `proc_exit` are eight steps. The exit code is
-- 7, and the line `hi` has been emitted on stdout; nothing else of the host has changed.
abbrev pub hello_end : Settings → ProcessState
hello_end config = record {
  configuration = at_rest hello_memory;
  host = record (host_of config) { lines = record { stream = Stdout; text = codes "hi" } ∷ [] };
  steps = 8;
  answers = 0;
  requests = 0;
  ended = Some (Exited 7);
}

-- Without an answer `hello` comes to this end. (The grammar's examples say which bytes spell
-- `hello`.) The number in the four bytes from 16 on counts the bytes that were written, the newline
-- included.
pub record HelloEnds (config : Settings) : Type 0 where
  pub comes : ComesTo hello config [] (hello_end config)
  pub written : number_of (part hello_memory 16 4) ≡ 3

-- ---- a loop that writes what it reads

-- a request with the text `abc`, and then the end of input
abbrev pub abc_and_end : List Kept
abc_and_end = Given (answer.Request (codes "abc")) ∷ Given answer.End ∷ []

-- The memory of `echo` at its end. It has the buffer that it reads into, 4,096 bytes from 64 on,
-- and the one that it writes from, of which four were there. Then come the count of the last read,
-- 0, and of the last write, 4. From 64 on are the text and its newline.
abbrev pub echo_memory : List ℕ
echo_memory =
    (64 ∷ 0 ∷ 0 ∷ 0 ∷ 0 ∷ 16 ∷ 0 ∷ 0 ∷ []) ++ (64 ∷ 0 ∷ 0 ∷ 0 ∷ 4 ∷ 0 ∷ 0 ∷ 0 ∷ [])
    ++ (0 ∷ 0 ∷ 0 ∷ 0 ∷ []) ++ (4 ∷ 0 ∷ 0 ∷ 0 ∷ [])
    ++ replicate 40 0 ++ (codes "abc" ++ 10 ∷ []) ++ replicate 65468 0

-- A round of the loop is 22 steps, and the one that reads nothing leaves it in its eleventh. Two
-- answers were taken, the end of input among the requests, and `abc` has been emitted.
abbrev pub echo_end : Settings → ProcessState
echo_end config = record {
  configuration = at_rest echo_memory;
  host = record (host_of config) {
    lines = record { stream = Stdout; text = codes "abc" } ∷ [];
    input_ended = true;
  };
  steps = 33;
  answers = 2;
  requests = 2;
  ended = Some (Exited 0);
}

abbrev pub EchoEnds : Settings → Type 0
EchoEnds config = ComesTo echo config abc_and_end (echo_end config)

-- ---- the two smallest

abbrev pub page_of_zeros : List ℕ
page_of_zeros = replicate page_size 0

-- a `_start` that does nothing: its end is no counted step
abbrev pub idle_end : Settings → ProcessState
idle_end config = record {
  configuration = at_rest page_of_zeros;
  host = host_of config;
  steps = 0;
  answers = 0;
  requests = 0;
  ended = Some (Exited 0);
}

abbrev pub IdleEnds : Settings → Type 0
IdleEnds config = ComesTo idle config [] (idle_end config)

-- a `_start` that is `unreachable`
abbrev pub trapping : Module
trapping = idle_with_code [] (instr.Unreachable ∷ instr.End ∷ [])

abbrev pub trapping_end : Settings → ProcessState
trapping_end config = record {
  configuration = at_rest page_of_zeros;
  host = host_of config;
  steps = 1;
  answers = 0;
  requests = 0;
  ended = Some (Trapped trap.Unreachable);
}

abbrev pub TrappingEnds : Settings → Type 0
TrappingEnds config = ComesTo trapping config [] (trapping_end config)
