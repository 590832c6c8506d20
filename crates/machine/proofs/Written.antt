-- A machine shows the bytes that are written, and waits as before.
use Rattle.std.proofs.Common.{◌≡◌, ℕ, List, length, refl, ap, ◌∙◌, arith}
use Rattle.std.specs.List.{AllByRecursion}
use Rattle.guest_memory.specs.rules.Bytes.{IsByte}
use Rattle.wasi_abi.specs.rules.Calls.{call_type_of}
use Rattle.wasm_rules.specs.Configuration.{Program}
use Rattle.wasm_rules.specs.Typed.{IsTypedMemory}
use Rattle.machine.specs.laws.Laws.{with_memory_bytes, ShowsWhatIsWritten, WaitsForTheCall}
use Rattle.machine.proofs.AskingAgain.{asks_again}
use Rattle.machine.proofs.Reduced.{another_store}

as_many_bytes : {program : Program} {old : List ℕ} (new : List ℕ) → length new ≡ length old
    → AllByRecursion IsByte new → IsTypedMemory program old → IsTypedMemory program new
as_many_bytes new e bytes h = record {
  pages = h.pages;
  whole = e ∙ h.whole;
  least = h.least;
  within = h.within;
  bytes = bytes;
}

pub shows_what_is_written : ShowsWhatIsWritten
shows_what_is_written v memory program d count bytes limit h =
    let s = h.shows in
    record {
      functions = h.functions;
      is = h.is;
      holds = record {
        limit = limit ∙ h.holds.limit;
        least = (let least = h.holds.least in omega (arith, count, least));
      };
      shows = record {
        typed = record {
          store = record {
            memory = as_many_bytes memory.bytes (count ∙ ap length s.memory) bytes
                s.typed.store.memory;
            globals = s.typed.store.globals;
            table = s.typed.store.table;
          };
          thread = s.typed.thread;
          later = s.typed.later;
        };
        reduced = another_store program d.thread d.later d.store
            (record d.store { memory = memory.bytes }) s.reduced;
        memory = refl;
        globals = s.globals;
        same_table = s.same_table;
        later = s.later;
        frames = s.frames;
        few_frames = s.few_frames;
        few_values = s.few_values;
      };
    }

pub waits_for_the_call : WaitsForTheCall
waits_for_the_call v memory program d call numbers results count bytes limit shows asks gives =
    record {
      program = program;
      configuration = with_memory_bytes d memory.bytes;
      shows = shows_what_is_written v memory program d count bytes limit shows;
      function = asks.function;
      arguments = asks.operands;
      waits = asks.waits;
      signature = call_type_of call;
      asks = asks_again asks.function asks.operands asks.waits program d memory.bytes asks.asks;
      is_imported = asks.is_imported;
      gives = gives;
    }
