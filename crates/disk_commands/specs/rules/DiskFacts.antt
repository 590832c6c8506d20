-- The facts that `wasmhost inspect` tells of a disk (this project's own).
use Rattle.std.specs.Prelude.{ℕ, ◌+◌, ◌*◌, ◌/◌, ◌%◌, List, [], ◌∷◌, ◌++◌, length, map, reverse}
use Rattle.std.specs.Prelude.{codes, Option, Some, None, if◌then◌else◌}
use Rattle.hex.specs.Hex.{encode_lower}
use Rattle.sha2.specs.Sha256.{sha256}
use Rattle.guest_memory.specs.rules.Bytes.{page_size}
use Rattle.file_tree.specs.declared.limits.TheConstants.{NODES, UNIT_BYTES}
use Rattle.file_tree.specs.rules.Files.{Files, is_directory, used}
use Rattle.wasi_abi.specs.declared.answer.Answer.{Answer}
use Rattle.wasi_abi.specs.declared.answer.Answer.TheVariants as answer
use Rattle.wasi_abi.specs.declared.answer.Question.{Question}
use Rattle.wasi_abi.specs.declared.answer.Question.TheVariants as questions
use Rattle.wasi_abi.specs.declared.version.Version.{Version}
use Rattle.wasi_abi.specs.rules.Configs.{Settings}
use Rattle.wasi_abi.specs.rules.Versions.{version_number}
use Rattle.wasi_calls_rules.specs.WasiStates.{WasiState, Target, Stream, Node, Descriptor}
use Rattle.machine_slots.specs.rules.Places.{ShownFrame, MachineState}
use Rattle.process_rules.specs.Processes.{Ending, Exited, Trapped}
use Rattle.process.specs.rules.Values.{ProcessValue, lines_in}
use Rattle.disk_layout.specs.declared.superblock.TheConstants.{LAYOUT}
use Rattle.disk_layout.specs.rules.Journal.{Record, payload_of}
use Rattle.worker.specs.declared.inspection.Inspection.{Inspection}
use Rattle.command_words.specs.rules.Texts.{trap_text}
use Rattle.disk_commands.specs.rules.Facts.{Number, Word, Text, FactValue, Plain}
use Rattle.disk_commands.specs.rules.Facts.{Tagged, Fields, Fact, Single, Listed}

-- a name and a number
abbrev pub number_fact : List ℕ → ℕ → Fact
number_fact name n = Single name (Plain (Number n))

-- a text
abbrev pub text_value : List ℕ → FactValue
text_value text = Plain (Text text)

-- ---- layout, module and configuration

-- the layout of the disk, the version of its worker, and the module's length and digest
abbrev pub module_facts : Version → List ℕ → List Fact
module_facts version wasm =
    number_fact (codes "layout") LAYOUT ∷ number_fact (codes "version") (version_number version)
    ∷ number_fact (codes "module") (length wasm)
    ∷ Single (codes "digest") (Plain (Word (encode_lower (sha256 wasm)))) ∷ []

-- the numbers and the texts of a configuration
abbrev pub settings_facts : Settings → List Fact
settings_facts s =
    number_fact (codes "pages") s.pages ∷ number_fact (codes "files") s.files
    ∷ number_fact (codes "journal") s.journal
    ∷ Listed (codes "argument") (codes "arguments") (map text_value s.arguments)
    ∷ Listed (codes "environment") (codes "environment") (map text_value s.environment) ∷ []

-- ---- the newest snapshot

-- its generation, the area where it lies, and how many bytes it has
abbrev pub snapshot_facts : ℕ → ℕ → List Fact
snapshot_facts generation bytes =
    number_fact (codes "generation") generation ∷ number_fact (codes "area") (generation % 2)
    ∷ number_fact (codes "image") bytes ∷ []

-- ---- its process

-- how far it has come
abbrev pub progress_facts : ProcessValue → List Fact
progress_facts v =
    number_fact (codes "steps") v.steps ∷ number_fact (codes "answers") v.answers
    ∷ number_fact (codes "requests") v.requests ∷ number_fact (codes "lines") (lines_in v)
    ∷ number_fact (codes "monotonic") v.host.host.last_monotonic ∷ []

-- what it waits for
abbrev pub question_value : Option Question → FactValue
question_value None = Plain (Word (codes "nothing"))
question_value (Some questions.Request) = Plain (Word (codes "request"))
question_value (Some questions.Realtime) = Plain (Word (codes "realtime"))
question_value (Some questions.Monotonic) = Plain (Word (codes "monotonic"))
question_value (Some (questions.Random count)) = Tagged (codes "random", Number count)

-- whether it runs, or how it has ended
abbrev pub state_value : Option Ending → FactValue
state_value None = Plain (Word (codes "running"))
state_value (Some (Exited code)) = Tagged (codes "exited", Number code)
state_value (Some (Trapped why)) = Tagged (codes "trapped", Word (trap_text why))

-- a frame: its function, its position, and how many slots it has
abbrev pub frame_value : ShownFrame → FactValue
frame_value f = Fields ((codes "function", Number f.function)
    ∷ (codes "position", Number f.position) ∷ (codes "slots", Number (length f.slots)) ∷ [])

-- the frames from the outermost one in, and the pages of memory
abbrev pub machine_facts : MachineState → List Fact
machine_facts m =
    Listed (codes "frame") (codes "frames") (map frame_value (reverse m.frames))
    ∷ number_fact (codes "memory") (length m.memory / page_size) ∷ []

-- all of these
abbrev pub process_facts : ProcessValue → Option Question → List Fact
process_facts v question =
    progress_facts v
    ++ (Single (codes "waits") (question_value question)
    ∷ Single (codes "state") (state_value v.ended) ∷ machine_facts v.machine.state)

-- ---- its host

-- how much of something is used, and how much there may be
abbrev pub usage_value : ℕ → ℕ → FactValue
usage_value n limit = Fields ((codes "used", Number n) ∷ (codes "limit", Number limit) ∷ [])

-- the word for what a descriptor names
abbrev pub target_word : Files → Target → List ℕ
target_word fs (Stream s) = codes "stream"
target_word fs (Node k) = if is_directory fs k then codes "directory" else codes "file"

-- the number of the stream or the node that it names
abbrev pub target_number : Target → ℕ
target_number (Stream s) = s
target_number (Node k) = k

-- an open descriptor: its number, what it names, the number of that, and its offset
abbrev pub descriptor_value : Files → ℕ → Descriptor → FactValue
descriptor_value fs n d = Fields ((codes "number", Number n)
    ∷ (codes "kind", Word (target_word fs d.target))
    ∷ (codes "target", Number (target_number d.target)) ∷ (codes "offset", Number d.offset) ∷ [])

-- what is open under a number, if anything is
abbrev pub opened_values : Files → ℕ → Option Descriptor → List FactValue
opened_values fs n None = []
opened_values fs n (Some d) = descriptor_value fs n d ∷ []

-- all that are open, by rising numbers from this one on
abbrev pub descriptor_values : Files → ℕ → List (Option Descriptor) → List FactValue
descriptor_values fs n [] = []
descriptor_values fs n (d ∷ ds) = opened_values fs n d ++ descriptor_values fs (n + 1) ds

-- how many nodes and bytes its files have, and may have, and what is open
abbrev pub host_facts : ℕ → WasiState → List Fact
host_facts room h =
    Single (codes "nodes") (usage_value (length h.files.nodes) NODES)
    ∷ Single (codes "bytes") (usage_value (used h.files) room)
    ∷ Listed (codes "descriptor") (codes "descriptors") (descriptor_values h.files 0 h.descriptors)
    ∷ []

-- ---- its journal

-- the word for what was answered
abbrev pub kind_word : Answer → List ℕ
kind_word (answer.Request text) = codes "request"
kind_word answer.End = codes "end"
kind_word (answer.Realtime n) = codes "realtime"
kind_word (answer.Monotonic n) = codes "monotonic"
kind_word (answer.Random bytes) = codes "random"

-- a record: what was answered, its step, and the length of its payload
abbrev pub record_value : Record → FactValue
record_value r = Fields ((codes "kind", Word (kind_word r.answer)) ∷ (codes "step", Number r.step)
    ∷ (codes "length", Number (length (payload_of r.answer))) ∷ [])

-- all records, and how many sectors are left
abbrev pub journal_facts : List Record → ℕ → List Fact
journal_facts records sectors_left =
    Listed (codes "record") (codes "records") (map record_value records)
    ∷ number_fact (codes "left") sectors_left ∷ []

-- ---- all that is told of a disk

-- in the order in which it is printed
abbrev pub disk_facts : Inspection → List Fact
disk_facts told =
    module_facts told.process.host.host.version told.contents.wasm
    ++ settings_facts told.contents.config
    ++ snapshot_facts told.generation told.process_image_bytes
    ++ process_facts told.process told.question
    ++ host_facts (told.contents.config.files * UNIT_BYTES) told.process.host.host
    ++ journal_facts told.records.items told.journal_left
