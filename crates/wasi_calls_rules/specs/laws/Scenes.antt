-- Hosts, memories and short words of the worked examples.
use Rattle.std.specs.Prelude.{ℕ, List, [], ◌∷◌, ◌++◌, length, replicate, codes, Some, None, Err}
use Rattle.wasi_abi.specs.declared.errno.Errno.{Errno}
use Rattle.wasi_abi.specs.declared.answer.Answer.{Answer}
use Rattle.wasi_abi.specs.declared.call.Call.{Call}
use Rattle.wasi_abi.specs.rules.Layouts.{iovec_bytes, padding}
use Rattle.file_tree.specs.rules.Files.{Files, FileNode, Directory, File}
use Rattle.wasi_calls_rules.specs.WasiStates.{Node, Descriptor, WasiState}
use Rattle.wasi_calls_rules.specs.Checks.{Bytes, Refuses, Ruling}
use Rattle.wasi_calls_rules.specs.Small.{with_descriptor}
use Rattle.wasi_calls_rules.specs.CallRules.{call_rule}
use Rattle.wasi_calls_rules.specs.laws.Examples.{bare_host}

-- ---- calls and what they come to

-- a call that has no outside answer
abbrev pub bare_call : Call → List ℕ → Bytes → WasiState → Ruling
bare_call c arguments m h = call_rule c arguments None m h

-- a call that has this outside answer
abbrev pub answered_call : Answer → Call → List ℕ → Bytes → WasiState → Ruling
answered_call a c arguments m h = call_rule c arguments (Some a) m h

abbrev pub refused_by : Errno → Ruling
refused_by e = Err (Refuses e)

-- ---- memory

-- bytes that aren't 0, so that what is put over them shows
abbrev pub old_bytes : ℕ → Bytes
old_bytes n = replicate n 255

-- a number below 256 in four bytes, and in eight
abbrev pub small_u32 : ℕ → Bytes
small_u32 n = n ∷ padding 3

abbrev pub small_u64 : ℕ → Bytes
small_u64 n = n ∷ padding 7

-- an iovec at 0, a cell for the count at 8, and the buffer after it
abbrev pub one_buffer : Bytes → Bytes → Bytes
one_buffer cell bytes = iovec_bytes 12 (length bytes) ++ (cell ++ bytes)

-- ---- hosts

-- the root, node 1
abbrev pub root_node : FileNode
root_node = record { number = 1; path = Some []; content = Directory }

-- the file `a`, node 2, with these bytes
abbrev pub file_a : Bytes → FileNode
file_a bytes = record { number = 2; path = Some (codes "a" ∷ []); content = File bytes }

-- the root and, in it, `a`
abbrev pub tree_of_a : Bytes → Files
tree_of_a bytes = record { nodes = root_node ∷ file_a bytes ∷ []; next = 3 }

-- a descriptor of a node
abbrev pub node_descriptor : ℕ → ℕ → ℕ → ℕ → Descriptor
node_descriptor k base offset flags =
    record { target = Node k; offset = offset; flags = flags; base = base; inheriting = 0 }

-- `a`, which holds these bytes, is open as descriptor 4 with these rights, at this offset
abbrev pub a_open : Bytes → ℕ → ℕ → WasiState
a_open bytes base offset =
    with_descriptor 4 (node_descriptor 2 base offset 0)
    (record bare_host { files = tree_of_a bytes })

-- the root is open as descriptor 4 with these rights
abbrev pub root_open : ℕ → Files → WasiState
root_open base files =
    with_descriptor 4 (node_descriptor 1 base 0 0) (record bare_host { files = files })
