-- A small tree of nodes, and calls with paths, for the worked examples.
use Rattle.std.specs.Prelude.{ℕ, zero, suc, ◌+◌, List, [], ◌∷◌, ◌++◌, length, codes, Some, None}
use Rattle.wasi_abi.specs.declared.call.Call.{Call}
use Rattle.wasi_abi.specs.declared.call.Call.TheVariants as call
use Rattle.wasi_abi.specs.rules.Numbers.{directory_rights}
use Rattle.file_tree.specs.rules.Files.{Path, Content, Directory, File, FileNode, Files}
use Rattle.wasi_calls_rules.specs.WasiStates.{WasiState}
use Rattle.wasi_calls_rules.specs.Checks.{Bytes, Ruling}
use Rattle.wasi_calls_rules.specs.Small.{with_descriptor}
use Rattle.wasi_calls_rules.specs.laws.Examples.{bare_host}
use Rattle.wasi_calls_rules.specs.laws.Scenes.{bare_call, old_bytes, root_node, file_a}
use Rattle.wasi_calls_rules.specs.laws.Scenes.{node_descriptor, root_open}

-- ---- nodes

-- a node at a path
abbrev pub placed_node : ℕ → Path → Content → FileNode
placed_node k p content = record { number = k; path = Some p; content = content }

-- a node that was removed
abbrev pub lost_node : ℕ → Content → FileNode
lost_node k content = record { number = k; path = None; content = content }

abbrev pub directory_d : FileNode
directory_d = placed_node 3 (codes "d" ∷ []) Directory

abbrev pub file_d_b : FileNode
file_d_b = placed_node 4 (codes "d" ∷ codes "b" ∷ []) (File (codes "v"))

abbrev pub directory_d_e : FileNode
directory_d_e = placed_node 5 (codes "d" ∷ codes "e" ∷ []) Directory

abbrev pub directory_f : FileNode
directory_f = placed_node 6 (codes "f" ∷ []) Directory

-- files that are these nodes, of which 7 is the next number
abbrev pub before_seven : List FileNode → Files
before_seven nodes = record { nodes = nodes; next = 7 }

-- the file `a`, and the directories `d`, with a file `b` and an empty directory `e`, and `f`,
-- which is empty
abbrev pub grove : Files
grove =
    before_seven (root_node ∷ file_a (codes "xyz") ∷ directory_d ∷ file_d_b ∷ directory_d_e
    ∷ directory_f ∷ [])

-- so many removed directories, numbered from here on
abbrev pub lost_nodes : ℕ → ℕ → List FileNode
lost_nodes zero k = []
lost_nodes (suc n) k = lost_node k Directory ∷ lost_nodes n (k + 1)

-- ---- hosts

-- the root of the tree is open as descriptor 4 with these rights
abbrev pub in_grove : ℕ → WasiState
in_grove base = root_open base grove

-- the same with these nodes
abbrev pub in_other : ℕ → List FileNode → WasiState
in_other base nodes = root_open base (before_seven nodes)

-- another node is open as descriptor 5 with the rights of a directory
abbrev pub and_open : ℕ → WasiState → WasiState
and_open k h = with_descriptor 5 (node_descriptor k directory_rights 0 0) h

-- descriptor 4 names node 7, a directory that was removed
abbrev pub in_removed : ℕ → WasiState
in_removed base = with_descriptor 4 (node_descriptor 7 base 0 0) (record bare_host {
  files = record {
    nodes = root_node ∷ lost_node 7 Directory ∷ [];
    next = 8;
  };
})

-- descriptor 4 is a file that is open with no rights
abbrev pub no_directory_open : WasiState
no_directory_open = with_descriptor 4 (node_descriptor 2 0 0 0) (in_grove 0)

-- ---- calls

-- a call with a path, at the front of memory, from descriptor 4
abbrev pub with_path : Call → Bytes → WasiState → Ruling
with_path c path h = bare_call c (4 ∷ 0 ∷ length path ∷ []) path h

-- the status of the node at a path, put after it
abbrev pub status_at : Bytes → WasiState → Ruling
status_at path h =
    bare_call call.PathFilestatGet (4 ∷ 1 ∷ 0 ∷ length path ∷ length path ∷ [])
    (path ++ old_bytes 64) h

-- a rename of one path to another, both from descriptor 4
abbrev pub renames : Bytes → Bytes → WasiState → Ruling
renames old new h =
    bare_call call.PathRename (4 ∷ 0 ∷ length old ∷ 4 ∷ length old ∷ length new ∷ []) (old ++ new)
    h

-- a call of `path_open` from descriptor 3, with open flags, rights to inherit and to have, and
-- flags; the cell is after the path
abbrev pub opens_from_root : Bytes → ℕ → ℕ → ℕ → ℕ → WasiState → Ruling
opens_from_root path oflags base inheriting fdflags h =
    bare_call call.PathOpen (3 ∷ 1 ∷ 0 ∷ length path ∷ oflags ∷ base ∷ inheriting ∷ fdflags
    ∷ length path ∷ []) (path ++ old_bytes 4) h
