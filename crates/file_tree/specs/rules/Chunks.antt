-- How many chunks files take.
use Rattle.std.specs.Prelude.{ℕ, ◌+◌, ◌-◌, ◌*◌, ◌/◌, List, length, take, drop, sum_by}
use Rattle.file_tree.specs.rules.Files.{FileNode, Files, bytes_of_content}
use Rattle.file_tree.specs.declared.limits.TheConstants.{CHUNK_BYTES}

-- the chunks of a file of so many bytes: these are divided by the bytes of a chunk, and rounded up
abbrev pub chunks_for : ℕ → ℕ
chunks_for size = (size + (CHUNK_BYTES - 1)) / CHUNK_BYTES

-- how many chunks all files have, removed ones that are open included
abbrev pub chunks_of : Files → ℕ
chunks_of fs = sum_by (λ (n : FileNode). chunks_for (length (bytes_of_content n.content))) fs.nodes

-- the bytes of a file in its chunk at a place, from 0 on. The last one may have fewer
abbrev pub chunk_of : List ℕ → ℕ → List ℕ
chunk_of bytes index = take CHUNK_BYTES (drop (index * CHUNK_BYTES) bytes)
