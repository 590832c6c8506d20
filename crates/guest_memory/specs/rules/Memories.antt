-- Linear memories as values (Core Specification 1.0, section 4.2.8).
use Rattle.std.specs.Prelude.{◌≡◌, ℕ, ◌*◌, ◌/◌, ◌%◌, ◌≤◌, ◌++◌, List, length, take, replicate}
use Rattle.guest_memory.specs.rules.Bytes.{page_size, with_part}

-- the bytes of a memory, and how many pages it may have
pub record LinearMemory : Type 0 where
  pub bytes : List ℕ
  pub limit : ℕ

-- how many pages there are
abbrev pub pages_in : LinearMemory → ℕ
pages_in m = length m.bytes / page_size

-- so many pages of zero bytes
abbrev pub zeroed : ℕ → ℕ → LinearMemory
zeroed pages limit = record { bytes = replicate (pages * page_size) 0; limit = limit }

-- the memory with so many pages of zero bytes after it
abbrev pub grown_by : ℕ → LinearMemory → LinearMemory
grown_by pages m = record m { bytes = m.bytes ++ replicate (pages * page_size) 0 }

-- the memory with these bytes from a place on
abbrev pub with_bytes : ℕ → List ℕ → LinearMemory → LinearMemory
with_bytes from bytes m = record m { bytes = with_part m.bytes from bytes }

-- the same with as many of these bytes as there is room for, so that it stays as long as it was
abbrev pub with_lent : ℕ → List ℕ → LinearMemory → LinearMemory
with_lent from bytes m = record m { bytes = take (length m.bytes) (with_part m.bytes from bytes) }

-- whole pages, within the limit, which is at most 65,536 pages
pub record IsWithinLimit (m : LinearMemory) : Type 0 where
  pub whole : length m.bytes % page_size ≡ 0
  pub within : length m.bytes ≤ m.limit * page_size
  pub limited : m.limit ≤ 65536
