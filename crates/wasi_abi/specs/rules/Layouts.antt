-- Layouts of WASI preview 1 as lists of bytes (`fdstat`, `filestat`, `dirent`, `prestat` and
-- `iovec` of its witx files). Bytes between the fields are 0.
use Rattle.std.specs.Prelude.{ℕ, ◌<◌, ◌^◌, List, ◌∷◌, ◌++◌, replicate, length, slice_index}
use Rattle.guest_memory.specs.rules.Bytes.{bytes_of, number_of, part}
use Rattle.wasi_abi.specs.declared.layout.Fdstat.{Fdstat}
use Rattle.wasi_abi.specs.declared.layout.Filestat.{Filestat}
use Rattle.wasi_abi.specs.declared.layout.Dirent.{Dirent}
use Rattle.wasi_abi.specs.declared.layout.Prestat.{Prestat}
use Rattle.wasi_abi.specs.declared.layout.Iovec.{Iovec}
use Rattle.wasi_abi.specs.rules.Numbers.{rights_number}

-- a number of 16 bits, the lowest byte first
abbrev pub u16_bytes : ℕ → List ℕ
u16_bytes n = bytes_of 2 n

-- a number of 32 bits, the lowest byte first
abbrev pub u32_bytes : ℕ → List ℕ
u32_bytes n = bytes_of 4 n

-- a number of 64 bits, the lowest byte first
abbrev pub u64_bytes : ℕ → List ℕ
u64_bytes n = bytes_of 8 n

-- so many zeros
abbrev pub padding : ℕ → List ℕ
padding n = replicate n 0

-- 24 bytes: file type, descriptor flags at 2, rights at 8, inheriting rights at 16
abbrev pub fdstat_bytes : ℕ → ℕ → ℕ → ℕ → List ℕ
fdstat_bytes file_type flags base inheriting =
    file_type ∷ (padding 1
    ++ (u16_bytes flags ++ (padding 4 ++ (u64_bytes base ++ u64_bytes inheriting))))

-- 64 bytes: device at 0, node at 8, file type at 16, links at 24, size at 32, three times
abbrev pub filestat_bytes : ℕ → ℕ → ℕ → ℕ → List ℕ
filestat_bytes node file_type links size =
    padding 8 ++ (u64_bytes node
    ++ (file_type ∷ (padding 7 ++ (u64_bytes links ++ (u64_bytes size ++ padding 24)))))

-- 24 bytes before a name: next cookie at 0, node at 8, length of the name at 16, file type at 20
abbrev pub dirent_head_bytes : ℕ → ℕ → ℕ → ℕ → List ℕ
dirent_head_bytes next node name_length file_type =
    u64_bytes next ++ (u64_bytes node ++ (u32_bytes name_length ++ (file_type ∷ padding 3)))

-- an entry of a directory, and its name
abbrev pub dirent_bytes : ℕ → ℕ → ℕ → List ℕ → List ℕ
dirent_bytes next node file_type name = dirent_head_bytes next node (length name) file_type ++ name

-- 8 bytes: tag 0, length of the name at 4
abbrev pub prestat_bytes : ℕ → List ℕ
prestat_bytes name_length = padding 4 ++ u32_bytes name_length

-- 8 bytes: where a buffer begins, and its length at 4
abbrev pub iovec_bytes : ℕ → ℕ → List ℕ
iovec_bytes from len = u32_bytes from ++ u32_bytes len

-- ---- the layouts of values, and those that have room in them

-- an `fdstat` as bytes
abbrev pub fdstat_layout : Fdstat → List ℕ
fdstat_layout s =
    fdstat_bytes s.file_type s.flags (rights_number s.base) (rights_number s.inheriting)

-- its fields have room
pub record FdstatFits (s : Fdstat) : Type 0 where
  pub flags : s.flags < 2 ^ 16
  pub base : rights_number s.base < 2 ^ 64
  pub inheriting : rights_number s.inheriting < 2 ^ 64

-- a `filestat` as bytes
abbrev pub filestat_layout : Filestat → List ℕ
filestat_layout s = filestat_bytes s.node s.file_type s.links s.size

-- its fields have room
pub record FilestatFits (s : Filestat) : Type 0 where
  pub node : s.node < 2 ^ 64
  pub links : s.links < 2 ^ 64
  pub size : s.size < 2 ^ 64

-- a `dirent` as bytes
abbrev pub dirent_layout : Dirent → List ℕ
dirent_layout s = dirent_head_bytes s.next s.node s.name_length s.file_type

-- its fields have room
pub record DirentFits (s : Dirent) : Type 0 where
  pub next : s.next < 2 ^ 64
  pub node : s.node < 2 ^ 64
  pub name_length : s.name_length < 2 ^ 32

-- a `prestat` as bytes
abbrev pub prestat_layout : Prestat → List ℕ
prestat_layout s = prestat_bytes s.name_length

-- its field has room
pub record PrestatFits (s : Prestat) : Type 0 where
  pub name_length : s.name_length < 2 ^ 32

-- an `iovec` as bytes
abbrev pub iovec_layout : Iovec → List ℕ
iovec_layout s = iovec_bytes s.from s.length

-- its fields have room
pub record IovecFits (s : Iovec) : Type 0 where
  pub from : s.from < 2 ^ 32
  pub len : s.length < 2 ^ 32

-- ---- the fields that bytes hold, at these places

-- the number of 16 bits at this place
abbrev pub u16_at : List ℕ → ℕ → ℕ
u16_at bytes from = number_of (part bytes from 2)

-- the number of 32 bits at this place
abbrev pub u32_at : List ℕ → ℕ → ℕ
u32_at bytes from = number_of (part bytes from 4)

-- the number of 64 bits at this place
abbrev pub u64_at : List ℕ → ℕ → ℕ
u64_at bytes from = number_of (part bytes from 8)

-- the `fdstat` that these bytes are
abbrev pub fdstat_of : List ℕ → Fdstat
fdstat_of bytes = record {
  file_type = slice_index bytes 0;
  flags = u16_at bytes 2;
  base = record { 0 = u64_at bytes 8 };
  inheriting = record { 0 = u64_at bytes 16 };
}

-- the `filestat` that these bytes are
abbrev pub filestat_of : List ℕ → Filestat
filestat_of bytes = record {
  node = u64_at bytes 8;
  file_type = slice_index bytes 16;
  links = u64_at bytes 24;
  size = u64_at bytes 32;
}

-- the `dirent` that these bytes are
abbrev pub dirent_of : List ℕ → Dirent
dirent_of bytes = record {
  next = u64_at bytes 0;
  node = u64_at bytes 8;
  name_length = u32_at bytes 16;
  file_type = slice_index bytes 20;
}

-- the `prestat` that these bytes are
abbrev pub prestat_of : List ℕ → Prestat
prestat_of bytes = record { name_length = u32_at bytes 4 }

-- the `iovec` that these bytes are
abbrev pub iovec_of : List ℕ → Iovec
iovec_of bytes = record { from = u32_at bytes 0; length = u32_at bytes 4 }
