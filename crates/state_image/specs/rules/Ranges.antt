-- Which values the fields of an image have room for (this project's own): numbers of so many bytes,
-- and lists whose length is one.
use Rattle.std.specs.Prelude.{◌≡◌, ℕ, ◌*◌, ◌^◌, ◌<◌, List, length}
use Rattle.std.specs.List.{AllByRecursion}
use Rattle.guest_memory.specs.rules.Bytes.{page_size}
use Rattle.file_tree.specs.rules.Files.{Entry}
use Rattle.machine_slots.specs.rules.Places.{ShownFrame, MachineState}
use Rattle.state_image.specs.rules.ProcessImage.{Saved, ending_code}

-- a number in so many bytes
abbrev pub IsIn : ℕ → ℕ → Type 0
IsIn n x = x < 256 ^ n

-- a list whose length has 32 bits
abbrev pub IsShort : {X : Type 0} → List X → Type 0
IsShort xs = IsIn 4 (length xs)

-- such a list of items in range
pub record AreFew (X : Type 0) (P : X → Type 0) (xs : List X) : Type 0 where
  pub few : IsShort xs
  pub each : AllByRecursion P xs

-- so many words
abbrev pub AreWords : List ℕ → Type 0
AreWords words = AreFew ℕ (IsIn 8) words

-- the counts of a process, and its last monotonic time
pub record FitsCounts (s : Saved) : Type 0 where
  pub steps : IsIn 8 s.steps
  pub answers : IsIn 8 s.answers
  pub requests : IsIn 8 s.requests
  pub lines : IsIn 8 s.lines
  pub last_monotonic : IsIn 8 s.last_monotonic

-- the code of its end
abbrev pub FitsCode : Saved → Type 0
FitsCode s = IsIn 4 (ending_code s.ended)

-- its streams
pub record FitsStreams (s : Saved) : Type 0 where
  pub unread : IsShort s.unread
  pub first : IsShort s.first
  pub second : IsShort s.second

-- a frame
pub record IsPlaceIn (f : ShownFrame) : Type 0 where
  pub function : IsIn 4 f.function
  pub position : IsIn 4 f.position
  pub slots : AreWords f.slots

-- whole pages of memory, as many as 32 bits count
pub record IsWhole (memory : List ℕ) : Type 0 where
  pub pages : ℕ
  pub whole : length memory ≡ pages * page_size
  pub few : IsIn 4 pages

-- globals, frames and memory
pub record HasMachine (m : MachineState) : Type 0 where
  pub globals : AreWords m.globals
  pub frames : AreFew ShownFrame IsPlaceIn m.frames
  pub memory : IsWhole m.memory

-- an entry of a directory
pub record IsEntryIn (e : Entry) : Type 0 where
  pub name : IsIn 2 (length e.name)
  pub number : IsIn 8 e.number
