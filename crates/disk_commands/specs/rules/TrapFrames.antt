-- What a run says of the frames of a worker that has trapped (this project's own). Which frames
-- these are no definition says.
use Rattle.std.specs.Prelude.{◌≡◌, ◌≢◌, ℕ, ◌≤◌, ◌==◌, if◌then◌else◌, List, [], ◌++◌, length, Option}
use Rattle.std.specs.Prelude.{Some, None, codes}
use Rattle.std.specs.List.{AllByRecursion, flat_map}
use Rattle.sector_disk.specs.rules.DiskImage.{DiskImage}
use Rattle.sector_disk.specs.rules.Medium.{Medium}
use Rattle.disk_layout.specs.declared.reading.contents.Contents.{Contents}
use Rattle.disk_layout.specs.rules.Held.{IsHeld}
use Rattle.process_rules.specs.Processes.{Ending, Exited, Trapped}
use Rattle.command_words.specs.rules.FunctionNames.{IsNameIn, name_words}
use Rattle.command_words.specs.rules.Texts.{named_number}

-- a frame: the number of its function, a name of that, and the position of an opcode in its body
pub record ToldFrame : Type 0 where
  pub function : ℕ
  pub name : Option (List ℕ)
  pub position : ℕ

-- the line of a frame
abbrev pub frame_line : ToldFrame → List ℕ
frame_line f =
    named_number (codes "at function ") f.function ++ name_words f.name
    ++ named_number (codes ", opcode ") f.position ++ codes "\n"

-- how many more frames there are, if there are any
abbrev pub more_line : ℕ → List ℕ
more_line more =
    if more == 0 then []
    else if more == 1 then codes "and 1 more frame\n"
    else named_number (codes "and ") more ++ codes " more frames\n"

-- these bytes are the module that a disk holds, under the digest in its super
abbrev pub IsModuleOn : Medium → List ℕ → Type 0
IsModuleOn disk bytes = (c : Contents) × (c.wasm ≡ bytes)
    × ((image : DiskImage) → disk.shows image → IsHeld image c)

-- the name of a frame is that of its function, or there is none where no module is known
abbrev pub IsNamedIn : Option (List ℕ) → ToldFrame → Type 0
IsNamedIn bytes f = IsNameIn bytes f.function f.name

-- The text has the lines of frames, 32 at most. Where there are more, it has the first 32 and says
-- how many more there are. Their names are those of this module, or none has a name.
pub record AreFrameLines (bytes : Option (List ℕ)) (text : List ℕ) : Type 0 where
  pub frames : List ToldFrame
  pub more : ℕ
  pub few : length frames ≤ 32
  pub full : more ≢ 0 → length frames ≡ 32
  pub named : AllByRecursion (IsNamedIn bytes) frames
  pub spelled : text ≡ flat_map frame_line frames ++ more_line more

-- Frames are told of a worker that has trapped, and of no other one.
abbrev pub TellsFrames : Option (List ℕ) → Option Ending → List ℕ → Type 0
TellsFrames bytes (Some (Trapped why)) text = AreFrameLines bytes text
TellsFrames bytes (Some (Exited code)) text = text ≡ []
TellsFrames bytes None text = text ≡ []
