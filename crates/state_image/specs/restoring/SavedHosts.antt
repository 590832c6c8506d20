-- Hosts that are made again of what an image tells (this project's own).
use Rattle.std.specs.Prelude.{◌≡◌, ℕ, ◌<◌, ◌^◌, List, [], ◌++◌}
use Rattle.wasi_abi.specs.rules.Configs.{Settings}
use Rattle.file_tree.specs.rules.Files.{IsFiles}
use Rattle.wasi_calls_rules.specs.WasiStates.{WasiState, IsWasiState}
use Rattle.wasi_calls.specs.rules.Held.{HeldWasiState}
use Rattle.wasi_calls.specs.declared.host.restoring.WasiStateParts.{WasiStateParts}
use Rattle.wasi_calls.specs.declared.host.restoring.PartsFault.{PartsFault}
use Rattle.wasi_calls.specs.declared.host.restoring.PartsFault.TheVariants as parts
use Rattle.state_image.specs.declared.reading.progress.ReadStreams.{ReadStreams}
use Rattle.state_image.specs.declared.restoring.host.HostTexts.{HostTexts}
use Rattle.state_image.specs.declared.restoring.progress.ProcessProgress.{ProcessProgress}
use Rattle.state_image.specs.declared.restoring.fault.RestoreFault.{RestoreFault}
use Rattle.state_image.specs.declared.restoring.fault.RestoreFault.TheVariants as fault
use Rattle.state_image.specs.rules.ProcessImage.{files_bytes, items_bytes, descriptor_bytes}
use Rattle.state_image.specs.rules.ProcessImage.{open_from}
use Rattle.state_image.specs.rules.WellTyped.{IsConfigured}
use Rattle.state_image.specs.restoring.Descriptors.{AreRestorable}

-- the bytes that an image has of a host last: its files and its open descriptors
abbrev pub host_bytes : WasiState → List ℕ
host_bytes h =
    files_bytes h.files ++ items_bytes (descriptor_bytes h.files) (open_from 0 h.descriptors)

-- what an image tells of this host before these bytes, under this configuration
pub record IsSavedHost (config : Settings) (told : ProcessProgress) (h : WasiState) : Type 0 where
  pub version : h.version ≡ told.version
  pub configured : IsConfigured config h
  pub unread : h.unread ≡ told.streams.unread.now
  pub input_ended : h.input_ended ≡ told.end.input_ended
  pub last_monotonic : h.last_monotonic ≡ told.counts.last_monotonic
  pub first : h.first ≡ told.streams.first.now
  pub second : h.second ≡ told.streams.second.now

-- This host is held, and its bytes were read. No line waits, and all of them were released.
pub record IsRestoredWasiState (config : Settings) (before : ProcessProgress) (held : HeldWasiState)
    (old new : List ℕ) : Type 0 where
  pub host : IsWasiState held.host
  pub told : IsSavedHost config before held.host
  pub next : held.host.files.next < 2 ^ 64
  pub waiting : held.host.lines ≡ []
  pub released : held.released ≡ before.counts.lines
  pub is : old ≡ host_bytes held.host ++ new

-- What was read of the parts of a host: its files and its descriptors stood in these bytes.
pub record AreReadParts (before : ProcessProgress) (p : WasiStateParts) (old new : List ℕ)
    : Type 0 where
  pub files : IsFiles p.tree
  pub next : p.tree.next < 2 ^ 64
  pub descriptors : AreRestorable p.descriptors.items
  pub is : old ≡ (files_bytes p.tree
      ++ items_bytes (descriptor_bytes p.tree) (open_from 0 p.descriptors.items)) ++ new
  pub unread : p.unread.items ≡ before.streams.unread.now
  pub input_ended : p.input_ended ≡ before.end.input_ended
  pub last_monotonic : p.last_monotonic ≡ before.counts.last_monotonic
  pub first : p.first.items ≡ before.streams.first.now
  pub second : p.second.items ≡ before.streams.second.now
  pub released : p.released ≡ before.counts.lines

-- They are the texts of which was told.
pub record AreTexts (told : ReadStreams) (texts : HostTexts) : Type 0 where
  pub unread : texts.unread.items ≡ told.unread.now
  pub first : texts.first.items ≡ told.first.now
  pub second : texts.second.items ≡ told.second.now

-- what a fault of a host's parts is of an image
abbrev pub fault_of_parts : PartsFault → RestoreFault
fault_of_parts parts.NoWasiState = fault.NotAnImage
fault_of_parts parts.Memory = fault.Memory
