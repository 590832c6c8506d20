-- A host that is made of its parts (this project's own).
use Rattle.std.specs.Prelude.{◌≡◌, ◌<◌, ◌≤◌, ◌^◌, true, []}
use Rattle.wasi_abi.specs.declared.version.Version.{Version}
use Rattle.wasi_abi.specs.rules.Configs.{Settings}
use Rattle.wasi_abi.specs.rules.Numbers.{are_within, all_rights}
use Rattle.wasi_calls_rules.specs.WasiStates.{Descriptor}
use Rattle.wasi_calls.specs.declared.host.restoring.WasiStateParts.{WasiStateParts}
use Rattle.wasi_calls.specs.rules.Held.{HeldWasiState, held_host_of}

-- the numbers of a descriptor are within their bounds
pub record IsBoundedDescriptor (d : Descriptor) : Type 0 where
  pub offset : d.offset < 2 ^ 63
  pub flags : d.flags ≤ 31
  pub base : are_within d.base all_rights ≡ true
  pub inheriting : are_within d.inheriting all_rights ≡ true

-- what is held of these parts: no line waits
abbrev pub held_host_from : Settings → Version → WasiStateParts → HeldWasiState
held_host_from config version p =
    held_host_of config version p.tree p.descriptors.items p.unread.items p.input_ended
    p.last_monotonic (record {
      first = p.first.items;
      second = p.second.items;
      waiting = [];
      released = p.released;
    })
