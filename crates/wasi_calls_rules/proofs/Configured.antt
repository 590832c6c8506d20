-- A call that is done keeps what the host was configured with, never lowers the last time, and
-- makes one node at most.
use Rattle.std.proofs.Common.{◌≡◌, ℕ, ◌+◌, ◌≤◌, List, refl, arith}
use Rattle.std.specs.Prelude.{Bool, true, false, if◌then◌else◌, Option, Some, None}
use Rattle.std.specs.List.{list_any}
use Rattle.file_tree.specs.rules.Files.{Files, Path, forgotten}
use Rattle.wasi_abi.specs.declared.call.Call.{Call}
use Rattle.wasi_calls_rules.specs.WasiStates.{Target, Stream, Node, Descriptor, WasiState}
use Rattle.wasi_calls_rules.specs.Checks.{Bytes}
use Rattle.wasi_calls_rules.specs.Lines.{stream_written}
use Rattle.wasi_calls_rules.specs.declared.output_stream.OutputStream.{OutputStream}
use Rattle.wasi_calls_rules.specs.Small.{names, has_path, swept}
use Rattle.wasi_calls_rules.specs.Entries.{cut_if, without, renamed_over}
use Rattle.wasi_calls_rules.specs.laws.Laws.{IsConfiguredAs, CallRulesKeepConfigurations}
use Rattle.wasi_calls_rules.specs.laws.Laws.{CallRulesKeepVersions, CallRulesKeepTimes}
use Rattle.wasi_calls_rules.specs.laws.Laws.{MakesOneNodeAtMost, CallRulesMakeOneNodeAtMost}
use Rattle.wasi_calls_rules.proofs.WasiStateChanges.{Becomes, stays, sees_time, closes}
use Rattle.wasi_calls_rules.proofs.WasiStateChanges.{writes_stream, makes, opens_new, opens, loses}
use Rattle.wasi_calls_rules.proofs.WasiStateChanges.{renames}
use Rattle.wasi_calls_rules.proofs.CallRuleChanges.{changes}
use Rattle.wasi_calls_rules.proofs.KeptLines.{stream_either}

-- ---- what was configured, the version, and the last time

-- as it was configured, in its version, with no lower time
pub record Alike (h after : WasiState) : Type 0 where
  pub configured : IsConfiguredAs h after
  pub version : after.version ≡ h.version
  pub time : h.last_monotonic ≤ after.last_monotonic

alike : (h after : WasiState) → after.room ≡ h.room → after.arguments ≡ h.arguments
    → after.environment ≡ h.environment → after.version ≡ h.version
    → h.last_monotonic ≤ after.last_monotonic → Alike h after
alike h after room arguments environment version time = record {
  configured = record { room = room; arguments = arguments; environment = environment };
  version = version;
  time = time;
}

-- at the same time
same_time : (h after : WasiState) → after.room ≡ h.room → after.arguments ≡ h.arguments
    → after.environment ≡ h.environment → after.version ≡ h.version
    → after.last_monotonic ≡ h.last_monotonic → Alike h after
same_time h after room arguments environment version time =
    alike h after room arguments environment version (omega (arith, time))

renamed_alike : (h : WasiState) (k : ℕ) (j : Option ℕ) (from to : Path)
    → Alike h (renamed_over k j from to h)
renamed_alike h k None from to = same_time h _ refl refl refl refl refl
renamed_alike h k (Some j) from to = same_time h _ refl refl refl refl refl

kept_alike : {c : Call} (m : Bytes) (h after : WasiState) → Becomes c m h after → Alike h after
kept_alike m h _ stays = same_time h h refl refl refl refl refl
kept_alike m h _ (sees_time n small) = alike h _ refl refl refl refl (omega arith)
kept_alike m h _ (writes_stream s bytes by few k) =
    stream_either (Alike h) h s bytes (same_time h _ refl refl refl refl refl)
    (same_time h _ refl refl refl refl refl)
kept_alike m h _ (renames k j from to x) = renamed_alike h k j from to
kept_alike m h _ _ = same_time h _ refl refl refl refl refl

pub call_rules_keep_configurations : CallRulesKeepConfigurations
call_rules_keep_configurations c arguments given m h done e =
    (kept_alike m h done.host (changes c arguments given m h done e)).configured

pub call_rules_keep_versions : CallRulesKeepVersions
call_rules_keep_versions c arguments given m h done e =
    (kept_alike m h done.host (changes c arguments given m h done e)).version

pub call_rules_keep_times : CallRulesKeepTimes
call_rules_keep_times c arguments given m h done e =
    (kept_alike m h done.host (changes c arguments given m h done e)).time

-- ---- numbers of nodes

no_node : (h after : WasiState) → after.files.next ≡ h.files.next → MakesOneNodeAtMost h after
no_node h after e = record { least = omega (arith, e); most = omega (arith, e) }

one_node : (h after : WasiState) → after.files.next ≡ h.files.next + 1 → MakesOneNodeAtMost h after
one_node h after e = record { least = omega (arith, e); most = omega (arith, e) }

pub swept_next : (t : Target) (ds : List (Option Descriptor)) (fs : Files)
    → (swept t ds fs).next ≡ fs.next
swept_next (Stream s) ds fs = refl
swept_next (Node k) ds fs = either (has_path fs k) (list_any (names k) ds) where
  either : (p q : Bool) → (if p then fs else if q then fs else forgotten k fs).next ≡ fs.next
  either true q = refl
  either false true = refl
  either false false = refl

stream_next : (h : WasiState) (s : OutputStream) (bytes : Bytes)
    → (stream_written s bytes h).files.next ≡ h.files.next
stream_next h s bytes =
    stream_either (λ (after : WasiState). after.files.next ≡ h.files.next) h s bytes refl refl

cut_next : (is_cut : Bool) (k : ℕ) (fs : Files) → (cut_if is_cut k fs).next ≡ fs.next
cut_next true k fs = refl
cut_next false k fs = refl

without_next : (k : ℕ) (h : WasiState) → (without k h).files.next ≡ h.files.next
without_next k h = swept_next (Node k) h.descriptors _

renamed_next : (h : WasiState) (k : ℕ) (j : Option ℕ) (from to : Path)
    → (renamed_over k j from to h).files.next ≡ h.files.next
renamed_next h k None from to = refl
renamed_next h k (Some j) from to = without_next j h

nodes_made : {c : Call} (m : Bytes) (h after : WasiState) → Becomes c m h after
    → MakesOneNodeAtMost h after
nodes_made m h _ stays = no_node h h refl
nodes_made m h _ (closes fd d o other) = no_node h _ (swept_next d.target _ h.files)
nodes_made m h _ (writes_stream s bytes by few k) = no_node h _ (stream_next h s bytes)
nodes_made m h _ (makes p x) = one_node h _ refl
nodes_made m h _ (opens_new p n flags base inheriting x free few) = one_node h _ refl
nodes_made m h _ (opens k n flags base inheriting cut x few) =
    no_node h _ (cut_next cut k h.files)
nodes_made m h _ (loses k x) = no_node h _ (without_next k h)
nodes_made m h _ (renames k j from to x) = no_node h _ (renamed_next h k j from to)
nodes_made m h _ _ = no_node h _ refl

pub call_rules_make_one_node_at_most : CallRulesMakeOneNodeAtMost
call_rules_make_one_node_at_most c arguments given m h done e =
    nodes_made m h done.host (changes c arguments given m h done e)
