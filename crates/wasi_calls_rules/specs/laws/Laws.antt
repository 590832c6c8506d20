-- Laws of the calls' rules: what a call that is done keeps, and which answers they take.
use Rattle.std.specs.Prelude.{◌≡◌, ◌≢◌, ◌↔◌, ℕ, ◌+◌, ◌≤◌, List, [], ◌∷◌, ◌++◌, length}
use Rattle.std.specs.Prelude.{IsTrue, Option, Some, None, Ok, Err}
use Rattle.std.specs.List.{AllByRecursion}
use Rattle.wasi_abi.specs.declared.answer.Question.{Question}
use Rattle.wasi_abi.specs.declared.answer.Answer.{Answer}
use Rattle.wasi_abi.specs.declared.call.Call.{Call}
use Rattle.wasi_abi.specs.declared.version.Version.{Version}
use Rattle.wasi_abi.specs.declared.call.Call.TheVariants as call
use Rattle.guest_memory.specs.rules.Bytes.{with_part}
use Rattle.wasi_abi.specs.rules.Answers.{Fits, AreBytes}
use Rattle.wasi_abi.specs.rules.Layouts.{u64_bytes}
use Rattle.wasi_abi.specs.rules.Versions.{text_limit}
use Rattle.file_tree.specs.rules.Files.{Path, Content, Directory, File, FileNode}
use Rattle.wasi_calls_rules.specs.WasiStates.{Line, WasiState, first_host, IsWasiState}
use Rattle.wasi_calls_rules.specs.Checks.{Bytes, Done, Asks, Ends, does_fit}
use Rattle.wasi_calls_rules.specs.CallRules.{call_rule}

-- the memory of a call that is done is as long as it was
abbrev pub CallRulesKeepMemory : Type 0
CallRulesKeepMemory =
    (c : Call) (arguments : List ℕ) (given : Option Answer) (m : Bytes)
    (h : WasiState) (done : Done) → call_rule c arguments given m h ≡ Ok done
    → length done.memory ≡ length m

-- ---- lines

-- the lines of the first host, and then others, are those of the second
pub record Emits (before after : WasiState) : Type 0 where
  pub lines : List Line
  pub are : after.lines ≡ before.lines ++ lines

-- a call that is done emits lines after those that were there
abbrev pub CallRulesEmit : Type 0
CallRulesEmit = (c : Call) (arguments : List ℕ) (given : Option Answer) (m : Bytes) (h : WasiState)
    (done : Done) → call_rule c arguments given m h ≡ Ok done → Emits h done.host

-- ---- bytes

-- the names of a path, where there is one
abbrev pub IsPathOfBytes : Option Path → Type 0
IsPathOfBytes None = Unit {0}
IsPathOfBytes (Some path) = AllByRecursion AreBytes path

abbrev pub IsContentOfBytes : Content → Type 0
IsContentOfBytes Directory = Unit {0}
IsContentOfBytes (File bytes) = AreBytes bytes

pub record IsNodeOfBytes (n : FileNode) : Type 0 where
  pub path : IsPathOfBytes n.path
  pub content : IsContentOfBytes n.content

-- whatever a call can copy from the host into memory is bytes
pub record IsOfBytes (h : WasiState) : Type 0 where
  pub files : AllByRecursion IsNodeOfBytes h.files.nodes
  pub unread : AreBytes h.unread
  pub arguments : AllByRecursion AreBytes h.arguments
  pub environment : AllByRecursion AreBytes h.environment

-- where memory and the host hold bytes, memory holds bytes after a call that is done
abbrev pub CallRulesKeepBytes : Type 0
CallRulesKeepBytes = (c : Call) (arguments : List ℕ) (given : Option Answer) (m : Bytes)
    (h : WasiState) (done : Done) → AreBytes m → IsOfBytes h
    → call_rule c arguments given m h ≡ Ok done → AreBytes done.memory

-- ---- hosts

-- configured as before: the same room, arguments and environment
pub record IsConfiguredAs (before after : WasiState) : Type 0 where
  pub room : after.room ≡ before.room
  pub arguments : after.arguments ≡ before.arguments
  pub environment : after.environment ≡ before.environment

-- a call that is done leaves what the host was configured with
abbrev pub CallRulesKeepConfigurations : Type 0
CallRulesKeepConfigurations = (c : Call) (arguments : List ℕ) (given : Option Answer) (m : Bytes)
    (h : WasiState) (done : Done) → call_rule c arguments given m h ≡ Ok done
    → IsConfiguredAs h done.host

-- a call that is done leaves the version
abbrev pub CallRulesKeepVersions : Type 0
CallRulesKeepVersions = (c : Call) (arguments : List ℕ) (given : Option Answer) (m : Bytes)
    (h : WasiState) (done : Done) → call_rule c arguments given m h ≡ Ok done
    → done.host.version ≡ h.version

-- where memory and the host hold bytes, the host holds bytes after a call that is done
abbrev pub CallRulesKeepStatesOfBytes : Type 0
CallRulesKeepStatesOfBytes = (c : Call) (arguments : List ℕ) (given : Option Answer) (m : Bytes)
    (h : WasiState) (done : Done) → AreBytes m → IsOfBytes h
    → call_rule c arguments given m h ≡ Ok done → IsOfBytes done.host

-- where memory holds bytes, what a call that is done leaves of a host is a host
abbrev pub CallRulesKeepWasiStates : Type 0
CallRulesKeepWasiStates = (c : Call) (arguments : List ℕ) (given : Option Answer) (m : Bytes)
    (h : WasiState) (done : Done) → AreBytes m → IsWasiState h
    → call_rule c arguments given m h ≡ Ok done → IsWasiState done.host

-- what a process begins with is a host
abbrev pub FirstsAreWasiStates : Type 0
FirstsAreWasiStates = (room : ℕ) (version : Version) (arguments environment : List (List ℕ))
    → IsWasiState (first_host room version arguments environment)

-- at most one number more was given to a node, and none was taken back
pub record MakesOneNodeAtMost (before after : WasiState) : Type 0 where
  pub least : before.files.next ≤ after.files.next
  pub most : after.files.next ≤ before.files.next + 1

-- a call that is done makes one node at most
abbrev pub CallRulesMakeOneNodeAtMost : Type 0
CallRulesMakeOneNodeAtMost = (c : Call) (arguments : List ℕ) (given : Option Answer) (m : Bytes)
    (h : WasiState) (done : Done) → call_rule c arguments given m h ≡ Ok done
    → MakesOneNodeAtMost h done.host

-- at most one request's text and its newline weren't read yet
abbrev pub HasShortInput : WasiState → Type 0
HasShortInput h = length h.unread ≤ text_limit h.version + 1

-- a call that is done leaves no more
abbrev pub CallRulesKeepInputShort : Type 0
CallRulesKeepInputShort = (c : Call) (arguments : List ℕ) (given : Option Answer) (m : Bytes)
    (h : WasiState) (done : Done) → HasShortInput h → call_rule c arguments given m h ≡ Ok done
    → HasShortInput done.host

-- ---- times

-- a call that is done never lowers the last monotonic time that was seen
abbrev pub CallRulesKeepTimes : Type 0
CallRulesKeepTimes = (c : Call) (arguments : List ℕ) (given : Option Answer) (m : Bytes)
    (h : WasiState) (done : Done) → call_rule c arguments given m h ≡ Ok done
    → h.last_monotonic ≤ done.host.last_monotonic

-- what a guest is told of clock 1 is the last monotonic time that was then seen
abbrev pub LastTimesAreTold : Type 0
LastTimesAreTold = (precision ret : ℕ) (given : Option Answer) (m : Bytes) (h : WasiState)
    (done : Done) → call_rule call.ClockTimeGet (1 ∷ precision ∷ ret ∷ []) given m h ≡ Ok done
    → done.memory ≡ with_part m ret (u64_bytes done.host.last_monotonic)

-- ---- answers

-- the test that the calls' rules make of an answer passes exactly where it fits
abbrev pub TestsTellWhatFits : Type 0
TestsTellWhatFits = (limit : ℕ) (k : Question) (a : Answer) → IsTrue (does_fit limit k a)
    ↔ Fits limit k a

-- the calls that may want an answer from outside
abbrev pub MayAsk : Call → Type 0
MayAsk call.ClockTimeGet = Unit {0}
MayAsk call.FdRead = Unit {0}
MayAsk call.RandomGet = Unit {0}
MayAsk _ = ⊥

-- no other call wants one
abbrev pub FewCallRulesAsk : Type 0
FewCallRulesAsk = (c : Call) (arguments : List ℕ) (given : Option Answer) (m : Bytes)
    (h : WasiState) (k : Question) → call_rule c arguments given m h ≡ Err (Asks k) → MayAsk c

-- a call that wants an answer wants none once it has one that fits
abbrev pub CallRulesAskOnce : Type 0
CallRulesAskOnce = (c : Call) (arguments : List ℕ) (m : Bytes) (h : WasiState)
    (k other : Question) (a : Answer) → call_rule c arguments None m h ≡ Err (Asks k)
    → Fits (text_limit h.version) k a → call_rule c arguments (Some a) m h ≢ Err (Asks other)

-- ---- the end of the process

-- no call but `proc_exit` ends it
abbrev pub ExitAloneEnds : Type 0
ExitAloneEnds = (c : Call) (arguments : List ℕ) (given : Option Answer) (m : Bytes) (h : WasiState)
    (code : ℕ) → call_rule c arguments given m h ≡ Err (Ends code) → c ≡ call.ProcExit
