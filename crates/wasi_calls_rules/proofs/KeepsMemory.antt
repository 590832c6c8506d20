-- Each call that is done keeps the length of memory, and leaves bytes where there were bytes.
use Rattle.std.proofs.Common.{ℕ, ◌%◌, ◌<◌, List, [], ◌∷◌, arith}
use Rattle.std.specs.Prelude.{Option, Some, None}
use Rattle.std.specs.List.{AllByRecursion}
use Rattle.wasi_abi.specs.declared.errno.Errno.TheVariants.{Inval}
use Rattle.wasi_abi.specs.declared.answer.Answer.{Answer}
use Rattle.wasi_abi.specs.declared.answer.Answer.TheVariants as answer
use Rattle.wasi_abi.specs.declared.answer.Question.{Question}
use Rattle.wasi_abi.specs.declared.answer.Question.TheVariants as question
use Rattle.wasi_abi.specs.rules.Answers.{Fits}
use Rattle.wasi_abi.specs.declared.call.Call.{Call}
use Rattle.wasi_abi.specs.declared.call.Call.TheVariants as call
use Rattle.guest_memory.specs.rules.Bytes.{IsByte}
use Rattle.file_tree.specs.rules.Files.{Path, Content, Directory, File, FileNode}
use Rattle.wasi_calls_rules.specs.WasiStates.{WasiState}
use Rattle.wasi_calls_rules.specs.Checks.{Bytes, Refuses, Ends}
use Rattle.wasi_calls_rules.specs.CallRules.{call_rule}
use Rattle.wasi_calls_rules.specs.laws.Laws.{CallRulesKeepMemory, CallRulesKeepBytes, IsPathOfBytes}
use Rattle.wasi_calls_rules.specs.laws.Laws.{IsContentOfBytes, IsNodeOfBytes, IsOfBytes}
use Rattle.wasi_calls_rules.proofs.Steps.{refused, next, within, leaf}
use Rattle.wasi_calls_rules.proofs.Fitting.{tests_tell}
use Rattle.wasi_calls_rules.proofs.Supplies.{PathHolds, ContentHolds, NodeHolds, Supplies}
use Rattle.wasi_calls_rules.proofs.Supplies.{AnswerHolds}
use Rattle.wasi_calls_rules.proofs.SmallCallRules.{Keeps, GivenHolds, put_one, unchanged}
use Rattle.wasi_calls_rules.proofs.SmallCallRules.{filestat_put, texts_get_keeps, time_put_keeps}
use Rattle.wasi_calls_rules.proofs.SmallCallRules.{texts_sizes_get_keeps, fd_fdstat_get_keeps}
use Rattle.wasi_calls_rules.proofs.SmallCallRules.{fd_prestat_get_keeps, fd_prestat_dir_name_keeps}
use Rattle.wasi_calls_rules.proofs.SmallCallRules.{random_get_keeps}
use Rattle.wasi_calls_rules.proofs.MovingCallRules.{fd_read_keeps, fd_pread_keeps}
use Rattle.wasi_calls_rules.proofs.EntryCallRules.{fd_readdir_keeps}
use Rattle.wasi_calls_rules.proofs.EntryCallRules.{renamed_to_keeps, opened_at_keeps}

-- what holds of every byte that goes in holds of every byte of memory after it
module _ (Q : ℕ → Type 0) (low : (x : ℕ) → Q (x % 256)) (m : Bytes) (old : AllByRecursion Q m)
    (h : WasiState) (s : Supplies Q h) (given : Option Answer) (fine : GivenHolds Q given) where
  call_rule_keeps : (c : Call) (arguments : List ℕ) → Keeps Q m (call_rule c arguments given m h)
  call_rule_keeps call.ArgsGet (argv ∷ buf ∷ []) =
      texts_get_keeps Q low m old h h.arguments argv buf s.arguments
  call_rule_keeps call.ArgsSizesGet (count ∷ size ∷ []) =
      texts_sizes_get_keeps Q low m old h h.arguments count size
  call_rule_keeps call.EnvironGet (environ ∷ buf ∷ []) =
      texts_get_keeps Q low m old h h.environment environ buf s.environment
  call_rule_keeps call.EnvironSizesGet (count ∷ size ∷ []) =
      texts_sizes_get_keeps Q low m old h h.environment count size
  call_rule_keeps call.ClockResGet (id ∷ ret ∷ []) =
      search (next, within, put_one Q low m old) depth 14
  call_rule_keeps call.ClockTimeGet (id ∷ precision ∷ ret ∷ []) =
      search (next, within, time_put_keeps Q low m old h) depth 14
  call_rule_keeps call.FdClose (fd ∷ []) = search (next, unchanged Q low m old h) depth 14
  call_rule_keeps call.FdDatasync (fd ∷ []) = search (next, unchanged Q low m old h) depth 14
  call_rule_keeps call.FdFdstatGet (fd ∷ ret ∷ []) = fd_fdstat_get_keeps Q low m old h fd ret
  call_rule_keeps call.FdFdstatSetFlags (fd ∷ flags ∷ []) =
      search (next, unchanged Q low m old h) depth 14
  call_rule_keeps call.FdFilestatGet (fd ∷ ret ∷ []) =
      search (next, within, filestat_put Q low m old h) depth 14
  call_rule_keeps call.FdFilestatSetSize (fd ∷ size ∷ []) =
      search (next, unchanged Q low m old h) depth 14
  call_rule_keeps call.FdPread (fd ∷ iovs ∷ count ∷ offset ∷ ret ∷ []) =
      fd_pread_keeps Q low m old h s fd iovs count offset ret
  call_rule_keeps call.FdPrestatGet (fd ∷ ret ∷ []) = fd_prestat_get_keeps Q low m old h fd ret
  call_rule_keeps call.FdPrestatDirName (fd ∷ path ∷ len ∷ []) =
      fd_prestat_dir_name_keeps Q low m old h fd path len
  call_rule_keeps call.FdPwrite (fd ∷ iovs ∷ count ∷ offset ∷ ret ∷ []) =
      search (next, within, put_one Q low m old) depth 14
  call_rule_keeps call.FdRead (fd ∷ iovs ∷ count ∷ ret ∷ []) =
      fd_read_keeps Q low m old h s fd iovs count ret given fine
  call_rule_keeps call.FdReaddir (fd ∷ buf ∷ len ∷ cookie ∷ ret ∷ []) =
      fd_readdir_keeps Q low m old h fd buf len cookie ret s
  call_rule_keeps call.FdSeek (fd ∷ delta ∷ whence ∷ ret ∷ []) =
      search (next, within, put_one Q low m old) depth 14
  call_rule_keeps call.FdSync (fd ∷ []) = search (next, unchanged Q low m old h) depth 14
  call_rule_keeps call.FdTell (fd ∷ ret ∷ []) = search (next, within, put_one Q low m old) depth 14
  call_rule_keeps call.FdWrite (fd ∷ iovs ∷ count ∷ ret ∷ []) =
      search (next, within, put_one Q low m old) depth 14
  call_rule_keeps call.PathCreateDirectory (fd ∷ path ∷ len ∷ []) =
      search (next, leaf, unchanged Q low m old h) depth 14
  call_rule_keeps call.PathFilestatGet (fd ∷ flags ∷ path ∷ len ∷ ret ∷ []) =
      search (next, within, filestat_put Q low m old h) depth 14
  call_rule_keeps call.PathOpen
      (fd ∷ dirflags ∷ path ∷ len ∷ oflags ∷ base ∷ inheriting ∷ fdflags ∷ ret ∷ []) =
      search (next, within, opened_at_keeps Q low m old h) depth 20
  call_rule_keeps call.PathRemoveDirectory (fd ∷ path ∷ len ∷ []) =
      search (next, leaf, unchanged Q low m old h) depth 14
  call_rule_keeps call.PathRename (old_fd ∷ old_path ∷ old_len ∷ new_fd ∷ new_path ∷ new_len ∷ []) =
      search (next, leaf, renamed_to_keeps Q low m old h) depth 20
  call_rule_keeps call.PathUnlinkFile (fd ∷ path ∷ len ∷ []) =
      search (next, leaf, unchanged Q low m old h) depth 14
  call_rule_keeps call.ProcExit (code ∷ []) = refused _ (Ends code)
  call_rule_keeps call.SchedYield [] = unchanged Q low m old h h
  call_rule_keeps call.RandomGet (buf ∷ len ∷ []) =
      random_get_keeps Q low m old h buf len given fine
  call_rule_keeps _ _ = refused _ (Refuses Inval)

-- ---- the length: nothing is asked of the bytes

AnyNumber : ℕ → Type 0
AnyNumber x = Unit {0}

every : {X : Type 0} (P : X → Type 0) → ((x : X) → P x) → (xs : List X) → AllByRecursion P xs
every P f [] = tt
every P f (x ∷ xs) = (f x, every P f xs)

any_bytes : (xs : List ℕ) → AllByRecursion AnyNumber xs
unfolding AnyNumber
any_bytes xs = every AnyNumber (λ _. tt) xs

any_path : (o : Option Path) → PathHolds AnyNumber o
any_path None = tt
any_path (Some path) = every (AllByRecursion AnyNumber) any_bytes path

any_content : (c : Content) → ContentHolds AnyNumber c
any_content Directory = tt
any_content (File bytes) = any_bytes bytes

any_answer : (a : Answer) → AnswerHolds AnyNumber a
any_answer (answer.Request text) = any_bytes text
any_answer (answer.Random bytes) = any_bytes bytes
any_answer _ = tt

any_host : (h : WasiState) → Supplies AnyNumber h
any_host h = record {
  files = every (NodeHolds AnyNumber) (λ (n : FileNode). record {
    path = any_path n.path;
    content = any_content n.content;
  }) h.files.nodes;
  unread = any_bytes h.unread;
  arguments = every (AllByRecursion AnyNumber) any_bytes h.arguments;
  environment = every (AllByRecursion AnyNumber) any_bytes h.environment;
}

pub call_rules_keep_memory : CallRulesKeepMemory
unfolding AnyNumber
call_rules_keep_memory c arguments given m h done e =
    ((call_rule_keeps AnyNumber (λ _. tt) m (any_bytes m) h (any_host h) given (λ _ _ a _ _.
    any_answer a) c arguments).holds done e).size

-- ---- bytes

low_is_byte : (x : ℕ) → IsByte (x % 256)
low_is_byte x = let below : x % 256 < 256 = omega arith in below

path_of_bytes : (o : Option Path) → IsPathOfBytes o → PathHolds IsByte o
path_of_bytes None k = k
path_of_bytes (Some path) k = k

content_of_bytes : (c : Content) → IsContentOfBytes c → ContentHolds IsByte c
content_of_bytes Directory k = k
content_of_bytes (File bytes) k = k

nodes_of_bytes : (nodes : List FileNode) → AllByRecursion IsNodeOfBytes nodes
    → AllByRecursion (NodeHolds IsByte) nodes
nodes_of_bytes [] k = tt
nodes_of_bytes (n ∷ nodes) k = (
  record {
    path = path_of_bytes n.path k.0.path;
    content = content_of_bytes n.content k.0.content;
  },
  nodes_of_bytes nodes k.1,
)

host_of_bytes : (h : WasiState) → IsOfBytes h → Supplies IsByte h
host_of_bytes h k = record {
  files = nodes_of_bytes h.files.nodes k.files;
  unread = k.unread;
  arguments = k.arguments;
  environment = k.environment;
}

answer_of_bytes : (limit : ℕ) (k : Question) (a : Answer) → Fits limit k a → AnswerHolds IsByte a
answer_of_bytes limit question.Request (answer.Request text) fits = fits.are_bytes
answer_of_bytes limit (question.Random n) (answer.Random bytes) fits = fits.are_bytes
answer_of_bytes limit _ (answer.Realtime n) fits = tt
answer_of_bytes limit _ (answer.Monotonic n) fits = tt
answer_of_bytes limit _ answer.End fits = tt
answer_of_bytes limit _ _ none = absurd none

pub call_rules_keep_bytes : CallRulesKeepBytes
call_rules_keep_bytes c arguments given m h done old k e =
    let fine : GivenHolds IsByte given =
    (λ limit question a is test. answer_of_bytes limit question a
    ((tests_tell limit question a).0 test)) in ((call_rule_keeps IsByte low_is_byte m old h
    (host_of_bytes h k) given fine c arguments).holds done e).bytes
