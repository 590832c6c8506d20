-- What a process begins with is a host. So is that with other files, and a host in another version.
use Rattle.std.proofs.Common.{◌≡◌, ℕ, zero, suc, ◌≤◌, List, [], ◌∷◌, refl, sym, ap, subst, ◌∙◌}
use Rattle.std.proofs.Common.{arith, replicate, inl, inr, Bool, true, false, cond, eqb, filter}
use Rattle.std.specs.Prelude.{Option, Some, None, IfSome, slice_get, find, is_some}
use Rattle.std.specs.List.{AllByRecursion}
use Rattle.std.proofs.lemmas.Bool.Decides.{eqb_tells}
use Rattle.file_tree.specs.rules.Files.{Files, FileNode, Directory, IsFiles, used, only_named}
use Rattle.file_tree.specs.rules.Files.{fresh}
use Rattle.wasi_abi.specs.declared.version.Version.{Version}
use Rattle.wasi_abi.specs.rules.Numbers.{directory_rights, all_rights, input_rights}
use Rattle.wasi_abi.specs.rules.Numbers.{output_rights, are_within}
use Rattle.wasi_abi.specs.rules.Answers.{IsTime}
use Rattle.wasi_calls_rules.specs.WasiStates.{Stream, Node, Descriptor, Line, stream, stream_rights}
use Rattle.wasi_calls_rules.specs.WasiStates.{first_descriptors, first_host, IsThere, IsDescriptor}
use Rattle.wasi_calls_rules.specs.WasiStates.{IsStreamAt, IsRemoved, WasiState, IsWasiState}
use Rattle.wasi_calls_rules.proofs.KeptLines.{nothing_unfinished}
use Rattle.wasi_calls_rules.proofs.NodesAfter.{there_node, path_node}

pub fresh_is_files : IsFiles fresh
fresh_is_files = record {
  rising = (omega arith, omega arith);
  root = refl;
  root_is_directory = refl;
  placed = (inl refl, tt);
  distinct = (tt, tt);
  contents = (tt, tt);
  few = omega arith;
}

abbrev root_descriptor : Descriptor
root_descriptor = record {
  target = Node 1;
  offset = 0;
  flags = 0;
  base = directory_rights;
  inheriting = all_rights;
}

abbrev AreDescriptors : Files → List (Option Descriptor) → Type 0
AreDescriptors fs ds = AllByRecursion (λ (o : Option Descriptor). IfSome o (IsDescriptor fs)) ds

root_is : (fs : Files) → IsThere fs (Node 1) → IsDescriptor fs root_descriptor
root_is fs there = record {
  there = there;
  offset = omega arith;
  flags = omega arith;
  base = refl;
  inheriting = refl;
}

stream_is : (fs : Files) (n rights : ℕ) → are_within rights all_rights ≡ true
    → IsDescriptor fs (stream n rights)
stream_is fs n rights e =
    record { there = tt; offset = omega arith; flags = omega arith; base = e; inheriting = refl }

none_of : (fs : Files) (n : ℕ) → AreDescriptors fs (replicate n None)
none_of fs zero = tt
none_of fs (suc n) = (tt, none_of fs n)

first_are : (fs : Files) → IsThere fs (Node 1) → AreDescriptors fs first_descriptors
first_are fs there = (
  stream_is fs 0 input_rights refl,
  (
    stream_is fs 1 output_rights refl,
    (stream_is fs 2 output_rights refl, (root_is fs there, none_of fs 60)),
  ),
)

own : (n s : ℕ) (d : Descriptor) → n ≤ 2 → Some (Some (stream n (stream_rights n))) ≡ Some (Some d)
    → d.target ≡ Stream s → IsStreamAt n s d
own n s d few is names =
    let d_is : stream n (stream_rights n) ≡ d = cc in
    let target : Stream n ≡ Stream s = ap (λ (x : Descriptor). x.target) d_is ∙ names in
    let number : n ≡ s = cc in
    rw (← d_is) (rw (← number) record { number = refl; few = few; base = refl; inheriting = refl })

-- from 4 on nothing is open
none_open : (n k : ℕ) (d : Descriptor) → slice_get (replicate n None) k ≡ Some (Some d) → ⊥
none_open zero k d e = absurd (cc)
none_open (suc n) zero d e = absurd (cc)
none_open (suc n) (suc k) d e = none_open n k d e

streams_kept : (n s : ℕ) (d : Descriptor) → slice_get first_descriptors n ≡ Some (Some d)
    → d.target ≡ Stream s → IsStreamAt n s d
streams_kept zero s d e names = own 0 s d (omega arith) e names
streams_kept (suc zero) s d e names = own 1 s d (omega arith) e names
streams_kept (suc (suc zero)) s d e names = own 2 s d (omega arith) e names
streams_kept (suc (suc (suc zero))) s d e names =
    let is : root_descriptor ≡ d = cc in
    let target : Node 1 ≡ Stream s = ap (λ (x : Descriptor). x.target) is ∙ names in
    absurd (cc)
streams_kept (suc (suc (suc (suc n)))) s d e names = absurd (none_open 60 n d e)

-- the root was not removed
kept : (k : ℕ) → IsRemoved fresh k → ⊥
kept k (n, is, gone) =
    elim (eqb_tells 1 k) [
      | inl h ↦ (let root : Some (record { number = 1; path = Some []; content = Directory })
          ≡ Some n =
          rw h.0 at is in
          let same : record { number = 1; path = Some []; content = Directory } ≡ n = cc in
          let path : Some [] ≡ n.path = ap (λ (m : FileNode). m.path) same in
          absurd (cc))
      | inr h ↦ (let none : None ≡ Some n = rw h.0 at is in absurd (cc))
    ]

pub first_is_host : (room : ℕ) (version : Version) (arguments environment : List (List ℕ))
    → IsWasiState (first_host room version arguments environment)
first_is_host room version arguments environment = record {
  files = fresh_is_files;
  within = omega arith;
  places = refl;
  descriptors = first_are fresh tt;
  streams = streams_kept;
  root = (root_descriptor, refl, refl);
  unread = tt;
  last_monotonic = omega arith;
  first = nothing_unfinished;
  second = nothing_unfinished;
  open_nodes = λ k gone. absurd (kept k gone);
}

-- ---- with other files

-- the first of these nodes under a number has a path, where the first one has
first_or_later : (x n : FileNode) (is : Bool) (later : Option FileNode) → is_some x.path ≡ true
    → (later ≡ Some n → is_some n.path ≡ true) → cond is (Some x) later ≡ Some n
    → is_some n.path ≡ true
first_or_later x n true later here there e =
    let same : x ≡ n = cc in
    subst (λ (z : FileNode). is_some z.path ≡ true) same here
first_or_later x n false later here there e = there e

abbrev with_paths : List FileNode → List FileNode
with_paths ns = filter (λ (n : FileNode). is_some n.path) ns

found_named : (ns : List FileNode) (k : ℕ) (n : FileNode)
    → find (λ (m : FileNode). eqb m.number k) (with_paths ns) ≡ Some n → is_some n.path ≡ true
found_named [] k n e = absurd (cc)
found_named (x ∷ ns) k n e = by_test (is_some x.path) refl e (found_named ns k n)
  where
    by_test : (b : Bool) → is_some x.path ≡ b
        → find (λ (m : FileNode). eqb m.number k) (cond b (x ∷ with_paths ns) (with_paths ns))
        ≡ Some n
        → (find (λ (m : FileNode). eqb m.number k) (with_paths ns) ≡ Some n
        → is_some n.path ≡ true) → is_some n.path ≡ true
    by_test true is e later =
        first_or_later x n (eqb x.number k)
        (find (λ (m : FileNode). eqb m.number k) (with_paths ns)) is later e
    by_test false is e later = later e

-- where each node has a path, none was removed
pub none_removed : (fs : Files) (k : ℕ) → only_named fs ≡ fs → IsRemoved fs k → ⊥
none_removed fs k named gone =
    let n : FileNode = gone.0 in
    let same : with_paths fs.nodes ≡ fs.nodes = ap (λ (z : Files). z.nodes) named in
    let found = subst (λ ns. find (λ (m : FileNode). eqb m.number k) ns ≡ Some n) (sym same) gone.1
    in
    let has : is_some n.path ≡ true = found_named fs.nodes k n found in
    let lacks : is_some n.path ≡ false = ap is_some gone.2 in
    let both : true ≡ false = sym has ∙ lacks in
    cc

-- with the first descriptors, and the files, lines and time that another one has left
pub of_files_left : (h : WasiState) (fs : Files) (lines : List Line) (time : ℕ) → IsWasiState h
    → h.descriptors ≡ first_descriptors → IsFiles fs → only_named fs ≡ fs → used fs ≤ h.room
    → IsTime time
    → IsWasiState (record h { files = fs; lines = lines; last_monotonic = time })
of_files_left h fs lines time is opened files named within small = record {
  files = files;
  within = within;
  places = is.places;
  descriptors = subst (AreDescriptors fs) (sym opened)
      (first_are fs (there_node fs 1 (path_node fs 1 [] files.root)));
  streams = is.streams;
  root = is.root;
  unread = is.unread;
  last_monotonic = small;
  first = is.first;
  second = is.second;
  open_nodes = λ k gone. absurd (none_removed fs k named gone);
}

-- ---- in another version

pub of_any_version : (h : WasiState) (version : Version) → IsWasiState h
    → IsWasiState (record h { version = version })
of_any_version h version is = search
