-- The calls on directories and paths keep memory.
use Rattle.std.proofs.Common.{ℕ, ◌+◌, ◌%◌, ◌≤◌, length, take, drop, arith, length-take}
use Rattle.std.specs.Prelude.{Option, Some, None}
use Rattle.std.specs.List.{AllByRecursion}
use Rattle.file_tree.specs.rules.Files.{Name, entries_of}
use Rattle.wasi_abi.specs.rules.Numbers.{fd_readdir_right}
use Rattle.wasi_calls_rules.specs.WasiStates.{WasiState}
use Rattle.wasi_calls_rules.specs.Checks.{Bytes, open_descriptor, a_directory}
use Rattle.wasi_calls_rules.specs.Checks.{with_right, node_named}
use Rattle.wasi_calls_rules.specs.Paths.{WalkEnd}
use Rattle.wasi_calls_rules.specs.Entries.{listed, fd_readdir, renamed_to, OpenMode, opened_there}
use Rattle.wasi_calls_rules.specs.Entries.{opened_new, opened_at}
use Rattle.wasi_calls_rules.proofs.Steps.{next, within, either_way, leaf}
use Rattle.wasi_calls_rules.proofs.Puts.{put, put_number}
use Rattle.wasi_calls_rules.proofs.Supplies.{Supplies, entries_hold}
use Rattle.wasi_calls_rules.proofs.SmallCallRules.{Keeps, same, kept, put_one, unchanged}
use Rattle.guest_memory.proofs.Lists.{all_take}

module _ (Q : ℕ → Type 0) (low : (x : ℕ)
    → Q (x % 256)) (m : Bytes) (old : AllByRecursion Q m) (h : WasiState) where
  pub fd_readdir_keeps : (fd buf len cookie ret : ℕ) → Supplies Q h
      → Keeps Q m (fd_readdir fd buf len cookie ret m h)
  fd_readdir_keeps fd buf len cookie ret s =
      next (open_descriptor h fd) _ (λ d.
      next (a_directory h d) _ (λ _. next (with_right fd_readdir_right d) _ (λ _.
      within m buf len _ (λ front. within m ret 4 _ (λ behind.
      let all : Bytes =
      listed h.files cookie (drop cookie (entries_of h.files (node_named d.target))) in
      kept Q low m old _ h (put_number Q low m _ ret 4 (length (take len all)) behind
      (put Q low m m buf len (take len all) front (simp length-take (omega arith))
      (all_take Q len all (entries_hold Q low h (node_named d.target) cookie s))
      (same Q low m old))))))))

  -- ---- renaming

  pub renamed_to_keeps : (d : ℕ) (name : Name) (source : WalkEnd) (e : ℕ) (other : Name)
      (target : WalkEnd) → Keeps Q m (renamed_to d name source e other target m h)
  renamed_to_keeps d name source e other target =
      search (next, either_way, unchanged Q low m old h) depth 14

  -- ---- opening

  opened_there_keeps : (k : ℕ) (w : OpenMode) (ret : ℕ) → ret + 4 ≤ length m
      → Keeps Q m (opened_there k w ret m h)
  opened_there_keeps k w ret room = search (next, put_one Q low m old) depth 14

  opened_new_keeps : (place : WalkEnd) (w : OpenMode) (ret : ℕ) → ret + 4 ≤ length m
      → Keeps Q m (opened_new place w ret m h)
  opened_new_keeps place w ret room = search (next, leaf, put_one Q low m old) depth 14

  pub opened_at_keeps : (o : Option ℕ) (place : WalkEnd) (w : OpenMode) (ret : ℕ)
      → ret + 4 ≤ length m → Keeps Q m (opened_at o place w ret m h)
  opened_at_keeps None place w ret room = opened_new_keeps place w ret room
  opened_at_keeps (Some k) place w ret room = opened_there_keeps k w ret room
