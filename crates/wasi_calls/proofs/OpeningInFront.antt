-- The steps of `path_rename` and `path_open` don't look at the lines that were emitted before: with
-- other lines in front each does the same.
use Rattle.std.proofs.Common.{ℕ, List, refl}
use Rattle.std.specs.Prelude.{Option, Some, None}
use Rattle.file_tree.specs.rules.Files.{Name, Path}
use Rattle.wasi_calls_rules.specs.WasiStates.{Line, WasiState}
use Rattle.wasi_calls_rules.specs.Checks.{Bytes}
use Rattle.wasi_calls_rules.specs.Paths.{WalkEnd}
use Rattle.wasi_calls_rules.specs.Small.{call_done}
use Rattle.wasi_calls_rules.specs.Entries.{renamed_over, renamed_to, OpenMode, opened_there}
use Rattle.wasi_calls_rules.specs.Entries.{opened_new, opened_at}
use Rattle.wasi_calls.proofs.LinesInFront.{next}
use Rattle.wasi_calls.proofs.SmallInFront.{IsBehind, either, leaf_next}

module _ (before : List Line) (m : Bytes) (h : WasiState) where
  -- ---- renaming

  over_behind : (k : ℕ) (o : Option ℕ) (from to : Path)
      → IsBehind before (λ (x : WasiState). call_done m (renamed_over k o from to x)) h
  over_behind k None from to = refl
  over_behind k (Some j) from to = refl

  pub renamed_to_behind : (d : ℕ) (name : Name) (source : WalkEnd) (e : ℕ) (other : Name)
      (target : WalkEnd) → IsBehind before (renamed_to d name source e other target m) h
  renamed_to_behind d name source e other target =
      search (next before, either before, over_behind) depth 14

  -- ---- opening

  opened_there_behind : (k : ℕ) (w : OpenMode) (ret : ℕ) → IsBehind before
      (opened_there k w ret m) h
  opened_there_behind k w ret = search (next before) depth 14

  opened_new_behind : (place : WalkEnd) (w : OpenMode) (ret : ℕ)
      → IsBehind before (opened_new place w ret m) h
  opened_new_behind place w ret = search (next before, leaf_next before) depth 14

  pub opened_at_behind : (o : Option ℕ) (place : WalkEnd) (w : OpenMode) (ret : ℕ)
      → IsBehind before (opened_at o place w ret m) h
  opened_at_behind None place w ret = opened_new_behind place w ret
  opened_at_behind (Some k) place w ret = opened_there_behind k w ret
