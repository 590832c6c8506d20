-- What a directory's entries are as bytes (this project's own).
use Rattle.std.specs.Prelude.{ℕ, List, drop}
use Rattle.file_tree.specs.rules.Files.{Files, entries_of}
use Rattle.wasi_calls_rules.specs.Entries.{listed}

-- the entries of a directory after so many
abbrev pub entries_behind : Files → ℕ → ℕ → List ℕ
entries_behind fs d cookie = listed fs cookie (drop cookie (entries_of fs d))
