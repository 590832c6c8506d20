-- Bytes that are written and cut.
use Rattle.std.specs.Prelude.{ℕ, ◌+◌, List, ◌++◌, length, take, drop, replicate}

-- bytes written from a place on. A gap is zeros
abbrev pub written : List ℕ → ℕ → List ℕ → List ℕ
written old from bytes =
    take from (old ++ replicate from 0) ++ (bytes ++ drop (from + length bytes) old)

-- so many of the bytes. New ones are zeros
abbrev pub resized : List ℕ → ℕ → List ℕ
resized old size = take size (old ++ replicate size 0)
