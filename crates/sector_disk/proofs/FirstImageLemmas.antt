-- Zeros, as an image.
use Rattle.std.proofs.Common.{◌≡◌, ℕ, List, [], length, replicate, arith}
use Rattle.std.proofs.lemmas.List.{length-replicate}
use Rattle.std.proofs.lemmas.List.Elements.{All-get_or, All-replicate}
use Rattle.sector_disk.specs.rules.DiskImage.{IsDiskImage, zeros}

-- a sector is full
abbrev IsFull : List ℕ → Type 0
IsFull bytes = length bytes ≡ 512

pub zeros_are : (n : ℕ) → IsDiskImage n (zeros n)
zeros_are n =
    let count : length (zeros n) ≡ n = length-replicate n (replicate 512 0) in record {
      count = count;
      full = λ k lt. All-get_or IsFull (zeros n) k [] (omega (arith, count))
          (All-replicate IsFull n (replicate 512 0) (zeros-full 0));
    }
  where
    zeros-full : (byte : ℕ) → length (replicate 512 byte) ≡ 512
    zeros-full byte = length-replicate 512 byte
