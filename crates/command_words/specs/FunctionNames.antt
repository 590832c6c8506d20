-- Names and bytes as the code lends them.
use Rattle.std.specs.Prelude.{ℕ, List, Option, option_map}
use Rattle.std.specs.Borrow.{Bor}

-- the bytes that are lent, if there are some
abbrev pub lent_bytes : Option (Bor (List ℕ)) → Option (List ℕ)
lent_bytes bytes = option_map (λ b. b.now) bytes
