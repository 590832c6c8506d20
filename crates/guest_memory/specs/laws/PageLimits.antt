-- The size of a page and the most pages, as numbers.
use Rattle.std.specs.Prelude.{◌≡◌, ◌*◌, ◌^◌}
use Rattle.guest_memory.specs.declared.TheConstants.{PAGE_SIZE, MOST_PAGES}
use Rattle.guest_memory.specs.rules.Bytes.{page_size}

pub record PageLimitNumbers : Type 0 where
  pub page_bytes : PAGE_SIZE ≡ 65536
  -- that of the definitions is that of the code
  pub defined : page_size ≡ PAGE_SIZE
  pub most_pages : MOST_PAGES ≡ 65536
  -- they have all the bytes that 32 bits can name
  pub most_bytes : MOST_PAGES * PAGE_SIZE ≡ 2 ^ 32
