use Rattle.std.proofs.Common.{◌≡◌, ◌<◌, ◌*◌, ◌-◌, take, arith, ap, length, sym, ◌∙◌}
use Rattle.std.proofs.lemmas.List.{take_all}
use Rattle.file_tree.specs.declared.limits.TheConstants.{CHUNK_BYTES}
use Rattle.file_tree.proofs.StoreLemmas.HeldFiles.{file_no_chunk, file_chunk, chunk_begins}
use Rattle.file_tree.proofs.store.file.FileChunks.chunk.Goals as goal

pub returns-then-index-keys : goal.returns-then-index-keys
returns-then-index-keys c =
    file_no_chunk c.args.chunks.now c.self.inside.keys.items c.self.inside.len c.args.self.now
    c.self.view_is c.requires c.args.index
    (omega (arith, c.if-index-keys.true, ap length c.as_slice-keys.ensures.value))

pub overflow_mul-rest : goal.overflow_mul-rest
overflow_mul-rest c =
    omega (
      arith,
      chunk_begins c.args.chunks.now c.self.inside.keys.items c.self.inside.len c.args.self.now
          c.self.view_is c.requires c.args.index
          (omega (arith, c.if-index-keys.false, ap length c.as_slice-keys.ensures.value)),
    )

pub overflow_sub-rest : goal.overflow_sub-rest
overflow_sub-rest c =
    omega (
      arith,
      chunk_begins c.args.chunks.now c.self.inside.keys.items c.self.inside.len c.args.self.now
          c.self.view_is c.requires c.args.index
          (omega (arith, c.if-index-keys.false, ap length c.as_slice-keys.ensures.value)),
    )

pub returns-then-rest-lt-CHUNK_BYTES : goal.returns-then-rest-lt-CHUNK_BYTES
returns-then-rest-lt-CHUNK_BYTES c =
    let len = c.self.inside.len in
    let keys = c.self.inside.keys.items in
    let i = c.args.index in
    let n = len - i * CHUNK_BYTES in
    let within : i < length keys =
    omega (arith, c.if-index-keys.false, ap length c.as_slice-keys.ensures.value) in
    ap (take n) c.as_slice-bytes.ensures.bytes
    ∙ file_chunk c.args.chunks.now keys len c.args.self.now c.self.view_is c.requires i n
    c.index.result.now within (rw c.as_slice-keys.ensures.value at c.index.ensures)
    (omega (arith, c.if-rest-lt-CHUNK_BYTES.true))

pub returns-else-rest-lt-CHUNK_BYTES : goal.returns-else-rest-lt-CHUNK_BYTES
returns-else-rest-lt-CHUNK_BYTES c =
    let len = c.self.inside.len in
    let keys = c.self.inside.keys.items in
    let i = c.args.index in
    let within : i < length keys =
    omega (arith, c.if-index-keys.false, ap length c.as_slice-keys.ensures.value) in
    let piece = c.index.result.now in
    let whole : take CHUNK_BYTES piece ≡ piece =
    take_all CHUNK_BYTES piece (omega (arith, c.as_slice-bytes.ensures.full)) in
    c.as_slice-bytes.ensures.bytes ∙ sym whole
    ∙ file_chunk c.args.chunks.now keys len c.args.self.now c.self.view_is c.requires i CHUNK_BYTES
    piece within (rw c.as_slice-keys.ensures.value at c.index.ensures)
    (omega (arith, c.if-rest-lt-CHUNK_BYTES.false))
