use Rattle.std.proofs.Common.{◌≡◌, ◌≤◌, ◌-◌, ◌++◌, ℕ, List, length, ap, subst, ◌∙◌, arith}
use Rattle.file_tree.specs.rules.Chunks.{chunks_for}
use Rattle.file_tree.specs.Store.Bodies.{Rekeys}
use Rattle.file_tree.specs.Store.Stored.{stored}
use Rattle.file_tree.proofs.StoreLemmas.Sized.{not_fewer}
use Rattle.file_tree.proofs.StoreLemmas.HeldFiles.{file_grown, count_keys, len_is, keys_full}
use Rattle.file_tree.proofs.StoreLemmas.HeldFiles.{room_full, room_stored}
use Rattle.file_tree.proofs.StoreLemmas.SlabChunks.{rekeys_join, rekeys_room}
use Rattle.file_tree.proofs.store.file.FileChunks.grow.Goals as goal

pub overflow_sub-more : goal.overflow_sub-more
overflow_sub-more c =
    let len = c.self.inside.len in
    let keys = c.self.inside.keys.items in
    let held = c.requires.held in
    let longer : len ≤ c.args.size =
    omega (
      arith,
      c.requires.more,
      len_is c.args.chunks.now keys len c.args.self.now c.self.view_is held,
    ) in
    omega (
      arith,
      ap length c.as_slice.ensures.value,
      c.chunks_of_size.ensures,
      count_keys c.args.chunks.now keys len c.args.self.now c.self.view_is held,
      not_fewer len c.args.size longer,
    )

pub put_chunks-requires-clause-full : goal.put_chunks-requires-clause-full
put_chunks-requires-clause-full c =
    let keys = c.self.inside.keys.items in
    rw c.reserve-2.ensures.items
    (room_full c.args.chunks.now c.reserve.new.self c.reserve.ensures.rest_kept keys
    (keys_full c.args.chunks.now keys c.self.inside.len c.args.self.now c.self.view_is
    c.requires.held))

pub returns-clause-resized : goal.returns-clause-resized
returns-clause-resized c =
    let old = c.args.chunks.now in
    let keys = c.self.inside.keys.items in
    let len = c.self.inside.len in
    let size = c.args.size in
    let reserved = c.reserve.new.self in
    let kept = c.reserve.ensures.rest_kept in
    let new = c.put_chunks.new.chunks in
    let after = c.put_chunks.new.keys.items in
    let more = c.chunks_of_size.result - length c.as_slice.result.now in
    let longer : len ≤ size =
    omega (
      arith,
      c.requires.more,
      len_is old keys len c.args.self.now c.self.view_is c.requires.held,
    ) in
    let count : more ≡ chunks_for size - length keys =
    ap (λ (n : ℕ). n - length c.as_slice.result.now) c.chunks_of_size.ensures
    ∙ ap (λ (ks : List ℕ). chunks_for size - length ks) c.as_slice.ensures.value in
    file_grown old keys len c.args.self.now c.self.view_is c.requires.held new after size more
    longer count c.put_chunks.ensures.full
    (c.put_chunks.ensures.put
    ∙ ap (λ (ks : List ℕ). stored reserved ks ++ c.in_ok-zeros.zeros.items)
    c.reserve-2.ensures.items
    ∙ ap (λ (cs : List (List ℕ)). cs ++ c.in_ok-zeros.zeros.items) (room_stored old reserved kept
    keys)
    ∙ ap (λ (cs : List (List ℕ)). stored old keys ++ cs) c.in_ok-zeros.ensures)
    (rekeys_join old reserved new keys keys after (rekeys_room old reserved keys kept)
    (subst (λ (ks : List ℕ). Rekeys reserved new ks after) c.reserve-2.ensures.items
    c.put_chunks.ensures.others))
