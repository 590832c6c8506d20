use Rattle.std.proofs.Common.{◌≡◌, ◌+◌, ◌<◌, max, length, ap, ◌∙◌, sym, refl, arith}
use Rattle.std.specs.Prelude.{Ok, is_ok}
use Rattle.std.proofs.lemmas.Result.{err_from_is_err_and}
use Rattle.file_tree.specs.rules.Bytes.{resized}
use Rattle.file_tree.specs.rules.Files.{Files, bytes_of_node}
use Rattle.file_tree.proofs.Sizes.{length-resized}
use Rattle.wasi_calls_rules.specs.WasiStates.{WasiState}
use Rattle.wasi_calls_rules.specs.Checks.{Bytes, Refuses, gathered}
use Rattle.wasi_calls_rules.proofs.NodesAfter.{rewritten_there}
use Rattle.wasi_calls.specs.rules.Held.{HeldWasiState}
use Rattle.wasi_calls.proofs.Fronts.{length_gathered}
use Rattle.wasi_calls.proofs.WrittenFiles.{bytes_now, file_now}
use Rattle.wasi_calls.proofs.FileCallRules.{no_bytes, none_written, too_large, refused_write}
use Rattle.wasi_calls.proofs.FileCallRules.{done_write, files_made}
use Rattle.wasi_calls.proofs.host.WasiState.write_file.Goals as goal

pub returns-then-len-eq0-clause-done : goal.returns-then-len-eq0-clause-done
returns-then-len-eq0-clause-done c =
    let m = c.args.memory.now.bytes in
    let bs = c.args.buffers.now in
    none_written c.args.node c.args.from (gathered m bs) c.args.self.now.host
    (no_bytes m bs c.requires.inside (sym c.len-len.ensures.value ∙ c.if-len-eq0.true))

pub returns-then-from-gt-FILE_BYTES-clause-stopped :
    goal.returns-then-from-gt-FILE_BYTES-clause-stopped
returns-then-from-gt-FILE_BYTES-clause-stopped c =
    let m = c.args.memory.now.bytes in
    let bs = c.args.buffers.now in
    let size = length_gathered m bs c.requires.inside in
    let some : 0 < length (gathered m bs) =
    omega (arith, size, c.len-len.ensures.value, c.if-len-eq0.false) in
    too_large c.args.node c.args.from (gathered m bs) c.args.self.now.host some
    (omega (arith, c.if-from-gt-FILE_BYTES.true))

pub returns-in_err-check_room-clause-stopped : goal.returns-in_err-check_room-clause-stopped
returns-in_err-check_room-clause-stopped c =
    let m = c.args.memory.now.bytes in
    let bs = c.args.buffers.now in
    let h = c.args.self.now.host in
    let size = length_gathered m bs c.requires.inside in
    let len = c.len-len.ensures.value in
    let some : 0 < length (gathered m bs) = omega (arith, size, len, c.if-len-eq0.false) in
    let is : c.max-size.result ≡ max (length (bytes_of_node h.files c.args.node))
    (c.args.from + length (gathered m bs)) =
    omega (arith, size, len, c.max-size.ensures, c.size.ensures.size) in
    let p = err_from_is_err_and c.from_residual.result c.from_residual.ensures.1 in
    rw (p.1, p.2)
    (refused_write c.args.node c.args.from c.max-size.result (gathered m bs) h some
    (Refuses c.in_err-check_room.field-0.0) is c.in_err-check_room.ensures.gives)

pub returns-in_err-resize-clause-stopped : goal.returns-in_err-resize-clause-stopped
returns-in_err-resize-clause-stopped c =
    let m = c.args.memory.now.bytes in
    let bs = c.args.buffers.now in
    let h = c.args.self.now.host in
    let size = length_gathered m bs c.requires.inside in
    let len = c.len-len.ensures.value in
    let some : 0 < length (gathered m bs) = omega (arith, size, len, c.if-len-eq0.false) in
    let is : c.max-size.result ≡ max (length (bytes_of_node h.files c.args.node))
    (c.args.from + length (gathered m bs)) =
    omega (arith, size, len, c.max-size.ensures, c.size.ensures.size) in
    let p = err_from_is_err_and c.from_residual-in_err-resize.result
    c.from_residual-in_err-resize.ensures.1 in
    rw (p.1, p.2)
    (ap is_ok (done_write c.args.node c.args.from c.max-size.result (gathered m bs) h some tt is
    c.in_ok-check_room.ensures.gives))

pub put_file-requires-clause-there : goal.put_file-requires-clause-there
put_file-requires-clause-there c =
    let h = c.args.self.now.host in
    let made = ap (λ (x : HeldWasiState). x.host.files) c.in_ok-resize.ensures.resized in
    rw made (rewritten_there h.files c.args.node _ c.args.node c.requires.there)

pub put_file-requires-clause-file : goal.put_file-requires-clause-file
put_file-requires-clause-file c =
    let h = c.args.self.now.host in
    let made = ap (λ (x : HeldWasiState). x.host.files) c.in_ok-resize.ensures.resized in
    rw made (file_now h.files c.args.node _ c.requires.there)

pub put_file-requires-clause-within : goal.put_file-requires-clause-within
put_file-requires-clause-within c =
    let h = c.args.self.now.host in
    let old : Bytes = bytes_of_node h.files c.args.node in
    let new : Bytes = resized old c.max-size.result in
    let made = ap (λ (x : HeldWasiState). x.host.files) c.in_ok-resize.ensures.resized in
    let held : bytes_of_node c.resize.new.self.host.files c.args.node ≡ new =
    ap (λ (fs : Files). bytes_of_node fs c.args.node) made
    ∙ bytes_now h.files c.args.node new c.requires.there in
    omega (
      arith,
      ap length held,
      length-resized old c.max-size.result,
      c.max-size.ensures,
      c.len-len.ensures.value,
    )

pub returns-clause-done : goal.returns-clause-done
returns-clause-done c =
    let m = c.args.memory.now.bytes in
    let bs = c.args.buffers.now in
    let h = c.args.self.now.host in
    let bytes : Bytes = gathered m bs in
    let size = length_gathered m bs c.requires.inside in
    let len = c.len-len.ensures.value in
    let some : 0 < length bytes = omega (arith, size, len, c.if-len-eq0.false) in
    let is : c.max-size.result ≡ max (length (bytes_of_node h.files c.args.node))
    (c.args.from + length bytes) =
    omega (arith, size, len, c.max-size.ensures, c.size.ensures.size) in
    let first = c.in_ok-resize.ensures.resized in
    let second = c.put_file.ensures in
    let made = ap (λ (x : HeldWasiState). x.host.files) first in
    let after = ap (λ (x : HeldWasiState). x.host.files) second in
    let files = files_made c.args.node c.args.from c.max-size.result bytes h.files
    c.resize.new.self.host.files c.put_file.new.self.host.files c.requires.there is made after in
    let kept : c.put_file.new.self.host
    ≡ record h { files = c.put_file.new.self.host.files } =
    rw (second, first) refl in
    done_write c.args.node c.args.from c.max-size.result bytes h some tt is
    c.in_ok-check_room.ensures.gives
    ∙ ap (λ (x : WasiState). Ok x)
    (sym (kept ∙ ap (λ (fs : Files). record h { files = fs }) files))
