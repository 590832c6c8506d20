use Rattle.std.proofs.Common.{get_or, refl, subst}
use Rattle.std.specs.Io.KnownBytes.{Appends}
use Rattle.command_words.proofs.RecordLemmas.{next_digits, no_digits}
use Rattle.command_words.proofs.lines.records.spell_digits.Goals as goal

pub loop-byte-init : goal.loop-byte-init
loop-byte-init g c = no_digits (g.W.Write.contents c.args.out.now) c.args.bytes.now

pub loop-byte-preserved : goal.loop-byte-preserved
loop-byte-preserved g c =
    let bytes = c.args.bytes.now in
    let i = c.loop-byte.byte-index in
    let now = g.W.Write.contents c.loop-byte.out in
    let next = g.W.Write.contents c.write_all.new.self in
    next_digits bytes i (get_or bytes i 0) (g.W.Write.contents c.args.out.now) now next
    c.loop-byte-test.true refl c.loop-byte.invariant
    (subst (Appends now next) c.digits_of.ensures c.in_ok-write_all.ensures.bytes)
