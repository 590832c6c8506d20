use Rattle.std.proofs.Common.{◌≡◌, ◌-◌, arith}
use Rattle.std.specs.Prelude.{Option, None}
use Rattle.wasi_calls_rules.specs.WasiStates.{Descriptor}
use Rattle.wasi_calls.proofs.Descriptors.{one_more, begun}
use Rattle.wasi_calls.proofs.host.begin.Goals as goal

pub loop-preserved : goal.loop-preserved
loop-preserved c =
    one_more (Option Descriptor) c.push-4.new.self.items c.loop.descriptors.items
    c.push-in-loop.new.self.items None c.loop.counter c.loop.auto.counter c.loop.invariant
    c.in_ok-push-5.ensures.items

pub returns : goal.returns
returns c =
    let all : c.loop.counter - 4 ≡ 60 = omega arith in
    begun c.in_ok-descriptors.descriptors.items c.push.new.self.items c.push-2.new.self.items
    c.push-3.new.self.items c.push-4.new.self.items c.loop.descriptors.items
    c.stream.result c.stream-2.result c.stream-3.result c.directory-root.result (c.loop.counter - 4)
    c.in_ok-descriptors.ensures.items c.in_ok-push.ensures.items c.in_ok-push-2.ensures.items
    c.in_ok-push-3.ensures.items c.in_ok-push-4.ensures.items
    c.stream.ensures c.stream-2.ensures c.stream-3.ensures c.directory-root.ensures all
    c.loop.invariant
