use Rattle.std.proofs.Common.{◌∙◌, ap, arith}
use Rattle.std.proofs.lemmas.List.{length-set}
use Rattle.sector_disk.specs.rules.DiskImage.{zeros}
use Rattle.sector_disk.specs.laws.Beside.{all_zeros, zeros_more}
use Rattle.sector_disk.proofs.memory.wipe.Goals as goal

pub loop-k-init : goal.loop-k-init
loop-k-init c = (omega arith, λ k lt. absurd (omega (arith, lt)))

pub loop-k-preserved : goal.loop-k-preserved
loop-k-preserved c = (
  length-set c.loop-k.sectors.items c.loop-k.k _ ∙ c.loop-k.invariant.0,
  zeros_more c.loop-k.k c.loop-k.sectors.items (omega (arith, c.loop-k-test.true))
      c.loop-k.invariant.1,
)

pub returns : goal.returns
returns c =
    all_zeros c.loop-k.k c.loop-k.sectors.items (omega (arith, c.loop-k-test.false))
    c.loop-k.invariant.1 ∙ ap zeros c.loop-k.invariant.0
