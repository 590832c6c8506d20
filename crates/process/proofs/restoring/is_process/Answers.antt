use Rattle.process.proofs.PartsTested.{from_parts, stays_open}
use Rattle.process.proofs.restoring.is_process.Goals as goal

pub returns : goal.returns
returns c =
    let p = c.args.parts.now in
    let some = c.requires.shows in (
      λ told. from_parts p.machine p.host p.steps p.answers p.requests p.ended some
          c.requires.linked (c.are_counted.ensures.0 c.if-not-are_counted.false)
          (c.has_few_lines.ensures.0 c.if-not-has_few_lines.false)
          ((c.is_open.ensures some.program some.configuration some.shows).0 told),
      λ is. (c.is_open.ensures is.guest.program is.process.configuration
          is.shows.configuration).1
          (stays_open p.machine p.host p.steps p.answers p.requests p.ended is),
    )
