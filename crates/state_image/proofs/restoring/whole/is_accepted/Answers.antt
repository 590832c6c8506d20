use Rattle.state_image.proofs.restoring.whole.is_accepted.Goals as goal

pub returns : goal.returns
returns c = λ entry has.
    let may = c.may_be_accepted.ensures entry has in (
      λ told. (c.is_empty.ensures.0 c.if-not-is_empty.false, may.0 told),
      λ is. may.1 is.1,
    )
