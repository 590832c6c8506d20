use Rattle.std.proofs.Common.{length, drop, refl, sym, ap, ◌∙◌}
use Rattle.command_words.proofs.LineLemmas.Whole.{takes_in}
use Rattle.command_words.proofs.lines.whole.WholeLines.take_in.Goals as goal

pub returns : goal.returns
returns g c = record {
  taken = takes_in c.args.bytes.now c.args.self.now.lines.items c.args.self.now.rest.items
      c.as_slice.result.now c.givable-given.result.now c.extend_from_slice-2.new.self.items
      c.drop.new.self.0.items
      (c.as_slice.ensures.value ∙ c.in_ok-extend_from_slice.ensures.items)
      c.givable-given.ensures c.in_ok-extend_from_slice-2.ensures.items
      (c.drop.ensures.items ∙ c.drain.ensures.kept
      ∙ ap (drop (length c.givable-given.result.now)) (sym c.as_slice.ensures.value));
  reader = refl;
  leaves = refl;
  given = refl;
}
