use Rattle.std.proofs.Common.{◌≢◌, ◌-◌, [], All, take, sym, ap, subst, ◌∙◌, rules, arith, eq-eqb}
use Rattle.std.proofs.Common.{eqb-true, get_or, get_or-take, length-take-le, append-nil}
use Rattle.std.proofs.lemmas.List.Elements.{All-nil, All-more}
use Rattle.std.specs.Io.BufRead.{FillKeeps}
use Rattle.std.proofs.KnownBytes.{Consumes-nil, Consumes-kept}
use Rattle.std.proofs.BufReadLemmas.{Consumes_shown, zero_unless_positive}
use Rattle.std.proofs.Transfers.{StopsAt-of_All, StopsAt-take}
use Rattle.command_words.proofs.LineLemmas.Refusals.{begins_with, ends_kept}
use Rattle.command_words.proofs.lines.buffered.take_piece.Goals as goal

pub returns-in-Err-clause-moved : goal.returns-in-Err-clause-moved
returns-in-Err-clause-moved g c =
    record {
      piece = [];
      grows = sym (append-nil c.args.line.now.items);
      bytes = Consumes-kept _ _ _ [] (Consumes-nil _) c.fill_buf.follows.holds-at-none.0;
      stops = StopsAt-of_All [] 10 (All-nil (λ x. x ≢ 10));
      free = λ _. All-nil (λ x. x ≢ 10);
      ends = search rules;
      last = search rules;
    }

pub returns-then-end-eq0-clause-moved : goal.returns-then-end-eq0-clause-moved
returns-then-end-eq0-clause-moved g c =
    let end = c.line_length-end in
    let none = zero_unless_positive _ _ end.ensures.some c.if-end-eq0.true in
    record {
      piece = [];
      grows = sym (append-nil c.args.line.now.items);
      bytes = Consumes-kept _ _ _ [] (Consumes-nil _) c.fill_buf.follows.holds-at-none.0;
      stops = StopsAt-of_All [] 10 (All-nil (λ x. x ≢ 10));
      free = λ _. All-nil (λ x. x ≢ 10);
      ends = λ _ some. absurd (omega (arith, some));
      last = λ _ _. ends_kept _ _ c.in-Ok.available.now c.fill_buf.follows.holds-at-none.0
          c.in-Ok.ensures.end none;
    }

pub returns-clause-moved : goal.returns-clause-moved
returns-clause-moved g c =
    let end = c.line_length-end in
    let shown = c.in-Ok.available.now in
    let rested = c.fill_buf.follows.lender-at-none in
    let filled = subst (FillKeeps _ (g.R.Read.remaining rested)
    (g.R.BufRead.consumable_len rested)) c.in-Ok.is c.fill_buf.follows.holds-at-none in
    let moved = Consumes_shown _ _ _ _ shown end.result end.ensures.bound c.in-Ok.ensures.front
    c.in-Ok.ensures.end filled.0 filled.1 c.consume.ensures.bytes in
    let long = length-take-le end.result shown end.ensures.bound in
    record {
      piece = take end.result shown;
      grows = search rules;
      bytes = moved.0;
      stops = StopsAt-take _ _ _ end.ensures.bound end.ensures.before;
      free = λ more. subst (λ k. All (λ x. x ≢ 10) (take k shown))
          (omega (arith, c.if-end-eq0.false))
          (All-more (λ x. x ≢ 10) _ (end.result - 1) 0
          (omega (arith, c.if-end-eq0.false, end.ensures.bound)) end.ensures.before
          (λ e. more (eq-eqb _ _ e)));
      ends = λ done some. ap (λ n. get_or (take end.result shown) (n - 1) 0) long
          ∙ get_or-take end.result shown (end.result - 1) 0 (omega (arith, c.if-end-eq0.false))
          ∙ eqb-true _ _ done;
      last = λ _ none. absurd (omega (arith, c.if-end-eq0.false, long, none));
    }

pub returns-then-end-saturating_sub-clause-failed :
    goal.returns-then-end-saturating_sub-clause-failed
returns-then-end-saturating_sub-clause-failed g c =
    let end = c.line_length-end in
    let shown = c.in-Ok.available.now in
    begins_with c.args.limit (g.R.Read.remaining c.args.reader.now) c.args.line.now.items shown
    end.result end.ensures.bound c.in-Ok.ensures.front
    (StopsAt-take _ _ _ end.ensures.bound end.ensures.before) (
    omega arith
    )
