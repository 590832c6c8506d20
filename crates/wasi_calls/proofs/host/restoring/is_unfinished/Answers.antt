use Rattle.std.proofs.Common.{sym, ◌∙◌, arith}
use Rattle.wasi_calls_rules.proofs.Fitting.{no_newline}
use Rattle.wasi_calls.proofs.host.restoring.is_unfinished.Goals as goal

pub returns-then-text-le-LINE_BYTES : goal.returns-then-text-le-LINE_BYTES
returns-then-text-le-LINE_BYTES c =
    let tells = no_newline c.args.text.now in (
      λ yes. record {
        short = omega arith;
        are_bytes = c.are_bytes.ensures;
        no_newline = tells.0 (sym c.is_without_newline.ensures ∙ yes);
      },
      λ is. c.is_without_newline.ensures ∙ tells.1 is.no_newline,
    )
