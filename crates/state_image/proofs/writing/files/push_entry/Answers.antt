use Rattle.std.proofs.Common.{◌++◌, sym, ◌∙◌}
use Rattle.wasi_abi.specs.rules.Layouts.{u64_bytes}
use Rattle.state_image.proofs.Pushing.{pushes_on, pushes_exit}
use Rattle.state_image.proofs.NodesAt.{has_entry, entry_pushed}
use Rattle.state_image.proofs.writing.files.push_entry.Goals as goal

pub unwrap-number-requires : goal.unwrap-number-requires
unwrap-number-requires g c =
    has_entry c.args.tree.now c.args.directory c.args.place c.entry.result c.entry.ensures
    c.requires

pub returns-in_err-push_short_length : goal.returns-in_err-push_short_length
returns-in_err-push_short_length g c = λ e at.
    let numbered = sym c.entry.ensures ∙ c.unwrap-number.ensures in
    entry_pushed c.args.tree.now c.args.directory c.args.place e at _ _ numbered
    (c.name-name.ensures.of_entry _ _ numbered)
    (pushes_exit (c.name-name.result.now ++ u64_bytes c.unwrap-number.result) _
    c.from_residual.ensures.1 c.in_err-push_short_length.ensures)

pub returns-in_err-push_bytes : goal.returns-in_err-push_bytes
returns-in_err-push_bytes g c = λ e at.
    let numbered = sym c.entry.ensures ∙ c.unwrap-number.ensures in
    entry_pushed c.args.tree.now c.args.directory c.args.place e at _ _ numbered
    (c.name-name.ensures.of_entry _ _ numbered)
    (pushes_on c.in_ok-push_short_length.ensures
    (pushes_exit (u64_bytes c.unwrap-number.result) _
    c.from_residual-in_err-push_bytes.ensures.1 c.in_err-push_bytes.ensures))

pub returns : goal.returns
returns g c = λ e at.
    let numbered = sym c.entry.ensures ∙ c.unwrap-number.ensures in
    entry_pushed c.args.tree.now c.args.directory c.args.place e at _ _ numbered
    (c.name-name.ensures.of_entry _ _ numbered)
    (pushes_on c.in_ok-push_short_length.ensures
    (pushes_on c.in_ok-push_bytes.ensures c.push_u64.ensures))
