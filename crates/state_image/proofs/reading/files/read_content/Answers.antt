use Rattle.std.proofs.Common.{sym, ◌∙◌}
use Rattle.state_image.proofs.FrontReads.{no_count, no_file, no_file_type}
use Rattle.state_image.proofs.reading.files.read_content.Goals as goal

pub returns-in_err-count : goal.returns-in_err-count
returns-in_err-count c =
    rw c.from_residual-in_err-count.ensures
    (no_count c.in_ok-file_type.file_type c.args.reader.now c.u8.new.self c.count.new.self
    c.in_ok-file_type.ensures (c.if-file_type-number.true ∙ c.number.ensures)
    c.in_err-count.ensures)

pub returns-in_err-long_text : goal.returns-in_err-long_text
returns-in_err-long_text c =
    rw c.from_residual-in_err-long_text.ensures
    (no_file c.in_ok-file_type.file_type c.args.reader.now c.u8.new.self c.long_text.new.self
    c.in_ok-file_type.ensures (c.if-file_type-number-2.true ∙ c.number-2.ensures)
    c.in_err-long_text.ensures)

pub returns : goal.returns
returns c =
    no_file_type c.in_ok-file_type.file_type c.args.reader.now c.u8.new.self
    c.in_ok-file_type.ensures (λ e. c.if-file_type-number.false (e ∙ sym c.number.ensures))
    (λ e. c.if-file_type-number-2.false (e ∙ sym c.number-2.ensures))
