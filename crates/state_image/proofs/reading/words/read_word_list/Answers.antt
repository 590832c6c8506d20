use Rattle.state_image.proofs.TextReads.{counted_words, no_words}
use Rattle.state_image.proofs.reading.words.read_word_list.Goals as goal

pub returns-in_err-bytes : goal.returns-in_err-bytes
returns-in_err-bytes c =
    rw c.from_residual-in_err-bytes.ensures
    (no_words c.in_ok-count.count c.in_ok-count.ensures c.in_err-bytes.ensures)

pub returns : goal.returns
returns c =
    counted_words c.in_ok-count.count c.in_ok-bytes.bytes.now c.words_in.result
    c.in_ok-count.ensures c.in_ok-bytes.ensures c.words_in.ensures.spelled c.words_in.ensures.few
