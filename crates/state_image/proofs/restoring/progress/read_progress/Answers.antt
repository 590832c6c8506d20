use Rattle.state_image.proofs.ProgressRead.{no_mark, no_counts, no_end, no_streams, has_progress}
use Rattle.state_image.proofs.restoring.progress.read_progress.Goals as goal

pub returns-in_err-version : goal.returns-in_err-version
returns-in_err-version c =
    rw c.from_residual.ensures
    (no_mark c.args.reader.now c.read_mark.new.reader c.in_err-version.ensures)

pub returns-in_err-counts : goal.returns-in_err-counts
returns-in_err-counts c =
    rw c.from_residual-in_err-counts.ensures
    (no_counts c.args.reader.now c.read_mark.new.reader c.in_ok-version.version
    c.in_ok-version.ensures
    c.read_counts.new.reader c.in_err-counts.ensures)

pub returns-in_err-end : goal.returns-in_err-end
returns-in_err-end c =
    rw c.from_residual-in_err-end.ensures
    (no_end c.args.reader.now c.read_mark.new.reader c.in_ok-version.version
    c.in_ok-version.ensures
    c.in_ok-counts.counts c.read_counts.new.reader c.in_ok-counts.ensures c.read_end.new.reader
    c.in_err-end.ensures)

pub returns-in_err-streams : goal.returns-in_err-streams
returns-in_err-streams c =
    rw c.from_residual-in_err-streams.ensures
    (no_streams c.args.reader.now c.read_mark.new.reader c.in_ok-version.version
    c.in_ok-version.ensures
    c.in_ok-counts.counts c.read_counts.new.reader c.in_ok-counts.ensures c.in_ok-end.end
    c.read_end.new.reader c.in_ok-end.ensures c.read_streams.new.reader c.in_err-streams.ensures)

pub returns : goal.returns
returns c =
    has_progress (record {
      version = c.in_ok-version.version;
      counts = c.in_ok-counts.counts;
      end = c.in_ok-end.end;
      streams = c.in_ok-streams.streams;
    }) c.args.reader.now c.read_mark.new.reader c.read_counts.new.reader c.read_end.new.reader
    c.read_streams.new.reader c.in_ok-version.ensures c.in_ok-counts.ensures c.in_ok-end.ensures
    c.in_ok-streams.ensures
