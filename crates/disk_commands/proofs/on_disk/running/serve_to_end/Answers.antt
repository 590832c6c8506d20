use Rattle.std.proofs.Common.{refl}
use Rattle.std.specs.Io.Buffered.{reader_buffer}
use Rattle.disk_commands.specs.rules.Leavings.{input_left}
use Rattle.disk_commands.proofs.on_disk.running.serve_to_end.Goals as goal

pub returns : goal.returns
returns g c =
    let requests = c.serve-status.new.source.requests in
    record {
      failed' = requests.reader.has_failed;
      between = c.serve-status.new.err;
      served = c.serve-status.result;
      serves = c.serve-status.ensures.serves;
      heeds = c.serve-status.ensures.refusal;
      left = input_left c.args.drive.disk.now requests.version requests.taken
          (reader_buffer requests.reader.reader) requests.reader.begun requests.skipped
          c.report_input.ensures.0;
      named = refl;
      says = c.report_input.ensures.2;
    }
