use Rattle.std.proofs.Common.{inr}
use Rattle.disk_commands.proofs.on_disk.making.begin_on_device.Goals as goal

pub returns : goal.returns
returns g c =
    inr (record {
      disk = c.in-Ok.disk;
      disk' = c.begin_on-status.new.disk;
      taken = c.in-Ok.ensures.taken;
      closed = c.close.ensures;
      begins = c.begin_on-status.ensures;
    })
