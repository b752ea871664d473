use Rattle.sector_device.proofs.Devices.{read_leaves}
use Rattle.sector_device.proofs.device.read_leaves.Goals as goal

pub returns : goal.returns
returns g c faithful history only_reads = read_leaves _ _ (g.met.D.Device.only_now c.args.old.now faithful) history only_reads
