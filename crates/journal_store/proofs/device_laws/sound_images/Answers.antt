use Rattle.journal_store.specs.DeviceStoreLaws.{image_left}
use Rattle.journal_store.proofs.device_laws.sound_images.Goals as goal

pub returns : goal.returns
returns g c sound works image left = image_left c.args.store.now sound works image left
