use Rattle.std.proofs.Common.{◌∙◌, ap}
use Rattle.journal_store.specs.DeviceStores.{device_of}
use Rattle.durability_laws.proofs.on_device.check_device.Goals as goal

pub returns-in-Ok : goal.returns-in-Ok
returns-in-Ok g c = λ faithful. record {
  opened = c.in-Ok.opened;
  is_opened = c.in-Ok.ensures.opens faithful;
  left_is = c.into_device.ensures ∙ ap (λ s. device_of s) c.into_store.ensures;
}

pub returns-in-Err : goal.returns-in-Err
returns-in-Err g c = λ faithful. c.in-Err.ensures.opens faithful
