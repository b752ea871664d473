use Rattle.durability_laws.proofs.on_device.copy_device.Goals as goal

pub returns : goal.returns
returns g c = λ faithful. record {
  copies = c.copy_database.ensures.copies faithful;
  unwritten = record { history = c.copy_database.ensures.history; content = c.copy_database.ensures.unwritten faithful };
}
