use Rattle.reachability.proofs.numbered.number_all.Goals as goal

pub returns : goal.returns
returns g c = c.numbered_by.ensures
