use Rattle.cow_pages.proofs.Preserving.{open_holds}
use Rattle.cow_pages.proofs.preserved.preserved_stays.Goals as goal

pub returns-clause-leaves : goal.returns-clause-leaves
returns-clause-leaves g c old is preserved = preserved.leaves (open_holds old (g.met.D.Device.only_now old.device is.faithful) is)

pub returns-clause-stays : goal.returns-clause-stays
returns-clause-stays g c old is preserved = preserved.stays (open_holds old (g.met.D.Device.only_now old.device is.faithful) is)

pub returns-clause-open : goal.returns-clause-open
returns-clause-open g c old is preserved healthy =
    let holds = preserved.holds (open_holds old (g.met.D.Device.only_now old.device is.faithful) is) in
    record { faithful = holds.faithful; has_not_failed = healthy; settled = holds.settled }
