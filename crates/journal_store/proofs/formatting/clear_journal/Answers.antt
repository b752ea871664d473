use Rattle.journal.proofs.Appending.{on_ok_both}
use Rattle.journal_store.proofs.Clearing.{clears_some, all_cleared}
use Rattle.journal_store.proofs.formatting.clear_journal.Goals as goal

pub returns-clause-clears : goal.returns-clause-clears
returns-clause-clears g c faithful = clears_some _ _ (c.write_protected.ensures.writes faithful)

pub returns-clause-cleared : goal.returns-clause-cleared
returns-clause-cleared g c faithful =
    on_ok_both c.write_protected.result (c.write_protected.ensures.written faithful) (c.write_protected.ensures.synced faithful) (λ written synced. all_cleared (g.D.Device.state c.args.device.now) (g.D.Device.state c.write_protected.new.self) written synced)
