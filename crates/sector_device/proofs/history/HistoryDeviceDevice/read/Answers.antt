use Rattle.std.proofs.Common.{refl, arith}
use Rattle.sector_device.proofs.Devices.{plain_history}
use Rattle.sector_device.proofs.Histories.{elapses_more, elapses_none, holds_after, read_noted, no_reads}
use Rattle.sector_device.specs.declared.call.Call.TheVariants.{Read}
use Rattle.sector_device.proofs.history.HistoryDeviceDevice.read.Goals as goal

pub invariant_of-self-clause-holds : goal.invariant_of-self-clause-holds
invariant_of-self-clause-holds c s inside =
    let d = c.args.self.now in
    holds_after d.calls.items _ Read s _ c.in-Ok.ensures.items refl (d.holds s inside)

pub returns-in-Ok-clause-only_reads : goal.returns-in-Ok-clause-only_reads
returns-in-Ok-clause-only_reads c =
    let d = c.args.self.now in
    read_noted d.sectors d.failures _ d.calls.items _ c.in-Ok.ensures.items

pub returns-in-Err-clause-only_reads : goal.returns-in-Err-clause-only_reads
returns-in-Err-clause-only_reads c =
    let d = c.args.self.now in
    no_reads d.sectors d.failures _ d.calls.items _ c.in-Err.ensures.items

pub returns-in-Ok-clause-history : goal.returns-in-Ok-clause-history
returns-in-Ok-clause-history c =
    let d = c.args.self.now in
    plain_history _ _ (λ s none. none) (λ s none. none) refl (λ is. is) (λ is. is) (omega arith) (λ is. elapses_more d.sectors d.failures d.failures d.calls.items _ Read c.in-Ok.ensures.items)

pub returns-in-Err-clause-history : goal.returns-in-Err-clause-history
returns-in-Err-clause-history c =
    let d = c.args.self.now in
    plain_history _ _ (λ s none. none) (λ s none. none) refl (λ is. is) (λ is. is) (omega arith) (λ is. elapses_none d.sectors d.failures d.failures d.calls.items _ c.in-Err.ensures.items)
