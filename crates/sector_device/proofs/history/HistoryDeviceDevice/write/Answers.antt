use Rattle.std.proofs.Common.{refl, arith}
use Rattle.sector_device.proofs.Devices.{plain_history}
use Rattle.sector_device.proofs.Histories.{elapses_more, elapses_none, holds_write, writes_write, writes_none}
use Rattle.sector_device.specs.declared.call.Call.TheVariants.{Write}
use Rattle.sector_device.proofs.history.HistoryDeviceDevice.write.Goals as goal

pub invariant_of-self-clause-holds : goal.invariant_of-self-clause-holds
invariant_of-self-clause-holds c s inside =
    let d = c.args.self.now in
    holds_write d.last.items c.args.sector s c.args.bytes.now d.calls.items _ c.in-Ok.ensures.items (omega (arith, d.count, c.requires)) (d.holds s inside)

pub returns-in-Ok-clause-writes : goal.returns-in-Ok-clause-writes
returns-in-Ok-clause-writes c =
    let d = c.args.self.now in
    writes_write d.sectors d.failures _ c.args.sector c.args.bytes.now d.calls.items _ c.in-Ok.ensures.items

pub returns-in-Err-clause-writes : goal.returns-in-Err-clause-writes
returns-in-Err-clause-writes c =
    let d = c.args.self.now in
    writes_none d.sectors d.failures _ c.args.sector c.args.bytes.now d.calls.items _ c.in-Err.ensures.items

pub returns-in-Ok-clause-history : goal.returns-in-Ok-clause-history
returns-in-Ok-clause-history c =
    let d = c.args.self.now in
    plain_history _ _ (λ s none. none) (λ s none. none) refl (λ is. is) (λ is. is) (omega arith) (λ is. elapses_more d.sectors d.failures d.failures d.calls.items _ (Write c.args.sector c.args.bytes.now) c.in-Ok.ensures.items)

pub returns-in-Err-clause-history : goal.returns-in-Err-clause-history
returns-in-Err-clause-history c =
    let d = c.args.self.now in
    plain_history _ _ (λ s none. none) (λ s none. none) refl (λ is. is) (λ is. is) (omega arith) (λ is. elapses_none d.sectors d.failures d.failures d.calls.items _ c.in-Err.ensures.items)
