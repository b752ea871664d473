use Rattle.std.proofs.Common.{refl, sym, subst}
use Rattle.copies.specs.declared.fault.CopyFault.{CopyFault}
use Rattle.copies.specs.DeviceCopies.{CannotBegin}
use Rattle.copies.proofs.Beginning.{begun, not_marked, refused}
use Rattle.copies.proofs.marked.marked_store.Goals as goal

pub returns-in-Err : goal.returns-in-Err
returns-in-Err g c = not_marked g.D.Device c.in-Err.fault c.args.target c.mark_device.new.target g.met.D.Device.only_now c.in-Err.ensures

pub returns-in-Ok-open : goal.returns-in-Ok-open
returns-in-Ok-open g c =
    let made = c.in-Ok.ensures in
    begun (g.D.Device.state c.args.target) (g.D.Device.state c.mark_device.new.target) made.0 made.1 made.2 c.in-Ok-open.store
    (λ faithful s inside. g.met.D.Device.content_left c.mark_device.new.target s faithful inside) c.in-Ok-open.ensures

pub returns-in-Err-open : goal.returns-in-Err-open
returns-in-Err-open g c =
    let made = c.in-Ok.ensures in
    subst (λ (f : CopyFault). CannotBegin g.D.Device f c.args.target c.in-Err-open.target) (sym c.fault_of_target.ensures)
    (refused (g.D.Device.state c.args.target) (g.D.Device.state c.mark_device.new.target) made.0 made.1 made.2 g.D.Device c.in-Err-open.fault c.args.target c.in-Err-open.target refl
    (λ faithful s inside. g.met.D.Device.content_left c.mark_device.new.target s faithful inside) c.in-Err-open.ensures)
