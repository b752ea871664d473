use Rattle.std.proofs.Common.{refl, sym, subst}
use Rattle.database_dumps.specs.Restoring.{RestoresDump}
use Rattle.database_dumps.proofs.RestoredOn.{has_size, not_begun, not_begun_unchanged, on_any_ok, restores, size_given, still_faithful}
use Rattle.database_dumps.proofs.restoring.restore_database.Goals as goal

pub returns-in-Err-clause-restores : goal.returns-in-Err-clause-restores
returns-in-Err-clause-restores g c = λ faithful there.
    let d = g.D.Device.state c.args.dump in
    not_begun g.E.Device d d c.in-Err.fault c.args.target c.in-Err.target there c.in-Err.ensures

pub returns-clause-restores : goal.returns-clause-restores
returns-clause-restores g c = λ faithful there.
    let d = g.D.Device.state c.args.dump in
    let e = g.D.Device.state c.restore_store-restored.new.dump in
    let begun = c.in-Ok.ensures in
    subst (λ x. RestoresDump d e c.restore_store-restored.result (g.E.Device.state c.args.target) (g.E.Device.state x)) (sym c.into_device.ensures)
    (restores d e (g.E.Device.state c.args.target) c.in-Ok.store c.restore_store-restored.new.store begun c.restore_store-restored.ensures.history there c.sound_images.ensures
    c.restore_store-restored.result (c.restore_store-restored.ensures.restored faithful (begun.sound there) begun.works (begun.contents there)) c.restore_store-restored.ensures.cause)

pub returns-clause-faithful : goal.returns-clause-faithful
returns-clause-faithful g c = λ there.
    let d = g.D.Device.state c.args.dump in
    let e = g.D.Device.state c.restore_store-restored.new.dump in
    on_any_ok _ c.restore_store-restored.result
    (subst (λ x. (g.E.Device.state x).faithful) (sym c.into_device.ensures)
    (still_faithful d e (g.E.Device.state c.args.target) c.in-Ok.store c.restore_store-restored.new.store c.in-Ok.ensures c.restore_store-restored.ensures.history there c.sound_images.ensures))

pub returns-in-Err-clause-wrong_size : goal.returns-in-Err-clause-wrong_size
returns-in-Err-clause-wrong_size g c = λ is.
    not_begun_unchanged g.E.Device c.in-Err.fault c.args.target c.in-Err.target (size_given c.in-Err.fault _ refl is) c.in-Err.ensures

pub returns-clause-wrong_size : goal.returns-clause-wrong_size
returns-clause-wrong_size g c = λ is.
    absurd (has_size c.restore_store-restored.result (g.D.Device.state c.args.dump) (g.D.Device.state c.restore_store-restored.new.dump) _ _ c.restore_store-restored.ensures.cause is)
