use Rattle.std.proofs.Common.{inl, inr, refl}
use Rattle.cli.specs.Copying.{partial_path}
use Rattle.cli.specs.Restoring.{restoring}
use Rattle.cli.proofs.NewFiles.{makes_file, not_opened, still_faithful}
use Rattle.cli.proofs.Restored.{restores_file}
use Rattle.cli.proofs.file_restores.restore_file.Goals as goal

pub returns-in-Err-clause-restores : goal.returns-in-Err-clause-restores
returns-in-Err-clause-restores g c =
    let state = g.Y.System.state in
    let opening = c.in-Err.ensures in
    inr (inl (record {
      why = c.from.result;
      is = refl;
      unopened = not_opened g.Y.Device.Device (state c.args.system.now) (state c.open.new.self) c.args.path.now c.in-Err.fault c.from.result c.from.ensures opening.missing opening.in_use opening.printed opening.cause opening.kept opening.counts;
    }))

pub returns-clause-restores : goal.returns-clause-restores
returns-clause-restores g c =
    let device = g.Y.Device.Device in
    let state = g.Y.System.state in
    let opened = c.in-Ok.ensures in
    let old = state c.args.system.now in
    let new = state c.close.new.self in
    restores_file device state old new c.args.path.now c.args.target.now c.args.pages c.restore_beside-left.result.1
    (makes_file device state (restoring device c.args.pages) old new c.open.new.self c.restore_beside-left.new.system c.args.path.now c.args.target.now c.in-Ok.dump c.restore_beside-left.result.0
    opened.others opened.open opened.opened (λ p is none. g.met.Y.System.no_device c.open.new.self p is none) c.close.ensures.released c.close.ensures.others
    (λ is. g.met.Y.System.faithful_devices c.args.system.now c.args.path.now c.in-Ok.dump is (opened.opened is)) c.restore_beside-left.result.1 c.restore_beside-left.ensures.makes)

-- ---- what a stop leaves

pub returns-clause-left : goal.returns-clause-left
returns-clause-left g c = λ is differ x now.
    let device = g.Y.Device.Device in
    let state = g.Y.System.state in
    let opened = c.in-Ok.ensures in
    let begun = (opened.others is).faithful is in
    let ended = still_faithful device (restoring device c.args.pages) (state c.open.new.self) (partial_path c.args.target.now) c.args.target.now c.in-Ok.dump c.restore_beside-left.result.0 (state c.restore_beside-left.new.system) c.restore_beside-left.result.1
    c.restore_beside-left.ensures.makes begun in
    let faithful = g.met.Y.System.faithful_devices c.args.system.now c.args.path.now c.in-Ok.dump is (opened.opened is) in
    elim (c.restore_beside-left.ensures.left begun faithful x (c.close.ensures.left ended c.args.target.now differ x now)) [
      | inl before ↦ inl (c.open.ensures.left is c.args.target.now differ x before)
      | inr whole ↦ inr (c.in-Ok.dump, opened.opened is, whole)
    ]
