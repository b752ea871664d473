use Rattle.std.proofs.Common.{inl, inr, refl}
use Rattle.cli.specs.Copying.{partial_path}
use Rattle.cli.proofs.Copied.{copies_file, still_faithful}
use Rattle.cli.proofs.NewFiles.{not_opened}
use Rattle.cli.proofs.file_copies.copy_file.Goals as goal

pub returns-in-Err-clause-copies : goal.returns-in-Err-clause-copies
returns-in-Err-clause-copies g c =
    let state = g.Y.System.state in
    let opening = c.in-Err.ensures in
    inr (inl (record {
      why = c.from.result;
      is = refl;
      unopened = not_opened g.Y.Device.Device (state c.args.system.now) (state c.open.new.self) c.args.path.now c.in-Err.fault c.from.result c.from.ensures opening.missing opening.in_use opening.printed opening.cause opening.kept opening.counts;
    }))

pub returns-clause-copies : goal.returns-clause-copies
returns-clause-copies g c =
    let state = g.Y.System.state in
    let opened = c.in-Ok.ensures in
    copies_file g.Y.Device.Device state (state c.args.system.now) (state c.close.new.self) c.open.new.self c.copy_beside-left.new.system c.args.path.now c.args.target.now c.args.pages c.in-Ok.device c.copy_beside-left.result.0
    opened.others opened.open opened.opened (λ p is none. g.met.Y.System.no_device c.open.new.self p is none) c.close.ensures.released c.close.ensures.others
    (λ is. g.met.Y.System.faithful_devices c.args.system.now c.args.path.now c.in-Ok.device is (opened.opened is)) g.met.Y.Device.Device.only_now c.copy_beside-left.result.1 c.copy_beside-left.ensures.copies

-- ---- what a stop leaves

pub returns-clause-left : goal.returns-clause-left
returns-clause-left g c = λ is differ x now.
    let opened = c.in-Ok.ensures in
    let state = g.Y.System.state in
    let begun = (opened.others is).faithful is in
    let ended = still_faithful g.Y.Device.Device (state c.open.new.self) (partial_path c.args.target.now) c.args.target.now c.args.pages c.in-Ok.device c.copy_beside-left.result.0 (state c.copy_beside-left.new.system) c.copy_beside-left.result.1 c.copy_beside-left.ensures.copies begun in
    let faithful = g.met.Y.System.faithful_devices c.args.system.now c.args.path.now c.in-Ok.device is (opened.opened is) in
    elim (c.copy_beside-left.ensures.left begun faithful x (c.close.ensures.left ended c.args.target.now differ x now)) [
      | inl before ↦ inl (c.open.ensures.left is c.args.target.now differ x before)
      | inr whole ↦ inr (c.in-Ok.device, opened.opened is, whole)
    ]
