use Rattle.std.proofs.Common.{inl, inr, refl}
use Rattle.cli.proofs.Changes.{but_joined}
use Rattle.cli.proofs.file_restores.read_as_dump.Goals as goal

pub returns-in_default : goal.returns-in_default
returns-in_default g c = inl (refl, c.in_default.ensures.kept)

pub returns : goal.returns
returns g c =
    let opened = c.in-Ok.ensures in
    let checked = c.check_dump-left in
    inr (record {
      device = c.in-Ok.device;
      left = checked.result.0;
      whole = checked.result.1;
      answered = c.answer_of.ensures;
      opened = opened.opened;
      closed = λ is. c.close.ensures.released ((opened.others is).faithful is) (opened.open is);
      unwritten = λ is. record { history = checked.ensures.history; content = checked.ensures.unwritten (g.met.Y.System.faithful_devices c.args.system.now c.args.path.now c.in-Ok.device is (opened.opened is)) };
      others = λ is. but_joined c.args.path.now (g.Y.System.state c.args.system.now) (g.Y.System.state c.open.new.self) (g.Y.System.state c.close.new.self) (opened.others is) (c.close.ensures.others ((opened.others is).faithful is));
      is_whole = λ is. checked.ensures.whole (g.met.Y.System.faithful_devices c.args.system.now c.args.path.now c.in-Ok.device is (opened.opened is));
      refused = λ is. checked.ensures.refused (g.met.Y.System.faithful_devices c.args.system.now c.args.path.now c.in-Ok.device is (opened.opened is));
    })
