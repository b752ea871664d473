use Rattle.std.proofs.Common.{inr}
use Rattle.cli.proofs.Changes.{closed_again}
use Rattle.cli.proofs.opened.renew_in.Goals as goal

pub returns-in-Ok-clause-opens : goal.returns-in-Ok-clause-opens
returns-in-Ok-clause-opens g c = λ first at. record {
  device = at.device;
  named = at.named;
  is_opened = λ is. c.in-Ok.ensures.opens at.device (at.is_opened is);
  is_open = at.is_open;
  others = at.others;
  counts = at.counts;
}

pub returns-in-Err-clause-opens : goal.returns-in-Err-clause-opens
returns-in-Err-clause-opens g c = λ first at. inr (record {
  device = at.device;
  left = c.in-Err.device;
  why = c.in-Err.fault;
  is = c.from.ensures;
  changes = λ is. closed_again g.Y.Device.Device c.args.path.now at.device c.in-Err.device (g.Y.System.state first) (g.Y.System.state c.args.system.now) (g.Y.System.state c.close.new.self)
      (at.named is) (at.is_open is) (at.others is) c.close.ensures.closed c.close.ensures.others is;
  refused = λ is. c.in-Err.ensures.opens at.device (at.is_opened is);
})
