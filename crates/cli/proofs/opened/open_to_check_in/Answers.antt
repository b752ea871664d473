use Rattle.std.proofs.Common.{inl, inr}
use Rattle.cli.proofs.Changes.{closed_again}
use Rattle.cli.proofs.opened.open_to_check_in.Goals as goal

pub returns-in-Ok-open_database : goal.returns-in-Ok-open_database
returns-in-Ok-open_database g c = record {
  device = c.in-Ok.device;
  named = c.in-Ok.ensures.opened;
  is_opened = λ is. c.in-Ok-open_database.ensures.opens (g.met.Y.System.faithful_devices c.args.system.now c.args.path.now c.in-Ok.device is (inl (c.in-Ok.ensures.opened is)));
  is_open = c.in-Ok.ensures.open;
  others = c.in-Ok.ensures.others;
  counts = c.in-Ok.ensures.counts;
}

pub returns-in-Err-open_database : goal.returns-in-Err-open_database
returns-in-Err-open_database g c = inr (record {
  device = c.in-Ok.device;
  left = c.in-Err-open_database.left;
  why = c.in-Err-open_database.fault;
  is = c.from-in-Err-open_database.ensures;
  changes = λ is. closed_again g.Y.Device.Device c.args.path.now c.in-Ok.device c.in-Err-open_database.left (g.Y.System.state c.args.system.now) (g.Y.System.state c.open.new.self) (g.Y.System.state c.close.new.self)
      (c.in-Ok.ensures.opened is) (c.in-Ok.ensures.open is) (c.in-Ok.ensures.others is) c.close.ensures.closed c.close.ensures.others is;
  refused = λ is. c.in-Err-open_database.ensures.opens (g.met.Y.System.faithful_devices c.args.system.now c.args.path.now c.in-Ok.device is (inl (c.in-Ok.ensures.opened is)));
})
