use Rattle.store.proofs.Reading.{cause_later}
use Rattle.store.proofs.map.causes_join.Goals as goal

pub returns : goal.returns
returns g c first same second cause = cause_later c.args.fault (g.M.Map.state c.args.old.now) (g.M.Map.state c.args.mid.now) (g.M.Map.state c.args.new.now) first.history same second.history cause
