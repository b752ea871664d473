use Rattle.store.proofs.Reading.{none_read, reads_joined}
use Rattle.store.proofs.map.reads_join.Goals as goal

pub returns-clause-none : goal.returns-clause-none
returns-clause-none g c = none_read (g.M.Map.state c.args.old.now) (g.met.M.Map.only_now c.args.old.now)

pub returns-clause-more : goal.returns-clause-more
returns-clause-more g c = reads_joined (g.M.Map.state c.args.old.now) (g.M.Map.state c.args.mid.now) (g.M.Map.state c.args.new.now)
