use Rattle.talks_tests.specs.Memory.{state_of}
use Rattle.talks_tests.proofs.Two.{moved_first}
use Rattle.talks_tests.proofs.clients.TwoClients.look_at_first.Goals as goal

pub returns-clause-moved : goal.returns-clause-moved
returns-clause-moved g c =
    moved_first g.T.Talk g.met.T.Talk.front_more g.met.T.Talk.bad_more (state_of c.args.self.now.first) (state_of c.args.self.now.second) (state_of c.attend.new.self) c.attend.ensures.passed c.attend.ensures.gone
