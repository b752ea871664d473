use Rattle.talks.specs.declared.clients.Next.TheVariants as next
use Rattle.polled_clients.proofs.Expelling.{serves_next}
use Rattle.polled_clients.proofs.clients.PolledClients.unless_lost.Goals as goal

pub returns-in-Step-clause-next : goal.returns-in-Step-clause-next
returns-in-Step-clause-next g c =
    serves_next g.C.Channel g.A.Attend g.T.Talk (g.M.Machine.stopped c.args.machine.now) (g.M.Machine.MayHaveDropped c.args.machine.now) (g.M.Machine.Has c.args.machine.now) (g.M.Machine.LacksRole c.args.machine.now)
    c.args.self.now c.unless_expelled.new.self c.args.next (next.Step c.in-Step.client) c.unless_expelled.result c.unless_expelled.ensures.same c.in-Step.is tt c.requires c.unless_expelled.ensures.none

pub returns-in-Question-clause-next : goal.returns-in-Question-clause-next
returns-in-Question-clause-next g c =
    serves_next g.C.Channel g.A.Attend g.T.Talk (g.M.Machine.stopped c.args.machine.now) (g.M.Machine.MayHaveDropped c.args.machine.now) (g.M.Machine.Has c.args.machine.now) (g.M.Machine.LacksRole c.args.machine.now)
    c.args.self.now c.unless_expelled-in-Question.new.self c.args.next (next.Question c.in-Question.client) c.unless_expelled-in-Question.result c.unless_expelled-in-Question.ensures.same c.in-Question.is tt c.requires c.unless_expelled-in-Question.ensures.none
