use Rattle.std.proofs.Common.{◌∙◌, Bool, Some, ap, inl, refl, subst}
use Rattle.talks.specs.Clients.{IsNext}
use Rattle.talks_tests.specs.TwoClients.{states, waiting_of, contention_of}
use Rattle.talks_tests.proofs.Two.{moved_none, moved_on, none_dropped}
use Rattle.talks_tests.proofs.clients.TwoClientsServedClients.next.Goals as goal

pub looking-init : goal.looking-init
looking-init g c = (moved_none g.T.Talk g.met.T.Talk.front_more g.met.T.Talk.bad_more (states c.args.self.now), refl, refl)

pub returns-in-Some-clause-moved : goal.returns-in-Some-clause-moved
returns-in-Some-clause-moved g c =
    moved_on g.T.Talk g.met.T.Talk.front_more g.met.T.Talk.bad_more (states c.args.self.now) (states c.looking.self) (states c.look.new.self) c.looking.invariant.0 c.look.ensures.moved

pub looking-preserved : goal.looking-preserved
looking-preserved g c =
    (moved_on g.T.Talk g.met.T.Talk.front_more g.met.T.Talk.bad_more (states c.args.self.now) (states c.looking.self) (states c.look.new.self) c.looking.invariant.0 c.look.ensures.moved, c.look.ensures.waiting ∙ c.looking.invariant.1, c.look.ensures.contended ∙ c.looking.invariant.2)

pub returns-in-Some-clause-next : goal.returns-in-Some-clause-next
returns-in-Some-clause-next g c =
    let new = c.look.new.self in
    subst (λ (b : Bool). IsNext g.T.Talk b (g.M.Machine.MayHaveDropped c.args.machine.now) (g.M.Machine.Has c.args.machine.now) (g.M.Machine.LacksRole c.args.machine.now) (states new) (waiting_of new.queue) (contention_of new.contended) (Some 2) 0 new.looks c.in-Some.next) c.has_stopped.ensures
    (none_dropped g.T.Talk c.has_stopped.result (g.M.Machine.MayHaveDropped c.args.machine.now) (g.M.Machine.Has c.args.machine.now) (g.M.Machine.LacksRole c.args.machine.now) (states new) (waiting_of new.queue) new.contended new.looks c.in-Some.next
    (c.may_have_dropped.ensures c.if-may_have_dropped.false) c.in-Some.ensures.next)

pub returns-in-Some-clause-contention : goal.returns-in-Some-clause-contention
returns-in-Some-clause-contention g c = inl (ap contention_of (c.look.ensures.contended ∙ c.looking.invariant.2))

pub returns-in-Some-clause-expels : goal.returns-in-Some-clause-expels
returns-in-Some-clause-expels g c = λ sound. inl refl

pub returns-clause-contention : goal.returns-clause-contention
returns-clause-contention g c = inl (ap contention_of c.looking.invariant.2)

pub returns-clause-expels : goal.returns-clause-expels
returns-clause-expels g c = λ sound. inl refl
