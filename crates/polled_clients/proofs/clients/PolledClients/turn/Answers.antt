use Rattle.std.proofs.Common.{Bool, subst, arith}
use Rattle.std.specs.Prelude.{nat_eq}
use Rattle.indexmap.specs.IndexMap.{get}
use Rattle.talks.specs.Clients.{is_client}
use Rattle.polled_clients.specs.ClientStates.{states, state_at, HasNeedAt}
use Rattle.polled_clients.specs.declared.need.EndOrder.{EndOrder}
use Rattle.polled_clients.proofs.Placing.{moved_none, moved_one, need_at}
use Rattle.polled_clients.proofs.clients.PolledClients.turn.Goals as goal

pub returns-then-pick-self-clause-moved : goal.returns-then-pick-self-clause-moved
returns-then-pick-self-clause-moved g c = moved_none g.T.Talk g.C.Channel g.met.T.Talk.front_more g.met.T.Talk.bad_more (g.F.TalkMaker.makes c.args.self.now.maker) (states g.C.Channel g.A.Attend c.args.self.now)

pub returns-clause-moved : goal.returns-clause-moved
returns-clause-moved g c =
    let self = c.args.self.now in
    moved_one g.T.Talk g.C.Channel g.met.T.Talk.front_more g.met.T.Talk.bad_more (g.F.TalkMaker.makes c.args.self.now.maker) self.came c.args.pick.client (get nat_eq self.peers) (get nat_eq c.take_turn.new.peers) (g.A.Attend.closed self.attend) (g.A.Attend.coming self.attend)
    c.take_turn.ensures.here c.take_turn.ensures.others

pub returns-clause-need : goal.returns-clause-need
returns-clause-need g c =
    let self = c.args.self.now in
    let client = c.args.pick.client in
    let order : Bool → Bool → EndOrder = λ b d. record { stopped = c.args.stopped; cut_off = b; expelled = d } in
    let here = state_at g.C.Channel self.came client (get nat_eq c.take_turn.new.peers client) (g.A.Attend.closed self.attend client) (g.A.Attend.coming self.attend client) in
    subst (λ (d : Bool). HasNeedAt g.T.Talk (order (is_client client self.lock.cut_off) d) c.take_turn.result here) c.is_expelled.ensures
    (subst (λ (b : Bool). HasNeedAt g.T.Talk (order b c.is_expelled.result) c.take_turn.result here) c.is_cut_off.ensures
    (need_at g.T.Talk g.C.Channel (order c.is_cut_off.result c.is_expelled.result) self.came client c.take_turn.result (get nat_eq c.take_turn.new.peers client) (g.A.Attend.closed self.attend client) (g.A.Attend.coming self.attend client) (omega arith)
    c.take_turn.ensures.need))
