use Rattle.std.proofs.Common.{Some, ap, sym, arith}
use Rattle.std.specs.Prelude.{nat_eq}
use Rattle.indexmap.specs.IndexMap.{get}
use Rattle.polled_clients.proofs.Placing.{nobody_there, all_came}
use Rattle.polled_clients.proofs.clients.PolledClients.finish.Goals as goal

pub returns-then-stopped-clause-ends : goal.returns-then-stopped-clause-ends
returns-then-stopped-clause-ends g c =
    let self = c.args.self.now in
    (c.if-stopped.true, nobody_there g.T.Talk g.C.Channel self.came (get nat_eq self.peers) (g.A.Attend.closed self.attend) (g.A.Attend.coming self.attend) (c.is_deserted.ensures.nobody c.if-not-is_deserted.false))

pub returns-then-self-clause-ends : goal.returns-then-self-clause-ends
returns-then-self-clause-ends g c =
    let self = c.args.self.now in (
      self.came,
      ap Some (sym c.if-self.true),
      all_came g.T.Talk g.C.Channel self.came (get nat_eq self.peers) (g.A.Attend.closed self.attend) (g.A.Attend.coming self.attend) (c.is_deserted.ensures.nobody c.if-not-is_deserted.false),
    )

pub returns-then-self-gt0-clause-ends : goal.returns-then-self-gt0-clause-ends
returns-then-self-gt0-clause-ends g c =
    let self = c.args.self.now in
    ((λ none. absurd (omega arith)), nobody_there g.T.Talk g.C.Channel self.came (get nat_eq self.peers) (g.A.Attend.closed self.attend) (g.A.Attend.coming self.attend) (c.is_deserted.ensures.nobody c.if-not-is_deserted.false))
