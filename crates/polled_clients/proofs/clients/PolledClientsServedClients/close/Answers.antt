use Rattle.std.proofs.Common.{◌∙◌, ap, sym, subst}
use Rattle.std.proofs.lemmas.Bool.{ne_eqb}
use Rattle.std.specs.Prelude.{nat_eq, Option, IsSome}
use Rattle.indexmap.specs.IndexMap.{get}
use Rattle.polled_clients.specs.declared.peer.Peer.{Peer}
use Rattle.polled_clients.proofs.Placing.{is_there, has_come, has_ended, is_gone, goes_alone, one_went}
use Rattle.polled_clients.proofs.clients.PolledClientsServedClients.close.Goals as goal

pub unwrap-peer-requires : goal.unwrap-peer-requires
unwrap-peer-requires g c =
    let self = c.args.self.now in
    let client = c.args.client in
    subst (λ (o : Option (Peer g.row.T.Denot g.row.C.Denot)). IsSome o) (sym c.swap_remove.ensures.value)
    (is_there g.T.Talk g.C.Channel self.came client (get nat_eq self.peers client) (g.A.Attend.closed self.attend client) (g.A.Attend.coming self.attend client) c.requires)

pub returns-clause-passed : goal.returns-clause-passed
returns-clause-passed g c =
    let self = c.args.self.now in
    let client = c.args.client in
    let old = self.attend in
    let new = c.close.new.self in
    let p = get nat_eq self.peers in
    let updates = c.swap_remove.ensures.updates in
    let here = sym c.swap_remove.ensures.value ∙ c.unwrap-peer.ensures in
    one_went g.T.Talk g.C.Channel g.met.T.Talk.front_more g.met.T.Talk.bad_more (g.F.TalkMaker.makes c.args.self.now.maker) self.came client p (get nat_eq c.swap_remove.new.self) (g.A.Attend.closed old) (g.A.Attend.coming old) (g.A.Attend.closed new) (g.A.Attend.coming new) c.unwrap-peer.result here
    (has_come g.T.Talk g.C.Channel self.came client (p client) (g.A.Attend.closed old client) (g.A.Attend.coming old client) c.requires)
    (has_ended g.T.Talk g.C.Channel self.came client (p client) (g.A.Attend.closed old client) (g.A.Attend.coming old client) c.unwrap-peer.result c.requires here)
    updates.1 (c.close.ensures.closed ∙ ap g.C.Channel.taken c.into_channel.ensures) (λ n other. updates.2 n (ne_eqb client n (λ same. other (sym same)))) c.close.ensures.others c.close.ensures.coming

pub returns-clause-gone : goal.returns-clause-gone
returns-clause-gone g c =
    let self = c.args.self.now in
    let client = c.args.client in
    let old = self.attend in
    let new = c.close.new.self in
    is_gone g.T.Talk g.C.Channel self.came client (get nat_eq c.swap_remove.new.self client) (g.A.Attend.closed new client) (g.A.Attend.coming new client)
    (has_come g.T.Talk g.C.Channel self.came client (get nat_eq self.peers client) (g.A.Attend.closed old client) (g.A.Attend.coming old client) c.requires) c.swap_remove.ensures.updates.1

pub returns-clause-alone : goal.returns-clause-alone
returns-clause-alone g c =
    let self = c.args.self.now in
    let client = c.args.client in
    let old = self.attend in
    let new = c.close.new.self in
    let updates = c.swap_remove.ensures.updates in
    goes_alone g.T.Talk g.C.Channel self.came client (get nat_eq self.peers) (get nat_eq c.swap_remove.new.self) (g.A.Attend.closed old) (g.A.Attend.coming old) (g.A.Attend.closed new) (g.A.Attend.coming new)
    (λ n other. updates.2 n (ne_eqb client n (λ same. other (sym same)))) c.close.ensures.others c.close.ensures.coming
