use Rattle.std.proofs.Common.{◌∙◌, Some, ap, sym}
use Rattle.std.specs.Option.{option_copied}
use Rattle.std.specs.Prelude.{nat_eq}
use Rattle.indexmap.specs.IndexMap.{get}
use Rattle.polled_clients.proofs.Placing.{lent, who_wants_is_there, is_wanted}
use Rattle.polled_clients.proofs.clients.PolledClientsServedClients.want.Goals as goal

pub unwrap-requires : goal.unwrap-requires
unwrap-requires g c =
    let self = c.args.self.now in
    let client = c.args.client in
    lent c.get.result (get nat_eq self.peers client) c.get.ensures.value
    (who_wants_is_there g.T.Talk g.C.Channel self.came client (get nat_eq self.peers client) (g.A.Attend.closed self.attend client) (g.A.Attend.coming self.attend client) c.requires.0 c.requires.1)

pub returns : goal.returns
returns g c =
    let self = c.args.self.now in
    let client = c.args.client in
    is_wanted g.T.Talk g.C.Channel self.came client (get nat_eq self.peers client) (g.A.Attend.closed self.attend client) (g.A.Attend.coming self.attend client) c.requires.0 c.unwrap.result.now c.requires.1
    (sym c.get.ensures.value ∙ ap option_copied c.unwrap.ensures)
    ∙ ap Some (sym c.want.ensures)
