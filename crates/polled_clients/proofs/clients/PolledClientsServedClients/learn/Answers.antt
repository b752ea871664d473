use Rattle.std.proofs.Common.{◌∙◌, ap}
use Rattle.talks.specs.Clients.{contended}
use Rattle.polled_clients.proofs.Locking.{noted}
use Rattle.polled_clients.specs.LockWatches.{contention_of}
use Rattle.std.specs.Prelude.{nat_eq}
use Rattle.indexmap.specs.IndexMap.{get}
use Rattle.polled_clients.proofs.Placing.{may_learn, learns_at, taught, none_goes}
use Rattle.polled_clients.proofs.clients.PolledClientsServedClients.learn.Goals as goal

pub teach-requires : goal.teach-requires
teach-requires g c =
    let self = c.args.self.now in
    let client = c.args.client in
    may_learn g.T.Talk g.C.Channel self.came client (get nat_eq self.peers client) (g.A.Attend.closed self.attend client) (g.A.Attend.coming self.attend client) c.requires.0 c.args.reply c.requires.1 c.requires.2

pub returns-clause-learnt : goal.returns-clause-learnt
returns-clause-learnt g c =
    let self = c.args.self.now in
    let client = c.args.client in (
      c.requires.0,
      c.requires.1,
      c.requires.2,
      learns_at g.T.Talk g.C.Channel (g.F.TalkMaker.makes c.args.self.now.maker) self.came client (get nat_eq self.peers client) (get nat_eq c.teach.new.peers client) (g.A.Attend.closed self.attend client) (g.A.Attend.coming self.attend client) c.requires.0 c.args.reply
          c.requires.1 c.teach.ensures.here,
    )

pub returns-clause-passed : goal.returns-clause-passed
returns-clause-passed g c = λ w is.
    let self = c.args.self.now in
    taught g.T.Talk g.C.Channel g.met.T.Talk.front_more g.met.T.Talk.bad_more (g.F.TalkMaker.makes c.args.self.now.maker) self.came c.args.client (get nat_eq self.peers) (get nat_eq c.teach.new.peers) (g.A.Attend.closed self.attend) (g.A.Attend.coming self.attend) w c.args.reply is c.teach.ensures.here c.teach.ensures.others

pub returns-clause-gone : goal.returns-clause-gone
returns-clause-gone g c =
    let self = c.args.self.now in
    none_goes g.T.Talk g.C.Channel g.met.T.Talk.front_more g.met.T.Talk.bad_more (g.F.TalkMaker.makes c.args.self.now.maker) self.came c.args.client (get nat_eq self.peers) (get nat_eq c.teach.new.peers) (g.A.Attend.closed self.attend) (g.A.Attend.coming self.attend) c.args.reply c.teach.ensures.here c.teach.ensures.others

pub returns-clause-contention : goal.returns-clause-contention
returns-clause-contention g c = (
  c.holder.result,
  c.holder.ensures,
  noted c.holder.result c.args.client c.is_lock_refusal.result c.args.self.now.lock c.note.new.self c.note.ensures ∙ ap (λ b. contended c.holder.result c.args.client b (contention_of c.args.self.now.lock)) c.is_lock_refusal.ensures,
)
