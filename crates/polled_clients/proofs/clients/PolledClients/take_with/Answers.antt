use Rattle.std.proofs.Common.{ℕ, sym, subst}
use Rattle.std.specs.Prelude.{nat_eq}
use Rattle.channels.specs.Channels.{NamedBytes}
use Rattle.channels.specs.Comings.{HasJustCome}
use Rattle.indexmap.specs.IndexMap.{get}
use Rattle.polled_clients.specs.ClientStates.{states}
use Rattle.polled_clients.proofs.Placing.{moved_kept, moved_on}
use Rattle.polled_clients.proofs.clients.PolledClients.take_with.Goals as goal

pub admit-requires-clause-fresh : goal.admit-requires-clause-fresh
admit-requires-clause-fresh g c = subst (λ (bytes : NamedBytes). HasJustCome g.C.Channel bytes c.args.place c.in-Came.channel) (sym (c.take.ensures.coming c.args.self.now.came)) c.in-Came.ensures.came

pub admit-requires-clause-made : goal.admit-requires-clause-made
admit-requires-clause-made g c = subst (λ (place : ℕ). g.F.TalkMaker.makes_at c.args.self.now.maker place c.args.talk) (sym c.in-Came.ensures.came.place) c.requires.made

pub returns-in-Came-clause-moved : goal.returns-in-Came-clause-moved
returns-in-Came-clause-moved g c =
    let self = c.args.self.now in
    let old = self.attend in
    let new = c.take.new.self in
    let at = states g.C.Channel g.A.Attend in
    moved_on g.T.Talk g.C.Channel g.met.T.Talk.front_more g.met.T.Talk.bad_more (g.F.TalkMaker.makes c.args.self.now.maker) (at self) (at (record self { attend = new })) (at c.admit.new.self)
    (moved_kept g.T.Talk g.C.Channel g.met.T.Talk.front_more g.met.T.Talk.bad_more (g.F.TalkMaker.makes c.args.self.now.maker) self.came (get nat_eq self.peers) (g.A.Attend.closed old) (g.A.Attend.coming old) (g.A.Attend.closed new) (g.A.Attend.coming new) c.take.ensures.closed c.take.ensures.coming)
    c.admit.ensures.moved

pub returns-in-Nobody-clause-moved : goal.returns-in-Nobody-clause-moved
returns-in-Nobody-clause-moved g c =
    let self = c.args.self.now in
    let old = self.attend in
    let new = c.take.new.self in
    moved_kept g.T.Talk g.C.Channel g.met.T.Talk.front_more g.met.T.Talk.bad_more (g.F.TalkMaker.makes c.args.self.now.maker) self.came (get nat_eq self.peers) (g.A.Attend.closed old) (g.A.Attend.coming old) (g.A.Attend.closed new) (g.A.Attend.coming new) c.take.ensures.closed c.take.ensures.coming

pub returns-in-Later-clause-moved : goal.returns-in-Later-clause-moved
returns-in-Later-clause-moved g c =
    let self = c.args.self.now in
    let old = self.attend in
    let new = c.take.new.self in
    moved_kept g.T.Talk g.C.Channel g.met.T.Talk.front_more g.met.T.Talk.bad_more (g.F.TalkMaker.makes c.args.self.now.maker) self.came (get nat_eq self.peers) (g.A.Attend.closed old) (g.A.Attend.coming old) (g.A.Attend.closed new) (g.A.Attend.coming new) c.take.ensures.closed c.take.ensures.coming

pub returns-in-Failed-clause-moved : goal.returns-in-Failed-clause-moved
returns-in-Failed-clause-moved g c =
    let self = c.args.self.now in
    let old = self.attend in
    let new = c.take.new.self in
    moved_kept g.T.Talk g.C.Channel g.met.T.Talk.front_more g.met.T.Talk.bad_more (g.F.TalkMaker.makes c.args.self.now.maker) self.came (get nat_eq self.peers) (g.A.Attend.closed old) (g.A.Attend.coming old) (g.A.Attend.closed new) (g.A.Attend.coming new) c.take.ensures.closed c.take.ensures.coming
