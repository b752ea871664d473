use Rattle.std.proofs.Common.{◌≡◌, ◌∙◌, ◌+◌, ℕ, sym, subst, arith}
use Rattle.std.proofs.lemmas.Bool.{ne_eqb}
use Rattle.std.specs.Prelude.{nat_eq}
use Rattle.indexmap.specs.IndexMap.{get}
use Rattle.talks.specs.Clients.{Moved}
use Rattle.polled_clients.specs.ClientStates.{states}
use Rattle.polled_clients.specs.Peers.{conversation_of}
use Rattle.polled_clients.proofs.Placing.{all, found_same, made_so, moved_none, moved_on, moved_unchanged, one_came, when_ok, when_err}
use Rattle.polled_clients.proofs.clients.PolledClients.admit.Goals as goal

pub returns-in_default-clause-moved : goal.returns-in_default-clause-moved
returns-in_default-clause-moved g c = moved_none g.T.Talk g.C.Channel g.met.T.Talk.front_more g.met.T.Talk.bad_more (g.F.TalkMaker.makes c.args.self.now.maker) (states g.C.Channel g.A.Attend c.args.self.now)

pub returns-then-is_err-clause-moved : goal.returns-then-is_err-clause-moved
returns-then-is_err-clause-moved g c = moved_none g.T.Talk g.C.Channel g.met.T.Talk.front_more g.met.T.Talk.bad_more (g.F.TalkMaker.makes c.args.self.now.maker) (states g.C.Channel g.A.Attend c.args.self.now)

pub returns-then-is_ok-clause-moved : goal.returns-then-is_ok-clause-moved
returns-then-is_ok-clause-moved g c =
    let self = c.args.self.now in
    let closed = g.A.Attend.closed self.attend in
    let coming = g.A.Attend.coming self.attend in
    let now = get nat_eq c.insert.new.self in
    let one_more : self.came + 1 ≡ c.in-Some.next = omega (arith, c.in-Some.ensures) in
    let updates = when_ok c.insert.result _ (sym c.is_ok.ensures.value ∙ c.if-is_ok.true) c.insert.ensures.updates in
    let with = all g.T.Talk g.C.Channel c.in-Some.next now closed coming in
    let comes : Moved g.T.Talk (g.F.TalkMaker.makes self.maker) (states g.C.Channel g.A.Attend self) with =
    subst (λ (n : ℕ). Moved g.T.Talk (g.F.TalkMaker.makes self.maker) (states g.C.Channel g.A.Attend self) (all g.T.Talk g.C.Channel n now closed coming)) one_more
    (one_came g.T.Talk g.C.Channel g.met.T.Talk.front_more g.met.T.Talk.bad_more (g.F.TalkMaker.makes c.args.self.now.maker) self.came (get nat_eq self.peers) now closed coming c.new-peer.result updates.1
    (made_so g.T.Talk g.C.Channel (g.F.TalkMaker.makes self.maker) c.args.talk (coming self.came) (conversation_of g.C.Channel c.new-peer.result) (g.met.F.TalkMaker.made_at self.maker (g.C.Channel.place c.args.channel) c.args.talk c.requires.made) (c.new-peer.ensures.fresh (coming self.came) c.args.place c.requires.starts c.requires.fresh)) (λ n other. updates.2 n (ne_eqb self.came n (λ same. other (sym same))))) in
    moved_on g.T.Talk g.C.Channel g.met.T.Talk.front_more g.met.T.Talk.bad_more (g.F.TalkMaker.makes self.maker) (states g.C.Channel g.A.Attend self) with (states g.C.Channel g.A.Attend c.welcome.new.self) comes c.welcome.ensures.moved

pub returns-else-is_ok-clause-moved : goal.returns-else-is_ok-clause-moved
returns-else-is_ok-clause-moved g c =
    let self = c.args.self.now in
    let same = when_err c.insert.result _ (sym c.is_ok.ensures.value ∙ c.if-is_ok.false) c.insert.ensures.err in
    moved_unchanged g.T.Talk g.C.Channel g.met.T.Talk.front_more g.met.T.Talk.bad_more (g.F.TalkMaker.makes c.args.self.now.maker) self.came (get nat_eq self.peers) (get nat_eq c.insert.new.self) (g.A.Attend.closed self.attend) (g.A.Attend.coming self.attend)
    (found_same self.peers.entries c.insert.new.self.entries same)
