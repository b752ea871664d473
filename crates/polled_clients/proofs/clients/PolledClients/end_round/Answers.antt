use Rattle.std.proofs.Common.{inl, ap, subst, ◌∙◌}
use Rattle.talks.specs.Clients.{CutsOff}
use Rattle.polled_clients.specs.ClientStates.{states}
use Rattle.polled_clients.specs.LockWatches.{contention_of}
use Rattle.polled_clients.specs.declared.lock_watch.LockWatch.{LockWatch}
use Rattle.polled_clients.proofs.Placing.{moved_by, moved_on}
use Rattle.polled_clients.proofs.clients.PolledClients.end_round.Goals as goal

pub returns-then-begin-clause-moved : goal.returns-then-begin-clause-moved
returns-then-begin-clause-moved g c =
    let at = states g.C.Channel g.A.Attend in
    moved_on g.T.Talk g.C.Channel g.met.T.Talk.front_more g.met.T.Talk.bad_more (g.F.TalkMaker.makes c.args.self.now.maker) (at c.args.self.now) (at c.note_time.new.self) (at c.look_at_holder.new.self) c.note_time.ensures.moved
    (moved_by g.T.Talk g.C.Channel g.F.TalkMaker.makes c.args.self.now.maker c.note_time.new.self.maker (at c.note_time.new.self) (at c.look_at_holder.new.self) c.note_time.ensures.maker c.look_at_holder.ensures.moved)

pub returns-then-begin-clause-contention : goal.returns-then-begin-clause-contention
returns-then-begin-clause-contention g c =
    subst (λ (x : LockWatch). CutsOff (contention_of x) (contention_of c.look_at_holder.new.self.lock)) c.note_time.ensures.lock c.look_at_holder.ensures.contention

pub returns-then-not-end_stranger-clause-moved : goal.returns-then-not-end_stranger-clause-moved
returns-then-not-end_stranger-clause-moved g c =
    let at = states g.C.Channel g.A.Attend in
    moved_on g.T.Talk g.C.Channel g.met.T.Talk.front_more g.met.T.Talk.bad_more (g.F.TalkMaker.makes c.args.self.now.maker) (at c.args.self.now) (at c.end_stranger.new.self) (at c.look_or_poll.new.self) c.end_stranger.ensures.moved
    (moved_by g.T.Talk g.C.Channel g.F.TalkMaker.makes c.args.self.now.maker c.end_stranger.new.self.maker (at c.end_stranger.new.self) (at c.look_or_poll.new.self) c.end_stranger.ensures.maker c.look_or_poll.ensures.moved)

pub returns-then-not-end_stranger-clause-contention : goal.returns-then-not-end_stranger-clause-contention
returns-then-not-end_stranger-clause-contention g c = inl (ap contention_of (c.look_or_poll.ensures.lock ∙ c.end_stranger.ensures.lock))

pub returns-else-not-end_stranger-clause-moved : goal.returns-else-not-end_stranger-clause-moved
returns-else-not-end_stranger-clause-moved g c = c.end_stranger.ensures.moved

pub returns-else-not-end_stranger-clause-contention : goal.returns-else-not-end_stranger-clause-contention
returns-else-not-end_stranger-clause-contention g c = inl (ap contention_of c.end_stranger.ensures.lock)
