use Rattle.std.proofs.Common.{[], sym, subst}
use Rattle.talks.specs.Conversations.{Conversation, Continues}
use Rattle.polled_clients.specs.Peers.{conversation_of}
use Rattle.polled_clients.proofs.Steps.{continues_stay}
use Rattle.polled_clients.proofs.peer.Peer.send_if_due.Goals as goal

pub returns-else-is_due-clause-goes : goal.returns-else-is_due-clause-goes
returns-else-is_due-clause-goes g c =
    let of = conversation_of g.C.Channel in
    let self = c.args.self.now in
    subst (λ (y : Conversation g.row.T.Denot). Continues g.T.Talk (of self) [] y) (sym c.note_late_end.ensures.conversation) (continues_stay g.T.Talk g.met.T.Talk.front_more g.met.T.Talk.bad_more (of self))
