use Rattle.std.proofs.Common.{◌≡◌, [], None}
use Rattle.polled_clients.specs.Peers.{Goes}
use Rattle.polled_clients.proofs.peer.Peer.hear_on.Given as goal

-- what was heard so far is a part of the conversation
abbrev pub invariant-loop : goal.invariant-loop
invariant-loop g l = record {
  goes : Goes g.T.Talk g.C.Channel l.fn.self [] l.self;
  session : l.self.has_session ≡ l.fn.self.has_session;
  running : l.self.end_cause ≡ None;
}
