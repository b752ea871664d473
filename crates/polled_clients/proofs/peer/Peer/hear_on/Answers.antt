use Rattle.std.proofs.Common.{◌∙◌, [], refl}
use Rattle.polled_clients.specs.Peers.{conversation_of}
use Rattle.polled_clients.proofs.Steps.{continues_stay, continues_on}
use Rattle.polled_clients.proofs.peer.Peer.hear_on.Goals as goal

pub loop-init : goal.loop-init
loop-init g c = record {
  goes = continues_stay g.T.Talk g.met.T.Talk.front_more g.met.T.Talk.bad_more (conversation_of g.C.Channel c.args.self.now);
  session = refl;
  running = c.requires;
}

pub loop-preserved : goal.loop-preserved
loop-preserved g c =
    let of = conversation_of g.C.Channel in
    record {
      goes = continues_on g.T.Talk g.met.T.Talk.front_more g.met.T.Talk.bad_more (of c.args.self.now) (of c.loop.self) (of c.hear.new.self) [] [] c.loop.invariant.goes c.hear.ensures.goes;
      session = c.hear.ensures.session ∙ c.loop.invariant.session;
      running = c.hear.ensures.end_cause;
    }
