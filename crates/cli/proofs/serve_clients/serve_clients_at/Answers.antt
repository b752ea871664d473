use Rattle.std.proofs.Common.{rules, inl, inr, refl}
use Rattle.systems.specs.Systems.{Rose}
use Rattle.cli.specs.OpenPlaces.{open_lines}
use Rattle.cli.proofs.Changes.{rose_between}
use Rattle.cli.proofs.ServedClients.{bound_between, clients_served_at, counts_between}
use Rattle.cli.proofs.serve_clients.serve_clients_at.Goals as goal

pub returns-in-Err : goal.returns-in-Err
returns-in-Err g c = inl (record {
  left_is = search rules;
  failed = c.in-Err.ensures.cause;
  counts = c.bind.ensures.counts;
  same = c.in-Err.ensures.kept;
  silent = refl;
})

pub returns-in-Ok-poll : goal.returns-in-Ok-poll
returns-in-Ok-poll g c =
    let old = g.Y.System.state c.args.system.now in
    let mid = g.Y.System.state c.bind.new.self in
    let polled = g.Y.System.state c.poll.new.self in
    let new = g.Y.System.state c.unbind.new.self in
    let bind = c.in-Ok.ensures in
    let listener = c.in-Ok.bound.0 in
    let bound = c.in-Ok.bound.1 in
    let ended = c.serve_clients_on_place-left.result.2 in
    clients_served_at g.Y.Device.Device g.Y.Listener.Attend _ _ g.X.EventHandler.Reads (open_lines c.args.told.now) (g.F.TalkMaker.makes c.args.maker) c.args.many c.args.server listener c.poll.new.listener c.poll.ensures.coming c.poll.ensures.closed old new c.args.place.place bound (g.E.Write.contents c.args.err.now)
    (g.E.Write.contents c.serve_clients_on_place-left.new.err) ended c.serve_clients_on_place-left.result.0
    (bound_between old mid polled new c.args.place.place bound listener ended bind.kind bind.place bind.heard bind.bound bind.others c.poll.ensures.same c.unbind.ensures.unbound c.unbind.ensures.others) c.serve_clients_on_place-left.result.1
    c.serve_clients_on_place-left.ensures

pub returns-in-Err-poll : goal.returns-in-Err-poll
returns-in-Err-poll g c =
    let old = g.Y.System.state c.args.system.now in
    let mid = g.Y.System.state c.bind.new.self in
    let polled = g.Y.System.state c.poll.new.self in
    let new = g.Y.System.state c.unbind-in-Err-poll.new.self in
    let bind = c.in-Ok.ensures in
    let listener = c.in-Ok.bound.0 in
    let bound = c.in-Ok.bound.1 in
    let failed : Rose mid.failures polled.failures = c.in-Err-poll.ensures.cause in
    inr (record {
      unserved = record {
        bound = bound;
        listener = listener;
        ended = c.poll.new.listener;
        between = bound_between old mid polled new c.args.place.place bound listener c.poll.new.listener bind.kind bind.place bind.heard bind.bound bind.others c.poll.ensures.same c.unbind-in-Err-poll.ensures.unbound c.unbind-in-Err-poll.ensures.others;
        none = record { left_is = search rules; coming = c.poll.ensures.coming; closed = c.poll.ensures.closed };
      };
      failed = rose_between old.failures mid.failures polled.failures new.failures c.bind.ensures.counts c.poll.ensures.counts c.unbind-in-Err-poll.ensures.counts failed;
      counts = counts_between old.failures mid.failures polled.failures new.failures c.bind.ensures.counts c.poll.ensures.counts c.unbind-in-Err-poll.ensures.counts;
      silent = refl;
    })
