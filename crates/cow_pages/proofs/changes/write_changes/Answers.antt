use Rattle.std.proofs.Common.{◌∙◌, arith, inl}
use Rattle.sector_device.specs.Timeline.{weakened}
use Rattle.cow_pages.specs.DirtyPages.{dirty_bytes}
use Rattle.cow_pages.proofs.Answered.{failed, on_err_also}
use Rattle.cow_pages.proofs.Meaning.{settled_recoverable}
use Rattle.cow_pages.proofs.Overlaid.{leaves_durable, settled_still, durable_still, array_written, leaves_both}
use Rattle.std.proofs.lemmas.Result.{err_from_is_err_and, MatchResult-weaker}
use Rattle.sector_device.specs.Device.{history_joined}
use Rattle.cow_pages.specs.PreservedLaws.{failed_later}
use Rattle.cow_pages.proofs.changes.write_changes.Goals as goal

pub write_pages-requires-clause-inside : goal.write_pages-requires-clause-inside
write_pages-requires-clause-inside g c page some =
    let can = c.requires.outside page some in
    (can.0, omega (arith, can.1, c.requires.sized))

pub write_pages-requires-clause-size : goal.write_pages-requires-clause-size
write_pages-requires-clause-size g c = omega (arith, c.requires.sized, c.args.map.now.consistent.most)

pub returns-in_err-write_pages-clause-writes : goal.returns-in_err-write_pages-clause-writes
returns-in_err-write_pages-clause-writes g c can =
    let m = c.args.map.now in
    let w = dirty_bytes c.args.dirty.now in
    let mid = g.D.Device.state c.write_pages.new.device in
    record {
      any_moment = weakened _ _ _ _ (λ image means. inl means)
          (leaves_durable _ mid w m.root m.durable.items c.requires.outside can.settled (c.write_pages.ensures.any_moment can.faithful));
      outcome = failed c.from_residual.result _ _ _ (err_from_is_err_and c.from_residual.result c.from_residual.ensures.1).1 (
        settled_recoverable _ m.root m.durable.items
            (settled_still _ mid w m.root m.durable.items c.requires.outside can.settled c.write_pages.ensures.history.sectors (c.write_pages.ensures.alone can.faithful)),
        durable_still _ mid w m.root m.durable.items c.requires.outside can.settled c.write_pages.ensures.history.sectors (c.write_pages.ensures.alone can.faithful),
      );
    }

pub returns-clause-writes : goal.returns-clause-writes
returns-clause-writes g c can =
    let m = c.args.map.now in
    let w = dirty_bytes c.args.dirty.now in
    let mid = g.D.Device.state c.write_pages.new.device in
    let history = c.write_pages.ensures.history in
    let alone = c.write_pages.ensures.alone can.faithful in
    let written = c.in_ok-write_pages.ensures.written can.faithful in
    let next = c.write_next.ensures.writes (record {
      faithful = history.faithful can.faithful;
      settled = settled_still _ mid w m.root m.durable.items c.requires.outside can.settled history.sectors alone;
      next_is = can.next_is;
    }) in
    record {
      any_moment = leaves_both _ mid w m.root m.durable.items c.requires.outside can.settled history.sectors alone written m.working.items c.args.next.now.format
          (g.D.Device.state c.write_next.new.device) (c.write_pages.ensures.any_moment can.faithful) next.any_moment;
      outcome = MatchResult-weaker c.write_next.result next.outcome
          (λ x is. (is.0, λ l. is.1 l ∙ array_written _ mid w alone written m.working.items l))
          (λ e is. (is.0, λ l. is.1 l ∙ durable_still _ mid w m.root m.durable.items c.requires.outside can.settled history.sectors alone l));
    }

pub returns-clause-history : goal.returns-clause-history
returns-clause-history g c =
    history_joined _ (g.D.Device.state c.write_pages.new.device) (g.D.Device.state c.write_next.new.device) c.write_pages.ensures.history c.write_next.ensures.history

pub returns-clause-cached : goal.returns-clause-cached
returns-clause-cached g c first agrees =
    c.write_next.ensures.cached (c.write_pages.ensures.history.faithful first) (c.write_pages.ensures.cached first agrees)

pub returns-clause-cause : goal.returns-clause-cause
returns-clause-cause g c =
    on_err_also c.write_next.result c.write_next.ensures.cause
    (failed_later _ (g.D.Device.state c.write_pages.new.device) (g.D.Device.state c.write_next.new.device) c.write_pages.ensures.history c.write_next.ensures.history)
