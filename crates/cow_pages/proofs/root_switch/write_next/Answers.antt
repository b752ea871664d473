use Rattle.std.proofs.Common.{◌<◌, ℕ, List, get_or, ap, ◌∙◌}
use Rattle.std.proofs.lemmas.Result.{err_from_is_err_and, MatchResult-weaker}
use Rattle.cow_pages.specs.Held.{part_of}
use Rattle.cow_pages.proofs.Meaning.{settled_recoverable}
use Rattle.cow_pages.proofs.Answered.{failed, on_err_also}
use Rattle.cow_pages.proofs.Cached.{roots_agree}
use Rattle.cow_pages.proofs.Committing.{leaves_before, working_same, durable_same, settled_mid, can_switch, leaves_across}
use Rattle.sector_device.specs.Device.{history_joined}
use Rattle.cow_pages.specs.PreservedLaws.{failed_later}
use Rattle.cow_pages.proofs.root_switch.write_next.Goals as goal

pub returns-in_err-write_maps-clause-writes : goal.returns-in_err-write_maps-clause-writes
returns-in_err-write_maps-clause-writes g c can =
    let m = c.args.map.now in
    let mid = g.D.Device.state c.write_maps.new.device in
    record {
      any_moment = leaves_before _ m c.args.next.now can mid (c.write_maps.ensures.any_moment can.faithful);
      outcome = failed c.from_residual.result _ _ _ (err_from_is_err_and c.from_residual.result c.from_residual.ensures.1).1 (
        settled_recoverable _ m.root m.durable.items (settled_mid _ m c.args.next.now can mid c.write_maps.ensures.history (c.write_maps.ensures.alone can.faithful)),
        durable_same _ m c.args.next.now can mid c.write_maps.ensures.history (c.write_maps.ensures.alone can.faithful),
      );
    }

pub returns-clause-writes : goal.returns-clause-writes
returns-clause-writes g c can =
    let m = c.args.map.now in
    let next = c.args.next.now in
    let mid = g.D.Device.state c.write_maps.new.device in
    let history = c.write_maps.ensures.history in
    let alone = c.write_maps.ensures.alone can.faithful in
    let written : (j : ℕ) → 0 < get_or m.reserved j 0 → _ = λ j some. c.in_ok-write_maps.ensures.written can.faithful j some ∙ ap (λ (es : List ℕ). part_of es j) c.deref.ensures.value in
    let switches = c.switch.ensures.switches m.root m.durable.items m.working.items (can_switch _ m next can mid history alone written) in
    record {
      any_moment = leaves_across _ m next can mid history alone written (g.D.Device.state c.switch.new.device) (c.write_maps.ensures.any_moment can.faithful) switches.any_moment;
      outcome = MatchResult-weaker c.switch.result switches.outcome
          (λ x is. (is.0, λ l. is.1 l ∙ working_same _ m next can mid history alone l)) (λ e is. (is.0, λ l. is.1 l ∙ durable_same _ m next can mid history alone l));
    }

pub returns-clause-cached : goal.returns-clause-cached
returns-clause-cached g c first agrees =
    let mid = g.D.Device.state c.write_maps.new.device in
    roots_agree c.write_maps.new.cache mid.content (g.D.Device.state c.switch.new.device).content (c.write_maps.ensures.cached first agrees)
    (c.switch.ensures.others (c.write_maps.ensures.history.faithful first))

pub returns-clause-history : goal.returns-clause-history
returns-clause-history g c =
    history_joined _ (g.D.Device.state c.write_maps.new.device) (g.D.Device.state c.switch.new.device) c.write_maps.ensures.history c.switch.ensures.history

pub returns-clause-cause : goal.returns-clause-cause
returns-clause-cause g c =
    on_err_also c.switch.result c.switch.ensures.cause
    (failed_later _ (g.D.Device.state c.write_maps.new.device) (g.D.Device.state c.switch.new.device) c.write_maps.ensures.history c.switch.ensures.history)
