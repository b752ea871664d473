use Rattle.std.proofs.Common.{arith, ℕ, List, sym, ap, subst, ◌∙◌}
use Rattle.std.proofs.lemmas.Result.{err_from_is_err_and, MatchResult-from_both}
use Rattle.sector_device.specs.Device.{Writes, history_joined}
use Rattle.page_roots.specs.Root.{home}
use Rattle.page_roots.specs.Sector.{root_at}
use Rattle.cow_pages.proofs.Meaning.{settled_recoverable}
use Rattle.cow_pages.proofs.Answered.{on_ok_also, on_err_always, failed, on_err_also}
use Rattle.cow_pages.proofs.Staged.{synced_first, next_held, root_written, read_across, crossing_recoverable, switched, after_roots}
use Rattle.cow_pages.specs.PreservedLaws.{failed_later}
use Rattle.cow_pages.proofs.root_switch.switch.Goals as goal

pub returns-in_err-sync-clause-switches : goal.returns-in_err-sync-clause-switches
returns-in_err-sync-clause-switches g c root durable working can =
    let one = synced_first _ root durable c.args.next.now working can (g.D.Device.state c.sync.new.self) (g.met.D.Device.only_now c.args.device.now can.faithful) c.sync.ensures.history (c.sync.ensures.only_reads can.faithful) in
    record {
      any_moment = one.leaves;
      outcome = failed c.from_residual.result _ _ _ (err_from_is_err_and c.from_residual.result c.from_residual.ensures.1).1 (
        settled_recoverable _ root durable one.settled,
        after_roots _ root durable c.args.next.now working can (g.D.Device.state c.sync.new.self) durable (λ s two. one.same s) (λ l some. some),
      );
    }

pub returns-in_err-write-clause-switches : goal.returns-in_err-write-clause-switches
returns-in_err-write-clause-switches g c root durable working can =
    let state = g.D.Device.state in
    let next = c.args.next.now in
    let one = synced_first _ root durable next working can (state c.sync.new.self) (g.met.D.Device.only_now c.args.device.now can.faithful) c.sync.ensures.history (c.sync.ensures.only_reads can.faithful) in
    let held = next_held _ root durable next working can (state c.sync.new.self) one (c.in_ok-sync.ensures.synced can.faithful) in
    let writes : Writes (home next.number) c.bytes.result (state c.sync.new.self) (state c.write.new.self) = subst (λ (s : ℕ). Writes s c.bytes.result (state c.sync.new.self) (state c.write.new.self)) c.sector.ensures.home (c.write.ensures.writes one.faithful) in
    let two = root_written _ root durable next working can c.bytes.result (state c.sync.new.self) (state c.write.new.self) c.bytes.ensures.read one held c.write.ensures.history writes in
    record {
      any_moment = two.leaves;
      outcome = failed c.from_residual-in_err-write.result _ _ _ (err_from_is_err_and c.from_residual-in_err-write.result c.from_residual-in_err-write.ensures.1).1 (
        crossing_recoverable _ root durable next working can (state c.write.new.self) two,
        after_roots _ root durable next working can (state c.write.new.self) durable two.same (λ l some. some),
      );
    }

pub returns-clause-switches : goal.returns-clause-switches
returns-clause-switches g c root durable working can =
    let state = g.D.Device.state in
    let next = c.args.next.now in
    let one = synced_first _ root durable next working can (state c.sync.new.self) (g.met.D.Device.only_now c.args.device.now can.faithful) c.sync.ensures.history (c.sync.ensures.only_reads can.faithful) in
    let held = next_held _ root durable next working can (state c.sync.new.self) one (c.in_ok-sync.ensures.synced can.faithful) in
    let writes : Writes (home next.number) c.bytes.result (state c.sync.new.self) (state c.write.new.self) = subst (λ (s : ℕ). Writes s c.bytes.result (state c.sync.new.self) (state c.write.new.self)) c.sector.ensures.home (c.write.ensures.writes one.faithful) in
    let two = root_written _ root durable next working can c.bytes.result (state c.sync.new.self) (state c.write.new.self) c.bytes.ensures.read one held c.write.ensures.history writes in
    let only_reads = c.sync-2.ensures.only_reads two.faithful in
    let three = read_across _ root durable next working can (state c.write.new.self) (state c.sync-2.new.self) two c.sync-2.ensures.history only_reads in
    let there = home next.number in
    let found = ap (λ (b : List ℕ). root_at there b) (only_reads.content there ∙ ap (λ (s : ℕ). (state c.write.new.self).content s) (sym c.sector.ensures.home) ∙ c.in_ok-write.ensures.written one.faithful) ∙ c.bytes.ensures.read in
    record {
      any_moment = three.leaves;
      outcome = MatchResult-from_both c.sync-2.result _ _
          (on_ok_also c.sync-2.result (c.sync-2.ensures.synced two.faithful) (λ synced. (
            switched _ root durable next working can (state c.sync-2.new.self) three synced found,
            after_roots _ root durable next working can (state c.sync-2.new.self) working three.same (λ l some. some),
          )))
          (on_err_always c.sync-2.result (
            crossing_recoverable _ root durable next working can (state c.sync-2.new.self) three,
            after_roots _ root durable next working can (state c.sync-2.new.self) durable three.same (λ l some. some),
          ));
    }

pub write-requires-clause-not_beside : goal.write-requires-clause-not_beside
write-requires-clause-not_beside g c beside =
    let behind = g.met.D.Device.beside_behind c.sync.new.self _ beside in
    omega (arith, c.sector.ensures.home, behind.0)

pub returns-clause-history : goal.returns-clause-history
returns-clause-history g c =
    let state = g.D.Device.state in
    history_joined _ (state c.write.new.self) (state c.sync-2.new.self) (history_joined _ _ (state c.write.new.self) c.sync.ensures.history c.write.ensures.history) c.sync-2.ensures.history

pub returns-in_err-write-clause-history : goal.returns-in_err-write-clause-history
returns-in_err-write-clause-history g c =
    history_joined _ (g.D.Device.state c.sync.new.self) (g.D.Device.state c.write.new.self) c.sync.ensures.history c.write.ensures.history

pub returns-in_err-write-clause-cause : goal.returns-in_err-write-clause-cause
returns-in_err-write-clause-cause g c =
    on_err_always c.from_residual-in_err-write.result
    (failed_later _ (g.D.Device.state c.sync.new.self) (g.D.Device.state c.write.new.self) c.sync.ensures.history c.write.ensures.history c.in_err-write.ensures.cause)

pub returns-clause-cause : goal.returns-clause-cause
returns-clause-cause g c =
    let two = history_joined _ (g.D.Device.state c.sync.new.self) (g.D.Device.state c.write.new.self) c.sync.ensures.history c.write.ensures.history in
    on_err_also c.sync-2.result c.sync-2.ensures.cause (failed_later _ (g.D.Device.state c.write.new.self) (g.D.Device.state c.sync-2.new.self) two c.sync-2.ensures.history)
