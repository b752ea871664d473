use Rattle.std.proofs.Common.{◌≢◌, ◌+◌, refl, below_more, arith, ◌∙◌}
use Rattle.std.proofs.lemmas.Grind.{common_steps}
use Rattle.sector_device.specs.Device.{history_none, history_joined}
use Rattle.sector_device.proofs.Parts.{none_written, write_more}
use Rattle.sector_device.proofs.device.Device.write_page.Goals as goal

pub loop-part-init : goal.loop-part-init
loop-part-init g c = record {
  history = history_none _;
  writes = λ first. none_written _ _ _ (g.met.Self.Device.only_now c.args.self.now first);
  written = λ first k lt. absurd (omega (arith, lt));
}

pub returns-in_err-write-clause-writes : goal.returns-in_err-write-clause-writes
returns-in_err-write-clause-writes g c first =
    let so_far = c.loop-part.invariant in
    write_more c.args.first c.loop-part.part _ _ _ _ (g.Self.Device.state c.write.new.self) c.loop-part-test.true (let h = c.copy_from_slice.ensures.after in grind (arith, common_steps, h))
    so_far.history c.write.ensures.history (c.write.ensures.writes (so_far.history.faithful first)) (so_far.writes first)

pub loop-part-preserved : goal.loop-part-preserved
loop-part-preserved g c =
    let so_far = c.loop-part.invariant in
    record {
      history = history_joined _ _ _ so_far.history c.write.ensures.history;
      writes = λ first. write_more c.args.first c.loop-part.part _ _ _ _ (g.Self.Device.state c.write.new.self) c.loop-part-test.true (let h = c.copy_from_slice.ensures.after in grind (arith, common_steps, h))
          so_far.history c.write.ensures.history (c.write.ensures.writes (so_far.history.faithful first)) (so_far.writes first);
      written = λ first. below_more _ _
          (λ k lt. let other : c.args.first + k ≢ c.args.first + c.loop-part.part = omega arith in (c.write.ensures.writes (so_far.history.faithful first)).others (c.args.first + k) other ∙ so_far.written first k lt)
          (c.in_ok-write.ensures.written (so_far.history.faithful first) ∙ (let h = c.copy_from_slice.ensures.after in grind (arith, common_steps, h)));
    }

pub write-requires-clause-not_beside : goal.write-requires-clause-not_beside
write-requires-clause-not_beside g c is =
    c.requires.not_beside c.loop-part.part c.loop-part-test.true ((c.loop-part.invariant.history.same_beside (c.args.first + c.loop-part.part)).1 is)

pub returns-in_err-write-clause-history : goal.returns-in_err-write-clause-history
returns-in_err-write-clause-history g c = history_joined _ _ _ c.loop-part.invariant.history c.write.ensures.history
