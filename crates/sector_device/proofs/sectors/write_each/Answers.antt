use Rattle.std.proofs.Common.{◌≢◌, ◌+◌, refl, below_more, arith, ◌∙◌}
use Rattle.std.proofs.lemmas.Grind.{common_steps}
use Rattle.sector_device.specs.Device.{history_none, history_joined}
use Rattle.sector_device.proofs.EachSector.{none_written, write_more}
use Rattle.sector_device.proofs.sectors.write_each.Goals as goal

pub loop-index-init : goal.loop-index-init
loop-index-init g c = record {
  history = history_none _;
  writes = λ first. none_written _ _ _ (g.met.D.Device.only_now c.args.device.now first);
  written = λ first k lt. absurd (omega (arith, lt));
}

pub write-requires-clause-not_beside : goal.write-requires-clause-not_beside
write-requires-clause-not_beside g c is =
    c.requires.not_beside c.loop-index.index (omega (arith, c.loop-index-test.true)) ((c.loop-index.invariant.history.same_beside (c.args.first + c.loop-index.index)).1 is)

pub returns-in_err-write-clause-writes : goal.returns-in_err-write-clause-writes
returns-in_err-write-clause-writes g c first =
    let so_far = c.loop-index.invariant in
    write_more c.args.first c.loop-index.index _ _ _ _ (g.D.Device.state c.write.new.self) (omega (arith, c.loop-index-test.true)) refl
    so_far.history c.write.ensures.history (c.write.ensures.writes (so_far.history.faithful first)) (so_far.writes first)

pub returns-in_err-write-clause-history : goal.returns-in_err-write-clause-history
returns-in_err-write-clause-history g c = history_joined _ _ _ c.loop-index.invariant.history c.write.ensures.history

pub loop-index-preserved : goal.loop-index-preserved
loop-index-preserved g c =
    let so_far = c.loop-index.invariant in
    record {
      history = history_joined _ _ _ so_far.history c.write.ensures.history;
      writes = λ first. write_more c.args.first c.loop-index.index _ _ _ _ (g.D.Device.state c.write.new.self) (omega (arith, c.loop-index-test.true)) refl
          so_far.history c.write.ensures.history (c.write.ensures.writes (so_far.history.faithful first)) (so_far.writes first);
      written = λ first. below_more _ _
          (λ k lt. let other : c.args.first + k ≢ c.args.first + c.loop-index.index = omega (arith, lt) in (c.write.ensures.writes (so_far.history.faithful first)).others (c.args.first + k) other ∙ so_far.written first k lt)
          (c.in_ok-write.ensures.written (so_far.history.faithful first));
    }
