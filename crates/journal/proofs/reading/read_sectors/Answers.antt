use Rattle.std.proofs.Common.{◌+◌, ◌∙◌, ℕ, refl, arith}
use Rattle.std.proofs.Math.ListN.{length-set}
use Rattle.sector_device.specs.Device.{history_none, history_joined}
use Rattle.sector_device.proofs.Parts.{none_read, read_more}
use Rattle.journal.proofs.Opening.{put_next}
use Rattle.journal.proofs.reading.read_sectors.Goals as goal

pub loop-index-init : goal.loop-index-init
loop-index-init g c = record {
  history = history_none _;
  only_reads = λ first. none_read _ (g.met.D.Device.only_now c.args.device.now first);
  count = refl;
  read = λ first q lt. absurd (omega (arith, lt));
}

pub loop-index-preserved : goal.loop-index-preserved
loop-index-preserved g c =
    let so_far = c.loop-index.invariant in
    let old = g.D.Device.state c.args.device.now in
    record {
      history = history_joined _ _ _ so_far.history c.read.ensures.history;
      only_reads = λ first. read_more _ _ (g.D.Device.state c.read.new.self) so_far.history c.read.ensures.history (c.read.ensures.only_reads (so_far.history.faithful first)) (so_far.only_reads first);
      count = length-set c.loop-index.sectors c.loop-index.index c.read.new.bytes ∙ so_far.count;
      read = λ first. put_next c.loop-index.sectors c.loop-index.index c.read.new.bytes (λ (q : ℕ). old.content (c.args.first + q)) (omega (arith, c.loop-index-test.true, so_far.count)) (so_far.read first)
          (c.in_ok-read.ensures.bytes (so_far.history.faithful first) ∙ (so_far.only_reads first).content (c.args.first + c.loop-index.index));
    }

pub returns-in_err-read-clause-only_reads : goal.returns-in_err-read-clause-only_reads
returns-in_err-read-clause-only_reads g c first =
    let so_far = c.loop-index.invariant in
    read_more _ _ (g.D.Device.state c.read.new.self) so_far.history c.read.ensures.history (c.read.ensures.only_reads (so_far.history.faithful first)) (so_far.only_reads first)
