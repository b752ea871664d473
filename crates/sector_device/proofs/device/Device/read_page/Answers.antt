use Rattle.std.proofs.Common.{◌≡◌, ◌≢◌, ◌+◌, ◌*◌, ◌≤◌, ℕ, List, length, refl, below_more, arith, sym, ap, ◌∙◌}
use Rattle.sector_device.specs.Device.{history_none, history_joined}
use Rattle.sector_device.specs.FileState.{sector_of}
use Rattle.sector_device.proofs.Parts.{none_read, read_more}
use Rattle.sector_device.proofs.PutBytes.{sector_of-put, sector_of-put_other}
use Rattle.sector_device.proofs.device.Device.read_page.Goals as goal

pub loop-part-init : goal.loop-part-init
loop-part-init g c = record {
  long = c.told-bytes;
  history = history_none _;
  only_reads = λ first. none_read _ (g.met.Self.Device.only_now c.args.self.now first);
  bytes = λ first k lt. absurd (omega (arith, lt));
}

pub returns-in_err-read-clause-only_reads : goal.returns-in_err-read-clause-only_reads
returns-in_err-read-clause-only_reads g c first =
    let so_far = c.loop-part.invariant in
    read_more _ _ (g.Self.Device.state c.read.new.self) so_far.history c.read.ensures.history (c.read.ensures.only_reads (so_far.history.faithful first)) (so_far.only_reads first)

pub loop-part-preserved : goal.loop-part-preserved
loop-part-preserved g c =
    let so_far = c.loop-part.invariant in
    let long : length c.read.new.bytes ≡ 512 = c.read.array_long in
    let within : 512 * c.loop-part.part + 512 ≤ length c.loop-part.bytes = omega (arith, so_far.long, c.loop-part-test.true) in
    record {
      long = omega (arith, so_far.long);
      history = history_joined _ _ _ so_far.history c.read.ensures.history;
      only_reads = λ first. read_more _ _ (g.Self.Device.state c.read.new.self) so_far.history c.read.ensures.history (c.read.ensures.only_reads (so_far.history.faithful first)) (so_far.only_reads first);
      bytes = λ first. below_more _ _
          (λ k lt. let other : k ≢ c.loop-part.part = omega arith in
          so_far.bytes first k lt ∙ sym (ap (λ (xs : List ℕ). sector_of k xs) c.put_bytes.ensures ∙ sector_of-put_other c.loop-part.part k c.read.new.bytes c.loop-part.bytes long within other))
          (sym (ap (λ (xs : List ℕ). sector_of c.loop-part.part xs) c.put_bytes.ensures ∙ sector_of-put c.loop-part.part c.read.new.bytes c.loop-part.bytes long within
          ∙ c.in_ok-read.ensures.bytes (so_far.history.faithful first) ∙ (so_far.only_reads first).content (c.args.first + c.loop-part.part)));
    }

pub returns-in_err-read-clause-history : goal.returns-in_err-read-clause-history
returns-in_err-read-clause-history g c = history_joined _ _ _ c.loop-part.invariant.history c.read.ensures.history
