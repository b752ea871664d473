use Rattle.std.proofs.Common.{length, ap, arith}
use Rattle.std.proofs.lemmas.Grind.{common_steps}
use Rattle.sector_device.specs.Device.{history_none, history_joined}
use Rattle.cow_pages.specs.ReadingLaws.{reads_joined, reads_none}
use Rattle.dumps.proofs.PageReads.{kept_by_page, page_read}
use Rattle.dumps.proofs.device_pages.read_pages.Goals as goal

pub loop-index-init : goal.loop-index-init
loop-index-init g c = record {
  history = history_none _;
  content = λ faithful. reads_none (g.D.Device.state c.args.device.now) (g.met.D.Device.only_now c.args.device.now faithful);
  bytes = λ faithful. c.new-bytes.ensures.items;
  count = ap length c.new-bytes.ensures.items;
}

pub loop-index-preserved : goal.loop-index-preserved
loop-index-preserved g c =
    let old = g.D.Device.state c.args.device.now in
    let mid = g.D.Device.state c.loop-index.device in
    let new = g.D.Device.state c.read_page.new.device in
    let so_far = c.loop-index.invariant in
    let read = c.read_page.ensures in
    record {
      history = history_joined old mid new so_far.history read.history;
      content = λ faithful.
          let there = so_far.history.faithful faithful in
          reads_joined old mid new so_far.history (so_far.content faithful) (kept_by_page mid new (read.any_moment there) (read.alone there));
      bytes = λ faithful.
          let there = so_far.history.faithful faithful in
          page_read old mid c.args.page c.loop-index.index _ _ _ (so_far.content faithful).content (so_far.bytes faithful) (c.in-Ok.ensures.page there) c.in_ok-extend_from_slice.ensures.items;
      count = grind (arith, common_steps);
    }

pub returns-in-Err-clause-content : goal.returns-in-Err-clause-content
returns-in-Err-clause-content g c = λ faithful.
    let old = g.D.Device.state c.args.device.now in
    let mid = g.D.Device.state c.loop-index.device in
    let new = g.D.Device.state c.read_page.new.device in
    let so_far = c.loop-index.invariant in
    let there = so_far.history.faithful faithful in
    reads_joined old mid new so_far.history (so_far.content faithful) (kept_by_page mid new (c.read_page.ensures.any_moment there) (c.read_page.ensures.alone there))

pub returns-in_err-extend_from_slice-clause-history : goal.returns-in_err-extend_from_slice-clause-history
returns-in_err-extend_from_slice-clause-history g c = history_joined _ _ _ c.loop-index.invariant.history c.read_page.ensures.history

pub returns-in_err-extend_from_slice-clause-content : goal.returns-in_err-extend_from_slice-clause-content
returns-in_err-extend_from_slice-clause-content g c = λ faithful.
    let old = g.D.Device.state c.args.device.now in
    let mid = g.D.Device.state c.loop-index.device in
    let new = g.D.Device.state c.read_page.new.device in
    let so_far = c.loop-index.invariant in
    let there = so_far.history.faithful faithful in
    reads_joined old mid new so_far.history (so_far.content faithful) (kept_by_page mid new (c.read_page.ensures.any_moment there) (c.read_page.ensures.alone there))
