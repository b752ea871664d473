use Rattle.std.proofs.Common.{refl}
use Rattle.sector_device.specs.Device.{history_none, history_joined}
use Rattle.dumps.proofs.PageWrites.{outside_more, page_written}
use Rattle.dumps.proofs.device_pages.write_pages.Goals as goal

pub loop-index-init : goal.loop-index-init
loop-index-init g c = record {
  history = history_none _;
  others = λ faithful s outside. refl;
  written = λ faithful. refl;
}

pub loop-index-preserved : goal.loop-index-preserved
loop-index-preserved g c =
    let old = g.D.Device.state c.args.device.now in
    let mid = g.D.Device.state c.loop-index.device in
    let new = g.D.Device.state c.write_page.new.device in
    let so_far = c.loop-index.invariant in
    let wrote = c.write_page.ensures in
    record {
      history = history_joined old mid new so_far.history wrote.history;
      others = λ faithful. outside_more old mid new c.args.page c.loop-index.index (wrote.alone (so_far.history.faithful faithful)) (so_far.others faithful);
      written = λ faithful.
          let there = so_far.history.faithful faithful in
          page_written mid new c.args.page c.loop-index.index c.args.bytes.now _ (wrote.alone there) (so_far.written faithful) (c.in_ok-write_page.ensures.page there) c.page_of-part.ensures;
    }

pub returns-in_err-write_page-clause-history : goal.returns-in_err-write_page-clause-history
returns-in_err-write_page-clause-history g c = history_joined _ _ _ c.loop-index.invariant.history c.write_page.ensures.history
