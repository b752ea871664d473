use Rattle.kv_store.proofs.Formatted.{written, has_first}
use Rattle.kv_store.proofs.page_store.PageStore.format_as.Goals as goal

pub returns-in-Ok : goal.returns-in-Ok
returns-in-Ok g c =
    let d = g.D.Device.state c.args.device.now in
    let e = g.D.Device.state c.format.new.device in
    let page = c.write_leaf_of.new.page in
    let leaf = c.in_ok-write_leaf_of.ensures in
    let is = rw c.of_record_format.ensures.format at c.in-Ok.ensures in (
      written c.args.record_format c.args.first.now page d e leaf is.history is.any_moment is.others,
      λ faithful. record {
        left = λ image left. has_first _ c.args.record_format c.args.first.now page leaf image (is.means faithful image left);
        synced = is.synced faithful;
        page = page;
        leaf = leaf;
        bytes = is.bytes faithful;
      },
    )

pub returns-in-Err : goal.returns-in-Err
returns-in-Err g c =
    let is = rw c.of_record_format.ensures.format at c.in-Err.ensures in (
      written c.args.record_format c.args.first.now c.write_leaf_of.new.page (g.D.Device.state c.args.device.now) (g.D.Device.state c.format.new.device) c.in_ok-write_leaf_of.ensures is.history is.any_moment is.others,
      is.cause,
    )
