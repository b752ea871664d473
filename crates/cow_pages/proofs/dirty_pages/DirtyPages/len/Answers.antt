use Rattle.std.proofs.Common.{true, arith}
use Rattle.cow_pages.proofs.Indexes.{entry_dirty, index_inside}
use Rattle.cow_pages.proofs.dirty_pages.DirtyPages.len.Goals as goal

pub returns : goal.returns
returns c = record {
  inside = λ page waits. omega (arith, index_inside c.args.self.now.pages.entries page true (entry_dirty _ _ waits), c.len.ensures.len);
}
