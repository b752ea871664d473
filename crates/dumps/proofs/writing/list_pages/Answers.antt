use Rattle.std.proofs.Common.{length, ap, arith}
use Rattle.dumps.proofs.Blocks.{block_pages}
use Rattle.dumps.proofs.writing.list_pages.Goals as goal

pub returns-in-Some : goal.returns-in-Some
returns-in-Some c =
    let is = rw c.in-Some.is at c.in_ok-block.ensures.found in
    record { block = c.in-Some.block.items; is = is; count = omega (arith, ap length is.is, block_pages is.spelled, c.len.ensures, c.in-Some.block.ok.0) }
