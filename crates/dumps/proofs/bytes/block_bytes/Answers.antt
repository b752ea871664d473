use Rattle.std.proofs.Common.{length, sym, ap, ◌∙◌, arith}
use Rattle.dumps.specs.Form.{block_of}
use Rattle.dumps.proofs.Blocks.{block_pages}
use Rattle.dumps.proofs.bytes.block_bytes.Goals as goal

pub returns-then-len-clause-only : goal.returns-then-len-clause-only
returns-then-len-clause-only c bytes is =
    let same = c.one_batch.ensures.bytes is.spelled c.in_ok-spelled.spelled.items c.args.batch.now is.spells c.in_ok-spelled.ensures in
    omega (arith, ap length same, is.short, c.if-len.true, c.len.ensures, c.in_ok-spelled.spelled.ok.0)

pub returns-clause-only : goal.returns-clause-only
returns-clause-only c bytes is =
    let same = c.one_batch.ensures.bytes c.in_ok-spelled.spelled.items is.spelled c.args.batch.now c.in_ok-spelled.ensures is.spells in
    c.in_ok-block_around.ensures ∙ ap block_of (c.as_slice.ensures.value ∙ same) ∙ sym is.is

pub returns-clause-whole : goal.returns-clause-whole
returns-clause-whole c = omega (arith, ap length c.in_ok-block_around.ensures, block_pages c.as_slice.result.now)
