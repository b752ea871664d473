use Rattle.std.proofs.Common.{◌≡◌, ℕ, List, take, drop, Some, IfOk, sym, ap, subst, ◌∙◌, arith}
use Rattle.store.specs.Records.{Changes}
use Rattle.journal.specs.Changes.{Spells}
use Rattle.dumps.specs.Form.{IsBlock}
use Rattle.dumps.proofs.Blocks.{block_long, length_in_block, spelled_in_block}
use Rattle.dumps.proofs.lists.list_in.Goals as goal

pub returns-then-bytes-lt-SPELLED-clause-only : goal.returns-then-bytes-lt-SPELLED-clause-only
returns-then-bytes-lt-SPELLED-clause-only c changes is = absurd (omega (arith, block_long is.spelled c.args.bytes.now is.is, c.if-bytes-lt-SPELLED.true))

pub returns-then-bytes-count-clause-only : goal.returns-then-bytes-count-clause-only
returns-then-bytes-count-clause-only c changes is =
    absurd (omega (arith, block_long is.spelled c.args.bytes.now is.is, length_in_block is.spelled c.args.bytes.now is.is is.short, c.spelled_length-count.ensures, c.if-bytes-count.true))

pub returns-in-Some-clause-only : goal.returns-in-Some-clause-only
returns-in-Some-clause-only c changes is =
    let bytes = c.args.bytes.now in
    let count = c.spelled_length-count.ensures ∙ length_in_block is.spelled bytes is.is is.short in
    let spelled = c.spelled_in.ensures ∙ ap (λ (n : ℕ). take n (drop 5 bytes)) count ∙ spelled_in_block is.spelled bytes is.is in
    let read = c.in_ok-batch.ensures.only changes (subst (λ (s : List ℕ). Spells s changes) (sym spelled) is.spells) in
    let same : c.in-Some.batch ≡ changes = let both = sym c.in-Some.is ∙ read in cc in
    subst (λ (cs : Changes). IfOk c.same_block.result (λ found. found ≡ Some cs)) same (c.same_block.ensures.only (subst (λ (cs : Changes). IsBlock bytes cs) (sym same) is))

pub returns-in-None-clause-only : goal.returns-in-None-clause-only
returns-in-None-clause-only c changes is =
    let bytes = c.args.bytes.now in
    let count = c.spelled_length-count.ensures ∙ length_in_block is.spelled bytes is.is is.short in
    let spelled = c.spelled_in.ensures ∙ ap (λ (n : ℕ). take n (drop 5 bytes)) count ∙ spelled_in_block is.spelled bytes is.is in
    let read = c.in_ok-batch.ensures.only changes (subst (λ (s : List ℕ). Spells s changes) (sym spelled) is.spells) in
    sym c.in-None.is ∙ read
