use Rattle.std.proofs.Common.{ℕ, List, ap, arith}
use Rattle.cow_pages.specs.Held.{part_of}
use Rattle.cow_pages.proofs.ChangedParts.{parts_whole}
use Rattle.cow_pages.proofs.page_map.PageMap.has_changes.Goals as goal

pub returns-clause-none : goal.returns-clause-none
returns-clause-none c is =
    let m = c.args.self.now in
    parts_whole m.working.items m.durable.items m.consistent.working_count m.consistent.durable_count (λ j lt. c.loop-index.invariant j (omega (arith, lt, c.loop-index-test.false)))

pub returns-then-differs-clause-some : goal.returns-then-differs-clause-some
returns-then-differs-clause-some c is same = c.differs.ensures.differ c.if-differs.true (ap (λ (w : List ℕ). part_of w c.loop-index.index) same)
