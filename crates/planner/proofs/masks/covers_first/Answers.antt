use Rattle.std.proofs.Common.{◌≡◌, ◌+◌, ◌∙◌, sym, ap, arith}
use Rattle.catalogue.specs.Grants.{has_bit}
use Rattle.planner.specs.Rights.{covers}
use Rattle.planner.proofs.Adding.{all_in_range_more, all_in_range_fails}
use Rattle.planner.proofs.masks.covers_first.Goals as goal

pub returns-then-not-covers : goal.returns-then-not-covers
returns-then-not-covers c =
    let same : 0 + c.loop-column.column ≡ c.loop-column.column = omega arith in
    sym (all_in_range_fails (covers (has_bit c.args.mask)) 0 c.args.count c.loop-column.column c.loop-column-test.true (ap (covers (has_bit c.args.mask)) same ∙ sym c.covers.ensures ∙ c.if-not-covers.true))

pub loop-column-preserved : goal.loop-column-preserved
loop-column-preserved c = all_in_range_more (covers (has_bit c.args.mask)) c.loop-column.column c.loop-column.invariant (sym c.covers.ensures ∙ c.if-not-covers.false)
