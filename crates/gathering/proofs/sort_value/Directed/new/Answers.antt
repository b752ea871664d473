use Rattle.std.proofs.Common.{ap, sym}
use Rattle.gathering.specs.SortValues.{directed}
use Rattle.gathering.proofs.sort_value.Directed.new.Goals as goal

pub returns-then-descending : goal.returns-then-descending
returns-then-descending c = ap (λ b. directed b c.args.value) (sym c.if-descending.true)

pub returns-else-descending : goal.returns-else-descending
returns-else-descending c = ap (λ b. directed b c.args.value) (sym c.if-descending.false)
