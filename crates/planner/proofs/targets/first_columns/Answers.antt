use Rattle.std.proofs.Common.{◌≡◌, ◌+◌, ◌∙◌, ◌++◌, ◌∷◌, [], ap, sym, arith}
use Rattle.std.specs.List.{range_with_len}
use Rattle.planner.proofs.Adding.{range_more}
use Rattle.planner.proofs.targets.first_columns.Goals as goal

pub loop-column-preserved : goal.loop-column-preserved
loop-column-preserved c = c.in_ok-push.ensures.ok ∙ ap (λ l. l ++ c.loop-column.column ∷ []) c.loop-column.invariant ∙ sym (range_more 0 c.loop-column.column ∙ ap (λ m. range_with_len 0 c.loop-column.column ++ m ∷ []) (let same : 0 + c.loop-column.column ≡ c.loop-column.column = omega arith in same))
