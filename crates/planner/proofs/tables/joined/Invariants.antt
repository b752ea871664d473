use Rattle.std.proofs.Common.{◌≡◌, ◌∷◌, map, take}
use Rattle.planner.proofs.tables.joined.Given as goal

abbrev pub invariant-loop-join : goal.invariant-loop-join
invariant-loop-join l = map (λ r. r.now) l.list.items ≡ l.first ∷ map (λ join. join.table) (take l.join-index l.joins)
