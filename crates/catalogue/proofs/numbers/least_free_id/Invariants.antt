use Rattle.std.specs.Prelude.{◌≡◌, ◌<◌, ◌≤◌, ℕ, true, false, get_or}
use Rattle.catalogue.proofs.numbers.least_free_id.Given as goal

abbrev pub invariant-loop-id : goal.invariant-loop-id
invariant-loop-id l = (n : ℕ) → 1 ≤ n → n < l.id → get_or l.marks n false ≡ true
