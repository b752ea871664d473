use Rattle.std.proofs.Common.{◌≡◌, map, drop, length}
use Rattle.std.specs.Cmp.Lexicographic.{pointwise}
use Rattle.table_access.specs.Having.{same_policy}
use Rattle.table_access.proofs.likeness.same_policies.Given as goal

abbrev pub invariant-loop-index : goal.invariant-loop-index
invariant-loop-index l = record {
  same : pointwise same_policy (map (λ p. p.now) (drop l.index l.one)) (map (λ p. p.now) (drop l.index l.other)) ≡ pointwise same_policy (map (λ p. p.now) l.one) (map (λ p. p.now) l.other);
  length : length l.one ≡ length l.other;
}
