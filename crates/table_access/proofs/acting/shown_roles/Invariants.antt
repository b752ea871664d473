use Rattle.std.proofs.Common.{map, drop}
use Rattle.abstract_database.specs.Whole.{Each}
use Rattle.table_access.specs.Accesses.{IsActedAs}
use Rattle.table_access.specs.Likeness.{is_shown}
use Rattle.table_access.proofs.Gathering.{Gathers}
use Rattle.table_access.proofs.acting.shown_roles.Given as goal

abbrev pub invariant-loop-other : goal.invariant-loop-other
invariant-loop-other l = record {
  shown : Gathers (λ r. r.role.now) (is_shown l.is_superuser l.one) l.roles (drop l.other-index l.roles) (map (λ y. y.role.now) l.found.items);
  memberships : Each (IsActedAs l.memberships l.one.role.now.name) l.found.items;
}
