use Rattle.std.proofs.Common.{map, drop}
use Rattle.sql_ast.specs.declared.privilege.Descriptor.{Descriptor}
use Rattle.abstract_database.specs.Database.{same_action}
use Rattle.abstract_database.specs.Whole.{Each}
use Rattle.descriptions.proofs.Finding.{Finds}
use Rattle.table_access.specs.Accesses.{ReachesBy}
use Rattle.table_access.proofs.grants.grants_for.Given as goal

abbrev pub invariant-loop-descriptor : goal.invariant-loop-descriptor
invariant-loop-descriptor l = record {
  grants : Finds (λ (d : Descriptor). same_action d.action l.action) (map (λ d. d.now) l.given) (map (λ d. d.now) (drop l.descriptor-index l.given)) (map (λ g. g.descriptor.now) l.found.items);
  memberships : Each (ReachesBy l.memberships l.role) l.found.items;
}
