use Rattle.std.proofs.Common.{◌≡◌, ◌++◌, length, map}
use Rattle.abstract_database.specs.Whole.{Each}
use Rattle.access_texts.specs.Access.{StandsForTable}
use Rattle.access_texts.proofs.each_table.each_access.Given as goal

abbrev pub invariant-loop-rest : goal.invariant-loop-rest
invariant-loop-rest l = record {
  tables : map (λ x. x.table.now) l.found.items ++ map (λ t. t.now) l.rest ≡ map (λ t. t.now) l.tables;
  found : Each (StandsForTable l.catalogue) l.found.items;
}

abbrev pub decreases-loop-rest : goal.decreases-loop-rest
decreases-loop-rest l = length l.rest
