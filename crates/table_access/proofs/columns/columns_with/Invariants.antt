use Rattle.std.proofs.Common.{◌-◌}
use Rattle.std.specs.List.{range_with_len}
use Rattle.abstract_database.specs.Privileges.{on_column, has_privilege}
use Rattle.descriptions.proofs.Finding.{Finds}
use Rattle.descriptions.specs.Descriptions.{InEach}
use Rattle.table_access.proofs.columns.columns_with.Given as goal

abbrev pub invariant-loop-index : goal.invariant-loop-index
invariant-loop-index l = InEach l.catalogue l.table (λ db.
    Finds (λ c. has_privilege db l.role l.table.definition.name (on_column l.action c)) (range_with_len 0 l.index-end) (range_with_len l.index (l.index-end - l.index)) l.found.items)
