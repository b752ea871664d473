use Rattle.std.proofs.Common.{◌≡◌, ◌++◌, drop}
use Rattle.abstract_database.specs.Descriptions.{result_columns}
use Rattle.abstract_database.specs.Queries.{each_column}
use Rattle.planner.specs.ResultColumns.{tables_of_sources}
use Rattle.planner.proofs.result_columns.all_columns.Given as goal

-- the columns so far, and those of the tables that are left
abbrev pub invariant-loop-source : goal.invariant-loop-source
invariant-loop-source l =
    result_columns (tables_of_sources l.sources) each_column
    ≡ l.columns ++ result_columns (tables_of_sources (drop l.source-index l.sources)) each_column
