use Rattle.std.proofs.Common.{◌≡◌, ◌++◌, map, drop}
use Rattle.std.specs.Prelude.{option_to_list}
use Rattle.sql_ast.specs.Scope.{found_from, table_of}
use Rattle.sql_ast.proofs.scope.Scope.find.Given as goal

-- what was found so far and what is still to be found are the columns that the name may mean
abbrev pub invariant-loop-index : goal.invariant-loop-index
invariant-loop-index l = found_from 0 (map table_of l.self.tables.now) l.name ≡ option_to_list l.found ++ found_from l.index (map table_of (drop l.index l.self.tables.now)) l.name
