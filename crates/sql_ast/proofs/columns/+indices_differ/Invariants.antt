use Rattle.std.proofs.Common.{length}
use Rattle.sql_ast.proofs.columns.+indices_differ.Given as goal

abbrev pub decreases-indices_differ : goal.decreases-indices_differ
decreases-indices_differ l = length l.key.now
