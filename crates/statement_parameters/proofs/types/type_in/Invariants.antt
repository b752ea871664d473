use Rattle.std.proofs.Common.{◌≡◌, length}
use Rattle.statement_parameters.specs.Types.{type_in}
use Rattle.statement_parameters.proofs.types.type_in.Given as goal

abbrev pub invariant-loop-types : goal.invariant-loop-types
invariant-loop-types l = type_in l.types l.oid ≡ type_in l.initial.types l.oid

abbrev pub decreases-loop-types : goal.decreases-loop-types
decreases-loop-types l = length l.types
