use Rattle.std.proofs.Common.{◌≡◌, ◌+◌, Some}
use Rattle.statement_parameters.specs.Parts.{appended}
use Rattle.postgres_talks.specs.Parameters.{declared_types, type_count, types_from}
use Rattle.postgres_talks.proofs.parsing.declared_types.Given as goal

-- what was found, and what is declared behind it, is all
abbrev pub invariant-loop-left : goal.invariant-loop-left
invariant-loop-left l = record {
  whole : declared_types l.template l.oids ≡ appended (Some l.types) (types_from l.template l.oids l.index l.left);
  place : l.index + l.left ≡ type_count l.template l.oids;
}

abbrev pub decreases-loop-left : goal.decreases-loop-left
decreases-loop-left l = l.left
