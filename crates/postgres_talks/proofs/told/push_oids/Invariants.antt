use Rattle.std.proofs.Common.{◌≡◌, ◌++◌, map, take}
use Rattle.statement_parameters.specs.Types.{oid_of}
use Rattle.postgres_talks.proofs.told.push_oids.Given as goal

abbrev pub invariant-loop-declared : goal.invariant-loop-declared
invariant-loop-declared l = l.oids.items ≡ l.fn.oids.items ++ map oid_of (take l.declared-index l.types)
