use Rattle.std.proofs.Common.{◌≡◌, ◌≤◌, ◌*◌, take}
use Rattle.abstract_database.specs.Sizes.{names_size}
use Rattle.schema_statements.proofs.policy_limits.names_size.Given as goal

-- the size of the names before, of which none takes more than 64 bytes
abbrev pub invariant-loop-name : goal.invariant-loop-name
invariant-loop-name l = (l.size ≡ names_size (take l.name-index l.names)) × (l.size ≤ 64 * l.name-index)
