use Rattle.std.proofs.Common.{◌≡◌, ◌-◌, ◌^◌, min, take}
use Rattle.std.specs.Prelude.{sum_by}
use Rattle.sql_ast.specs.Read.{primary_keys_in}
use Rattle.sql_parser.proofs.form_rules.has_one_key.Given as goal

abbrev pub invariant-loop-element : goal.invariant-loop-element
invariant-loop-element l = l.keys ≡ min (sum_by primary_keys_in (take l.element-index l.elements)) (2 ^ 64 - 1)
