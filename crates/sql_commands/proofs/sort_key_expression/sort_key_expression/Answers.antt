use Rattle.std.proofs.Common.{rules}
use Rattle.std.proofs.lemmas.Bool.{iff_false}
use Rattle.sql_grammar.proofs.Leaves.{sort_key_expression_read, lone_number, no_sort_key_expression}
use Rattle.sql_commands.proofs.sort_key_expression.sort_key_expression.Goals as goal

pub returns-in_err-value : goal.returns-in_err-value
returns-in_err-value c = let m = no_sort_key_expression c.in_err-value.ensures in search rules

pub returns-then-is_lone_number : goal.returns-then-is_lone_number
returns-then-is_lone_number c = lone_number c.in_ok-value.ensures (c.is_lone_number.ensures.0 c.if-is_lone_number.true)

pub returns : goal.returns
returns c = sort_key_expression_read c.in_ok-value.ensures (iff_false c.is_lone_number.ensures c.if-is_lone_number.false)
