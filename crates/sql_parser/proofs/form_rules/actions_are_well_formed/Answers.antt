use Rattle.std.proofs.Common.{arith, rules}
use Rattle.sql_ast.specs.Read.{IsWellFormedAction}
use Rattle.sql_parser.proofs.Loops.{all_more, all_done}
use Rattle.sql_parser.proofs.form_rules.actions_are_well_formed.Goals as goal

pub loop-action-preserved : goal.loop-action-preserved
loop-action-preserved c = all_more IsWellFormedAction _ _ _ c.action-item.is (omega arith) c.loop-action.invariant (c.action_is_well_formed.ensures.0 c.if-not-action_is_well_formed.false)

pub returns : goal.returns
returns c = let h = all_done IsWellFormedAction c.args.actions.now c.loop-action.action-index c.loop-action-test.false c.loop-action.invariant in (λ _. h, λ _. search rules)
