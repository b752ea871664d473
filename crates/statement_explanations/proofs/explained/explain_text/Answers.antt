use Rattle.std.proofs.Common.{Some, ap}
use Rattle.std.proofs.lemmas.Result.{IfOk-weaker}
use Rattle.statement_explanations.specs.Explained.{IsTextExplained}
use Rattle.statement_explanations.proofs.explained.explain_text.Goals as goal

pub returns-in-Ok : goal.returns-in-Ok
returns-in-Ok c = IfOk-weaker c.explain_statement.result _ _ (λ outcome h. IsTextExplained.read c.in-Ok.statement c.in-Ok.ensures.answer h) c.explain_statement.ensures

pub returns-in_ok-fault-in-Err : goal.returns-in_ok-fault-in-Err
returns-in_ok-fault-in-Err c = IsTextExplained.refused c.in-Err.refusal.0 c.in_ok-fault-in-Err.ensures.1 c.in-Err.ensures.answer (ap Some c.in_ok-fault-in-Err.ensures.0)
