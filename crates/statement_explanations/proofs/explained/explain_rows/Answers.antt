use Rattle.std.proofs.Common.{Some, subst, sym}
use Rattle.statement_explanations.specs.declared.explained.ExplainFault.{ExplainFault}
use Rattle.statement_explanations.specs.Explained.{IsRowsExplained}
use Rattle.statement_explanations.proofs.explained.explain_rows.Goals as goal

pub returns-in_ok-fault-in-Err : goal.returns-in_ok-fault-in-Err
returns-in_ok-fault-in-Err c =
    subst (λ (fault : ExplainFault). IsRowsExplained c.args.roles.catalogue.now c.args.roles.current.now c.args.statement.now (Some fault)) (sym c.in_ok-fault-in-Err.ensures.0) (c.in_ok-fault-in-Err.ensures.1, c.in-Err.ensures.refusal)
