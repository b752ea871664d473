use Rattle.std.proofs.Common.{Result, subst, sym}
use Rattle.stored_database.specs.Definitions.{Definitions}
use Rattle.cli.specs.declared.fault.CommandFault.{CommandFault}
use Rattle.cli.specs.ExplainCommand.{IsStatementExplainedBy}
use Rattle.cli.proofs.explain_command.print_explanation.Goals as goal

pub returns-in-Ok : goal.returns-in-Ok
returns-in-Ok g c =
    let before = g.K.Sink.held c.args.out.now in
    let after = g.K.Sink.held c.print_over.new.out in
    subst (λ (read : Result Definitions CommandFault). IsStatementExplainedBy read c.args.file c.args.asked before c.print_over.result after) (sym c.in-Ok.is) c.print_over.ensures
