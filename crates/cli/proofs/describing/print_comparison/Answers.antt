use Rattle.std.proofs.Common.{Result, Ok, subst, sym}
use Rattle.stored_database.specs.Definitions.{Definitions}
use Rattle.cli.specs.declared.fault.CommandFault.{CommandFault}
use Rattle.cli.specs.Describing.{IsReadCompared}
use Rattle.cli.proofs.describing.print_comparison.Goals as goal

pub returns-in-Ok-Ok : goal.returns-in-Ok-Ok
returns-in-Ok-Ok g c =
    let before = g.K.Sink.held c.args.out.now in
    let after = g.K.Sink.held c.print_differences.new.out in
    let e = c.print_differences.result in
    subst (λ (r : Result Definitions CommandFault). IsReadCompared r c.args.read c.args.json before e after) (sym c.in-Ok-Ok.is-0)
    (subst (λ (r : Result Definitions CommandFault). IsReadCompared (Ok c.in-Ok-Ok.old) r c.args.json before e after) (sym c.in-Ok-Ok.is-1) c.print_differences.ensures)
