use Rattle.std.proofs.Common.{ℕ, List, inl, inr, refl, subst, ◌∙◌}
use Rattle.cli.specs.Printing.{IsPrinted}
use Rattle.cli.proofs.dump_commands.print_roles.Goals as goal

pub returns-in-Ok : goal.returns-in-Ok
returns-in-Ok g c =
    inl (subst (λ (text : List ℕ). IsPrinted text (g.K.Sink.held c.args.out.now) c.print_text.result (g.K.Sink.held c.print_text.new.out)) (c.as_str.ensures.value ∙ c.in-Ok.ensures) c.print_text.ensures)

pub returns-in-Err : goal.returns-in-Err
returns-in-Err g c = inr (refl, refl)
