use Rattle.std.proofs.Common.{◌≡◌, ◌∙◌, ap, ℕ, List, Result, Ok, Err, refl, subst}
use Rattle.std.specs.Prelude.{IfOk}
use Rattle.stored_database.specs.Definitions.{Definitions}
use Rattle.statement_explanations.specs.declared.explained.Acting.{Acting}
use Rattle.statement_explanations.specs.declared.explained.ExplainFault.{ExplainFault}
use Rattle.statement_explanations.specs.Explained.{IsExplained, asked_session, fault_in}
use Rattle.cli.specs.declared.ending.Ending.TheVariants as ending
use Rattle.cli.specs.declared.ending.Subject.{Subject}
use Rattle.cli.specs.declared.fault.CommandFault.{CommandFault}
use Rattle.cli.specs.ExplainCommand.{Ended, IsStatementExplained, acting_of, fault_of_statement, statement_subject}
use Rattle.cli.proofs.explain_command.print_over.Goals as goal

-- what is said of a result is said of what came out
explained_so : {T E : Type 0} (d : Definitions) (acting asked : Acting) (text : List ℕ) (result : Result (Result T ExplainFault) E) → acting ≡ asked
    → IfOk result (λ outcome. IsExplained d acting.role.now (asked_session acting) text (fault_in outcome)) → (outcome : Result T ExplainFault) → result ≡ Ok outcome
    → IsExplained d asked.role.now (asked_session asked) text (fault_in outcome)
explained_so {T} {E} d acting asked text result same holds outcome is =
    subst (λ (a : Acting). IsExplained d a.role.now (asked_session a) text (fault_in outcome)) same
    (subst (λ (r : Result (Result T ExplainFault) E). IfOk r (λ o. IsExplained d acting.role.now (asked_session acting) text (fault_in o))) is holds)

ended_so : (f g : CommandFault) (a b : Subject) → f ≡ g → a ≡ b → ◌≡◌ {A = Ended} (ending.Fault f, a) (ending.Fault g, b)
ended_so f g a b fault about = ap (λ (x : CommandFault). let e : Ended = (ending.Fault x, a) in e) fault ∙ ap (λ (x : Subject). let e : Ended = (ending.Fault g, x) in e) about

pub returns-in-Ok-Ok : goal.returns-in-Ok-Ok
returns-in-Ok-Ok g c =
    let asked = c.args.asked in
    let explained = explained_so c.args.catalogue.now c.acting_of.result (acting_of asked) asked.statement.now c.explain.result c.acting_of.ensures c.explain.ensures
    (Ok c.in-Ok-Ok.text) (c.in-Ok-Ok.is ∙ ap Ok c.in-Ok-Ok.field-0-is) in
    IsStatementExplained.printed c.as_str.result.now explained c.show_text.ensures refl

pub returns-in-Ok-Err : goal.returns-in-Ok-Err
returns-in-Ok-Err g c =
    let asked = c.args.asked in
    let fault = c.in-Ok-Err.fault in
    let explained = explained_so c.args.catalogue.now c.acting_of.result (acting_of asked) asked.statement.now c.explain.result c.acting_of.ensures c.explain.ensures
    (Err fault) (c.in-Ok-Err.is ∙ ap Ok c.in-Ok-Err.field-0-is) in
    IsStatementExplained.unexplained fault explained (ended_so c.fault_of_statement.result (fault_of_statement fault) c.subject_of.result (statement_subject asked fault) c.fault_of_statement.ensures c.subject_of.ensures) refl
