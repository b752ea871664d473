use Rattle.std.proofs.Common.{ℕ, subst}
use Rattle.abstract_database.specs.Lists.{TheName}
use Rattle.abstract_database.specs.Machine.{opens, executes, closes}
use Rattle.abstract_database.specs.Runs.{TheText, MayRunOutOfMemory}
use Rattle.server.specs.Decisions.{machine_at, Decides, DecidesAt}
use Rattle.sessions.specs.Opening.{Opens}
use Rattle.sessions.proofs.AnyReading.{closing_decides}
use Rattle.sessions.specs.Readings.{ReadsText}
use Rattle.sessions.proofs.Deciding.{opening_decides}
use Rattle.sessions.proofs.SeenDefinitions.{has_roles}
use Rattle.sessions.proofs.handler.SessionHandlerEventHandler.decide.Goals as goal

pub returns-in-Ok-clause-decides : goal.returns-in-Ok-clause-decides
returns-in-Ok-clause-decides g c sound db holder shown held holds =
    rw c.in-Open.is (subst (λ (n : ℕ). Decides ReadsText (g.M.Map.state c.args.map.now).map c.args.context.catalogue.now c.args.context.writer.now db holder c.args.context.sessions.now.entries
    (opens n c.in-Open.login) c.in-Ok.decision) c.number_in-number.ensures
    (opening_decides (g.M.Map.state c.args.map.now).map c.args.context.catalogue.now c.args.context.writer.now db holder c.args.context.sessions.now.entries _ _ _ holds
    (subst (λ (name : TheName). Opens db holder c.args.context.sessions.now.entries c.number_in-number.result name c.in-Ok.decision) c.as_str.ensures (c.in-Ok.ensures.opens db holder (has_roles _ c.args.context.catalogue.now db shown) holds))))

pub returns-in-Err-clause-decides : goal.returns-in-Err-clause-decides
returns-in-Err-clause-decides g c sound db holder shown held holds =
    rw c.in-Open.is (subst (λ (n : ℕ). MayRunOutOfMemory (machine_at db holder c.args.context.sessions.now.entries) (opens n c.in-Open.login)) c.number_in-number.ensures (c.in-Err.ensures.memory db holder))

pub returns-in-Statement-clause-decides : goal.returns-in-Statement-clause-decides
returns-in-Statement-clause-decides g c sound db holder shown held holds =
    rw c.in-Statement.is (subst (λ (n : ℕ). DecidesAt ReadsText (g.M.Map.state c.args.map.now).map c.args.context.catalogue.now c.args.context.writer.now db holder c.args.context.sessions.now.entries
    (executes n c.in-Statement.text) c.decide_text.result) c.number_in-number-in-Statement.ensures
    (subst (λ (text : TheText). DecidesAt ReadsText (g.M.Map.state c.args.map.now).map c.args.context.catalogue.now c.args.context.writer.now db holder c.args.context.sessions.now.entries
    (executes c.number_in-number-in-Statement.result text) c.decide_text.result) c.as_str-in-Statement.ensures (c.decide_text.ensures.decides sound db holder shown held holds)))

pub returns-in-Close-clause-decides : goal.returns-in-Close-clause-decides
returns-in-Close-clause-decides g c sound db holder shown held holds =
    rw c.in-Close.is (subst (λ (n : ℕ). Decides ReadsText (g.M.Map.state c.args.map.now).map c.args.context.catalogue.now c.args.context.writer.now db holder c.args.context.sessions.now.entries
    (closes n) c.close.result) c.number_in-number-in-Close.ensures
    (closing_decides ReadsText (g.M.Map.state c.args.map.now).map c.args.context.catalogue.now c.args.context.writer.now db holder c.args.context.sessions.now.entries _ _
    (c.close.ensures (g.M.Map.state c.args.map.now).map c.args.context.catalogue.now db holder held holds)))
