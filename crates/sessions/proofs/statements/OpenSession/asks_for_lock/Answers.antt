use Rattle.std.proofs.Common.{◌≡◌, ◌∙◌, sym, subst, Result, Ok, Err}
use Rattle.sql_types.specs.declared.state.SqlState.{SqlState}
use Rattle.store.specs.declared.stop.StatementError.{StatementError}
use Rattle.sessions.specs.Serving.{IsAdmission}
use Rattle.sessions.proofs.statements.OpenSession.asks_for_lock.Goals as goal

refused_is_not_admitted : (code : SqlState) → ◌≡◌ {A = Result (Unit {0}) SqlState} (Err code) (Ok tt) → ⊥
refused_is_not_admitted code is = cc

pub returns-in-Ok : goal.returns-in-Ok
returns-in-Ok c records db holder sessions there = (sym c.if-not-is_writing.ensures, c.in-Ok.ensures.admission records db holder sessions there)

pub returns-in-Err-Refused : goal.returns-in-Err-Refused
returns-in-Err-Refused c records db holder sessions there asks =
    let refused_there = subst (λ (e : StatementError). IsAdmission {A = Unit {0}} records c.args.self.now c.args.statement.now (Err e)) c.in-Err-Refused.field-0-is (c.in-Err-Refused.ensures.admission records) in
    refused_is_not_admitted _ (sym (refused_there db holder sessions there) ∙ asks.1)
