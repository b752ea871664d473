use Rattle.std.proofs.Common.{◌≡◌, ◌∙◌, sym, subst, Result, Ok, Err}
use Rattle.sql_types.specs.declared.state.SqlState.{SqlState}
use Rattle.sql_types.specs.declared.state.SqlState.TheVariants.{LockNotAvailable}
use Rattle.store.specs.declared.stop.StatementError.{StatementError}
use Rattle.sessions.specs.Serving.{IsAdmission}
use Rattle.sessions.specs.LockedOut.{IsForLock}
use Rattle.sessions.proofs.statements.OpenSession.is_locked_out.Goals as goal

admitted_is_no_refusal : ◌≡◌ {A = Result (Unit {0}) SqlState} (Ok tt) (Err LockNotAvailable) → ⊥
admitted_is_no_refusal is = cc

pub returns-in-Ok : goal.returns-in-Ok
returns-in-Ok c records db holder sessions there refused = admitted_is_no_refusal (sym (c.in-Ok.ensures.admission records db holder sessions there) ∙ refused)

pub returns-in-Err-Refused : goal.returns-in-Err-Refused
returns-in-Err-Refused c records db holder sessions there =
    let refused_there = subst (λ (e : StatementError). IsAdmission {A = Unit {0}} records c.args.self.now c.args.statement.now (Err e)) c.in-Err-Refused.field-0-is (c.in-Err-Refused.ensures.admission records) in
    subst (IsForLock c.is_for_lock.result) (sym (refused_there db holder sessions there)) c.is_for_lock.ensures
