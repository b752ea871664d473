use Rattle.std.proofs.Common.{◌≡◌, ◌∙◌, Ok, Err, refl, sym, ap, subst}
use Rattle.sql_ast.specs.Statements.{IsRead}
use Rattle.sql_ast.specs.declared.statement.SessionStatement.{SessionStatement}
use Rattle.sql_ast.specs.declared.statement.Statement.{Statement}
use Rattle.sql_ast.specs.declared.statement.Statement.TheVariants as statement
use Rattle.sql_parser.specs.Policies.{HasConditionsAsWritten}
use Rattle.store.proofs.Reading.{none_read}
use Rattle.store.specs.StatementError.{FailsForMemory, ReadsMap}
use Rattle.store.specs.declared.fault.Fault.TheVariants.{Memory}
use Rattle.store.specs.declared.stop.StatementError.{StatementError}
use Rattle.store.specs.declared.stop.StatementError.TheVariants.{Failed}
use Rattle.stored_database.specs.Definitions.{Definitions}
use Rattle.server.specs.declared.decision.Decision.{Decision}
use Rattle.sessions.specs.Admission.{SeesRolesOf}
use Rattle.sessions.specs.Decisions.{Serves, Never}
use Rattle.sessions.specs.Roles.{role_set}
use Rattle.sessions.specs.Serving.{EndsBlock, IsAdmission, CarriesOut}
use Rattle.sessions.proofs.Executing.{ended, unread, stopped_read, decided_read, stop_carries, serves_result}
use Rattle.sessions.proofs.Serving.{admission_refuses, admitted_serves, memory_carries, serves_begin, serves_set, serves_reset, serves_commit, serves_rollback, database_ends_none, begin_ends_none, set_ends_none, reset_ends_none}
use Rattle.sessions.proofs.statements.OpenSession.carry_out.Given as given
use Rattle.sessions.proofs.statements.OpenSession.carry_out.Goals as goal

of_session : {a b : SessionStatement} → a ≡ b → statement.OfSession a ≡ statement.OfSession b
of_session e = ap (λ (y : SessionStatement). statement.OfSession y) e

-- a stop before anything is read
unread_stop : (g : given.Over) (map : g.row.M.Denot) (stop : StatementError) → FailsForMemory stop → ReadsMap {A = Decision} (Err stop) (g.M.Map.state map) (g.M.Map.state map)
unread_stop g map stop memory = unread stop (g.M.Map.state map) memory (none_read (g.M.Map.state map) (g.met.M.Map.only_now map))

-- OnDatabase: the session may not execute it

pub returns-in_err-admit-in-OnDatabase-clause-read : goal.returns-in_err-admit-in-OnDatabase-clause-read
returns-in_err-admit-in-OnDatabase-clause-read g c =
    ended c.in_err-admit-in-OnDatabase.field-0.0 (λ r. ReadsMap {A = Decision} r (g.M.Map.state c.args.map.now) (g.M.Map.state c.args.map.now)) c.from_residual.result c.from_residual.ensures.1
    (unread_stop g c.args.map.now c.in_err-admit-in-OnDatabase.field-0.0 c.in_err-admit-in-OnDatabase.ensures.memory)

pub returns-in_err-admit-in-OnDatabase-clause-carries : goal.returns-in_err-admit-in-OnDatabase-clause-carries
returns-in_err-admit-in-OnDatabase-clause-carries g c sound read written =
    let records = (g.M.Map.state c.args.map.now).map in
    ended c.in_err-admit-in-OnDatabase.field-0.0 (CarriesOut records c.args.self.now c.args.statement.now) c.from_residual.result c.from_residual.ensures.1
    (admission_refuses (Unit {0}) records c.args.self.now c.args.statement.now c.in_err-admit-in-OnDatabase.field-0.0 (λ ends. database_ends_none c.in-OnDatabase.over (subst EndsBlock c.in-OnDatabase.is ends)) (c.in_err-admit-in-OnDatabase.ensures.admission records))

pub returns-in_err-admit-in-OnDatabase-clause-ends : goal.returns-in_err-admit-in-OnDatabase-clause-ends
returns-in_err-admit-in-OnDatabase-clause-ends g c = λ ends. absurd (database_ends_none c.in-OnDatabase.over (subst EndsBlock c.in-OnDatabase.is ends))

-- OfSession, Begin: the session may not execute it

pub returns-in_err-admit-in-Begin-clause-read : goal.returns-in_err-admit-in-Begin-clause-read
returns-in_err-admit-in-Begin-clause-read g c =
    ended c.in_err-admit-in-Begin.field-0.0 (λ r. ReadsMap {A = Decision} r (g.M.Map.state c.args.map.now) (g.M.Map.state c.args.map.now)) c.from_residual-in_err-admit-in-Begin.result c.from_residual-in_err-admit-in-Begin.ensures.1
    (unread_stop g c.args.map.now c.in_err-admit-in-Begin.field-0.0 c.in_err-admit-in-Begin.ensures.memory)

pub returns-in_err-admit-in-Begin-clause-carries : goal.returns-in_err-admit-in-Begin-clause-carries
returns-in_err-admit-in-Begin-clause-carries g c sound read written =
    let records = (g.M.Map.state c.args.map.now).map in
    ended c.in_err-admit-in-Begin.field-0.0 (CarriesOut records c.args.self.now c.args.statement.now) c.from_residual-in_err-admit-in-Begin.result c.from_residual-in_err-admit-in-Begin.ensures.1
    (admission_refuses (Unit {0}) records c.args.self.now c.args.statement.now c.in_err-admit-in-Begin.field-0.0 (λ ends. begin_ends_none (subst EndsBlock (c.in-OfSession.is ∙ of_session c.in-Begin.is) ends)) (c.in_err-admit-in-Begin.ensures.admission records))

pub returns-in_err-admit-in-Begin-clause-ends : goal.returns-in_err-admit-in-Begin-clause-ends
returns-in_err-admit-in-Begin-clause-ends g c = λ ends. absurd (begin_ends_none (subst EndsBlock (c.in-OfSession.is ∙ of_session c.in-Begin.is) ends))

-- OfSession, SetRole: the session may not execute it

pub returns-in_err-admit-in-SetRole-clause-read : goal.returns-in_err-admit-in-SetRole-clause-read
returns-in_err-admit-in-SetRole-clause-read g c =
    ended c.in_err-admit-in-SetRole.field-0.0 (λ r. ReadsMap {A = Decision} r (g.M.Map.state c.args.map.now) (g.M.Map.state c.args.map.now)) c.from_residual-in_err-admit-in-SetRole.result c.from_residual-in_err-admit-in-SetRole.ensures.1
    (unread_stop g c.args.map.now c.in_err-admit-in-SetRole.field-0.0 c.in_err-admit-in-SetRole.ensures.memory)

pub returns-in_err-admit-in-SetRole-clause-carries : goal.returns-in_err-admit-in-SetRole-clause-carries
returns-in_err-admit-in-SetRole-clause-carries g c sound read written =
    let records = (g.M.Map.state c.args.map.now).map in
    ended c.in_err-admit-in-SetRole.field-0.0 (CarriesOut records c.args.self.now c.args.statement.now) c.from_residual-in_err-admit-in-SetRole.result c.from_residual-in_err-admit-in-SetRole.ensures.1
    (admission_refuses (Unit {0}) records c.args.self.now c.args.statement.now c.in_err-admit-in-SetRole.field-0.0 (λ ends. set_ends_none c.in-SetRole.set (subst EndsBlock (c.in-OfSession.is ∙ of_session c.in-SetRole.is) ends)) (c.in_err-admit-in-SetRole.ensures.admission records))

pub returns-in_err-admit-in-SetRole-clause-ends : goal.returns-in_err-admit-in-SetRole-clause-ends
returns-in_err-admit-in-SetRole-clause-ends g c = λ ends. absurd (set_ends_none c.in-SetRole.set (subst EndsBlock (c.in-OfSession.is ∙ of_session c.in-SetRole.is) ends))

-- OfSession, ResetRole: the session may not execute it

pub returns-in_err-admit-in-ResetRole-clause-read : goal.returns-in_err-admit-in-ResetRole-clause-read
returns-in_err-admit-in-ResetRole-clause-read g c =
    ended c.in_err-admit-in-ResetRole.field-0.0 (λ r. ReadsMap {A = Decision} r (g.M.Map.state c.args.map.now) (g.M.Map.state c.args.map.now)) c.from_residual-in_err-admit-in-ResetRole.result c.from_residual-in_err-admit-in-ResetRole.ensures.1
    (unread_stop g c.args.map.now c.in_err-admit-in-ResetRole.field-0.0 c.in_err-admit-in-ResetRole.ensures.memory)

pub returns-in_err-admit-in-ResetRole-clause-carries : goal.returns-in_err-admit-in-ResetRole-clause-carries
returns-in_err-admit-in-ResetRole-clause-carries g c sound read written =
    let records = (g.M.Map.state c.args.map.now).map in
    ended c.in_err-admit-in-ResetRole.field-0.0 (CarriesOut records c.args.self.now c.args.statement.now) c.from_residual-in_err-admit-in-ResetRole.result c.from_residual-in_err-admit-in-ResetRole.ensures.1
    (admission_refuses (Unit {0}) records c.args.self.now c.args.statement.now c.in_err-admit-in-ResetRole.field-0.0 (λ ends. reset_ends_none (subst EndsBlock (c.in-OfSession.is ∙ of_session c.in-ResetRole.is) ends)) (c.in_err-admit-in-ResetRole.ensures.admission records))

pub returns-in_err-admit-in-ResetRole-clause-ends : goal.returns-in_err-admit-in-ResetRole-clause-ends
returns-in_err-admit-in-ResetRole-clause-ends g c = λ ends. absurd (reset_ends_none (subst EndsBlock (c.in-OfSession.is ∙ of_session c.in-ResetRole.is) ends))

-- a statement over the database

pub returns-in_err-effect-in-OnDatabase-clause-read : goal.returns-in_err-effect-in-OnDatabase-clause-read
returns-in_err-effect-in-OnDatabase-clause-read g c =
    let stop = c.in_err-effect-in-OnDatabase.field-0.0 in
    let r = c.from_residual-in_err-effect-in-OnDatabase in
    ended stop (λ r. ReadsMap {A = Decision} r (g.M.Map.state c.args.map.now) (g.M.Map.state c.execute.new.map)) r.result r.ensures.1
    (stopped_read stop (g.M.Map.state c.args.map.now) (g.M.Map.state c.execute.new.map) c.in_err-effect-in-OnDatabase.ensures.read)

pub returns-in_err-effect-in-OnDatabase-clause-carries : goal.returns-in_err-effect-in-OnDatabase-clause-carries
returns-in_err-effect-in-OnDatabase-clause-carries g c sound read written =
    let records = (g.M.Map.state c.args.map.now).map in
    let stop = c.in_err-effect-in-OnDatabase.field-0.0 in
    let r = c.from_residual-in_err-effect-in-OnDatabase in
    let is = c.in-OnDatabase.is in
    let x = c.in-OnDatabase.over in
    ended stop (CarriesOut records c.args.self.now c.args.statement.now) r.result r.ensures.1
    (subst (λ (y : Statement). CarriesOut records c.args.self.now y (Err stop)) (sym is)
    (stop_carries records c.args.self.now x (subst IsRead is read) (subst HasConditionsAsWritten is written) c.in_ok-admit-in-OnDatabase.field-0 stop
    (subst (λ (y : Statement). IsAdmission records c.args.self.now y (Ok c.in_ok-admit-in-OnDatabase.field-0)) is (c.in_ok-admit-in-OnDatabase.ensures.admission records))
    (c.in_err-effect-in-OnDatabase.ensures.executes sound)))

pub returns-in_err-effect-in-OnDatabase-clause-ends : goal.returns-in_err-effect-in-OnDatabase-clause-ends
returns-in_err-effect-in-OnDatabase-clause-ends g c = λ ends. absurd (database_ends_none c.in-OnDatabase.over (subst EndsBlock c.in-OnDatabase.is ends))

pub returns-in_ok-effect-in-OnDatabase-clause-read : goal.returns-in_ok-effect-in-OnDatabase-clause-read
returns-in_ok-effect-in-OnDatabase-clause-read g c =
    decided_read c.in_ok-effect-in-OnDatabase.effect c.decision_for.result (g.M.Map.state c.args.map.now) (g.M.Map.state c.execute.new.map) c.in_ok-effect-in-OnDatabase.ensures.read

pub returns-in_ok-effect-in-OnDatabase-clause-carries : goal.returns-in_ok-effect-in-OnDatabase-clause-carries
returns-in_ok-effect-in-OnDatabase-clause-carries g c sound read written =
    let records = (g.M.Map.state c.args.map.now).map in
    let is = c.in-OnDatabase.is in
    let x = c.in-OnDatabase.over in
    let effect = c.in_ok-effect-in-OnDatabase.effect in
    admitted_serves records c.args.self.now c.args.statement.now c.in_ok-admit-in-OnDatabase.field-0 (Ok c.decision_for.result) (c.in_ok-admit-in-OnDatabase.ensures.admission records)
    (rw is (serves_result records c.args.self.now x (subst IsRead is read) (subst HasConditionsAsWritten is written) (Ok effect) c.decision_for.result (c.in_ok-effect-in-OnDatabase.ensures.executes sound) c.decision_for.ensures))

-- OfSession, Begin

pub returns-in_err-begin-in-Begin-clause-read : goal.returns-in_err-begin-in-Begin-clause-read
returns-in_err-begin-in-Begin-clause-read g c =
    ended (Failed Memory) (λ r. ReadsMap {A = Decision} r (g.M.Map.state c.args.map.now) (g.M.Map.state c.args.map.now)) c.from_residual-in_err-begin-in-Begin.result c.from_residual-in_err-begin-in-Begin.ensures.1 (unread_stop g c.args.map.now (Failed Memory) refl)

pub returns-in_err-begin-in-Begin-clause-carries : goal.returns-in_err-begin-in-Begin-clause-carries
returns-in_err-begin-in-Begin-clause-carries g c sound read written =
    ended (Failed Memory) (CarriesOut (g.M.Map.state c.args.map.now).map c.args.self.now c.args.statement.now) c.from_residual-in_err-begin-in-Begin.result c.from_residual-in_err-begin-in-Begin.ensures.1 (memory_carries (g.M.Map.state c.args.map.now).map c.args.self.now c.args.statement.now)

pub returns-in_err-begin-in-Begin-clause-ends : goal.returns-in_err-begin-in-Begin-clause-ends
returns-in_err-begin-in-Begin-clause-ends g c = λ ends. absurd (begin_ends_none (subst EndsBlock (c.in-OfSession.is ∙ of_session c.in-Begin.is) ends))

-- OfSession, SetRole

pub returns-in_err-set_role-in-SetRole-clause-read : goal.returns-in_err-set_role-in-SetRole-clause-read
returns-in_err-set_role-in-SetRole-clause-read g c =
    ended (Failed Memory) (λ r. ReadsMap {A = Decision} r (g.M.Map.state c.args.map.now) (g.M.Map.state c.args.map.now)) c.from_residual-in_err-set_role-in-SetRole.result c.from_residual-in_err-set_role-in-SetRole.ensures.1 (unread_stop g c.args.map.now (Failed Memory) refl)

pub returns-in_err-set_role-in-SetRole-clause-carries : goal.returns-in_err-set_role-in-SetRole-clause-carries
returns-in_err-set_role-in-SetRole-clause-carries g c sound read written =
    ended (Failed Memory) (CarriesOut (g.M.Map.state c.args.map.now).map c.args.self.now c.args.statement.now) c.from_residual-in_err-set_role-in-SetRole.result c.from_residual-in_err-set_role-in-SetRole.ensures.1 (memory_carries (g.M.Map.state c.args.map.now).map c.args.self.now c.args.statement.now)

pub returns-in_err-set_role-in-SetRole-clause-ends : goal.returns-in_err-set_role-in-SetRole-clause-ends
returns-in_err-set_role-in-SetRole-clause-ends g c = λ ends. absurd (set_ends_none c.in-SetRole.set (subst EndsBlock (c.in-OfSession.is ∙ of_session c.in-SetRole.is) ends))

-- OfSession, ResetRole

pub returns-in_err-reset_role-in-ResetRole-clause-read : goal.returns-in_err-reset_role-in-ResetRole-clause-read
returns-in_err-reset_role-in-ResetRole-clause-read g c =
    ended (Failed Memory) (λ r. ReadsMap {A = Decision} r (g.M.Map.state c.args.map.now) (g.M.Map.state c.args.map.now)) c.from_residual-in_err-reset_role-in-ResetRole.result c.from_residual-in_err-reset_role-in-ResetRole.ensures.1 (unread_stop g c.args.map.now (Failed Memory) refl)

pub returns-in_err-reset_role-in-ResetRole-clause-carries : goal.returns-in_err-reset_role-in-ResetRole-clause-carries
returns-in_err-reset_role-in-ResetRole-clause-carries g c sound read written =
    ended (Failed Memory) (CarriesOut (g.M.Map.state c.args.map.now).map c.args.self.now c.args.statement.now) c.from_residual-in_err-reset_role-in-ResetRole.result c.from_residual-in_err-reset_role-in-ResetRole.ensures.1 (memory_carries (g.M.Map.state c.args.map.now).map c.args.self.now c.args.statement.now)

pub returns-in_err-reset_role-in-ResetRole-clause-ends : goal.returns-in_err-reset_role-in-ResetRole-clause-ends
returns-in_err-reset_role-in-ResetRole-clause-ends g c = λ ends. absurd (reset_ends_none (subst EndsBlock (c.in-OfSession.is ∙ of_session c.in-ResetRole.is) ends))

pub returns-in_ok-begin-in-Begin-clause-carries : goal.returns-in_ok-begin-in-Begin-clause-carries
returns-in_ok-begin-in-Begin-clause-carries g c sound read written =
    let records = (g.M.Map.state c.args.map.now).map in
    let what = c.in_ok-begin-in-Begin in
    admitted_serves records c.args.self.now c.args.statement.now c.in_ok-admit-in-Begin.field-0 (Ok what.field-0) (c.in_ok-admit-in-Begin.ensures.admission records)
    (serves_begin records c.args.self.now c.args.statement.now what.field-0 (c.in-OfSession.is ∙ of_session c.in-Begin.is) (what.ensures c.args.self.now.writer.now))

pub returns-in_ok-set_role-in-SetRole-clause-carries : goal.returns-in_ok-set_role-in-SetRole-clause-carries
returns-in_ok-set_role-in-SetRole-clause-carries g c sound read written =
    let records = (g.M.Map.state c.args.map.now).map in
    let at = c.args.self.now in
    let what = c.in_ok-set_role-in-SetRole in
    let set = c.in-SetRole.set in
    admitted_serves records at c.args.statement.now c.in_ok-admit-in-SetRole.field-0 (Ok what.field-0) (c.in_ok-admit-in-SetRole.ensures.admission records)
    (serves_set records at c.args.statement.now what.field-0 set (c.in-OfSession.is ∙ of_session c.in-SetRole.is)
    (subst (λ (seen : Definitions). Serves at.writer.now at.number at.session.now (SeesRolesOf seen at.number) Never (λ m. role_set m at.number at.session.now set.role) what.field-0)
    c.seen_catalogue-seen.ensures (what.ensures at.writer.now)))

pub returns-in_ok-reset_role-in-ResetRole-clause-carries : goal.returns-in_ok-reset_role-in-ResetRole-clause-carries
returns-in_ok-reset_role-in-ResetRole-clause-carries g c sound read written =
    let records = (g.M.Map.state c.args.map.now).map in
    let what = c.in_ok-reset_role-in-ResetRole in
    admitted_serves records c.args.self.now c.args.statement.now c.in_ok-admit-in-ResetRole.field-0 (Ok what.field-0) (c.in_ok-admit-in-ResetRole.ensures.admission records)
    (serves_reset records c.args.self.now c.args.statement.now what.field-0 (c.in-OfSession.is ∙ of_session c.in-ResetRole.is) (what.ensures c.args.self.now.writer.now))

-- COMMIT and ROLLBACK

pub returns-in-Commit-clause-carries : goal.returns-in-Commit-clause-carries
returns-in-Commit-clause-carries g c sound read written =
    serves_commit (g.M.Map.state c.args.map.now).map c.args.self.now c.args.statement.now c.commit.result (c.in-OfSession.is ∙ of_session c.in-Commit.is) c.commit.ensures

pub returns-in-Rollback-clause-carries : goal.returns-in-Rollback-clause-carries
returns-in-Rollback-clause-carries g c sound read written =
    serves_rollback (g.M.Map.state c.args.map.now).map c.args.self.now c.args.statement.now c.roll_back.result (c.in-OfSession.is ∙ of_session c.in-Rollback.is) c.roll_back.ensures
