use Rattle.std.proofs.Common.{Err, subst}
use Rattle.store.specs.StatementError.{ReadsMap}
use Rattle.store.specs.declared.stop.StatementError.{StatementError}
use Rattle.server.specs.declared.decision.Decision.{Decision}
use Rattle.sessions.specs.Serving.{CarriesOut}
use Rattle.sessions.proofs.Executing.{answer_read, refusal_read, failure_read}
use Rattle.sessions.proofs.Serving.{serves_refusal}
use Rattle.sessions.proofs.statements.OpenSession.decide.Goals as goal

pub returns-in-Ok-clause-read : goal.returns-in-Ok-clause-read
returns-in-Ok-clause-read g c = answer_read c.in-Ok.decision c.in-Ok.decision (g.M.Map.state c.args.map.now) (g.M.Map.state c.carry_out.new.map) c.in-Ok.ensures.read

pub returns-in-Ok-clause-serves : goal.returns-in-Ok-clause-serves
returns-in-Ok-clause-serves g c = c.in-Ok.ensures.carries

pub returns-in-Err-Refused-clause-read : goal.returns-in-Err-Refused-clause-read
returns-in-Err-Refused-clause-read g c =
    refusal_read c.in-Err-Refused.code c.refuse.result (g.M.Map.state c.args.map.now) (g.M.Map.state c.carry_out.new.map)
    (subst (λ (stop : StatementError). ReadsMap {A = Decision} (Err stop) (g.M.Map.state c.args.map.now) (g.M.Map.state c.carry_out.new.map)) c.in-Err-Refused.field-0-is c.in-Err-Refused.ensures.read)

pub returns-in-Err-Refused-clause-serves : goal.returns-in-Err-Refused-clause-serves
returns-in-Err-Refused-clause-serves g c sound read written =
    let records = (g.M.Map.state c.args.map.now).map in
    serves_refusal records c.args.self.now c.args.statement.now c.refuse.result c.in-Err-Refused.code
    (subst (λ (stop : StatementError). CarriesOut records c.args.self.now c.args.statement.now (Err stop)) c.in-Err-Refused.field-0-is (c.in-Err-Refused.ensures.carries sound read written)) c.refuse.ensures

pub returns-in-Err-Failed-clause-read : goal.returns-in-Err-Failed-clause-read
returns-in-Err-Failed-clause-read g c =
    failure_read c.in-Err-Failed.fault (g.M.Map.state c.args.map.now) (g.M.Map.state c.carry_out.new.map)
    (subst (λ (stop : StatementError). ReadsMap {A = Decision} (Err stop) (g.M.Map.state c.args.map.now) (g.M.Map.state c.carry_out.new.map)) c.in-Err-Failed.field-0-is c.in-Err-Failed.ensures.read)

pub returns-in-Err-Failed-clause-serves : goal.returns-in-Err-Failed-clause-serves
returns-in-Err-Failed-clause-serves g c sound read written =
    subst (λ (stop : StatementError). CarriesOut (g.M.Map.state c.args.map.now).map c.args.self.now c.args.statement.now (Err stop)) c.in-Err-Failed.field-0-is (c.in-Err-Failed.ensures.carries sound read written)

pub returns-in-Err-Failed-clause-ends : goal.returns-in-Err-Failed-clause-ends
returns-in-Err-Failed-clause-ends g c = λ ends. let wrong = c.in-Err-Failed.ensures.ends ends in cc
