use Rattle.std.proofs.Common.{refl}
use Rattle.sessions.proofs.SeenRecords.{seen_executes, under_lists, without_lists}
use Rattle.sessions.proofs.statements.OpenSession.execute.Goals as goal

pub returns-in-Some-clause-executes : goal.returns-in-Some-clause-executes
returns-in-Some-clause-executes g c sound db holder shown held may =
    let records = (g.M.Map.state c.args.map.now).map in
    let at = c.args.self.now in
    seen_executes at.number records at.catalogue.now at.writer.now db holder at.session.now c.args.statement.now _ _ _ c.execute_under.result
    (under_lists at.number at.writer.now _ records c.in-Some.ensures) refl refl
    shown held may (λ other. c.execute_under.ensures.executes sound other)

pub returns-in-None-clause-executes : goal.returns-in-None-clause-executes
returns-in-None-clause-executes g c sound db holder shown held may =
    let records = (g.M.Map.state c.args.map.now).map in
    let at = c.args.self.now in
    seen_executes at.number records at.catalogue.now at.writer.now db holder at.session.now c.args.statement.now _ _ _ c.execute.result
    (without_lists at.number at.writer.now records c.in-None.ensures) c.seen_catalogue-seen.ensures refl
    shown held may (λ other. c.execute.ensures.executes sound other)
