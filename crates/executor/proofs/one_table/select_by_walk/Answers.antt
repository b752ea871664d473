use Rattle.std.proofs.Common.{◌∙◌, List, [], ◌∷◌, Err, Result, subst, sym}
use Rattle.sql_types.specs.Row.{Row}
use Rattle.sql_types.specs.declared.state.SqlState.{SqlState}
use Rattle.abstract_database.specs.Queries.{query}
use Rattle.expressions.specs.Rows.{names_of}
use Rattle.store.specs.declared.stop.StatementError.{StatementError}
use Rattle.table_rows.specs.Failures.{Answers}
use Rattle.table_rows.proofs.MapReads.{ended}
use Rattle.table_rows.proofs.Visiting.{walk_failed}
use Rattle.gathering.specs.Queries.{bound_of}
use Rattle.executor.specs.Selected.{answer_from, source_of, AnswersFront, ReadsAs}
use Rattle.executor.proofs.FoundOrder.{found_never_fall}
use Rattle.executor.proofs.OneTables.{front_answers, front_failed, gathers_rows, whole_is}
use Rattle.executor.proofs.one_table.select_by_walk.Goals as goal

pub returns-in_err-walk-clause-answer : goal.returns-in_err-walk-clause-answer
returns-in_err-walk-clause-answer g c = λ s rows h fit.
    let table = c.args.table.now in
    let failure = c.in_err-walk.field-0.0 in
    let v = c.in_err-walk.ensures.visits s rows h in
    let never = found_never_fall table (g.M.Map.state c.args.records.now).map rows c.order_of_rows-order.result.now c.order_of_rows-order.ensures.layout (g.met.M.Map.ordered c.args.records.now s) c.order_of_rows-order.ensures.order h in
    let order = c.order_of_rows-order.result.now in
    let gathers = gathers_rows order (names_of c.args.users.now) c.args.query.now c.gathered_by-collector.result c.gathered_by-collector.ensures in
    let whole = whole_is table order (names_of c.args.users.now) c.args.query.now rows c.gathered_by-collector.result fit never gathers in
    ended failure (λ r. Answers r (query (source_of table rows ∷ []) (names_of c.args.users.now) (bound_of c.args.query.now))) c.from_residual.result c.from_residual.ensures.1
    (subst (λ (m : Result (List Row) SqlState). let r : Result (List Row) StatementError = Err failure in Answers r m) (sym whole) (walk_failed failure rows _ _ v))

pub returns-in-Ok-clause-answer : goal.returns-in-Ok-clause-answer
returns-in-Ok-clause-answer g c = λ s rows h fit.
    let table = c.args.table.now in
    let v = c.in_ok-walk.ensures.visits s rows h in
    let never = found_never_fall table (g.M.Map.state c.args.records.now).map rows c.order_of_rows-order.result.now c.order_of_rows-order.ensures.layout (g.met.M.Map.ordered c.args.records.now s) c.order_of_rows-order.ensures.order h in
    let order = c.order_of_rows-order.result.now in
    let gathers = gathers_rows order (names_of c.args.users.now) c.args.query.now c.gathered_by-collector.result c.gathered_by-collector.ensures in
    whole_is table order (names_of c.args.users.now) c.args.query.now rows c.gathered_by-collector.result fit never gathers ∙ v ∙ sym c.in_ok-rows.ensures ∙ c.in-Ok.is

pub returns-in-Err-clause-answer : goal.returns-in-Err-clause-answer
returns-in-Err-clause-answer g c = λ s rows h fit.
    let table = c.args.table.now in
    let v = c.in_ok-walk.ensures.visits s rows h in
    let never = found_never_fall table (g.M.Map.state c.args.records.now).map rows c.order_of_rows-order.result.now c.order_of_rows-order.ensures.layout (g.met.M.Map.ordered c.args.records.now s) c.order_of_rows-order.ensures.order h in
    let order = c.order_of_rows-order.result.now in
    let gathers = gathers_rows order (names_of c.args.users.now) c.args.query.now c.gathered_by-collector.result c.gathered_by-collector.ensures in
    whole_is table order (names_of c.args.users.now) c.args.query.now rows c.gathered_by-collector.result fit never gathers ∙ v ∙ sym c.in_ok-rows.ensures ∙ c.in-Err.is

pub returns-in_err-walk-clause-read : goal.returns-in_err-walk-clause-read
returns-in_err-walk-clause-read g c = λ s.
    let table = c.args.table.now in
    let records = (g.M.Map.state c.args.records.now).map in
    let failure = c.in_err-walk.field-0.0 in
    let order = c.order_of_rows-order.result.now in
    let gathers = gathers_rows order (names_of c.args.users.now) c.args.query.now c.gathered_by-collector.result c.gathered_by-collector.ensures in
    ended failure (λ r. ReadsAs (AnswersFront table records (names_of c.args.users.now) c.args.query.now) table records r) c.from_residual.result c.from_residual.ensures.1
    (front_failed table records order c.order_of_rows-order.ensures.order (names_of c.args.users.now) c.args.query.now c.gathered_by-collector.result gathers (answer_from c.walk.new.self) failure (c.in_err-walk.ensures.walked s))

pub returns-in-Ok-clause-read : goal.returns-in-Ok-clause-read
returns-in-Ok-clause-read g c = λ s.
    let order = c.order_of_rows-order.result.now in
    let gathers = gathers_rows order (names_of c.args.users.now) c.args.query.now c.gathered_by-collector.result c.gathered_by-collector.ensures in
    front_answers c.args.table.now (g.M.Map.state c.args.records.now).map order c.order_of_rows-order.ensures.order (names_of c.args.users.now) c.args.query.now c.gathered_by-collector.result gathers (answer_from c.walk.new.self) _
    (sym c.in_ok-rows.ensures ∙ c.in-Ok.is) (c.in_ok-walk.ensures.walked s)

pub returns-in-Err-clause-read : goal.returns-in-Err-clause-read
returns-in-Err-clause-read g c = λ s.
    let order = c.order_of_rows-order.result.now in
    let gathers = gathers_rows order (names_of c.args.users.now) c.args.query.now c.gathered_by-collector.result c.gathered_by-collector.ensures in
    front_answers c.args.table.now (g.M.Map.state c.args.records.now).map order c.order_of_rows-order.ensures.order (names_of c.args.users.now) c.args.query.now c.gathered_by-collector.result gathers (answer_from c.walk.new.self) _
    (sym c.in_ok-rows.ensures ∙ c.in-Err.is) (c.in_ok-walk.ensures.walked s)
