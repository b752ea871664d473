use Rattle.std.proofs.Common.{sym, subst}
use Rattle.abstract_database.specs.Database.{Database}
use Rattle.abstract_database.specs.Runs.{IsFoundAt}
use Rattle.store.specs.Store.{stored}
use Rattle.stored_database.specs.BothRecordFormats.{in_record_format_2}
use Rattle.databases.specs.Lives.{all_of_client}
use Rattle.databases.proofs.Living.{means_is, lived, not_opened, answered_refused, answered_preserved, nothing_answered}
use Rattle.databases.proofs.over_store.live_over.Goals as goal

pub returns-in-Ok-clause-lives : goal.returns-in-Ok-clause-lives
returns-in-Ok-clause-lives g c = λ is works last found.
    let state = g.S.Map.state in
    let old = state c.args.store in
    let server = c.in-Ok.server in
    let opened = c.in-Ok.ensures.opened is in
    let one = c.one_database.ensures (in_record_format_2 old.record_format old.map) opened.database found.0 opened.stands (means_is (stored old) found.0 found.1) in
    let sound = c.in-Ok.ensures.history.sound is in
    lived g.X.EventHandler.Reads state last old server opened.database (all_of_client 0 c.args.events.now) c.args.answers.now.items c.answer_events.new.answers.items
    c.answer_events.result.0 c.answer_events.result.1 (λ s x is works left. g.met.S.Store.settled s x is works left) sound c.in-Ok.ensures.history (c.in-Ok.ensures.number is)
    (c.in-Ok.ensures.same is works opened.database opened.stands).during (g.met.S.Map.only_now server.store sound)
    (subst (λ (db : Database). IsFoundAt last db) (sym one) found.2)
    opened.represents c.answer_events.ensures.answers

pub returns-in-Err-clause-lives : goal.returns-in-Err-clause-lives
returns-in-Err-clause-lives g c = λ is works last found.
    let state = g.S.Map.state in
    let old = state c.args.store in
    let stands = means_is (stored old) found.0 found.1 in
    not_opened g.row.X.Denot g.X.EventHandler.Reads state last old c.in-Err.field-0.store found.0 (all_of_client 0 c.args.events.now) c.args.answers.now.items c.in-Err.field-0.fault
    (c.in-Err.ensures.same is works found.0 stands) found.2 (c.in-Err.ensures.cause is) (c.in-Err.ensures.damaged is found.0 stands)

pub returns-in-Ok-clause-refused : goal.returns-in-Ok-clause-refused
returns-in-Ok-clause-refused g c =
    answered_refused g.X.EventHandler.Reads g.S.Map.state (g.S.Map.state c.args.store) c.in-Ok.server (all_of_client 0 c.args.events.now) c.args.answers.now.items
    c.answer_events.new.answers.items c.answer_events.result.0 c.answer_events.result.1 c.in-Ok.ensures.read c.in-Ok.ensures.same c.answer_events.ensures.answers

pub returns-in-Err-clause-refused : goal.returns-in-Err-clause-refused
returns-in-Err-clause-refused g c = record {
  looked = c.in-Err.ensures.read;
  same = c.in-Err.ensures.same;
  cause = c.in-Err.ensures.cause;
}

pub returns-in-Ok-clause-preserved : goal.returns-in-Ok-clause-preserved
returns-in-Ok-clause-preserved g c = λ works.
    answered_preserved g.X.EventHandler.Reads g.S.Map.state (g.S.Map.state c.args.store) c.in-Ok.server (all_of_client 0 c.args.events.now) c.args.answers.now.items
    c.answer_events.new.answers.items c.answer_events.result.0 c.answer_events.result.1 (λ (s : _). g.S.Map.preserved c.args.store s)
    (λ looks. c.in-Ok.ensures.preserved looks works) c.answer_events.ensures.answers

pub returns-in-Err-clause-preserved : goal.returns-in-Err-clause-preserved
returns-in-Err-clause-preserved g c = λ works looks. c.in-Err.ensures.preserved looks works

pub returns-in-Ok-clause-unanswered : goal.returns-in-Ok-clause-unanswered
returns-in-Ok-clause-unanswered g c =
    nothing_answered g.X.EventHandler.Reads g.S.Map.state c.in-Ok.server (all_of_client 0 c.args.events.now) c.args.answers.now.items
    c.answer_events.new.answers.items c.answer_events.result.0 c.answer_events.result.1 c.answer_events.ensures.answers
