use Rattle.std.proofs.Common.{◌∙◌, not, ℕ, List, Option, Ok, Err, refl, sym, ap, subst}
use Rattle.sql_types.specs.declared.answer.Answer.TheVariants.{Refused}
use Rattle.sql_types.specs.declared.event.Event.TheVariants as event
use Rattle.sql_types.specs.declared.state.SqlState.TheVariants.{OutOfMemory, IoError}
use Rattle.store.specs.Readers.{HasRead}
use Rattle.store.specs.declared.fault.Fault.TheVariants as fault
use Rattle.kept_verifiers.specs.Verifiers.{kept_text, IsFoundKept}
use Rattle.abstract_database.specs.Machine.{session_of}
use Rattle.server.specs.declared.decision.Decision.{Decision}
use Rattle.server.specs.Attempts.{answer_to}
use Rattle.server.specs.LookUps.{look_up_number, TakesOwn, closes, fails}
use Rattle.server.proofs.LookingUp.{there_if, read_as, closed_after, failed_in, damaged_in, told_in_row}
use Rattle.server.proofs.server.Server.read_in_session.Goals as goal

pub returns-in-Ok-clause-reads : goal.returns-in-Ok-clause-reads
returns-in-Ok-clause-reads g c runs =
    let has_read = c.in-Ok.ensures.read in
    let closing = c.end_look_up.ensures.closes in
    closes (answer_to closing.attempted) (told_in_row c.end_look_up.result (Ok c.in-Ok.text) c.end_look_up.new.self.stopped c.end_look_up.ensures.told tt)
    (closed_after g.X.EventHandler.Reads g.S.Map.state c.args.self.now (λ sound unfailed x left. g.met.S.Store.settled c.args.self.now.store x sound unfailed left) g.met.S.Map.only_now runs
    c.verifier_of-found.new.map c.end_look_up.new.self has_read.only_reads has_read.failed closing)

pub returns-in-Memory-clause-reads : goal.returns-in-Memory-clause-reads
returns-in-Memory-clause-reads g c runs =
    let old = c.args.self.now in
    let has_read : HasRead {T = Option (List ℕ)} (Err fault.Memory) (g.S.Map.state old.store) (g.S.Map.state c.verifier_of-found.new.map) =
    read_as (g.S.Map.state old.store) (g.S.Map.state c.verifier_of-found.new.map) c.in-Err.fault fault.Memory c.in-Memory.is c.in-Err.ensures.read in
    let closing = c.end_look_up-in-Memory.ensures.closes in
    closes (answer_to closing.attempted) (told_in_row c.end_look_up-in-Memory.result (Err OutOfMemory) c.end_look_up-in-Memory.new.self.stopped c.end_look_up-in-Memory.ensures.told refl)
    (closed_after g.X.EventHandler.Reads g.S.Map.state old (λ sound unfailed x left. g.met.S.Store.settled old.store x sound unfailed left) g.met.S.Map.only_now runs
    c.verifier_of-found.new.map c.end_look_up-in-Memory.new.self has_read.only_reads has_read.failed closing)

pub returns-in-Device-clause-reads : goal.returns-in-Device-clause-reads
returns-in-Device-clause-reads g c runs =
    let old = c.args.self.now in
    let has_read : HasRead {T = Decision} (Err fault.Device) (g.S.Map.state old.store) (g.S.Map.state c.verifier_of-found.new.map) =
    read_as (g.S.Map.state old.store) (g.S.Map.state c.verifier_of-found.new.map) c.in-Err.fault fault.Device c.in-Device.is c.in-Err.ensures.read in
    let refused = g.X.EventHandler.refuses_a_text in
    fails refused.text c.fail_look_up.ensures.answer (ap (λ s. s.stopped) c.fail_look_up.ensures.stops)
    (subst (λ s. TakesOwn g.X.EventHandler.Reads g.S.Map.state (event.Statement 0 refused.text) (Refused IoError) old s) (sym c.fail_look_up.ensures.stops)
    (failed_in g.X.EventHandler.Reads g.S.Map.state old (λ sound unfailed x left. g.met.S.Store.settled old.store x sound unfailed left) g.met.S.Map.only_now runs
    c.verifier_of-found.new.map refused has_read
    (there_if c.get.result (session_of look_up_number old.sessions.entries) (c.get.ensures.value ∙ ap (λ n. session_of n old.sessions.entries) c.number_in-number.ensures) (c.is_none.ensures ∙ ap not c.if-is_none.false))))

pub returns-in-Damaged-clause-reads : goal.returns-in-Damaged-clause-reads
returns-in-Damaged-clause-reads g c runs =
    let old = c.args.self.now in
    let refused = g.X.EventHandler.refuses_a_text in
    fails refused.text c.fail_look_up-in-Damaged.ensures.answer (ap (λ s. s.stopped) c.fail_look_up-in-Damaged.ensures.stops)
    (subst (λ s. TakesOwn g.X.EventHandler.Reads g.S.Map.state (event.Statement 0 refused.text) (Refused IoError) old s) (sym c.fail_look_up-in-Damaged.ensures.stops)
    (damaged_in g.X.EventHandler.Reads g.S.Map.state old (λ sound unfailed x left. g.met.S.Store.settled old.store x sound unfailed left) g.met.S.Map.only_now runs
    c.verifier_of-found.new.map refused c.in-Err.ensures.read.only_reads.history
    (λ sound db shows. subst (λ f. IsFoundKept (kept_text db c.args.table.now c.as_str.result.now) (Err f)) c.in-Damaged.is (c.in-Err.ensures.kept sound db shows))))
