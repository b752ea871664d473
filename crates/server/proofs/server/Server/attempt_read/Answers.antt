use Rattle.std.proofs.Common.{sym, ◌∙◌, subst, Ok, Err}
use Rattle.store.specs.Records.{Records}
use Rattle.store.specs.declared.fault.StoreFault.{StoreFault}
use Rattle.stored_database.specs.Records.{Shows}
use Rattle.abstract_database.specs.Machine.{executes, number_in}
use Rattle.server.specs.Standing.{HolderShows}
use Rattle.server.specs.Decisions.{DecidesAt, Performs}
use Rattle.server.proofs.Carrying.{after_reads, reads_first, decide_err}
use Rattle.server.proofs.server.Server.attempt_read.Goals as goal

pub returns-in-Ok-clause-attempts : goal.returns-in-Ok-clause-attempts
returns-in-Ok-clause-attempts g c text given sound runs db holder w =
    let old = c.args.self.now in
    let state = g.S.Map.state in
    let e = executes (number_in c.args.client c.args.session) text in
    let read = c.in-Ok.ensures.read in
    let reads = read.only_reads in
    let same = (reads.unchanged sound).map in
    let decides = c.in-Ok.ensures.decides text given sound db holder w.committed w.held w.in_block in
    let moved = subst (λ (r : Records). DecidesAt g.X.EventHandler.Reads r old.catalogue old.writer db holder old.sessions.entries e (Ok c.in-Ok.decision)) (sym same) decides in
    reads_first g.X.EventHandler.Reads state old c.apply.new.self c.decide_read-decided.new.map db holder e c.apply.result sound (λ x left. g.met.S.Store.settled old.store x sound w.unfailed left) w reads
    (c.apply.ensures.carries (reads.history.sound sound) runs db holder e
    (record {
      unfailed = read.failed ∙ w.unfailed;
      second = (reads.unchanged sound).record_format ∙ w.second;
      committed = subst (λ (r : Records). Shows r old.catalogue db) (sym same) w.committed;
      held = subst (λ (r : Records). HolderShows r old.catalogue old.writer holder) (sym same) w.held;
      in_block = w.in_block;
    }) moved)

pub returns-in-Err-clause-attempts : goal.returns-in-Err-clause-attempts
returns-in-Err-clause-attempts g c text given sound runs db holder w =
    let old = c.args.self.now in
    let state = g.S.Map.state in
    let e = executes (number_in c.args.client c.args.session) text in
    subst (λ (f : StoreFault). Performs g.X.EventHandler.Reads state old (after_reads old c.decide_read-decided.new.map) db holder e (Err f)) (sym c.store_fault.ensures)
    (decide_err g.X.EventHandler.Reads state old c.decide_read-decided.new.map db holder e c.in-Err.fault sound (λ x left. g.met.S.Store.settled old.store x sound w.unfailed left) w runs
    c.in-Err.ensures.read (c.in-Err.ensures.decides text given sound db holder w.committed w.held w.in_block))
