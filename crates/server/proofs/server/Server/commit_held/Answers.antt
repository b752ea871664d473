use Rattle.std.proofs.Common.{◌≡◌, ⊎_elim, List, refl, sym, ◌∙◌, ap, subst, Some, None, Result, Err, OnErr}
use Rattle.sql_types.specs.declared.answer.Answer.{Answer}
use Rattle.store.specs.Records.{Changes, Records, applied}
use Rattle.store.specs.Store.{stored, Commits}
use Rattle.store.specs.Contents.{changed_by_batch}
use Rattle.store.specs.declared.fault.StoreFault.{StoreFault}
use Rattle.store.specs.declared.fault.StoreFault.TheVariants.{Memory}
use Rattle.stored_database.specs.Records.{Shows}
use Rattle.transactions.specs.Views.{applied_all}
use Rattle.server.specs.declared.decision.SessionChange.{SessionChange}
use Rattle.server.specs.declared.decision.Decision.TheVariants as decisions
use Rattle.server.specs.Writers.{definitions_or}
use Rattle.server.specs.Decisions.{Carries, Performs, machine_at, after_change}
use Rattle.server.proofs.Carrying.{lock_shows, commit_err, lock_joined, each_fault, out_of_memory}
use Rattle.server.proofs.server.Server.commit_held.Goals as goal

pub returns-clause-definitions : goal.returns-clause-definitions
returns-clause-definitions g c d =
    let there : c.args.self.now.writer ≡ Some c.in-Some.writer = let a = c.in-Some.is in cc in
    rw there refl

pub returns-clause-ok : goal.returns-clause-ok
returns-clause-ok g c =
    let old = c.args.self.now in
    let st = g.S.Map.state old.store in
    let held = c.in-Some.writer in
    let there : old.writer ≡ Some held = let a = c.in-Some.is in cc in
    lock_joined g.S.Map.state c.commit_to-result.result old.writer held old.store c.commit_to-result.new.store
    (λ cs words sound. c.joined_changes.ensures cs held.lists st.map (g.met.S.Map.ordered old.store sound) words)
    there c.commit_to-result.ensures.commits

pub returns-clause-err : goal.returns-clause-err
returns-clause-err g c =
    let state = g.S.Map.state in
    let old = c.args.self.now in
    let st = state old.store in
    let writer = c.in-Some.writer in
    let new = record old { store = c.commit_to-result.new.store; writer = Some (record writer { lists = c.commit_to-result.new.self }) } in
    let d = definitions_or writer.catalogue old.catalogue in
    let there : old.writer ≡ Some writer = let a = c.in-Some.is in cc in
    each_fault c.commit_to-result.result (λ fault. (answer : Answer) (change : SessionChange) → Carries g.X.EventHandler.Reads state old new (decisions.CommitWriter answer change) (Err fault))
    (λ fault is answer change sound runs db holder e w p.
    let back : c.commit_to-result.new.self ≡ writer.lists = subst (λ (z : Result (Unit {0}) StoreFault). OnErr z (c.commit_to-result.new.self ≡ writer.lists)) is c.commit_to-result.ensures.given_back in
    let same : new.writer ≡ old.writer = ap (λ (ls : List Changes). Some (record writer { lists = ls })) back ∙ sym there in
    ⊎_elim (λ refused.
    let memory : Memory ≡ fault = let a = refused.0 in let b = is in cc in
    subst (λ (f : StoreFault). Performs g.X.EventHandler.Reads state old new db holder e (Err f)) memory
    (out_of_memory g.X.EventHandler.Reads state old new db holder e sound (g.met.S.Map.only_now old.store) (λ x left. g.met.S.Store.settled old.store x sound w.unfailed left) w runs
    refused.1 refl same refl refl p.4))
    (λ done.
    let cs = done.0 in
    let equal : applied cs st.map ≡ applied_all writer.lists st.map = c.joined_changes.ensures cs writer.lists st.map (g.met.S.Map.ordered old.store sound) done.1 in
    let shown : Shows (applied cs st.map) d p.0.database = subst (λ (z : Records). Shows z d p.0.database) (sym equal) (lock_shows st.map old.catalogue old.writer writer holder p.0 there p.1 w.held) in
    commit_err g.X.EventHandler.Reads state old new db holder d (changed_by_batch cs (stored st)) answer (machine_at p.0.database None (after_change change old.sessions.entries)) e fault sound w runs refl same refl refl
    (subst (λ (z : Result (Unit {0}) StoreFault). Commits z (changed_by_batch cs (stored st)) st (state c.commit_to-result.new.store)) is done.2) w.second shown p.3 p.4 p.5)
    c.commit_to-result.ensures.commits)
