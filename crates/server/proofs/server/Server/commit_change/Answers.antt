use Rattle.std.proofs.Common.{◌≡◌, refl, ◌∙◌, sym, subst, true, false, Some}
use Rattle.stored_database.specs.Definitions.{Definitions}
use Rattle.catalogue.specs.Changes.{StagedChange}
use Rattle.server.specs.declared.decision.Decision.TheVariants as decisions
use Rattle.server.specs.Decisions.{Carries}
use Rattle.server.proofs.Carrying.{out_of_memory}
use Rattle.server.proofs.Dropping.{carries_from}
use Rattle.server.proofs.server.Server.commit_change.Goals as goal

pub returns-in-Ok-clause-carries : goal.returns-in-Ok-clause-carries
returns-in-Ok-clause-carries g c =
    let old = record c.args.self.now { may_have_dropped = true } in
    let Reads = g.X.EventHandler.Reads in
    let state = g.S.Map.state in
    let answer = c.args.answer in
    let changes = c.args.changes.now in
    carries_from Reads state c.args.self.now true c.commit_staged.new.self (decisions.Commit (record { answer = answer; changes = changes; schema = Some c.args.change })) c.commit_staged.result
    (subst (λ (d : Definitions). Carries Reads state (record old { catalogue = d }) c.commit_staged.new.self
    (decisions.Commit (record { answer = answer; changes = changes; schema = Some c.args.change })) c.commit_staged.result)
    c.replace-before.ensures.value
    (subst (λ (z : StagedChange). Carries Reads state (record old { catalogue = z.before }) c.commit_staged.new.self
    (decisions.Commit (record { answer = answer; changes = changes; schema = Some z.change })) c.commit_staged.result)
    c.in-Ok.ensures.ok c.commit_staged.ensures.carries))

pub returns-in-Err-clause-carries : goal.returns-in-Err-clause-carries
returns-in-Err-clause-carries g c sound runs db holder e w p =
    let old = c.args.self.now in
    out_of_memory g.X.EventHandler.Reads g.S.Map.state old (record old { catalogue = c.in-Err.back; may_have_dropped = true }) db holder e sound (g.met.S.Map.only_now old.store)
    (λ x left. g.met.S.Store.settled old.store x sound w.unfailed left) w runs refl (c.in-Err.ensures.err ∙ c.replace-before.ensures.value) refl refl refl p.4

pub returns-in-Ok-clause-dropped : goal.returns-in-Ok-clause-dropped
returns-in-Ok-clause-dropped g c is = let wrong : true ≡ false = sym c.commit_staged.ensures.dropped ∙ is in absurd (cc)
