use Rattle.std.proofs.Common.{sym, subst, Option}
use Rattle.catalogue.specs.declared.change.SchemaChange.{SchemaChange}
use Rattle.server.specs.declared.decision.Decision.TheVariants as decisions
use Rattle.server.specs.Decisions.{Carries}
use Rattle.server.proofs.server.Server.commit.Goals as goal

pub returns-in-None-clause-carries : goal.returns-in-None-clause-carries
returns-in-None-clause-carries g c =
    let made = c.args.effect in
    subst (λ (z : Option SchemaChange). Carries g.X.EventHandler.Reads g.S.Map.state c.args.self.now c.commit_records.new.self
    (decisions.Commit (record { answer = made.answer; changes = made.changes; schema = z })) c.commit_records.result)
    (sym c.in-None.is) c.commit_records.ensures.carries

pub returns-clause-carries : goal.returns-clause-carries
returns-clause-carries g c =
    let made = c.args.effect in
    subst (λ (z : Option SchemaChange). Carries g.X.EventHandler.Reads g.S.Map.state c.args.self.now c.commit_change.new.self
    (decisions.Commit (record { answer = made.answer; changes = made.changes; schema = z })) c.commit_change.result)
    (sym c.in-Some.is) c.commit_change.ensures.carries
