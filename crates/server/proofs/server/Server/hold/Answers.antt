use Rattle.std.proofs.Common.{◌≡◌, subst, Option, Some}
use Rattle.server.specs.declared.decision.Decision.TheVariants as decisions
use Rattle.server.specs.declared.writer.Writer.{Writer}
use Rattle.server.specs.Decisions.{Carries}
use Rattle.server.proofs.server.Server.hold.Goals as goal

pub returns-in-None-clause-carries : goal.returns-in-None-clause-carries
returns-in-None-clause-carries g c =
    let old = c.args.self.now in
    let after : c.take.new.self ≡ old.writer = let a = c.in-None.is in let b = c.take.ensures.value in let d = c.take.ensures.after in cc in
    subst (λ (z : Option Writer). Carries g.X.EventHandler.Reads g.S.Map.state (record old { writer = z }) c.hold_first.new.self (decisions.Hold c.args.session c.args.effect) c.hold_first.result) after
    (c.hold_first.ensures.carries c.take.ensures.after)

pub returns-in-Some-clause-carries : goal.returns-in-Some-clause-carries
returns-in-Some-clause-carries g c =
    let old = c.args.self.now in
    let there : Some c.in-Some.writer ≡ old.writer = let a = c.in-Some.is in let b = c.take.ensures.value in cc in
    subst (λ (z : Option Writer). Carries g.X.EventHandler.Reads g.S.Map.state (record old { writer = z }) c.hold_more.new.self (decisions.Hold c.args.session c.args.effect) c.hold_more.result) there
    c.hold_more.ensures.carries
