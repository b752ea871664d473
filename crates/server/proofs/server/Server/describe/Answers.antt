use Rattle.std.proofs.Common.{◌∙◌, ℕ, subst}
use Rattle.abstract_database.specs.Descriptions.{IsDescription}
use Rattle.server.proofs.Describing.{stopped_described, working_described}
use Rattle.server.proofs.server.Server.describe.Goals as goal

pub returns-then-self-clause-tells : goal.returns-then-self-clause-tells
returns-then-self-clause-tells g c w at = stopped_described g.X.EventHandler.Reads w.standing.machine _ c.args.text.now (at.stopped ∙ c.if-self.true)

pub returns-clause-tells : goal.returns-clause-tells
returns-clause-tells g c w at =
    let works = (at.works c.if-self.false).1 in
    working_described g.X.EventHandler.Reads g.S.Map.state c.args.self.now w _ c.args.text.now c.describe.result at c.if-self.false
    (c.describe.ensures.tells _ w.standing.machine.committed w.standing.machine.holder works.committed works.held works.in_block)
