use Rattle.std.proofs.Common.{◌≡◌, ⊎_elim, refl, sym, ◌∙◌, ap}
use Rattle.abstract_database.specs.Lists.{TheName}
use Rattle.abstract_database.specs.Machine.{Inside, Failed}
use Rattle.server.specs.Session.{block_of}
use Rattle.sessions.specs.Decisions.{IsBlockOf}
use Rattle.sessions.proofs.BlockDecisions.{roll_back_serves}
use Rattle.sessions.proofs.blocks.roll_back.Goals as goal

pub returns-in-Inside : goal.returns-in-Inside
returns-in-Inside c =
    let s = c.args.session.now in
    let block = ap (λ z. z.block) (sym c.session.view_is) in
    let rolled_back = λ (role : TheName) (is : IsBlockOf role s.block). roll_back_serves c.args.writer.now c.args.number s role c.end_rolled_back.result is (c.end_rolled_back.ensures s role is) in
    ⊎_elim
    (λ a. let inside : s.block ≡ Inside a.0 = block ∙ ap block_of a.1 in rolled_back a.0 (rw inside refl))
    (λ b. let failed : s.block ≡ Failed b.0 = block ∙ ap block_of b.1 in rolled_back b.0 (rw failed refl))
    c.in-Inside.is
