use Rattle.std.proofs.Common.{◌∙◌, Some, ap, sym}
use Rattle.talks_tests.proofs.Steps.{who_wants, is_wanted}
use Rattle.talks_tests.proofs.line.MemoryClient.want.Goals as goal

pub returns : goal.returns
returns g c =
    let it = who_wants g.T.Talk c.args.self.now c.requires.0 c.requires.1 in
    is_wanted g.T.Talk c.args.self.now it.0 it.1 ∙ ap Some (sym c.want.ensures)
