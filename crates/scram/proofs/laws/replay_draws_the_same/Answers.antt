use Rattle.scram.proofs.Lasts.{same_drawn}
use Rattle.scram.proofs.laws.replay_draws_the_same.Goals as goal

pub returns : goal.returns
returns c verifier other drawn other_drawn first other_first last bytes others sizes one two =
    same_drawn verifier other drawn other_drawn first other_first last bytes others sizes one two
