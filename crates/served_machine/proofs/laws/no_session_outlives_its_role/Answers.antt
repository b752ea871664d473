use Rattle.served_machine.proofs.Outliving.{outlived}
use Rattle.served_machine.proofs.laws.no_session_outlives_its_role.Goals as goal

pub returns : goal.returns
returns g c = λ old before d ds turns new after role sound are took is none serves e n has.
    outlived g.X.EventHandler.Reads g.S.Map.state g.T.Talk g.C.ServedClients role old before d ds turns new after sound are took is none serves e n has
