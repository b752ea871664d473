use Rattle.talks.proofs.CuttingOff.{cut_off_holding, none_is_some}
use Rattle.talks.proofs.laws.holders_are_cut_off.Goals as goal

pub returns : goal.returns
returns g c = λ old before turns new after unheld uncut took e was.
    cut_off_holding g.M.Machine g.T.Talk g.C.ServedClients ⊥ e old before turns new after took (none_is_some (g.C.ServedClients.contention before).cut_off e uncut) (none_is_some (g.C.ServedClients.contention before).holder e unheld) was
