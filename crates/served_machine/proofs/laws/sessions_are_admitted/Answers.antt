use Rattle.std.proofs.Common.{inl, inr}
use Rattle.served_machine.proofs.Admitting.{admitted}
use Rattle.served_machine.proofs.laws.sessions_are_admitted.Goals as goal

pub returns : goal.returns
returns g c = λ old before turns new after sound took d n login none has.
    elim (admitted g.X.EventHandler.Reads g.S.Map.state g.T.Talk g.C.ServedClients old before turns new after sound took d n login has) [ inl was ↦ absurd (none was.0) | inr is ↦ is ]
