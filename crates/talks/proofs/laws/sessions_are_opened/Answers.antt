use Rattle.std.proofs.Common.{inl, inr}
use Rattle.talks.proofs.Sessions.{opened}
use Rattle.talks.proofs.laws.sessions_are_opened.Goals as goal

pub returns : goal.returns
returns g c = λ old before turns new after sound took e n login none has.
    let laws = g.met.M.Machine in
    elim (opened g.M.Machine g.T.Talk g.C.ServedClients laws.steps_sound laws.tells_sound laws.closes_sound laws.steps_open laws.tells_open laws.closes_open old before turns new after sound took e n login has)
    [ inl x ↦ absurd (none x.0) | inr y ↦ y ]
