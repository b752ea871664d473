use Rattle.std.proofs.Common.{refl}
use Rattle.password_talks.proofs.LettingIn.{found_again, granted, grants}
use Rattle.password_talks.proofs.laws.who_is_let_in_opens_sessions.Goals as goal

pub returns : goal.returns
returns g c t role text session entry st anew is =
    (found_again t, grants g.T.Talk t role text session entry st anew is, refl, granted g.T.Talk t role text session entry st is)
