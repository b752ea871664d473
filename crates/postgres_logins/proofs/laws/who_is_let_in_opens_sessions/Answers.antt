use Rattle.std.proofs.Common.{refl}
use Rattle.postgres_logins.proofs.LettingIn.{found_again, granted, grants}
use Rattle.postgres_logins.proofs.laws.who_is_let_in_opens_sessions.Goals as goal

pub returns : goal.returns
returns g c t n text session entry st anew is =
    (found_again t, grants g.T.Talk t n text session entry st anew is, refl, granted g.T.Talk t n text session entry st is)
