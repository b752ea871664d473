use Rattle.std.proofs.Common.{refl}
use Rattle.postgres_logins.proofs.LettingIn.{let_in_as, lets_in}
use Rattle.postgres_logins.proofs.laws.who_shows_the_password_is_let_in.Goals as goal

pub returns : goal.returns
returns g c t v bytes rest text mock_text inner n starts heard shows = (
  let_in_as t n text v,
  record { stage_is = refl; want_is = refl; is_found = refl },
  refl,
  lets_in g.T.Talk _ (λ t. refl) (λ t bytes. refl) (λ t u message said h. h) (λ t u r said h. h) t v bytes rest text mock_text inner n starts.0 starts.1 starts.2 heard shows,
)
