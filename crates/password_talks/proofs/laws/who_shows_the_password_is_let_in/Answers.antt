use Rattle.std.proofs.Common.{refl}
use Rattle.password_talks.proofs.LettingIn.{let_in_as, lets_in}
use Rattle.password_talks.proofs.laws.who_shows_the_password_is_let_in.Goals as goal

pub returns : goal.returns
returns g c t bytes rest role text mock_text label starts shows = (
  let_in_as t role text,
  record { stage_is = refl; want_is = refl; is_found = refl },
  refl,
  lets_in g.T.Talk _ (λ t. refl) (λ t bytes. refl) (λ t u message said h. h) (λ t u r said h. h) t bytes rest role text mock_text label starts.0 starts.1 shows,
)
