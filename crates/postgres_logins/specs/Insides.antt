-- A client that was let in, and what the conversation inside hears of it.
use Rattle.std.specs.Prelude.{◌≡◌, ℕ, false, List}
use Rattle.talks.specs.declared.want.Want.TheVariants as want
use Rattle.postgres_logins.specs.declared.stage.Newcomer.{Newcomer}
use Rattle.postgres_logins.specs.declared.stage.SaslStage.TheVariants as stage
use Rattle.postgres_logins.specs.declared.postgres_login_talk.PostgresLoginTalk.{PostgresLoginTalk}

-- it was just let in
pub record IsLoggedInAs {T : Type 0} (t : PostgresLoginTalk T) (n : Newcomer) (text : List ℕ) : Type 0 where
  pub stage_is : t.login.stage ≡ stage.Admitted n text
  pub want_is : t.login.want ≡ want.Verifier t.login.place.table n.role
  pub is_found : t.is_found ≡ false
