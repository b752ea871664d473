-- Which conversations stand alike, of PostgreSQL's protocol and at places that ask for passwords.
use Rattle.std.specs.Prelude.{◌≡◌}
use Rattle.postgres_talks.specs.declared.postgres_talk.PostgresTalk.{PostgresTalk}
use Rattle.password_talks.specs.declared.login.Login.{Login}
use Rattle.password_talks.specs.declared.password_talk.PasswordTalk.{PasswordTalk}
use Rattle.postgres_logins.specs.declared.login.SaslLogin.{SaslLogin}
use Rattle.postgres_logins.specs.declared.postgres_login_talk.PostgresLoginTalk.{PostgresLoginTalk}

-- ---- PostgreSQL's protocol

abbrev pub StandAtOneMoment : PostgresTalk → PostgresTalk → Type 0
StandAtOneMoment t u = t.moment ≡ u.moment

-- clients are told one number of a process
abbrev pub HaveOneProcess : PostgresTalk → PostgresTalk → Type 0
HaveOneProcess t u = t.moment.process ≡ u.moment.process

-- ---- passwords

-- two exchanges are at one place, for both the same bytes were drawn, and they have come as far and want the same
abbrev pub AreLoginsAlike : Login → Login → Type 0
AreLoginsAlike l m = (l.place ≡ m.place) × (l.drawn ≡ m.drawn) × (l.stage ≡ m.stage) × (l.want ≡ m.want)

abbrev pub AreSaslLoginsAlike : SaslLogin → SaslLogin → Type 0
AreSaslLoginsAlike l m = (l.place ≡ m.place) × (l.drawn ≡ m.drawn) × (l.stage ≡ m.stage) × (l.want ≡ m.want)

module _ {T : Type 0} (Alike : T → T → Type 0) where
  -- and so are the conversations inside
  pub record ArePasswordTalksAlike (t u : PasswordTalk T) : Type 0 where
    pub login : AreLoginsAlike t.login u.login
    pub is_found : t.is_found ≡ u.is_found
    pub talk : Alike t.talk u.talk

  pub record AreLoginTalksAlike (t u : PostgresLoginTalk T) : Type 0 where
    pub login : AreSaslLoginsAlike t.login u.login
    pub is_found : t.is_found ≡ u.is_found
    pub talk : Alike t.talk u.talk

-- what a conversation at such a place goes by besides the bytes of its client and the verifiers that are found: where these are kept, with the role
-- of the mock, and what was drawn for its exchange, which its client is told
pub record DrewTheSame {T : Type 0} (t u : PasswordTalk T) : Type 0 where
  pub place : t.login.place ≡ u.login.place
  pub drawn : t.login.drawn ≡ u.login.drawn

pub record DrewTheSameThere {T : Type 0} (t u : PostgresLoginTalk T) : Type 0 where
  pub place : t.login.place ≡ u.login.place
  pub drawn : t.login.drawn ≡ u.login.drawn
