-- What comes before a client is let in, or refused: its messages, what was looked up for it, and what was said to it.
use Rattle.std.specs.Prelude.{◌≡◌, ◌+◌, ℕ, List, [], ◌∷◌, ◌++◌, take, Option, Some}
use Rattle.sql_types.specs.declared.state.SqlState.{SqlState}
use Rattle.talks.specs.Wants.{Learnt}
use Rattle.talks.specs.declared.want.Want.{Want}
use Rattle.talks.specs.declared.want.Want.TheVariants as want
use Rattle.scram.specs.Exchanges.{TheExchange, BeginsExchange, IsNoFirst, IsRefusedLogin, WasShown, challenge}
use Rattle.scram.specs.Mocks.{TheMock, StoresNone}
use Rattle.password_talks.specs.Courses.{found, looked_up, not_looked_up}
use Rattle.password_talks.specs.Logins.{IsMockOf}
use Rattle.password_talks.specs.declared.login.PasswordPlace.{PasswordPlace}
use Rattle.postgres_logins.specs.declared.stage.Newcomer.{Newcomer}
use Rattle.postgres_logins.specs.declared.start_request.StartRequest.TheVariants as request
use Rattle.postgres_logins.specs.EntryMessages.{SendsFirst, SendsLast, SendsPacket}
use Rattle.postgres_logins.specs.Sayings.{failure_said, first_said, no_encryption, offer_said, refusal_said}

-- The bytes begin with so many requests for encryption, each of which was refused; this was said to them, and this is the rest.
pub data HasAsked (bytes : List ℕ) : ℕ → List ℕ → List ℕ → Type 0 where
  asked_none : HasAsked bytes 0 [] bytes
  asked_more : (n size : ℕ) (said middle rest : List ℕ) → HasAsked bytes n said middle → SendsPacket middle request.Encryption size rest
      → HasAsked bytes (n + 1) (said ++ no_encryption) rest

-- behind them stands a StartupMessage, which names a role
pub record HasEntered (bytes : List ℕ) (n : Newcomer) (said rest : List ℕ) : Type 0 where
  pub count : ℕ
  pub middle : List ℕ
  pub asked : HasAsked bytes count said middle
  pub size : ℕ
  pub enters : SendsPacket middle (request.Login n.role) size rest
  pub start_is : n.start ≡ take size middle

-- the mechanism was offered to it, once it was looked up what is stored for the mock and for its role
pub record HasOffered (place : PasswordPlace) (bytes : List ℕ) (xs : List Learnt) (said rest : List ℕ) (n : Newcomer) (mock : TheMock) (stored : Option (List ℕ)) : Type 0 where
  pub before : List ℕ
  pub entered : HasEntered bytes n before rest
  pub mock_stored : Option (List ℕ)
  pub is_mock : IsMockOf mock_stored mock
  pub learnt_is : xs ≡ looked_up place.table place.mock mock_stored ∷ looked_up place.table n.role stored ∷ []
  pub said_is : said ≡ before ++ offer_said

-- its next message began an exchange, and the client was challenged
pub record WasChallenged (place : PasswordPlace) (drawn bytes : List ℕ) (xs : List Learnt) (said rest : List ℕ) (n : Newcomer) (x : TheExchange) : Type 0 where
  pub mock : TheMock
  pub stored : Option (List ℕ)
  pub before : List ℕ
  pub middle : List ℕ
  pub offered : HasOffered place bytes xs before middle n mock stored
  pub first : List ℕ
  pub begun : SendsFirst middle first rest
  pub begins_so : BeginsExchange mock n.role stored drawn first x
  pub said_is : said ≡ before ++ first_said (challenge x)

-- ---- who is let in

-- The client has named a role, and its next two messages show the password of the verifier of this text. That was looked up for the role
-- twice, and found both times.
pub record HasAuthenticated (place : PasswordPlace) (drawn bytes : List ℕ) (xs : List Learnt) (n : Newcomer) (text : List ℕ) : Type 0 where
  pub before : List ℕ
  pub behind_start : List ℕ
  pub entered : HasEntered bytes n before behind_start
  pub first : List ℕ
  pub last : List ℕ
  pub middle : List ℕ
  pub rest : List ℕ
  pub begun : SendsFirst behind_start first middle
  pub ended : SendsLast middle last rest
  pub was_shown : WasShown (Some text) (Some text) drawn first last text
  pub mock_text : List ℕ
  pub later : List Learnt
  pub learnt_is : xs ≡ found place.table place.mock mock_text ∷ found place.table n.role text ∷ found place.table n.role text ∷ later

-- a session for the role of this name may be wanted: the client has shown its password, of the verifier that was looked up just now
pub record MayOpenFor (place : PasswordPlace) (drawn bytes : List ℕ) (xs : List Learnt) (role : List ℕ) : Type 0 where
  pub newcomer : Newcomer
  pub is_for : newcomer.role ≡ role
  pub text : List ℕ
  pub has_shown : HasAuthenticated place drawn bytes xs newcomer text
  pub earlier : List Learnt
  pub found_now : xs ≡ earlier ++ found place.table role text ∷ []

-- this may be wanted, after this was learnt
abbrev pub MayBeWanted : PasswordPlace → List ℕ → List ℕ → List Learnt → Want → Type 0
MayBeWanted place drawn bytes xs (want.Open session login entry) = MayOpenFor place drawn bytes xs login
MayBeWanted place drawn bytes xs _ = Unit {0}

-- each thing that was learnt after some others might be wanted then
abbrev pub MightAllBeWanted : PasswordPlace → List ℕ → List ℕ → List Learnt → List Learnt → Type 0
MightAllBeWanted place drawn bytes before [] = Unit {0}
MightAllBeWanted place drawn bytes before (x ∷ xs) = MayBeWanted place drawn bytes before x.want × MightAllBeWanted place drawn bytes (before ++ x ∷ []) xs

-- each might be wanted, by the bytes that came and those that were drawn
pub record WereAllShown (place : PasswordPlace) (xs : List Learnt) : Type 0 where
  pub drawn : List ℕ
  pub bytes : List ℕ
  pub might : MightAllBeWanted place drawn bytes [] xs

-- ---- who is refused

-- why a client was refused that has named a role, and all that was said to it
pub data RefusedFor (place : PasswordPlace) (drawn bytes : List ℕ) (xs : List Learnt) (said : List ℕ) : Type 0 where
  -- there is no mock, so that nobody is let in
  had_no_mock : (n : Newcomer) (before rest : List ℕ) (stored : Option (List ℕ)) → HasEntered bytes n before rest
      → xs ≡ looked_up place.table place.mock stored ∷ [] → StoresNone stored
      → said ≡ before ++ failure_said n.role → RefusedFor place drawn bytes xs said
  -- its message was no first one
  sent_no_first : (n : Newcomer) (mock : TheMock) (before middle first rest : List ℕ) (stored : Option (List ℕ))
      → HasOffered place bytes xs before middle n mock stored → SendsFirst middle first rest → IsNoFirst first
      → said ≡ before ++ failure_said n.role → RefusedFor place drawn bytes xs said
  -- its last message shows nothing: the proof is wrong or none, the role has no verifier, or no longer this one
  showed_nothing : (n : Newcomer) (before middle last rest : List ℕ) (x : TheExchange) (earlier : List Learnt) (stored : Option (List ℕ))
      → WasChallenged place drawn bytes earlier before middle n x → SendsLast middle last rest
      → xs ≡ earlier ++ looked_up place.table n.role stored ∷ [] → IsRefusedLogin x last stored
      → said ≡ before ++ failure_said n.role → RefusedFor place drawn bytes xs said
  -- a verifier could not be looked up
  failed : (role before : List ℕ) (state : SqlState) (earlier : List Learnt) → xs ≡ earlier ++ not_looked_up place.table role state ∷ []
      → said ≡ before ++ refusal_said state → RefusedFor place drawn bytes xs said
