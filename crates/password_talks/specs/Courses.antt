-- What comes before a client is let in, or refused: its frames, what was looked up for it, and what was said to it.
use Rattle.std.specs.Prelude.{◌≡◌, ℕ, List, [], ◌∷◌, ◌++◌, Option, Some, Ok, Err}
use Rattle.sql_types.specs.declared.state.SqlState.{SqlState}
use Rattle.sql_types.specs.declared.state.SqlState.TheVariants.{InvalidAuthorization}
use Rattle.talks.specs.Wants.{Learnt, learnt}
use Rattle.talks.specs.declared.want.Want.{Want}
use Rattle.talks.specs.declared.want.Want.TheVariants as want
use Rattle.talks.specs.declared.want.Reply.TheVariants as reply
use Rattle.scram.specs.Exchanges.{TheExchange, BeginsExchange, IsNoFirst, IsRefusedLogin, WasShown, challenge}
use Rattle.scram.specs.Mocks.{TheMock, StoresNone}
use Rattle.password_talks.specs.declared.login.PasswordPlace.{PasswordPlace}
use Rattle.password_talks.specs.EarlyFrames.{Sends, begins, ends, event, message_frame}
use Rattle.password_talks.specs.Logins.{IsMockOf, refusal_said}

-- this was found to be stored for a role; a verifier of this text; or it could not be looked up
abbrev pub looked_up : List ℕ → List ℕ → Option (List ℕ) → Learnt
looked_up table role stored = learnt (want.Verifier table role) (reply.Verifier (Ok stored))

abbrev pub found : List ℕ → List ℕ → List ℕ → Learnt
found table role text = looked_up table role (Some text)

abbrev pub not_looked_up : List ℕ → List ℕ → SqlState → Learnt
not_looked_up table role state = learnt (want.Verifier table role) (reply.Verifier (Err state))

-- The first frame began an exchange, with what was looked up for the mock and for the role, and the challenge is all that was said.
pub record HasChallenged (place : PasswordPlace) (drawn bytes : List ℕ) (xs : List Learnt) (said rest : List ℕ) (label : ℕ) (role : List ℕ) (x : TheExchange) : Type 0 where
  pub first : List ℕ
  pub mock : TheMock
  pub mock_stored : Option (List ℕ)
  pub stored : Option (List ℕ)
  pub begun : Sends bytes (begins label role first) rest
  pub is_mock : IsMockOf mock_stored mock
  pub begins_so : BeginsExchange mock role stored drawn first x
  pub learnt_is : xs ≡ looked_up place.table place.mock mock_stored ∷ looked_up place.table role stored ∷ []
  pub said_is : said ≡ message_frame label (challenge x)

-- ---- who is let in

-- The first two frames are an exchange with a role, whose messages show the password of the verifier of this text. That was looked up for
-- it twice, and found both times.
pub record HasShown (place : PasswordPlace) (drawn bytes : List ℕ) (xs : List Learnt) (role text : List ℕ) : Type 0 where
  pub label : ℕ
  pub first : List ℕ
  pub last : List ℕ
  pub middle : List ℕ
  pub rest : List ℕ
  pub begun : Sends bytes (begins label role first) middle
  pub ended : Sends middle (ends label last) rest
  pub was_shown : WasShown (Some text) (Some text) drawn first last text
  pub mock_text : List ℕ
  pub later : List Learnt
  pub learnt_is : xs ≡ found place.table place.mock mock_text ∷ found place.table role text ∷ found place.table role text ∷ later

-- a session for the role of this name may be wanted: the client has shown its password, of the verifier that was looked up just now
pub record MayOpenSession (place : PasswordPlace) (drawn bytes : List ℕ) (xs : List Learnt) (role : List ℕ) : Type 0 where
  pub text : List ℕ
  pub has_shown : HasShown place drawn bytes xs role text
  pub earlier : List Learnt
  pub found_now : xs ≡ earlier ++ found place.table role text ∷ []

-- this may be wanted, after this was learnt
abbrev pub MayWant : PasswordPlace → List ℕ → List ℕ → List Learnt → Want → Type 0
MayWant place drawn bytes xs (want.Open session login entry) = MayOpenSession place drawn bytes xs login
MayWant place drawn bytes xs _ = Unit {0}

-- each thing that was learnt after some others might be wanted then
abbrev pub MightBeWanted : PasswordPlace → List ℕ → List ℕ → List Learnt → List Learnt → Type 0
MightBeWanted place drawn bytes before [] = Unit {0}
MightBeWanted place drawn bytes before (x ∷ xs) = MayWant place drawn bytes before x.want × MightBeWanted place drawn bytes (before ++ x ∷ []) xs

-- each might be wanted, by the bytes that came and those that were drawn
pub record WasShownAll (place : PasswordPlace) (xs : List Learnt) : Type 0 where
  pub drawn : List ℕ
  pub bytes : List ℕ
  pub might : MightBeWanted place drawn bytes [] xs

-- ---- who is refused

-- why a client was refused, and all that was said to it
pub data WasRefused (place : PasswordPlace) (drawn bytes : List ℕ) (xs : List Learnt) (said : List ℕ) : Type 0 where
  -- it sent an event, before it began an exchange or in its middle
  sent_event : (session : ℕ) (rest : List ℕ) → Sends bytes (event session) rest → xs ≡ []
      → said ≡ refusal_said session InvalidAuthorization → WasRefused place drawn bytes xs said
  sent_event_then : (label session : ℕ) (role before middle rest : List ℕ) (x : TheExchange)
      → HasChallenged place drawn bytes xs before middle label role x → Sends middle (event session) rest
      → said ≡ before ++ refusal_said session InvalidAuthorization → WasRefused place drawn bytes xs said
  -- there is no mock, so that nobody is let in
  had_no_mock : (label : ℕ) (role first rest : List ℕ) (stored : Option (List ℕ)) → Sends bytes (begins label role first) rest
      → xs ≡ looked_up place.table place.mock stored ∷ [] → StoresNone stored
      → said ≡ refusal_said label InvalidAuthorization → WasRefused place drawn bytes xs said
  -- its message was no first one
  sent_no_first : (label : ℕ) (role first rest : List ℕ) (mock_stored stored : Option (List ℕ)) → Sends bytes (begins label role first) rest
      → xs ≡ looked_up place.table place.mock mock_stored ∷ looked_up place.table role stored ∷ [] → IsNoFirst first
      → said ≡ refusal_said label InvalidAuthorization → WasRefused place drawn bytes xs said
  -- its last message shows nothing: the proof is wrong or none, the role has no verifier, or no longer this one
  showed_nothing : (label : ℕ) (role before middle last rest : List ℕ) (x : TheExchange) (earlier : List Learnt) (stored : Option (List ℕ))
      → HasChallenged place drawn bytes earlier before middle label role x → Sends middle (ends label last) rest
      → xs ≡ earlier ++ looked_up place.table role stored ∷ [] → IsRefusedLogin x last stored
      → said ≡ before ++ refusal_said label InvalidAuthorization → WasRefused place drawn bytes xs said
  -- a verifier could not be looked up
  failed : (label : ℕ) (role before : List ℕ) (state : SqlState) (earlier : List Learnt) → xs ≡ earlier ++ not_looked_up place.table role state ∷ []
      → said ≡ before ++ refusal_said label state → WasRefused place drawn bytes xs said
