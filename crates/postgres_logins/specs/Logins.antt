-- The exchange of a conversation, step by step: what is said to each message and to what was looked up, and how it stands then.
use Rattle.std.specs.Prelude.{◌≡◌, ◌+◌, ℕ, Bool, true, false, nat_lt, List, [], Option, Some, None, Ok, Err}
use Rattle.sql_types.specs.declared.state.SqlState.{SqlState}
use Rattle.sql_types.specs.declared.state.SqlState.TheVariants.{ProtocolViolation}
use Rattle.talks.specs.declared.want.Want.{Want}
use Rattle.talks.specs.declared.want.Want.TheVariants as want
use Rattle.talks.specs.declared.want.Reply.{Reply}
use Rattle.talks.specs.declared.want.Reply.TheVariants as reply
use Rattle.scram.specs.Exchanges.{TheExchange, BeginsExchange, IsNoFirst, IsShownLogin, IsRefusedLogin, challenge, messages}
use Rattle.scram.specs.Messages.{server_final}
use Rattle.scram.specs.Mocks.{TheMock, StoresNone}
use Rattle.password_talks.specs.declared.login.PasswordPlace.{PasswordPlace}
use Rattle.password_talks.specs.declared.stage.LoginStage.{LoginStage as PasswordStage}
use Rattle.password_talks.specs.declared.stage.LoginStage.TheVariants as password
use Rattle.password_talks.specs.Logins.{IsMockOf, verifier_of}
use Rattle.postgres_logins.specs.declared.start_request.StartRequest.{StartRequest}
use Rattle.postgres_logins.specs.declared.start_request.StartRequest.TheVariants as request
use Rattle.postgres_logins.specs.declared.stage.SaslStage.{SaslStage}
use Rattle.postgres_logins.specs.declared.stage.SaslStage.TheVariants as stage
use Rattle.postgres_logins.specs.declared.stage.Newcomer.{Newcomer}
use Rattle.postgres_logins.specs.declared.login.SaslLogin.{SaslLogin}
use Rattle.postgres_logins.specs.EntryMessages.{CarriesFirst, AsksAtStart, answer_in}
use Rattle.postgres_logins.specs.Sayings.{failure_said, first_said, last_said, no_encryption, offer_said, refusal_said}

-- ---- how it stands

-- the password was shown
abbrev pub is_admitted : SaslStage → Bool
is_admitted (stage.Admitted n text) = true
is_admitted _ = false

-- the role whose password it was
abbrev pub shown_role : SaslStage → Option (List ℕ)
shown_role (stage.Admitted n text) = Some n.role
shown_role _ = None

-- a verifier is looked up for the exchange
abbrev pub is_looking : SaslStage → Bool
is_looking (stage.Begun n) = true
is_looking (stage.Mocked n mock) = true
is_looking (stage.Answered n x last) = true
is_looking _ = false

-- the StartupMessage of a client that was let in
abbrev pub start_in : SaslStage → Option (List ℕ)
start_in (stage.Admitted n text) = Some n.start
start_in _ = None

-- the same, as look-ups before a session go by it: whose password was shown, and of which verifier
abbrev pub shown_in : SaslStage → PasswordStage
shown_in (stage.Admitted n text) = password.Admitted n.role text
shown_in _ = password.Ended

-- it is at this place, these bytes were drawn for it, and it has come so far and wants this
abbrev pub StandsAs : PasswordPlace → List ℕ → SaslStage → Want → SaslLogin → Type 0
StandsAs place drawn s w new = (new.place ≡ place) × (new.drawn ≡ drawn) × (new.stage ≡ s) × (new.want ≡ w)

-- an allocation failed before anything was said
abbrev pub SaidNothing : PasswordPlace → List ℕ → SaslLogin → Type 0
SaidNothing place drawn new = (new.place ≡ place) × (new.drawn ≡ drawn)

-- ---- what is said at the end

-- the client is told this, and the connection ends a second later
abbrev pub RefusesClient : PasswordPlace → List ℕ → List ℕ → List ℕ → SaslLogin → Type 0
RefusesClient place drawn told said new = (said ≡ told) × StandsAs place drawn stage.Ended (want.End true) new

-- it has sent what is not taken here; that is answered, and the connection ends
abbrev pub SendsAway : PasswordPlace → List ℕ → SqlState → List ℕ → SaslLogin → Type 0
SendsAway place drawn state said new = (said ≡ refusal_said state) × StandsAs place drawn stage.Ended (want.End false) new

-- the connection ends with nothing said
abbrev pub EndsSilently : PasswordPlace → List ℕ → List ℕ → SaslLogin → Type 0
EndsSilently place drawn said new = (said ≡ []) × StandsAs place drawn stage.Ended (want.End false) new

-- ---- packets of the start

-- a request for encryption is refused, if fewer than two were
abbrev pub HearsEncryption : Bool → ℕ → PasswordPlace → List ℕ → List ℕ → SaslLogin → Type 0
HearsEncryption true answered place drawn said new = (said ≡ no_encryption) × StandsAs place drawn (stage.Starting (answered + 1)) want.Message new
HearsEncryption false answered place drawn said new = SendsAway place drawn ProtocolViolation said new

-- who comes is kept, and the verifier is looked up from which the mock is made
abbrev pub newcomer : List ℕ → List ℕ → Newcomer
newcomer start role = record { start = start; role = role }

abbrev pub HearsRequest : StartRequest → ℕ → List ℕ → PasswordPlace → List ℕ → List ℕ → SaslLogin → Type 0
HearsRequest request.Encryption answered message place drawn said new = HearsEncryption (nat_lt answered 2) answered place drawn said new
HearsRequest request.Leave answered message place drawn said new = EndsSilently place drawn said new
HearsRequest (request.Login role) answered message place drawn said new =
    (said ≡ []) × StandsAs place drawn (stage.Begun (newcomer message role)) (verifier_of place place.mock) new
HearsRequest (request.Unfit state) answered message place drawn said new = SendsAway place drawn state said new

abbrev pub HearsPacket : ℕ → List ℕ → PasswordPlace → List ℕ → List ℕ → SaslLogin → Type 0
HearsPacket answered message place drawn said new = (r : StartRequest) × AsksAtStart message r × HearsRequest r answered message place drawn said new

-- ---- messages

-- by the first message of an exchange: the client is challenged, or it is no first one
pub data OpensExchange (place : PasswordPlace) (drawn : List ℕ) (n : Newcomer) (mock : TheMock) (stored : Option (List ℕ)) (first said : List ℕ) (new : SaslLogin) : Type 0 where
  challenged : (x : TheExchange) → BeginsExchange mock n.role stored drawn first x
      → said ≡ first_said (challenge x) → StandsAs place drawn (stage.Challenged n x) want.Message new
      → OpensExchange place drawn n mock stored first said new
  begins_none : IsNoFirst first → RefusesClient place drawn (failure_said n.role) said new → OpensExchange place drawn n mock stored first said new

abbrev pub HearsFirst : Option (List ℕ) → Newcomer → TheMock → Option (List ℕ) → PasswordPlace → List ℕ → List ℕ → SaslLogin → Type 0
HearsFirst (Some first) n mock stored place drawn said new = OpensExchange place drawn n mock stored first said new
HearsFirst None n mock stored place drawn said new = SendsAway place drawn ProtocolViolation said new

abbrev pub HearsInitial : Newcomer → TheMock → Option (List ℕ) → List ℕ → PasswordPlace → List ℕ → List ℕ → SaslLogin → Type 0
HearsInitial n mock stored message place drawn said new = (o : Option (List ℕ)) × CarriesFirst message o × HearsFirst o n mock stored place drawn said new

-- by the last message of an exchange: the verifier of its role is looked up again
abbrev pub HearsLast : Option (List ℕ) → Newcomer → TheExchange → PasswordPlace → List ℕ → List ℕ → SaslLogin → Type 0
HearsLast (Some last) n x place drawn said new = (said ≡ []) × StandsAs place drawn (stage.Answered n x last) (verifier_of place n.role) new
HearsLast None n x place drawn said new = SendsAway place drawn ProtocolViolation said new

-- what is said to a message, and how it stands then
abbrev pub HearsIn : SaslStage → List ℕ → PasswordPlace → List ℕ → List ℕ → SaslLogin → Type 0
HearsIn (stage.Starting answered) message place drawn said new = HearsPacket answered message place drawn said new
HearsIn (stage.Offered n mock stored) message place drawn said new = HearsInitial n mock stored message place drawn said new
HearsIn (stage.Challenged n x) message place drawn said new = HearsLast (answer_in message) n x place drawn said new
HearsIn s message place drawn said new = SendsAway place drawn ProtocolViolation said new

-- ---- what was looked up

-- what is stored for the mock's role: the mock is made, and the verifier of the client's role is looked up; or there is none
pub data PreparesMock (place : PasswordPlace) (drawn : List ℕ) (n : Newcomer) (stored : Option (List ℕ)) (said : List ℕ) (new : SaslLogin) : Type 0 where
  made : (mock : TheMock) → IsMockOf stored mock → said ≡ [] → StandsAs place drawn (stage.Mocked n mock) (verifier_of place n.role) new
      → PreparesMock place drawn n stored said new
  lacks : StoresNone stored → RefusesClient place drawn (failure_said n.role) said new → PreparesMock place drawn n stored said new

-- what is stored for the client's role is kept, and the mechanism is offered
abbrev pub Offers : PasswordPlace → List ℕ → Newcomer → TheMock → Option (List ℕ) → List ℕ → SaslLogin → Type 0
Offers place drawn n mock stored said new = (said ≡ offer_said) × StandsAs place drawn (stage.Offered n mock stored) want.Message new

-- what is stored still: the client is let in, or its last message shows nothing
pub data AnswersFinal (place : PasswordPlace) (drawn : List ℕ) (n : Newcomer) (x : TheExchange) (last : List ℕ) (stored : Option (List ℕ)) (said : List ℕ) (new : SaslLogin) : Type 0 where
  is_let_in : (text : List ℕ) → IsShownLogin x last stored text
      → said ≡ last_said (server_final x.verifier (messages x)) → StandsAs place drawn (stage.Admitted n text) (verifier_of place n.role) new
      → AnswersFinal place drawn n x last stored said new
  has_shown_none : IsRefusedLogin x last stored → RefusesClient place drawn (failure_said n.role) said new → AnswersFinal place drawn n x last stored said new

-- what is said once it was looked up what is stored for a role, and how it stands then
abbrev pub FindsStored : SaslStage → PasswordPlace → List ℕ → Option (List ℕ) → List ℕ → SaslLogin → Type 0
FindsStored (stage.Begun n) place drawn stored said new = PreparesMock place drawn n stored said new
FindsStored (stage.Mocked n mock) place drawn stored said new = Offers place drawn n mock stored said new
FindsStored (stage.Answered n x last) place drawn stored said new = AnswersFinal place drawn n x last stored said new
FindsStored _ place drawn stored said new = EndsSilently place drawn said new

-- the same, where it could not be looked up; where nothing was to be looked up, which does not happen, the connection ends
abbrev pub FailsIf : Bool → PasswordPlace → List ℕ → SqlState → List ℕ → SaslLogin → Type 0
FailsIf true place drawn state said new = RefusesClient place drawn (refusal_said state) said new
FailsIf false place drawn state said new = EndsSilently place drawn said new

-- what is said to what was looked up, and how it stands then
abbrev pub LearnsIn : SaslStage → PasswordPlace → List ℕ → Reply → List ℕ → SaslLogin → Type 0
LearnsIn s place drawn (reply.Verifier (Ok stored)) said new = FindsStored s place drawn stored said new
LearnsIn s place drawn (reply.Verifier (Err state)) said new = FailsIf (is_looking s) place drawn state said new
LearnsIn s place drawn _ said new = EndsSilently place drawn said new
