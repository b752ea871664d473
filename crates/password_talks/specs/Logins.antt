-- The exchange of a conversation, step by step: what is said to each frame and to what was looked up, and how it stands then.
use Rattle.std.specs.Prelude.{◌≡◌, ◌==◌, ℕ, Bool, true, false, List, [], Option, Some, None, Ok, Err}
use Rattle.sql_types.specs.declared.answer.Answer.TheVariants.{Refused}
use Rattle.sql_types.specs.declared.state.SqlState.{SqlState}
use Rattle.sql_types.specs.declared.state.SqlState.TheVariants.{InvalidAuthorization}
use Rattle.wire.specs.AnswerFrames.{answer_frames}
use Rattle.wire.specs.AnswerText.{answer_text}
use Rattle.frame_talks.specs.FrameTalks.{bad_frame_said}
use Rattle.talks.specs.declared.want.Want.{Want}
use Rattle.talks.specs.declared.want.Want.TheVariants as want
use Rattle.talks.specs.declared.want.Reply.{Reply}
use Rattle.talks.specs.declared.want.Reply.TheVariants as reply
use Rattle.scram_hashes.specs.Keys.{TheVerifier}
use Rattle.scram_hashes.specs.VerifierText.{SpellsVerifier}
use Rattle.scram.specs.Exchanges.{TheExchange, BeginsExchange, IsNoFirst, IsShownLogin, IsRefusedLogin, challenge, messages}
use Rattle.scram.specs.Messages.{server_final}
use Rattle.scram.specs.Mocks.{TheMock, StoresNone}
use Rattle.password_talks.specs.declared.stage.LoginStage.{LoginStage}
use Rattle.password_talks.specs.declared.stage.LoginStage.TheVariants as stage
use Rattle.password_talks.specs.declared.login.Login.{Login}
use Rattle.password_talks.specs.declared.login.PasswordPlace.{PasswordPlace}
use Rattle.password_talks.specs.EarlyFrames.{TheFrame, begins, ends, event, message_frame}

-- ---- how it stands

-- the password was shown
abbrev pub is_admitted : LoginStage → Bool
is_admitted (stage.Admitted role text) = true
is_admitted _ = false

-- the role whose password it was
abbrev pub shown_role : LoginStage → Option (List ℕ)
shown_role (stage.Admitted role text) = Some role
shown_role _ = None

-- nothing was heard
abbrev pub is_silent : LoginStage → Bool
is_silent stage.Silent = true
is_silent _ = false

-- the label of the exchange, while a verifier is looked up for it
abbrev pub looking_label : LoginStage → Option ℕ
looking_label (stage.Begun label role first) = Some label
looking_label (stage.Mocked label role first mock) = Some label
looking_label (stage.Answered label role x last) = Some label
looking_label _ = None

-- the verifier that a role keeps is wanted
abbrev pub verifier_of : PasswordPlace → List ℕ → Want
verifier_of place role = want.Verifier place.table role

-- it is at this place, these bytes were drawn for it, and it has come so far and wants this
abbrev pub StandsSo : PasswordPlace → List ℕ → LoginStage → Want → Login → Type 0
StandsSo place drawn s w new = (new.place ≡ place) × (new.drawn ≡ drawn) × (new.stage ≡ s) × (new.want ≡ w)

-- an allocation failed before anything was said
abbrev pub IsUnsaid : PasswordPlace → List ℕ → Login → Type 0
IsUnsaid place drawn new = (new.place ≡ place) × (new.drawn ≡ drawn)

-- ---- what is said

-- that something is refused, under a label
abbrev pub refusal_said : ℕ → SqlState → List ℕ
refusal_said label state = answer_frames label (answer_text (Refused state))

-- the client is refused, and the connection ends a second later
abbrev pub RefusesLogin : PasswordPlace → List ℕ → ℕ → SqlState → List ℕ → Login → Type 0
RefusesLogin place drawn label state said new = (said ≡ refusal_said label state) × StandsSo place drawn stage.Ended (want.End true) new

-- it has sent what is no frame, or not here; that is answered, and the connection ends
abbrev pub IsBadFrame : PasswordPlace → List ℕ → List ℕ → Login → Type 0
IsBadFrame place drawn said new = (said ≡ bad_frame_said) × StandsSo place drawn stage.Ended (want.End false) new

-- ---- frames

-- a last message under this label, or under another
abbrev pub HearsEnd : Bool → ℕ → List ℕ → TheExchange → List ℕ → PasswordPlace → List ℕ → List ℕ → Login → Type 0
HearsEnd true label role x last place drawn said new = (said ≡ []) × StandsSo place drawn (stage.Answered label role x last) (verifier_of place role) new
HearsEnd false label role x last place drawn said new = IsBadFrame place drawn said new

-- what is said to a frame, and how it stands then: an exchange begins once, and ends under its label
abbrev pub HearsAt : LoginStage → TheFrame → PasswordPlace → List ℕ → List ℕ → Login → Type 0
HearsAt stage.Silent (begins label role first) place drawn said new =
    (said ≡ []) × StandsSo place drawn (stage.Begun label role first) (verifier_of place place.mock) new
HearsAt (stage.Challenged label role x) (ends own last) place drawn said new = HearsEnd (own == label) label role x last place drawn said new
HearsAt s (event session) place drawn said new = RefusesLogin place drawn session InvalidAuthorization said new
HearsAt s f place drawn said new = IsBadFrame place drawn said new

-- ---- what was looked up

-- the mock that a verifier stands for
abbrev pub mock_of : TheVerifier → TheMock
mock_of verifier = record { secret = verifier.stored_key; iterations = verifier.iterations }

-- it is the mock of the verifier that is stored
pub record IsMockOf (stored : Option (List ℕ)) (mock : TheMock) : Type 0 where
  pub text : List ℕ
  pub verifier : TheVerifier
  pub is_stored : stored ≡ Some text
  pub spells : SpellsVerifier text verifier
  pub mock_is : mock ≡ mock_of verifier

-- once it was looked up what is stored for the mock's role: the mock is made, and the verifier of the client's role is looked up; or there is none
pub data MakesMock (place : PasswordPlace) (drawn : List ℕ) (label : ℕ) (role first : List ℕ) (stored : Option (List ℕ)) (said : List ℕ) (new : Login) : Type 0 where
  made : (mock : TheMock) → IsMockOf stored mock → said ≡ [] → StandsSo place drawn (stage.Mocked label role first mock) (verifier_of place role) new
      → MakesMock place drawn label role first stored said new
  lacks : StoresNone stored → RefusesLogin place drawn label InvalidAuthorization said new → MakesMock place drawn label role first stored said new

-- once it was looked up what is stored for the client's role: the client is challenged, or its message is no first one
pub data Challenges (place : PasswordPlace) (drawn : List ℕ) (label : ℕ) (role first : List ℕ) (mock : TheMock) (stored : Option (List ℕ)) (said : List ℕ) (new : Login) : Type 0 where
  challenged : (x : TheExchange) → BeginsExchange mock role stored drawn first x
      → said ≡ message_frame label (challenge x) → StandsSo place drawn (stage.Challenged label role x) want.Message new
      → Challenges place drawn label role first mock stored said new
  begins_none : IsNoFirst first → RefusesLogin place drawn label InvalidAuthorization said new → Challenges place drawn label role first mock stored said new

-- once it was looked up again: the client is let in, or its last message shows nothing
pub data AnswersLast (place : PasswordPlace) (drawn : List ℕ) (label : ℕ) (role : List ℕ) (x : TheExchange) (last : List ℕ) (stored : Option (List ℕ)) (said : List ℕ) (new : Login) : Type 0 where
  is_let_in : (text : List ℕ) → IsShownLogin x last stored text
      → said ≡ message_frame label (server_final x.verifier (messages x)) → StandsSo place drawn (stage.Admitted role text) (verifier_of place role) new
      → AnswersLast place drawn label role x last stored said new
  has_shown_none : IsRefusedLogin x last stored → RefusesLogin place drawn label InvalidAuthorization said new → AnswersLast place drawn label role x last stored said new

-- nothing was to be looked up, which does not happen
abbrev pub EndsHere : PasswordPlace → List ℕ → List ℕ → Login → Type 0
EndsHere place drawn said new = (said ≡ []) × StandsSo place drawn stage.Ended (want.End false) new

-- what is said once it was looked up what is stored for a role, and how it stands then
abbrev pub FindsAt : LoginStage → PasswordPlace → List ℕ → Option (List ℕ) → List ℕ → Login → Type 0
FindsAt (stage.Begun label role first) place drawn stored said new = MakesMock place drawn label role first stored said new
FindsAt (stage.Mocked label role first mock) place drawn stored said new = Challenges place drawn label role first mock stored said new
FindsAt (stage.Answered label role x last) place drawn stored said new = AnswersLast place drawn label role x last stored said new
FindsAt _ place drawn stored said new = EndsHere place drawn said new

-- the same, where it could not be looked up
abbrev pub FailsUnder : Option ℕ → PasswordPlace → List ℕ → SqlState → List ℕ → Login → Type 0
FailsUnder (Some label) place drawn state said new = RefusesLogin place drawn label state said new
FailsUnder None place drawn state said new = EndsHere place drawn said new

-- what is said to what was looked up, and how it stands then
abbrev pub LearnsAt : LoginStage → PasswordPlace → List ℕ → Reply → List ℕ → Login → Type 0
LearnsAt s place drawn (reply.Verifier (Ok stored)) said new = FindsAt s place drawn stored said new
LearnsAt s place drawn (reply.Verifier (Err state)) said new = FailsUnder (looking_label s) place drawn state said new
LearnsAt s place drawn _ said new = EndsHere place drawn said new
