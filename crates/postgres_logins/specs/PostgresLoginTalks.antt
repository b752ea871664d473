-- A conversation with a client that shows a password first, in PostgreSQL's messages.
use Rattle.std.specs.Prelude.{◌≡◌, ◌++◌, ℕ, Bool, true, false, if◌then◌else◌, List, [], length, Option, Some, None}
use Rattle.sql_types.specs.declared.answer.Answer.TheVariants.{Refused}
use Rattle.sql_types.specs.declared.state.SqlState.{SqlState}
use Rattle.sql_types.specs.declared.state.SqlState.TheVariants.{ProtocolViolation}
use Rattle.talks.specs.declared.talk.MessageFront.{MessageFront}
use Rattle.talks.specs.declared.talk.MessageFront.TheVariants.{Whole}
use Rattle.talks.specs.declared.talk.Talk.{Ghosts}
use Rattle.talks.specs.declared.want.Want.{Want}
use Rattle.talks.specs.declared.want.Want.TheVariants as want
use Rattle.talks.specs.declared.want.Reply.{Reply}
use Rattle.talks.specs.declared.want.Reply.TheVariants as reply
use Rattle.password_talks.specs.LookUps.{is_as_shown, refusal}
use Rattle.password_talks.specs.PasswordTalks.{asks_first, front_if}
use Rattle.postgres_logins.specs.declared.stage.SaslStage.{SaslStage}
use Rattle.postgres_logins.specs.declared.login.SaslLogin.{SaslLogin}
use Rattle.postgres_logins.specs.declared.postgres_login_talk.PostgresLoginTalk.{PostgresLoginTalk}
use Rattle.postgres_logins.specs.EntryMessages.{entry_front}
use Rattle.postgres_logins.specs.Logins.{HearsIn, SendsAway, LearnsIn, is_admitted, shown_in, start_in}

-- ---- what is wanted

-- what the exchange wants; and once a password was shown what the conversation inside wants, but the verifier before each session
abbrev pub wanted_inside : Bool → SaslLogin → Bool → Want → Want
wanted_inside true l is_found inner = if asks_first is_found inner then l.want else inner
wanted_inside false l is_found inner = l.want

abbrev pub wanted : SaslLogin → Bool → Want → Want
wanted l is_found inner = wanted_inside (is_admitted l.stage) l is_found inner

-- ---- what is heard and learnt

module _ {T : Type 0} (k : Ghosts T) where
  -- what stands at the front: once a password was shown what the conversation inside sees there
  abbrev pub front_at : SaslStage → T → List ℕ → MessageFront
  front_at s talk bytes = front_if (is_admitted s) (k.front talk bytes) (entry_front s bytes)

  -- a message: once a password was shown the conversation inside hears it
  abbrev pub HearsIf : Bool → SaslStage → PostgresLoginTalk T → List ℕ → List ℕ → PostgresLoginTalk T → Type 0
  HearsIf true s t message said u = k.hears t.talk message said u.talk × (u.login ≡ t.login) × (u.is_found ≡ false)
  HearsIf false s t message said u = HearsIn s message t.login.place t.login.drawn said u.login × (u.talk ≡ t.talk) × (u.is_found ≡ false)

  abbrev pub RejectsIf : Bool → PostgresLoginTalk T → List ℕ → PostgresLoginTalk T → Type 0
  RejectsIf true t said u = k.rejects t.talk said u.talk × (u.login ≡ t.login) × (u.is_found ≡ false)
  RejectsIf false t said u = SendsAway t.login.place t.login.drawn ProtocolViolation said u.login × (u.talk ≡ t.talk) × (u.is_found ≡ false)

  -- the conversation inside learns this
  abbrev pub LearnsInside : PostgresLoginTalk T → Reply → List ℕ → PostgresLoginTalk T → Type 0
  LearnsInside t r said u = k.learns t.talk r said u.talk × (u.login ≡ t.login) × (u.is_found ≡ false)

  -- the verifier was looked up before a session: the session is wanted then, or the conversation inside learns why it is refused
  abbrev pub OpensIf : Bool → SqlState → PostgresLoginTalk T → List ℕ → PostgresLoginTalk T → Type 0
  OpensIf true state t said u = (said ≡ []) × (u.talk ≡ t.talk) × (u.login ≡ t.login) × (u.is_found ≡ true)
  OpensIf false state t said u = LearnsInside t (reply.Answer (Refused state)) said u

  -- what was wanted: the verifier, before a session; or what the conversation inside wants
  abbrev pub LearnsFirstIf : Bool → SaslStage → PostgresLoginTalk T → Reply → List ℕ → PostgresLoginTalk T → Type 0
  LearnsFirstIf true s t r said u = OpensIf (is_as_shown (shown_in s) (k.wants t.talk) r) (refusal (shown_in s) (k.wants t.talk) r) t said u
  LearnsFirstIf false s t r said u = LearnsInside t r said u

  -- a StartupMessage is the first that the conversation inside hears
  pub record HearsStart (start : List ℕ) (t : T) (said : List ℕ) (u : T) : Type 0 where
    pub wants : k.wants t ≡ want.Message
    pub front : k.front t start ≡ Whole (length start)
    pub hears : k.hears t start said u

  abbrev pub HearsStartOf : Option (List ℕ) → T → List ℕ → T → Type 0
  HearsStartOf (Some start) t said u = HearsStart start t said u
  HearsStartOf None t said u = (said ≡ []) × (u ≡ t)

  -- what was looked up for the exchange: what is said to it, and where the client is let in what the conversation inside says to its StartupMessage
  pub record LearnsOutside (s : SaslStage) (t : PostgresLoginTalk T) (r : Reply) (said : List ℕ) (u : PostgresLoginTalk T) : Type 0 where
    pub own : List ℕ
    pub inner : List ℕ
    pub learns : LearnsIn s t.login.place t.login.drawn r own u.login
    pub starts : HearsStartOf (start_in u.login.stage) t.talk inner u.talk
    pub said_is : said ≡ own ++ inner
    pub is_found : u.is_found ≡ false

  abbrev pub LearnsIf : Bool → SaslStage → PostgresLoginTalk T → Reply → List ℕ → PostgresLoginTalk T → Type 0
  LearnsIf true s t r said u = LearnsFirstIf (asks_first t.is_found (k.wants t.talk)) s t r said u
  LearnsIf false s t r said u = LearnsOutside s t r said u

  -- the same, by how the exchange stands
  abbrev pub HearsMessage : PostgresLoginTalk T → List ℕ → List ℕ → PostgresLoginTalk T → Type 0
  HearsMessage t message said u = HearsIf (is_admitted t.login.stage) t.login.stage t message said u

  abbrev pub RejectsMessage : PostgresLoginTalk T → List ℕ → PostgresLoginTalk T → Type 0
  RejectsMessage t said u = RejectsIf (is_admitted t.login.stage) t said u

  abbrev pub LearnsReply : PostgresLoginTalk T → Reply → List ℕ → PostgresLoginTalk T → Type 0
  LearnsReply t r said u = LearnsIf (is_admitted t.login.stage) t.login.stage t r said u
