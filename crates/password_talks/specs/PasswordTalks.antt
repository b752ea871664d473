-- A conversation with a client that shows a password first.
use Rattle.std.specs.Prelude.{◌≡◌, ℕ, Bool, true, false, if◌then◌else◌, List, []}
use Rattle.sql_types.specs.declared.answer.Answer.TheVariants.{Refused}
use Rattle.sql_types.specs.declared.state.SqlState.{SqlState}
use Rattle.talks.specs.declared.talk.MessageFront.{MessageFront}
use Rattle.talks.specs.declared.talk.Talk.{Ghosts}
use Rattle.talks.specs.declared.want.Want.{Want}
use Rattle.talks.specs.declared.want.Want.TheVariants as want
use Rattle.talks.specs.declared.want.Reply.{Reply}
use Rattle.talks.specs.declared.want.Reply.TheVariants as reply
use Rattle.password_talks.specs.declared.stage.LoginStage.{LoginStage}
use Rattle.password_talks.specs.declared.login.Login.{Login}
use Rattle.password_talks.specs.declared.password_talk.PasswordTalk.{PasswordTalk}
use Rattle.password_talks.specs.EarlyFrames.{early_front, early_frame}
use Rattle.password_talks.specs.LookUps.{is_as_shown, refusal}
use Rattle.password_talks.specs.Logins.{HearsAt, IsBadFrame, LearnsAt, is_admitted}

-- ---- what is wanted

-- the conversation inside wants a session, and the verifier was not looked up for it
abbrev pub asks_first : Bool → Want → Bool
asks_first false (want.Open session login entry) = true
asks_first _ _ = false

-- what is wanted: what the exchange wants; and once a password was shown what the conversation inside wants, but the verifier before each session
abbrev pub wanted_inside : Bool → Login → Bool → Want → Want
wanted_inside true l is_found inner = if asks_first is_found inner then l.want else inner
wanted_inside false l is_found inner = l.want

abbrev pub wanted : Login → Bool → Want → Want
wanted l is_found inner = wanted_inside (is_admitted l.stage) l is_found inner

-- ---- what is heard and learnt

-- what stands at the front: once a password was shown what the conversation inside sees there
abbrev pub front_if : Bool → MessageFront → MessageFront → MessageFront
front_if true inner early = inner
front_if false inner early = early

module _ {T : Type 0} (k : Ghosts T) where
  abbrev pub front_at : Bool → T → List ℕ → MessageFront
  front_at b talk bytes = front_if b (k.front talk bytes) (early_front bytes)

  -- a message: once a password was shown the conversation inside hears it
  abbrev pub HearsIf : Bool → LoginStage → PasswordTalk T → List ℕ → List ℕ → PasswordTalk T → Type 0
  HearsIf true s t message said u = k.hears t.talk message said u.talk × (u.login ≡ t.login) × (u.is_found ≡ false)
  HearsIf false s t message said u = HearsAt s (early_frame message) t.login.place t.login.drawn said u.login × (u.talk ≡ t.talk) × (u.is_found ≡ false)

  abbrev pub RejectsIf : Bool → PasswordTalk T → List ℕ → PasswordTalk T → Type 0
  RejectsIf true t said u = k.rejects t.talk said u.talk × (u.login ≡ t.login) × (u.is_found ≡ false)
  RejectsIf false t said u = IsBadFrame t.login.place t.login.drawn said u.login × (u.talk ≡ t.talk) × (u.is_found ≡ false)

  -- the conversation inside learns this
  abbrev pub LearnsInside : PasswordTalk T → Reply → List ℕ → PasswordTalk T → Type 0
  LearnsInside t r said u = k.learns t.talk r said u.talk × (u.login ≡ t.login) × (u.is_found ≡ false)

  -- the verifier was looked up before a session: the session is wanted then, or the conversation inside learns why it is refused
  abbrev pub OpensIf : Bool → SqlState → PasswordTalk T → List ℕ → PasswordTalk T → Type 0
  OpensIf true state t said u = (said ≡ []) × (u.talk ≡ t.talk) × (u.login ≡ t.login) × (u.is_found ≡ true)
  OpensIf false state t said u = LearnsInside t (reply.Answer (Refused state)) said u

  -- what was wanted: the verifier, before a session; or what the conversation inside wants
  abbrev pub LearnsFirstIf : Bool → LoginStage → PasswordTalk T → Reply → List ℕ → PasswordTalk T → Type 0
  LearnsFirstIf true s t r said u = OpensIf (is_as_shown s (k.wants t.talk) r) (refusal s (k.wants t.talk) r) t said u
  LearnsFirstIf false s t r said u = LearnsInside t r said u

  abbrev pub LearnsIf : Bool → LoginStage → PasswordTalk T → Reply → List ℕ → PasswordTalk T → Type 0
  LearnsIf true s t r said u = LearnsFirstIf (asks_first t.is_found (k.wants t.talk)) s t r said u
  LearnsIf false s t r said u = LearnsAt s t.login.place t.login.drawn r said u.login × (u.talk ≡ t.talk) × (u.is_found ≡ false)

  -- the same, by how the exchange stands
  abbrev pub HearsMessage : PasswordTalk T → List ℕ → List ℕ → PasswordTalk T → Type 0
  HearsMessage t message said u = HearsIf (is_admitted t.login.stage) t.login.stage t message said u

  abbrev pub RejectsMessage : PasswordTalk T → List ℕ → PasswordTalk T → Type 0
  RejectsMessage t said u = RejectsIf (is_admitted t.login.stage) t said u

  abbrev pub LearnsReply : PasswordTalk T → Reply → List ℕ → PasswordTalk T → Type 0
  LearnsReply t r said u = LearnsIf (is_admitted t.login.stage) t.login.stage t r said u
