-- A conversation whose client may ask what a statement would answer.
use Rattle.std.specs.Prelude.{◌≡◌, ℕ, List, [], Option, Some, None}
use Rattle.talks.specs.declared.talk.MessageFront.{MessageFront}
use Rattle.talks.specs.declared.talk.MessageFront.TheVariants.{Nothing, Whole}
use Rattle.talks.specs.declared.talk.Talk.{Ghosts}
use Rattle.talks.specs.declared.want.Want.{Want}
use Rattle.talks.specs.declared.want.Want.TheVariants as want
use Rattle.talks.specs.declared.want.Reply.{Reply}
use Rattle.heading_talks.specs.HeadingFrames.{NextHeading, part, asks, other}
use Rattle.heading_talks.specs.Headings.{heading_said}
use Rattle.heading_talks.specs.declared.heading_talk.HeadingTalk.{HeadingTalk}

-- ---- what is wanted

-- the session in which something was asked that is not answered
abbrev pub asked_session : Want → Option ℕ
asked_session (want.Description session text) = Some session
asked_session _ = None

-- what was asked goes before what the conversation inside wants
abbrev pub wanted : Option ℕ → Want → Want → Want
wanted (Some session) question inner = question
wanted None question inner = inner

-- what a frame asks, if it is one that asks: what the statement of its text would answer in its session
abbrev pub asked_by : NextHeading → Option Want
asked_by part = None
asked_by (asks session text size) = Some (want.Description session text)
asked_by other = None

-- ---- what is heard and learnt

-- what stands at the front: a frame that asks, or what the conversation inside sees there
abbrev pub front_over : NextHeading → MessageFront → MessageFront
front_over part inner = Nothing
front_over (asks session text size) inner = Whole size
front_over other inner = inner

module _ {T : Type 0} (k : Ghosts T) where
  -- to a frame that asks nothing is said before it is answered; all else the conversation inside hears
  abbrev pub HearsMessage : Option Want → HeadingTalk T → List ℕ → List ℕ → HeadingTalk T → Type 0
  HearsMessage (Some question) t message said u = (said ≡ []) × (u.question ≡ question) × (u.talk ≡ t.talk) × (u.may_ask ≡ t.may_ask)
  HearsMessage None t message said u = k.hears t.talk message said u.talk × (u.question ≡ want.Message) × (u.may_ask ≡ t.may_ask)

  abbrev pub RejectsMessage : HeadingTalk T → List ℕ → HeadingTalk T → Type 0
  RejectsMessage t said u = k.rejects t.talk said u.talk × (u.question ≡ want.Message) × (u.may_ask ≡ t.may_ask)

  -- what was asked is answered once; all else the conversation inside learns
  abbrev pub LearnsReply : Option ℕ → HeadingTalk T → Reply → List ℕ → HeadingTalk T → Type 0
  LearnsReply (Some session) t r said u = (said ≡ heading_said session r) × (u.question ≡ want.Message) × (u.talk ≡ t.talk) × (u.may_ask ≡ t.may_ask)
  LearnsReply None t r said u = k.learns t.talk r said u.talk × (u.question ≡ want.Message) × (u.may_ask ≡ t.may_ask)
