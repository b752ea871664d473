-- What a conversation in frames wants, hears and says.
use Rattle.std.specs.Prelude.{◌≡◌, ℕ, false, List, [], Option, Some, None}
use Rattle.sql_types.specs.declared.event.Event.{Event}
use Rattle.sql_types.specs.declared.event.Event.TheVariants as event
use Rattle.wire.specs.AnswerFrames.{answer_frames}
use Rattle.wire.specs.AnswerText.{answer_text}
use Rattle.wire.specs.Connection.{bad_frame_text}
use Rattle.wire.specs.Frame.{NextFrame, incomplete, bad, whole}
use Rattle.wire.specs.Telling.{session_of}
use Rattle.talks.specs.declared.talk.MessageFront.{MessageFront}
use Rattle.talks.specs.declared.talk.MessageFront.TheVariants.{Nothing, Whole, Bad}
use Rattle.talks.specs.declared.want.SessionEntry.{SessionEntry}
use Rattle.talks.specs.declared.want.Way.TheVariants as way
use Rattle.talks.specs.declared.want.Want.{Want}
use Rattle.talks.specs.declared.want.Want.TheVariants as want
use Rattle.talks.specs.declared.want.Reply.{Reply}
use Rattle.talks.specs.declared.want.Reply.TheVariants as reply

-- a message is a frame
abbrev pub front_of : NextFrame → MessageFront
front_of incomplete = Nothing
front_of bad = Bad
front_of (whole e size) = Whole size

-- anyone may open a session, for any role
abbrev pub anyone : SessionEntry
anyone = record { way = way.Anyone; no_superuser = false; shown = None }

-- what the machine is wanted to do for an event
abbrev pub wanted_for : Event → Want
wanted_for (event.Open session login) = want.Open session login anyone
wanted_for (event.Statement session text) = want.Event (event.Statement session text)
wanted_for (event.Close session) = want.Event (event.Close session)

-- what it is wanted to do for a frame, if that is a whole one
abbrev pub wanted_by : NextFrame → Option Want
wanted_by incomplete = None
wanted_by bad = None
wanted_by (whole e size) = Some (wanted_for e)

-- the frame of the answer to a bad frame, which is of session 0
abbrev pub bad_frame_said : List ℕ
bad_frame_said = answer_frames 0 bad_frame_text

-- a bad frame is answered, and then the end is wanted
abbrev pub RefusesFrame : List ℕ → Want → Type 0
RefusesFrame said w = (said ≡ bad_frame_said) × (w ≡ want.End false)

-- to the frame of an event nothing is said before its answer
abbrev pub HearsFrame : NextFrame → List ℕ → Want → Type 0
HearsFrame incomplete said w = RefusesFrame said w
HearsFrame bad said w = RefusesFrame said w
HearsFrame (whole e size) said w = (said ≡ []) × (w ≡ wanted_for e)

-- the session of the event that is wanted, if one is
abbrev pub asked_session : Want → Option ℕ
asked_session (want.Event e) = Some (session_of e)
asked_session (want.Open session login entry) = Some session
asked_session _ = None

-- what is said of a reply: the frames of an answer, which are of the session of its event
abbrev pub said_to : Option ℕ → Reply → List ℕ
said_to None r = []
said_to (Some session) (reply.Answer a) = answer_frames session (answer_text a)
said_to (Some session) (reply.Standing b) = []
said_to (Some session) (reply.Description d) = []
said_to (Some session) (reply.Verifier v) = []
