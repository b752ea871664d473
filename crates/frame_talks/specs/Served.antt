-- How a client that sends frames is served: the events that its bytes spell are answered, in their order, and the frames of the answers are said.
use Rattle.std.specs.Prelude.{◌≡◌, ◌⊎◌, ℕ, Bool, true, false, List, [], ◌∷◌, ◌++◌, length, drop}
use Rattle.sql_types.specs.declared.answer.Answer.{Answer}
use Rattle.sql_types.specs.declared.event.Event.{Event}
use Rattle.wire.specs.Answers.{all_frames}
use Rattle.wire.specs.Frame.{bad, whole, next_frame}
use Rattle.wire.specs.Stream.{Spells}
use Rattle.talks.specs.Wants.{Learnt, learnt, FitsWant}
use Rattle.talks.specs.declared.want.Want.{Want}
use Rattle.talks.specs.declared.want.Want.TheVariants as want
use Rattle.talks.specs.declared.want.Reply.{Reply}
use Rattle.talks.specs.declared.want.Reply.TheVariants as reply
use Rattle.frame_talks.specs.FrameTalks.{wanted_for, bad_frame_said}

-- what is learnt where each event is wanted as it is, and answered
abbrev pub learnt_of : List Event → List Answer → List Learnt
learnt_of [] answers = []
learnt_of (e ∷ events) [] = []
learnt_of (e ∷ events) (a ∷ answers) = learnt (wanted_for e) (reply.Answer a) ∷ learnt_of events answers

-- ---- at the end

-- what is said last
abbrev pub last_said : Bool → List ℕ
last_said false = []
last_said true = bad_frame_said

-- the bytes spell these events, each was answered, and the frames of the answers were said; then a bad frame was answered, if one follows
pub record AnswersFrames (bytes : List ℕ) (xs : List Learnt) (said : List ℕ) (is_bad : Bool) (rest : List ℕ) : Type 0 where
  pub events : List Event
  pub answers : List Answer
  pub one_each : length answers ≡ length events
  pub spelled : Spells bytes events is_bad rest
  pub learnt_is : xs ≡ learnt_of events answers
  pub said_is : said ≡ all_frames events answers ++ last_said is_bad

-- ---- at any moment

-- the bytes begin with these events, and then there is this rest
abbrev pub BeginsWithFrames : List ℕ → List Event → List ℕ → Type 0
BeginsWithFrames bytes [] rest = rest ≡ bytes
BeginsWithFrames bytes (e ∷ events) rest = (size : ℕ) × (next_frame bytes ≡ whole e size) × BeginsWithFrames (drop size bytes) events rest

-- the bytes begin with events that were answered, and then with these more; the frames of the answers were said, and then this besides
pub record HasAnswered (bytes : List ℕ) (xs : List Learnt) (said rest : List ℕ) (more : List Event) (besides : List ℕ) : Type 0 where
  pub events : List Event
  pub answers : List Answer
  pub one_each : length answers ≡ length events
  pub begins : BeginsWithFrames bytes (events ++ more) rest
  pub learnt_is : xs ≡ learnt_of events answers
  pub said_is : said ≡ all_frames events answers ++ besides

-- how the conversation stands, by what it wants: the next frame; the answer to one event more; or its end, at a bad frame that was answered
pub data FrameTalkStands (bytes : List ℕ) (xs : List Learnt) (said rest : List ℕ) (w : Want) : Type 0 where
  listens : w ≡ want.Message → HasAnswered bytes xs said rest [] [] → FrameTalkStands bytes xs said rest w
  asks : (e : Event) → w ≡ wanted_for e → HasAnswered bytes xs said rest (e ∷ []) [] → FrameTalkStands bytes xs said rest w
  ends : w ≡ want.End false → next_frame rest ≡ bad → HasAnswered bytes xs said rest [] bad_frame_said → FrameTalkStands bytes xs said rest w

-- memory was refused: so it stood before that; it may have learnt one reply more, of which it has said nothing
pub record GaveUp (bytes : List ℕ) (xs : List Learnt) (said rest : List ℕ) : Type 0 where
  pub wanted : Want
  pub before : List Learnt
  pub stood : FrameTalkStands bytes before said rest wanted
  pub lost : (xs ≡ before) ⊎ ((r : Reply) × FitsWant wanted r × (xs ≡ before ++ learnt wanted r ∷ []))

abbrev pub StandsOrGaveUp : List ℕ → List Learnt → List ℕ → List ℕ → Want → Type 0
StandsOrGaveUp bytes xs said rest w = FrameTalkStands bytes xs said rest w ⊎ ((w ≡ want.OutOfMemory) × GaveUp bytes xs said rest)
