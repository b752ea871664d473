-- Events that a server answers, and the frames of the answers.
use Rattle.std.specs.Prelude.{◌≡◌, ℕ, List, [], ◌∷◌, ◌++◌, length, Option}
use Rattle.std.specs.Io.KnownBytes.{Appends}
use Rattle.sql_types.specs.declared.answer.Answer.{Answer}
use Rattle.sql_types.specs.declared.event.Event.{Event}
use Rattle.store.specs.Store.{StoreState}
use Rattle.abstract_database.specs.Runs.{ReadingRelation}
use Rattle.server.specs.declared.server.Server.{Server}
use Rattle.server.specs.Runs.{Runs}
use Rattle.wire.specs.AnswerFrames.{answer_frames}
use Rattle.wire.specs.AnswerText.{answer_text}
use Rattle.wire.specs.declared.sink.Sink.{Ghosts}
use Rattle.wire.specs.Telling.{session_of, answers_of, TellsEach, TellsSome}

-- the bytes that a reader has left or a sink has taken, where its contract names them
abbrev pub Known : Type 0
Known = Option (List ℕ)

-- the answer to an event goes out in frames of the event's session
abbrev pub frames_of : Event → Answer → List ℕ
frames_of e answer = answer_frames (session_of e) (answer_text answer)

-- the frames of each answer, one after the other
abbrev pub all_frames : List Event → List Answer → List ℕ
all_frames [] answers = []
all_frames (e ∷ events) [] = []
all_frames (e ∷ events) (answer ∷ answers) = frames_of e answer ++ all_frames events answers

-- the events were run, one after the other, each answer was told after its step, and the frames of the answers were taken
pub record AnswersAll {S X K : Type 0} (Reads : ReadingRelation) (state : S → StoreState) (k : Ghosts K) (old : Server S X) (events : List Event) (before : K) (new : Server S X) (after : K) : Type 0 where
  pub answers : List Answer
  pub one_each : length answers ≡ length events
  pub ran : Runs Reads state 0 old events answers new
  pub tells : TellsEach Reads state k old before events answers new after
  pub written : Appends (k.held before) (k.held after) (all_frames events answers)

-- the first events were run, at least one, and all answers but the last were told; the telling of that one failed
pub record AnswersSome {S X K : Type 0} (Reads : ReadingRelation) (state : S → StoreState) (k : Ghosts K) (old : Server S X) (events : List Event) (before : K) (new : Server S X) (after : K) : Type 0 where
  pub some : TellsSome Reads state k old before events new after
  pub ran : Runs Reads state 0 old (some.done ++ some.last ∷ []) (answers_of some.told ++ some.answer ∷ []) new
