-- What the run of a script is: the events of its lines, their answers, and what is told of these.
use Rattle.std.specs.Prelude.{◌≡◌, ◌⊎◌, ◌==◌, ◌<◌, ◌+◌, ℕ, true, false, List, [], ◌∷◌, ◌++◌, length, take, drop, flat_map, option_to_list, Option, Some, None}
use Rattle.std.specs.List.{slice_split}
use Rattle.std.specs.Io.KnownBytes.{Appends, Keeps}
use Rattle.sql_types.specs.declared.answer.Answer.{Answer}
use Rattle.sql_types.specs.declared.event.Event.{Event}
use Rattle.store.specs.Store.{StoreState}
use Rattle.abstract_database.specs.Runs.{ReadingRelation}
use Rattle.server.specs.declared.server.Server.{Server}
use Rattle.server.specs.Runs.{Steps, Runs}
use Rattle.wire.specs.AnswerText.{answer_text}
use Rattle.wire.specs.Counts.{Rose}
use Rattle.wire.specs.declared.script_run.ScriptEnd.{ScriptEnd}
use Rattle.wire.specs.declared.script_run.ScriptEnd.TheVariants as end
use Rattle.wire.specs.ScriptLine.{Request, Spells, IsInvalid}
use Rattle.wire.specs.SessionNames.{Names, event_for, names_after}
use Rattle.wire.specs.Closing.{StandsWithinLimit, Closes}
use Rattle.wire.specs.declared.sink.Sink.{Ghosts}
use Rattle.wire.specs.Telling.{Told, answers_of, Tells, Breaks, TellsEach, TellsSome}

-- ---- the lines of a script, and the events that they request

-- the lines of a script, which newlines separate
abbrev pub lines_of : List ℕ → List (List ℕ)
lines_of script = slice_split (λ byte. byte == 10) script

-- the lines request these events, in their order, and name these sessions
abbrev pub Requests : Names → List (List ℕ) → List Event → Names → Type 0
Requests names [] events after = (events ≡ []) × (after ≡ names)
Requests names (line ∷ lines) events after =
    (r : Request) × Spells line r × ((rest : List Event) × (events ≡ option_to_list (event_for names r) ++ rest) × Requests (names_after names r) lines rest after)

-- ---- what is told

-- the bytes that a writer or a sink holds, where its contract names them
abbrev pub Known : Type 0
Known = Option (List ℕ)

-- the text of answers, one after the other
abbrev pub answers_text : List Answer → List ℕ
answers_text answers = flat_map answer_text answers

-- the texts of the answers were taken, unless the sink failed
abbrev pub Writes : ScriptEnd → Known → List Answer → Known → Type 0
Writes end.Writer before answers after = Unit {0}
Writes _ before answers after = Appends before after (answers_text answers)

-- ---- how a script ends

-- why it ends once n lines were run: they are all, the next one is invalid or had no memory, the server has stopped, the sink failed
abbrev pub EndsAfter : List (List ℕ) → ℕ → ScriptEnd → Type 0
EndsAfter lines n end.Done = n ≡ length lines
EndsAfter lines n (end.BadLine number) = (line : List ℕ) × (rest : List (List ℕ)) × (drop n lines ≡ line ∷ rest) × (number ≡ n + 1) × IsInvalid line
EndsAfter lines n end.Stopped = Unit {0}
EndsAfter lines n end.Writer = Unit {0}
EndsAfter lines n end.Memory = n < length lines

-- a server that has answered an event works still
abbrev pub WorksAfter : {S X : Type 0} → List Event → Server S X → Type 0
WorksAfter [] server = Unit {0}
WorksAfter (e ∷ events) server = server.stopped ≡ false

-- the last event was answered by a server that worked until then
pub record EndsWithEvent {S X : Type 0} (Reads : ReadingRelation) (state : S → StoreState) (old : Server S X) (events : List Event) (answers : List Answer) (new : Server S X) : Type 0 where
  pub before : List Event
  pub told : List Answer
  pub server : Server S X
  pub last : Event
  pub answer : Answer
  pub events_are : events ≡ before ++ last ∷ []
  pub answers_are : answers ≡ told ++ answer ∷ []
  pub ran : Runs Reads state 0 old before told server
  pub works : WorksAfter before server
  pub step : Steps Reads state 0 server last answer new

-- the script ends with the event at which the server stops, or whose answer the sink did not take, and else the server works
abbrev pub EndsAt : {S X : Type 0} → ReadingRelation → (S → StoreState) → ScriptEnd → Server S X → List Event → List Answer → Server S X → Type 0
EndsAt Reads state end.Stopped old events answers new = EndsWithEvent Reads state old events answers new × (new.stopped ≡ true)
EndsAt Reads state end.Writer old events answers new = EndsWithEvent Reads state old events answers new
EndsAt Reads state _ old events answers new = WorksAfter events new

-- each answer was told once its event was carried out; or the telling of the last one failed
abbrev pub TellsTo : {S X K : Type 0} → ReadingRelation → (S → StoreState) → Ghosts K → ScriptEnd → Server S X → K → List Event → List Answer → Server S X → K → Type 0
TellsTo Reads state k end.Writer old before events answers new after =
    (some : TellsSome Reads state k old before events new after) × (some.others ≡ []) × (answers ≡ answers_of some.told ++ some.answer ∷ [])
TellsTo Reads state k _ old before events answers new after = TellsEach Reads state k old before events answers new after

-- ---- one event

module _ {S X K : Type 0} (Reads : ReadingRelation) (state : S → StoreState) (k : Ghosts K) where
  -- the event was answered by a step of the server, and then the answer told, whose text was taken
  abbrev pub AnswersEvent : Server S X → Event → K → Server S X → K → Type 0
  AnswersEvent old e before new after = (t : Told) × Tells Reads state k old before e t new after × Appends (k.held before) (k.held after) (answer_text t.answer)

  -- the event was run, and the script goes on or ends here: the server has stopped, or the sink failed
  abbrev pub RunsEvent : Server S X → Event → K → Option ScriptEnd → Server S X → K → Type 0
  RunsEvent old e before None new after = AnswersEvent old e before new after × (new.stopped ≡ false)
  RunsEvent old e before (Some end.Stopped) new after = AnswersEvent old e before new after × (new.stopped ≡ true)
  RunsEvent old e before (Some end.Writer) new after = (answer : Answer) × Breaks Reads state k old before e answer new after
  RunsEvent old e before (Some end.Done) new after = ⊥
  RunsEvent old e before (Some (end.BadLine number)) new after = ⊥
  RunsEvent old e before (Some end.Memory) new after = ⊥

-- ---- one line

-- how far a script has come between two lines: the names so far, the server, and the sink
pub record Progress (S X K : Type 0) : Type 0 where
  pub names : Names
  pub server : Server S X
  pub sink : K

abbrev pub progress_of : {S X K : Type 0} → Names → Server S X → K → Progress S X K
progress_of names server sink = record { names = names; server = server; sink = sink }

-- neither the server nor the sink was used
abbrev pub IsUnused : {S X K : Type 0} → Progress S X K → Progress S X K → Type 0
IsUnused old new = (new.server ≡ old.server) × (new.sink ≡ old.sink)

module _ {S X K : Type 0} (Reads : ReadingRelation) (state : S → StoreState) (k : Ghosts K) where
  -- a line that requests no event uses neither server nor sink, and the script goes on
  abbrev pub RunsRequested : Progress S X K → Option Event → Option ScriptEnd → Progress S X K → Type 0
  RunsRequested old None result new = (result ≡ None) × IsUnused old new
  RunsRequested old (Some e) result new = RunsEvent Reads state k old.server e old.sink result new.server new.sink

  -- the line spells a request, which was run
  abbrev pub RunsRequest : Progress S X K → List ℕ → Option ScriptEnd → Progress S X K → Type 0
  RunsRequest old line result new =
      (r : Request) × Spells line r × (new.names ≡ names_after old.names r) × RunsRequested old (event_for old.names r) result new

  -- the line of this number was run, and the script goes on or ends here: as its event ends, at an invalid line, or since memory was refused
  abbrev pub RunsLine : Progress S X K → List ℕ → ℕ → Option ScriptEnd → Progress S X K → Type 0
  RunsLine old line number None new = RunsRequest old line None new
  RunsLine old line number (Some (end.BadLine at)) new = (at ≡ number) × IsInvalid line × IsUnused old new
  RunsLine old line number (Some end.Memory) new = IsUnused old new
  RunsLine old line number (Some e) new = RunsRequest old line (Some e) new

-- ---- all lines

-- the first lines were run: the events that they request are answered by a run of the server, and the answers are told, each after its step
pub record RunsLines {S X K : Type 0} (Reads : ReadingRelation) (state : S → StoreState) (k : Ghosts K) (old : Server S X) (lines : List (List ℕ)) (before : K) (e : ScriptEnd) (new : Server S X) (after : K) : Type 0 where
  pub count : ℕ
  pub events : List Event
  pub answers : List Answer
  pub names : Names
  pub requested : Requests [] (take count lines) events names
  pub ran : Runs Reads state 0 old events answers new
  pub tells : TellsTo Reads state k e old before events answers new after
  pub written : Writes e (k.held before) answers (k.held after)
  pub ends : EndsAfter lines count e
  pub ends_at : EndsAt Reads state e old events answers new

-- ---- a script

-- a script ends as its lines did, and the sink stays as they left it
abbrev pub EndsLikeLines : {K : Type 0} → Ghosts K → ScriptEnd → K → ScriptEnd → K → Type 0
EndsLikeLines k ending told e after = (e ≡ ending) × (k.failures after ≡ k.failures told) × k.stays told after

-- the sink failed after the lines, and this is all that has changed of it
abbrev pub EndsBySink : {K : Type 0} → Ghosts K → K → ScriptEnd → K → Type 0
EndsBySink k told e after = (e ≡ end.Writer) × Rose (k.failures told) (k.failures after) × k.fails told after

-- a script ends as its lines did, or the sink failed after them
abbrev pub EndsAsLines : {K : Type 0} → Ghosts K → ScriptEnd → K → ScriptEnd → K → Type 0
EndsAsLines k ending told e after = EndsLikeLines k ending told e after ⊎ EndsBySink k told e after

-- its lines were run, then the sessions that are open were closed, and the script ended as its lines did, or the sink failed at last
pub record IsScriptRun {S X K : Type 0} (Reads : ReadingRelation) (state : S → StoreState) (k : Ghosts K) (old : Server S X) (lines : List (List ℕ)) (before : K) (e : ScriptEnd) (new : Server S X) (after : K) : Type 0 where
  pub ending : ScriptEnd
  pub server : Server S X
  pub told : K
  pub ran : RunsLines Reads state k old lines before ending server told
  pub closed : StandsWithinLimit state old → Closes Reads state server new
  pub kept : Keeps (k.held told) (k.held after)
  pub ends : EndsAsLines k ending told e after
