-- What a connection has done: the events that its bytes spell, their answers, and why it ended.
use Rattle.std.specs.Prelude.{◌≡◌, ◌≤◌, ◌-◌, ◌^◌, ◌⊎◌, ℕ, Bool, true, false, List, ◌++◌, length, codes, Option, Some, None}
use Rattle.std.specs.Io.KnownBytes.{Appends, Consumes, Keeps, IsAtEnd}
use Rattle.sql_types.specs.declared.answer.Answer.{Answer}
use Rattle.sql_types.specs.declared.answer.Answer.TheVariants.{Refused}
use Rattle.sql_types.specs.declared.event.Event.{Event}
use Rattle.sql_types.specs.declared.state.SqlState.TheVariants.{ProtocolViolation}
use Rattle.store.specs.Store.{StoreState, KeepsHistory}
use Rattle.abstract_database.specs.Runs.{ReadingRelation}
use Rattle.server.specs.declared.server.Server.{Server}
use Rattle.server.specs.Runs.{Runs}
use Rattle.wire.specs.Stream.{Spells}
use Rattle.wire.specs.AnswerFrames.{answer_frames}
use Rattle.wire.specs.Counts.{Rose}
use Rattle.wire.specs.declared.sink.Sink.{Ghosts}
use Rattle.wire.specs.Closing.{StandsWithinLimit, Closes}
use Rattle.wire.specs.declared.connection.End.{End}
use Rattle.wire.specs.declared.connection.End.TheVariants as end
use Rattle.wire.specs.Answers.{Known, AnswersAll, AnswersSome}

-- what a bad frame is answered, for session 0
abbrev pub bad_frame_text : List ℕ
bad_frame_text = codes "refused 08P01\n"

-- the bad frame was answered, and the frame of that answer was taken
pub record AnswersBadFrame {S X K : Type 0} (state : S → StoreState) (k : Ghosts K) (server : Server S X) (before after : K) : Type 0 where
  pub told : k.tells before (state server.store) 0 (Refused ProtocolViolation) after
  pub written : Appends (k.held before) (k.held after) (answer_frames 0 bad_frame_text)

-- the telling of that answer failed
pub record BreaksBadFrame {S X K : Type 0} (state : S → StoreState) (k : Ghosts K) (server : Server S X) (before after : K) : Type 0 where
  pub broken : k.breaks before (state server.store) 0 (Refused ProtocolViolation) after
  pub cause : Rose (k.failures before) (k.failures after)

-- nothing was done to the server but what events do, one after the other
abbrev pub HasRun : {S X : Type 0} → ReadingRelation → (S → StoreState) → Server S X → Server S X → Type 0
HasRun Reads state old new = (events : List Event) × (answers : List Answer) × Runs Reads state 0 old events answers new

-- ---- how far a connection has come

-- a reader at one moment: the bytes that it has left, where its contract names them, and how many reads have failed
pub record InputState : Type 0 where
  pub remaining : Known
  pub failures : ℕ

abbrev pub input_of : Known → ℕ → InputState
input_of remaining failures = record { remaining = remaining; failures = failures }

-- these bytes were read, and the events that they spell were answered; what is held back is no whole frame
pub record SoFar {S X K : Type 0} (Reads : ReadingRelation) (state : S → StoreState) (k : Ghosts K) (old : Server S X) (input : InputState) (before : K) (held : List ℕ) (new : Server S X) (left : InputState) (after : K) : Type 0 where
  pub bytes : List ℕ
  pub events : List Event
  pub read : Consumes input.remaining left.remaining bytes
  pub none_failed : left.failures ≡ input.failures
  pub spelled : Spells bytes events false held
  pub answered : AnswersAll Reads state k old events before new after
  pub history : KeepsHistory (state old.store) (state new.store)

-- a read failed, and gave nothing
abbrev pub FailsToRead : InputState → InputState → Type 0
FailsToRead before left = Keeps before.remaining left.remaining × Rose before.failures left.failures

-- one piece more was read, of no more bytes than are read at once
pub record OnePiece (before left : InputState) : Type 0 where
  pub piece : List ℕ
  pub short : length piece ≤ 8192
  pub read : Consumes before.remaining left.remaining piece

-- ---- how it ends

-- a bad frame follows the events that the bytes spell: these were answered, and then the bad frame
pub record AtBadFrame {S X K : Type 0} (Reads : ReadingRelation) (state : S → StoreState) (k : Ghosts K) (old : Server S X) (input : InputState) (before : K) (new : Server S X) (left : InputState) (after : K) : Type 0 where
  pub bytes : List ℕ
  pub events : List Event
  pub rest : List ℕ
  pub told : K
  pub read : Consumes input.remaining left.remaining bytes
  pub spelled : Spells bytes events true rest
  pub answered : AnswersAll Reads state k old events before new told
  pub refused : AnswersBadFrame state k new told after

-- the telling of the answer to one of these events failed, or to the bad frame that follows them all
abbrev pub AnswersUntaken : {S X K : Type 0} → ReadingRelation → (S → StoreState) → Ghosts K → Server S X → List Event → Bool → K → Server S X → K → Type 0
AnswersUntaken {S} {X} {K} Reads state k old events is_bad before new after =
    AnswersSome Reads state k old events before new after
    ⊎ ((is_bad ≡ true) × ((told : K) × AnswersAll Reads state k old events before new told × BreaksBadFrame state k new told after))

-- the events of all pieces but the last were answered; of the last one's the first were run, up to that the telling of whose answer failed
pub record AtWriterFault {S X K : Type 0} (Reads : ReadingRelation) (state : S → StoreState) (k : Ghosts K) (old : Server S X) (input : InputState) (before : K) (new : Server S X) (left : InputState) (after : K) : Type 0 where
  pub held : List ℕ
  pub server : Server S X
  pub unread : InputState
  pub told : K
  pub so_far : SoFar Reads state k old input before held server unread told
  pub last : OnePiece unread left
  pub events : List Event
  pub is_bad : Bool
  pub rest : List ℕ
  pub spelled : Spells (held ++ last.piece) events is_bad rest
  pub answered : AnswersUntaken Reads state k server events is_bad told new after

-- the events of all pieces but the last were answered, and none of the last one's was run
pub record AtMemoryFault {S X K : Type 0} (Reads : ReadingRelation) (state : S → StoreState) (k : Ghosts K) (old : Server S X) (input : InputState) (before : K) (new : Server S X) (left : InputState) (after : K) : Type 0 where
  pub held : List ℕ
  pub unread : InputState
  pub so_far : SoFar Reads state k old input before held new unread after
  pub last : OnePiece unread left

-- what was done, by why the connection ended
abbrev pub IsServed : {S X K : Type 0} → ReadingRelation → (S → StoreState) → Ghosts K → Server S X → InputState → K → End → Server S X → InputState → K → Type 0
IsServed Reads state k old input before end.Input new left after = (held : List ℕ) × SoFar Reads state k old input before held new left after × IsAtEnd left.remaining
IsServed Reads state k old input before end.BadFrame new left after = AtBadFrame Reads state k old input before new left after
IsServed Reads state k old input before end.Reader new left after = (held : List ℕ) × (unread : InputState) × SoFar Reads state k old input before held new unread after × FailsToRead unread left
IsServed Reads state k old input before end.ReadLimit new left after = (held : List ℕ) × (far : SoFar Reads state k old input before held new left after) × (2 ^ 64 - 1 ≤ length far.bytes)
IsServed Reads state k old input before end.Writer new left after = AtWriterFault Reads state k old input before new left after
IsServed Reads state k old input before end.Memory new left after = AtMemoryFault Reads state k old input before new left after

-- ---- a connection

-- its events were answered, and then the sessions that are open were closed
pub record IsConnection {S X K : Type 0} (Reads : ReadingRelation) (state : S → StoreState) (k : Ghosts K) (old : Server S X) (input : InputState) (before : K) (e : End) (new : Server S X) (left : InputState) (after : K) : Type 0 where
  pub server : Server S X
  pub history : KeepsHistory (state old.store) (state server.store)
  pub served : IsServed Reads state k old input before e server left after
  pub closed : StandsWithinLimit state old → Closes Reads state server new

-- ---- one piece

module _ {S X K : Type 0} (Reads : ReadingRelation) (state : S → StoreState) (k : Ghosts K) where
  -- a piece came where so much is held back: the events that both spell were answered, and the connection goes on or ends here
  abbrev pub ServesPiece : List ℕ → List ℕ → Server S X → K → Option End → List ℕ → Server S X → K → Type 0
  ServesPiece held piece old before None rest new after =
      (events : List Event) × Spells (held ++ piece) events false rest × AnswersAll Reads state k old events before new after
  ServesPiece held piece old before (Some end.BadFrame) rest new after =
      (events : List Event) × Spells (held ++ piece) events true rest
      × ((told : K) × AnswersAll Reads state k old events before new told × AnswersBadFrame state k new told after)
  ServesPiece held piece old before (Some end.Writer) rest new after =
      (events : List Event) × (is_bad : Bool) × Spells (held ++ piece) events is_bad rest × AnswersUntaken Reads state k old events is_bad before new after
  ServesPiece held piece old before (Some end.Memory) rest new after = (new ≡ old) × (after ≡ before)
  ServesPiece held piece old before (Some end.Input) rest new after = ⊥
  ServesPiece held piece old before (Some end.Reader) rest new after = ⊥
  ServesPiece held piece old before (Some end.ReadLimit) rest new after = ⊥
