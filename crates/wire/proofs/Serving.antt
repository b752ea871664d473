-- A connection goes on by one piece, or ends there.
use Rattle.std.proofs.Common.{◌≡◌, ◌∙◌, ◌≤◌, ◌+◌, ℕ, Bool, false, true, List, [], ◌∷◌, ◌++◌, length, Some, None, inl, inr, refl, length-append, arith}
use Rattle.std.proofs.KnownBytes.{Consumes-nil, Consumes-trans, Consumes-kept}
use Rattle.std.specs.Io.KnownBytes.{Consumes, Keeps}
use Rattle.sql_types.specs.declared.answer.Answer.{Answer}
use Rattle.sql_types.specs.declared.event.Event.{Event}
use Rattle.store.specs.Store.{StoreState, KeepsHistory}
use Rattle.store.proofs.Reading.{history_joined}
use Rattle.abstract_database.specs.Runs.{ReadingRelation}
use Rattle.server.specs.declared.server.Server.{Server}
use Rattle.server.specs.Runs.{Runs}
use Rattle.wire.specs.Frame.{next_frame, bad}
use Rattle.wire.specs.Stream.{Spells}
use Rattle.wire.specs.Counts.{Rose}
use Rattle.wire.proofs.NextFrames.{incomplete_bad}
use Rattle.wire.proofs.Streams.{rest_front, spells_on}
use Rattle.wire.specs.declared.connection.End.{End}
use Rattle.wire.specs.declared.connection.End.TheVariants as end
use Rattle.wire.specs.declared.sink.Sink.{Ghosts}
use Rattle.wire.specs.Telling.{answers_of}
use Rattle.wire.specs.Connection.{HasRun, InputState, SoFar, AnswersUntaken, IsServed, ServesPiece}
use Rattle.wire.proofs.Answered.{history_kept, none_answered, answered_joined}
use Rattle.server.proofs.Running.{runs_joined}

-- an end is none, or another
pub no_end : (e : End) → None ≡ Some e → ⊥
no_end e same = cc

pub end_is : (e f : End) → Some e ≡ Some f → e ≡ f
end_is e f same = cc

module _ {S X K : Type 0} (Reads : ReadingRelation) (state : S → StoreState) (k : Ghosts K) (old : Server S X) (input : InputState) (before : K) where
  -- nothing was read
  pub none_read : (held : List ℕ) → Spells [] [] false held → SoFar Reads state k old input before held old input before
  none_read held spelled = record { bytes = []; events = []; read = Consumes-nil input.remaining; none_failed = refl; spelled = spelled; answered = none_answered Reads state k old before; history = history_kept (state old.store) }

  -- the memory for a frame was refused
  pub never_begun : (held : List ℕ) → Spells [] [] false held → IsServed Reads state k old input before end.Memory old input before
  never_begun held spelled = record { held = held; unread = input; so_far = none_read held spelled; last = record { piece = []; short = omega arith; read = Consumes-nil input.remaining } }

  -- a read gave nothing
  pub still : (held : List ℕ) (server : Server S X) (unread left : InputState) (told : K) → SoFar Reads state k old input before held server unread told → Keeps unread.remaining left.remaining → left.failures ≡ unread.failures
      → SoFar Reads state k old input before held server left told
  still held server unread left told far keeps same =
      record { bytes = far.bytes; events = far.events; read = Consumes-kept input.remaining unread.remaining left.remaining far.bytes far.read keeps; none_failed = same ∙ far.none_failed; spelled = far.spelled; answered = far.answered; history = far.history }

  -- a read failed
  pub reader_fails : (held : List ℕ) (server : Server S X) (unread left : InputState) (told : K) → SoFar Reads state k old input before held server unread told
      → Keeps unread.remaining left.remaining → Rose unread.failures left.failures → IsServed Reads state k old input before end.Reader server left told
  reader_fails held server unread left told far keeps rose = (held, unread, far, (keeps, rose))

  -- the stream goes on
  pub open_yet : (held : List ℕ) (server : Server S X) (left : InputState) (told : K) → SoFar Reads state k old input before held server left told → next_frame held ≡ bad → ⊥
  open_yet held server left told far is = incomplete_bad (rest_front far.bytes far.events false held far.spelled) is

  pub goes_on : (held piece rest : List ℕ) (server new : Server S X) (unread left : InputState) (told after : K) → KeepsHistory (state server.store) (state new.store)
      → SoFar Reads state k old input before held server unread told → Consumes unread.remaining left.remaining piece → left.failures ≡ unread.failures → ServesPiece Reads state k held piece server told None rest new after
      → SoFar Reads state k old input before rest new left after
  goes_on held piece rest server new unread left told after history far read same it = record {
    bytes = far.bytes ++ piece;
    events = far.events ++ it.0;
    read = Consumes-trans input.remaining unread.remaining left.remaining far.bytes piece far.read read;
    none_failed = same ∙ far.none_failed;
    spelled = spells_on far.bytes piece far.events it.0 false held rest far.spelled it.1;
    answered = answered_joined Reads state k old server new far.events it.0 before told after far.history.sound far.answered it.2;
    history = history_joined (state old.store) (state server.store) (state new.store) far.history history;
  }

  -- so many reads, each of some bytes
  pub reads_more : (held piece rest : List ℕ) (server new : Server S X) (unread left : InputState) (told after : K) (count : ℕ) (history : KeepsHistory (state server.store) (state new.store))
      (far : SoFar Reads state k old input before held server unread told) (read : Consumes unread.remaining left.remaining piece) (same : left.failures ≡ unread.failures)
      (it : ServesPiece Reads state k held piece server told None rest new after) → count ≤ length far.bytes → 1 ≤ length piece
      → (more : SoFar Reads state k old input before rest new left after) × (count + 1 ≤ length more.bytes)
  unfolding goes_on
  reads_more held piece rest server new unread left told after count history far read same it counted some =
      (goes_on held piece rest server new unread left told after history far read same it, omega (arith, counted, some, length-append far.bytes piece))

  pub ends_here : (e : End) (held piece rest : List ℕ) (server new : Server S X) (unread left : InputState) (told after : K)
      → SoFar Reads state k old input before held server unread told → Consumes unread.remaining left.remaining piece → length piece ≤ 8192 → ServesPiece Reads state k held piece server told (Some e) rest new after
      → IsServed Reads state k old input before e new left after
  ends_here end.BadFrame held piece rest server new unread left told after far read short it = record {
    bytes = far.bytes ++ piece;
    events = far.events ++ it.0;
    rest = rest;
    told = it.2.0;
    read = Consumes-trans input.remaining unread.remaining left.remaining far.bytes piece far.read read;
    spelled = spells_on far.bytes piece far.events it.0 true held rest far.spelled it.1;
    answered = answered_joined Reads state k old server new far.events it.0 before told it.2.0 far.history.sound far.answered it.2.1;
    refused = it.2.2;
  }
  ends_here end.Writer held piece rest server new unread left told after far read short it = record {
    held = held;
    server = server;
    unread = unread;
    told = told;
    so_far = far;
    last = record { piece = piece; short = short; read = read };
    events = it.0;
    is_bad = it.1;
    rest = rest;
    spelled = it.2;
    answered = it.3;
  }
  ends_here end.Memory held piece rest server new unread left told after far read short it = record {
    held = held;
    unread = unread;
    so_far = rw (it.0, it.1) far;
    last = record { piece = piece; short = short; read = read };
  }
  ends_here end.Input held piece rest server new unread left told after far read short it = absurd it
  ends_here end.Reader held piece rest server new unread left told after far read short it = absurd it
  ends_here end.ReadLimit held piece rest server new unread left told after far read short it = absurd it

  -- a run, and then events of which not all answers were told
  run_untaken : (server new : Server S X) (es : List Event) (answers : List Answer) (fs : List Event) (is_bad : Bool) (told after : K) → ((state old.store).sound → (state server.store).sound) → Runs Reads state 0 old es answers server
      → AnswersUntaken Reads state k server fs is_bad told new after → HasRun Reads state old new
  run_untaken server new es answers fs is_bad told after lasts ran (inl it) =
      let run = it.some.done ++ it.some.last ∷ [] in
      let given = answers_of it.some.told ++ it.some.answer ∷ [] in
      (es ++ run, answers ++ given, runs_joined Reads state 0 old server new es run answers given lasts ran it.ran)
  run_untaken server new es answers fs is_bad told after lasts ran (inr all) =
      (es ++ fs, answers ++ all.1.1.answers, runs_joined Reads state 0 old server new es fs answers all.1.1.answers lasts ran all.1.1.ran)

  -- however it ends, what was done is a run
  pub ran_to : (e : End) (new : Server S X) (left : InputState) (after : K) → IsServed Reads state k old input before e new left after → HasRun Reads state old new
  ran_to end.Input new left after it = (it.1.events, it.1.answered.answers, it.1.answered.ran)
  ran_to end.BadFrame new left after it = (it.events, it.answered.answers, it.answered.ran)
  ran_to end.Reader new left after it = (it.2.events, it.2.answered.answers, it.2.answered.ran)
  ran_to end.ReadLimit new left after it = (it.1.events, it.1.answered.answers, it.1.answered.ran)
  ran_to end.Memory new left after it = (it.so_far.events, it.so_far.answered.answers, it.so_far.answered.ran)
  ran_to end.Writer new left after it = run_untaken it.server new it.so_far.events it.so_far.answered.answers it.events it.is_bad it.told after it.so_far.history.sound it.so_far.answered.ran it.answered
