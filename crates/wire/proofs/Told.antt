-- Events whose answers were told, and one more.
use Rattle.std.proofs.Common.{◌≡◌, ℕ, List, [], ◌∷◌, ◌++◌, Result, Ok, Err, OnOk, OnErr, refl, ap, subst}
use Rattle.std.specs.Io.KnownBytes.{Appends}
use Rattle.sql_types.specs.declared.answer.Answer.{Answer}
use Rattle.sql_types.specs.declared.event.Event.{Event}
use Rattle.store.specs.Store.{StoreState, KeepsHistory}
use Rattle.abstract_database.specs.Runs.{ReadingRelation}
use Rattle.server.specs.declared.server.Server.{Server}
use Rattle.server.specs.Runs.{Steps}
use Rattle.wire.specs.Counts.{CountsFailure}
use Rattle.wire.specs.declared.sink.Sink.{Ghosts}
use Rattle.wire.specs.Telling.{session_of, Told, answers_of, Tells, Breaks, TellsAll, TellsEach, TellsSome}

answers_joined : (told more : List Told) → answers_of (told ++ more) ≡ answers_of told ++ answers_of more
answers_joined [] more = refl
answers_joined (t ∷ told) more = ap (λ (answers : List Answer). t.answer ∷ answers) (answers_joined told more)

module _ {S X K : Type 0} (Reads : ReadingRelation) (state : S → StoreState) (k : Ghosts K) where
  -- an event was carried out, and then its answer told
  module _ (old new : Server S X) (before after : K) (e : Event) (answer : Answer) (store : S) (session : ℕ) (step : Steps Reads state 0 old e answer new) (history : KeepsHistory (state old.store) (state new.store))
      (is_store : store ≡ new.store) (is_session : session ≡ session_of e) where
    pub told_then : {T E : Type 0} (result : Result T E) → OnOk result (k.tells before (state store) session answer after) → OnOk result (Appends (k.held before) (k.held after) (k.spelled session answer))
        → OnOk result ((t : Told) × Tells Reads state k old before e t new after)
    told_then (Ok x) told taken = (
      record { answer = answer; moment = (state new.store).time.moment },
      record {
        step = step;
        history = history;
        moment = refl;
        told = subst (λ (n : ℕ). k.tells before (state new.store) n answer after) is_session (subst (λ (s : S). k.tells before (state s) session answer after) is_store told);
        taken = subst (λ (n : ℕ). Appends (k.held before) (k.held after) (k.spelled n answer)) is_session taken;
      },
    )
    told_then (Err x) told taken = tt

    -- or its telling failed
    pub broken_then : {T E : Type 0} (result : Result T E) → OnErr result (k.breaks before (state store) session answer after) → CountsFailure result (k.failures before) (k.failures after)
        → OnErr result ((given : Answer) × Breaks Reads state k old before e given new after)
    broken_then (Ok x) broken counts = tt
    broken_then (Err x) broken counts = (
      answer,
      record {
        step = step;
        history = history;
        broken = subst (λ (n : ℕ). k.breaks before (state new.store) n answer after) is_session (subst (λ (s : S). k.breaks before (state s) session answer after) is_store broken);
        cause = counts;
      },
    )

  -- events that were told, and others after them
  told_joined : (old mid new : Server S X) (before between after : K) (es fs : List Event) (told more : List Told)
      → TellsAll Reads state k old before es told mid between → TellsAll Reads state k mid between fs more new after → TellsAll Reads state k old before (es ++ fs) (told ++ more) new after
  told_joined old mid new before between after [] fs [] more past next =
      subst (λ (s : Server S X). TellsAll Reads state k s before fs more new after) past.0 (subst (λ (l : K). TellsAll Reads state k mid l fs more new after) past.1 next)
  told_joined old mid new before between after (e ∷ es) fs (t ∷ told) more past next =
      (past.0, past.1, past.2, told_joined past.0 mid new past.1 between after es fs told more past.3 next)
  told_joined old mid new before between after [] fs (t ∷ told) more past next = absurd past
  told_joined old mid new before between after (e ∷ es) fs [] more past next = absurd past

  pub each_none : (server : Server S X) (sink : K) → TellsEach Reads state k server sink [] [] server sink
  each_none server sink = record { told = []; answers_are = refl; all = (refl, refl) }

  pub each_one : (old new : Server S X) (before after : K) (e : Event) (t : Told) → Tells Reads state k old before e t new after → TellsEach Reads state k old before (e ∷ []) (t.answer ∷ []) new after
  each_one old new before after e t one = record { told = t ∷ []; answers_are = refl; all = (new, after, one, (refl, refl)) }

  pub each_joined : (old mid new : Server S X) (before between after : K) (es fs : List Event) (answers others : List Answer)
      → TellsEach Reads state k old before es answers mid between → TellsEach Reads state k mid between fs others new after → TellsEach Reads state k old before (es ++ fs) (answers ++ others) new after
  each_joined old mid new before between after es fs answers others past next = record {
    told = past.told ++ next.told;
    answers_are = rw (past.answers_are, next.answers_are, answers_joined past.told next.told) refl;
    all = told_joined old mid new before between after es fs past.told next.told past.all next.all;
  }

  -- one event more
  pub each_more : (old mid new : Server S X) (before between after : K) (es : List Event) (answers : List Answer) (e : Event) (t : Told)
      → TellsEach Reads state k old before es answers mid between → Tells Reads state k mid between e t new after → TellsEach Reads state k old before (es ++ e ∷ []) (answers ++ t.answer ∷ []) new after
  each_more old mid new before between after es answers e t past one =
      each_joined old mid new before between after es (e ∷ []) answers (t.answer ∷ []) past (each_one mid new between after e t one)

  -- one last event more, the telling of whose answer failed
  some_broken : (old mid new : Server S X) (before between after : K) (es : List Event) (answers : List Answer) (e : Event) (answer : Answer)
      → TellsEach Reads state k old before es answers mid between → Breaks Reads state k mid between e answer new after → TellsSome Reads state k old before (es ++ e ∷ []) new after
  some_broken old mid new before between after es answers e answer past breaks = record {
    done = es;
    last = e;
    others = [];
    split = refl;
    told = past.told;
    server = mid;
    between = between;
    all = past.all;
    answer = answer;
    breaks = breaks;
  }

  -- with nothing after it
  pub last_broken : (old mid new : Server S X) (before between after : K) (es : List Event) (answers : List Answer) (e : Event) (answer : Answer)
      → TellsEach Reads state k old before es answers mid between → Breaks Reads state k mid between e answer new after
      → (some : TellsSome Reads state k old before (es ++ e ∷ []) new after) × (some.others ≡ []) × (answers ++ answer ∷ [] ≡ answers_of some.told ++ some.answer ∷ [])
  unfolding some_broken
  last_broken old mid new before between after es answers e answer past breaks =
      (some_broken old mid new before between after es answers e answer past breaks, refl, ap (λ (given : List Answer). given ++ answer ∷ []) past.answers_are)
