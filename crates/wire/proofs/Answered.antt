-- Events that were answered, and others after them.
use Rattle.std.proofs.Common.{◌≡◌, ◌∙◌, ◌<◌, ◌≤◌, ◌+◌, ℕ, List, [], ◌∷◌, ◌++◌, length, take, drop, get_or, Result, Ok, Err, OnOk, OnErr, refl, sym, ap, subst, append_assoc, length-append, arith}
use Rattle.std.proofs.lemmas.List.{append-nil, take-append-drop, take_all, take_more}
use Rattle.std.proofs.KnownBytes.{Appends-nil, Appends-trans}
use Rattle.std.specs.Io.KnownBytes.{Appends}
use Rattle.sql_types.specs.declared.answer.Answer.{Answer}
use Rattle.sql_types.specs.declared.event.Event.{Event}
use Rattle.store.specs.Store.{StoreState, KeepsHistory}
use Rattle.abstract_database.specs.Runs.{ReadingRelation}
use Rattle.server.specs.declared.server.Server.{Server}
use Rattle.server.specs.Runs.{Runs}
use Rattle.server.proofs.Running.{runs_none, runs_more, runs_joined}
use Rattle.wire.specs.declared.sink.Sink.{Ghosts}
use Rattle.wire.specs.AnswerFrames.{answer_frames}
use Rattle.wire.specs.AnswerText.{answer_text}
use Rattle.wire.specs.Counts.{Rose, CountsFailure}
use Rattle.wire.specs.Telling.{session_of, Told, Tells, Breaks}
use Rattle.wire.proofs.Told.{each_none, each_joined, each_one}
use Rattle.wire.specs.Answers.{frames_of, all_frames, AnswersAll, AnswersSome}

frames_joined : (es fs : List Event) (answers others : List Answer) → length answers ≡ length es → all_frames (es ++ fs) (answers ++ others) ≡ all_frames es answers ++ all_frames fs others
frames_joined [] fs [] others same = refl
frames_joined [] fs (a ∷ answers) others same = absurd (omega (arith, same))
frames_joined (e ∷ es) fs [] others same = absurd (omega (arith, same))
frames_joined (e ∷ es) fs (a ∷ answers) others same =
    ap (λ (bytes : List ℕ). frames_of e a ++ bytes) (frames_joined es fs answers others (omega (arith, same))) ∙ sym (append_assoc (frames_of e a) (all_frames es answers) (all_frames fs others))

-- what holds in any case holds at an error
pub at_error : {T E : Type 0} (r : Result T E) (P : Type 0) → P → OnErr r P
at_error (Ok x) P p = tt
at_error (Err e) P p = p

-- what holds at Ok by two facts that do
pub on_ok_both : {T E : Type 0} (r : Result T E) (P Q R : Type 0) → (P → Q → R) → OnOk r P → OnOk r Q → OnOk r R
on_ok_both (Ok x) P Q R both p q = both p q
on_ok_both (Err e) P Q R both p q = tt

-- what holds at Err by a fact that does, and by what a failure raises
pub on_err_counted : {T E : Type 0} (r : Result T E) (a b : ℕ) (P R : Type 0) → (P → Rose a b → R) → OnErr r P → CountsFailure r a b → OnErr r R
on_err_counted (Ok x) a b P R then p counts = tt
on_err_counted (Err e) a b P R then p counts = then p counts

-- nothing is taken back where nothing is done
pub history_kept : (s : StoreState) → KeepsHistory s s
history_kept s = record { sound = λ is. is; fulls = omega arith; failures = omega arith; faults = omega arith }

-- the events up to the one at an index
pub events_to : (events : List Event) (at : ℕ) (e : Event) → at < length events → e ≡ get_or events at e → take (at + 1) events ≡ take at events ++ e ∷ []
events_to events at e inside is = take_more events at e inside ∙ ap (λ x. take at events ++ x ∷ []) (sym is)

-- the events up to the one at an index, and those after it
events_split : (events : List Event) (at : ℕ) (e : Event) → at < length events → e ≡ get_or events at e → events ≡ take at events ++ e ∷ drop (at + 1) events
events_split events at e inside is =
    sym (take-append-drop (at + 1) events) ∙ ap (λ (xs : List Event). xs ++ drop (at + 1) events) (events_to events at e inside is)
    ∙ append_assoc (take at events) (e ∷ []) (drop (at + 1) events)

module _ {S X K : Type 0} (Reads : ReadingRelation) (state : S → StoreState) (k : Ghosts K) where
  pub none_answered : (server : Server S X) (sink : K) → AnswersAll Reads state k server [] sink server sink
  none_answered server sink =
      record { answers = []; one_each = refl; ran = runs_none Reads state 0 server; tells = each_none Reads state k server sink; written = Appends-nil (k.held sink) }

  pub all_of_none : (server : Server S X) (events : List Event) (sink : K) → (1 ≤ length events → ⊥) → AnswersAll Reads state k server events sink server sink
  all_of_none server [] sink none = none_answered server sink
  all_of_none server (e ∷ events) sink none = absurd (none (omega arith))

  -- an event whose answer was told
  one_answered : (old new : Server S X) (e : Event) (t : Told) (before after : K) → Tells Reads state k old before e t new after → Appends (k.held before) (k.held after) (frames_of e t.answer)
      → AnswersAll Reads state k old (e ∷ []) before new after
  one_answered old new e t before after one written = record {
    answers = t.answer ∷ [];
    one_each = refl;
    ran = runs_more Reads state 0 old old new [] [] e t.answer (λ is. is) (runs_none Reads state 0 old) one.step;
    tells = each_one Reads state k old new before after e t one;
    written = rw (append-nil (frames_of e t.answer)) written;
  }

  pub answered_joined : (first mid new : Server S X) (es fs : List Event) (before between after : K) → ((state first.store).sound → (state mid.store).sound)
      → AnswersAll Reads state k first es before mid between → AnswersAll Reads state k mid fs between new after → AnswersAll Reads state k first (es ++ fs) before new after
  answered_joined first mid new es fs before between after lasts past more =
      let these = past.one_each in
      let those = more.one_each in
      record {
        answers = past.answers ++ more.answers;
        one_each = length-append past.answers more.answers ∙ sym (length-append es fs ∙ sym (ap (λ n. n + length more.answers) these ∙ ap (λ n. length es + n) those));
        ran = runs_joined Reads state 0 first mid new es fs past.answers more.answers lasts past.ran more.ran;
        tells = each_joined Reads state k first mid new before between after es fs past.answers more.answers past.tells more.tells;
        written = subst (λ (bytes : List ℕ). Appends (k.held before) (k.held after) bytes) (sym (frames_joined es fs past.answers more.answers these))
            (Appends-trans (k.held before) (k.held between) (k.held after) (all_frames es past.answers) (all_frames fs more.answers) past.written more.written);
      }

  -- one event more
  pub answered_more : (first mid new : Server S X) (es : List Event) (e : Event) (t : Told) (before between after : K) → ((state first.store).sound → (state mid.store).sound)
      → AnswersAll Reads state k first es before mid between → Tells Reads state k mid between e t new after → Appends (k.held between) (k.held after) (frames_of e t.answer)
      → AnswersAll Reads state k first (es ++ e ∷ []) before new after
  answered_more first mid new es e t before between after lasts past one written =
      answered_joined first mid new es (e ∷ []) before between after lasts past (one_answered mid new e t between after one written)

  -- one event more, the telling of whose answer failed
  pub begun_with : (first mid new : Server S X) (events : List Event) (at : ℕ) (e : Event) (answer : Answer) (before between after : K) → ((state first.store).sound → (state mid.store).sound)
      → at < length events → e ≡ get_or events at e → AnswersAll Reads state k first (take at events) before mid between → Breaks Reads state k mid between e answer new after
      → AnswersSome Reads state k first events before new after
  begun_with first mid new events at e answer before between after lasts inside is past breaks =
      let ran = runs_more Reads state 0 first mid new (take at events) past.answers e answer lasts past.ran breaks.step in
      let whole : AnswersSome Reads state k first (take at events ++ e ∷ drop (at + 1) events) before new after = record {
        some = record {
          done = take at events;
          last = e;
          others = drop (at + 1) events;
          split = refl;
          told = past.tells.told;
          server = mid;
          between = between;
          all = past.tells.all;
          answer = answer;
          breaks = breaks;
        };
        ran = subst (λ (told : List Answer). Runs Reads state 0 first (take at events ++ e ∷ []) (told ++ answer ∷ []) new) past.tells.answers_are ran;
      } in
      subst (λ (es : List Event). AnswersSome Reads state k first es before new after) (sym (events_split events at e inside is)) whole

  -- the last event, whose answer was told where all goes out, or not
  pub answered_to_end : {T E : Type 0} (result : Result T E) (first mid new : Server S X) (events : List Event) (at last : ℕ) (e : Event) (before between after : K) → ((state first.store).sound → (state mid.store).sound)
      → length events ≡ last + 1 → last ≡ at → e ≡ get_or events last e → ((session : ℕ) (answer : Answer) → k.spelled session answer ≡ answer_frames session (answer_text answer))
      → AnswersAll Reads state k first (take at events) before mid between → OnOk result ((t : Told) × Tells Reads state k mid between e t new after) → OnOk result (AnswersAll Reads state k first events before new after)
  answered_to_end (Ok x) first mid new events at last e before between after lasts whole here is spelled past told =
      let taken = subst (λ (bytes : List ℕ). Appends (k.held between) (k.held after) bytes) (spelled (session_of e) told.0.answer) told.1.taken in
      let more = answered_more first mid new (take at events) e told.0 before between after lasts past told.1 taken in
      let inside : at < length events = omega (arith, whole, here) in
      let to_end : take (at + 1) events ≡ events = take_all (at + 1) events (omega (arith, whole, here)) in
      let at_end = subst (λ (n : ℕ). e ≡ get_or events n e) here is in
      subst (λ (es : List Event). AnswersAll Reads state k first es before new after) (sym (events_to events at e inside at_end) ∙ to_end) more
  answered_to_end (Err x) first mid new events at last e before between after lasts whole here is spelled past told = tt

  pub broken_at_end : {T E : Type 0} (result : Result T E) (first mid new : Server S X) (events : List Event) (at last : ℕ) (e : Event) (before between after : K) → ((state first.store).sound → (state mid.store).sound)
      → length events ≡ last + 1 → last ≡ at → e ≡ get_or events last e
      → AnswersAll Reads state k first (take at events) before mid between → OnErr result ((answer : Answer) × Breaks Reads state k mid between e answer new after) → OnErr result (AnswersSome Reads state k first events before new after)
  broken_at_end (Ok x) first mid new events at last e before between after lasts whole here is past broken = tt
  broken_at_end (Err x) first mid new events at last e before between after lasts whole here is past broken =
      begun_with first mid new events at e broken.0 before between after lasts (omega (arith, whole, here)) (subst (λ (n : ℕ). e ≡ get_or events n e) here is) past broken.1
