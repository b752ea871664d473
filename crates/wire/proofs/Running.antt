-- The run of a script goes on by one line, or ends there.
use Rattle.std.proofs.Common.{◌≡◌, ◌∙◌, ◌<◌, ◌+◌, ℕ, suc, false, List, [], ◌∷◌, ◌++◌, length, take, drop, option_to_list, Option, Some, None, refl, sym, ap, subst, append_assoc, get_or, drop-cons, arith}
use Rattle.std.specs.Io.KnownBytes.{Appends}
use Rattle.std.proofs.lemmas.Grind.{flat_map-append}
use Rattle.std.proofs.lemmas.List.{append-nil, take_more}
use Rattle.sql_types.specs.declared.answer.Answer.{Answer}
use Rattle.sql_types.specs.declared.event.Event.{Event}
use Rattle.store.specs.Store.{StoreState, KeepsHistory}
use Rattle.abstract_database.specs.Runs.{ReadingRelation}
use Rattle.server.specs.declared.server.Server.{Server}
use Rattle.server.specs.Runs.{Steps, Runs}
use Rattle.server.proofs.Running.{runs_none, runs_more}
use Rattle.wire.specs.AnswerText.{answer_text}
use Rattle.wire.specs.declared.script_run.ScriptEnd.{ScriptEnd}
use Rattle.wire.specs.declared.script_run.ScriptEnd.TheVariants as end
use Rattle.wire.specs.ScriptLine.{Request, Spells}
use Rattle.wire.specs.SessionNames.{Names, event_for, names_after}
use Rattle.wire.specs.declared.sink.Sink.{Ghosts}
use Rattle.wire.specs.Telling.{TellsEach}
use Rattle.wire.specs.ScriptRun.{Known, Progress, answers_text, Requests, RunsEvent, RunsRequested, RunsLine, Writes, WorksAfter, EndsAfter, EndsWithEvent, EndsAt, TellsTo, RunsLines}
use Rattle.wire.proofs.Told.{each_none, each_more, last_broken}

requests_more : (names : Names) (lines : List (List ℕ)) (events : List Event) (mid : Names) (line : List ℕ) (r : Request)
    → Requests names lines events mid → Spells line r → Requests names (lines ++ line ∷ []) (events ++ option_to_list (event_for mid r)) (names_after mid r)
requests_more names [] events mid line r before spelled =
    (r, spelled, ([], rw (before.0, before.1) (sym (append-nil (option_to_list (event_for names r)))), (refl, ap (λ n. names_after n r) before.1)))
requests_more names (x ∷ lines) events mid line r before spelled = (
  before.0,
  before.1,
  (
    before.2.0 ++ option_to_list (event_for mid r),
    ap (λ es. es ++ option_to_list (event_for mid r)) before.2.1 ∙ append_assoc (option_to_list (event_for names before.0)) before.2.0 (option_to_list (event_for mid r)),
    requests_more (names_after names before.0) lines before.2.0 mid line r before.2.2 spelled,
  ),
)

writes_none : (known : Known) → Appends known known []
writes_none None = tt
writes_none (Some xs) = sym (append-nil xs)

writes_more : (a b c : Known) (xs ys : List ℕ) → Appends a b xs → Appends b c ys → Appends a c (xs ++ ys)
writes_more None b c xs ys p q = tt
writes_more (Some old) None c xs ys p q = absurd p
writes_more (Some old) (Some mid) None xs ys p q = absurd q
writes_more (Some old) (Some mid) (Some now) xs ys p q = q ∙ ap (λ z. z ++ ys) p ∙ append_assoc old xs ys

answers_more : (answers : List Answer) (a : Answer) → answers_text answers ++ answer_text a ≡ answers_text (answers ++ a ∷ [])
answers_more answers a = sym (flat_map-append answer_text answers (a ∷ []) ∙ ap (λ z. answers_text answers ++ z) (append-nil (answer_text a)))

answered_more : (before mid after : Known) (answers : List Answer) (a : Answer) → Appends before mid (answers_text answers) → Appends mid after (answer_text a) → Appends before after (answers_text (answers ++ a ∷ []))
answered_more before mid after answers a first last = subst (λ z. Appends before after z) (answers_more answers a) (writes_more before mid after (answers_text answers) (answer_text a) first last)

works_after : {S X : Type 0} (events : List Event) (server : Server S X) → server.stopped ≡ false → WorksAfter events server
works_after [] server works = tt
works_after (e ∷ events) server works = works

-- nothing is taken back where nothing is done
pub history_kept : (s : StoreState) → KeepsHistory s s
history_kept s = record { sound = λ is. is; fulls = omega arith; failures = omega arith; faults = omega arith }

some_is_not_none : {A : Type 0} (x : A) → Some x ≡ None → ⊥
some_is_not_none x is = cc

-- the line after the first n
record IsLineAt (lines : List (List ℕ)) (n : ℕ) (line : List ℕ) : Type 0 where
  within : n < length lines
  more : take (n + 1) lines ≡ take n lines ++ line ∷ []
  rest : List (List ℕ)
  after : drop n lines ≡ line ∷ rest

line_at : (lines : List (List ℕ)) (n : ℕ) (line : List ℕ) → n < length lines → line ≡ get_or lines n [] → IsLineAt lines n line
line_at lines n line lt is = record { within = lt; more = rw is (take_more lines n [] lt); rest = drop (suc n) lines; after = rw is (drop-cons lines n [] lt) }

-- these lines were run, and so far has the script come
pub record SoFar {S X K : Type 0} (Reads : ReadingRelation) (state : S → StoreState) (k : Ghosts K) (old : Server S X) (lines : List (List ℕ)) (before : K) (now : Progress S X K) : Type 0 where
  pub events : List Event
  pub answers : List Answer
  pub requested : Requests [] lines events now.names
  pub ran : Runs Reads state 0 old events answers now.server
  pub tells : TellsEach Reads state k old before events answers now.server now.sink
  pub written : Appends (k.held before) (k.held now.sink) (answers_text answers)
  pub works : WorksAfter events now.server

-- the run with what a line requested, answered and told
record More {S X K : Type 0} (Reads : ReadingRelation) (state : S → StoreState) (k : Ghosts K) (old : Server S X) (events : List Event) (before : K) (new : Progress S X K) : Type 0 where
  answers : List Answer
  ran : Runs Reads state 0 old events answers new.server
  tells : TellsEach Reads state k old before events answers new.server new.sink
  written : Appends (k.held before) (k.held new.sink) (answers_text answers)
  works : WorksAfter events new.server

module _ {S X K : Type 0} (Reads : ReadingRelation) (state : S → StoreState) (k : Ghosts K) where
  -- ---- one line more

  event_more : (old : Server S X) (now new : Progress S X K) (lines : List (List ℕ)) (before : K) (e : Event) → KeepsHistory (state old.store) (state now.server.store)
      → (far : SoFar Reads state k old lines before now) → RunsEvent Reads state k now.server e now.sink None new.server new.sink
      → More Reads state k old (far.events ++ e ∷ []) before new
  event_more old now new lines before e history far it = record {
    answers = far.answers ++ it.0.0.answer ∷ [];
    ran = runs_more Reads state 0 old now.server new.server far.events far.answers e it.0.0.answer history.sound far.ran it.0.1.step;
    tells = each_more Reads state k old now.server new.server before now.sink new.sink far.events far.answers e it.0.0 far.tells it.0.1;
    written = answered_more (k.held before) (k.held now.sink) (k.held new.sink) far.answers it.0.0.answer far.written it.0.2;
    works = works_after (far.events ++ e ∷ []) new.server it.1;
  }

  requested_more : (old : Server S X) (now new : Progress S X K) (lines : List (List ℕ)) (before : K) (o : Option Event) → KeepsHistory (state old.store) (state now.server.store)
      → (far : SoFar Reads state k old lines before now) → RunsRequested Reads state k now o None new
      → More Reads state k old (far.events ++ option_to_list o) before new
  requested_more old now new lines before None history far it =
      record {
        answers = far.answers;
        ran = rw (append-nil far.events, it.1.0) far.ran;
        tells = rw (append-nil far.events, it.1.0, it.1.1) far.tells;
        written = rw it.1.1 far.written;
        works = rw (append-nil far.events, it.1.0) far.works;
      }
  requested_more old now new lines before (Some e) history far it = event_more old now new lines before e history far it

  line_goes_on : (old : Server S X) (now new : Progress S X K) (lines : List (List ℕ)) (line : List ℕ) (number : ℕ) (before : K) → KeepsHistory (state old.store) (state now.server.store)
      → SoFar Reads state k old lines before now → RunsLine Reads state k now line number None new → SoFar Reads state k old (lines ++ line ∷ []) before new
  line_goes_on old now new lines line number before history far it =
      let more = requested_more old now new lines before (event_for now.names it.0) history far it.3 in
      record {
        events = far.events ++ option_to_list (event_for now.names it.0);
        answers = more.answers;
        requested = rw it.2 (requests_more [] lines far.events now.names line it.0 far.requested it.1);
        ran = more.ran;
        tells = more.tells;
        written = more.written;
        works = more.works;
      }

  -- ---- the line at which a script ends

  -- the script ends with an event that was answered, and whose answer was told or not
  ends_answered : (old : Server S X) (now new : Progress S X K) (lines : List (List ℕ)) (line : List ℕ) (n : ℕ) (before : K) (e : ScriptEnd) (r : Request) (x : Event) (answer : Answer)
      → KeepsHistory (state old.store) (state now.server.store)
      → (far : SoFar Reads state k old (take n lines) before now) → IsLineAt lines n line → Spells line r → event_for now.names r ≡ Some x → Steps Reads state 0 now.server x answer new.server
      → TellsTo Reads state k e old before (far.events ++ x ∷ []) (far.answers ++ answer ∷ []) new.server new.sink
      → Writes e (k.held before) (far.answers ++ answer ∷ []) (k.held new.sink) → EndsAfter lines (n + 1) e
      → ((events : List Event) (answers : List Answer) → EndsWithEvent Reads state old events answers new.server → EndsAt Reads state e old events answers new.server)
      → RunsLines Reads state k old lines before e new.server new.sink
  ends_answered old now new lines line n before e r x answer history far at spelled is step tells written ends ends_at = record {
    count = n + 1;
    events = far.events ++ x ∷ [];
    answers = far.answers ++ answer ∷ [];
    names = names_after now.names r;
    requested = rw at.more (subst (λ o. Requests [] (take n lines ++ line ∷ []) (far.events ++ option_to_list o) (names_after now.names r)) is (requests_more [] (take n lines) far.events now.names line r far.requested spelled));
    ran = runs_more Reads state 0 old now.server new.server far.events far.answers x answer history.sound far.ran step;
    tells = tells;
    written = written;
    ends = ends;
    ends_at = ends_at (far.events ++ x ∷ []) (far.answers ++ answer ∷ []) (record {
      before = far.events;
      told = far.answers;
      server = now.server;
      last = x;
      answer = answer;
      events_are = refl;
      answers_are = refl;
      ran = far.ran;
      works = far.works;
      step = step;
    });
  }

  bad_line_ends : (old : Server S X) (now new : Progress S X K) (lines : List (List ℕ)) (line : List ℕ) (n number : ℕ) (before : K)
      → SoFar Reads state k old (take n lines) before now → IsLineAt lines n line → RunsLine Reads state k now line (n + 1) (Some (end.BadLine number)) new
      → RunsLines Reads state k old lines before (end.BadLine number) new.server new.sink
  bad_line_ends old now new lines line n number before far at it = record {
    count = n;
    events = far.events;
    answers = far.answers;
    names = now.names;
    requested = far.requested;
    ran = rw it.2.0 far.ran;
    tells = rw (it.2.0, it.2.1) far.tells;
    written = rw it.2.1 far.written;
    ends = (line, at.rest, at.after, it.0, it.1);
    ends_at = rw it.2.0 far.works;
  }

  memory_ends : (old : Server S X) (now new : Progress S X K) (lines : List (List ℕ)) (line : List ℕ) (n : ℕ) (before : K)
      → SoFar Reads state k old (take n lines) before now → IsLineAt lines n line → RunsLine Reads state k now line (n + 1) (Some end.Memory) new
      → RunsLines Reads state k old lines before end.Memory new.server new.sink
  memory_ends old now new lines line n before far at it = record {
    count = n;
    events = far.events;
    answers = far.answers;
    names = now.names;
    requested = far.requested;
    ran = rw it.0 far.ran;
    tells = rw (it.0, it.1) far.tells;
    written = rw it.1 far.written;
    ends = at.within;
    ends_at = rw it.0 far.works;
  }

  never_done : (now new : Progress S X K) (o : Option Event) → RunsRequested Reads state k now o (Some end.Done) new → ⊥
  never_done now new None run = some_is_not_none end.Done run.0
  never_done now new (Some x) run = run

  writer_ends : (old : Server S X) (now new : Progress S X K) (lines : List (List ℕ)) (line : List ℕ) (n : ℕ) (before : K) (r : Request) (o : Option Event) → KeepsHistory (state old.store) (state now.server.store)
      → SoFar Reads state k old (take n lines) before now → IsLineAt lines n line → Spells line r → event_for now.names r ≡ o → RunsRequested Reads state k now o (Some end.Writer) new
      → RunsLines Reads state k old lines before end.Writer new.server new.sink
  writer_ends old now new lines line n before r None history far at spelled is run = absurd (some_is_not_none end.Writer run.0)
  writer_ends old now new lines line n before r (Some x) history far at spelled is run =
      let some = last_broken Reads state k old now.server new.server before now.sink new.sink far.events far.answers x run.0 far.tells run.1 in
      ends_answered old now new lines line n before end.Writer r x run.0 history far at spelled is run.1.step some tt tt (λ events answers last. last)

  stopped_ends : (old : Server S X) (now new : Progress S X K) (lines : List (List ℕ)) (line : List ℕ) (n : ℕ) (before : K) (r : Request) (o : Option Event) → KeepsHistory (state old.store) (state now.server.store)
      → SoFar Reads state k old (take n lines) before now → IsLineAt lines n line → Spells line r → event_for now.names r ≡ o → RunsRequested Reads state k now o (Some end.Stopped) new
      → RunsLines Reads state k old lines before end.Stopped new.server new.sink
  stopped_ends old now new lines line n before r None history far at spelled is run = absurd (some_is_not_none end.Stopped run.0)
  stopped_ends old now new lines line n before r (Some x) history far at spelled is run =
      ends_answered old now new lines line n before end.Stopped r x run.0.0.answer history far at spelled is run.0.1.step
      (each_more Reads state k old now.server new.server before now.sink new.sink far.events far.answers x run.0.0 far.tells run.0.1)
      (answered_more (k.held before) (k.held now.sink) (k.held new.sink) far.answers run.0.0.answer far.written run.0.2) tt (λ events answers last. (last, run.1))

  line_ends : (old : Server S X) (now new : Progress S X K) (lines : List (List ℕ)) (line : List ℕ) (n : ℕ) (before : K) (e : ScriptEnd) → KeepsHistory (state old.store) (state now.server.store)
      → SoFar Reads state k old (take n lines) before now → IsLineAt lines n line → RunsLine Reads state k now line (n + 1) (Some e) new → RunsLines Reads state k old lines before e new.server new.sink
  line_ends old now new lines line n before (end.BadLine number) history far at it = bad_line_ends old now new lines line n number before far at it
  line_ends old now new lines line n before end.Memory history far at it = memory_ends old now new lines line n before far at it
  line_ends old now new lines line n before end.Done history far at it = absurd (never_done now new (event_for now.names it.0) it.3)
  line_ends old now new lines line n before end.Writer history far at it = writer_ends old now new lines line n before it.0 (event_for now.names it.0) history far at it.1 refl it.3
  line_ends old now new lines line n before end.Stopped history far at it = stopped_ends old now new lines line n before it.0 (event_for now.names it.0) history far at it.1 refl it.3

  -- what run_lines needs of a line that ends the script, and of one that does not
  pub ends_here : (old : Server S X) (now new : Progress S X K) (lines : List (List ℕ)) (line : List ℕ) (n number : ℕ) (before : K) (e : ScriptEnd) → KeepsHistory (state old.store) (state now.server.store)
      → SoFar Reads state k old (take n lines) before now → n < length lines → line ≡ get_or lines n [] → number ≡ n → RunsLine Reads state k now line (number + 1) (Some e) new
      → RunsLines Reads state k old lines before e new.server new.sink
  ends_here old now new lines line n number before e history far lt is counted it =
      line_ends old now new lines line n before e history far (line_at lines n line lt is) (subst (λ m. RunsLine Reads state k now line (m + 1) (Some e) new) counted it)

  pub goes_on_here : (old : Server S X) (now new : Progress S X K) (lines : List (List ℕ)) (line : List ℕ) (n number : ℕ) (before : K) → KeepsHistory (state old.store) (state now.server.store)
      → SoFar Reads state k old (take n lines) before now → n < length lines → line ≡ get_or lines n [] → RunsLine Reads state k now line number None new → SoFar Reads state k old (take (n + 1) lines) before new
  goes_on_here old now new lines line n number before history far lt is it =
      rw (line_at lines n line lt is).more (line_goes_on old now new (take n lines) line number before history far it)

  -- no line was run
  pub none_so_far : (server : Server S X) (sink : K) → SoFar Reads state k server [] sink (record { names = []; server = server; sink = sink })
  none_so_far server sink = record {
    events = [];
    answers = [];
    requested = (refl, refl);
    ran = runs_none Reads state 0 server;
    tells = each_none Reads state k server sink;
    written = writes_none (k.held sink);
    works = tt;
  }

  -- no line was run, as memory was refused
  pub ran_none : (server : Server S X) (lines : List (List ℕ)) (sink : K) → 0 < length lines → RunsLines Reads state k server lines sink end.Memory server sink
  ran_none server lines sink some = record {
    count = 0;
    events = [];
    answers = [];
    names = [];
    requested = (refl, refl);
    ran = runs_none Reads state 0 server;
    tells = each_none Reads state k server sink;
    written = writes_none (k.held sink);
    ends = some;
    ends_at = tt;
  }
