-- What is answered in a run is a run of the server with its moments.
use Rattle.std.proofs.Common.{◌≡◌, ◌∙◌, ℕ, inl, inr, Bool, true, false, Option, List, [], ◌∷◌, ◌++◌, refl, sym, ap, subst, arith}
use Rattle.sql_types.specs.declared.answer.Answer.{Answer}
use Rattle.sql_types.specs.declared.event.Event.{Event}
use Rattle.store.specs.Store.{StoreState}
use Rattle.abstract_database.specs.Machine.{Machine}
use Rattle.abstract_database.specs.Runs.{ReadingRelation, At}
use Rattle.server.specs.declared.server.Server.{Server}
use Rattle.server.specs.Standing.{Represents}
use Rattle.databases.specs.Lives.{ClientEvent, of_client, all_of_client, StepsAt, RunsAt}
use Rattle.databases.proofs.Living.{steps_more, steps_run, steps_sound}
use Rattle.databases.proofs.Joining.{runs_at, runs_joined, runs_none}
use Rattle.wire.specs.declared.script_run.ScriptEnd.{ScriptEnd}
use Rattle.wire.specs.declared.script_run.ScriptEnd.TheVariants as script
use Rattle.wire.specs.declared.sink.Sink.{Ghosts}
use Rattle.wire.specs.Closing.{closing_events, closed_answers, StandsWithinLimit, Closes, LeavesNoSession}
use Rattle.wire.specs.Telling.{Told, answers_of, TellsAll, TellsEach, TellsSome}
use Rattle.wire.specs.ScriptRun.{IsScriptRun, TellsTo}
use Rattle.wire.specs.declared.connection.End.{End}
use Rattle.wire.specs.declared.connection.End.TheVariants as connection
use Rattle.wire.specs.Connection.{AnswersUntaken, InputState, IsServed, IsConnection}
use Rattle.wire.specs.Listening.{Listening}
use Rattle.wire.specs.Listener.{Connection, ServesEach}
use Rattle.databases.specs.Answered.{Answered, nothing_answered, and_then, moments_of, each_told, some_told, closing_of, closed_of, ClosesAll, of_lines, IsOfScript, of_untaken, of_bytes, IsOfConnection, IsOfEach}

module _ {S X : Type 0} (Reads : ReadingRelation) (state : S → StoreState) where
  -- this was answered, each by a step of the server
  abbrev pub Stepped : Server S X → Answered → Server S X → Type 0
  Stepped old it new = StepsAt Reads state old it.events it.answers it.moments new

  -- this was answered by the server from where it stood
  abbrev pub Ran : Server S X → At → Answered → Server S X → Type 0
  Ran old w it new = RunsAt Reads state old w it.events it.answers it.moments new

  -- and then more was
  ran_then : (first mid last : Server S X) (w : At) (these more : Answered) → Represents state first w → (ran : Ran first w these mid) → Ran mid ran.0 more last
      → Ran first w (and_then these more) last
  ran_then first mid last w these more here ran rest =
      runs_joined Reads state first mid last w these.events more.events these.answers more.answers these.moments more.moments here ran rest

  pub ran_by_steps : (first last : Server S X) (w : At) (it : Answered) → Stepped first it last → (state first.store).sound → Represents state first w → Ran first w it last
  ran_by_steps first last w it steps sound here = steps_run Reads state first last it.events it.answers it.moments w steps sound here

  sound_after : (first last : Server S X) (it : Answered) → Stepped first it last → (state first.store).sound → (state last.store).sound
  sound_after first last it steps sound = steps_sound Reads state first last it.events it.answers it.moments steps sound

  steps_joined : (first mid last : Server S X) (events more : List ClientEvent) (told others : List Answer) (moments later : List ℕ) → StepsAt Reads state first events told moments mid
      → StepsAt Reads state mid more others later last → StepsAt Reads state first (events ++ more) (told ++ others) (moments ++ later) last
  steps_joined first mid last [] more [] others [] later steps rest = subst (λ (s : Server S X). StepsAt Reads state s more others later last) steps rest
  steps_joined first mid last (e ∷ events) more (answer ∷ told) others (m ∷ moments) later steps rest =
      (steps.0, steps.1, steps_joined steps.0 mid last events more told others moments later steps.2 rest)
  steps_joined first mid last events more told others moments later steps rest = absurd steps

  -- ---- the closing of sessions

  -- what was closed, and how the server did it
  abbrev Closed : Server S X → At → Server S X → Type 0
  Closed old w new = (closing : Answered) × ClosesAll old closing × Ran old w closing new

  closed_stopped : (old new : Server S X) (w : At) → old.stopped ≡ true → Represents state old w → new ≡ old → Closed old w new
  closed_stopped old new w is here same = (
    nothing_answered,
    record {
      events = ap (λ (b : Bool). all_of_client 0 (closing_of b old.sessions.entries)) (sym is);
      answers = ap (λ (b : Bool). closed_of b old.sessions.entries) (sym is);
    },
    subst (λ (s : Server S X). Ran old w nothing_answered s) (sym same) (runs_none Reads state old w here),
  )

  closed_working : (old new : Server S X) (w : At) → old.stopped ≡ false → (state old.store).sound → Represents state old w → Closes Reads state old new → Closed old w new
  closed_working old new w is sound here closes =
      let sessions = w.standing.machine.sessions in
      let ran = runs_at Reads state 0 old new w (closing_events sessions) (closed_answers sessions) (closes.closed is w here) sound here in (
        record { events = all_of_client 0 (closing_events sessions); answers = closed_answers sessions; moments = ran.0 },
        record {
          events = ap (λ (l : List Event). all_of_client 0 l) (ap closing_events here.sessions ∙ ap (λ (b : Bool). closing_of b old.sessions.entries) (sym is));
          answers = ap closed_answers here.sessions ∙ ap (λ (b : Bool). closed_of b old.sessions.entries) (sym is);
        },
        ran.1,
      )

  closed_all : (old new : Server S X) (w : At) (stopped : Bool) → old.stopped ≡ stopped → (state old.store).sound → Represents state old w → Closes Reads state old new → Closed old w new
  closed_all old new w true is sound here closes = closed_stopped old new w is here (closes.stopped is)
  closed_all old new w false is sound here closes = closed_working old new w is sound here closes

  -- ---- what was told

  module _ {K : Type 0} (k : Ghosts K) where
    told_steps : (old new : Server S X) (before after : K) (events : List Event) (told : List Told) → TellsAll Reads state k old before events told new after
        → StepsAt Reads state old (all_of_client 0 events) (answers_of told) (moments_of told) new
    told_steps old new before after [] [] tells = tells.0
    told_steps old new before after (e ∷ events) (t ∷ told) tells =
        (tells.0, record { history = tells.2.history; steps = tells.2.step; clock = sym tells.2.moment }, told_steps tells.0 new tells.1 after events told tells.3)
    told_steps old new before after [] (t ∷ told) tells = absurd tells
    told_steps old new before after (e ∷ events) [] tells = absurd tells

    each_steps : (old new : Server S X) (before after : K) (events : List Event) (answers : List Answer) (tells : TellsEach Reads state k old before events answers new after)
        → Stepped old (each_told tells) new
    each_steps old new before after events answers tells =
        subst (λ (l : List Answer). StepsAt Reads state old (all_of_client 0 events) l (moments_of tells.told) new) (sym tells.answers_are) (told_steps old new before after events tells.told tells.all)

    some_steps : (old new : Server S X) (before after : K) (events : List Event) (tells : TellsSome Reads state k old before events new after) → Stepped old (some_told tells) new
    some_steps old new before after events tells =
        steps_more Reads state old tells.server new (all_of_client 0 tells.done) (answers_of tells.told) (moments_of tells.told) (of_client 0 tells.last) tells.answer
        (told_steps old tells.server before tells.between tells.done tells.told tells.all) tells.breaks.history tells.breaks.step

    -- ---- a script

    lines_steps : (old new : Server S X) (before after : K) (events : List Event) (answers : List Answer) (e : ScriptEnd) (tells : TellsTo Reads state k e old before events answers new after)
        → Stepped old (of_lines Reads state k old new before after events answers e tells) new
    lines_steps old new before after events answers script.Done tells = each_steps old new before after events answers tells
    lines_steps old new before after events answers (script.BadLine number) tells = each_steps old new before after events answers tells
    lines_steps old new before after events answers script.Stopped tells = each_steps old new before after events answers tells
    lines_steps old new before after events answers script.Memory tells = each_steps old new before after events answers tells
    lines_steps old new before after events answers script.Writer tells = some_steps old new before after events tells.0

    pub script_ran : (old new : Server S X) (lines : List (List ℕ)) (before after : K) (e : ScriptEnd) (w : At) (run : IsScriptRun Reads state k old lines before e new after)
        → StandsWithinLimit state old → Represents state old w → (it : Answered) × IsOfScript Reads state k old new before run it × Ran old w it new
    script_ran old new lines before after e w run within here =
        let these = of_lines Reads state k old run.server before run.told run.ran.events run.ran.answers run.ending run.ran.tells in
        let steps = lines_steps old run.server before run.told run.ran.events run.ran.answers run.ending run.ran.tells in
        let sound = within.0 in
        let ran = ran_by_steps old run.server w these steps sound here in
        let closed = closed_all run.server new ran.0 run.server.stopped refl (sound_after old run.server these steps sound) ran.1 (run.closed within) in (
          and_then these closed.0,
          (closed.0, closed.1, refl),
          ran_then old run.server new w these closed.0 here ran closed.2,
        )

    -- ---- connections

    untaken_steps : (old new : Server S X) (before after : K) (events : List Event) (is_bad : Bool) (it : AnswersUntaken Reads state k old events is_bad before new after)
        → Stepped old (of_untaken Reads state k it) new
    untaken_steps old new before after events is_bad (inl some) = some_steps old new before after events some.some
    untaken_steps old new before after events is_bad (inr all) = each_steps old new before all.1.0 events all.1.1.answers all.1.1.tells

    bytes_steps : (old new : Server S X) (input left : InputState) (before after : K) (e : End) (served : IsServed Reads state k old input before e new left after)
        → Stepped old (of_bytes Reads state k old new input left before after e served) new
    bytes_steps old new input left before after connection.Input served = each_steps old new before after served.1.events served.1.answered.answers served.1.answered.tells
    bytes_steps old new input left before after connection.BadFrame served = each_steps old new before served.told served.events served.answered.answers served.answered.tells
    bytes_steps old new input left before after connection.Reader served = each_steps old new before after served.2.events served.2.answered.answers served.2.answered.tells
    bytes_steps old new input left before after connection.ReadLimit served = each_steps old new before after served.1.events served.1.answered.answers served.1.answered.tells
    bytes_steps old new input left before after connection.Writer served =
        let these = each_told served.so_far.answered.tells in
        let more = of_untaken Reads state k served.answered in
        steps_joined old served.server new these.events more.events these.answers more.answers these.moments more.moments
        (each_steps old served.server before served.told served.so_far.events served.so_far.answered.answers served.so_far.answered.tells)
        (untaken_steps served.server new served.told after served.events served.is_bad served.answered)
    bytes_steps old new input left before after connection.Memory served =
        each_steps old new before after served.so_far.events served.so_far.answered.answers served.so_far.answered.tells

    connection_ran : (old new : Server S X) (c : Connection K) (w : At) (it : IsConnection Reads state k old c.input c.taken c.end new c.left c.closed)
        → StandsWithinLimit state old → Represents state old w → (all : Answered) × IsOfConnection Reads state k old new c it all × Ran old w all new
    connection_ran old new c w it within here =
        let server = it.server in
        let these = of_bytes Reads state k old server c.input c.left c.taken c.closed c.end it.served in
        let ran = ran_by_steps old server w these (bytes_steps old server c.input c.left c.taken c.closed c.end it.served) within.0 here in
        let closed = closed_all server new ran.0 server.stopped refl (it.history.sound within.0) ran.1 (it.closed within) in (
          and_then these closed.0,
          (closed.0, closed.1, refl),
          ran_then old server new w these closed.0 here ran closed.2,
        )

    -- with no session open a server is within the limit
    none_within : (server : Server S X) → (state server.store).sound → LeavesNoSession state server → server.stopped ≡ false → StandsWithinLimit state server
    none_within server sound left works =
        let none : left.0.standing.machine.sessions ≡ [] = ap (λ (m : Machine). m.sessions) (left.2 works) in
        (sound, (left.0, left.1, rw none tt, rw none (omega arith)))

    pub connections_ran : (old new : Server S X) (before after : Option Listening) (connections : List (Connection K)) (each : ServesEach Reads state k old before connections new after)
        (w : At) → (state old.store).sound → (old.stopped ≡ false → StandsWithinLimit state old) → Represents state old w
        → (it : Answered) × IsOfEach Reads state k connections old new before after each it × Ran old w it new
    connections_ran old new before after [] each w sound within here =
        (nothing_answered, refl, subst (λ (s : Server S X). Ran old w nothing_answered s) (sym each.0) (runs_none Reads state old w here))
    connections_ran old new before after (c ∷ rest) each w sound within here =
        let mid = each.0 in
        let serves = each.2 in
        let limit = within serves.works in
        let first = connection_ran old mid c w serves.served limit here in
        let lasts = serves.history.sound sound in
        let others = connections_ran mid new each.1 after rest each.3 first.2.0 lasts (λ works. none_within mid lasts (serves.left limit) works) first.2.1 in (
          and_then first.0 others.0,
          (first.0, others.0, first.1, refl, others.1),
          ran_then old mid new w first.0 others.0 here first.2 others.2,
        )
