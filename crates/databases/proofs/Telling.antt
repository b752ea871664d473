-- An answer that was told has, at its place, a moment up to the one at which it was told.
use Rattle.std.proofs.Common.{◌≡◌, ◌∙◌, ◌≤◌, ◌+◌, ℕ, zero, suc, inl, inr, ⊎_elim, Bool, List, [], ◌∷◌, ◌++◌, length, Option, Some, None, refl, sym, ap, subst, arith}
use Rattle.std.specs.Prelude.{slice_get}
use Rattle.sector_device.specs.declared.device.Device.{Ghosts}
use Rattle.sql_types.specs.declared.answer.Answer.{Answer}
use Rattle.sql_types.specs.declared.event.Event.{Event}
use Rattle.store.specs.Store.{StoreState}
use Rattle.journal_store.specs.DeviceStores.{store_state}
use Rattle.abstract_database.specs.Runs.{ReadingRelation, At}
use Rattle.server.specs.declared.server.Server.{Server}
use Rattle.server.specs.Standing.{at_start, Represents}
use Rattle.wire.specs.declared.script_run.ScriptEnd.{ScriptEnd}
use Rattle.wire.specs.declared.script_run.ScriptEnd.TheVariants as script
use Rattle.wire.specs.declared.sink.Sink.{Ghosts as SinkGhosts}
use Rattle.wire.specs.Telling.{Told}
use Rattle.wire.specs.ScriptRun.{TellsTo}
use Rattle.wire.specs.declared.connection.End.{End}
use Rattle.wire.specs.declared.connection.End.TheVariants as connection
use Rattle.wire.specs.Connection.{AnswersUntaken, InputState, IsServed}
use Rattle.wire.specs.Listening.{Listening}
use Rattle.wire.specs.Listener.{Connection, ServesEach}
use Rattle.databases.specs.Answered.{Answered, moments_of, of_lines, of_untaken, of_bytes, IsOfEach}
use Rattle.databases.specs.DeviceFollowing.{Did, ran_script, served_connections, served_clients, opened_none, IsAnsweredIn}
use Rattle.databases.specs.Told.{told_in_lines, told_of_untaken, told_in_bytes, IsToldInEach, IsToldToClient, IsOwnAnswer, IsTold}
use Rattle.databases.specs.Lives.{of_client}
use Rattle.databases.specs.Clients.{IsOfTurns, of_taken}
use Rattle.databases.specs.Runs.{ServesClientsFrom}
use Rattle.databases.specs.declared.database.Opened.{Opened}
use Rattle.databases.specs.Openings.{IsOpenedOn}
use Rattle.talks.specs.declared.want.Reply.TheVariants as reply
use Rattle.talks.specs.declared.serving.ServeEnd.{ServeEnd}
use Rattle.talks.specs.declared.talk.Talk.{Ghosts as TalkGhosts}
use Rattle.talks.specs.declared.clients.ServedClients.{Ghosts as ClientsGhosts}
use Rattle.talks.specs.Turns.{Turn, TakesTurns}
use Rattle.served_machine.specs.declared.machine.ServedMachine.{ServedMachine}
use Rattle.served_machine.specs.Machines.{machine_of}
use Rattle.served_clients.specs.Taken.{Taken}
use Rattle.served_clients.specs.Spelled.{of_turns}
use Rattle.served_clients.proofs.Placing.{placed}

-- ---- lists

-- what stands at a place stands there with more behind it
with_more : {A : Type 0} (xs ys : List A) (place : ℕ) (x : A) → slice_get xs place ≡ Some x → slice_get (xs ++ ys) place ≡ Some x
with_more [] ys place x is = let bad : None ≡ Some x = is in absurd (let no : ⊥ = cc in no)
with_more (y ∷ xs) ys zero x is = is
with_more (y ∷ xs) ys (suc place) x is = with_more xs ys place x is

-- and with more before it further on
behind : {A : Type 0} (xs ys : List A) (place : ℕ) (x : A) → slice_get ys place ≡ Some x → slice_get (xs ++ ys) (length xs + place) ≡ Some x
behind [] ys place x is = let same : place ≡ 0 + place = omega arith in subst (λ (n : ℕ). slice_get ys n ≡ Some x) same is
behind (y ∷ xs) ys place x is =
    let next : length (y ∷ xs) + place ≡ suc (length xs + place) = omega arith in
    subst (λ (n : ℕ). slice_get (y ∷ (xs ++ ys)) n ≡ Some x) (sym next) (behind xs ys place x is)

-- the moment of what was told stands at its place
moment_at : (told : List Told) (place : ℕ) (t : Told) → slice_get told place ≡ Some t → slice_get (moments_of told) place ≡ Some t.moment
moment_at [] place t is = let bad : None ≡ Some t = is in absurd (let no : ⊥ = cc in no)
moment_at (u ∷ told) zero t is = let same : u ≡ t = (let at : Some u ≡ Some t = is in cc) in ap (λ (z : Told). Some z.moment) same
moment_at (u ∷ told) (suc place) t is = moment_at told place t is

-- the moment of what was told in one of two runs
in_both : (told more : List Told) (moments later : List ℕ) → ((place : ℕ) (t : Told) → slice_get told place ≡ Some t → slice_get moments place ≡ Some t.moment)
    → ((place : ℕ) (t : Told) → slice_get more place ≡ Some t → slice_get later place ≡ Some t.moment) → length told ≡ length moments
    → (place : ℕ) (t : Told) → slice_get (told ++ more) place ≡ Some t → slice_get (moments ++ later) place ≡ Some t.moment
in_both [] more [] later first second same place t is = second place t is
in_both [] more (m ∷ moments) later first second same place t is = absurd (omega (arith, same))
in_both (u ∷ told) more [] later first second same place t is = absurd (omega (arith, same))
in_both (u ∷ told) more (m ∷ moments) later first second same zero t is = first zero t is
in_both (u ∷ told) more (m ∷ moments) later first second same (suc place) t is =
    in_both told more moments later (λ p v at. first (suc p) v at) second (omega (arith, same)) place t is

as_many : (told : List Told) → length told ≡ length (moments_of told)
as_many [] = refl
as_many (t ∷ told) = ap suc (as_many told)

-- what was told stands at this place with a moment up to its own
abbrev pub IsTimely : List ℕ → ℕ → Told → Type 0
IsTimely moments place told = (moment : ℕ) × (slice_get moments place ≡ Some moment) × (moment ≤ told.moment)

module _ {S X K : Type 0} (Reads : ReadingRelation) (state : S → StoreState) (k : SinkGhosts K) where
  in_lines : (old new : Server S X) (before after : K) (events : List Event) (answers : List Answer) (e : ScriptEnd) (tells : TellsTo Reads state k e old before events answers new after)
      (place : ℕ) (t : Told) → slice_get (told_in_lines Reads state k old new before after events answers e tells) place ≡ Some t
      → slice_get (of_lines Reads state k old new before after events answers e tells).moments place ≡ Some t.moment
  in_lines old new before after events answers script.Done tells place t is = moment_at tells.told place t is
  in_lines old new before after events answers (script.BadLine number) tells place t is = moment_at tells.told place t is
  in_lines old new before after events answers script.Stopped tells place t is = moment_at tells.told place t is
  in_lines old new before after events answers script.Memory tells place t is = moment_at tells.told place t is
  in_lines old new before after events answers script.Writer tells place t is = with_more (moments_of tells.0.told) _ place t.moment (moment_at tells.0.told place t is)

  in_untaken : (old new : Server S X) (before after : K) (events : List Event) (is_bad : Bool) (it : AnswersUntaken Reads state k old events is_bad before new after)
      (place : ℕ) (t : Told) → slice_get (told_of_untaken Reads state k it) place ≡ Some t → slice_get (of_untaken Reads state k it).moments place ≡ Some t.moment
  in_untaken old new before after events is_bad (inl some) place t is = with_more (moments_of some.some.told) _ place t.moment (moment_at some.some.told place t is)
  in_untaken old new before after events is_bad (inr all) place t is = moment_at all.1.1.tells.told place t is

  in_bytes : (old new : Server S X) (input left : InputState) (before after : K) (e : End) (it : IsServed Reads state k old input before e new left after)
      (place : ℕ) (t : Told) → slice_get (told_in_bytes Reads state k old new input left before after e it) place ≡ Some t
      → slice_get (of_bytes Reads state k old new input left before after e it).moments place ≡ Some t.moment
  in_bytes old new input left before after connection.Input it place t is = moment_at it.1.answered.tells.told place t is
  in_bytes old new input left before after connection.BadFrame it place t is = moment_at it.answered.tells.told place t is
  in_bytes old new input left before after connection.Reader it place t is = moment_at it.2.answered.tells.told place t is
  in_bytes old new input left before after connection.ReadLimit it place t is = moment_at it.1.answered.tells.told place t is
  in_bytes old new input left before after connection.Writer it place t is =
      let told = it.so_far.answered.tells.told in
      in_both told (told_of_untaken Reads state k it.answered) (moments_of told) (of_untaken Reads state k it.answered).moments (moment_at told)
      (in_untaken it.server new it.told after it.events it.is_bad it.answered) (as_many told) place t is
  in_bytes old new input left before after connection.Memory it place t is = moment_at it.so_far.answered.tells.told place t is

  in_each : (connections : List (Connection K)) (old new : Server S X) (before after : Option Listening) (each : ServesEach Reads state k old before connections new after) (it : Answered)
      (is : IsOfEach Reads state k connections old new before after each it) (place : ℕ) (t : Told) → IsToldInEach Reads state k connections old new before after each it is place t
      → slice_get it.moments place ≡ Some t.moment
  in_each [] old new before after each it is place t told = absurd told
  in_each (c ∷ rest) old new before after each it is place t told =
      subst (λ (all : Answered). slice_get all.moments place ≡ Some t.moment) (sym is.3)
      (⊎_elim
      (λ here.
      let bytes = of_bytes Reads state k old each.2.served.server c.input c.left c.taken c.closed c.end each.2.served.served in
      let first : slice_get is.0.moments place ≡ Some t.moment = subst (λ (all : Answered). slice_get all.moments place ≡ Some t.moment) (sym is.2.2)
      (with_more bytes.moments is.2.0.moments place t.moment (in_bytes old each.2.served.server c.input c.left c.taken c.closed c.end each.2.served.served place t here)) in
      with_more is.0.moments is.1.moments place t.moment first)
      (λ further.
      subst (λ (n : ℕ). slice_get (is.0.moments ++ is.1.moments) n ≡ Some t.moment) (sym further.1)
      (behind is.0.moments is.1.moments further.0 t.moment (in_each rest each.0 new each.1 after each.3 is.1 is.4 further.0 t further.2)))
      told)

-- ---- clients

-- the moment of what was taken stands at its place
taken_at : (taken : List Taken) (place : ℕ) (one : Taken) → slice_get taken place ≡ Some one → slice_get (of_taken taken).moments place ≡ Some one.moment
taken_at [] place one is = let bad : None ≡ Some one = is in absurd (let no : ⊥ = cc in no)
taken_at (u ∷ taken) zero one is = let same : u ≡ one = (let at : Some u ≡ Some one = is in cc) in ap (λ (z : Taken). Some z.moment) same
taken_at (u ∷ taken) (suc place) one is = taken_at taken place one is

-- and so do its event and its answer
event_at : (taken : List Taken) (place : ℕ) (one : Taken) → slice_get taken place ≡ Some one → slice_get (of_taken taken).events place ≡ Some (of_client one.client one.event)
event_at [] place one is = let bad : None ≡ Some one = is in absurd (let no : ⊥ = cc in no)
event_at (u ∷ taken) zero one is = let same : u ≡ one = (let at : Some u ≡ Some one = is in cc) in ap (λ (z : Taken). Some (of_client z.client z.event)) same
event_at (u ∷ taken) (suc place) one is = event_at taken place one is

answer_at : (taken : List Taken) (place : ℕ) (one : Taken) → slice_get taken place ≡ Some one → slice_get (of_taken taken).answers place ≡ Some one.answer
answer_at [] place one is = let bad : None ≡ Some one = is in absurd (let no : ⊥ = cc in no)
answer_at (u ∷ taken) zero one is = let same : u ≡ one = (let at : Some u ≡ Some one = is in cc) in ap (λ (z : Taken). Some z.answer) same
answer_at (u ∷ taken) (suc place) one is = answer_at taken place one is

one_answer : (a b : Answer) → reply.Answer a ≡ reply.Answer b → a ≡ b
one_answer a b is = cc

module _ {S X T C : Type 0} (Reads : ReadingRelation) (state : S → StoreState) (t : TalkGhosts T) (k : ClientsGhosts C T) where
  to_client : (old : ServedMachine S X) (before : C) (turns : List Turn) (new : ServedMachine S X) (after : C) (w : At) (took : TakesTurns (machine_of Reads state) t k old before turns new after)
      → (state old.server.store).sound → Represents state old.server w → (client place : ℕ) (told : Told)
      → IsToldToClient Reads state t k old before turns new after took client place told
      → IsTimely (of_taken (of_turns Reads state t k old before turns new after took)).moments place told
  to_client old before turns new after w took sound here client place told is =
      let stands = placed Reads state t k old before turns new after w took sound here is.0 told.moment place is.2 in
      (stands.taken.moment, taken_at (of_turns Reads state t k old before turns new after took) place stands.taken stands.there, stands.in_time)

  -- and what a client was told is its own
  own_answer : (old : ServedMachine S X) (before : C) (turns : List Turn) (new : ServedMachine S X) (after : C) (w : At) (took : TakesTurns (machine_of Reads state) t k old before turns new after)
      → (state old.server.store).sound → Represents state old.server w → (client place : ℕ) (told : Told) → IsToldToClient Reads state t k old before turns new after took client place told
      → IsOwnAnswer (of_taken (of_turns Reads state t k old before turns new after took)) client place told.answer
  own_answer old before turns new after w took sound here client place told is =
      let all = of_turns Reads state t k old before turns new after took in
      let stands = placed Reads state t k old before turns new after w took sound here is.0 told.moment place is.2 in
      let one = stands.taken in
      record {
        event = of_client one.client one.event;
        there = event_at all place one stands.there;
        own = stands.client ∙ is.1;
        answered = subst (λ (a : Answer). slice_get (of_taken all).answers place ≡ Some a) (one_answer one.answer told.answer (sym stands.answer ∙ is.3)) (answer_at all place one stands.there);
      }

-- what was told in a run was answered by the moment at which it was told
pub has_moment : {D : Type 0} {g : Ghosts D} {X K M T C : Type 0} {k : SinkGhosts K} {m : SinkGhosts M} {t : TalkGhosts T} {c : ClientsGhosts C T} {Reads : ReadingRelation} (begin end : D)
    (did : Did g X k m t c Reads begin end) (it : Answered) (answered : IsAnsweredIn did it) (place : ℕ) (told : Told) → IsTold did it answered place told → IsTimely it.moments place told
has_moment {k = k} {Reads = Reads} begin end (ran_script opened is script before ending after runs) it answered place told is_told =
    let run = runs.ran in (
      told.moment,
      subst (λ (all : Answered). slice_get all.moments place ≡ Some told.moment) (sym answered.2)
          (with_more (of_lines Reads store_state k opened.server run.server before run.told run.ran.events run.ran.answers run.ending run.ran.tells).moments answered.0.moments place told.moment
          (in_lines Reads store_state k opened.server run.server before run.told run.ran.events run.ran.answers run.ending run.ran.tells place told is_told)),
      omega arith,
    )
has_moment {m = m} {Reads = Reads} begin end (served_connections opened is asked before ending after serves) it answered place told is_told = (
  told.moment,
  in_each Reads store_state m serves.serves.connections opened.server serves.last before serves.serves.between serves.serves.each it answered place told is_told,
  omega arith,
)
has_moment {X = X} {t = t} {c = c} {Reads = Reads} begin end (served_clients opened is before ending after serves) it answered place told is_told =
    let start = at_start (store_state opened.server.store) is.database in
    let sound = subst (λ (s : Server _ X). (store_state s.store).sound) (sym serves.first_is) is.sound in
    let here = subst (λ (s : Server _ X). Represents store_state s start) (sym serves.first_is) is.represents in
    subst (λ (all : Answered). IsTimely all.moments place told) (sym answered)
    (to_client Reads store_state t c serves.first before serves.serves.turns serves.last after start serves.serves.took sound here is_told.0 place told is_told.1)
has_moment begin end (opened_none fault refused) it answered place told is_told = absurd is_told

-- where clients were served over what was opened, each was told its own
pub clients_own : {D : Type 0} {g : Ghosts D} {X T C : Type 0} {t : TalkGhosts T} {c : ClientsGhosts C T} {Reads : ReadingRelation} (begin left : D) (opened : Opened D X g) → IsOpenedOn (g.state begin) opened
    → (before : C) (end : ServeEnd) (after : C) (serves : ServesClientsFrom g t c Reads opened.server before end left after) (it : Answered)
    → IsOfTurns Reads store_state t c serves.first before serves.serves.turns serves.last after serves.serves.took it → (client place : ℕ) (told : Told)
    → IsToldToClient Reads store_state t c serves.first before serves.serves.turns serves.last after serves.serves.took client place told → IsOwnAnswer it client place told.answer
clients_own {X = X} {t = t} {c = c} {Reads = Reads} begin left opened is before end after serves it answered client place told is_told =
    let start = at_start (store_state opened.server.store) is.database in
    let sound = subst (λ (s : Server _ X). (store_state s.store).sound) (sym serves.first_is) is.sound in
    let here = subst (λ (s : Server _ X). Represents store_state s start) (sym serves.first_is) is.represents in
    subst (λ (all : Answered). IsOwnAnswer all client place told.answer) (sym answered)
    (own_answer Reads store_state t c serves.first before serves.serves.turns serves.last after start serves.serves.took sound here client place told is_told)
