-- The sessions of a server are closed, one after the other.
use Rattle.std.proofs.Common.{◌≡◌, ◌∙◌, ◌≤◌, ◌+◌, ◌*◌, ◌%◌, ℕ, zero, suc, Bool, true, false, List, [], ◌∷◌, ◌++◌, length, take, drop, Option, Some, None, if◌then◌else◌, refl, sym, ap, subst, eq-eqb, add-one, arith}
use Rattle.std.specs.Prelude.{slice_get}
use Rattle.std.specs.Option.{option_map}
use Rattle.sql_types.specs.declared.state.SqlState.TheVariants.{IoError}
use Rattle.std.proofs.lemmas.Nat.{div-add-mod'}
use Rattle.std.proofs.Math.Nat.{mod-lt, mod-eq_of_lt}
use Rattle.std.proofs.lemmas.List.{append-nil, take-append-drop, drop_all, map-append}
use Rattle.sql_types.specs.declared.answer.Answer.{Answer}
use Rattle.sql_types.specs.declared.answer.Answer.TheVariants.{Done}
use Rattle.sql_types.specs.declared.tag.Tag.TheVariants as tag
use Rattle.sql_types.specs.declared.event.Event.{Event}
use Rattle.sql_types.specs.declared.event.Event.TheVariants as event
use Rattle.store.specs.Store.{StoreState}
use Rattle.abstract_database.specs.Database.{Database}
use Rattle.abstract_database.specs.Machine.{Machine, Holder, Session, number_in, own_number, client_of, own_sessions, closes, transition, succeeds, refuses, close_session, session_of, without_session, released, machine_over}
use Rattle.abstract_database.specs.Runs.{ReadingRelation, Counts, IsStep, by_transition, for_memory, for_space, for_number, for_device, RanBy, Stops, At, Happens}
use Rattle.server.specs.declared.server.Server.{Server}
use Rattle.server.specs.Standing.{Represents, HoldsInBlock, events_of, stops_of}
use Rattle.server.specs.Runs.{Steps, Runs}
use Rattle.server.proofs.Running.{runs_none, runs_more}
use Rattle.wire.proofs.Limits.{all_own, below, ran_few}
use Rattle.wire.specs.Closing.{Sessions, AreOfOne, closing_events, closed_answers, StandsWithinLimit, Closes, LeavesNoSession}

-- ---- lists

-- the item after the first n
take_next : {A : Type 0} (n : ℕ) (xs : List A) (x : A) (rest : List A) → drop n xs ≡ x ∷ rest → take (suc n) xs ≡ take n xs ++ x ∷ []
take_next zero xs x rest is = rw is refl
take_next (suc n) [] x rest is = cc
take_next (suc n) (y ∷ xs) x rest is = ap (λ l. y ∷ l) (take_next n xs x rest is)

take_more_next : {A : Type 0} (n : ℕ) (xs : List A) (x : A) (rest : List A) → drop n xs ≡ x ∷ rest → take (n + 1) xs ≡ take n xs ++ x ∷ []
take_more_next n xs x rest is = rw (add-one n) (take_next n xs x rest is)

-- the session at the front, by its client's number of it
record IsFirst (sessions : Sessions) (own : ℕ) : Type 0 where
  session : ℕ × Session
  rest : Sessions
  is : sessions ≡ session ∷ rest
  one : client_of session.0 ≡ 0
  named : own ≡ own_number session.0

-- the first own session of the one client is the first of all
first_of_all : (sessions : Sessions) (own : ℕ) → AreOfOne sessions → Some own ≡ option_map (λ e. own_number e.0) (slice_get (own_sessions 0 sessions) 0) → IsFirst sessions own
first_of_all [] own are is = cc
first_of_all (s ∷ rest) own are is =
    let found : Some own ≡ Some (own_number s.0) = is ∙ ap (λ (l : Sessions). option_map (λ (e : ℕ × Session). own_number e.0) (slice_get l 0)) (all_own (s ∷ rest) are) in
    record { session = s; rest = rest; is = refl; one = are.0; named = cc }

none_open : (sessions : Sessions) → AreOfOne sessions → None ≡ option_map (λ e. own_number e.0) (slice_get (own_sessions 0 sessions) 0) → sessions ≡ []
none_open [] are is = refl
none_open (s ∷ rest) are is =
    let wrong : None ≡ Some (own_number s.0) = is ∙ ap (λ (l : Sessions). option_map (λ (e : ℕ × Session). own_number e.0) (slice_get l 0)) (all_own (s ∷ rest) are) in
    cc

-- a number of the one client is its own number there
number_back : (number : ℕ) → client_of number ≡ 0 → number_in 0 (own_number number) ≡ number
number_back number one =
    ap (λ (r : ℕ). 0 * 4294967296 + r) (mod-eq_of_lt (mod-lt number below)) ∙ ap (λ (q : ℕ). q * 4294967296 + number % 4294967296) (sym one) ∙ div-add-mod' number 4294967296

of_one_taken : (n : ℕ) (sessions : Sessions) → AreOfOne sessions → AreOfOne (take n sessions)
of_one_taken zero sessions are = tt
of_one_taken (suc n) [] are = tt
of_one_taken (suc n) (s ∷ rest) are = (are.0, of_one_taken n rest are.1)

of_one_left : (n : ℕ) (sessions : Sessions) → AreOfOne sessions → AreOfOne (drop n sessions)
of_one_left zero sessions are = are
of_one_left (suc n) [] are = tt
of_one_left (suc n) (s ∷ rest) are = of_one_left n rest are.1

-- ---- one session

-- a session was closed, and nothing else done
record ClosesOne (m : Machine) (rest : Sessions) (answer : Answer) (after : Machine) : Type 0 where
  answer_is : answer ≡ Done tag.Close None None
  committed : after.committed ≡ m.committed
  sessions : after.sessions ≡ rest
  works : after.stopped ≡ false

-- what the machine does
found : (sessions : Sessions) (number : ℕ) (s : Session) (rest : Sessions) → sessions ≡ (number, s) ∷ rest → session_of number sessions ≡ Some s
found sessions number s rest is = rw (is, eq-eqb number number refl) refl

gone : (sessions : Sessions) (number : ℕ) (s : Session) (rest : Sessions) → sessions ≡ (number, s) ∷ rest → without_session number sessions ≡ rest
gone sessions number s rest is = rw (is, eq-eqb number number refl) refl

close_is : (m : Machine) (number : ℕ) (s : Session) (rest : Sessions) → m.stopped ≡ false → m.sessions ≡ (number, s) ∷ rest
    → transition m (closes number) ≡ succeeds tag.Close (record m { sessions = rest; holder = released number m.holder })
close_is m number s rest works is =
    ap (λ (b : Bool). if b then refuses m IoError else close_session m number (session_of number m.sessions)) works ∙ ap (λ (o : Option Session). close_session m number o) (found m.sessions number s rest is)
    ∙ ap (λ (l : Sessions). succeeds tag.Close (record m { sessions = l; holder = released number m.holder })) (gone m.sessions number s rest is)

module _ (Reads : ReadingRelation) where
  step_closes : (old new : Counts) (m : Machine) (number : ℕ) (s : Session) (rest : Sessions) (answer : Answer) (after : Machine) → m.stopped ≡ false → m.sessions ≡ (number, s) ∷ rest
      → IsStep Reads old new m (closes number) answer after → ClosesOne m rest answer after
  step_closes old new m number s rest answer after works is (by_transition t) =
      let done = t.is ∙ ap (transition m) t.read ∙ close_is m number s rest works is in
      record { answer_is = ap (λ x. x.answer) done; committed = ap (λ x. x.machine.committed) done; sessions = ap (λ x. x.machine.sessions) done; works = ap (λ x. x.machine.stopped) done ∙ works }
  step_closes old new m number s rest answer after works is (for_memory a b may) = absurd may
  step_closes old new m number s rest answer after works is (for_space a b may rises) = absurd may
  step_closes old new m number s rest answer after works is (for_number a b may greatest) = absurd may
  step_closes old new m number s rest answer after works is (for_device t moves may a b failed) = absurd may

-- ---- sessions, in their order

-- the first sessions were closed, and these are left
record ClosesFirst (m : Machine) (rest : Sessions) (after : Machine) : Type 0 where
  committed : after.committed ≡ m.committed
  sessions : after.sessions ≡ rest
  works : after.stopped ≡ false

module _ (Reads : ReadingRelation) where
  ran_closed : (Leave : Stops) (w end : At) (first rest : Sessions) (answers : List Answer) → AreOfOne first → w.standing.machine.stopped ≡ false → w.standing.machine.sessions ≡ first ++ rest
      → RanBy (Happens Reads Leave) w (events_of 0 (closing_events first)) answers end → ClosesFirst w.standing.machine rest end.standing.machine
  ran_closed Leave w end [] rest [] are works is ran = record {
    committed = ap (λ (z : At). z.standing.machine.committed) ran;
    sessions = ap (λ (z : At). z.standing.machine.sessions) ran ∙ is;
    works = ap (λ (z : At). z.standing.machine.stopped) ran ∙ works;
  }
  ran_closed Leave w end (s ∷ first) rest (a ∷ answers) are works is ran =
      let next = ran.0 in
      let step = subst (λ (n : ℕ). IsStep Reads w.counts next.counts w.standing.machine (closes n) a next.standing.machine) (number_back s.0 are.0) ran.1.step in
      let one = step_closes Reads w.counts next.counts w.standing.machine s.0 s.1 (first ++ rest) a next.standing.machine works is step in
      let more = ran_closed Leave next end first rest answers are.1 one.works one.sessions ran.2 in
      record { committed = more.committed ∙ one.committed; sessions = more.sessions; works = more.works }
  ran_closed Leave w end [] rest (a ∷ answers) are works is ran = absurd ran
  ran_closed Leave w end (s ∷ first) rest [] are works is ran = absurd ran

true_is_not_false : true ≡ false → ⊥
true_is_not_false is = cc

-- ---- a machine with no session

holder_none : (h : Option Holder) (sessions : Sessions) → sessions ≡ [] → HoldsInBlock h sessions → h ≡ None
holder_none None sessions is held = refl
holder_none (Some h) [] is held = cc
holder_none (Some h) (s ∷ sessions) is held = cc

machine_is : (m : Machine) (db : Database) → m.committed ≡ db → m.holder ≡ None → m.sessions ≡ [] → m.stopped ≡ false → m ≡ machine_over db
machine_is m db committed holder sessions works =
    ap (λ (z : Database). record m { committed = z }) committed ∙ ap (λ (z : Option Holder). record m { committed = db; holder = z }) holder
    ∙ ap (λ (z : Sessions). record { committed = db; holder = None; sessions = z; stopped = m.stopped }) sessions
    ∙ ap (λ (z : Bool). record { committed = db; holder = None; sessions = []; stopped = z }) works

-- ---- the loop over them

module _ {S X : Type 0} (Reads : ReadingRelation) (state : S → StoreState) where
  -- the first n sessions of a server that works were closed
  abbrev pub ClosesSoFar : Server S X → ℕ → Server S X → Type 0
  ClosesSoFar first n mid = (state first.store).sound → (w : At) → Represents state first w → AreOfOne w.standing.machine.sessions
      → Runs Reads state 0 first (closing_events (take n w.standing.machine.sessions)) (closed_answers (take n w.standing.machine.sessions)) mid

  pub closes_none : (server : Server S X) → ClosesSoFar server 0 server
  closes_none server sound w at are = runs_none Reads state 0 server

  -- where the server stands then, with the other sessions
  record StandsAt (w : At) (n : ℕ) (mid : Server S X) : Type 0 where
    end : At
    represents : Represents state mid end
    closed : ClosesFirst w.standing.machine (drop n w.standing.machine.sessions) end.standing.machine

  stands_at : (first mid : Server S X) (n : ℕ) → first.stopped ≡ false → ClosesSoFar first n mid → (state first.store).sound → (w : At) → Represents state first w → AreOfOne w.standing.machine.sessions → StandsAt w n mid
  stands_at first mid n works far sound w at are =
      let sessions = w.standing.machine.sessions in
      let ran = far sound w at are sound w at in
      record {
        end = ran.0;
        represents = ran.1;
        closed = ran_closed Reads (stops_of (state mid.store).time) w ran.0 (take n sessions) (drop n sessions) (closed_answers (take n sessions)) (of_one_taken n sessions are) (at.stopped ∙ works) (sym (take-append-drop n sessions)) ran.2;
      }

  -- one session more
  pub closes_more : (first mid new : Server S X) (n own : ℕ) (answer : Answer) → first.stopped ≡ false → ((state first.store).sound → (state mid.store).sound) → ClosesSoFar first n mid
      → ((w : At) → Represents state mid w → Some own ≡ option_map (λ e. own_number e.0) (slice_get (own_sessions 0 w.standing.machine.sessions) 0)) → Steps Reads state 0 mid (event.Close own) answer new
      → ClosesSoFar first (n + 1) new
  closes_more first mid new n own answer works lasts far here step sound w at are =
      let sessions = w.standing.machine.sessions in
      let stands = stands_at first mid n works far sound w at are in
      let left : AreOfOne stands.end.standing.machine.sessions = subst AreOfOne (sym stands.closed.sessions) (of_one_left n sessions are) in
      let front = first_of_all stands.end.standing.machine.sessions own left (here stands.end stands.represents) in
      let next = step (lasts sound) stands.end stands.represents in
      let number : number_in 0 own ≡ front.session.0 = ap (number_in 0) front.named ∙ number_back front.session.0 front.one in
      let stepped = subst (λ (k : ℕ). IsStep Reads stands.end.counts next.0.counts stands.end.standing.machine (closes k) answer next.0.standing.machine) number next.2.step in
      let one = step_closes Reads stands.end.counts next.0.counts stands.end.standing.machine front.session.0 front.session.1 front.rest answer next.0.standing.machine stands.closed.works front.is stepped in
      let more = runs_more Reads state 0 first mid new (closing_events (take n sessions)) (closed_answers (take n sessions)) (event.Close own) answer lasts (far sound w at are) step in
      let now : take (n + 1) sessions ≡ take n sessions ++ front.session ∷ [] = take_more_next n sessions front.session front.rest (sym stands.closed.sessions ∙ front.is) in
      let events : closing_events (take (n + 1) sessions) ≡ closing_events (take n sessions) ++ event.Close own ∷ [] =
      ap closing_events now ∙ map-append (λ (s : ℕ × Session). event.Close (own_number s.0)) (take n sessions) (front.session ∷ [])
      ∙ ap (λ (k : ℕ). closing_events (take n sessions) ++ event.Close k ∷ []) (sym front.named) in
      let answers : closed_answers (take (n + 1) sessions) ≡ closed_answers (take n sessions) ++ answer ∷ [] =
      ap closed_answers now ∙ map-append (λ (s : ℕ × Session). Done tag.Close None None) (take n sessions) (front.session ∷ []) ∙ ap (λ a. closed_answers (take n sessions) ++ a ∷ []) (sym one.answer_is) in
      rw (events, answers) more

  -- ---- the end

  -- wherever the server stands, its sessions are those of the one client
  of_one_at : (first : Server S X) → StandsWithinLimit state first → (w : At) → Represents state first w → AreOfOne w.standing.machine.sessions
  of_one_at first within w at = subst AreOfOne (within.1.1.sessions ∙ sym at.sessions) within.1.2

  -- no session is left
  pub closes_all : (first new : Server S X) (n : ℕ) → first.stopped ≡ false → StandsWithinLimit state first → ClosesSoFar first n new
      → ((w end : At) → Represents state first w → Represents state new end → end.standing.machine.sessions ≡ drop n w.standing.machine.sessions → end.standing.machine.sessions ≡ [])
      → Closes Reads state first new
  closes_all first new n works within far done = record {
    stopped = λ is. absurd (true_is_not_false (sym is ∙ works));
    closed = λ runs w at.
        let sessions = w.standing.machine.sessions in
        let are = of_one_at first within w at in
        let stands = stands_at first new n works far within.0 w at are in
        let none : drop n sessions ≡ [] = sym stands.closed.sessions ∙ done w stands.end at stands.represents stands.closed.sessions in
        let all : take n sessions ≡ sessions = sym (append-nil (take n sessions)) ∙ ap (λ l. take n sessions ++ l) (sym none) ∙ take-append-drop n sessions in
        subst (λ l. Runs Reads state 0 first (closing_events l) (closed_answers l) new) all (far within.0 w at are);
    left = λ runs w at.
        let stands = stands_at first new n works far within.0 w at (of_one_at first within w at) in
        let none = done w stands.end at stands.represents stands.closed.sessions in
        let held = ((stands.represents.works (sym stands.represents.stopped ∙ stands.closed.works)).1).in_block in (
          stands.end,
          stands.represents,
          machine_is stands.end.standing.machine w.standing.machine.committed stands.closed.committed
              (holder_none stands.end.standing.machine.holder new.sessions.entries (sym stands.represents.sessions ∙ none) held) none stands.closed.works,
        );
  }

  -- no session is open
  pub none_left : (first new : Server S X) (n : ℕ) → StandsWithinLimit state first → ((w : At) → Represents state new w → None ≡ option_map (λ e. own_number e.0) (slice_get (own_sessions 0 w.standing.machine.sessions) 0))
      → (w end : At) → Represents state first w → Represents state new end → end.standing.machine.sessions ≡ drop n w.standing.machine.sessions → end.standing.machine.sessions ≡ []
  none_left first new n within here w end at stands rest =
      none_open end.standing.machine.sessions (subst AreOfOne (sym rest) (of_one_left n w.standing.machine.sessions (of_one_at first within w at))) (here end stands)

  -- as many were closed as may be open
  pub limit_reached : (first new : Server S X) (n : ℕ) → 256 ≤ n → StandsWithinLimit state first
      → (w end : At) → Represents state first w → Represents state new end → end.standing.machine.sessions ≡ drop n w.standing.machine.sessions → end.standing.machine.sessions ≡ []
  limit_reached first new n most within w end at stands rest =
      let same = ap length (at.sessions ∙ sym within.1.1.sessions) in
      let few = within.1.3 in
      rest ∙ drop_all n w.standing.machine.sessions (omega (arith, most, few, same))

  -- a server that has stopped closes none
  pub stopped_closes : (server : Server S X) → server.stopped ≡ true → Closes Reads state server server
  stopped_closes server is = record { stopped = λ _. refl; closed = λ works. absurd (true_is_not_false (sym is ∙ works)); left = λ works. absurd (true_is_not_false (sym is ∙ works)) }

  -- ---- after a script

  -- a run keeps to the limit
  pub within_then : (old mid : Server S X) (events : List Event) (answers : List Answer) → ((state old.store).sound → (state mid.store).sound) → Runs Reads state 0 old events answers mid
      → StandsWithinLimit state old → StandsWithinLimit state mid
  within_then old mid events answers lasts ran within =
      let there = ran within.0 within.1.0 within.1.1 in
      let few = ran_few Reads (stops_of (state mid.store).time) within.1.0 there.0 events answers (within.1.2, within.1.3) there.2 in
      (lasts within.0, (there.0, there.1, few.0, few.1))

  closed_at : (mid new : Server S X) (at : At) (stopped : Bool) → mid.stopped ≡ stopped → Represents state mid at → Closes Reads state mid new → LeavesNoSession state new
  closed_at mid new at true is stands closed =
      let same = closed.stopped is in
      (at, rw same stands, λ works. absurd (true_is_not_false (sym is ∙ sym (ap (λ (s : Server S X). s.stopped) same) ∙ works)))
  closed_at mid new at false is stands closed =
      let left = closed.left is at stands in
      (left.0, left.1, λ works. left.2 ∙ ap machine_over (sym (ap (λ (m : Machine). m.committed) left.2)))

  pub leaves_none : (mid new : Server S X) → StandsWithinLimit state mid → Closes Reads state mid new → LeavesNoSession state new
  leaves_none mid new within closed = closed_at mid new within.1.0 mid.stopped refl within.1.1 closed
