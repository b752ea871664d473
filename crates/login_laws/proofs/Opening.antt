-- Sessions that are open where the server stood: by what was done before.
use Rattle.std.specs.Prelude.{◌<◌, ◌^◌}
use Rattle.std.proofs.Common.{◌≡◌, ◌∙◌, ◌⊎◌, ℕ, List, [], ◌∷◌, ◌++◌, refl, sym, ap, subst, inl, inr, arith}
use Rattle.std.proofs.lemmas.List.{append-nil, append_assoc}
use Rattle.store.specs.Store.{StoreState}
use Rattle.abstract_database.specs.Lists.{TheName}
use Rattle.abstract_database.specs.Machine.{number_in}
use Rattle.abstract_database.specs.Runs.{ReadingRelation}
use Rattle.server.specs.declared.server.Server.{Server}
use Rattle.talks.specs.declared.talk.Talk.{Ghosts as TalkGhosts}
use Rattle.talks.specs.declared.clients.ServedClients.{Ghosts as ClientsGhosts}
use Rattle.talks.specs.Turns.{Exchange, Turn, steps, asks, waits, leaves, ends, Steps, TakesTurn, TakesTurns}
use Rattle.served_machine.specs.declared.machine.ServedMachine.{ServedMachine}
use Rattle.served_machine.specs.Machines.{machine_of}
use Rattle.served_machine.specs.Served.{TakesStep}
use Rattle.served_machine.specs.Sessions.{HasOwnSession, IsSoundServer}
use Rattle.served_machine.specs.ServedLaws.{steps_sound, steps_open, tells_open, closes_open}
use Rattle.login_laws.specs.Done.{Done, done_by_steps, done_in, all_done}
use Rattle.login_laws.specs.Answers.{IsOpenThroughout, StayedOpen, WasOpenedFor, IsAnswerOf}
use Rattle.login_laws.proofs.Doing.{all_on, turn_keeps}
use Rattle.login_laws.proofs.NewSessions.{opens_new}

-- the numbers of two clients' sessions are apart
client_apart : (c d n k : ℕ) → n < 2 ^ 32 → k < 2 ^ 32 → number_in d n ≡ number_in c k → c ≡ d
client_apart c d n k small less same = omega (arith, small, less, same)

session_apart : (c d n k : ℕ) → n < 2 ^ 32 → k < 2 ^ 32 → number_in d n ≡ number_in c k → k ≡ n
session_apart c d n k small less same = omega (arith, small, less, same)

module _ {S X : Type 0} (state : S → StoreState) where
  -- what was opened, and what was there, stays open through more
  opened_on : (xs ys : List (Done S X)) (c n : ℕ) (login : TheName) → IsOpenThroughout state ys c n login → WasOpenedFor state xs c n login → WasOpenedFor state (xs ++ ys) c n login
  opened_on xs ys c n login through it = record {
    past = it.past;
    opening = it.opening;
    later = it.later ++ ys;
    is_done = ap (λ (l : List (Done S X)). l ++ ys) it.is_done ∙ append_assoc it.past (it.opening ∷ it.later) ys;
    client = it.client;
    opened = record {
      opens = it.opened.opens;
      let_in = it.opened.let_in;
      answered = it.opened.answered;
      was_new = it.opened.was_new;
      stays = all_on (λ (x : Done S X). HasOwnSession state x.server it.opening.exchange.client n login) it.later ys it.opened.stays
          (subst (λ (d : ℕ). IsOpenThroughout state ys d n login) (sym it.client) through);
    };
  }

  stayed_on : (first : Server S X) (xs ys : List (Done S X)) (c n : ℕ) (login : TheName) → IsOpenThroughout state ys c n login → StayedOpen state first xs c n login → StayedOpen state first (xs ++ ys) c n login
  stayed_on first xs ys c n login through it = (it.0, all_on (λ (x : Done S X). HasOwnSession state x.server c n login) xs ys it.1 through)

module _ {S X : Type 0} (Reads : ReadingRelation) (state : S → StoreState) (first : Server S X) where
  -- where a server stands each session of a client was open at first and stayed so, or was opened in these
  abbrev pub ComesFrom : List (Done S X) → Server S X → Type 0
  ComesFrom past now = (c n : ℕ) (login : TheName) → HasOwnSession state now c n login → StayedOpen state first past c n login ⊎ WasOpenedFor state past c n login

  -- so it was before each of these, after those
  abbrev pub EachComesFrom : List (Done S X) → List (Done S X) → Type 0
  EachComesFrom past [] = Unit {0}
  EachComesFrom past (x ∷ xs) = ComesFrom past x.server × EachComesFrom (past ++ x ∷ []) xs

  each_on : (past xs ys : List (Done S X)) → EachComesFrom past xs → EachComesFrom (past ++ xs) ys → EachComesFrom past (xs ++ ys)
  each_on past [] ys each next = subst (λ (l : List (Done S X)). EachComesFrom l ys) (append-nil past) next
  each_on past (x ∷ xs) ys each next =
      (each.0, each_on (past ++ x ∷ []) xs ys each.1 (subst (λ (l : List (Done S X)). EachComesFrom l ys) (sym (append_assoc past (x ∷ []) xs)) next))

  pick_from : (before past later : List (Done S X)) (x : Done S X) → EachComesFrom before (past ++ x ∷ later) → ComesFrom (before ++ past) x.server
  pick_from before [] later x each = subst (λ (l : List (Done S X)). ComesFrom l x.server) (sym (append-nil before)) each.0
  pick_from before (y ∷ past) later x each =
      subst (λ (l : List (Done S X)). ComesFrom l x.server) (append_assoc before (y ∷ []) past) (pick_from (before ++ y ∷ []) past later x each.1)

  on : (past ys : List (Done S X)) (c n : ℕ) (login : TheName) → IsOpenThroughout state ys c n login → StayedOpen state first past c n login ⊎ WasOpenedFor state past c n login
      → StayedOpen state first (past ++ ys) c n login ⊎ WasOpenedFor state (past ++ ys) c n login
  on past ys c n login through (inl was) = inl (stayed_on state first past ys c n login through was)
  on past ys c n login through (inr opened) = inr (opened_on state past ys c n login through opened)

  -- one step more
  step_on : (past : List (Done S X)) (x : Done S X) (next : Server S X) → IsSoundServer state x.server → TakesStep Reads state x.exchange.client x.exchange.want x.exchange.reply x.server next
      → ComesFrom past x.server → ComesFrom (past ++ x ∷ []) next
  step_on past x next sound made come d n login has = elim (steps_open Reads state x.server next x.exchange.client x.exchange.want x.exchange.reply d n login sound made has) [
    | inl before ↦ on past (x ∷ []) d n login (before, tt) (come d n login before)
    | inr it ↦
        let new = opens_new Reads state x.server next x.exchange.client x.exchange.want x.exchange.reply n login sound it.1 it.2 made in
        inr (record {
          past = past;
          opening = x;
          later = [];
          is_done = refl;
          client = it.0;
          opened = record { opens = it.1; let_in = new.0; answered = it.2; was_new = new.1; stays = tt };
        })
  ]

  -- nothing more is open, and what is open was so through these
  more_none : (past ys : List (Done S X)) (old new : Server S X) → ((d n : ℕ) (login : TheName) → HasOwnSession state new d n login → HasOwnSession state old d n login)
      → ((d n : ℕ) (login : TheName) → HasOwnSession state old d n login → IsOpenThroughout state ys d n login) → ComesFrom past old → ComesFrom (past ++ ys) new
  more_none past ys old new opens through come d n login has = let had = opens d n login has in on past ys d n login (through d n login had) (come d n login had)

  module _ {T C : Type 0} (t : TalkGhosts T) (k : ClientsGhosts C T) where
    -- what is said of some steps, a turn, and all turns
    abbrev Goes : List (Done S X) → List (Done S X) → Server S X → Type 0
    Goes past xs now = EachComesFrom past xs × ComesFrom (past ++ xs) now

    by_steps : (past : List (Done S X)) (clients : C) (old : ServedMachine S X) (ds : List Exchange) (new : ServedMachine S X) (made : Steps (machine_of Reads state) t k clients old ds new) → IsSoundServer state old.server
        → ComesFrom past old.server → Goes past (done_by_steps Reads state t k clients old ds new made) new.server
    by_steps past clients old [] new made sound come =
        (tt, subst (λ (l : List (Done S X)). ComesFrom l new.server) (sym (append-nil past)) (subst (λ (m : ServedMachine S X). ComesFrom past m.server) (sym made) come))
    by_steps past clients old (d ∷ ds) new made sound come =
        let x : Done S X = record { server = old.server; exchange = d } in
        let rest = done_by_steps Reads state t k clients made.0 ds new made.5 in
        let next = by_steps (past ++ x ∷ []) clients made.0 ds new made.5 (steps_sound Reads state old.server made.0.server d.client d.want d.reply made.4 sound) (step_on past x made.0.server sound made.4 come) in
        ((come, next.0), subst (λ (l : List (Done S X)). ComesFrom l new.server) (append_assoc past (x ∷ []) rest) next.1)

    here : (past : List (Done S X)) (old : ServedMachine S X) (before : C) (turn : Turn) (new : ServedMachine S X) (after : C) (took : TakesTurn (machine_of Reads state) t k old before turn new after) → IsSoundServer state old.server
        → ComesFrom past old.server → Goes past (done_in Reads state t k old before turn new after took) new.server
    here past old before (steps d ds) new after took sound come = by_steps past before old (d ∷ ds) new took.0 sound come
    here past old before (asks d) new after took sound come =
        ((come, tt), more_none past (record { server = old.server; exchange = d } ∷ []) old.server new.server (λ e n login has. tells_open Reads state old.server new.server d.client d.want d.reply e n login sound took.2 has) (λ e n login had. (had, tt)) come)
    here past old before (waits client w) new after took sound come =
        (tt, more_none past [] old.server new.server (λ e n login has. subst (λ (m : ServedMachine S X). HasOwnSession state m.server e n login) took.2 has) (λ e n login had. tt) come)
    here past old before (leaves client) new after took sound come =
        (tt, more_none past [] old.server new.server (λ e n login has. closes_open Reads state old.server new.server client e n login sound took.1 has) (λ e n login had. tt) come)
    here past old before (ends client w) new after took sound come =
        (tt, more_none past [] old.server new.server (λ e n login has. subst (λ (m : ServedMachine S X). HasOwnSession state m.server e n login) took.4 has) (λ e n login had. tt) come)

    all_from : (past : List (Done S X)) (old : ServedMachine S X) (before : C) (turns : List Turn) (new : ServedMachine S X) (after : C) (took : TakesTurns (machine_of Reads state) t k old before turns new after) → IsSoundServer state old.server
        → ComesFrom past old.server → Goes past (all_done Reads state t k old before turns new after took) new.server
    all_from past old before [] new after took sound come =
        (tt, subst (λ (l : List (Done S X)). ComesFrom l new.server) (sym (append-nil past)) (subst (λ (m : ServedMachine S X). ComesFrom past m.server) (sym took.0) come))
    all_from past old before (turn ∷ turns) new after took sound come =
        let xs = done_in Reads state t k old took.0 turn took.1 took.2 took.4 in
        let ys = all_done Reads state t k took.1 took.2 turns new after took.6 in
        let now = here past old took.0 turn took.1 took.2 took.4 sound come in
        let next = all_from (past ++ xs) took.1 took.2 turns new after took.6 (turn_keeps Reads state t k old took.0 turn took.1 took.2 took.4 sound) now.1 in
        (each_on past xs ys now.0 next.0, subst (λ (l : List (Done S X)). ComesFrom l new.server) (append_assoc past xs ys) next.1)

-- ---- what follows of all turns

module _ {S X T C : Type 0} (Reads : ReadingRelation) (state : S → StoreState) (t : TalkGhosts T) (k : ClientsGhosts C T) (old : ServedMachine S X) (before : C) (turns : List Turn) (new : ServedMachine S X) (after : C)
    (took : TakesTurns (machine_of Reads state) t k old before turns new after) (sound : IsSoundServer state old.server) where
  abbrev pub done : List (Done S X)
  done = all_done Reads state t k old before turns new after took

  pub all_opened : (c n : ℕ) (login : TheName) → HasOwnSession state new.server c n login → StayedOpen state old.server done c n login ⊎ WasOpenedFor state done c n login
  all_opened = (all_from Reads state old.server t k [] old before turns new after took sound (λ c n login has. inl (has, tt))).1

  pub open_there : (past : List (Done S X)) (x : Done S X) (later : List (Done S X)) → done ≡ past ++ x ∷ later → ComesFrom Reads state old.server past x.server
  open_there past x later is =
      let each = (all_from Reads state old.server t k [] old before turns new after took sound (λ c n login has. inl (has, tt))).0 in
      pick_from Reads state old.server [] past later x (subst (λ (l : List (Done S X)). EachComesFrom Reads state old.server [] l) is each)

  pub answered : (past : List (Done S X)) (x : Done S X) (later : List (Done S X)) → done ≡ past ++ x ∷ later → (d m : ℕ) (login : TheName) → m < 2 ^ 32 → IsAnswerOf state x (number_in d m) login
      → (x.exchange.client ≡ d) × (StayedOpen state old.server past d m login ⊎ WasOpenedFor state past d m login)
  answered past x later is d m login small answer =
      let own = client_apart x.exchange.client d m answer.own small answer.is_open.2 answer.number_is in
      let same = session_apart x.exchange.client d m answer.own small answer.is_open.2 answer.number_is in
      (own, open_there past x later is d m login (subst (λ (n : ℕ). HasOwnSession state x.server d n login) same (subst (λ (c : ℕ). HasOwnSession state x.server c answer.own login) own answer.is_open)))
