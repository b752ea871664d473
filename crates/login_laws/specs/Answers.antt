-- Whose sessions the answers are of.
use Rattle.std.specs.Prelude.{◌≡◌, ◌⊎◌, ◌<◌, ◌^◌, ℕ, List, ◌∷◌, ◌++◌}
use Rattle.std.specs.List.{AllByRecursion}
use Rattle.sql_types.specs.declared.event.Event.TheVariants as event
use Rattle.store.specs.Store.{StoreState}
use Rattle.abstract_database.specs.Lists.{TheName}
use Rattle.abstract_database.specs.Machine.{number_in}
use Rattle.abstract_database.specs.Runs.{ReadingRelation}
use Rattle.talks.specs.declared.want.Want.{Want}
use Rattle.talks.specs.declared.want.Want.TheVariants as want
use Rattle.talks.specs.declared.talk.Talk.{Ghosts as TalkGhosts}
use Rattle.talks.specs.declared.clients.ServedClients.{Ghosts as ClientsGhosts}
use Rattle.talks.specs.Wants.{OpensSession, TellsOpened}
use Rattle.talks.specs.Turns.{Turn, TakesTurns, own_learnt}
use Rattle.server.specs.declared.server.Server.{Server}
use Rattle.served_machine.specs.declared.machine.ServedMachine.{ServedMachine}
use Rattle.served_machine.specs.Machines.{machine_of}
use Rattle.served_machine.specs.Admitted.{WantsAdmitted}
use Rattle.served_machine.specs.Sessions.{HasOwnSession, IsSoundServer}
use Rattle.login_laws.specs.Done.{Done, WasDone, done_for, told_in, all_done}

-- this is a step or a question on the session that its client numbers so
abbrev pub IsOnSession : Want → ℕ → Type 0
IsOnSession (want.Event (event.Statement session text)) n = session ≡ n
IsOnSession (want.Event (event.Close session)) n = session ≡ n
IsOnSession (want.Standing session) n = session ≡ n
IsOnSession (want.Description session text) n = session ≡ n
IsOnSession _ n = ⊥

-- a client is answered of a session that has this number in the server, and was open for this role where the server stood
pub record IsAnswerOf {S X : Type 0} (state : S → StoreState) (x : Done S X) (number : ℕ) (login : TheName) : Type 0 where
  pub own : ℕ
  pub is_on : IsOnSession x.exchange.want own
  pub number_is : number ≡ number_in x.exchange.client own
  pub is_open : HasOwnSession state x.server x.exchange.client own login

-- this session of a client was open where the server stood before each of these things was done
abbrev pub IsOpenThroughout : {S X : Type 0} → (S → StoreState) → List (Done S X) → (c n : ℕ) → TheName → Type 0
IsOpenThroughout state xs c n login = AllByRecursion (λ x. HasOwnSession state x.server c n login) xs

-- it was open at first, and stayed so
abbrev pub StayedOpen : {S X : Type 0} → (S → StoreState) → Server S X → List (Done S X) → (c n : ℕ) → TheName → Type 0
StayedOpen state first xs c n login = HasOwnSession state first c n login × IsOpenThroughout state xs c n login

-- this opened a session of its client: that was wanted, of whom its place admitted where the server stood, and is answered so; its number had no session
-- before, for whatever role, and this one stayed open since
pub record IsOpening {S X : Type 0} (state : S → StoreState) (x : Done S X) (later : List (Done S X)) (n : ℕ) (login : TheName) : Type 0 where
  pub opens : OpensSession x.exchange.want n login
  pub let_in : WantsAdmitted state x.server x.exchange.want n login
  pub answered : TellsOpened x.exchange.reply
  pub was_new : (any : TheName) → HasOwnSession state x.server x.exchange.client n any → ⊥
  pub stays : IsOpenThroughout state later x.exchange.client n login

-- one of these things was done for this client, and opened this session of it
pub record WasOpenedFor {S X : Type 0} (state : S → StoreState) (xs : List (Done S X)) (c n : ℕ) (login : TheName) : Type 0 where
  pub past : List (Done S X)
  pub opening : Done S X
  pub later : List (Done S X)
  pub is_done : xs ≡ past ++ opening ∷ later
  pub client : opening.exchange.client ≡ c
  pub opened : IsOpening state opening later n login

module _ (S X T C : Type 0) (Reads : ReadingRelation) (state : S → StoreState) (t : TalkGhosts T) (k : ClientsGhosts C T) where
  -- each thing was done by the server where it stood
  abbrev pub all_was_done : Type 0
  all_was_done = (old : ServedMachine S X) (before : C) (turns : List Turn) (new : ServedMachine S X) (after : C) (took : TakesTurns (machine_of Reads state) t k old before turns new after) →
      AllByRecursion (WasDone Reads state) (all_done Reads state t k old before turns new after took)

  -- and what a client learns is what was told of the things that were done for it, and no other
  abbrev pub clients_learn_their_own : Type 0
  clients_learn_their_own = (old : ServedMachine S X) (before : C) (turns : List Turn) (new : ServedMachine S X) (after : C) (took : TakesTurns (machine_of Reads state) t k old before turns new after) (c : ℕ) →
      own_learnt c turns ≡ told_in (done_for c (all_done Reads state t k old before turns new after took))

  -- an answer of a session that is number m of client d is told to client d; the session has been open since before these turns, or was opened in them
  -- for this client
  abbrev pub answers_are_of_own_sessions : Type 0
  answers_are_of_own_sessions = (old : ServedMachine S X) (before : C) (turns : List Turn) (new : ServedMachine S X) (after : C) (took : TakesTurns (machine_of Reads state) t k old before turns new after) →
      IsSoundServer state old.server → (past : List (Done S X)) (x : Done S X) (later : List (Done S X)) → all_done Reads state t k old before turns new after took ≡ past ++ x ∷ later →
      (d m : ℕ) (login : TheName) → m < 2 ^ 32 → IsAnswerOf state x (number_in d m) login →
      (x.exchange.client ≡ d) × (StayedOpen state old.server past d m login ⊎ WasOpenedFor state past d m login)
