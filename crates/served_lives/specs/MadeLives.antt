-- The lives of a server that takes turns for clients.
use Rattle.std.specs.Prelude.{◌≡◌, ◌⊎◌, ℕ, List, ◌++◌}
use Rattle.sql_types.specs.declared.answer.Answer.{Answer}
use Rattle.sql_types.specs.declared.event.Event.{Event}
use Rattle.store.specs.Store.{StoreState}
use Rattle.abstract_database.specs.Database.{Database}
use Rattle.abstract_database.specs.Runs.{ReadingRelation, IsFoundAt, At}
use Rattle.client_laws.specs.Renumbered.{IsOneToOne}
use Rattle.server.specs.declared.server.Server.{Server}
use Rattle.server.specs.Runs.{Steps as StepsOfServer}
use Rattle.server.specs.Standing.{Represents, stops_of}
use Rattle.talks.specs.declared.talk.Talk.{Ghosts as TalkGhosts}
use Rattle.talks.specs.declared.clients.ServedClients.{Ghosts as ClientsGhosts}
use Rattle.talks.specs.Turns.{Exchange, Turn, Steps, TakesTurns}
use Rattle.served_machine.specs.declared.machine.ServedMachine.{ServedMachine}
use Rattle.served_machine.specs.Machines.{machine_of}
use Rattle.served_tenants.specs.Exchanges.{CarriesOutAt, exchanges_of}
use Rattle.served_lives.specs.ServedLives.{opened_over, ServedLife}
use Rattle.served_lives.specs.SaidLives.{AreTurnsOf}

-- a life that did this up to its stop, at these places of clients, and left this
pub record IsLifeOf {Reads : ReadingRelation} {db : Database} (life : ServedLife Reads db) (place : ℕ → ℕ) (done : List Exchange) (left : Database) : Type 0 where
  pub stands_at : life.place ≡ place
  pub has_done : life.done ≡ done
  pub has_left : life.left ≡ left

-- A server that was just opened over this database took these turns for clients, and then made these steps of a turn that was under way. Whatever a stop
-- may leave where it then stands, there is a life that did all of this and left that; and the turns are those of which clients had been told
abbrev pub turns_make_lives : (S X T C : Type 0) (Reads : ReadingRelation) (state : S → StoreState) (t : TalkGhosts T) (k : ClientsGhosts C T) → Type 0
turns_make_lives S X T C Reads state t k = (db : Database) (w : At) → w.standing ≡ opened_over db → (place : ℕ → ℕ) → IsOneToOne place →
    (old : ServedMachine S X) (before : C) (turns : List Turn) (new : ServedMachine S X) (after : C) (took : TakesTurns (machine_of Reads state) t k old before turns new after) →
    (steps : List Exchange) (last : ServedMachine S X) → Steps (machine_of Reads state) t k after new steps last →
    (state old.server.store).sound → Represents state old.server w →
    (end : At) × Represents state last.server end × ((left : Database) → IsFoundAt end.standing left →
    (life : ServedLife Reads db) × IsLifeOf life place (exchanges_of Reads state t k old before turns new after took ++ steps) left × AreTurnsOf state t k life old before turns new after took)

-- Within a step of a server a stop leaves what one before the step may leave, or what one behind it may, and nothing else
abbrev pub stops_fall_between_steps : (S X : Type 0) (Reads : ReadingRelation) (state : S → StoreState) → Type 0
stops_fall_between_steps S X Reads state = (client : ℕ) (event : Event) (answer : Answer) (old new : Server S X) → StepsOfServer Reads state client old event answer new →
    (state old.store).sound → (w : At) → Represents state old w →
    (next : At) × Represents state new next × CarriesOutAt Reads w client event answer next
    × stops_of (state new.store).time w.moment next.moment (λ db. IsFoundAt w.standing db ⊎ IsFoundAt next.standing db)
