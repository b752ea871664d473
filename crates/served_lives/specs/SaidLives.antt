-- What two lives say to each client of a tenant.
use Rattle.std.specs.Prelude.{◌≡◌, ℕ, true, List, ◌++◌}
use Rattle.store.specs.Store.{StoreState}
use Rattle.abstract_database.specs.Database.{Database}
use Rattle.abstract_database.specs.Runs.{ReadingRelation}
use Rattle.talks.specs.Conversations.{ClientState, IsAwaited, Passes}
use Rattle.talks.specs.declared.talk.Talk.{Ghosts as TalkGhosts}
use Rattle.talks.specs.declared.clients.ServedClients.{Ghosts as ClientsGhosts}
use Rattle.talks.specs.Turns.{Exchange, Turn, TakesTurns, own_learnt, IsCourse}
use Rattle.served_machine.specs.declared.machine.ServedMachine.{ServedMachine}
use Rattle.served_machine.specs.Machines.{machine_of}
use Rattle.served_tenants.specs.Exchanges.{exchanges_of}
use Rattle.served_tenants.specs.Saying.{AreFronts, SpeaksOnce}
use Rattle.served_tenants.specs.ServedTenants.{ClientsOfTenant, TellAlike}
use Rattle.served_tenants.specs.SaidTenants.{NeverParts, came_of, said_to, WasSaidAll}
use Rattle.served_lives.specs.ServedLives.{ServedLife}

-- All that was done in these turns a life had done first. What it had done behind that are steps of a turn that was under way at the stop: nobody was
-- told of them.
pub record AreTurnsOf {S X T C : Type 0} {Reads : ReadingRelation} {db : Database} (state : S → StoreState) (t : TalkGhosts T) (k : ClientsGhosts C T) (life : ServedLife Reads db) (old : ServedMachine S X) (before : C) (turns : List Turn) (new : ServedMachine S X) (after : C)
    (took : TakesTurns (machine_of Reads state) t k old before turns new after) : Type 0 where
  pub untold : List Exchange
  pub first : exchanges_of Reads state t k old before turns new after took ++ untold ≡ life.done

-- Two lives that never part, in a protocol whose conversations go alike. A client of the tenant at one place comes to both, with conversations that
-- begin alike. Of the same bytes it is said the same, as far as they have come; and where no more is said in both, all the same
abbrev pub lives_say_the_same : (S Z X Y T C D : Type 0) (Reads : ReadingRelation) (state : S → StoreState) (state_there : Z → StoreState) (t : TalkGhosts T) (k : ClientsGhosts C T) (j : ClientsGhosts D T) (Alike : T → T → Type 0) → Type 0
lives_say_the_same S Z X Y T C D Reads state state_there t k j Alike = SpeaksOnce t Alike → (a : ClientsOfTenant) (d e : Database) (life : ServedLife Reads d) (other : ServedLife Reads e) →
    (told : TellAlike Reads a life.place other.place life.begin other.begin life.done other.done) → NeverParts told →
    (old : ServedMachine S X) (before : C) (turns : List Turn) (new : ServedMachine S X) (after : C) (took : TakesTurns (machine_of Reads state) t k old before turns new after) →
    (old_there : ServedMachine Z Y) (before_there : D) (turns_there : List Turn) (new_there : ServedMachine Z Y) (after_there : D) (took_there : TakesTurns (machine_of Reads state_there) t j old_there before_there turns_there new_there after_there) →
    AreTurnsOf state t k life old before turns new after took → AreTurnsOf state_there t j other old_there before_there turns_there new_there after_there took_there →
    (c b : ℕ) → life.place c ≡ other.place b → a.clients (life.place c) ≡ true → IsCourse c turns → IsCourse b turns_there →
    let made = k.makes (k.maker before) in let made_there = j.makes (j.maker before_there) in
    ((x y : T) → t.starts x → made x → t.starts y → made_there y → Alike x y) →
    (from to from_there to_there : ClientState T) → IsAwaited from → IsAwaited from_there →
    (here : Passes t made from (own_learnt c turns) to) (beyond : Passes t made_there from_there (own_learnt b turns_there) to_there) →
    (AreFronts (came_of t made from to (own_learnt c turns) here) (came_of t made_there from_there to_there (own_learnt b turns_there) beyond) →
    AreFronts (said_to t made from to (own_learnt c turns) here) (said_to t made_there from_there to_there (own_learnt b turns_there) beyond))
    × (came_of t made from to (own_learnt c turns) here ≡ came_of t made_there from_there to_there (own_learnt b turns_there) beyond →
    WasSaidAll t made from to (own_learnt c turns) here → WasSaidAll t made_there from_there to_there (own_learnt b turns_there) beyond →
    said_to t made from to (own_learnt c turns) here ≡ said_to t made_there from_there to_there (own_learnt b turns_there) beyond)
