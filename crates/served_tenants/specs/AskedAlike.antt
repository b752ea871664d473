-- From the same bytes the clients of a tenant ask the same.
use Rattle.std.specs.Prelude.{◌≡◌, ℕ, true, List, [], ◌∷◌, ◌++◌, map, filter, Option, Some, None}
use Rattle.store.specs.Store.{StoreState}
use Rattle.abstract_database.specs.Runs.{ReadingRelation}
use Rattle.client_laws.specs.Renumbered.{IsOneToOne}
use Rattle.talks.specs.Conversations.{ClientState, IsAwaited, Passes}
use Rattle.talks.specs.Wants.{Learnt}
use Rattle.talks.specs.declared.talk.Talk.{Ghosts as TalkGhosts}
use Rattle.talks.specs.declared.clients.ServedClients.{Ghosts as ClientsGhosts}
use Rattle.talks.specs.Turns.{Turn, steps, asks, waits, leaves, ends, TakesTurn, TakesTurns, own_learnt}
use Rattle.served_machine.specs.declared.machine.ServedMachine.{ServedMachine}
use Rattle.served_machine.specs.Machines.{machine_of}
use Rattle.served_tenants.specs.Exchanges.{exchanges_of}
use Rattle.served_tenants.specs.Saying.{AreFronts, SpeaksOnce}
use Rattle.served_tenants.specs.SaidTenants.{came_of}
use Rattle.served_tenants.specs.ServedTenants.{ClientsOfTenant, own_exchanges, AskAlike}

-- ---- an order

-- whose turn it is: a client is told something, or its session of this number is closed, which it has left open
abbrev pub Service : Type 0
Service = ℕ × Option ℕ

module _ {S X T C : Type 0} (Reads : ReadingRelation) (state : S → StoreState) (t : TalkGhosts T) (k : ClientsGhosts C T) where
  abbrev pub services_in : (old : ServedMachine S X) (before : C) (turn : Turn) (new : ServedMachine S X) (after : C) → TakesTurn (machine_of Reads state) t k old before turn new after → List Service
  services_in old before (steps d ds) new after took = map (λ e. (e.client, None)) (d ∷ ds)
  services_in old before (asks d) new after took = (d.client, None) ∷ []
  services_in old before (waits c w) new after took = []
  services_in old before (leaves c) new after took = (c, Some took.1.closes.session) ∷ []
  services_in old before (ends c why) new after took = []

  -- in the order of the turns
  abbrev pub services_of : (old : ServedMachine S X) (before : C) (turns : List Turn) (new : ServedMachine S X) (after : C) → TakesTurns (machine_of Reads state) t k old before turns new after → List Service
  services_of old before [] new after took = []
  services_of old before (turn ∷ turns) new after took = services_in old took.0 turn took.1 took.2 took.4 ++ services_of took.1 took.2 turns new after took.6

-- those of a tenant's clients, each by its place
abbrev pub own_services : ClientsOfTenant → (ℕ → ℕ) → List Service → List Service
own_services a place services = map (λ s. (place s.0, s.1)) (filter (λ s. a.clients (place s.0)) services)

-- ---- the law

-- a client has come in both runs with the same bytes, as far as they have come, and was served so
pub record ComesAlike {T : Type 0} (t : TalkGhosts T) (made made_there : T → Type 0) (from to : ClientState T) (xs : List Learnt) (from_there to_there : ClientState T) (ys : List Learnt) : Type 0 where
  pub awaited : IsAwaited from
  pub awaited_there : IsAwaited from_there
  pub passes : Passes t made from xs to
  pub passes_there : Passes t made_there from_there ys to_there
  pub bytes : AreFronts (came_of t made from to xs passes) (came_of t made_there from_there to_there ys passes_there)

-- Two servers take turns for clients, in a protocol whose conversations go alike. The tenant's clients come to both with the same bytes, and are
-- served in one order, as far as both runs go. Then they ask the same, for as long as they are told the same
abbrev pub clients_ask_alike : (S Z X Y T C D : Type 0) (Reads : ReadingRelation) (state : S → StoreState) (state_there : Z → StoreState) (t : TalkGhosts T) (k : ClientsGhosts C T) (j : ClientsGhosts D T) (Alike : T → T → Type 0) → Type 0
clients_ask_alike S Z X Y T C D Reads state state_there t k j Alike = SpeaksOnce t Alike → (a : ClientsOfTenant) (place place_there : ℕ → ℕ) → IsOneToOne place → IsOneToOne place_there →
    (old : ServedMachine S X) (before : C) (turns : List Turn) (new : ServedMachine S X) (after : C) (took : TakesTurns (machine_of Reads state) t k old before turns new after) →
    (old_there : ServedMachine Z Y) (before_there : D) (turns_there : List Turn) (new_there : ServedMachine Z Y) (after_there : D) (took_there : TakesTurns (machine_of Reads state_there) t j old_there before_there turns_there new_there after_there) →
    let made = k.makes (k.maker before) in let made_there = j.makes (j.maker before_there) in
    ((x y : T) → t.starts x → made x → t.starts y → made_there y → Alike x y) →
    ((c d : ℕ) → place c ≡ place_there d → a.clients (place c) ≡ true → ComesAlike t made made_there (k.at before c) (k.at after c) (own_learnt c turns) (j.at before_there d) (j.at after_there d) (own_learnt d turns_there)) →
    AreFronts (own_services a place (services_of Reads state t k old before turns new after took)) (own_services a place_there (services_of Reads state_there t j old_there before_there turns_there new_there after_there took_there)) →
    AskAlike place place_there (own_exchanges a place (exchanges_of Reads state t k old before turns new after took)) (own_exchanges a place_there (exchanges_of Reads state_there t j old_there before_there turns_there new_there after_there took_there))
