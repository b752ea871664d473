-- What two servers say to each client of a tenant, and what it asks, by what its own conversations began with.
use Rattle.std.specs.Prelude.{◌≡◌, ℕ, true, List, Option, Some, None}
use Rattle.store.specs.Store.{StoreState}
use Rattle.abstract_database.specs.Runs.{ReadingRelation, At}
use Rattle.client_laws.specs.Renumbered.{IsOneToOne}
use Rattle.talks.specs.Conversations.{ClientState, awaited, there, gone, IsAwaited, Passes}
use Rattle.talks.specs.Wants.{Learnt}
use Rattle.talks.specs.declared.talk.Talk.{Ghosts as TalkGhosts}
use Rattle.talks.specs.declared.clients.ServedClients.{Ghosts as ClientsGhosts}
use Rattle.talks.specs.Turns.{Turn, TakesTurns, own_learnt, IsCourse}
use Rattle.served_machine.specs.declared.machine.ServedMachine.{ServedMachine}
use Rattle.served_machine.specs.Machines.{machine_of}
use Rattle.served_tenants.specs.Exchanges.{exchanges_of}
use Rattle.served_tenants.specs.Saying.{AreFronts}
use Rattle.served_tenants.specs.SaidTenants.{NeverParts, WasSaidAll, came_of, said_to}
use Rattle.served_tenants.specs.AskedAlike.{ComesAlike, own_services, services_of}
use Rattle.served_tenants.specs.ServedTenants.{AskAlike, ClientsOfTenant, TellAlike, own_exchanges}

-- the conversation with which a client came
abbrev pub came_with : {T : Type 0} (t : TalkGhosts T) (made : T → Type 0) (from to : ClientState T) (xs : List Learnt) → Passes t made from xs to → Option T
came_with t made (awaited bytes) (awaited left) xs passes = None
came_with t made (awaited bytes) (there y) xs (x, new, continues) = Some x.talk
came_with t made (awaited bytes) (gone sent) xs (x, new, goes) = Some x.talk
came_with t made (there x) to xs passes = None
came_with t made (gone sent) to xs passes = None

-- where there are two, they began so
abbrev pub BeganSo : {T : Type 0} → (T → T → Type 0) → Option T → Option T → Type 0
BeganSo Begin (Some x) (Some y) = Begin x y
BeganSo Begin o p = Unit {0}

-- a client has come in both runs with the same bytes, as far as they have come, and with conversations that began so
pub record ComesSo {T : Type 0} (t : TalkGhosts T) (Begin : T → T → Type 0) (made made_there : T → Type 0) (from to : ClientState T) (xs : List Learnt) (from_there to_there : ClientState T) (ys : List Learnt) : Type 0 where
  pub comes : ComesAlike t made made_there from to xs from_there to_there ys
  pub began : BeganSo Begin (came_with t made from to xs comes.passes) (came_with t made_there from_there to_there ys comes.passes_there)

-- What two servers of many clients do for those of a tenant, where conversations of one client in both began so
pub record ServeAlikeAsBegun (S Z X Y T C D : Type 0) (Reads : ReadingRelation) (state : S → StoreState) (state_there : Z → StoreState) (t : TalkGhosts T) (k : ClientsGhosts C T) (j : ClientsGhosts D T) (Begin : T → T → Type 0) : Type 0 where
  -- They have told the tenant alike to the end of one run. Its client at one place came to both, with conversations that began so. Of the same bytes
  -- it was said the same, as far as they have come; and where no more is said in both, all the same
  pub says : (a : ClientsOfTenant) (place place_there : ℕ → ℕ) → IsOneToOne place → IsOneToOne place_there → (w v : At) →
      (old : ServedMachine S X) (before : C) (turns : List Turn) (new : ServedMachine S X) (after : C) (took : TakesTurns (machine_of Reads state) t k old before turns new after) →
      (old_there : ServedMachine Z Y) (before_there : D) (turns_there : List Turn) (new_there : ServedMachine Z Y) (after_there : D) (took_there : TakesTurns (machine_of Reads state_there) t j old_there before_there turns_there new_there after_there) →
      (alike : TellAlike Reads a place place_there w v (exchanges_of Reads state t k old before turns new after took) (exchanges_of Reads state_there t j old_there before_there turns_there new_there after_there took_there)) →
      NeverParts alike → (c d : ℕ) → place c ≡ place_there d → a.clients (place c) ≡ true → IsCourse c turns → IsCourse d turns_there →
      let made = k.makes (k.maker before) in let made_there = j.makes (j.maker before_there) in
      (from to from_there to_there : ClientState T) → IsAwaited from → IsAwaited from_there →
      (here : Passes t made from (own_learnt c turns) to) (beyond : Passes t made_there from_there (own_learnt d turns_there) to_there) →
      BeganSo Begin (came_with t made from to (own_learnt c turns) here) (came_with t made_there from_there to_there (own_learnt d turns_there) beyond) →
      (AreFronts (came_of t made from to (own_learnt c turns) here) (came_of t made_there from_there to_there (own_learnt d turns_there) beyond) →
      AreFronts (said_to t made from to (own_learnt c turns) here) (said_to t made_there from_there to_there (own_learnt d turns_there) beyond))
      × (came_of t made from to (own_learnt c turns) here ≡ came_of t made_there from_there to_there (own_learnt d turns_there) beyond →
      WasSaidAll t made from to (own_learnt c turns) here → WasSaidAll t made_there from_there to_there (own_learnt d turns_there) beyond →
      said_to t made from to (own_learnt c turns) here ≡ said_to t made_there from_there to_there (own_learnt d turns_there) beyond)
  -- Its clients come to both with the same bytes, with conversations that began so, and are served in one order, as far as both runs go. Then they
  -- ask the same, for as long as they are told the same
  pub asks : (a : ClientsOfTenant) (place place_there : ℕ → ℕ) → IsOneToOne place → IsOneToOne place_there →
      (old : ServedMachine S X) (before : C) (turns : List Turn) (new : ServedMachine S X) (after : C) (took : TakesTurns (machine_of Reads state) t k old before turns new after) →
      (old_there : ServedMachine Z Y) (before_there : D) (turns_there : List Turn) (new_there : ServedMachine Z Y) (after_there : D) (took_there : TakesTurns (machine_of Reads state_there) t j old_there before_there turns_there new_there after_there) →
      let made = k.makes (k.maker before) in let made_there = j.makes (j.maker before_there) in
      ((c d : ℕ) → place c ≡ place_there d → a.clients (place c) ≡ true → ComesSo t Begin made made_there (k.at before c) (k.at after c) (own_learnt c turns) (j.at before_there d) (j.at after_there d) (own_learnt d turns_there)) →
      AreFronts (own_services a place (services_of Reads state t k old before turns new after took)) (own_services a place_there (services_of Reads state_there t j old_there before_there turns_there new_there after_there took_there)) →
      AskAlike place place_there (own_exchanges a place (exchanges_of Reads state t k old before turns new after took)) (own_exchanges a place_there (exchanges_of Reads state_there t j old_there before_there turns_there new_there after_there took_there))
