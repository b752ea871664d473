-- What two servers say to each client of a tenant.
use Rattle.std.specs.Prelude.{◌≡◌, ℕ, true, List, []}
use Rattle.store.specs.Store.{StoreState}
use Rattle.abstract_database.specs.Runs.{ReadingRelation, At}
use Rattle.client_laws.specs.Renumbered.{IsOneToOne}
use Rattle.talks.specs.Conversations.{ClientState, awaited, there, gone, IsAwaited, Passes}
use Rattle.talks.specs.Wants.{Learnt}
use Rattle.talks.specs.declared.talk.Talk.{Ghosts as TalkGhosts}
use Rattle.talks.specs.declared.clients.ServedClients.{Ghosts as ClientsGhosts}
use Rattle.talks.specs.Turns.{Exchange, Turn, TakesTurns, own_learnt, IsCourse}
use Rattle.served_machine.specs.declared.machine.ServedMachine.{ServedMachine}
use Rattle.served_machine.specs.Machines.{machine_of}
use Rattle.served_tenants.specs.Exchanges.{exchanges_of}
use Rattle.served_tenants.specs.Saying.{AreFronts, SpeaksOnce, HasSaidAll}
use Rattle.served_tenants.specs.ServedTenants.{ClientsOfTenant, TellAlike, over_here, over_there, told_alike, told_apart, untold_here, untold_there, failed_here, failed_there}

-- both runs tell the tenant alike up to the end of one: they never part, and no device fails
abbrev pub NeverParts : {Reads : ReadingRelation} {a : ClientsOfTenant} {place place_there : ℕ → ℕ} {w v : At} {xs ys : List Exchange} → TellAlike Reads a place place_there w v xs ys → Type 0
NeverParts (over_here alike) = Unit {0}
NeverParts (over_there alike) = Unit {0}
NeverParts (told_alike next later own asked same it it_there rest) = NeverParts rest
NeverParts (told_apart next later own asked it it_there may) = ⊥
NeverParts (untold_here next other it rest) = NeverParts rest
NeverParts (untold_there later other it rest) = NeverParts rest
NeverParts (failed_here other failed) = ⊥
NeverParts (failed_there other failed) = ⊥

-- ---- a client that comes

module _ {T : Type 0} (k : TalkGhosts T) (made : T → Type 0) where
  -- what came of its bytes
  abbrev pub came_of : (from to : ClientState T) (xs : List Learnt) → Passes k made from xs to → List ℕ
  came_of (awaited bytes) (awaited left) xs passes = []
  came_of (awaited bytes) (there y) xs (x, new, (came, said, consumes, heard, appends, limited, once)) = came
  came_of (awaited bytes) (gone sent) xs (x, new, (y, (came, said, consumes, heard, appends, limited, once), ended, is)) = came
  came_of (there x) to xs passes = []
  came_of (gone sent) to xs passes = []

  -- what was said to it
  abbrev pub said_to : (from to : ClientState T) (xs : List Learnt) → Passes k made from xs to → List ℕ
  said_to (awaited bytes) (awaited left) xs passes = []
  said_to (awaited bytes) (there y) xs (x, new, (came, said, consumes, heard, appends, limited, once)) = said
  said_to (awaited bytes) (gone sent) xs (x, new, (y, (came, said, consumes, heard, appends, limited, once), ended, is)) = said
  said_to (there x) to xs passes = []
  said_to (gone sent) to xs passes = []

  -- it has come, and no more is said to it, as where its connection ended by itself
  abbrev pub WasSaidAll : (from to : ClientState T) (xs : List Learnt) → Passes k made from xs to → Type 0
  WasSaidAll (awaited bytes) (awaited left) xs passes = ⊥
  WasSaidAll (awaited bytes) (there y) xs passes = HasSaidAll k y.talk y.held
  WasSaidAll (awaited bytes) (gone sent) xs (x, new, (y, continues, ended, is)) = HasSaidAll k y.talk y.held
  WasSaidAll (there x) to xs passes = ⊥
  WasSaidAll (gone sent) to xs passes = ⊥

-- ---- the law

-- Two servers have told a tenant alike to the end of one run, in a protocol whose conversations go alike. Its client at one place came to both, with
-- conversations that begin alike. Of the same bytes it was said the same, as far as they have come; and where no more is said in both, all the same
abbrev pub servers_say_the_same : (S Z X Y T C D : Type 0) (Reads : ReadingRelation) (state : S → StoreState) (state_there : Z → StoreState) (t : TalkGhosts T) (k : ClientsGhosts C T) (j : ClientsGhosts D T) (Alike : T → T → Type 0) → Type 0
servers_say_the_same S Z X Y T C D Reads state state_there t k j Alike = SpeaksOnce t Alike → (a : ClientsOfTenant) (place place_there : ℕ → ℕ) → IsOneToOne place → IsOneToOne place_there → (w v : At) →
    (old : ServedMachine S X) (before : C) (turns : List Turn) (new : ServedMachine S X) (after : C) (took : TakesTurns (machine_of Reads state) t k old before turns new after) →
    (old_there : ServedMachine Z Y) (before_there : D) (turns_there : List Turn) (new_there : ServedMachine Z Y) (after_there : D) (took_there : TakesTurns (machine_of Reads state_there) t j old_there before_there turns_there new_there after_there) →
    (alike : TellAlike Reads a place place_there w v (exchanges_of Reads state t k old before turns new after took) (exchanges_of Reads state_there t j old_there before_there turns_there new_there after_there took_there)) →
    NeverParts alike → (c d : ℕ) → place c ≡ place_there d → a.clients (place c) ≡ true → IsCourse c turns → IsCourse d turns_there →
    let made = k.makes (k.maker before) in let made_there = j.makes (j.maker before_there) in
    ((x y : T) → t.starts x → made x → t.starts y → made_there y → Alike x y) →
    (from to from_there to_there : ClientState T) → IsAwaited from → IsAwaited from_there →
    (here : Passes t made from (own_learnt c turns) to) (beyond : Passes t made_there from_there (own_learnt d turns_there) to_there) →
    (AreFronts (came_of t made from to (own_learnt c turns) here) (came_of t made_there from_there to_there (own_learnt d turns_there) beyond) →
    AreFronts (said_to t made from to (own_learnt c turns) here) (said_to t made_there from_there to_there (own_learnt d turns_there) beyond))
    × (came_of t made from to (own_learnt c turns) here ≡ came_of t made_there from_there to_there (own_learnt d turns_there) beyond →
    WasSaidAll t made from to (own_learnt c turns) here → WasSaidAll t made_there from_there to_there (own_learnt d turns_there) beyond →
    said_to t made from to (own_learnt c turns) here ≡ said_to t made_there from_there to_there (own_learnt d turns_there) beyond)
