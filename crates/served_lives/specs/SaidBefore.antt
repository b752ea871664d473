-- What is said to the clients of a tenant in two lives that part, before they do.
use Rattle.std.specs.Prelude.{◌≡◌, ◌⊎◌, ℕ, true, List, [], ◌∷◌, ◌++◌, length, take, drop}
use Rattle.store.specs.Store.{StoreState}
use Rattle.abstract_database.specs.Database.{Database}
use Rattle.abstract_database.specs.Runs.{ReadingRelation, At}
use Rattle.talks.specs.Conversations.{ClientState, awaited, there, gone, IsAwaited, Heard, Passes}
use Rattle.talks.specs.Wants.{Learnt}
use Rattle.talks.specs.declared.talk.Talk.{Ghosts as TalkGhosts}
use Rattle.talks.specs.declared.clients.ServedClients.{Ghosts as ClientsGhosts}
use Rattle.talks.specs.Turns.{Exchange, Turn, TakesTurns, learnt_of, learnt_of_all, own_learnt, IsCourse}
use Rattle.client_laws.specs.Renumbered.{IsOneToOne}
use Rattle.served_machine.specs.declared.machine.ServedMachine.{ServedMachine}
use Rattle.served_machine.specs.Machines.{machine_of}
use Rattle.served_tenants.specs.Saying.{AreFronts, SpeaksOnce}
use Rattle.served_tenants.specs.ServedTenants.{ClientsOfTenant, TellAlike, over_here, over_there, told_alike, told_apart, untold_here, untold_there, failed_here, failed_there}
use Rattle.served_tenants.specs.SaidTenants.{NeverParts, came_of}
use Rattle.served_lives.specs.ServedLives.{ServedLife}
use Rattle.served_lives.specs.SaidLives.{AreTurnsOf}

-- ---- before two runs part

-- what a client learns, by its number in the first of two runs, before these part, or one ends
abbrev pub learnt_before : {Reads : ReadingRelation} {a : ClientsOfTenant} {place place_there : ℕ → ℕ} {w v : At} {xs ys : List Exchange} → TellAlike Reads a place place_there w v xs ys → ℕ → List Learnt
learnt_before (over_here alike) c = []
learnt_before (over_there alike) c = []
learnt_before (told_alike next later {x = x} own asked same it it_there rest) c = learnt_of c x ++ learnt_before rest c
learnt_before (told_apart next later own asked it it_there may) c = []
learnt_before (untold_here next other it rest) c = learnt_before rest c
learnt_before (untold_there later other it rest) c = learnt_before rest c
learnt_before (failed_here other failed) c = []
learnt_before (failed_there other failed) c = []

-- it is all that the client learns, if they never part, as far as one goes
abbrev pub all_is_learnt_before : ReadingRelation → Type 0
all_is_learnt_before Reads = (a : ClientsOfTenant) (place place_there : ℕ → ℕ) → IsOneToOne place → IsOneToOne place_there → (w v : At) (xs ys : List Exchange) (told : TellAlike Reads a place place_there w v xs ys) → NeverParts told →
    (c d : ℕ) → place c ≡ place_there d → a.clients (place c) ≡ true → (learnt_before told c ≡ learnt_of_all c xs) ⊎ (learnt_before told c ≡ learnt_of_all d ys)

-- ---- what is said until so much is learnt

-- Of what was said over these bytes this was said first, before more was learnt than the first n: then the next reply was wanted. It is all, if no more
-- was learnt
pub record IsSaidFirst {T : Type 0} (k : TalkGhosts T) (t : T) (bytes : List ℕ) (xs : List Learnt) (n : ℕ) (said first : List ℕ) : Type 0 where
  pub more : List ℕ
  pub said_are : said ≡ first ++ more
  pub mid : T
  pub left : List ℕ
  pub heard : Heard k t bytes (take n xs) first left mid
  pub next : (x : Learnt) (later : List Learnt) → drop n xs ≡ x ∷ later → k.wants mid ≡ x.want
  pub all : drop n xs ≡ [] → more ≡ []

-- to a client that comes
abbrev pub WasSaidFirst : {T : Type 0} (k : TalkGhosts T) (made : T → Type 0) (from to : ClientState T) (xs : List Learnt) → Passes k made from xs to → ℕ → List ℕ → Type 0
WasSaidFirst k made (awaited bytes) (awaited left) xs passes n first = first ≡ []
WasSaidFirst k made (awaited bytes) (there y) xs (x, new, (came, said, consumes, heard, appends, limited, once)) n first = IsSaidFirst k x.talk came xs n said first
WasSaidFirst k made (awaited bytes) (gone sent) xs (x, new, (y, (came, said, consumes, heard, appends, limited, once), ended, is)) n first = IsSaidFirst k x.talk came xs n said first
WasSaidFirst k made (there x) to xs passes n first = ⊥
WasSaidFirst k made (gone sent) to xs passes n first = ⊥

-- ---- the law

-- Two lives may part, in a protocol whose conversations go alike. A client of the tenant at one place comes to both, with conversations that begin alike,
-- and with the same bytes, as far as they have come. What it was said before it learnt anything behind where they part is the same, as far as it was said
abbrev pub parted_lives_say_alike_before : (S Z X Y T C D : Type 0) (Reads : ReadingRelation) (state : S → StoreState) (state_there : Z → StoreState) (t : TalkGhosts T) (k : ClientsGhosts C T) (j : ClientsGhosts D T) (Alike : T → T → Type 0) → Type 0
parted_lives_say_alike_before S Z X Y T C D Reads state state_there t k j Alike = SpeaksOnce t Alike → (a : ClientsOfTenant) (d e : Database) (life : ServedLife Reads d) (other : ServedLife Reads e) →
    (told : TellAlike Reads a life.place other.place life.begin other.begin life.done other.done) →
    (old : ServedMachine S X) (before : C) (turns : List Turn) (new : ServedMachine S X) (after : C) (took : TakesTurns (machine_of Reads state) t k old before turns new after) →
    (old_there : ServedMachine Z Y) (before_there : D) (turns_there : List Turn) (new_there : ServedMachine Z Y) (after_there : D) (took_there : TakesTurns (machine_of Reads state_there) t j old_there before_there turns_there new_there after_there) →
    AreTurnsOf state t k life old before turns new after took → AreTurnsOf state_there t j other old_there before_there turns_there new_there after_there took_there →
    (c b : ℕ) → life.place c ≡ other.place b → a.clients (life.place c) ≡ true → IsCourse c turns → IsCourse b turns_there →
    let made = k.makes (k.maker before) in let made_there = j.makes (j.maker before_there) in
    ((x y : T) → t.starts x → made x → t.starts y → made_there y → Alike x y) →
    (from to from_there to_there : ClientState T) → IsAwaited from → IsAwaited from_there →
    (here : Passes t made from (own_learnt c turns) to) (beyond : Passes t made_there from_there (own_learnt b turns_there) to_there) →
    AreFronts (came_of t made from to (own_learnt c turns) here) (came_of t made_there from_there to_there (own_learnt b turns_there) beyond) →
    let n = length (learnt_before told c) in
    (first : List ℕ) × (first_there : List ℕ) × WasSaidFirst t made from to (own_learnt c turns) here n first × WasSaidFirst t made_there from_there to_there (own_learnt b turns_there) beyond n first_there × AreFronts first first_there
