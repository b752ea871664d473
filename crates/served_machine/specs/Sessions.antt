-- The sessions that are open of a client.
use Rattle.std.specs.Prelude.{◌≡◌, ◌≢◌, ◌⊎◌, ◌<◌, ◌^◌, ℕ, true, List, [], ◌∷◌}
use Rattle.store.specs.Store.{StoreState}
use Rattle.abstract_database.specs.Lists.{TheName}
use Rattle.abstract_database.specs.Machine.{Session, number_in}
use Rattle.abstract_database.specs.Runs.{At}
use Rattle.server.specs.declared.server.Server.{Server}
use Rattle.server.specs.Standing.{Represents}
use Rattle.server.specs.LookUps.{look_up_client}

-- a session of this number is open that was opened for this role
abbrev pub HasSession : List (ℕ × Session) → ℕ → TheName → Type 0
HasSession [] number login = ⊥
HasSession (e ∷ es) number login = ((e.0 ≡ number) × (e.1.login ≡ login)) ⊎ HasSession es number login

-- once a server has stopped, a session in which it looked something up may be left, which no client has
abbrev pub IsOfClient : {S X : Type 0} → Server S X → ℕ → Type 0
IsOfClient server c = server.stopped ≡ true → c ≢ look_up_client

-- where a server stands, a client has this session open, by its own number of it
abbrev pub HasOwnSession : {S X : Type 0} → (S → StoreState) → Server S X → ℕ → ℕ → TheName → Type 0
HasOwnSession state server c n login =
    (w : At) × Represents state server w × (n < 2 ^ 32) × HasSession w.standing.machine.sessions (number_in c n) login × IsOfClient server c

-- its store is sound, and it stands somewhere
abbrev pub IsSoundServer : {S X : Type 0} → (S → StoreState) → Server S X → Type 0
IsSoundServer state server = (state server.store).sound × ((w : At) × Represents state server w)
