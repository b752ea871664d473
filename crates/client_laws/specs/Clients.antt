-- What a tenant is told by two servers of many clients, in each of which its own clients have other numbers.
use Rattle.std.specs.Prelude.{◌≡◌, ◌+◌, ◌*◌, ℕ, Bool, true, false, if◌then◌else◌, List, map}
use Rattle.sql_types.specs.declared.answer.Answer.{Answer}
use Rattle.abstract_database.specs.Machine.{Event, Machine}
use Rattle.abstract_database.specs.Runs.{TheText, ReadingRelation, RanBy, Stops, At, Happens}
use Rattle.database_laws.specs.HiddenRuns.{AreSound}
use Rattle.database_laws.specs.Runs.{ReadsOnce}
use Rattle.database_laws.specs.Told.{Tenant, IsAlikeTo, Act, happens, declares, restarts, OthersKeepOutOfSight, noticed, IsToldAlike}
use Rattle.database_laws.specs.Patterns.{is_listed, pattern, own_answers, AllTellListedOnly, AreDeclaredAlike}
use Rattle.database_laws.specs.ToldStores.{own_texts, KeepOutOfSight, IsToldAlikeBy}
use Rattle.client_laws.specs.Renumbered.{IsOneToOne, renumbered, renumbered_machine, renumbered_event, renumbered_events, renumbered_at}

-- ---- a tenant whose sessions are known by the places of its clients

-- its sessions, by the numbers that they have in a run in which clients get these places
abbrev pub in_run : (ℕ → ℕ) → Tenant → Tenant
in_run place a = record a { sessions = λ number. a.sessions (renumbered place number) }

abbrev pub renumbered_act : (ℕ → ℕ) → Act → Act
renumbered_act place (happens event) = happens (renumbered_event place event)
renumbered_act place (declares event) = declares (renumbered_event place event)
renumbered_act place restarts = restarts

abbrev pub renumbered_acts : (ℕ → ℕ) → List Act → List Act
renumbered_acts place acts = map (renumbered_act place) acts

-- ---- machines

-- In two runs a tenant does the same, in one order over all of its clients, which have other numbers in each; others do what they will out
-- of its sight. It is told alike, once each client is numbered by its place.
abbrev pub what_clients_are_told : Type 0
what_clients_are_told = (a : Tenant) (place place_there : ℕ → ℕ) → IsOneToOne place → IsOneToOne place_there → (m k : Machine) (acts others : List Act) →
    IsAlikeTo a (renumbered_machine place m) (renumbered_machine place_there k) → AreSound m → AreSound k →
    OthersKeepOutOfSight (in_run place a) m acts → OthersKeepOutOfSight (in_run place_there a) k others →
    renumbered_acts place (noticed (in_run place a) acts) ≡ renumbered_acts place_there (noticed (in_run place_there a) others) →
    IsToldAlike a (renumbered_machine place m) (renumbered_machine place_there k) (renumbered_acts place acts) (renumbered_acts place_there others)

-- by its place a client gets the answers that it gets by its number
abbrev pub places_change_no_answer : Type 0
places_change_no_answer = (a : Tenant) (place : ℕ → ℕ) → IsOneToOne place → (m : Machine) (acts : List Act) →
    own_answers a (renumbered_machine place m) (renumbered_acts place acts) ≡ own_answers (in_run place a) m acts

-- where its answers have one pattern, they are the same
abbrev pub patterns_determine_clients_answers : Type 0
patterns_determine_clients_answers = (a : Tenant) (place place_there : ℕ → ℕ) → IsOneToOne place → IsOneToOne place_there → (m k : Machine) (acts others : List Act) →
    IsAlikeTo a (renumbered_machine place m) (renumbered_machine place_there k) → AreSound m → AreSound k →
    OthersKeepOutOfSight (in_run place a) m acts → OthersKeepOutOfSight (in_run place_there a) k others →
    renumbered_acts place (noticed (in_run place a) acts) ≡ renumbered_acts place_there (noticed (in_run place_there a) others) →
    AllTellListedOnly a (renumbered_machine place m) (renumbered_acts place acts) →
    AreDeclaredAlike a (renumbered_machine place m) (renumbered_machine place_there k) (renumbered_acts place acts) (renumbered_acts place_there others) →
    pattern is_listed (own_answers (in_run place a) m acts) ≡ pattern is_listed (own_answers (in_run place_there a) k others) →
    own_answers (in_run place a) m acts ≡ own_answers (in_run place_there a) k others

-- ---- stores

-- so it is of two servers, each over a store of its own, with stops of its own
abbrev pub what_stores_tell_clients : ReadingRelation → Stops → Stops → Type 0
what_stores_tell_clients Reads Leave LeaveOther = ReadsOnce Reads → (a : Tenant) (place place_there : ℕ → ℕ) → IsOneToOne place → IsOneToOne place_there →
    (w v end other_end : At) (events others : List (Event TheText)) (answers told : List Answer) →
    IsAlikeTo a (renumbered_machine place w.standing.machine) (renumbered_machine place_there v.standing.machine) → AreSound w.standing.machine → AreSound v.standing.machine →
    (ran : RanBy (Happens Reads Leave) w events answers end) (ran_there : RanBy (Happens Reads LeaveOther) v others told other_end) →
    KeepOutOfSight Reads Leave (in_run place a) w end events answers ran → KeepOutOfSight Reads LeaveOther (in_run place_there a) v other_end others told ran_there →
    renumbered_events place (own_texts (in_run place a) events) ≡ renumbered_events place_there (own_texts (in_run place_there a) others) →
    IsToldAlikeBy Reads Leave LeaveOther a (renumbered_at place w) (renumbered_at place_there v) (renumbered_events place events) answers (renumbered_events place_there others) told

-- ---- places

-- a client of the tenant stands by the name that the tenant has for it, and each other one beside these
abbrev pub place_of : (ℕ → Bool) → (ℕ → ℕ) → ℕ → ℕ
place_of own name client = if own client then 2 * name client else 2 * client + 1

-- whatever the clients of a tenant are, and by what names it knows them, if no two have one name: so each client has a place of its own
abbrev pub own_clients_have_places : Type 0
own_clients_have_places = (own : ℕ → Bool) (name : ℕ → ℕ) → ((c d : ℕ) → own c ≡ true → own d ≡ true → name c ≡ name d → c ≡ d) →
    IsOneToOne (place_of own name) × ((c : ℕ) → own c ≡ true → place_of own name c ≡ 2 * name c) × ((c n : ℕ) → own c ≡ false → place_of own name c ≡ 2 * n → ⊥)
