-- Lives that meet the premises, in which two tenants have two clients each; and lives that the law refuses, which part at a SELECT.
use Rattle.std.specs.Prelude.{◌≡◌, ◌||◌, ℕ, nat_eq, true, false, List, [], ◌∷◌, map, codes, Option, Some, None}
use Rattle.std.proofs.Common.{refl, inl}
use Prim.Native.String.{String}
use Rattle.sql_types.specs.declared.tag.Tag.TheVariants as tag
use Rattle.sql_types.specs.declared.answer.Answer.TheVariants as answer
use Rattle.sql_types.specs.declared.event.Event.TheVariants as event
use Rattle.abstract_database.specs.Database.{Database}
use Rattle.abstract_database.specs.Machine.{Event as MachineEvent, Reading, Machine, machine_over}
use Rattle.database_laws.specs.HiddenRuns.{after, answer_to}
use Rattle.database_laws.specs.TwoTenants.{first, second, with_her_other, ann_asks, reading_of, her_note, by_ann}
use Rattle.client_laws.specs.Renumbered.{IsOneToOne}
use Rattle.client_laws.specs.TwoRuns.{placed}
use Rattle.talks.specs.declared.want.Reply.{Reply}
use Rattle.talks.specs.declared.want.Reply.TheVariants as reply
use Rattle.talks.specs.Turns.{Exchange}
use Rattle.served_machine.specs.Entries.{admits}
use Rattle.served_tenants.specs.Exchanges.{takes, Exchanges}
use Rattle.served_tenants.specs.ServedTenants.{ClientsOfTenant}
use Rattle.served_tenants.specs.ServedApart.{ReadsTheSelect, standing_with, carried_out, opening, asking, no_superuser, opens_in, asks_in, anns_client}
use Rattle.served_lives.specs.ServedLives.{ServedLife, ServedLives, none_served, served, own_done, OthersKeepHidden, WantTheSame, ServedLivesTellAlike}

-- ---- lives by what clients do

-- a client, and the role for which it opens its session; where there is none it asks for the notes
abbrev pub Doing : Type 0
Doing = ℕ × Option String

abbrev pub event_for : Doing → MachineEvent Reading
event_for (c, Some role) = opening c role
event_for (c, None) = asking c

abbrev pub exchange_for : Machine → Doing → Exchange
exchange_for m (c, Some role) = opens_in m c role
exchange_for m (c, None) = asks_in m c

abbrev pub done_from : Machine → List Doing → List Exchange
done_from m [] = []
done_from m (it ∷ its) = exchange_for m it ∷ done_from (after m (event_for it)) its

abbrev pub machine_behind : Machine → List Doing → Machine
machine_behind m [] = m
machine_behind m (it ∷ its) = machine_behind (after m (event_for it)) its

-- each role is one that the place admits, of a server that works
abbrev pub AreLetIn : Machine → List Doing → Type 0
AreLetIn m [] = Unit {0}
AreLetIn m ((c, Some role) ∷ its) = (m.stopped ≡ false) × (admits m.committed no_superuser (codes role) ≡ true) × AreLetIn (after m (opening c role)) its
AreLetIn m ((c, None) ∷ its) = AreLetIn (after m (asking c)) its

abbrev pub made_from : (m : Machine) (its : List Doing) → AreLetIn m its → Exchanges ReadsTheSelect (standing_with m) (done_from m its) (standing_with (machine_behind m its))
made_from m [] admitted = refl
made_from m ((c, Some role) ∷ its) admitted = (
  standing_with (after m (opening c role)),
  (answer_to m (opening c role), refl, takes admitted.0 admitted.1 (carried_out m c (event.Open 1 (codes role)) (opening c role) refl)),
  made_from (after m (opening c role)) its admitted.2,
)
made_from m ((c, None) ∷ its) admitted = (
  standing_with (after m (asking c)),
  (answer_to m (asking c), refl, carried_out m c (event.Statement 1 []) (asking c) (reading_of ann_asks, refl, λ may. refl)),
  made_from (after m (asking c)) its admitted,
)

-- a server is opened over a database, clients do this, and the stop leaves what was committed
abbrev pub life_of : (db : Database) (place : ℕ → ℕ) → IsOneToOne place → (its : List Doing) → AreLetIn (machine_over db) its → ServedLife ReadsTheSelect db
life_of db place apart its admitted = record {
  begin = standing_with (machine_over db);
  over = refl;
  place = place;
  apart = apart;
  done = done_from (machine_over db) its;
  end = standing_with (machine_behind (machine_over db) its);
  made = made_from (machine_over db) its admitted;
  left = (machine_behind (machine_over db) its).committed;
  found = inl refl;
}

-- ---- two tenants with two clients each

-- in each life ann's clients stand at places 0 and 2, and all others at odd ones
abbrev pub anns_clients : ClientsOfTenant
anns_clients = record { pairs = by_ann; clients = λ place. nat_eq place 0 || nat_eq place 2 }

-- her clients are 0 and 2 of the first life, of four, and 1 and 0 of the second
abbrev pub first_doing : List Doing
first_doing = (0, Some "ann") ∷ (1, Some "bob") ∷ (2, Some "ann") ∷ (3, Some "bob") ∷ (0, None) ∷ (1, None) ∷ (2, None) ∷ []

abbrev pub next_doing : List Doing
next_doing = (1, Some "ann") ∷ (0, Some "ann") ∷ (2, Some "bob") ∷ (3, Some "bob") ∷ (1, None) ∷ (0, None) ∷ []

-- they are 5 and 4 on the other server, where bob came first, and the stop comes before the second has asked; and then 0 and 3
abbrev pub first_doing_there : List Doing
first_doing_there = (0, Some "bob") ∷ (5, Some "ann") ∷ (1, Some "bob") ∷ (4, Some "ann") ∷ (5, None) ∷ []

abbrev pub next_doing_there : List Doing
next_doing_there = (0, Some "ann") ∷ (3, Some "ann") ∷ (1, Some "bob") ∷ (2, Some "bob") ∷ (1, None) ∷ (0, None) ∷ (3, None) ∷ []

-- no two clients of a life have one place
pub record ArePlacedApart : Type 0 where
  pub one : IsOneToOne (placed 0 2)
  pub one_next : IsOneToOne (placed 1 0)
  pub other : IsOneToOne (placed 5 4)
  pub other_next : IsOneToOne (placed 0 3)

abbrev pub next_life : ArePlacedApart → ServedLife ReadsTheSelect first
next_life apart = life_of first (placed 1 0) apart.one_next next_doing (refl, refl, (refl, refl, (refl, refl, (refl, refl, tt))))

abbrev pub next_life_there : ArePlacedApart → ServedLife ReadsTheSelect second
next_life_there apart = life_of second (placed 0 3) apart.other_next next_doing_there (refl, refl, (refl, refl, (refl, refl, (refl, refl, tt))))

abbrev pub lives_here : ArePlacedApart → ServedLives ReadsTheSelect first
lives_here apart = served (life_of first (placed 0 2) apart.one first_doing (refl, refl, (refl, refl, (refl, refl, (refl, refl, tt))))) (served (next_life apart) none_served)

abbrev pub lives_there : ArePlacedApart → ServedLives ReadsTheSelect second
lives_there apart = served (life_of second (placed 5 4) apart.other first_doing_there (refl, refl, (refl, refl, (refl, refl, (refl, refl, tt))))) (served (next_life_there apart) none_served)

-- both of her clients are let in, and shown her note
abbrev pub her_replies : List Reply
her_replies = reply.Answer (answer.Done tag.Open None None) ∷ reply.Answer (answer.Done tag.Open None None) ∷ reply.Answer her_note ∷ reply.Answer her_note ∷ []

pub record ServedLivesMeetThePremises : Type 0 where
  pub apart : ArePlacedApart
  pub hidden : OthersKeepHidden anns_clients (lives_here apart) × OthersKeepHidden anns_clients (lives_there apart)
  pub same : WantTheSame anns_clients (lives_here apart) (lives_there apart)
  pub told : ServedLivesTellAlike anns_clients (lives_here apart) (lives_there apart)
  pub shown : map (λ x. x.reply) (own_done anns_clients (next_life apart)) ≡ her_replies
  pub shown_there : map (λ x. x.reply) (own_done anns_clients (next_life_there apart)) ≡ her_replies

-- ---- where the law is broken

abbrev pub as_they_come : IsOneToOne (λ c. c)
as_they_come = λ c d same. same

-- a server is opened, and stopped before anybody comes
abbrev pub idle_life : (db : Database) → ServedLife ReadsTheSelect db
idle_life db = life_of db (λ c. c) as_they_come [] tt

-- ann's client is the first, opens its session, and asks
abbrev pub asking_life_over : (db : Database) → AreLetIn (machine_over db) ((0, Some "ann") ∷ (0, None) ∷ []) → ServedLife ReadsTheSelect db
asking_life_over db admitted = life_of db (λ c. c) as_they_come ((0, Some "ann") ∷ (0, None) ∷ []) admitted

abbrev pub asks_over_first : ServedLife ReadsTheSelect first
asks_over_first = asking_life_over first (refl, refl, tt)

abbrev pub asks_over_other : ServedLife ReadsTheSelect with_her_other
asks_over_other = asking_life_over with_her_other (refl, refl, tt)

-- they part at a SELECT, in the second lives; and so do these alone
abbrev pub ServedLivesPartAtSelect : Type 0
ServedLivesPartAtSelect =
    (ServedLivesTellAlike anns_client (served (idle_life first) (served asks_over_first none_served)) (served (idle_life with_her_other) (served asks_over_other none_served)) → ⊥)
    × (ServedLivesTellAlike anns_client (served asks_over_first none_served) (served asks_over_other none_served) → ⊥)
