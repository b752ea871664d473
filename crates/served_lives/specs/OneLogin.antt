-- Lives in which one login role serves two tenants, whose two clients each set the role of their tenant.
use Rattle.std.specs.Prelude.{◌≡◌, ℕ, false, true, List, [], ◌∷◌, map, codes, Option, Some, None}
use Rattle.std.proofs.Common.{refl, arith, inl}
use Rattle.sql_types.specs.declared.answer.Answer.TheVariants as answer
use Rattle.sql_types.specs.declared.event.Event.{Event}
use Rattle.sql_types.specs.declared.event.Event.TheVariants as event
use Rattle.sql_types.specs.declared.tag.Tag.TheVariants as tag
use Rattle.abstract_database.specs.Database.{Database}
use Rattle.abstract_database.specs.Machine.{Machine, machine_over}
use Rattle.abstract_database.specs.Runs.{TheText, by_transition}
use Rattle.database_laws.specs.HiddenRuns.{answer_to, after}
use Rattle.database_laws.specs.TwoTenants.{first, second, note, by_app_for_ann}
use Rattle.client_laws.specs.Renumbered.{IsOneToOne}
use Rattle.client_laws.specs.StoresApart.{ReadsSo, read_so, is_read_so, none_falls, standing_with}
use Rattle.client_laws.specs.TwoRuns.{are_own, placed}
use Rattle.server.specs.Standing.{event_of}
use Rattle.talks.specs.declared.want.Reply.{Reply}
use Rattle.talks.specs.declared.want.Reply.TheVariants as reply
use Rattle.talks.specs.declared.want.Want.TheVariants as want
use Rattle.talks.specs.Turns.{Exchange}
use Rattle.served_machine.specs.Entries.{admits}
use Rattle.served_tenants.specs.Exchanges.{CarriesOutAt, takes, Exchanges}
use Rattle.served_tenants.specs.ServedApart.{no_superuser}
use Rattle.served_tenants.specs.ServedTenants.{ClientsOfTenant}
use Rattle.served_lives.specs.ServedLives.{ServedLife, ServedLives, none_served, served, own_done, OthersKeepHidden, WantTheSame, ServedLivesTellAlike}
use Rattle.served_lives.specs.ServedLivesApart.{ArePlacedApart}

-- ---- what clients do

-- a client opens its session as the application, or sends a text in it
abbrev pub Doing : Type 0
Doing = ℕ × Option TheText

abbrev pub event_for : Option TheText → Event
event_for None = event.Open 1 (codes "app")
event_for (Some text) = event.Statement 1 text

abbrev pub after_it : Machine → Doing → Machine
after_it m it = after m (read_so (event_of it.0 (event_for it.1)))

abbrev pub exchange_for : Machine → Doing → Exchange
exchange_for m (c, None) = record { client = c; want = want.Open 1 (codes "app") no_superuser; reply = reply.Answer (answer_to m (read_so (event_of c (event_for None)))) }
exchange_for m (c, Some text) = record { client = c; want = want.Event (event.Statement 1 text); reply = reply.Answer (answer_to m (read_so (event_of c (event_for (Some text))))) }

abbrev pub done_from : Machine → List Doing → List Exchange
done_from m [] = []
done_from m (it ∷ its) = exchange_for m it ∷ done_from (after_it m it) its

abbrev pub machine_behind : Machine → List Doing → Machine
machine_behind m [] = m
machine_behind m (it ∷ its) = machine_behind (after_it m it) its

-- the server works, and its place admits the application
abbrev pub AreLetIn : Machine → List Doing → Type 0
AreLetIn m [] = Unit {0}
AreLetIn m ((c, None) ∷ its) = (m.stopped ≡ false) × (admits m.committed no_superuser (codes "app") ≡ true) × AreLetIn (after_it m (c, None)) its
AreLetIn m ((c, Some text) ∷ its) = AreLetIn (after_it m (c, Some text)) its

abbrev pub carried_so : (m : Machine) (c : ℕ) (e : Event) → CarriesOutAt ReadsSo (standing_with m) c e (answer_to m (read_so (event_of c e))) (standing_with (after m (read_so (event_of c e))))
carried_so m c e = record { counts = none_falls; step = by_transition (record { as_read = read_so (event_of c e); read = is_read_so m (event_of c e); is = refl }); under_way = refl; later = omega arith; during = tt; now = tt }

abbrev pub made_from : (m : Machine) (its : List Doing) → AreLetIn m its → Exchanges ReadsSo (standing_with m) (done_from m its) (standing_with (machine_behind m its))
made_from m [] admitted = refl
made_from m ((c, None) ∷ its) admitted = (
  standing_with (after_it m (c, None)),
  (answer_to m (read_so (event_of c (event_for None))), refl, takes admitted.0 admitted.1 (carried_so m c (event_for None))),
  made_from (after_it m (c, None)) its admitted.2,
)
made_from m ((c, Some text) ∷ its) admitted = (
  standing_with (after_it m (c, Some text)),
  (answer_to m (read_so (event_of c (event_for (Some text)))), refl, carried_so m c (event_for (Some text))),
  made_from (after_it m (c, Some text)) its admitted,
)

-- a server is opened over a database, clients do this, and the stop leaves what was committed
abbrev pub life_of : (db : Database) (place : ℕ → ℕ) → IsOneToOne place → (its : List Doing) → AreLetIn (machine_over db) its → ServedLife ReadsSo db
life_of db place apart its admitted = record {
  begin = standing_with (machine_over db);
  over = refl;
  place = place;
  apart = apart;
  done = done_from (machine_over db) its;
  end = standing_with (machine_behind (machine_over db) its);
  made = made_from (machine_over db) its admitted;
  left = (machine_behind (machine_over db) its).committed;
  found = inl refl;
}

-- ---- two tenants with two clients each

-- ann's clients stand at places 0 and 2 of each life; all log in as the application, which sets the role of each tenant
abbrev pub clients_by_app : ClientsOfTenant
clients_by_app = record { pairs = by_app_for_ann; clients = are_own 0 2 }

abbrev pub sets_ann : Option TheText
sets_ann = Some (1 ∷ [])

abbrev pub sets_bob : Option TheText
sets_bob = Some (2 ∷ [])

abbrev pub begins : Option TheText
begins = Some (3 ∷ [])

abbrev pub writes : Option TheText
writes = Some (4 ∷ [])

abbrev pub asks : Option TheText
asks = Some []

-- her clients are 0 and 2 of the first life, and 1 and 0 of the next. Her second begins a block and writes in it, which the stop ends
abbrev pub first_doing : List Doing
first_doing = (1, None) ∷ (0, None) ∷ (0, sets_ann) ∷ (1, sets_bob) ∷ (2, None) ∷ (2, sets_ann) ∷ (3, None) ∷ (2, begins) ∷ (2, writes) ∷ (3, sets_bob) ∷ (0, asks) ∷ (2, asks) ∷ []

abbrev pub next_doing : List Doing
next_doing = (1, None) ∷ (1, sets_ann) ∷ (2, None) ∷ (0, None) ∷ (0, sets_ann) ∷ (1, asks) ∷ (0, asks) ∷ []

-- on the other server they are 5 and 4, and then 0 and 3; there the stop comes before the second has asked
abbrev pub first_doing_there : List Doing
first_doing_there = (0, None) ∷ (0, sets_bob) ∷ (5, None) ∷ (5, sets_ann) ∷ (4, None) ∷ (4, sets_ann) ∷ (1, None) ∷ (4, begins) ∷ (0, asks) ∷ (4, writes) ∷ (5, asks) ∷ []

abbrev pub next_doing_there : List Doing
next_doing_there = (0, None) ∷ (0, sets_ann) ∷ (3, None) ∷ (3, sets_ann) ∷ (1, None) ∷ (1, sets_bob) ∷ (1, asks) ∷ (0, asks) ∷ (3, asks) ∷ []

abbrev pub next_life : ArePlacedApart → ServedLife ReadsSo first
next_life apart = life_of first (placed 1 0) apart.one_next next_doing (refl, refl, (refl, refl, (refl, refl, tt)))

abbrev pub next_life_there : ArePlacedApart → ServedLife ReadsSo second
next_life_there apart = life_of second (placed 0 3) apart.other_next next_doing_there (refl, refl, (refl, refl, (refl, refl, tt)))

abbrev pub lives_here : ArePlacedApart → ServedLives ReadsSo first
lives_here apart = served (life_of first (placed 0 2) apart.one first_doing (refl, refl, (refl, refl, (refl, refl, (refl, refl, tt))))) (served (next_life apart) none_served)

abbrev pub lives_there : ArePlacedApart → ServedLives ReadsSo second
lives_there apart = served (life_of second (placed 5 4) apart.other first_doing_there (refl, refl, (refl, refl, (refl, refl, (refl, refl, tt))))) (served (next_life_there apart) none_served)

-- both of her clients are let in, and shown the note that was committed
abbrev pub her_replies : List Reply
her_replies = reply.Answer (answer.Done tag.Open None None) ∷ reply.Answer (answer.Done tag.Set None None) ∷ reply.Answer (answer.Done tag.Open None None) ∷ reply.Answer (answer.Done tag.Set None None)
    ∷ reply.Answer (answer.Rows (note "ann" 1 ∷ [])) ∷ reply.Answer (answer.Rows (note "ann" 1 ∷ [])) ∷ []

pub record OneLoginMeetsThePremises : Type 0 where
  pub apart : ArePlacedApart
  pub hidden : OthersKeepHidden clients_by_app (lives_here apart) × OthersKeepHidden clients_by_app (lives_there apart)
  pub same : WantTheSame clients_by_app (lives_here apart) (lives_there apart)
  pub told : ServedLivesTellAlike clients_by_app (lives_here apart) (lives_there apart)
  pub shown : map (λ x. x.reply) (own_done clients_by_app (next_life apart)) ≡ her_replies
  pub shown_there : map (λ x. x.reply) (own_done clients_by_app (next_life_there apart)) ≡ her_replies
