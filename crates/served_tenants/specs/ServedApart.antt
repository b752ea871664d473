-- Two runs that meet the premises, in which a tenant is told alike to the end; and two that the law refuses.
use Rattle.std.specs.Prelude.{◌≡◌, ◌⊎◌, ℕ, nat_eq, true, List, [], ◌∷◌, codes, None}
use Rattle.std.proofs.Common.{refl, arith}
use Prim.Native.String.{String}
use Rattle.sql_types.specs.declared.event.Event.{Event}
use Rattle.sql_types.specs.declared.event.Event.TheVariants as event
use Rattle.abstract_database.specs.Lists.{TheName}
use Rattle.abstract_database.specs.Machine.{Event as MachineEvent, opens, executes, closes, Reading, Machine, machine_over, number_in}
use Rattle.abstract_database.specs.Runs.{ReadingRelation, IsReadAs, Counts, NoneFalls, At, by_transition}
use Rattle.database_laws.specs.HiddenRuns.{answer_to, after}
use Rattle.database_laws.specs.TwoTenants.{first, second, with_her_other, opened_by_ann, ann_asks, reading_of, her_note, by_ann}
use Rattle.client_laws.specs.Clients.{place_of}
use Rattle.client_laws.specs.Renumbered.{IsOneToOne}
use Rattle.server.specs.Standing.{event_of}
use Rattle.talks.specs.declared.want.Want.TheVariants as want
use Rattle.talks.specs.declared.want.Reply.{Reply}
use Rattle.talks.specs.declared.want.Reply.TheVariants as reply
use Rattle.talks.specs.declared.want.Way.TheVariants as way
use Rattle.talks.specs.declared.want.SessionEntry.{SessionEntry}
use Rattle.talks.specs.Turns.{Exchange}
use Rattle.served_tenants.specs.Exchanges.{CarriesOutAt, takes, Exchanges}
use Rattle.served_tenants.specs.ServedTenants.{ClientsOfTenant, SeemAlike, own_exchanges, HasLookUpSessions, OthersOutOfSight, AskAlike, MayPart, TellAlike}
use Rattle.served_tenants.specs.SaidTenants.{NeverParts}

-- ---- a store that counts nothing

-- each text is read as SELECT * FROM notes
abbrev pub ReadsTheSelect : ReadingRelation
ReadsTheSelect text reading = reading ≡ reading_of ann_asks

abbrev pub no_counts : Counts
no_counts = record { number = 0; fulls = 0; failures = 0; faults = 0 }

abbrev pub standing_with : Machine → At
standing_with m = record { counts = no_counts; moment = 0; standing = record { machine = m; under_way = None } }

abbrev pub none_falls : NoneFalls no_counts no_counts
none_falls = record { number = omega arith; fulls = omega arith; failures = omega arith; faults = omega arith }

-- an event of a client is carried out as the machine has it
abbrev pub carried_out : (m : Machine) (c : ℕ) (e : Event) (read : MachineEvent Reading) → IsReadAs ReadsTheSelect m (event_of c e) read → CarriesOutAt ReadsTheSelect (standing_with m) c e (answer_to m read) (standing_with (after m read))
carried_out m c e read is = record { counts = none_falls; step = by_transition (record { as_read = read; read = is; is = refl }); under_way = refl; later = omega arith; during = tt; now = tt }

-- ---- what clients want

-- session 1 of a client is opened for a role, and in it the notes are asked for; then it is closed
abbrev pub opening : ℕ → String → MachineEvent Reading
opening c role = opens (number_in c 1) (codes role)

abbrev pub asking : ℕ → MachineEvent Reading
asking c = executes (number_in c 1) (reading_of ann_asks)

abbrev pub closing : ℕ → MachineEvent Reading
closing c = closes (number_in c 1)

-- at a place where anyone comes in but as a superuser
abbrev pub no_superuser : SessionEntry
no_superuser = record { way = way.Anyone; no_superuser = true; shown = None }

abbrev pub opens_in : Machine → ℕ → String → Exchange
opens_in m c role = record { client = c; want = want.Open 1 (codes role) no_superuser; reply = reply.Answer (answer_to m (opening c role)) }

abbrev pub asks_in : Machine → ℕ → Exchange
asks_in m c = record { client = c; want = want.Event (event.Statement 1 []); reply = reply.Answer (answer_to m (asking c)) }

abbrev pub closes_in : Machine → ℕ → Exchange
closes_in m c = record { client = c; want = want.Event (event.Close 1); reply = reply.Answer (answer_to m (closing c)) }

-- ---- a tenant of one client, which is client 0 of the one server, and client 5 of the other

abbrev pub anns_client : ClientsOfTenant
anns_client = record { pairs = by_ann; clients = λ place. nat_eq place 0 }

abbrev pub one_place : ℕ → ℕ
one_place = place_of (λ c. nat_eq c 0) (λ c. 0)

abbrev pub other_place : ℕ → ℕ
other_place = place_of (λ c. nat_eq c 5) (λ c. 0)

-- ann comes alone
abbrev pub begins : Machine
begins = machine_over first

abbrev pub opened : Machine
opened = after begins (opening 0 "ann")

abbrev pub asked : Machine
asked = after opened (asking 0)

abbrev pub one_run : List Exchange
one_run = opens_in begins 0 "ann" ∷ asks_in opened 0 ∷ []

-- bob came before her, and goes in between; he has other notes there
abbrev pub begins_there : Machine
begins_there = machine_over second

abbrev pub opened_by_bob : Machine
opened_by_bob = after begins_there (opening 0 "bob")

abbrev pub opened_there : Machine
opened_there = after opened_by_bob (opening 5 "ann")

abbrev pub closed_there : Machine
closed_there = after opened_there (closing 0)

abbrev pub asked_there : Machine
asked_there = after closed_there (asking 5)

abbrev pub other_run : List Exchange
other_run = opens_in begins_there 0 "bob" ∷ opens_in opened_by_bob 5 "ann" ∷ closes_in opened_there 0 ∷ asks_in closed_there 5 ∷ []

abbrev pub one_made : Exchanges ReadsTheSelect (standing_with begins) one_run (standing_with asked)
one_made = (
  standing_with opened,
  (answer_to begins (opening 0 "ann"), refl, takes refl refl (carried_out begins 0 (event.Open 1 (codes "ann")) (opening 0 "ann") refl)),
  (standing_with asked, (answer_to opened (asking 0), refl, carried_out opened 0 (event.Statement 1 []) (asking 0) (reading_of ann_asks, refl, λ may. refl)), refl),
)

abbrev pub other_made : Exchanges ReadsTheSelect (standing_with begins_there) other_run (standing_with asked_there)
other_made = (
  standing_with opened_by_bob,
  (answer_to begins_there (opening 0 "bob"), refl, takes refl refl (carried_out begins_there 0 (event.Open 1 (codes "bob")) (opening 0 "bob") refl)),
  (
    standing_with opened_there,
    (answer_to opened_by_bob (opening 5 "ann"), refl, takes refl refl (carried_out opened_by_bob 5 (event.Open 1 (codes "ann")) (opening 5 "ann") refl)),
    (
      standing_with closed_there,
      (answer_to opened_there (closing 0), refl, carried_out opened_there 0 (event.Close 1) (closing 0) refl),
      (standing_with asked_there, (answer_to closed_there (asking 5), refl, carried_out closed_there 5 (event.Statement 1 []) (asking 5) (reading_of ann_asks, refl, λ may. refl)), refl),
    ),
  ),
)

-- both are shown her note
pub record RunsMeetThePremises : Type 0 where
  pub places : IsOneToOne one_place × IsOneToOne other_place
  pub alike : SeemAlike anns_client one_place other_place (standing_with begins) (standing_with begins_there)
  pub hidden : OthersOutOfSight anns_client one_place ReadsTheSelect (standing_with begins) one_run (standing_with asked) one_made
      × OthersOutOfSight anns_client other_place ReadsTheSelect (standing_with begins_there) other_run (standing_with asked_there) other_made
  pub same : AskAlike one_place other_place (own_exchanges anns_client one_place one_run) (own_exchanges anns_client other_place other_run)
  pub told : TellAlike ReadsTheSelect anns_client one_place other_place (standing_with begins) (standing_with begins_there) one_run other_run
  pub to_the_end : NeverParts told
  pub shown : answer_to opened (asking 0) ≡ her_note
  pub shown_there : answer_to closed_there (asking 5) ≡ her_note

-- ---- look-ups

-- what both servers reply alike to a look-up parts no runs, unless the sessions of look-ups count as the tenant's
abbrev pub LookUpsToldAlikePartNothing : ReadingRelation → Type 0
LookUpsToldAlikePartNothing Reads = (a : ClientsOfTenant) (place place_there : ℕ → ℕ) (w next v later : At) (c : ℕ) (table role : TheName) (r : Reply) →
    MayPart Reads a place place_there w next v later c (want.Verifier table role) r r → HasLookUpSessions a place ⊎ HasLookUpSessions a place_there

-- ---- where the law is broken

-- client 0 of both has her session open, and asks; her own notes differ
abbrev pub RunsPartAtSelect : Type 0
RunsPartAtSelect = TellAlike ReadsTheSelect anns_client (λ c. c) (λ c. c) (standing_with (opened_by_ann first)) (standing_with (opened_by_ann with_her_other))
    (asks_in (opened_by_ann first) 0 ∷ []) (asks_in (opened_by_ann with_her_other) 0 ∷ []) → ⊥
