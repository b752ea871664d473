-- Runs that meet the premises, and runs that part.
use Rattle.std.proofs.Common.{◌≡◌, ◌∙◌, ℕ, pos, nat_eq, Bool, true, false, cond, [], ◌∷◌, refl, sym, ap, subst, inl, inr, eqb-true}
use Rattle.sql_types.specs.declared.value.Value.TheVariants.{Int, Text}
use Rattle.sql_types.specs.declared.answer.Answer.{Answer}
use Rattle.sql_types.specs.declared.answer.Answer.TheVariants as answer
use Rattle.sql_types.specs.declared.event.Event.{Event}
use Rattle.sql_types.specs.declared.event.Event.TheVariants as event
use Rattle.abstract_database.specs.Lists.{TheName}
use Rattle.abstract_database.specs.Database.{Database}
use Rattle.abstract_database.specs.Machine.{Event as MachineEvent, executes, Reading, Machine}
use Rattle.abstract_database.specs.Runs.{Counts, ReadingRelation, IsReadAs, At}
use Rattle.abstract_database.specs.Statements.{UserPair}
use Rattle.database_laws.specs.HiddenRuns.{SameApparentRowsForPairs, IsInPlace, not_issued, failed, answer_to}
use Rattle.database_laws.specs.Told.{Tenant, happens, IsExceptionFor, IsCrowded, LeavesTenant, by_role}
use Rattle.database_laws.specs.Told as machines
use Rattle.database_laws.specs.TwoTenants.{first, second, with_her_other, opened_by_ann, ann_asks, her_note, of_ann, by_ann, idle, as_tenants}
use Rattle.database_laws.proofs.TwoTenants.{premises_met}
use Rattle.client_laws.specs.Renumbered.{IsOneToOne}
use Rattle.client_laws.proofs.Told.{have_places}
use Rattle.server.specs.Standing.{event_of}
use Rattle.talks.specs.declared.want.Want.TheVariants as want
use Rattle.talks.specs.declared.want.Reply.{Reply}
use Rattle.talks.specs.declared.want.Reply.TheVariants as reply
use Rattle.served_tenants.specs.ServedTenants.{tenant_of, SeemAlike, OthersOutOfSight, at_exception, at_refusal, MayPart, by_event, for_memory, by_look_up, in_look_up_session, over_here, told_alike, told_apart, untold_here, untold_there, failed_here, failed_there}
use Rattle.served_tenants.specs.ServedApart.{ReadsTheSelect, standing_with, asking, anns_client, one_place, other_place, begins, opened, asked, one_run, begins_there, opened_by_bob, opened_there, closed_there, asked_there, other_run, one_made, other_made, LookUpsToldAlikePartNothing, RunsMeetThePremises, RunsPartAtSelect}
use Rattle.served_tenants.proofs.Telling.{opened_alike}

clash : true ≡ false → ⊥
clash e = cc

-- ---- the premises

only : (i c d : ℕ) → nat_eq c i ≡ true → nat_eq d i ≡ true → c ≡ d
only i c d on too = eqb-true c i on ∙ sym (eqb-true d i too)

one_apart : IsOneToOne one_place
one_apart = (have_places (λ c. nat_eq c 0) (λ c. 0) (λ c d on too same. only 0 c d on too)).0

other_apart : IsOneToOne other_place
other_apart = (have_places (λ c. nat_eq c 5) (λ c. 0) (λ c d on too same. only 5 c d on too)).0

committed : SameApparentRowsForPairs by_ann first second
committed = premises_met.machines.committed

same_rows : (pairs : UserPair → Bool) (db : Database) → SameApparentRowsForPairs pairs db db
same_rows pairs db = record { definitions = refl; rows = λ pair acts. record { definitions = refl; rows = λ t is. refl } }

one_hidden : OthersOutOfSight anns_client one_place ReadsTheSelect (standing_with begins) one_run (standing_with asked) one_made
one_hidden = ((λ own admitted may. refl, λ foreign. absurd (clash foreign)), ((λ own. tt, λ foreign. absurd (clash foreign)), tt))

other_hidden : OthersOutOfSight anns_client other_place ReadsTheSelect (standing_with begins_there) other_run (standing_with asked_there) other_made
other_hidden = (
  (λ own. absurd (clash (sym own)), λ foreign. same_rows by_ann second),
  (
    (λ own admitted may. refl, λ foreign. absurd (clash foreign)),
    ((λ own. tt, λ foreign. same_rows by_ann second), ((λ own. tt, λ foreign. absurd (clash foreign)), tt)),
  ),
)

-- at the end ann's session alone is open in both
ends_alike : SeemAlike anns_client one_place other_place (standing_with asked) (standing_with asked_there)
ends_alike = record {
  sessions = λ number own. refl;
  opened_for = λ number own. for_one (nat_eq number 1);
  stopped = refl;
  lock = λ number own. refl;
  committed = committed;
  seen = λ number own. committed;
} where
  for_one : (b : Bool) → machines.AllFor by_ann (cond b ((1, idle as_tenants "ann") ∷ []) [])
  for_one true = (record { now = refl; reset = refl; rolled_back = tt }, tt)
  for_one false = tt

pub runs_meet : RunsMeetThePremises
runs_meet = record {
  places = (one_apart, other_apart);
  alike = opened_alike anns_client one_place other_place (standing_with begins) (standing_with begins_there) first second refl refl committed;
  hidden = (one_hidden, other_hidden);
  same = ((refl, refl), λ one. ((refl, refl), λ other. tt));
  told = untold_there (standing_with opened_by_bob) refl other_made.1 (
      told_alike (standing_with opened) (standing_with opened_there) refl (refl, refl) refl one_made.1 other_made.2.1 (
      untold_there (standing_with closed_there) refl other_made.2.2.1 (
      told_alike (standing_with asked) (standing_with asked_there) refl (refl, refl) refl one_made.2.1 other_made.2.2.2.1 (over_here ends_alike))));
  to_the_end = tt;
  shown = refl;
  shown_there = refl;
}

-- ---- at a look-up

pub look_ups_part_nothing : (Reads : ReadingRelation) → LookUpsToldAlikePartNothing Reads
look_ups_part_nothing Reads a place place_there w next v later c table role r (by_event e p q never is is_there parts) = absurd never
look_ups_part_nothing Reads a place place_there w next v later c table role r (for_memory lacks differ) = absurd (differ refl)
look_ups_part_nothing Reads a place place_there w next v later c table role r (by_look_up other whose is cause differ) = absurd (differ refl)
look_ups_part_nothing Reads a place place_there w next v later c table role r (in_look_up_session other whose is runs runs_there io io_there has) = has

-- ---- at a SELECT

abbrev m : Machine
m = opened_by_ann first

abbrev k : Machine
k = opened_by_ann with_her_other

abbrev w : At
w = standing_with m

abbrev v : At
v = standing_with k

abbrev her_first : Answer → ℕ
her_first (answer.Rows ((Text t ∷ Int (pos n) ∷ []) ∷ rows)) = n
her_first _ = 0

abbrev her_first_of : Reply → ℕ
her_first_of (reply.Answer a) = her_first a
her_first_of _ = 0

abbrev is_refused : Answer → Bool
is_refused (answer.Refused code) = true
is_refused _ = false

other_note : reply.Answer (answer_to m (asking 0)) ≡ reply.Answer (answer_to k (asking 0)) → ⊥
other_note same = let contrary : 1 ≡ 2 = ap her_first_of same in cc

-- whichever the sessions of the tenant are
of_pairs : IsExceptionFor (tenant_of anns_client) m k (happens ann_asks) → IsExceptionFor of_ann m k (happens ann_asks)
of_pairs (inl exception) = inl exception
of_pairs (inr (inl crowd)) = inr (inl crowd)
of_pairs (inr (inr leaves)) = inr (inr (leaves_so ann_asks leaves)) where
  leaves_so : (e : MachineEvent Reading) → LeavesTenant (tenant_of anns_client) 1 m e → LeavesTenant of_ann 1 m e
  leaves_so e (by_role s changed x free there may sets foreign) = by_role s changed x free there may sets foreign

no_exception : IsExceptionFor (tenant_of anns_client) m k (happens ann_asks) → ⊥
no_exception exception = premises_met.parts (machines.told_apart refl (of_pairs exception) (λ one. let contrary : her_note ≡ answer.Refused one.0 = one.1 in cc))

none_in_place : (x : Answer) (old new : Counts) → is_refused x ≡ false → IsInPlace old new x → ⊥
none_in_place x old new not_so (not_issued code is counted) = clash (sym (ap is_refused is) ∙ not_so)
none_in_place x old new not_so (failed is broke) = clash (sym (ap is_refused is) ∙ not_so)

same_answer : (x y : Answer) → reply.Answer x ≡ reply.Answer y → x ≡ y
same_answer x y is = cc

not_refused : (p q : Answer) → reply.Answer q ≡ reply.Answer p → is_refused q ≡ false → is_refused p ≡ false
not_refused p q is so = sym (ap is_refused (same_answer q p is)) ∙ so

no_look_up : (e : Event) (table role : TheName) → want.Event e ≡ want.Verifier table role → ⊥
no_look_up e table role is = cc

-- the SELECT has one reading
one_reading : (e : Event) → e ≡ event.Statement 1 [] → (read : MachineEvent Reading) → IsReadAs ReadsTheSelect m (event_of 0 e) read → read ≡ ann_asks
one_reading e is read reads = at (subst (λ (x : Event). IsReadAs ReadsTheSelect m (event_of 0 x) read) is reads) where
  at : IsReadAs ReadsTheSelect m (event_of 0 (event.Statement 1 [])) read → read ≡ ann_asks
  at (reading, as_read, reads_so) = as_read ∙ ap (λ (r : Reading). executes 1 r) (reads_so (refl, refl))

parts_never : (next later : At) → MayPart ReadsTheSelect anns_client (λ c. c) (λ c. c) w next v later 0 (want.Event (event.Statement 1 [])) (reply.Answer (answer_to m (asking 0))) (reply.Answer (answer_to k (asking 0))) → ⊥
parts_never next later (for_memory (inl never) differ) = never
parts_never next later (for_memory (inr never) differ) = never
parts_never next later (by_look_up table role is cause differ) = no_look_up (event.Statement 1 []) table role is
parts_never next later (in_look_up_session table role is runs runs_there io io_there has) = no_look_up (event.Statement 1 []) table role is
parts_never next later (by_event e p q of is is_there (at_refusal (inl in_place) none)) = none_in_place p w.counts next.counts (not_refused p (answer_to m (asking 0)) is refl) in_place
parts_never next later (by_event e p q of is is_there (at_refusal (inr in_place) none)) = none_in_place q v.counts later.counts (not_refused q (answer_to k (asking 0)) is_there refl) in_place
parts_never next later (by_event e p q of is is_there (at_exception read reads exception none)) =
    no_exception (subst (λ (x : MachineEvent Reading). IsExceptionFor (tenant_of anns_client) m k (happens x)) (one_reading e of read reads) exception)

pub runs_part : RunsPartAtSelect
runs_part (told_alike next later own asks same it it_there rest) = other_note same
runs_part (told_apart next later own asks it it_there may) = parts_never next later may
runs_part (untold_here next foreign it rest) = clash foreign
runs_part (untold_there later foreign it rest) = clash foreign
runs_part (failed_here foreign io) = clash foreign
runs_part (failed_there foreign io) = clash foreign
