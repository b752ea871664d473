-- Lives that meet the premises, and lives that part.
use Rattle.std.proofs.Common.{◌≡◌, ◌∙◌, ◌||◌, ℕ, pos, nat_eq, Bool, true, false, cond, codes, [], ◌∷◌, None, refl, sym, ap, subst, inl, inr}
use Rattle.std.proofs.lemmas.Bool.{eqb-true}
use Rattle.sql_types.specs.declared.value.Value.TheVariants.{Int, Text}
use Rattle.sql_types.specs.declared.state.SqlState.TheVariants.{OutOfMemory, UniqueViolation}
use Rattle.sql_types.specs.declared.tag.Tag.TheVariants as tag
use Rattle.sql_types.specs.declared.answer.Answer.{Answer}
use Rattle.sql_types.specs.declared.answer.Answer.TheVariants as answer
use Rattle.sql_types.specs.declared.event.Event.{Event}
use Rattle.sql_types.specs.declared.event.Event.TheVariants as event
use Rattle.abstract_database.specs.Database.{Database}
use Rattle.abstract_database.specs.Lists.{TheName}
use Rattle.abstract_database.specs.Machine.{Event as MachineEvent, opens, executes, closes, Reading, Machine, Transition, machine_over}
use Rattle.abstract_database.specs.Runs.{IsReadAs, Counts, At, IsStep, by_transition, for_device}
use Rattle.abstract_database.specs.Runs as step
use Rattle.database_laws.specs.Runs.{ReadsOnce}
use Rattle.database_laws.specs.HiddenRuns.{SameApparentRowsForPairs, answer_to, after, IsException, by_key, by_count, by_definition, IsInPlace, not_issued, failed}
use Rattle.database_laws.specs.Told.{happens, IsExceptionFor, IsCrowded, by_lock, by_number, LeavesTenant, by_role}
use Rattle.database_laws.specs.Told as machines
use Rattle.database_laws.specs.TwoTenants.{first, second, with_her_other, opened_by_ann, ann_asks, her_note, of_ann, by_ann}
use Rattle.database_laws.proofs.TwoTenants.{premises_met}
use Rattle.client_laws.specs.Renumbered.{IsOneToOne, renumbered_machine}
use Rattle.client_laws.specs.TwoRuns.{are_own, named, placed}
use Rattle.client_laws.proofs.Told.{have_places}
use Rattle.server.specs.Standing.{event_of}
use Rattle.talks.specs.declared.want.Want.{Want}
use Rattle.talks.specs.declared.want.Want.TheVariants as want
use Rattle.talks.specs.declared.want.Reply.{Reply}
use Rattle.talks.specs.declared.want.Reply.TheVariants as reply
use Rattle.talks.specs.Turns.{Exchange}
use Rattle.served_tenants.specs.Exchanges.{OpensSessionAt, has_stopped, turns_away, lacks_memory, takes}
use Rattle.served_tenants.specs.ServedTenants.{tenant_of, at_exception, at_refusal, MayPart, by_event, for_memory, by_look_up, in_look_up_session, TellAlike, over_here, over_there, told_alike, told_apart, untold_here, untold_there, failed_here, failed_there}
use Rattle.served_tenants.specs.SaidTenants.{NeverParts}
use Rattle.served_tenants.specs.ServedApart.{ReadsTheSelect, standing_with, opening, asking, no_superuser, asks_in, anns_client}
use Rattle.served_lives.specs.ServedLives.{none_served, served, PartWhereStopped, one_commit_more, one_commit_more_there, device_had_failed, device_had_failed_there, OthersKeepHidden, WantTheSame, ServedLivesTellAlike}
use Rattle.served_lives.specs.ServedLivesApart.{anns_clients, ArePlacedApart, lives_here, lives_there, ServedLivesMeetThePremises, idle_life, asks_over_first, asks_over_other, ServedLivesPartAtSelect}
use Rattle.served_lives.proofs.ServedLivesTold.{lives_tell}

clash : true ≡ false → ⊥
clash e = cc

-- ---- the premises

-- of two clients one is named 1, the other 0
abbrev name_if : Bool → ℕ
name_if second = cond second 1 0

named_apart : (i j c d : ℕ) → are_own i j c ≡ true → are_own i j d ≡ true → named j c ≡ named j d → c ≡ d
named_apart i j c d own own_too same = by (nat_eq c j) (nat_eq d j) refl refl same where
  the_first : (e : ℕ) → are_own i j e ≡ true → nat_eq e j ≡ false → e ≡ i
  the_first e is off = eqb-true e i (left (nat_eq e i) (nat_eq e j) is off) where
    left : (b x : Bool) → (b || x) ≡ true → x ≡ false → b ≡ true
    left true x on none = refl
    left false true on none = absurd (clash none)
    left false false on none = on

  by : (x y : Bool) → nat_eq c j ≡ x → nat_eq d j ≡ y → name_if x ≡ name_if y → c ≡ d
  by true true is is_too equal = eqb-true c j is ∙ sym (eqb-true d j is_too)
  by true false is is_too equal = let contrary : ◌≡◌ {A = ℕ} 1 0 = equal in cc
  by false true is is_too equal = let contrary : ◌≡◌ {A = ℕ} 0 1 = equal in cc
  by false false is is_too equal = the_first c own is ∙ sym (the_first d own_too is_too)

placed_apart : (i j : ℕ) → IsOneToOne (placed i j)
placed_apart i j = (have_places (are_own i j) (named j) (named_apart i j)).0

pub apart : ArePlacedApart
apart = record { one = placed_apart 0 2; one_next = placed_apart 1 0; other = placed_apart 5 4; other_next = placed_apart 0 3 }

same_rows : (db : Database) → SameApparentRowsForPairs by_ann db db
same_rows db = record { definitions = refl; rows = λ pair acts. record { definitions = refl; rows = λ t is. refl } }

here_hidden : OthersKeepHidden anns_clients (lives_here apart)
here_hidden = (
  (
    (λ own admitted may. refl, λ foreign. absurd (clash foreign)),
    (
      (λ own. absurd (clash (sym own)), λ foreign. same_rows first),
      (
        (λ own admitted may. refl, λ foreign. absurd (clash foreign)),
        (
          (λ own. absurd (clash (sym own)), λ foreign. same_rows first),
          ((λ own. tt, λ foreign. absurd (clash foreign)), ((λ own. tt, λ foreign. same_rows first), ((λ own. tt, λ foreign. absurd (clash foreign)), tt))),
        ),
      ),
    ),
  ),
  (
    (
      (λ own admitted may. refl, λ foreign. absurd (clash foreign)),
      (
        (λ own admitted may. refl, λ foreign. absurd (clash foreign)),
        (
          (λ own. absurd (clash (sym own)), λ foreign. same_rows first),
          ((λ own. absurd (clash (sym own)), λ foreign. same_rows first), ((λ own. tt, λ foreign. absurd (clash foreign)), ((λ own. tt, λ foreign. absurd (clash foreign)), tt))),
        ),
      ),
    ),
    tt,
  ),
)

there_hidden : OthersKeepHidden anns_clients (lives_there apart)
there_hidden = (
  (
    (λ own. absurd (clash (sym own)), λ foreign. same_rows second),
    (
      (λ own admitted may. refl, λ foreign. absurd (clash foreign)),
      (
        (λ own. absurd (clash (sym own)), λ foreign. same_rows second),
        ((λ own admitted may. refl, λ foreign. absurd (clash foreign)), ((λ own. tt, λ foreign. absurd (clash foreign)), tt)),
      ),
    ),
  ),
  (
    (
      (λ own admitted may. refl, λ foreign. absurd (clash foreign)),
      (
        (λ own admitted may. refl, λ foreign. absurd (clash foreign)),
        (
          (λ own. absurd (clash (sym own)), λ foreign. same_rows second),
          (
            (λ own. absurd (clash (sym own)), λ foreign. same_rows second),
            ((λ own. tt, λ foreign. same_rows second), ((λ own. tt, λ foreign. absurd (clash foreign)), ((λ own. tt, λ foreign. absurd (clash foreign)), tt))),
          ),
        ),
      ),
    ),
    tt,
  ),
)

reads_once : ReadsOnce ReadsTheSelect
reads_once text x y one two = one ∙ sym two

pub lives_meet : ServedLivesMeetThePremises
lives_meet =
    let same : WantTheSame anns_clients (lives_here apart) (lives_there apart) = (
      ((refl, refl), λ one. ((refl, refl), λ two. ((refl, refl), λ three. tt))),
      (((refl, refl), λ one. ((refl, refl), λ two. ((refl, refl), λ three. ((refl, refl), λ four. tt)))), tt),
    ) in
    record {
      apart = apart;
      hidden = (here_hidden, there_hidden);
      same = same;
      told = lives_tell ReadsTheSelect reads_once anns_clients first second (lives_here apart) (lives_there apart) premises_met.machines.committed premises_met.sound_first premises_met.sound_second here_hidden there_hidden same;
      shown = refl;
      shown_there = refl;
    }

-- ---- an opening of hers is no exception

abbrev is_refused : Answer → Bool
is_refused (answer.Refused code) = true
is_refused _ = false

abbrev is_key_told : Answer → Bool
is_key_told (answer.Refused UniqueViolation) = true
is_key_told _ = false

abbrev is_of_opening : MachineEvent Reading → Bool
is_of_opening (opens number login) = true
is_of_opening (executes number reading) = false
is_of_opening (closes number) = false

abbrev m : Machine
m = machine_over first

abbrev k : Machine
k = machine_over with_her_other

no_key : (e : MachineEvent Reading) → is_key_told (answer_to m e) ≡ false → is_key_told (answer_to k e) ≡ false → IsException 1 m k e → is_of_opening e ≡ true → ⊥
no_key e f s (by_key is (inl tells)) of = clash (sym (ap is_key_told tells.0) ∙ f)
no_key e f s (by_key is (inr tells)) of = clash (sym (ap is_key_told tells.0) ∙ s)
no_key e f s (by_count session x c there goes checks) of = clash (sym of)
no_key e f s (by_definition x unhides refused) of = clash (sym of)

no_crowd : (e : MachineEvent Reading) → IsCrowded 1 m k e → is_of_opening e ≡ true → ⊥
no_crowd e (by_lock x writes other tells) of = clash (sym of)
no_crowd e (by_number login other tells) of = other refl

stays_hers : (e : MachineEvent Reading) → LeavesTenant (tenant_of anns_client) 1 m e → is_of_opening e ≡ true → ⊥
stays_hers e (by_role s changed x free there may sets foreign) of = clash (sym of)

abbrev the_opening : MachineEvent Reading
the_opening = opening 0 "ann"

opens_alike : IsExceptionFor (tenant_of anns_client) m k (happens the_opening) → ⊥
opens_alike (inl exception) = no_key the_opening refl refl exception refl
opens_alike (inr (inl crowd)) = no_crowd the_opening crowd refl
opens_alike (inr (inr leaves)) = stays_hers the_opening leaves refl

-- ---- nor is her SELECT

-- whichever the sessions of the tenant are
of_pairs : IsExceptionFor (tenant_of anns_client) (opened_by_ann first) (opened_by_ann with_her_other) (happens ann_asks) → IsExceptionFor of_ann (opened_by_ann first) (opened_by_ann with_her_other) (happens ann_asks)
of_pairs (inl exception) = inl exception
of_pairs (inr (inl crowd)) = inr (inl crowd)
of_pairs (inr (inr leaves)) = inr (inr (leaves_so ann_asks leaves)) where
  leaves_so : (e : MachineEvent Reading) → LeavesTenant (tenant_of anns_client) 1 (opened_by_ann first) e → LeavesTenant of_ann 1 (opened_by_ann first) e
  leaves_so e (by_role s changed x free there may sets foreign) = by_role s changed x free there may sets foreign

asks_alike : IsExceptionFor (tenant_of anns_client) (opened_by_ann first) (opened_by_ann with_her_other) (happens ann_asks) → ⊥
asks_alike exception = premises_met.parts (machines.told_apart refl (of_pairs exception) (λ one. let contrary : her_note ≡ answer.Refused one.0 = one.1 in cc))

-- ---- what may not part them

none_in_place : (x : Answer) (old new : Counts) → is_refused x ≡ false → IsInPlace old new x → ⊥
none_in_place x old new not_so (not_issued code is counted) = clash (sym (ap is_refused is) ∙ not_so)
none_in_place x old new not_so (failed is broke) = clash (sym (ap is_refused is) ∙ not_so)

same_answer : (x y : Answer) → reply.Answer x ≡ reply.Answer y → x ≡ y
same_answer x y is = cc

not_refused : (p q : Answer) → reply.Answer q ≡ reply.Answer p → is_refused q ≡ false → is_refused p ≡ false
not_refused p q is so = sym (ap is_refused (same_answer q p is)) ∙ so

abbrev was_opened : Answer
was_opened = answer.Done tag.Open None None

no_memory : (x : Answer) → is_refused x ≡ false → reply.Answer x ≡ reply.Answer (answer.Refused OutOfMemory) → ⊥
no_memory x not_so is = clash (sym (ap is_refused (same_answer x (answer.Refused OutOfMemory) is)) ∙ not_so)

open_is_no_look_up : (n : ℕ) (login table role : TheName) → ◌≡◌ {A = Want} (want.Open n login no_superuser) (want.Verifier table role) → ⊥
open_is_no_look_up n login table role is = cc

asking_is_no_look_up : (e : Event) (table role : TheName) → want.Event e ≡ want.Verifier table role → ⊥
asking_is_no_look_up e table role is = cc

-- her session was opened, and leads to one machine
module _ (db : Database) (is_ann : after (machine_over db) the_opening ≡ opened_by_ann db) where
  carried_to : (next : At) → IsStep ReadsTheSelect (standing_with (machine_over db)).counts next.counts (machine_over db) (event_of 0 (event.Open 1 (codes "ann"))) was_opened next.standing.machine → next.standing.machine ≡ opened_by_ann db
  carried_to next (by_transition is) =
      ap (λ (t : Transition). t.machine) is.is ∙ ap (λ (e : MachineEvent Reading). after (machine_over db) e) is.read ∙ is_ann
  carried_to next (step.for_memory e kept may) = absurd (clash (sym (ap is_refused e)))
  carried_to next (step.for_space e kept may rises) = absurd (clash (sym (ap is_refused e)))
  carried_to next (step.for_number e kept may greatest) = absurd (clash (sym (ap is_refused e)))
  carried_to next (for_device t is may e kept broke) = absurd (clash (sym (ap is_refused e)))

  opened_to : (next : At) (p : Answer) → p ≡ was_opened → OpensSessionAt ReadsTheSelect (standing_with (machine_over db)) 0 1 (codes "ann") no_superuser p next → next.standing.machine ≡ opened_by_ann db
  opened_to next p is (has_stopped was e same) = absurd (clash (sym was))
  opened_to next p is (turns_away runs away e same) = absurd (clash (sym (ap is_refused (sym is ∙ e))))
  opened_to next p is (lacks_memory runs admitted e same) = absurd (clash (sym (ap is_refused (sym is ∙ e))))
  opened_to next p is (takes runs admitted it) =
      carried_to next (subst (λ (x : Answer). IsStep ReadsTheSelect (standing_with (machine_over db)).counts next.counts (machine_over db) (event_of 0 (event.Open 1 (codes "ann"))) x next.standing.machine) is it.step)

-- ---- the SELECT behind it

abbrev her_first : Answer → ℕ
her_first (answer.Rows ((Text t ∷ Int (pos n) ∷ []) ∷ rows)) = n
her_first _ = 0

abbrev her_first_of : Reply → ℕ
her_first_of (reply.Answer a) = her_first a
her_first_of _ = 0

abbrev here_asked : Exchange
here_asked = asks_in (opened_by_ann first) 0

abbrev there_asked : Exchange
there_asked = asks_in (opened_by_ann with_her_other) 0

other_note : here_asked.reply ≡ there_asked.reply → ⊥
other_note same = let contrary : ◌≡◌ {A = ℕ} 1 2 = ap her_first_of same in cc

module _ (w v : At) (at_w : w.standing.machine ≡ opened_by_ann first) (at_v : v.standing.machine ≡ opened_by_ann with_her_other) where
  -- the SELECT has one reading
  one_reading : (e : Event) → e ≡ event.Statement 1 [] → (read : MachineEvent Reading) → IsReadAs ReadsTheSelect (opened_by_ann first) (event_of 0 e) read → read ≡ ann_asks
  one_reading e is read reads = at (subst (λ (x : Event). IsReadAs ReadsTheSelect (opened_by_ann first) (event_of 0 x) read) is reads) where
    at : IsReadAs ReadsTheSelect (opened_by_ann first) (event_of 0 (event.Statement 1 [])) read → read ≡ ann_asks
    at (reading, as_read, reads_so) = as_read ∙ ap (λ (r : Reading). executes 1 r) (reads_so (refl, refl))

  select_parts_never : (next later : At) → MayPart ReadsTheSelect anns_client (λ c. c) (λ c. c) w next v later 0 (want.Event (event.Statement 1 [])) here_asked.reply there_asked.reply → ⊥
  select_parts_never next later (for_memory (inl never) differ) = never
  select_parts_never next later (for_memory (inr never) differ) = never
  select_parts_never next later (by_look_up table role is cause differ) = asking_is_no_look_up (event.Statement 1 []) table role is
  select_parts_never next later (in_look_up_session table role is runs runs_there io io_there has) = asking_is_no_look_up (event.Statement 1 []) table role is
  select_parts_never next later (by_event e p q of is is_there (at_refusal (inl in_place) none)) = none_in_place p w.counts next.counts (not_refused p (answer_to (opened_by_ann first) (asking 0)) is refl) in_place
  select_parts_never next later (by_event e p q of is is_there (at_refusal (inr in_place) none)) = none_in_place q v.counts later.counts (not_refused q (answer_to (opened_by_ann with_her_other) (asking 0)) is_there refl) in_place
  select_parts_never next later (by_event e p q of is is_there (at_exception read reads exception none)) =
      let so = subst (λ (n : Machine). IsReadAs ReadsTheSelect (renumbered_machine (λ c. c) n) (event_of 0 e) read) at_w reads in
      asks_alike
      (subst (λ (x : MachineEvent Reading). IsExceptionFor (tenant_of anns_client) (opened_by_ann first) (opened_by_ann with_her_other) (happens x)) (one_reading e of read so)
      (subst (λ (n : Machine). IsExceptionFor (tenant_of anns_client) (renumbered_machine (λ c. c) n) (opened_by_ann with_her_other) (happens read)) at_w
      (subst (λ (j : Machine). IsExceptionFor (tenant_of anns_client) (renumbered_machine (λ c. c) w.standing.machine) (renumbered_machine (λ c. c) j) (happens read)) at_v exception)))

  select_parts : TellAlike ReadsTheSelect anns_client (λ c. c) (λ c. c) w v (here_asked ∷ []) (there_asked ∷ []) → ⊥
  select_parts (told_alike next later own asks same it it_there rest) = other_note same
  select_parts (told_apart next later own asks it it_there may) = select_parts_never next later may
  select_parts (untold_here next foreign it rest) = clash foreign
  select_parts (untold_there later foreign it rest) = clash foreign
  select_parts (failed_here foreign io) = clash foreign
  select_parts (failed_there foreign io) = clash foreign

-- ---- both

opening_parts_never : (next later : At) → MayPart ReadsTheSelect anns_client (λ c. c) (λ c. c) (standing_with m) next (standing_with k) later 0 (want.Open 1 (codes "ann") no_superuser) (reply.Answer was_opened) (reply.Answer was_opened) → ⊥
opening_parts_never next later (for_memory (inl lacks) differ) = differ refl
opening_parts_never next later (for_memory (inr lacks) differ) = differ refl
opening_parts_never next later (by_look_up table role is cause differ) = open_is_no_look_up 1 (codes "ann") table role is
opening_parts_never next later (in_look_up_session table role is runs runs_there io io_there has) = open_is_no_look_up 1 (codes "ann") table role is
opening_parts_never next later (by_event e p q of is is_there (at_refusal (inl in_place) none)) = none_in_place p (standing_with m).counts next.counts (not_refused p was_opened is refl) in_place
opening_parts_never next later (by_event e p q of is is_there (at_refusal (inr in_place) none)) = none_in_place q (standing_with k).counts later.counts (not_refused q was_opened is_there refl) in_place
opening_parts_never next later (by_event e p q of is is_there (at_exception read reads exception none)) =
    opens_alike (subst (λ (x : MachineEvent Reading). IsExceptionFor (tenant_of anns_client) m k (happens x)) (subst (λ (x : Event). IsReadAs ReadsTheSelect m (event_of 0 x) read) of reads) exception)

lives_part : TellAlike ReadsTheSelect anns_client (λ c. c) (λ c. c) asks_over_first.begin asks_over_other.begin asks_over_first.done asks_over_other.done → ⊥
lives_part (told_alike next later own asks same it it_there rest) =
    select_parts next later (opened_to first refl next it.0 (same_answer it.0 was_opened (sym it.1)) it.2) (opened_to with_her_other refl later it_there.0 (same_answer it_there.0 was_opened (sym it_there.1)) it_there.2) rest
lives_part (told_apart next later own asks it it_there may) = opening_parts_never next later may
lives_part (untold_here next foreign it rest) = clash foreign
lives_part (untold_there later foreign it rest) = clash foreign
lives_part (failed_here foreign io) = clash foreign
lives_part (failed_there foreign io) = clash foreign

pub parts_at_select : ServedLivesPartAtSelect
parts_at_select = (both_lives, λ alone. lives_part alone.0) where
  idle_told : (told : TellAlike ReadsTheSelect anns_client (λ c. c) (λ c. c) (idle_life first).begin (idle_life with_her_other).begin [] []) → NeverParts told
  idle_told (over_here st) = tt
  idle_told (over_there st) = tt

  none_part : PartWhereStopped anns_client (idle_life first) (idle_life with_her_other) → ⊥
  none_part (one_commit_more commits) = commits
  none_part (one_commit_more_there commits) = commits
  none_part (device_had_failed left) = cc
  none_part (device_had_failed_there left) = cc

  both_lives : ServedLivesTellAlike anns_client (served (idle_life first) (served asks_over_first none_served)) (served (idle_life with_her_other) (served asks_over_other none_served)) → ⊥
  both_lives (told, on) =
      elim (on (idle_told told)) [
        | inl parts ↦ none_part parts
        | inr next ↦ lives_part next.1.0
      ]
