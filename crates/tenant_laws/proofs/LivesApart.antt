-- Where the law of lives lets answers differ.
use Rattle.std.proofs.Common.{◌≡◌, ◌⊎◌, ℕ, pos, Bool, true, false, codes, List, [], ◌∷◌, IsSome, refl, sym, ap, ◌∙◌, subst, inl, inr}
use Rattle.sql_types.specs.Row.{Row}
use Rattle.sql_types.specs.declared.value.Value.TheVariants.{Int, Text}
use Rattle.sql_types.specs.declared.state.SqlState.TheVariants.{ConnectionDoesNotExist, UniqueViolation}
use Rattle.sql_types.specs.declared.answer.Answer.{Answer}
use Rattle.sql_types.specs.declared.answer.Answer.TheVariants as answer
use Rattle.abstract_database.specs.Database.{Database}
use Rattle.abstract_database.specs.Machine.{Event, opens, executes, closes, Reading, Machine, Transition, transition_to, machine_over, session_of, transition}
use Rattle.abstract_database.specs.Runs.{TheText, ReadingRelation, IsReadAs, IsTransition, Counts, Standing, Stops, At, Happens, IsStep, by_transition, for_device}
use Rattle.abstract_database.specs.Runs as step
use Rattle.database_laws.specs.Runs.{ReadsOnce}
use Rattle.database_laws.specs.HiddenRuns.{answer_to, after, IsException, by_key, by_count, by_definition, not_issued, failed}
use Rattle.database_laws.specs.Told.{Tenant, happens, IsExceptionFor, IsCrowded, by_lock, by_number, LeavesTenant, by_role}
use Rattle.database_laws.specs.Told as machines
use Rattle.database_laws.specs.ToldApart.{NoStoreGives}
use Rattle.database_laws.specs.ToldStores.{is_text_of, IsToldAlikeBy, all_told, told_apart, refused_alone, told_alike, untold_here, untold_there, failed_here, failed_there}
use Rattle.database_laws.specs.TwoTenants.{note, with_notes, first, second, with_her_other, opened_by_ann, ann_asks, her_note, of_ann}
use Rattle.database_laws.proofs.TwoTenants.{premises_met}
use Rattle.tenant_laws.specs.TenantLives.{LifeOver, own_left, IsOfFailure, LivesOutOfSight, IsToldToTheEnd, PartsAtStop, by_commit, by_commit_there, by_exception, by_failure, by_failure_there, LivesTellAlike}
use Rattle.tenant_laws.specs.LivesApart.{lives_begin_without_sessions, next_lives_are_told_alike, AsSelect, anything, no_counts, standing_with, opening_life, ann_opens, ann_executes, is_opened, two_lives, LivesPartAtSelect, LivesAreToldAlike}
use Rattle.tenant_laws.proofs.LivesTold.{lives_tell}

clash : true ≡ false → ⊥
clash e = cc

abbrev is_refused : Answer → Bool
is_refused (answer.Refused code) = true
is_refused _ = false

-- ---- after a restart

module _ (Reads : ReadingRelation) (old new : Counts) (db : Database) (number : ℕ) (x : Answer) (next : Machine) where
  refused_as_read : (t : Transition) → t ≡ transition_to x next → t.answer ≡ answer.Refused ConnectionDoesNotExist → x ≡ answer.Refused ConnectionDoesNotExist
  refused_as_read t is e = sym (ap (λ (u : Transition). u.answer) is) ∙ e

  none_executes : (text : TheText) → IsStep Reads old new (machine_over db) (executes number text) x next → x ≡ answer.Refused ConnectionDoesNotExist
  none_executes text (by_transition is) =
      refused_as_read (transition (machine_over db) is.as_read) (sym is.is) (ap (λ (e : Event Reading). (transition (machine_over db) e).answer) is.read.1)
  none_executes text (step.for_memory e kept may) = absurd (clash (sym may.0.1))
  none_executes text (step.for_space e kept may rises) = absurd may.1
  none_executes text (step.for_number e kept may greatest) = absurd may.1
  none_executes text (for_device t is may e kept broke) = absurd (clash (sym may.0.1))

  none_closes : IsStep Reads old new (machine_over db) (closes number) x next → x ≡ answer.Refused ConnectionDoesNotExist
  none_closes (by_transition is) =
      refused_as_read (transition (machine_over db) is.as_read) (sym is.is) (ap (λ (e : Event Reading). (transition (machine_over db) e).answer) is.read)
  none_closes (step.for_memory e kept may) = absurd may
  none_closes (step.for_space e kept may rises) = absurd may
  none_closes (step.for_number e kept may greatest) = absurd may
  none_closes (for_device t is may e kept broke) = absurd may

pub begin_without_sessions : {T : Type 0} (Reads : ReadingRelation) (leave : T → Stops) → lives_begin_without_sessions Reads leave
begin_without_sessions Reads leave db life number text x next =
    let opened : life.begin.standing.machine ≡ machine_over db = ap (λ (s : Standing). s.machine) life.over in (
      λ it. none_executes Reads life.begin.counts next.counts db number x next.standing.machine text
          (subst (λ (m : Machine). IsStep Reads life.begin.counts next.counts m (executes number text) x next.standing.machine) opened it.step),
      λ it. none_closes Reads life.begin.counts next.counts db number x next.standing.machine
          (subst (λ (m : Machine). IsStep Reads life.begin.counts next.counts m (closes number) x next.standing.machine) opened it.step),
    )

-- ---- the next lives

some_left : (x : Event TheText) (left : List (Event TheText)) → left ≡ [] → left ≡ x ∷ [] → ⊥
some_left x left none is = let contrary : [] ≡ x ∷ [] = sym none ∙ is in cc

none_part : {T U : Type 0} (Reads : ReadingRelation) (leave : T → Stops) (leave_there : U → Stops) (a : Tenant) (d e : Database) (life : LifeOver Reads leave d) (other : LifeOver Reads leave_there e) →
    own_left a life ≡ [] → own_left a other ≡ [] → (IsOfFailure life.leaves → ⊥) → (IsOfFailure other.leaves → ⊥) → PartsAtStop a life other → ⊥
none_part Reads leave leave_there a d e life other none none_there held held_there (by_commit x is none_left read reads commits) = some_left x (own_left a life) none is
none_part Reads leave leave_there a d e life other none none_there held held_there (by_commit_there x none_left is read reads commits) = some_left x (own_left a other) none_there is
none_part Reads leave leave_there a d e life other none none_there held held_there (by_exception x is is_there read reads exception) = some_left x (own_left a life) none is
none_part Reads leave leave_there a d e life other none none_there held held_there (by_failure fails) = held fails
none_part Reads leave leave_there a d e life other none none_there held held_there (by_failure_there fails) = held_there fails

pub next_told : {T U : Type 0} (Reads : ReadingRelation) (leave : T → Stops) (leave_there : U → Stops) → next_lives_are_told_alike Reads leave leave_there
next_told Reads leave leave_there a d e life other later later_there rest rest_there ends none none_there held held_there (told, on) =
    elim (on (ends told)) [
      | inl parts ↦ absurd (none_part Reads leave leave_there a d e life other none none_there held held_there parts)
      | inr next ↦ (next.0, next.1.0)
    ]

-- ---- the instance

-- behind an own event that is answered alike
module _ (Reads : ReadingRelation) (Leave LeaveOther : Stops) (a : Tenant) where
  abbrev Excepted : At → At → Event TheText → Type 0
  Excepted w v event = (read : Event Reading) × IsReadAs Reads w.standing.machine event read × IsExceptionFor a w.standing.machine v.standing.machine (happens read)

  abbrev Behind : At → At → Event TheText → Event TheText → Event TheText → Answer → Answer → Type 0
  Behind w v before before_there event z z_there = (next : At) × (later : At) × Happens Reads Leave w before z next × Happens Reads LeaveOther v before_there z_there later × Excepted next later event

  not_both : (b : Bool) → b ≡ true → b ≡ false → ⊥
  not_both b on off = clash (sym on ∙ off)

  at_own : (w v : At) (event other : Event TheText) (x y : Answer) → is_text_of a event ≡ true → is_text_of a other ≡ true → (x ≡ y → ⊥) → NoStoreGives x → NoStoreGives y →
      IsToldAlikeBy Reads Leave LeaveOther a w v (event ∷ []) (x ∷ []) (other ∷ []) (y ∷ []) → Excepted w v event
  at_own w v event other x y own owns differ fine good (told_apart o read is exception none) = (read, is, exception)
  at_own w v event other x y own owns differ fine good (refused_alone next later o here there (inl p) none) = absurd (fine w.counts next.counts p)
  at_own w v event other x y own owns differ fine good (refused_alone next later o here there (inr p) none) = absurd (good v.counts later.counts p)
  at_own w v event other x y own owns differ fine good (told_alike next later o here there rest) = absurd (differ refl)
  at_own w v event other x y own owns differ fine good (untold_here next foreign here rest) = absurd (not_both (is_text_of a event) own foreign)
  at_own w v event other x y own owns differ fine good (untold_there later foreign here rest) = absurd (not_both (is_text_of a other) owns foreign)
  at_own w v event other x y own owns differ fine good (failed_here foreign is) = absurd (not_both (is_text_of a event) own foreign)
  at_own w v event other x y own owns differ fine good (failed_there foreign is) = absurd (not_both (is_text_of a other) owns foreign)

  behind_own : (w v : At) (before before_there event other : Event TheText) (z z_there x y : Answer) → is_text_of a before ≡ true → is_text_of a before_there ≡ true → is_text_of a event ≡ true → is_text_of a other ≡ true →
      (x ≡ y → ⊥) → NoStoreGives x → NoStoreGives y → NoStoreGives z → NoStoreGives z_there →
      IsToldAlikeBy Reads Leave LeaveOther a w v (before ∷ event ∷ []) (z ∷ x ∷ []) (before_there ∷ other ∷ []) (z_there ∷ y ∷ []) →
      Excepted w v before ⊎ Behind w v before before_there event z z_there
  behind_own w v before before_there event other z z_there x y at at_there own owns differ fine good well well_there (told_apart o read is exception none) = inl (read, is, exception)
  behind_own w v before before_there event other z z_there x y at at_there own owns differ fine good well well_there (refused_alone next later o here there (inl p) none) = absurd (well w.counts next.counts p)
  behind_own w v before before_there event other z z_there x y at at_there own owns differ fine good well well_there (refused_alone next later o here there (inr p) none) = absurd (well_there v.counts later.counts p)
  behind_own w v before before_there event other z z_there x y at at_there own owns differ fine good well well_there (told_alike next later o here there rest) =
      inr (next, later, here, there, at_own next later event other x y own owns differ fine good rest)
  behind_own w v before before_there event other z z_there x y at at_there own owns differ fine good well well_there (untold_here next foreign here rest) = absurd (not_both (is_text_of a before) at foreign)
  behind_own w v before before_there event other z z_there x y at at_there own owns differ fine good well well_there (untold_there later foreign here rest) = absurd (not_both (is_text_of a before_there) at_there foreign)
  behind_own w v before before_there event other z z_there x y at at_there own owns differ fine good well well_there (failed_here foreign is) = absurd (not_both (is_text_of a before) at foreign)
  behind_own w v before before_there event other z z_there x y at at_there own owns differ fine good well well_there (failed_there foreign is) = absurd (not_both (is_text_of a before_there) at_there foreign)

-- ---- the exceptions of an opening, and of the SELECT behind it

abbrev is_of_opening : Event Reading → Bool
is_of_opening (opens number login) = true
is_of_opening (executes number reading) = false
is_of_opening (closes number) = false

abbrev is_key_told : Answer → Bool
is_key_told (answer.Refused UniqueViolation) = true
is_key_told _ = false

abbrev m : Machine
m = machine_over first

abbrev k : Machine
k = machine_over with_her_other

abbrev the_opening : Event Reading
the_opening = opens 1 (codes "ann")

no_key : (event : Event Reading) → is_key_told (answer_to m event) ≡ false → is_key_told (answer_to k event) ≡ false → IsException 1 m k event → is_of_opening event ≡ true → ⊥
no_key event f s (by_key e (inl tells)) is = clash (sym (ap is_key_told tells.0) ∙ f)
no_key event f s (by_key e (inr tells)) is = clash (sym (ap is_key_told tells.0) ∙ s)
no_key event f s (by_count session x c there goes checks) is = clash (sym is)
no_key event f s (by_definition x unhides refused) is = clash (sym is)

no_crowd : (event : Event Reading) → IsCrowded 1 m k event → is_of_opening event ≡ true → ⊥
no_crowd event (by_lock x writes other tells) is = clash (sym is)
no_crowd event (by_number login other tells) is = other refl

stays_hers : (event : Event Reading) → LeavesTenant of_ann 1 m event → is_of_opening event ≡ true → ⊥
stays_hers event (by_role s changed x free there may sets foreign) is = clash (sym is)

opens_alike : IsExceptionFor of_ann m k (happens the_opening) → ⊥
opens_alike (inl exception) = no_key the_opening refl refl exception refl
opens_alike (inr (inl crowd)) = no_crowd the_opening crowd refl
opens_alike (inr (inr leaves)) = stays_hers the_opening leaves refl

asks_alike : IsExceptionFor of_ann (opened_by_ann first) (opened_by_ann with_her_other) (happens ann_asks) → ⊥
asks_alike exception = premises_met.parts (machines.told_apart refl exception (λ one. let contrary : her_note ≡ answer.Refused one.0 = one.1 in cc))

-- a session that is opened so leads to one machine
opened_to : (old new : Counts) (rows : List Row) (next : Machine) → IsStep AsSelect old new (machine_over (with_notes rows)) ann_opens is_opened next → next ≡ opened_by_ann (with_notes rows)
opened_to old new rows next (by_transition is) =
    ap (λ (t : Transition). t.machine) is.is ∙ ap (λ (e : Event Reading). after (machine_over (with_notes rows)) e) is.read
opened_to old new rows next (step.for_memory e kept may) = absurd (clash (sym (ap is_refused e)))
opened_to old new rows next (step.for_space e kept may rises) = absurd (clash (sym (ap is_refused e)))
opened_to old new rows next (step.for_number e kept may greatest) = absurd (clash (sym (ap is_refused e)))
opened_to old new rows next (for_device t is may e kept broke) = absurd (clash (sym (ap is_refused e)))

read_so : (rows : List Row) (next : Machine) → next ≡ opened_by_ann (with_notes rows) → (read : Event Reading) → IsReadAs AsSelect next ann_executes read → read ≡ ann_asks
read_so rows next is read (reading, as_read, reads) =
    as_read ∙ ap (λ (r : Reading). executes 1 r) (reads (subst (λ (n : Machine). (n.stopped ≡ false) × IsSome (session_of 1 n.sessions)) (sym is) (refl, refl)))

no_store_gives : (x : Answer) → is_refused x ≡ false → NoStoreGives x
no_store_gives x not_so old new (not_issued code is counted) = clash (sym (ap is_refused is) ∙ not_so)
no_store_gives x not_so old new (failed is broke) = clash (sym (ap is_refused is) ∙ not_so)

-- a life in which she opens a session is told to the end
nothing_told : (Reads : ReadingRelation) (Leave LeaveOther : Stops) (a : Tenant) (w v : At) (told : IsToldAlikeBy Reads Leave LeaveOther a w v [] [] [] []) → IsToldToTheEnd told
nothing_told Reads Leave LeaveOther a w v (all_told st) = tt

one_told : (Reads : ReadingRelation) (Leave LeaveOther : Stops) (a : Tenant) (w v : At) (event other : Event TheText) (x y : Answer) → is_text_of a event ≡ true → is_text_of a other ≡ true → NoStoreGives x → NoStoreGives y →
    (Excepted Reads Leave LeaveOther a w v event → ⊥) → (told : IsToldAlikeBy Reads Leave LeaveOther a w v (event ∷ []) (x ∷ []) (other ∷ []) (y ∷ [])) → IsToldToTheEnd told
one_told Reads Leave LeaveOther a w v event other x y own owns fine good never (told_apart o read is exception none) = never (read, is, exception)
one_told Reads Leave LeaveOther a w v event other x y own owns fine good never (refused_alone next later o here there (inl p) none) = fine w.counts next.counts p
one_told Reads Leave LeaveOther a w v event other x y own owns fine good never (refused_alone next later o here there (inr p) none) = good v.counts later.counts p
one_told Reads Leave LeaveOther a w v event other x y own owns fine good never (told_alike next later o here there rest) = nothing_told Reads Leave LeaveOther a next later rest
one_told Reads Leave LeaveOther a w v event other x y own owns fine good never (untold_here next foreign here rest) = absurd (clash (sym own ∙ foreign))
one_told Reads Leave LeaveOther a w v event other x y own owns fine good never (untold_there later foreign here rest) = absurd (clash (sym owns ∙ foreign))
one_told Reads Leave LeaveOther a w v event other x y own owns fine good never (failed_here foreign is) = clash (sym own ∙ foreign)
one_told Reads Leave LeaveOther a w v event other x y own owns fine good never (failed_there foreign is) = clash (sym owns ∙ foreign)

never_opens_apart : Excepted AsSelect (anything tt) (anything tt) of_ann (standing_with m) (standing_with k) ann_opens → ⊥
never_opens_apart excepted = opens_alike (subst (λ (e : Event Reading). IsExceptionFor of_ann m k (happens e)) excepted.1 excepted.2)

abbrev her_first : Answer → ℕ
her_first (answer.Rows ((Text t ∷ Int (pos n) ∷ []) ∷ rows)) = n
her_first _ = 0

second_parts : IsToldAlikeBy AsSelect (anything tt) (anything tt) of_ann (standing_with m) (standing_with k) (ann_opens ∷ ann_executes ∷ []) (is_opened ∷ answer_to (opened_by_ann first) ann_asks ∷ [])
    (ann_opens ∷ ann_executes ∷ []) (is_opened ∷ answer_to (opened_by_ann with_her_other) ann_asks ∷ []) → ⊥
second_parts told =
    elim (behind_own AsSelect (anything tt) (anything tt) of_ann (standing_with m) (standing_with k) ann_opens ann_opens ann_executes ann_executes is_opened is_opened
    (answer_to (opened_by_ann first) ann_asks) (answer_to (opened_by_ann with_her_other) ann_asks) refl refl refl refl
    (λ same. let wrong : 1 ≡ 2 = ap her_first same in cc) (no_store_gives (answer_to (opened_by_ann first) ann_asks) refl) (no_store_gives (answer_to (opened_by_ann with_her_other) ann_asks) refl)
    (no_store_gives is_opened refl) (no_store_gives is_opened refl) told) [
      | inl excepted ↦ never_opens_apart excepted
      | inr behind ↦ after_opening behind
    ]
  where
    after_opening : Behind AsSelect (anything tt) (anything tt) of_ann (standing_with m) (standing_with k) ann_opens ann_opens ann_executes is_opened is_opened → ⊥
    after_opening (next, later, here, there, (read, is, exception)) =
        let to_first = opened_to no_counts next.counts (note "ann" 1 ∷ note "bob" 1 ∷ []) next.standing.machine here.step in
        let to_other = opened_to no_counts later.counts (note "ann" 2 ∷ note "bob" 1 ∷ []) later.standing.machine there.step in
        let is_select = read_so (note "ann" 1 ∷ note "bob" 1 ∷ []) next.standing.machine to_first read is in
        asks_alike
        (subst (λ (e : Event Reading). IsExceptionFor of_ann (opened_by_ann first) (opened_by_ann with_her_other) (happens e)) is_select
        (subst (λ (n : Machine). IsExceptionFor of_ann n (opened_by_ann with_her_other) (happens read)) to_first
        (subst (λ (j : Machine). IsExceptionFor of_ann next.standing.machine j (happens read)) to_other exception)))

pub parts_at_select : LivesPartAtSelect
parts_at_select = (both_lives, λ alone. second_parts alone.0) where
  both_lives : LivesTellAlike of_ann (two_lives (note "ann" 1 ∷ note "bob" 1 ∷ [])) (two_lives (note "ann" 2 ∷ note "bob" 1 ∷ [])) → ⊥
  both_lives (told, on) =
      elim (on (one_told AsSelect (anything tt) (anything tt) of_ann (standing_with m) (standing_with k) ann_opens ann_opens is_opened is_opened refl refl
      (no_store_gives is_opened refl) (no_store_gives is_opened refl) never_opens_apart told)) [
        | inl parts ↦ none_part AsSelect anything anything of_ann first with_her_other (opening_life (note "ann" 1 ∷ note "bob" 1 ∷ [])) (opening_life (note "ann" 2 ∷ note "bob" 1 ∷ [])) refl refl (λ no. no) (λ no. no) parts
        | inr next ↦ second_parts next.1.0
      ]

-- ---- an instance of the premises

module _ (rows : List Row) where
  out_of_sight : LivesOutOfSight of_ann (two_lives rows)
  out_of_sight = (((λ own may. refl, λ foreign. absurd (clash foreign)), tt), tt, ((((λ own may. refl, λ foreign. absurd (clash foreign)), ((λ own. tt, λ foreign. absurd (clash foreign)), tt)), tt, tt)))

reads_once : ReadsOnce AsSelect
reads_once text x y one two = one ∙ sym two

pub told_alike_at_select : LivesAreToldAlike
told_alike_at_select =
    lives_tell AsSelect anything anything reads_once of_ann first second (two_lives (note "ann" 1 ∷ note "bob" 1 ∷ [])) (two_lives (note "ann" 1 ∷ note "bob" 2 ∷ note "bob" 3 ∷ []))
    premises_met.both_sessions.committed premises_met.sound_first premises_met.sound_second
    (out_of_sight (note "ann" 1 ∷ note "bob" 1 ∷ [])) (out_of_sight (note "ann" 1 ∷ note "bob" 2 ∷ note "bob" 3 ∷ []))
    (refl, (λ x y is is_there. absurd (some_left x [] refl is)), (refl, (λ x y is is_there. absurd (some_left x [] refl is)), tt))
