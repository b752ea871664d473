-- Where two related runs give a tenant answers of one pattern, they give it the same; and what the laws of runs forbid.
use Rattle.std.proofs.Common.{◌≡◌, ℕ, Bool, true, false, cond, List, [], ◌∷◌, refl, sym, ap, ◌∙◌, inl, inr}
use Rattle.sql_types.specs.declared.state.SqlState.{SqlState}
use Rattle.sql_types.specs.declared.state.SqlState.TheVariants.{LockNotAvailable, TooManyConnections}
use Rattle.sql_types.specs.declared.answer.Answer.{Answer}
use Rattle.abstract_database.specs.Machine.{Event, Reading, Machine}
use Rattle.database_laws.specs.Sessions.{number_of}
use Rattle.database_laws.specs.HiddenRuns.{answer_to, after, TellsAlone, IsException}
use Rattle.database_laws.specs.Told.{Tenant, Act, happens, declares, restarts, follows, is_of, IsCrowded, by_lock, by_number, IsAnsweredAlike, noticed}
use Rattle.database_laws.specs.Patterns.{is_listed, mark_of, pattern, own_answers, TellsListedOnly}
use Rattle.database_laws.proofs.PatternLemmas.{marked, refused_so, exceptions_part, first_same, rest_same, at_event}
use Rattle.privilege_laws.specs.Related.{Relation, Telling, NothingTells, MayPart, IsToldRelated, all_told, told_apart, told_alike, declared, untold_here, untold_there, EachAct, AreDeclaredRelated, RunsPartWhereTold, RunsPartBehindOthers}
use Rattle.privilege_laws.specs.Reached.{reached_by, is_of_crowds, KeepsItsRoles, crowds_tell_all}
use Rattle.privilege_laws.specs.Shown.{shown_to, patterns_tell_all_that_is_shown}
use Rattle.privilege_laws.proofs.TablesTold.{runs_told}
use Rattle.privilege_laws.proofs.ShownTold.{shown_told}

clash : true ≡ false → ⊥
clash e = cc

-- a listed refusal of one of two answers alone parts their marks
marks_part : (listed : SqlState → Bool) (code : SqlState) → listed code ≡ true → (x y : Answer) → TellsAlone code x y → mark_of listed x ≡ mark_of listed y → ⊥
marks_part listed code on x y (inl tells) same = tells.1 (refused_so listed code y (sym same ∙ ap (mark_of listed) tells.0 ∙ marked listed code on))
marks_part listed code on x y (inr tells) same = tells.1 (refused_so listed code x (same ∙ ap (mark_of listed) tells.0 ∙ marked listed code on))

-- where each event that may part is marked, or is none of those that a run has
abbrev MarksPart : Telling → Tenant → (SqlState → Bool) → (Machine → Act → Type 0) → Type 0
MarksPart T a listed Q = (m k : Machine) (event : Event Reading) → a.sessions (number_of event) ≡ true → MayPart T a m k (happens event) → Q m (happens event) → mark_of listed (answer_to m event) ≡ mark_of listed (answer_to k event) → ⊥

module _ (R : Relation) (T : Telling) (a : Tenant) (listed : SqlState → Bool) (Q : Machine → Act → Type 0) (marks : MarksPart T a listed Q) where
  abbrev Determined : Machine → Machine → List Act → List Act → Type 0
  Determined m k acts others = pattern listed (own_answers a m acts) ≡ pattern listed (own_answers a k others) → own_answers a m acts ≡ own_answers a k others

  -- what is declared behind an act of both runs, or of one of them
  later_declared : (m k : Machine) (x : Act) (later others : List Act) → AreDeclaredRelated R a m k (x ∷ later) (x ∷ others) → AreDeclaredRelated R a (follows m x) (follows k x) later others
  later_declared m k x later others are before rest before_there rest_there event here there same =
      are (x ∷ before) rest (x ∷ before_there) rest_there event (ap (λ (xs : List Act). x ∷ xs) here) (ap (λ (xs : List Act). x ∷ xs) there) (ap (λ (xs : List Act). cond (is_of a x) (x ∷ xs) xs) same)

  declared_here : (m k : Machine) (x : Act) (later others : List Act) → is_of a x ≡ false → AreDeclaredRelated R a m k (x ∷ later) others → AreDeclaredRelated R a (follows m x) k later others
  declared_here m k x later others foreign are before rest before_there rest_there event here there same =
      are (x ∷ before) rest before_there rest_there event (ap (λ (xs : List Act). x ∷ xs) here) there (ap (λ (b : Bool). cond b (x ∷ noticed a before) (noticed a before)) foreign ∙ same)

  declared_there : (m k : Machine) (x : Act) (later others : List Act) → is_of a x ≡ false → AreDeclaredRelated R a m k later (x ∷ others) → AreDeclaredRelated R a m (follows k x) later others
  declared_there m k x later others foreign are before rest before_there rest_there event here there same =
      are before rest (x ∷ before_there) rest_there event here (ap (λ (xs : List Act). x ∷ xs) there) (same ∙ sym (ap (λ (b : Bool). cond b (x ∷ noticed a before_there) (noticed a before_there)) foreign))

  -- no answer comes of an act that is not noticed
  unanswered : (m : Machine) (x : Act) (later : List Act) → is_of a x ≡ false → own_answers a m (x ∷ later) ≡ own_answers a (follows m x) later
  unanswered m (happens event) later foreign = at_event a m event later false foreign
  unanswered m (declares event) later foreign = absurd (clash foreign)
  unanswered m restarts later foreign = absurd (clash foreign)

  module _ (m k : Machine) (event : Event Reading) (later others : List Act) (own : a.sessions (number_of event) ≡ true) where
    abbrev OnePattern : Type 0
    OnePattern = pattern listed (own_answers a m (happens event ∷ later)) ≡ pattern listed (own_answers a k (happens event ∷ others))

    both_patterns : OnePattern → (mark_of listed (answer_to m event) ∷ pattern listed (own_answers a (after m event) later)) ≡ (mark_of listed (answer_to k event) ∷ pattern listed (own_answers a (after k event) others))
    both_patterns same = sym (ap (pattern listed) (at_event a m event later true own)) ∙ same ∙ ap (pattern listed) (at_event a k event others true own)

    first_marks : OnePattern → mark_of listed (answer_to m event) ≡ mark_of listed (answer_to k event)
    first_marks same = first_same _ _ _ _ (both_patterns same)

    later_patterns : OnePattern → pattern listed (own_answers a (after m event) later) ≡ pattern listed (own_answers a (after k event) others)
    later_patterns same = rest_same _ _ _ _ (both_patterns same)

    both_answered : answer_to m event ≡ answer_to k event → Determined (after m event) (after k event) later others → Determined m k (happens event ∷ later) (happens event ∷ others)
    both_answered one on same =
        at_event a m event later true own
        ∙ ap (λ (x : Answer). x ∷ own_answers a (after m event) later) one
        ∙ ap (λ (xs : List Answer). answer_to k event ∷ xs) (on (later_patterns same))
        ∙ sym (at_event a k event others true own)

  apart : (m k : Machine) (x : Act) (later others : List Act) → is_of a x ≡ true → MayPart T a m k x → Q m x → Determined m k (x ∷ later) (x ∷ others)
  apart m k (happens event) later others own part is same = absurd (marks m k event own part is (first_marks m k event later others own same))
  apart m k (declares event) later others own part is same = absurd part
  apart m k restarts later others own part is same = absurd part

  alike : (m k : Machine) (x : Act) (later others : List Act) → is_of a x ≡ true → IsAnsweredAlike m k x → Determined (follows m x) (follows k x) later others → Determined m k (x ∷ later) (x ∷ others)
  alike m k (happens event) later others own one on = both_answered m k event later others own one on
  alike m k (declares event) later others own one on = absurd one
  alike m k restarts later others own one on = on

  determined : {m k : Machine} {acts others : List Act} → IsToldRelated R T a m k acts others → EachAct Q m acts → AreDeclaredRelated R a m k acts others → Determined m k acts others
  determined all_told each are same = refl
  determined (told_apart {m} {k} {x} {later} {others} own part none) each are same = apart m k x later others own part each.0 same
  determined (told_alike {m} {k} {x} {later} {others} own one rest) each are same =
      alike m k x later others own one (determined rest each.1 (later_declared m k x later others are)) same
  determined (declared {m} {k} {event} {later} {others} goes_on) each are same =
      determined (goes_on (are [] later [] others event refl refl refl)) each.1 (later_declared m k (declares event) later others are) same
  determined (untold_here {m} {k} {x} {later} {others} foreign rest) each are same =
      unanswered m x later foreign
      ∙ determined rest each.1 (declared_here m k x later others foreign are) (sym (ap (pattern listed) (unanswered m x later foreign)) ∙ same)
  determined (untold_there {m} {k} {x} {later} {others} foreign rest) each are same =
      determined rest each (declared_there m k x later others foreign are) (same ∙ ap (pattern listed) (unanswered k x others foreign))
      ∙ sym (unanswered k x others foreign)

-- ---- tables

crowds_part : (m k : Machine) (number : ℕ) (event : Event Reading) → IsCrowded number m k event → mark_of is_of_crowds (answer_to m event) ≡ mark_of is_of_crowds (answer_to k event) → ⊥
crowds_part m k number event (by_lock x writes other tells) same = marks_part is_of_crowds LockNotAvailable refl (answer_to m event) (answer_to k event) tells same
crowds_part m k number event (by_number login other tells) same = marks_part is_of_crowds TooManyConnections refl (answer_to m event) (answer_to k event) tells same

crowds_are_marked : (a : Tenant) → MarksPart NothingTells a is_of_crowds (KeepsItsRoles a)
crowds_are_marked a m k event own (inl tells) keeps same = tells
crowds_are_marked a m k event own (inr (inl crowd)) keeps same = crowds_part m k (number_of event) event crowd same
crowds_are_marked a m k event own (inr (inr leaves)) keeps same = keeps own leaves

pub crowds_tell : crowds_tell_all
crowds_tell a m k acts others st on_m on_k keeps keeps_there same each are patterns =
    determined (reached_by a) NothingTells a is_of_crowds (KeepsItsRoles a) (crowds_are_marked a) (runs_told a m k acts others st on_m on_k keeps keeps_there same) each are patterns

-- ---- and rows

listed_are_marked : (a : Tenant) → MarksPart IsException a is_listed (TellsListedOnly a)
listed_are_marked a m k event own part quiet same = exceptions_part a m k event part (quiet own) same

pub patterns_tell : patterns_tell_all_that_is_shown
patterns_tell a m k acts others st on_m on_k keeps keeps_there same each are patterns =
    determined (shown_to a) IsException a is_listed (TellsListedOnly a) (listed_are_marked a) (shown_told a m k acts others st on_m on_k keeps keeps_there same) each are patterns

-- ---- what the laws of runs forbid

both_ways : (b : Bool) → b ≡ true → b ≡ false → ⊥
both_ways b on foreign = clash (sym on ∙ foreign)

module _ (R : Relation) (T : Telling) (a : Tenant) where
  own_parts : (m k : Machine) (event other : Event Reading) → is_of a (happens event) ≡ true → is_of a (happens other) ≡ true → (answer_to m event ≡ answer_to k event → ⊥) →
      IsToldRelated R T a m k (happens event ∷ []) (happens other ∷ []) → MayPart T a m k (happens event)
  own_parts m k event other own owns differ (told_apart o part none) = part
  own_parts m k event other own owns differ (told_alike o same rest) = absurd (differ same)
  own_parts m k event other own owns differ (untold_here foreign rest) = absurd (both_ways (is_of a (happens event)) own foreign)
  own_parts m k event other own owns differ (untold_there foreign rest) = absurd (both_ways (is_of a (happens other)) owns foreign)

  behind : (m k : Machine) (other : Act) (event event_there : Event Reading) → is_of a other ≡ false → is_of a (happens event) ≡ true → is_of a (happens event_there) ≡ true →
      (answer_to (follows m other) event ≡ answer_to k event → ⊥) → IsToldRelated R T a m k (other ∷ happens event ∷ []) (happens event_there ∷ []) → MayPart T a (follows m other) k (happens event)
  behind m k other event there not_own own owns differ (untold_here foreign rest) = own_parts (follows m other) k event there own owns differ rest
  behind m k other event there not_own own owns differ (untold_there foreign rest) = absurd (both_ways (is_of a (happens there)) owns foreign)
  behind m k other event there not_own own owns differ (told_apart o part none) = absurd (both_ways (is_of a other) o not_own)
  behind m k other event there not_own own owns differ (told_alike o same rest) = absurd (both_ways (is_of a other) o not_own)

pub runs_part : (R : Tenant → Relation) (T : Telling) → RunsPartWhereTold R T
runs_part R T a m k event own differ told = own_parts (R a) T a m k event event own own differ told

pub runs_part_behind : (R : Tenant → Relation) (T : Telling) → RunsPartBehindOthers R T
runs_part_behind R T a m k other event not_own own differ told = behind (R a) T a m k other event event not_own own own differ told
