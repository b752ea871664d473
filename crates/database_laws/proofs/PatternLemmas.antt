-- Where two runs that are alike to a tenant give it answers of one pattern, they give it the same.
use Rattle.std.proofs.Common.{◌≡◌, ℕ, Bool, true, false, cond, List, [], ◌∷◌, Option, Some, None, refl, sym, ap, ◌∙◌, inl, inr}
use Rattle.sql_types.specs.declared.state.SqlState.{SqlState}
use Rattle.sql_types.specs.declared.state.SqlState.TheVariants.{UniqueViolation, LockNotAvailable, TooManyConnections}
use Rattle.sql_types.specs.declared.answer.Answer.{Answer}
use Rattle.sql_types.specs.declared.answer.Answer.TheVariants as answer
use Rattle.abstract_database.specs.Machine.{Event, Reading, Machine}
use Rattle.database_laws.specs.Sessions.{number_of}
use Rattle.database_laws.specs.HiddenRuns.{AreSound, answer_to, after, TellsAlone, IsException, by_key}
use Rattle.database_laws.specs.HiddenRuns as exception
use Rattle.database_laws.specs.Told.{Tenant, Act, happens, declares, restarts, follows, is_of, IsCrowded, by_lock, by_number, IsExceptionFor, IsAnsweredAlike, noticed, IsToldAlike, all_told, told_apart, told_alike, declared, untold_here, untold_there}
use Rattle.database_laws.specs.Patterns.{is_listed, mark_of, pattern, own_answers, TellsUnlisted, by_count, by_definition, by_role, TellsListedOnly, AllTellListedOnly, AreDeclaredAlike, patterns_determine_answers}
use Rattle.database_laws.proofs.ToldRuns.{told}

clash : true ≡ false → ⊥
clash e = cc

-- ---- marks

some_same : (c d : SqlState) → ◌≡◌ {A = Option SqlState} (Some c) (Some d) → c ≡ d
some_same c d e = cc

if_marked : (c code : SqlState) (b : Bool) → cond b (Some c) None ≡ Some code → c ≡ code
if_marked c code true e = some_same c code e
if_marked c code false e = let contrary : ◌≡◌ {A = Option SqlState} None (Some code) = e in cc

module _ (listed : SqlState → Bool) where
  pub marked : (code : SqlState) → listed code ≡ true → mark_of listed (answer.Refused code) ≡ Some code
  marked code on = ap (λ (b : Bool). cond b (Some code) None) on

  -- only its refusal has the mark of a code
  pub refused_so : (code : SqlState) (x : Answer) → mark_of listed x ≡ Some code → x ≡ answer.Refused code
  refused_so code (answer.Refused c) e = ap (λ (d : SqlState). answer.Refused d) (if_marked c code (listed c) e)
  refused_so code (answer.Rows rows) e = let contrary : ◌≡◌ {A = Option SqlState} None (Some code) = e in cc
  refused_so code (answer.Done t count w) e = let contrary : ◌≡◌ {A = Option SqlState} None (Some code) = e in cc

-- so a listed refusal of one of two answers alone parts their marks
marks_part : (code : SqlState) → is_listed code ≡ true → (x y : Answer) → TellsAlone code x y → mark_of is_listed x ≡ mark_of is_listed y → ⊥
marks_part code on x y (inl tells) same = tells.1 (refused_so is_listed code y (sym same ∙ ap (mark_of is_listed) tells.0 ∙ marked is_listed code on))
marks_part code on x y (inr tells) same = tells.1 (refused_so is_listed code x (same ∙ ap (mark_of is_listed) tells.0 ∙ marked is_listed code on))

-- ---- an exception parts the marks, or tells without a listed refusal

module _ (a : Tenant) (m k : Machine) where
  of_hidden : (number : ℕ) (event : Event Reading) → IsException number m k event → (TellsUnlisted a m event → ⊥) → mark_of is_listed (answer_to m event) ≡ mark_of is_listed (answer_to k event) → ⊥
  of_hidden number event (by_key e tells) listed same = marks_part UniqueViolation refl (answer_to m event) (answer_to k event) tells same
  of_hidden number event (exception.by_count s x c there goes checks) listed same = listed (by_count number s x c there goes checks)
  of_hidden number event (exception.by_definition x unhides carried) listed same = listed (by_definition number x unhides carried)

  of_crowd : (number : ℕ) (event : Event Reading) → IsCrowded number m k event → mark_of is_listed (answer_to m event) ≡ mark_of is_listed (answer_to k event) → ⊥
  of_crowd number event (by_lock x writes other tells) same = marks_part LockNotAvailable refl (answer_to m event) (answer_to k event) tells same
  of_crowd number event (by_number login other tells) same = marks_part TooManyConnections refl (answer_to m event) (answer_to k event) tells same

  pub exceptions_part : (event : Event Reading) → IsExceptionFor a m k (happens event) → (TellsUnlisted a m event → ⊥) → mark_of is_listed (answer_to m event) ≡ mark_of is_listed (answer_to k event) → ⊥
  exceptions_part event (inl hidden) listed same = of_hidden (number_of event) event hidden listed same
  exceptions_part event (inr (inl crowd)) listed same = of_crowd (number_of event) event crowd same
  exceptions_part event (inr (inr leaves)) listed same = listed (by_role (number_of event) event leaves)

-- ---- lists

module _ {A : Type 0} where
  pub first_same : (x y : A) (xs ys : List A) → (x ∷ xs) ≡ (y ∷ ys) → x ≡ y
  first_same x y xs ys e = ap first_of e where
    first_of : List A → A
    first_of [] = x
    first_of (z ∷ zs) = z

  pub rest_same : (x y : A) (xs ys : List A) → (x ∷ xs) ≡ (y ∷ ys) → xs ≡ ys
  rest_same x y xs ys e = ap rest_of e where
    rest_of : List A → List A
    rest_of [] = []
    rest_of (z ∷ zs) = zs

-- ---- runs

module _ (a : Tenant) where
  abbrev Determined : Machine → Machine → List Act → List Act → Type 0
  Determined m k acts others = pattern is_listed (own_answers a m acts) ≡ pattern is_listed (own_answers a k others) → own_answers a m acts ≡ own_answers a k others

  -- what is declared behind an act of both runs, or of one of them
  later_declared : (m k : Machine) (x : Act) (later others : List Act) → AreDeclaredAlike a m k (x ∷ later) (x ∷ others) → AreDeclaredAlike a (follows m x) (follows k x) later others
  later_declared m k x later others are before rest before_there rest_there event here there same =
      are (x ∷ before) rest (x ∷ before_there) rest_there event (ap (λ (xs : List Act). x ∷ xs) here) (ap (λ (xs : List Act). x ∷ xs) there) (ap (λ (xs : List Act). cond (is_of a x) (x ∷ xs) xs) same)

  declared_here : (m k : Machine) (x : Act) (later others : List Act) → is_of a x ≡ false → AreDeclaredAlike a m k (x ∷ later) others → AreDeclaredAlike a (follows m x) k later others
  declared_here m k x later others foreign are before rest before_there rest_there event here there same =
      are (x ∷ before) rest before_there rest_there event (ap (λ (xs : List Act). x ∷ xs) here) there (ap (λ (b : Bool). cond b (x ∷ noticed a before) (noticed a before)) foreign ∙ same)

  declared_there : (m k : Machine) (x : Act) (later others : List Act) → is_of a x ≡ false → AreDeclaredAlike a m k later (x ∷ others) → AreDeclaredAlike a m (follows k x) later others
  declared_there m k x later others foreign are before rest before_there rest_there event here there same =
      are before rest (x ∷ before_there) rest_there event here (ap (λ (xs : List Act). x ∷ xs) there) (same ∙ sym (ap (λ (b : Bool). cond b (x ∷ noticed a before_there) (noticed a before_there)) foreign))

  -- the answers, by whether the event is an own one
  pub at_event : (m : Machine) (event : Event Reading) (later : List Act) (b : Bool) → a.sessions (number_of event) ≡ b →
      own_answers a m (happens event ∷ later) ≡ cond b (answer_to m event ∷ own_answers a (after m event) later) (own_answers a (after m event) later)
  at_event m event later b own = ap (λ (c : Bool). cond c (answer_to m event ∷ own_answers a (after m event) later) (own_answers a (after m event) later)) own

  -- no answer comes of an act that is not noticed
  unanswered : (m : Machine) (x : Act) (later : List Act) → is_of a x ≡ false → own_answers a m (x ∷ later) ≡ own_answers a (follows m x) later
  unanswered m (happens event) later foreign = at_event m event later false foreign
  unanswered m (declares event) later foreign = absurd (clash foreign)
  unanswered m restarts later foreign = absurd (clash foreign)

  module _ (m k : Machine) (event : Event Reading) (later others : List Act) (own : a.sessions (number_of event) ≡ true) where
    both_patterns : pattern is_listed (own_answers a m (happens event ∷ later)) ≡ pattern is_listed (own_answers a k (happens event ∷ others)) →
        (mark_of is_listed (answer_to m event) ∷ pattern is_listed (own_answers a (after m event) later)) ≡ (mark_of is_listed (answer_to k event) ∷ pattern is_listed (own_answers a (after k event) others))
    both_patterns same = sym (ap (pattern is_listed) (at_event m event later true own)) ∙ same ∙ ap (pattern is_listed) (at_event k event others true own)

    first_marks : pattern is_listed (own_answers a m (happens event ∷ later)) ≡ pattern is_listed (own_answers a k (happens event ∷ others)) → mark_of is_listed (answer_to m event) ≡ mark_of is_listed (answer_to k event)
    first_marks same = first_same _ _ _ _ (both_patterns same)

    later_patterns : pattern is_listed (own_answers a m (happens event ∷ later)) ≡ pattern is_listed (own_answers a k (happens event ∷ others)) → pattern is_listed (own_answers a (after m event) later) ≡ pattern is_listed (own_answers a (after k event) others)
    later_patterns same = rest_same _ _ _ _ (both_patterns same)

    both_answered : answer_to m event ≡ answer_to k event → Determined (after m event) (after k event) later others → Determined m k (happens event ∷ later) (happens event ∷ others)
    both_answered one on same =
        at_event m event later true own
        ∙ ap (λ (x : Answer). x ∷ own_answers a (after m event) later) one
        ∙ ap (λ (xs : List Answer). answer_to k event ∷ xs) (on (later_patterns same))
        ∙ sym (at_event k event others true own)

  apart : (m k : Machine) (x : Act) (later others : List Act) → is_of a x ≡ true → IsExceptionFor a m k x → TellsListedOnly a m x → Determined m k (x ∷ later) (x ∷ others)
  apart m k (happens event) later others own exception listed same = absurd (exceptions_part a m k event exception (listed own) (first_marks m k event later others own same))
  apart m k (declares event) later others own exception listed same = absurd exception
  apart m k restarts later others own exception listed same = absurd exception

  alike : (m k : Machine) (x : Act) (later others : List Act) → is_of a x ≡ true → IsAnsweredAlike m k x → Determined (follows m x) (follows k x) later others → Determined m k (x ∷ later) (x ∷ others)
  alike m k (happens event) later others own one on = both_answered m k event later others own one on
  alike m k (declares event) later others own one on = absurd one
  alike m k restarts later others own one on = on

  determined : {m k : Machine} {acts others : List Act} → IsToldAlike a m k acts others → AllTellListedOnly a m acts → AreDeclaredAlike a m k acts others → Determined m k acts others
  determined all_told listed are same = refl
  determined (told_apart {m} {k} {x} {later} {others} own exception none) listed are same = apart m k x later others own exception listed.0 same
  determined (told_alike {m} {k} {x} {later} {others} own one rest) listed are same =
      alike m k x later others own one (determined rest listed.1 (later_declared m k x later others are)) same
  determined (declared {m} {k} {event} {later} {others} goes_on) listed are same =
      determined (goes_on (are [] later [] others event refl refl refl)) listed.1 (later_declared m k (declares event) later others are) same
  determined (untold_here {m} {k} {x} {later} {others} foreign rest) listed are same =
      unanswered m x later foreign
      ∙ determined rest listed.1 (declared_here m k x later others foreign are) (sym (ap (pattern is_listed) (unanswered m x later foreign)) ∙ same)
  determined (untold_there {m} {k} {x} {later} {others} foreign rest) listed are same =
      determined rest listed (declared_there m k x later others foreign are) (same ∙ ap (pattern is_listed) (unanswered k x others foreign))
      ∙ sym (unanswered k x others foreign)

pub patterns_determine : patterns_determine_answers
patterns_determine a m k acts others st on_m on_k hides hides_there same listed are patterns =
    determined a (told a m k acts others st on_m on_k hides hides_there same) listed are patterns
