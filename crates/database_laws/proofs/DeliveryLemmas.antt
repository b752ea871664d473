-- Runs in which not each own event of a tenant is answered.
use Rattle.std.proofs.Common.{◌≡◌, ◌++◌, ℕ, Bool, true, false, cond, List, [], ◌∷◌, Option, Some, None, refl, sym, ap, ◌∙◌}
use Rattle.sql_types.specs.declared.state.SqlState.{SqlState}
use Rattle.sql_types.specs.declared.state.SqlState.TheVariants.{IoError}
use Rattle.sql_types.specs.declared.answer.Answer.{Answer}
use Rattle.sql_types.specs.declared.answer.Answer.TheVariants as answer
use Rattle.abstract_database.specs.Machine.{Session, Event, closes, Reading, Machine, refuses, session_of, close_session, running_transition}
use Rattle.database_laws.specs.Sessions.{number_of}
use Rattle.database_laws.specs.HiddenRuns.{answer_to, after}
use Rattle.database_laws.specs.Told.{Tenant, Act, happens, declares, restarts, follows, is_of, noticed}
use Rattle.database_laws.specs.Patterns.{is_listed, mark_of, pattern, own_answers, Delivery, answered, kept, lost, cut_off, acts_of, own_deliveries, MayAllBeUnanswered, delivered_answers, patterns_determine_delivered_answers}
use Rattle.database_laws.proofs.PatternLemmas.{at_event, patterns_determine}

-- ---- what is no listed refusal

not_refused : (x : Answer) → ((code : SqlState) → x ≡ answer.Refused code → ⊥) → mark_of is_listed x ≡ None
not_refused (answer.Refused code) none = absurd (none code refl)
not_refused (answer.Rows rows) none = refl
not_refused (answer.Done t count w) none = refl

module _ (m : Machine) (number : ℕ) where
  closes_at : (o : Option Session) → mark_of is_listed (close_session m number o).answer ≡ None
  closes_at None = refl
  closes_at (Some s) = refl

  closes_unlisted : mark_of is_listed (answer_to m (closes number)) ≡ None
  closes_unlisted = by m.stopped where
    by : (b : Bool) → mark_of is_listed (cond b (refuses m IoError) (running_transition m (closes number))).answer ≡ None
    by true = refl
    by false = closes_at (session_of number m.sessions)

-- ---- the marks of all own events, from those of the answers that come; and these answers, from all

abbrev woven : List Delivery → List (Option SqlState) → List (Option SqlState)
woven [] marks = []
woven (answered (happens event) ∷ later) [] = []
woven (answered (happens event) ∷ later) (mark ∷ marks) = mark ∷ woven later marks
woven (answered (declares event) ∷ later) marks = woven later marks
woven (answered restarts ∷ later) marks = woven later marks
woven (kept event ∷ later) marks = None ∷ woven later marks
woven (lost event ∷ later) marks = woven later marks
woven (cut_off number ∷ later) marks = None ∷ woven later marks

abbrev picked : List Delivery → List Answer → List Answer
picked [] answers = []
picked (answered (happens event) ∷ later) [] = []
picked (answered (happens event) ∷ later) (x ∷ answers) = x ∷ picked later answers
picked (answered (declares event) ∷ later) answers = picked later answers
picked (answered restarts ∷ later) answers = picked later answers
picked (kept event ∷ later) [] = []
picked (kept event ∷ later) (x ∷ answers) = picked later answers
picked (lost event ∷ later) answers = picked later answers
picked (cut_off number ∷ later) [] = []
picked (cut_off number ∷ later) (x ∷ answers) = picked later answers

module _ (a : Tenant) where
  -- what the tenant notices of what happens
  noticed_so : (m : Machine) (deliveries : List Delivery) → MayAllBeUnanswered a m deliveries → noticed a (acts_of deliveries) ≡ acts_of (own_deliveries a deliveries)
  noticed_so m [] are = refl
  noticed_so m (answered x ∷ later) are = by (is_of a x) (noticed_so (follows m x) later are.1) where
    by : (b : Bool) → noticed a (acts_of later) ≡ acts_of (own_deliveries a later) → cond b (x ∷ noticed a (acts_of later)) (noticed a (acts_of later)) ≡ acts_of (cond b (answered x ∷ own_deliveries a later) (own_deliveries a later))
    by true same = ap (λ (xs : List Act). x ∷ xs) same
    by false same = same
  noticed_so m (kept event ∷ later) are =
      ap (λ (b : Bool). cond b (happens event ∷ noticed a (acts_of later)) (noticed a (acts_of later))) are.0.0
      ∙ ap (λ (xs : List Act). happens event ∷ xs) (noticed_so (after m event) later are.1)
  noticed_so m (lost event ∷ later) are = noticed_so m later are.1
  noticed_so m (cut_off number ∷ later) are =
      ap (λ (b : Bool). cond b (happens (closes number) ∷ noticed a (acts_of later)) (noticed a (acts_of later))) are.0
      ∙ ap (λ (xs : List Act). happens (closes number) ∷ xs) (noticed_so (after m (closes number)) later are.1)

  -- ---- marks

  abbrev Weaves : Machine → List Delivery → Type 0
  Weaves m deliveries = pattern is_listed (own_answers a m (acts_of deliveries)) ≡ woven (own_deliveries a deliveries) (pattern is_listed (delivered_answers a m deliveries))

  weaves_act : (m : Machine) (x : Act) (later : List Delivery) → Weaves (follows m x) later → Weaves m (answered x ∷ later)
  weaves_act m (happens event) later on = by (a.sessions (number_of event)) where
    by : (b : Bool) → pattern is_listed (cond b (answer_to m event ∷ own_answers a (after m event) (acts_of later)) (own_answers a (after m event) (acts_of later)))
        ≡ woven (cond b (answered (happens event) ∷ own_deliveries a later) (own_deliveries a later)) (pattern is_listed (cond b (answer_to m event ∷ []) [] ++ delivered_answers a (after m event) later))
    by true = ap (λ (marks : List (Option SqlState)). mark_of is_listed (answer_to m event) ∷ marks) on
    by false = on
  weaves_act m (declares event) later on = on
  weaves_act m restarts later on = on

  weaves_unanswered : (m : Machine) (event : Event Reading) (later : List Delivery) → a.sessions (number_of event) ≡ true → mark_of is_listed (answer_to m event) ≡ None → Weaves (after m event) later →
      pattern is_listed (own_answers a m (happens event ∷ acts_of later)) ≡ (None ∷ woven (own_deliveries a later) (pattern is_listed (delivered_answers a (after m event) later)))
  weaves_unanswered m event later own none on =
      ap (pattern is_listed) (at_event a m event (acts_of later) true own)
      ∙ ap (λ (mark : Option SqlState). mark ∷ pattern is_listed (own_answers a (after m event) (acts_of later))) none
      ∙ ap (λ (marks : List (Option SqlState)). None ∷ marks) on

  weaves : (m : Machine) (deliveries : List Delivery) → MayAllBeUnanswered a m deliveries → Weaves m deliveries
  weaves m [] are = refl
  weaves m (answered x ∷ later) are = weaves_act m x later (weaves (follows m x) later are.1)
  weaves m (kept event ∷ later) are = weaves_unanswered m event later are.0.0 (not_refused (answer_to m event) (λ code is. are.0.1 (code, is))) (weaves (after m event) later are.1)
  weaves m (lost event ∷ later) are = weaves m later are.1
  weaves m (cut_off number ∷ later) are = weaves_unanswered m (closes number) later are.0 (closes_unlisted m number) (weaves (after m (closes number)) later are.1)

  -- ---- answers

  abbrev Picks : Machine → List Delivery → Type 0
  Picks m deliveries = delivered_answers a m deliveries ≡ picked (own_deliveries a deliveries) (own_answers a m (acts_of deliveries))

  picks_act : (m : Machine) (x : Act) (later : List Delivery) → Picks (follows m x) later → Picks m (answered x ∷ later)
  picks_act m (happens event) later on = by (a.sessions (number_of event)) where
    by : (b : Bool) → (cond b (answer_to m event ∷ []) [] ++ delivered_answers a (after m event) later)
        ≡ picked (cond b (answered (happens event) ∷ own_deliveries a later) (own_deliveries a later)) (cond b (answer_to m event ∷ own_answers a (after m event) (acts_of later)) (own_answers a (after m event) (acts_of later)))
    by true = ap (λ (xs : List Answer). answer_to m event ∷ xs) on
    by false = on
  picks_act m (declares event) later on = on
  picks_act m restarts later on = on

  picks : (m : Machine) (deliveries : List Delivery) → MayAllBeUnanswered a m deliveries → Picks m deliveries
  picks m [] are = refl
  picks m (answered x ∷ later) are = picks_act m x later (picks (follows m x) later are.1)
  picks m (kept event ∷ later) are = picks (after m event) later are.1 ∙ sym (ap (picked (kept event ∷ own_deliveries a later)) (at_event a m event (acts_of later) true are.0.0))
  picks m (lost event ∷ later) are = picks m later are.1
  picks m (cut_off number ∷ later) are =
      picks (after m (closes number)) later are.1 ∙ sym (ap (picked (cut_off number ∷ own_deliveries a later)) (at_event a m (closes number) (acts_of later) true are.0))

pub delivered_determine : patterns_determine_delivered_answers
delivered_determine a m k deliveries others st on_m on_k hides hides_there are are_there same listed declared patterns =
    picks a m deliveries are
    ∙ ap (picked (own_deliveries a deliveries)) (patterns_determine a m k (acts_of deliveries) (acts_of others) st on_m on_k hides hides_there all_noticed listed declared all_marks)
    ∙ ap (λ (xs : List Delivery). picked xs (own_answers a k (acts_of others))) same
    ∙ sym (picks a k others are_there)
  where
    all_noticed : noticed a (acts_of deliveries) ≡ noticed a (acts_of others)
    all_noticed = noticed_so a m deliveries are ∙ ap acts_of same ∙ sym (noticed_so a k others are_there)

    all_marks : pattern is_listed (own_answers a m (acts_of deliveries)) ≡ pattern is_listed (own_answers a k (acts_of others))
    all_marks =
        weaves a m deliveries are
        ∙ ap (λ (xs : List Delivery). woven xs (pattern is_listed (delivered_answers a m deliveries))) same
        ∙ ap (woven (own_deliveries a others)) patterns
        ∙ sym (weaves a k others are_there)
