-- The boxes of a formula, one condition after the other.
use Rattle.std.proofs.Common.{◌≡◌, ℕ, Bool, true, false, ◌&&◌, if◌then◌else◌, List, [], ◌∷◌, fold, refl, sym, ap, ◌∙◌}
use Rattle.std.specs.Borrow.{Bor}
use Rattle.sql_types.specs.Row.{Row}
use Rattle.sql_ast.specs.declared.scope.ColumnIndex.{ColumnIndex}
use Rattle.sql_ast.specs.Layout.{Layout}
use Rattle.sql_ast.specs.Term.{Term, conjunction, disjunction}
use Rattle.expressions.specs.Meaning.{UserNames}
use Rattle.expressions.specs.Infallible.{has_no_arithmetic}
use Rattle.expressions.specs.Types.{TypedTerm}
use Rattle.abstract_database.specs.Guards.{any_of, formula}
use Rattle.guards.specs.Guards.{terms}
use Rattle.key_ranges.specs.Infallible.{are_lent_infallible}
use Rattle.key_ranges.specs.Boxes.{Box, boxes_of, both_boxes}
use Rattle.key_ranges.specs.BoxLoops.{boxes_or_each, boxes_and_each, boxes_and_conditions}
use Rattle.key_ranges.specs.TableRanges.{joined, terms_of}

module _ (layout : Layout) (table : ℕ) (users : UserNames) (roles : List (List ℕ)) (front : List (Bor Row)) where
  abbrev boxes : Term ColumnIndex → List Box
  boxes t = boxes_of layout table users roles front t

  or_from : (t : Term ColumnIndex) (cs : List (Bor TypedTerm)) → boxes_or_each layout table users roles front (boxes t) cs ≡ boxes (fold disjunction t (terms cs))
  or_from t [] = refl
  or_from t (c ∷ cs) = or_from (disjunction t c.now.term) cs

  -- behind a condition that may fail the others say nothing
  and_stopped : (t : Term ColumnIndex) (cs : List (Bor TypedTerm)) → has_no_arithmetic t ≡ false → boxes (fold conjunction t (terms cs)) ≡ boxes t
  and_stopped t [] h = refl
  and_stopped t (c ∷ cs) h =
      and_stopped (conjunction t c.now.term) cs (ap (λ b. b && has_no_arithmetic c.now.term) h)
      ∙ ap (λ b. if b then both_boxes (boxes t) (boxes c.now.term) else boxes t) h

  and_from : (t : Term ColumnIndex) (cs : List (Bor TypedTerm)) → boxes_and_each layout table users roles front (has_no_arithmetic t) (boxes t) cs ≡ boxes (fold conjunction t (terms cs))
  and_from t [] = go (has_no_arithmetic t)
    where
      go : (q : Bool) → boxes_and_each layout table users roles front q (boxes t) [] ≡ boxes t
      go true = refl
      go false = refl
  and_from t (c ∷ cs) = go (has_no_arithmetic t) refl (and_from (conjunction t c.now.term) cs)
    where
      next : Term ColumnIndex
      next = conjunction t c.now.term

      go : (q : Bool) → q ≡ has_no_arithmetic t → boxes_and_each layout table users roles front (has_no_arithmetic next) (boxes next) cs ≡ boxes (fold conjunction next (terms cs))
          → boxes_and_each layout table users roles front q (boxes t) (c ∷ cs) ≡ boxes (fold conjunction t (terms (c ∷ cs)))
      go false e later = sym (and_stopped t (c ∷ cs) (sym e))
      go true e later =
          ap (λ b. boxes_and_each layout table users roles front (b && has_no_arithmetic c.now.term) (if b then both_boxes (boxes t) (boxes c.now.term) else boxes t) cs) e ∙ later

  -- the same of conditions that are not lent
  conditions_stopped : (t : Term ColumnIndex) (cs : List TypedTerm) → has_no_arithmetic t ≡ false → boxes (fold conjunction t (terms_of cs)) ≡ boxes t
  conditions_stopped t [] h = refl
  conditions_stopped t (c ∷ cs) h =
      conditions_stopped (conjunction t c.term) cs (ap (λ b. b && has_no_arithmetic c.term) h)
      ∙ ap (λ b. if b then both_boxes (boxes t) (boxes c.term) else boxes t) h

  conditions_from : (t : Term ColumnIndex) (cs : List TypedTerm) → boxes_and_conditions layout table users roles front (has_no_arithmetic t) (boxes t) cs ≡ boxes (fold conjunction t (terms_of cs))
  conditions_from t [] = go (has_no_arithmetic t)
    where
      go : (q : Bool) → boxes_and_conditions layout table users roles front q (boxes t) [] ≡ boxes t
      go true = refl
      go false = refl
  conditions_from t (c ∷ cs) = go (has_no_arithmetic t) refl (conditions_from (conjunction t c.term) cs)
    where
      next : Term ColumnIndex
      next = conjunction t c.term

      go : (q : Bool) → q ≡ has_no_arithmetic t → boxes_and_conditions layout table users roles front (has_no_arithmetic next) (boxes next) cs ≡ boxes (fold conjunction next (terms_of cs))
          → boxes_and_conditions layout table users roles front q (boxes t) (c ∷ cs) ≡ boxes (fold conjunction t (terms_of (c ∷ cs)))
      go false e later = sym (conditions_stopped t (c ∷ cs) (sym e))
      go true e later =
          ap (λ b. boxes_and_conditions layout table users roles front (b && has_no_arithmetic c.term) (if b then both_boxes (boxes t) (boxes c.term) else boxes t) cs) e ∙ later

  or_infallible : (t : Term ColumnIndex) (cs : List (Bor TypedTerm)) → has_no_arithmetic (fold disjunction t (terms cs)) ≡ (has_no_arithmetic t && are_lent_infallible cs)
  or_infallible t [] = go (has_no_arithmetic t)
    where
      go : (b : Bool) → b ≡ (b && true)
      go true = refl
      go false = refl
  or_infallible t (c ∷ cs) = or_infallible (disjunction t c.now.term) cs ∙ go (has_no_arithmetic t) (has_no_arithmetic c.now.term) (are_lent_infallible cs)
    where
      go : (a b d : Bool) → ((a && b) && d) ≡ (a && (b && d))
      go true b d = refl
      go false b d = refl

  any_infallible : (cs : List (Bor TypedTerm)) → has_no_arithmetic (any_of (terms cs)) ≡ are_lent_infallible cs
  any_infallible [] = refl
  any_infallible (c ∷ cs) = or_infallible c.now.term cs

-- conditions by OR
pub or_boxes : (layout : Layout) (table : ℕ) (users : UserNames) (roles : List (List ℕ)) (front : List (Bor Row)) (c : Bor TypedTerm) (cs : List (Bor TypedTerm))
    → boxes_or_each layout table users roles front (boxes_of layout table users roles front c.now.term) cs ≡ boxes_of layout table users roles front (any_of (terms (c ∷ cs)))
or_boxes layout table users roles front c cs = or_from layout table users roles front c.now.term cs

-- permissive conditions by OR, then restrictive ones by AND
pub formula_boxes : (layout : Layout) (table : ℕ) (users : UserNames) (roles : List (List ℕ)) (front : List (Bor Row)) (permissive restrictive : List (Bor TypedTerm))
    → boxes_and_each layout table users roles front (are_lent_infallible permissive) (boxes_of layout table users roles front (any_of (terms permissive))) restrictive
    ≡ boxes_of layout table users roles front (formula (terms permissive) (terms restrictive))
formula_boxes layout table users roles front permissive restrictive =
    ap (λ q. boxes_and_each layout table users roles front q (boxes_of layout table users roles front (any_of (terms permissive))) restrictive) (sym (any_infallible layout table users roles front permissive))
    ∙ and_from layout table users roles front (any_of (terms permissive)) restrictive

-- conditions by AND
pub condition_boxes : (layout : Layout) (table : ℕ) (users : UserNames) (roles : List (List ℕ)) (front : List (Bor Row)) (c : TypedTerm) (cs : List TypedTerm)
    → boxes_and_conditions layout table users roles front (has_no_arithmetic c.term) (boxes_of layout table users roles front c.term) cs ≡ boxes_of layout table users roles front (joined (terms_of (c ∷ cs)))
condition_boxes layout table users roles front c cs = conditions_from layout table users roles front c.term cs
