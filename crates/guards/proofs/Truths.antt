-- Conditions by their truth alone come to what they come to by their values.
use Rattle.std.proofs.Common.{◌≡◌, Bool, true, false, List, [], ◌∷◌, map, fold, Result, Ok, Err, refl, sym, ap, ◌∙◌}
use Rattle.std.specs.Borrow.{Bor}
use Rattle.sql_types.specs.declared.state.SqlState.{SqlState}
use Rattle.sql_types.specs.declared.value.Value.{Value}
use Rattle.sql_types.specs.declared.value.Value.TheVariants.{Null, Int, Text, Bool as Boolean}
use Rattle.sql_types.specs.declared.value.Truth.{Truth}
use Rattle.sql_types.specs.declared.value.Truth.TheVariants as truth
use Rattle.sql_types.specs.Value.{truth_of}
use Rattle.sql_ast.specs.declared.scope.ColumnIndex.{ColumnIndex}
use Rattle.sql_ast.specs.Term.{Term, conjunction, disjunction}
use Rattle.expressions.specs.Operators.{and_value, or_value}
use Rattle.expressions.specs.Outcome.{Outcome, with_value}
use Rattle.expressions.specs.Stages.{◌>>=◌}
use Rattle.expressions.specs.Meaning.{UserNames, value_of, and_then, or_else}
use Rattle.expressions.specs.Rows.{cell_at, value_on}
use Rattle.expressions.specs.Types.{TypedTerm}
use Rattle.abstract_database.specs.Expressions.{all_of, when_true}
use Rattle.abstract_database.specs.Guards.{any_of, formula}
use Rattle.guards.specs.declared.guard.Formula.{Formula}
use Rattle.guards.specs.Truths.{is_met, is_true, truth_in, and_truth, or_truth, and_all, or_any}
use Rattle.guards.specs.Guards.{Cells, terms, formula_value}

pub decided : (os : List Outcome) → and_all truth.False os ≡ Ok truth.False
decided [] = refl
decided (o ∷ os) = refl

pub decided_any : (os : List Outcome) → or_any truth.True os ≡ Ok truth.True
decided_any [] = refl
decided_any (o ∷ os) = refl

-- ---- one step

abbrev first_and : Outcome → List Outcome → Result Truth SqlState
first_and o os = o >>= λ v. and_all (truth_of v) os

pub true_and : (y : Value) → truth_of (and_value (Boolean true) y) ≡ truth_of y
true_and Null = refl
true_and (Int n) = refl
true_and (Text t) = refl
true_and (Boolean true) = refl
true_and (Boolean false) = refl

pub null_and : (y : Value) → truth_of (and_value Null y) ≡ and_truth truth.Null (truth_of y)
null_and Null = refl
null_and (Int n) = refl
null_and (Text t) = refl
null_and (Boolean true) = refl
null_and (Boolean false) = refl

pub int_and : (n : _) (y : Value) → truth_of (and_value (Int n) y) ≡ and_truth truth.Null (truth_of y)
int_and n Null = refl
int_and n (Int m) = refl
int_and n (Text t) = refl
int_and n (Boolean true) = refl
int_and n (Boolean false) = refl

pub text_and : (s : _) (y : Value) → truth_of (and_value (Text s) y) ≡ and_truth truth.Null (truth_of y)
text_and s Null = refl
text_and s (Int m) = refl
text_and s (Text t) = refl
text_and s (Boolean true) = refl
text_and s (Boolean false) = refl

step : (x : Value) (right : Outcome) (os : List Outcome) → first_and (and_then x right) os ≡ and_all (truth_of x) (right ∷ os)
step (Boolean false) right os = decided os
step (Boolean true) (Ok y) os = ap (λ t. and_all t os) (true_and y)
step (Boolean true) (Err code) os = refl
step Null (Ok y) os = ap (λ t. and_all t os) (null_and y)
step Null (Err code) os = refl
step (Int n) (Ok y) os = ap (λ t. and_all t os) (int_and n y)
step (Int n) (Err code) os = refl
step (Text s) (Ok y) os = ap (λ t. and_all t os) (text_and s y)
step (Text s) (Err code) os = refl

last : (o : Outcome) → truth_in o ≡ first_and o []
last (Ok v) = refl
last (Err code) = refl

is_true_of : (v : Value) → when_true v true false ≡ is_true (truth_of v)
is_true_of Null = refl
is_true_of (Int n) = refl
is_true_of (Text t) = refl
is_true_of (Boolean true) = refl
is_true_of (Boolean false) = refl

pub met_by_truth : (o : Outcome) → is_met o ≡ (truth_in o >>= λ t. Ok (is_true t))
met_by_truth (Ok v) = ap (λ b. Ok b) (is_true_of v)
met_by_truth (Err code) = refl

-- ---- e1 AND e2 AND ..

rest_is : (o : Outcome) (os : List Outcome) → truth_in (all_of (o ∷ os)) ≡ first_and o os
rest_is o [] = last o
rest_is o (right ∷ os) = rest_is (with_value o (λ v. and_then v right)) os ∙ go o
  where
    go : (o : Outcome) → first_and (with_value o (λ v. and_then v right)) os ≡ first_and o (right ∷ os)
    go (Ok x) = step x right os
    go (Err code) = refl

true_first : (o : Outcome) (os : List Outcome) → first_and o os ≡ and_all truth.True (o ∷ os)
true_first (Ok v) os = refl
true_first (Err code) os = refl

pub all_truth : (os : List Outcome) → truth_in (all_of os) ≡ and_all truth.True os
all_truth [] = refl
all_truth (o ∷ os) = rest_is o os ∙ true_first o os

abbrev when_met : Result Truth SqlState → Result Bool SqlState
when_met r = r >>= λ t. Ok (is_true t)

all_met : (os : List Outcome) → is_met (all_of os) ≡ when_met (and_all truth.True os)
all_met os = met_by_truth (all_of os) ∙ ap when_met (all_truth os)

pub all_fail : (os : List Outcome) (code : SqlState) → Err code ≡ and_all truth.True os → is_met (all_of os) ≡ Err code
all_fail os code e = all_met os ∙ ap when_met (sym e)

pub all_decide : (os : List Outcome) (t : Truth) → Ok t ≡ and_all truth.True os → is_met (all_of os) ≡ Ok (is_true t)
all_decide os t e = all_met os ∙ ap when_met (sym e)

-- ---- r1 AND r2 .. behind a first operand

pub and_fold : (cell : ColumnIndex → Value) (users : UserNames) (t : Term ColumnIndex) (ts : List (Term ColumnIndex)) → truth_in (value_of cell users (fold conjunction t ts)) ≡ first_and (value_of cell users t) (map (value_of cell users) ts)
and_fold cell users t [] = last (value_of cell users t)
and_fold cell users t (r ∷ rs) = and_fold cell users (conjunction t r) rs ∙ go (value_of cell users t)
  where
    go : (o : Outcome) → first_and (with_value o (λ x. and_then x (value_of cell users r))) (map (value_of cell users) rs) ≡ first_and o (value_of cell users r ∷ map (value_of cell users) rs)
    go (Ok x) = step x (value_of cell users r) (map (value_of cell users) rs)
    go (Err code) = refl

-- ---- p1 OR p2 ..

abbrev first_or : Outcome → List Outcome → Result Truth SqlState
first_or o os = o >>= λ v. or_any (truth_of v) os

false_or : (y : Value) → truth_of (or_value (Boolean false) y) ≡ truth_of y
false_or Null = refl
false_or (Int n) = refl
false_or (Text t) = refl
false_or (Boolean true) = refl
false_or (Boolean false) = refl

null_or : (y : Value) → truth_of (or_value Null y) ≡ or_truth truth.Null (truth_of y)
null_or Null = refl
null_or (Int n) = refl
null_or (Text t) = refl
null_or (Boolean true) = refl
null_or (Boolean false) = refl

int_or : (n : _) (y : Value) → truth_of (or_value (Int n) y) ≡ or_truth truth.Null (truth_of y)
int_or n Null = refl
int_or n (Int m) = refl
int_or n (Text t) = refl
int_or n (Boolean true) = refl
int_or n (Boolean false) = refl

text_or : (s : _) (y : Value) → truth_of (or_value (Text s) y) ≡ or_truth truth.Null (truth_of y)
text_or s Null = refl
text_or s (Int m) = refl
text_or s (Text t) = refl
text_or s (Boolean true) = refl
text_or s (Boolean false) = refl

or_step : (x : Value) (right : Outcome) (os : List Outcome) → first_or (or_else x right) os ≡ or_any (truth_of x) (right ∷ os)
or_step (Boolean true) right os = decided_any os
or_step (Boolean false) (Ok y) os = ap (λ t. or_any t os) (false_or y)
or_step (Boolean false) (Err code) os = refl
or_step Null (Ok y) os = ap (λ t. or_any t os) (null_or y)
or_step Null (Err code) os = refl
or_step (Int n) (Ok y) os = ap (λ t. or_any t os) (int_or n y)
or_step (Int n) (Err code) os = refl
or_step (Text s) (Ok y) os = ap (λ t. or_any t os) (text_or s y)
or_step (Text s) (Err code) os = refl

last_or : (o : Outcome) → truth_in o ≡ first_or o []
last_or (Ok v) = refl
last_or (Err code) = refl

or_fold : (cell : ColumnIndex → Value) (users : UserNames) (t : Term ColumnIndex) (ts : List (Term ColumnIndex)) → truth_in (value_of cell users (fold disjunction t ts)) ≡ first_or (value_of cell users t) (map (value_of cell users) ts)
or_fold cell users t [] = last_or (value_of cell users t)
or_fold cell users t (r ∷ rs) = or_fold cell users (disjunction t r) rs ∙ go (value_of cell users t)
  where
    go : (o : Outcome) → first_or (with_value o (λ x. or_else x (value_of cell users r))) (map (value_of cell users) rs) ≡ first_or o (value_of cell users r ∷ map (value_of cell users) rs)
    go (Ok x) = or_step x (value_of cell users r) (map (value_of cell users) rs)
    go (Err code) = refl

pub any_truth : (cell : ColumnIndex → Value) (users : UserNames) (ts : List (Term ColumnIndex)) → truth_in (value_of cell users (any_of ts)) ≡ or_any truth.False (map (value_of cell users) ts)
any_truth cell users [] = refl
any_truth cell users (t ∷ ts) = or_fold cell users t ts ∙ go (value_of cell users t)
  where
    go : (o : Outcome) → first_or o (map (value_of cell users) ts) ≡ or_any truth.False (o ∷ map (value_of cell users) ts)
    go (Ok v) = refl
    go (Err code) = refl

-- ---- a formula

by_truth : (o : Outcome) (os : List Outcome) → first_and o os ≡ (truth_in o >>= λ t. and_all t os)
by_truth (Ok v) os = refl
by_truth (Err code) os = refl

pub formula_truth : (cell : ColumnIndex → Value) (users : UserNames) (ps rs : List (Term ColumnIndex)) →
    truth_in (value_of cell users (formula ps rs)) ≡ (or_any truth.False (map (value_of cell users) ps) >>= λ t. and_all t (map (value_of cell users) rs))
formula_truth cell users ps rs =
    and_fold cell users (any_of ps) rs ∙ by_truth (value_of cell users (any_of ps)) (map (value_of cell users) rs)
    ∙ ap (λ o. o >>= λ t. and_all t (map (value_of cell users) rs)) (any_truth cell users ps)

-- ---- conditions that are lent

lent_terms : (cells : Cells) (users : UserNames) (cs : List (Bor TypedTerm)) → map (value_of (cell_at cells) users) (terms cs) ≡ map (λ c. value_on cells users c.now) cs
lent_terms cells users [] = refl
lent_terms cells users (c ∷ cs) = ap (λ os. value_on cells users c.now ∷ os) (lent_terms cells users cs)

abbrev permitted : Cells → UserNames → Formula → Result Truth SqlState
permitted cells users f = or_any truth.False (map (λ c. value_on cells users c.now) f.permissive)

abbrev restricted : Cells → UserNames → Formula → Truth → Result Truth SqlState
restricted cells users f t = and_all t (map (λ c. value_on cells users c.now) f.restrictive)

formula_is : (cells : Cells) (users : UserNames) (f : Formula) → is_met (formula_value users f cells) ≡ when_met (permitted cells users f >>= restricted cells users f)
formula_is cells users f =
    met_by_truth (formula_value users f cells)
    ∙ ap when_met (formula_truth (cell_at cells) users (terms f.permissive) (terms f.restrictive))
    ∙ ap (λ os. when_met (or_any truth.False os >>= λ t. and_all t (map (value_of (cell_at cells) users) (terms f.restrictive)))) (lent_terms cells users f.permissive)
    ∙ ap (λ os. when_met (permitted cells users f >>= λ t. and_all t os)) (lent_terms cells users f.restrictive)

pub no_permission : (cells : Cells) (users : UserNames) (f : Formula) (code : SqlState) → Err code ≡ permitted cells users f → is_met (formula_value users f cells) ≡ Err code
no_permission cells users f code e = formula_is cells users f ∙ ap (λ r. when_met (r >>= restricted cells users f)) (sym e)

permitted_then : (cells : Cells) (users : UserNames) (f : Formula) (t : Truth) → Ok t ≡ permitted cells users f → is_met (formula_value users f cells) ≡ when_met (restricted cells users f t)
permitted_then cells users f t e = formula_is cells users f ∙ ap (λ r. when_met (r >>= restricted cells users f)) (sym e)

pub no_restriction : (cells : Cells) (users : UserNames) (f : Formula) (t : Truth) (code : SqlState) → Ok t ≡ permitted cells users f → Err code ≡ restricted cells users f t
    → is_met (formula_value users f cells) ≡ Err code
no_restriction cells users f t code e h = permitted_then cells users f t e ∙ ap when_met (sym h)

pub formula_decides : (cells : Cells) (users : UserNames) (f : Formula) (t u : Truth) → Ok t ≡ permitted cells users f → Ok u ≡ restricted cells users f t
    → is_met (formula_value users f cells) ≡ Ok (is_true u)
formula_decides cells users f t u e h = permitted_then cells users f t e ∙ ap when_met (sym h)
