-- New values and a condition are bound by their parts.
use Rattle.std.proofs.Common.{◌≡◌, ◌⊎◌, ℕ, suc, List, [], ◌∷◌, ◌++◌, map, length, option_to_list, is_some, Option, None, Some, Result, Ok, Err, refl, sym, ap, ◌∙◌, inl, inr, append-nil, length-append, ◌≤◌, arith}
use Rattle.std.proofs.lemmas.List.{map-append, length-map}
use Rattle.sql_types.specs.declared.state.Refusal.{Refusal}
use Rattle.sql_types.specs.declared.state.SqlState.{SqlState}
use Rattle.sql_types.specs.declared.state.SqlState.TheVariants.{OutOfMemory}
use Rattle.sql_ast.specs.declared.expression.ColumnName.{ColumnName}
use Rattle.sql_ast.specs.declared.scope.ColumnIndex.{ColumnIndex}
use Rattle.sql_ast.specs.Layout.{Layout}
use Rattle.sql_ast.specs.Scope.{Table as ScopeTable}
use Rattle.sql_ast.specs.Term.{Term}
use Rattle.expressions.specs.Names.{resolved}
use Rattle.expressions.specs.Parts.{Part, resolve_parts, check_expressions, Binds, IsBound}
use Rattle.expressions.specs.Stages.{◌>>=◌, each}
use Rattle.expressions.specs.Types.{TypedTerm}
use Rattle.abstract_database.specs.Checks.{value_parts}
use Rattle.abstract_database.specs.Lists.{optional}
use Rattle.abstract_database.proofs.ResultLemmas.{ok_inside, bind_ok, length_each}
use Rattle.planner.specs.declared.changes.BoundChanges.{BoundChanges}
use Rattle.planner.specs.Changed.{values_of, where_of, terms_of, where_parts, change_parts, bound_changes}
use Rattle.planner.proofs.Stages.{each_append}
use Rattle.planner.proofs.Steps.{paired}

-- ---- lists

not_empty : {X : Type 0} (xs : List X) (x : X) → xs ++ x ∷ [] ≡ [] → ⊥
not_empty [] x e = cc
not_empty (y ∷ ys) x e = cc

last_same : {X : Type 0} (xs ys : List X) (x y : X) → xs ++ x ∷ [] ≡ ys ++ y ∷ [] → (xs ≡ ys) × (x ≡ y)
last_same [] [] x y e = let same : x ≡ y = cc in (refl, same)
last_same [] (z ∷ zs) x y e = let none : zs ++ y ∷ [] ≡ [] = cc in absurd (not_empty zs y none)
last_same (z ∷ zs) [] x y e = let none : zs ++ x ∷ [] ≡ [] = cc in absurd (not_empty zs x none)
last_same (z ∷ zs) (w ∷ ws) x y e =
    let first : z ≡ w = cc in
    let rest : zs ++ x ∷ [] ≡ ws ++ y ∷ [] = cc in
    let same = last_same zs ws x y rest in (ap (λ h. h ∷ zs) first ∙ ap (λ l. w ∷ l) same.0, same.1)

-- a list and what may stand after it
parts_same : {X : Type 0} (xs ys : List X) (o p : Option X) → is_some o ≡ is_some p → xs ++ option_to_list o ≡ ys ++ option_to_list p → (xs ≡ ys) × (o ≡ p)
parts_same xs ys None None s e = (sym (append-nil xs) ∙ e ∙ append-nil ys, refl)
parts_same xs ys None (Some y) s e = cc
parts_same xs ys (Some x) None s e = cc
parts_same xs ys (Some x) (Some y) s e = let same = last_same xs ys x y e in (same.0, ap (λ z. Some z) same.1)

-- ---- names

abbrev pub name : Part → Result (Term ColumnIndex) SqlState
name p = resolved p.scope p.term

abbrev Places : Type 0
Places = List (Term ColumnIndex)

abbrev both : Result Places SqlState → Result (Option (Term ColumnIndex)) SqlState → Result Places SqlState
both a o = a >>= λ xs. (o >>= λ w. Ok (option_to_list w)) >>= λ ys. Ok (xs ++ ys)

module _ (scope : List ScopeTable) (layout : Layout) where
  pub names_of_values : (columns : List ℕ) (values : List (Term ColumnName)) → length columns ≡ length values → each name (value_parts scope layout columns values) ≡ each (resolved scope) values
  names_of_values [] [] e = refl
  names_of_values [] (x ∷ xs) e = cc
  names_of_values (c ∷ cs) [] e = refl
  names_of_values (c ∷ cs) (x ∷ xs) e = ap (λ r. resolved scope x >>= λ y. r >>= λ ys. Ok (y ∷ ys)) (names_of_values cs xs (less (length cs) (length xs) e)) where
    less : (m n : ℕ) → suc m ≡ suc n → m ≡ n
    less m n h = omega (arith, h)

  names_of_where : (c : Option (Term ColumnName)) → each name (where_parts scope c) ≡ (optional (resolved scope) c >>= λ w. Ok (option_to_list w))
  names_of_where None = refl
  names_of_where (Some c) = alone (resolved scope c) where
    alone : (r : Result (Term ColumnIndex) SqlState) → (r >>= λ y. Ok (y ∷ [])) ≡ ((r >>= λ y. Ok (Some y)) >>= λ w. Ok (option_to_list w))
    alone (Ok y) = refl
    alone (Err code) = refl

  module _ (columns : List ℕ) (values : List (Term ColumnName)) (condition : Option (Term ColumnName)) (long : length columns ≡ length values) where
    abbrev parts : List Part
    parts = change_parts scope layout columns values condition

    abbrev values_found : Result Places SqlState
    values_found = each (resolved scope) values

    abbrev where_found : Result (Option (Term ColumnIndex)) SqlState
    where_found = optional (resolved scope) condition

    names_of_all : resolve_parts parts ≡ both values_found where_found
    names_of_all =
        each_append name (value_parts scope layout columns values) (where_parts scope condition)
        ∙ ap (λ r. r >>= λ xs. each name (where_parts scope condition) >>= λ ys. Ok (xs ++ ys)) (names_of_values columns values long)
        ∙ ap (λ r. values_found >>= λ xs. r >>= λ ys. Ok (xs ++ ys)) (names_of_where condition)

    refused_at : {A : Type 0} (a : Result Places SqlState) (o : Result (Option (Term ColumnIndex)) SqlState) (c : Result A SqlState) (code : SqlState) → (both a o >>= λ ts. c) ≡ Err code →
        (a >>= λ xs. o >>= λ w. c >>= λ z. paired xs w) ≡ Err code
    refused_at (Ok xs) (Ok w) (Ok z) code e = cc
    refused_at (Ok xs) (Ok w) (Err other) code e = cc
    refused_at (Ok xs) (Err other) c code e = cc
    refused_at (Err other) o c code e = cc

    pub changes_refused : (x : Refusal) → IsBound parts (Err x) → (x.0 ≡ OutOfMemory) ⊎ (bound_changes scope layout columns values condition ≡ Err x.0)
    changes_refused x (inl e) = inl e
    changes_refused x (inr e) = inr (refused_at values_found where_found (check_expressions parts) x.0 (ap (λ r. r >>= λ ts. check_expressions parts) (sym names_of_all) ∙ e))

    some_found : (c : Option (Term ColumnName)) (w : Option (Term ColumnIndex)) → optional (resolved scope) c ≡ Ok w → is_some w ≡ is_some c
    some_found None w e = ap is_some (sym (ok_inside None w e))
    some_found (Some c) w e = let at = bind_ok (resolved scope c) (λ y. Ok (Some y)) w e in ap is_some (sym (ok_inside (Some at.0) w at.2))

    of_condition : (b : Option TypedTerm) → is_some (where_of b) ≡ is_some b
    of_condition None = refl
    of_condition (Some u) = refl

    terms_of_condition : (b : Option TypedTerm) → map (λ (u : TypedTerm). u.term) (option_to_list b) ≡ option_to_list (where_of b)
    terms_of_condition None = refl
    terms_of_condition (Some u) = refl

    pub changes_bound : (all : List TypedTerm) (b : BoundChanges) → Binds parts all → b.values ++ option_to_list b.condition ≡ all → is_some b.condition ≡ is_some condition →
        bound_changes scope layout columns values condition ≡ Ok (terms_of b)
    changes_bound all b binds whole some =
        let terms : map (λ (u : TypedTerm). u.term) all ≡ values_of b.values ++ option_to_list (where_of b.condition) =
        ap (map (λ (u : TypedTerm). u.term)) (sym whole) ∙ map-append (λ (u : TypedTerm). u.term) b.values (option_to_list b.condition) ∙ ap (λ l. values_of b.values ++ l) (terms_of_condition b.condition) in
        let named = sym names_of_all ∙ binds.names ∙ ap (λ l. Ok l) terms in
        let first = bind_ok values_found (λ xs. (where_found >>= λ w. Ok (option_to_list w)) >>= λ ys. Ok (xs ++ ys)) (values_of b.values ++ option_to_list (where_of b.condition)) named in
        let second = bind_ok (where_found >>= λ w. Ok (option_to_list w)) (λ ys. Ok (first.0 ++ ys)) (values_of b.values ++ option_to_list (where_of b.condition)) first.2 in
        let third = bind_ok where_found (λ w. Ok (option_to_list w)) second.0 second.1 in
        let joined : first.0 ++ option_to_list third.0 ≡ values_of b.values ++ option_to_list (where_of b.condition) =
        ap (λ l. first.0 ++ l) (ok_inside (option_to_list third.0) second.0 third.2) ∙ ok_inside (first.0 ++ second.0) (values_of b.values ++ option_to_list (where_of b.condition)) second.2 in
        let same = parts_same first.0 (values_of b.values) third.0 (where_of b.condition) (some_found condition third.0 third.1 ∙ sym some ∙ sym (of_condition b.condition)) joined in
        ap (λ r. r >>= λ xs. where_found >>= λ w. check_expressions parts >>= λ z. paired xs w) (first.1 ∙ ap (λ l. Ok l) same.0)
        ∙ ap (λ r. r >>= λ w. check_expressions parts >>= λ z. paired (values_of b.values) w) (third.1 ∙ ap (λ w. Ok w) same.1)
        ∙ ap (λ r. r >>= λ z. Ok (terms_of b)) binds.types

    -- how many are bound
    where_within : (all : List TypedTerm) → Binds parts all → length (option_to_list condition) ≡ length (where_parts scope condition)
    where_within all binds = go condition where
      go : (c : Option (Term ColumnName)) → length (option_to_list c) ≡ length (where_parts scope c)
      go None = refl
      go (Some c) = refl

    pub within : (all : List TypedTerm) → Binds parts all → length (option_to_list condition) ≤ length all
    within all binds =
        let same = length_each name parts (map (λ (u : TypedTerm). u.term) all) binds.names in
        let long = length-map all (λ (u : TypedTerm). u.term) in
        let split = length-append (value_parts scope layout columns values) (where_parts scope condition) in
        let own = where_within all binds in
        omega (arith, same, long, split, own)
