-- Bound conditions of policies have the values of their clauses.
use Rattle.std.proofs.Common.{◌≡◌, Bool, true, false, cond, List, [], ◌∷◌, ◌++◌, map, filter, Option, Some, None, refl, sym, ap, ◌∙◌, inl, inr}
use Rattle.std.proofs.lemmas.List.{map-append}
use Rattle.sql_types.specs.declared.value.Value.{Value}
use Rattle.sql_ast.specs.declared.policy.Policy.{Policy}
use Rattle.sql_ast.specs.declared.policy.PolicyClause.{PolicyClause}
use Rattle.sql_ast.specs.declared.scope.ColumnIndex.{ColumnIndex}
use Rattle.sql_ast.specs.Scope.{Table}
use Rattle.expressions.specs.Meaning.{UserNames, value_of}
use Rattle.expressions.specs.Names.{cell_named}
use Rattle.expressions.specs.Types.{TypedTerm}
use Rattle.abstract_database.specs.Whole.{Each}
use Rattle.abstract_database.specs.Guards.{Clauses, using_clause, check_clause, condition_of, conditions}
use Rattle.catalogue.specs.declared.policy.CataloguePolicy.{CataloguePolicy}
use Rattle.catalogue.specs.Policies.{AreBound, IsBoundPolicy, policies_in}
use Rattle.policy_composer.specs.declared.policies.GuardedRows.{GuardedRows}
use Rattle.policy_composer.specs.declared.policies.GuardedRows.TheVariants.{Existing, New}
use Rattle.policy_composer.specs.Formulas.{first_of, bound_condition, term_in, terms_where}

-- the clause that guards these rows
abbrev pub clause_for : GuardedRows → Clauses
clause_for Existing = using_clause
clause_for New = check_clause

module _ (scope : List Table) (cell : ColumnIndex → Value) (users : UserNames) where
  of_clause : (c : Option PolicyClause) (e : Option TypedTerm) → AreBound scope c e → map (value_of cell users) (term_in e) ≡ map (value_of (cell_named scope cell) users) (condition_of c)
  of_clause None None b = refl
  of_clause (Some c) (Some e) b = ap (λ o. o ∷ []) (b.means cell users)
  of_clause None (Some e) b = absurd b
  of_clause (Some c) None b = absurd b

  of_check : (q : Policy) (using check : Option TypedTerm) (c : Option PolicyClause) → q.check ≡ c → AreBound scope q.using using → AreBound scope c check → AreBound scope (check_clause q) (first_of check using)
  of_check q using None None e b h = rw e b
  of_check q using (Some t) (Some c) e b h = rw e h
  of_check q using None (Some c) e b h = absurd h
  of_check q using (Some t) None e b h = absurd h

  of_policy : (rows : GuardedRows) (p : CataloguePolicy) → IsBoundPolicy scope p →
      map (value_of cell users) (term_in (bound_condition rows p)) ≡ map (value_of (cell_named scope cell) users) (condition_of (clause_for rows p.policy))
  of_policy Existing p b = of_clause p.policy.using p.using b.using
  of_policy New p b = of_clause (check_clause p.policy) (first_of p.check p.using) (of_check p.policy p.using p.check p.policy.check refl b.using b.check)

  -- of the policies that pass a test, in their order
  pub of_policies : (rows : GuardedRows) (test : Policy → Bool) (ps : List CataloguePolicy) → Each (IsBoundPolicy scope) ps →
      map (value_of cell users) (terms_where rows test ps) ≡ map (value_of (cell_named scope cell) users) (conditions (clause_for rows) (filter test (policies_in ps)))
  of_policies rows test [] b = refl
  of_policies rows test (p ∷ ps) b = by_test (test p.policy) (of_policies rows test ps (λ q h. b q (inr h)))
    where
      by_test : (passes : Bool) → map (value_of cell users) (terms_where rows test ps) ≡ map (value_of (cell_named scope cell) users) (conditions (clause_for rows) (filter test (policies_in ps)))
          → map (value_of cell users) (cond passes (term_in (bound_condition rows p)) [] ++ terms_where rows test ps)
          ≡ map (value_of (cell_named scope cell) users) (conditions (clause_for rows) (cond passes (p.policy ∷ filter test (policies_in ps)) (filter test (policies_in ps))))
      by_test false e = e
      by_test true e =
          map-append (value_of cell users) (term_in (bound_condition rows p)) (terms_where rows test ps)
          ∙ ap (λ os. os ++ map (value_of cell users) (terms_where rows test ps)) (of_policy rows p (b p (inl refl)))
          ∙ ap (λ os. map (value_of (cell_named scope cell) users) (condition_of (clause_for rows p.policy)) ++ os) e
          ∙ sym (map-append (value_of (cell_named scope cell) users) (condition_of (clause_for rows p.policy)) (conditions (clause_for rows) (filter test (policies_in ps))))
