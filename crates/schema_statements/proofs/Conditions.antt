-- What is bound of the conditions of a policy is bound to the columns of its table.
use Rattle.std.proofs.Common.{◌≡◌, ◌++◌, true, List, [], ◌∷◌, map, Option, Some, None, Result, Ok, refl, sym, ap, ◌∙◌, subst}
use Rattle.std.specs.List.{zip, AllByRecursion}
use Rattle.sql_types.specs.declared.state.SqlState.{SqlState}
use Rattle.sql_types.specs.declared.state.SqlState.TheVariants.{DatatypeMismatch}
use Rattle.sql_ast.specs.declared.columns.ColumnType.TheVariants.{Boolean}
use Rattle.sql_ast.specs.declared.policy.Policy.{Policy}
use Rattle.sql_ast.specs.declared.policy.PolicyClause.{PolicyClause}
use Rattle.sql_ast.specs.declared.statement.CreatePolicy.{CreatePolicy}
use Rattle.sql_ast.specs.Layout.{Layout}
use Rattle.sql_ast.specs.Scope.{Table}
use Rattle.expressions.specs.declared.parts.Part.{Part as LentPart}
use Rattle.expressions.specs.Names.{MeansTheSame}
use Rattle.expressions.specs.Parts.{Part, part_of, Binds, is_expected, check_type, check_expressions}
use Rattle.expressions.specs.Stages.{◌>>=◌, require, each}
use Rattle.expressions.specs.Types.{TypedTerm, fits, names_then_types}
use Rattle.abstract_database.specs.Lists.{TheName}
use Rattle.abstract_database.specs.Database.{TableOf}
use Rattle.abstract_database.specs.Definitions.{policy_of}
use Rattle.abstract_database.proofs.ResultLemmas.{bind_ok, ok_inside, require_ok}
use Rattle.catalogue.specs.Policies.{scope_of, AreBound, IsBoundPolicy}
use Rattle.catalogue.specs.Tables.{table_scope}
use Rattle.schema_statements.specs.PolicyChecks.{parts_over, Takes}

-- an expression is bound to the tables of its part, and has the type that is expected
record IsBoundPart (p : Part) (e : TypedTerm) : Type 0 where
  pub typed : names_then_types p.scope p.term ≡ Ok e
  pub expected : is_expected p.expected e.value_type ≡ true
  pub means : MeansTheSame p.scope e.term p.term

abbrev ArePairs : List Part → List TypedTerm → Type 0
ArePairs [] [] = Unit {0}
ArePairs [] (e ∷ es) = ⊥
ArePairs (p ∷ ps) [] = ⊥
ArePairs (p ∷ ps) (e ∷ es) = IsBoundPart p e × ArePairs ps es

abbrev typing : Part → Result TypedTerm SqlState
typing p = names_then_types p.scope p.term

abbrev Mean : List Part → List TypedTerm → Type 0
Mean ps es = AllByRecursion (λ (x : Part × TypedTerm). MeansTheSame x.0.scope x.1.term x.0.term) (zip ps es)

no_more : {A : Type 0} (x : A) (xs : List A) → ◌≡◌ {A = List A} (x ∷ xs) [] → ⊥
no_more x xs e = cc

pairs : (ps : List Part) (es : List TypedTerm) (us : List (Unit {0})) → each typing ps ≡ Ok es → each check_type ps ≡ Ok us → Mean ps es → ArePairs ps es
pairs [] [] us t c m = tt
pairs [] (e ∷ es) us t c m = no_more e es (sym (ok_inside [] (e ∷ es) t))
pairs (p ∷ ps) es us t c m =
    let first = bind_ok (typing p) (λ y. each typing ps >>= λ l. Ok (y ∷ l)) es t in
    let rest = bind_ok (each typing ps) (λ l. Ok (first.0 ∷ l)) es first.2 in
    let one = bind_ok (check_type p) (λ y. each check_type ps >>= λ l. Ok (y ∷ l)) us c in
    let others = bind_ok (each check_type ps) (λ l. Ok (one.0 ∷ l)) us one.2 in
    let is = ok_inside (first.0 ∷ rest.0) es rest.2 in
    let means = subst (Mean (p ∷ ps)) (sym is) m in
    let fitting = subst (λ (r : Result TypedTerm SqlState). (r >>= λ u. require (is_expected p.expected u.value_type) DatatypeMismatch) ≡ Ok one.0) first.1 one.1 in
    subst (ArePairs (p ∷ ps)) is (
      record { typed = first.1; expected = require_ok (is_expected p.expected first.0.value_type) DatatypeMismatch one.0 fitting; means = means.0 },
      pairs ps rest.0 others.0 rest.1 others.1 means.1,
    )

module _ (scope : List Table) where
  -- what is taken off for a clause is bound to it, and what is left is bound to the parts after it
  taken : (o : Option PolicyClause) (ps : List Part) (old new : List TypedTerm) (e : Option TypedTerm) → ArePairs (parts_over scope o ++ ps) old → Takes o old new e
      → AreBound scope o e × ArePairs ps new
  taken None ps old new e are t = (subst (AreBound scope None) (sym t.0) tt, subst (ArePairs ps) (sym t.1) are)
  taken (Some c) ps old new None are t = absurd (subst (ArePairs (parts_over scope (Some c) ++ ps)) t are)
  taken (Some c) ps old new (Some e) are t =
      let both = subst (ArePairs (parts_over scope (Some c) ++ ps)) t are in
      (record { typed = both.0.typed; boolean = both.0.expected; means = both.0.means }, both.1)

  no_parts : (o : Option PolicyClause) → parts_over scope o ++ [] ≡ parts_over scope o
  no_parts None = refl
  no_parts (Some c) = refl

  conditions_bound : (using check : Option PolicyClause) (bound mid left : List TypedTerm) (u c : Option TypedTerm) → Binds (parts_over scope using ++ parts_over scope check) bound
      → Takes using bound mid u → Takes check mid left c → AreBound scope using u × AreBound scope check c
  conditions_bound using check bound mid left u c binds first second =
      let all = pairs (parts_over scope using ++ parts_over scope check) bound _ binds.typed binds.types binds.means in
      let one = taken using (parts_over scope check) bound mid u all first in
      (one.0, (taken check [] mid left c (subst (λ ps. ArePairs ps mid) (sym (no_parts check)) one.1) second).0)

-- so a policy with these conditions is bound
policy_bound : (scope : List Table) (s : CreatePolicy) (p : Policy) (bound mid left : List TypedTerm) (u c : Option TypedTerm) → Binds (parts_over scope s.using ++ parts_over scope s.check) bound
    → Takes s.using bound mid u → Takes s.check mid left c → p ≡ policy_of s → IsBoundPolicy scope (record { policy = p; using = u; check = c })
policy_bound scope s p bound mid left u c binds first second is =
    let both = conditions_bound scope s.using s.check bound mid left u c binds first second in
    subst (λ (q : Policy). IsBoundPolicy scope (record { policy = q; using = u; check = c })) (sym is) (record { using = both.0; check = both.1 })

-- what was bound of the conditions of a statement, over the columns of a table, and then taken off, makes a policy of the table
pub policy_over : (t : TableOf) (s : CreatePolicy) (name : TheName) (layout : Layout) → name ≡ t.name → layout ≡ t.layout
    → (none one two all : List LentPart) → none ≡ [] → map part_of one ≡ map part_of none ++ parts_over (scope_of name layout) s.using
    → map part_of two ≡ map part_of one ++ parts_over (scope_of name layout) s.check → all ≡ two
    → (found bound mid left : List TypedTerm) (u c : Option TypedTerm) → bound ≡ found → Binds (map part_of all) found → Takes s.using bound mid u → Takes s.check mid left c
    → (p : Policy) → p ≡ policy_of s → IsBoundPolicy (table_scope t) (record { policy = p; using = u; check = c })
policy_over t s name layout same_name same_layout none one two all is_none with_one with_two is_all found bound mid left u c same binds first second p is =
    let scope = scope_of name layout in
    let parts : map part_of all ≡ parts_over scope s.using ++ parts_over scope s.check =
    ap (map part_of) is_all ∙ with_two ∙ ap (λ (ps : List Part). ps ++ parts_over scope s.check) (with_one ∙ ap (λ (ls : List LentPart). map part_of ls ++ parts_over scope s.using) is_none) in
    let binds_them = subst (Binds (parts_over scope s.using ++ parts_over scope s.check)) (sym same) (subst (λ (ps : List Part). Binds ps found) parts binds) in
    let made = policy_bound scope s p bound mid left u c binds_them first second is in
    subst (λ (l : Layout). IsBoundPolicy (scope_of t.name l) (record { policy = p; using = u; check = c })) same_layout
    (subst (λ (n : TheName). IsBoundPolicy (scope_of n layout) (record { policy = p; using = u; check = c })) same_name made)
