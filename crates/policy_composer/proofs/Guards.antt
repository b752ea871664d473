-- Formulas of the policies that apply say of a row what the guard of their table says.
use Rattle.std.proofs.Common.{◌≡◌, Bool, true, false, not, ◌&&◌, cond, List, [], ◌∷◌, map, filter, find, Ok, refl, sym, ap, ◌∙◌}
use Rattle.sql_types.specs.Row.{Row}
use Rattle.sql_types.specs.declared.value.Value.TheVariants.{Bool as Boolean}
use Rattle.sql_ast.specs.declared.policy.Policy.{Policy}
use Rattle.sql_ast.specs.declared.privilege.Action.{Action}
use Rattle.sql_ast.specs.declared.privilege.Action.TheVariants as action
use Rattle.expressions.specs.Stages.{◌>>=◌}
use Rattle.expressions.specs.Meaning.{UserNames, value_of}
use Rattle.expressions.specs.Names.{cell_named}
use Rattle.abstract_database.specs.Lists.{TheName, Among, has_name}
use Rattle.abstract_database.specs.Database.{Database, is_role_named}
use Rattle.abstract_database.specs.Roles.{is_in}
use Rattle.abstract_database.specs.Expressions.{cell_in, own_scope, value_on, when_true}
use Rattle.abstract_database.specs.Guards.{is_guarded, is_for_action, is_for_role, is_permissive, applicable, conditions, guard_formula, guard, using_clause, existing_guard, new_guard, with_select}
use Rattle.stored_database.specs.Definitions.{TableDefinition, Definitions, database_with}
use Rattle.stored_database.specs.Valid.{Describes}
use Rattle.catalogue.specs.declared.policy.CataloguePolicy.{CataloguePolicy}
use Rattle.catalogue.specs.Policies.{policies_in}
use Rattle.catalogue.specs.Tables.{HasBoundPolicies}
use Rattle.guards.specs.declared.guard.Formula.{Formula}
use Rattle.guards.specs.Guards.{terms, formula_value, cells_of, row_guard}
use Rattle.policy_composer.specs.declared.policies.GuardedRows.{GuardedRows}
use Rattle.policy_composer.specs.declared.policies.GuardedRows.TheVariants.{Existing, New}
use Rattle.policy_composer.specs.Formulas.{applies, terms_where, IsFormulaOf, AreFormulasOf, AreExisting, AreNew}
use Rattle.policy_composer.specs.Guarding.{guards_from, MeansGuard, existing_of, new_of}
use Rattle.policy_composer.proofs.Outcomes.{formula_outcome, of_formula, last_one}
use Rattle.policy_composer.proofs.Bound.{clause_for, of_policies}
use Rattle.policy_composer.proofs.Applicable.{applies_to_role, in_turn, of_table}
use Rattle.policy_composer.proofs.Exempt.{guarded}

-- the database is described, the table is one of it, and these are the roles that the current user is in
record Knows (d : Definitions) (t : TableDefinition) (set : List TheName) (db : Database) (users : UserNames) : Type 0 where
  described : Describes d db
  among : Among t d.tables
  has : (s : TheName) → has_name s set ≡ is_in d.memberships users.current s

module _ (d : Definitions) (t : TableDefinition) (set : List TheName) (db : Database) (users : UserNames) (row : Row) (k : Knows d t set db users) where
  concerns : (b : Bool) → guards_from set (find (is_role_named users.current) d.roles) t.definition ≡ b → is_guarded db users.current t.definition ≡ b
  concerns b e =
      ap (λ (x : Database). is_guarded x users.current t.definition) k.described.is
      ∙ sym (guarded (database_with d k.described.rows) users.current set t.definition k.described.valid.whole.order.roles k.has)
      ∙ e

  -- ---- a role that row security does not concern

  module _ (unconcerned : is_guarded db users.current t.definition ≡ false) where
    asks_nothing : (a : Action) (rows : GuardedRows) → guard db users t.definition a (clause_for rows) row ≡ Ok (Boolean true)
    asks_nothing a rows = ap (λ b. cond b (value_on (own_scope t.definition) users (row ∷ []) (guard_formula (clause_for rows) (applicable db users.current t.definition a))) (Ok (Boolean true))) unconcerned

    lets_pass : (a : Action) (rows : GuardedRows) (reads : Bool) → with_select db users t.definition reads (guard db users t.definition a (clause_for rows)) row ≡ Ok (Boolean true)
    lets_pass a rows false = asks_nothing a rows
    lets_pass a rows true =
        ap (λ o. o >>= λ v. when_true v (guard db users t.definition action.Select using_clause row) (Ok v)) (asks_nothing a rows) ∙ asks_nothing action.Select Existing

    existing_pass : (a : Action) (reads : Bool) → existing_guard db users t.definition a reads row ≡ Ok (Boolean true)
    existing_pass action.Select reads = lets_pass action.Select Existing false
    existing_pass action.Insert reads = refl
    existing_pass action.Update reads = lets_pass action.Update Existing reads
    existing_pass action.Delete reads = lets_pass action.Delete Existing reads

    new_pass : (a : Action) (reads : Bool) → new_guard db users t.definition a reads row ≡ Ok (Boolean true)
    new_pass action.Insert reads = lets_pass action.Insert New false
    new_pass action.Update reads = lets_pass action.Update New reads
    new_pass action.Select reads = refl
    new_pass action.Delete reads = refl

  -- ---- a role that it concerns

  module _ (policies : List CataloguePolicy) (policies_are : policies_in policies ≡ t.policies) (bound : HasBoundPolicies t.definition policies) where
    -- the policies that apply are those of the table, in their order
    applicable_are : (a : Action) (kind : Policy → Bool) → filter (λ p. applies set a p && kind p) (policies_in policies) ≡ filter kind (applicable db users.current t.definition a)
    applicable_are a kind =
        let for_role = is_for_role d.memberships users.current in
        in_turn (applies set a) (λ p. is_for_action a p.command && for_role p.roles) kind (policies_in policies) (applies_to_role d.memberships users.current set k.has a)
        ∙ ap (λ ps. filter kind (filter (λ p. is_for_action a p.command && for_role p.roles) ps)) policies_are
        ∙ ap (filter kind) (sym (of_table (λ p. is_for_action a p.command) (λ p. for_role p.roles) d t k.described.valid k.among))
        ∙ ap (λ (x : Database). filter kind (applicable x users.current t.definition a)) (sym k.described.is)

    outcomes_are : (rows : GuardedRows) (a : Action) (kind : Policy → Bool) →
        map (value_of (cell_in (row ∷ [])) users) (terms_where rows (λ p. applies set a p && kind p) policies)
        ≡ map (value_of (cell_named (own_scope t.definition) (cell_in (row ∷ []))) users) (conditions (clause_for rows) (filter kind (applicable db users.current t.definition a)))
    outcomes_are rows a kind =
        of_policies (own_scope t.definition) (cell_in (row ∷ [])) users rows (λ p. applies set a p && kind p) policies bound
        ∙ ap (λ ps. map (value_of (cell_named (own_scope t.definition) (cell_in (row ∷ []))) users) (conditions (clause_for rows) ps)) (applicable_are a kind)

    -- a formula has the value that the formula of the policies has
    formula_is : (rows : GuardedRows) (a : Action) (f : Formula) → IsFormulaOf set a rows policies f →
        formula_value users f (cells_of (row ∷ [])) ≡ value_on (own_scope t.definition) users (row ∷ []) (guard_formula (clause_for rows) (applicable db users.current t.definition a))
    formula_is rows a f is =
        let v = value_of (cell_in (row ∷ [])) users in
        let w = value_of (cell_named (own_scope t.definition) (cell_in (row ∷ []))) users in
        let those = applicable db users.current t.definition a in
        of_formula (cell_in (row ∷ [])) users (terms f.permissive) (terms f.restrictive)
        ∙ ap (λ ts. formula_outcome (map v ts) (map v (terms f.restrictive))) is.permissive
        ∙ ap (λ ts. formula_outcome (map v (terms_where rows (λ p. applies set a p && is_permissive p) policies)) (map v ts)) is.restrictive
        ∙ ap (λ os. formula_outcome os (map v (terms_where rows (λ p. applies set a p && not (is_permissive p)) policies))) (outcomes_are rows a is_permissive)
        ∙ ap (λ os. formula_outcome (map w (conditions (clause_for rows) (filter is_permissive those))) os) (outcomes_are rows a (λ p. not (is_permissive p)))
        ∙ sym (of_formula (cell_named (own_scope t.definition) (cell_in (row ∷ []))) users (conditions (clause_for rows) (filter is_permissive those)) (conditions (clause_for rows) (filter (λ p. not (is_permissive p)) those)))

    module _ (concerned : is_guarded db users.current t.definition ≡ true) where
      formula_guards : (rows : GuardedRows) (a : Action) (f : Formula) → IsFormulaOf set a rows policies f →
          formula_value users f (cells_of (row ∷ [])) ≡ guard db users t.definition a (clause_for rows) row
      formula_guards rows a f is =
          formula_is rows a f is
          ∙ ap (λ b. cond b (value_on (own_scope t.definition) users (row ∷ []) (guard_formula (clause_for rows) (applicable db users.current t.definition a))) (Ok (Boolean true))) (sym concerned)

      formulas_guard : (rows : GuardedRows) (a : Action) (reads : Bool) (fs : List Formula) → AreFormulasOf set a rows reads policies fs →
          row_guard users fs row ≡ with_select db users t.definition reads (guard db users t.definition a (clause_for rows)) row
      formulas_guard rows a false fs (f, is, e) =
          ap (λ gs. row_guard users gs row) e
          ∙ last_one (formula_value users f (cells_of (row ∷ [])))
          ∙ formula_guards rows a f is
      formulas_guard rows a true fs (f, g, is, also, e) =
          ap (λ gs. row_guard users gs row) e
          ∙ ap (λ o. formula_value users f (cells_of (row ∷ [])) >>= λ v. when_true v o (Ok v)) (last_one (formula_value users g (cells_of (row ∷ []))) ∙ formula_guards Existing action.Select g also)
          ∙ ap (λ o. o >>= λ v. when_true v (guard db users t.definition action.Select using_clause row) (Ok v)) (formula_guards rows a f is)

      existing_guards : (a : Action) (reads : Bool) (fs : List Formula) → AreExisting set policies a reads fs → row_guard users fs row ≡ existing_guard db users t.definition a reads row
      existing_guards action.Select reads fs are = formulas_guard Existing action.Select false fs are
      existing_guards action.Insert reads fs are = ap (λ gs. row_guard users gs row) are
      existing_guards action.Update reads fs are = formulas_guard Existing action.Update reads fs are
      existing_guards action.Delete reads fs are = formulas_guard Existing action.Delete reads fs are

      new_guards : (a : Action) (reads : Bool) (fs : List Formula) → AreNew set policies a reads fs → row_guard users fs row ≡ new_guard db users t.definition a reads row
      new_guards action.Insert reads fs are = formulas_guard New action.Insert false fs are
      new_guards action.Update reads fs are = formulas_guard New action.Update reads fs are
      new_guards action.Select reads fs are = ap (λ gs. row_guard users gs row) are
      new_guards action.Delete reads fs are = ap (λ gs. row_guard users gs row) are

-- ---- for every database, user and row

abbrev IsFor : Definitions → TableDefinition → TheName → List TheName → Bool → Type 0
IsFor d t role set b = guards_from set (find (is_role_named role) d.roles) t.definition ≡ b

module _ (d : Definitions) (t : TableDefinition) (role : TheName) (set : List TheName) (has : (s : TheName) → has_name s set ≡ is_in d.memberships role s) where
  knows : (db : Database) (users : UserNames) → Describes d db → Among t d.tables → users.current ≡ role → Knows d t set db users
  knows db users describes among user = record { described = describes; among = among; has = λ s. has s ∙ ap (λ n. is_in d.memberships n s) (sym user) }

  concerned_is : (db : Database) (users : UserNames) (row : Row) (b : Bool) → IsFor d t role set b → Describes d db → Among t d.tables → users.current ≡ role → is_guarded db users.current t.definition ≡ b
  concerned_is db users row b e describes among user =
      concerns d t set db users row (knows db users describes among user) b (ap (λ n. guards_from set (find (is_role_named n) d.roles) t.definition) user ∙ e)

  -- of a role that row security does not concern nothing is asked
  pub existing_unguarded : (a : Action) (reads : Bool) → IsFor d t role set false → MeansGuard d t role (existing_of a reads) []
  existing_unguarded a reads e db users row describes among user =
      sym (existing_pass d t set db users row (knows db users describes among user) (concerned_is db users row false e describes among user) a reads)

  pub new_unguarded : (a : Action) (reads : Bool) → IsFor d t role set false → MeansGuard d t role (new_of a reads) []
  new_unguarded a reads e db users row describes among user =
      sym (new_pass d t set db users row (knows db users describes among user) (concerned_is db users row false e describes among user) a reads)

  module _ (policies : List CataloguePolicy) (policies_are : policies_in policies ≡ t.policies) (bound : HasBoundPolicies t.definition policies) where
    pub existing_guarded : (a : Action) (reads : Bool) (fs : List Formula) → IsFor d t role set true → AreExisting set policies a reads fs → MeansGuard d t role (existing_of a reads) fs
    existing_guarded a reads fs e are db users row describes among user =
        existing_guards d t set db users row (knows db users describes among user) policies policies_are bound (concerned_is db users row true e describes among user) a reads fs are

    pub new_guarded : (a : Action) (reads : Bool) (fs : List Formula) → IsFor d t role set true → AreNew set policies a reads fs → MeansGuard d t role (new_of a reads) fs
    new_guarded a reads fs e are db users row describes among user =
        new_guards d t set db users row (knows db users describes among user) policies policies_are bound (concerned_is db users row true e describes among user) a reads fs are
