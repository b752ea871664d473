-- Privileges on columns: what supports what, and which columns a statement finds.
use Rattle.std.proofs.Common.{◌≡◌, ◌⊎◌, ◌&&◌, ℕ, Bool, true, List, [], ◌∷◌, position, Option, Some, None, Result, Ok, Err, refl, sym, ap, ◌∙◌, subst, inl, inr}
use Rattle.std.specs.List.{list_all}
use Rattle.std.proofs.lemmas.Bool.{and_from, and_parts}
use Rattle.sql_types.specs.declared.state.SqlState.{SqlState}
use Rattle.sql_types.specs.declared.state.SqlState.TheVariants.{UndefinedTable, UndefinedObject, UndefinedColumn}
use Rattle.sql_ast.specs.Layout.{Layout}
use Rattle.sql_ast.specs.declared.privilege.Grantee.{Grantee}
use Rattle.sql_ast.specs.declared.privilege.Privilege.{Privilege}
use Rattle.sql_ast.specs.declared.privilege.Descriptor.{Descriptor}
use Rattle.sql_ast.specs.declared.statement.Privileges.{Privileges}
use Rattle.expressions.specs.Stages.{◌>>=◌, require, each}
use Rattle.abstract_database.specs.Lists.{TheName, Among, found_or}
use Rattle.abstract_database.specs.Database.{TableOf, Database, has_role, definition_named}
use Rattle.abstract_database.specs.Privileges.{column_actions, on_column, is_column_named, indices_of, on_each, columns_named, privilege_of, is_for, is_same_role, supports, role_of}
use Rattle.abstract_database.specs.Checks.{find_definition, found_column, require_roles, grantee_roles, checked_grant, checked_revoke}
use Rattle.abstract_database.proofs.ResultLemmas.{bind_ok, ok_inside, each_to}
use Rattle.abstract_database.proofs.ElementLemmas.{among_at}
use Rattle.abstract_database.proofs.ListLemmas.{bytes_same}
use Rattle.database_laws.specs.ColumnPrivileges.{LeadsTo, by_one, by_more, all_on_columns_is_no_delete, HasColumn, HasColumnsNamed, LacksColumn, AreThere, grants_find_columns, revokes_find_columns, missing_columns_refuse_grants, missing_columns_refuse_revokes}
use Rattle.database_laws.proofs.ColumnLemmas.{column_found}
use Rattle.database_laws.proofs.HoldingLemmas.{is_one_for}
use Rattle.database_laws.proofs.UnitLemmas.{no_delete, column_action}
use Rattle.database_laws.proofs.WholeLists.{of_map, of_flat_map}
use Rattle.database_laws.proofs.WholePrivileges.{role_of_is}

-- ---- support

-- what is supported is on the column of what supports it, or that is on the table
step_column : (p q : Descriptor) → supports p q ≡ true → (p.column ≡ None) ⊎ (p.column ≡ q.column)
step_column p q e =
    let front = and_parts (is_for q.table (privilege_of q) p && p.grantable) (is_same_role p.grantee q.grantor) e in
    (is_one_for q.table (privilege_of q) p (and_parts (is_for q.table (privilege_of q) p) p.grantable front.0).0).column

on_one_column : (a b : Option ℕ) (index : ℕ) → (a ≡ None) ⊎ (a ≡ b) → a ≡ Some index → b ≡ Some index
on_one_column a b index (inl e) is = cc
on_one_column a b index (inr e) is = cc

on_the_table : (a b : Option ℕ) → (a ≡ None) ⊎ (a ≡ b) → b ≡ None → a ≡ None
on_the_table a b (inl e) is = e
on_the_table a b (inr e) is = e ∙ is

pub column_supported : (p q : Descriptor) (index : ℕ) → supports p q ≡ true → p.column ≡ Some index → q.column ≡ Some index
column_supported p q index e is = on_one_column p.column q.column index (step_column p q e) is

pub table_supported : (p q : Descriptor) → supports p q ≡ true → q.column ≡ None → p.column ≡ None
table_supported p q e is = on_the_table p.column q.column (step_column p q e) is

both_steps : (a b c : Option ℕ) → (a ≡ None) ⊎ (a ≡ b) → (b ≡ None) ⊎ (b ≡ c) → (a ≡ None) ⊎ (a ≡ c)
both_steps a b c (inl e) f = inl e
both_steps a b c (inr e) (inl f) = inl (e ∙ f)
both_steps a b c (inr e) (inr f) = inr (e ∙ f)

chain_column : (p q : Descriptor) → LeadsTo p q → (p.column ≡ None) ⊎ (p.column ≡ q.column)
chain_column p q (by_one r e) = step_column p q e
chain_column p q (by_more r s c e) = both_steps p.column r.column q.column (chain_column p r c) (step_column r q e)

one_column : (a b : Option ℕ) → (a ≡ None) ⊎ (a ≡ b) → (b ≡ None) ⊎ (b ≡ a) → a ≡ b
one_column a b (inr e) f = e
one_column a b (inl e) (inl f) = e ∙ sym f
one_column a b (inl e) (inr f) = sym f

pub cycle_column : (p q : Descriptor) → LeadsTo p q → LeadsTo q p → p.column ≡ q.column
cycle_column p q c d = one_column p.column q.column (chain_column p q c) (chain_column q p d)

-- ---- what ALL names

pub all_on_columns : all_on_columns_is_no_delete
all_on_columns layout names p h =
    let a = of_flat_map (on_each layout (Some names)) column_actions p h in
    let index = of_map (on_column a.0) (indices_of layout names) p a.2 in (
      λ e. no_delete a.0 names (column_action names a.0 a.1) (ap (λ (q : Privilege). q.action) index.2 ∙ e),
      (index.0, sym (ap (λ (q : Privilege). q.column) index.2)),
    )

-- ---- columns that are found

has_column : (t : TableOf) (name : TheName) (index : ℕ) → found_column t.layout name ≡ Ok index → HasColumn t name
has_column t name index e =
    let c = column_found t.layout name index e in
    (c.0, among_at t.layout.columns index c.0 c.1, bytes_same c.0.name name c.2)

-- the columns that a statement was checked for
abbrev Finds : Privileges → TableOf → Type 0
Finds named t = (l : List ℕ) × (each (found_column t.layout) (columns_named named) ≡ Ok l)

finds_all : (named : Privileges) (t : TableOf) → Finds named t → HasColumnsNamed t named
finds_all named t f name h = let at = each_to (found_column t.layout) (columns_named named) f.0 f.1 name h in has_column t name at.0 at.1

-- one column that is not there refuses
refused_columns_at : (layout : Layout) (n : TheName) (ns : List TheName) (name : TheName) (o : Option ℕ) → position (is_column_named n) layout.columns ≡ o → ((index : ℕ) → found_column layout name ≡ Ok index → ⊥) →
    (Among name ns → each (found_column layout) ns ≡ Err UndefinedColumn) → Among name (n ∷ ns) → (found_or UndefinedColumn o >>= λ y. each (found_column layout) ns >>= λ ys. Ok (y ∷ ys)) ≡ Err UndefinedColumn
refused_columns_at layout n ns name None e none go h = refl
refused_columns_at layout n ns name (Some index) e none go (inl is) = absurd (none index (sym (ap (found_column layout) is) ∙ ap (found_or UndefinedColumn) e))
refused_columns_at layout n ns name (Some index) e none go (inr later) = ap (λ r. r >>= λ ys. Ok (index ∷ ys)) (go later)

refused_columns : (layout : Layout) (names : List TheName) (name : TheName) → Among name names → ((index : ℕ) → found_column layout name ≡ Ok index → ⊥) → each (found_column layout) names ≡ Err UndefinedColumn
refused_columns layout [] name h none = absurd h
refused_columns layout (n ∷ ns) name h none = refused_columns_at layout n ns name (position (is_column_named n) layout.columns) refl none (λ later. refused_columns layout ns name later none) h

all_pass : {X : Type 0} (test : X → Bool) (xs : List X) → ((x : X) → Among x xs → test x ≡ true) → list_all test xs ≡ true
all_pass test [] h = refl
all_pass test (x ∷ xs) h = and_from (test x) (list_all test xs) (h x (inl refl)) (all_pass test xs (λ y k. h y (inr k)))

module _ (db : Database) (table : TheName) (t : TableOf) (grantees : List Grantee) (named : Privileges) (is : definition_named db table ≡ Some t) where
  abbrev after_columns : {A : Type 0} → (TableOf → Result A SqlState) → Result A SqlState
  after_columns go =
      find_definition db table >>= λ x.
      require_roles db (grantee_roles grantees) >>= λ roles.
      each (found_column x.layout) (columns_named named) >>= λ columns.
      go x

  checks_find : {A : Type 0} (go : TableOf → Result A SqlState) (a : A) → after_columns go ≡ Ok a → HasColumnsNamed t named
  checks_find go a e =
      let x = bind_ok (find_definition db table) _ a e in
      let roles = bind_ok (require_roles db (grantee_roles grantees)) _ a x.2 in
      let columns = bind_ok (each (found_column x.0.layout) (columns_named named)) _ a roles.2 in
      let same : x.0 ≡ t = ok_inside x.0 t (sym x.1 ∙ ap (found_or UndefinedTable) is) in
      subst (λ y. HasColumnsNamed y named) same (finds_all named x.0 (columns.0, columns.1))

  roles_there : AreThere db grantees → require_roles db (grantee_roles grantees) ≡ Ok tt
  roles_there there =
      ap (λ (b : Bool). require b UndefinedObject)
      (all_pass (has_role db) (grantee_roles grantees) (λ name h.
      let from = of_flat_map role_of grantees name h in there name (subst (λ g. Among g grantees) (role_of_is from.0 name from.2) from.1)))

  checks_refused : {A : Type 0} (go : TableOf → Result A SqlState) → AreThere db grantees → LacksColumn t named → after_columns go ≡ Err UndefinedColumn
  checks_refused go there lacks =
      ap (λ r. r >>= λ x. require_roles db (grantee_roles grantees) >>= λ roles. each (found_column x.layout) (columns_named named) >>= λ columns. go x) (ap (found_or UndefinedTable) is)
      ∙ ap (λ r. r >>= λ roles. each (found_column t.layout) (columns_named named) >>= λ columns. go t) (roles_there there)
      ∙ ap (λ r. r >>= λ columns. go t)
      (refused_columns t.layout (columns_named named) lacks.0 lacks.1 (λ index e. lacks.2 (has_column t lacks.0 index e)))

-- ---- the statements

pub grant_finds : grants_find_columns
grant_finds db users g t e s =
    let c = bind_ok (checked_grant db users g) _ e s.succeeds in
    checks_find db g.table t g.grantees g.privileges s.table_is _ c.0 c.1

pub revoke_finds : revokes_find_columns
revoke_finds db users r t e s =
    let c = bind_ok (checked_revoke db users r) _ e s.succeeds in
    checks_find db r.table t r.grantees r.privileges s.table_is _ c.0 c.1

refused_then : {A B : Type 0} (r : Result A SqlState) (go : A → Result B SqlState) (code : SqlState) → r ≡ Err code → (r >>= go) ≡ Err code
refused_then r go code e = ap (λ x. x >>= go) e

pub grant_refused : missing_columns_refuse_grants
grant_refused db users g t is there lacks =
    refused_then (checked_grant db users g) _ UndefinedColumn (checks_refused db g.table t g.grantees g.privileges is _ there lacks)

pub revoke_refused : missing_columns_refuse_revokes
revoke_refused db users r t is there lacks =
    refused_then (checked_revoke db users r) _ UndefinedColumn (checks_refused db r.table t r.grantees r.privileges is _ there lacks)
