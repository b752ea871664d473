-- What a defining statement leaves of the rows of each name, over two databases of the same definitions.
use Rattle.std.proofs.Common.{◌≡◌, ◌⊎◌, ◌&&◌, Bool, true, false, find, bytes_eq, List, [], Result, Ok, refl, sym, ap, ◌∙◌, subst, inl, inr}
use Rattle.std.specs.List.{list_any}
use Rattle.std.proofs.lemmas.Bool.{or_left}
use Rattle.sql_types.specs.declared.state.SqlState.{SqlState}
use Rattle.sql_ast.specs.declared.role.Membership.{Membership}
use Rattle.sql_ast.specs.declared.privilege.Descriptor.{Descriptor}
use Rattle.sql_ast.specs.declared.statement.DefiningStatement.{DefiningStatement}
use Rattle.sql_ast.specs.declared.statement.DefiningStatement.TheVariants as defining
use Rattle.sql_ast.specs.declared.statement.GrantRole.{GrantRole}
use Rattle.sql_ast.specs.declared.statement.RevokeRole.{RevokeRole}
use Rattle.sql_ast.specs.declared.statement.CreateTable.{CreateTable}
use Rattle.sql_ast.specs.declared.statement.DropTable.{DropTable}
use Rattle.sql_ast.specs.declared.statement.AlterTable.{AlterTable}
use Rattle.sql_ast.specs.declared.statement.Grant.{Grant}
use Rattle.sql_ast.specs.declared.statement.Revoke.{Revoke}
use Rattle.expressions.specs.Meaning.{UserNames}
use Rattle.expressions.specs.Stages.{◌>>=◌}
use Rattle.abstract_database.specs.Lists.{TheName, Among}
use Rattle.abstract_database.specs.Database.{Table, Database, is_table_named, is_role_named, rows_in, rows_named, without_rows}
use Rattle.abstract_database.specs.Roles.{IsIn, is_superuser, IsSuperuser}
use Rattle.abstract_database.specs.Privileges.{reaches, owner_descriptors, granted_by, privileges_of, with_descriptors}
use Rattle.abstract_database.specs.Definitions.{with_table, without_table, with_table_changed, with_row_security, policy_of, with_policy, without_policy}
use Rattle.abstract_database.specs.Statements.{Effect, UserPair, as_seen, define}
use Rattle.abstract_database.proofs.ElementLemmas.{any_holds}
use Rattle.abstract_database.proofs.ListLemmas.{bytes_same, same_bytes}
use Rattle.database_laws.specs.HiddenRuns.{MayActAs}
use Rattle.database_laws.specs.Rights.{MayGrantRole}
use Rattle.database_laws.proofs.EachDefinition.{each_definition}
use Rattle.database_laws.proofs.StageLemmas.{bared}
use Rattle.database_laws.proofs.WholeLists.{of_drop}
use Rattle.database_laws.proofs.MembershipLemmas.{given_alone, none_taken, others_left, memberships_taken, options_cleared}
use Rattle.privilege_laws.specs.Reached.{IsReachedTable}
use Rattle.privilege_laws.proofs.Chains.{handed_on, one_more}
use Rattle.privilege_laws.proofs.Reach.{reached_itself, reached_before, reached_with_roles}
use Rattle.privilege_laws.proofs.DefinedRows.{new_rows, beside_new, dropped_rows, beside_dropped, WasIn, granted_beside, owners_beside, granted_elsewhere, GrantLeaves, grant_leaves, RevokeLeaves, revoke_leaves, CreateTableLeaves, create_table_leaves, drop_table_leaves, alter_table_leaves, altered_rows, create_policy_leaves, drop_policy_leaves, create_role_keeps, drop_role_keeps}

module _ (pairs : UserPair → Bool) (d e : Database) (same : without_rows d ≡ without_rows e) (pair : UserPair) (may : MayActAs d pairs pair) where
  abbrev pub users : UserNames
  users = as_seen pair d

  -- the rows of a name are as before, and whoever reaches them did; or there are none
  pub data Stay (a b : Database) (name : TheName) : Type 0 where
    are_as_before : (IsReachedTable pairs a name → IsReachedTable pairs d name) → (rows_named d name ≡ rows_named e name → rows_named a name ≡ rows_named b name) → Stay a b name
    are_none : rows_named a name ≡ [] → rows_named b name ≡ [] → Stay a b name

  as_before : (a b : Database) (name : TheName) → rows_named a name ≡ rows_named d name → rows_named b name ≡ rows_named e name → (IsReachedTable pairs a name → IsReachedTable pairs d name) → Stay a b name
  as_before a b name on_d on_e reached = are_as_before reached (λ rows. on_d ∙ rows ∙ sym on_e)

  same_tables : (a b : Database) (name : TheName) → a.tables ≡ d.tables → b.tables ≡ e.tables → (IsReachedTable pairs a name → IsReachedTable pairs d name) → Stay a b name
  same_tables a b name on_d on_e reached =
      as_before a b name (ap (λ (ts : List Table). rows_in (find (is_table_named name) ts)) on_d) (ap (λ (ts : List Table). rows_in (find (is_table_named name) ts)) on_e) reached

  super_of : IsSuperuser d pair.current → is_superuser d pair.current ≡ true
  super_of found = any_holds (λ r. is_role_named pair.current r && r.attributes.superuser) d.roles found.0 found.1
      (ap (λ (b : Bool). b && found.0.attributes.superuser) (same_bytes found.0.name pair.current found.2) ∙ found.3)

  reaches_by : is_superuser d pair.current ≡ true → (name : TheName) → IsReachedTable pairs d name
  reaches_by super name = reached_itself pairs d pair may name (or_left (is_superuser d pair.current) (list_any (λ (x : Descriptor). bytes_eq x.table name && reaches d.memberships pair.current x.grantee) d.descriptors) super)

  reaches_each : IsSuperuser d pair.current → (name : TheName) → IsReachedTable pairs d name
  reaches_each super name = reaches_by (super_of super) name

  -- over the other database the users are the same
  users_there : (x : DefiningStatement) (q : Effect) → define e users x ≡ Ok q → define e (as_seen pair e) x ≡ Ok q
  users_there x q is = ap (λ (db : Database). define e (as_seen pair db) x) (sym same) ∙ is

  -- what was there for the table before, with the same roles and memberships
  reached_from : (a : Database) → a.roles ≡ d.roles → a.memberships ≡ d.memberships → (name : TheName) → ((x : Descriptor) → Among x a.descriptors → bytes_eq x.table name ≡ true → WasIn d.descriptors x) → IsReachedTable pairs a name → IsReachedTable pairs d name
  reached_from a roles memberships name were = reached_before d a roles memberships name were pairs

  all_there : (x : Descriptor) → Among x d.descriptors → WasIn d.descriptors x
  all_there x h = (x, h, refl, refl)

  -- ---- memberships

  -- whoever is in a role afterwards was in it, or the acting role was
  abbrev ComeFrom : Database → Type 0
  ComeFrom a = (x y : TheName) → IsIn a.memberships x y → IsIn d.memberships x y ⊎ IsIn d.memberships pair.current y

  reached_with : (a : Database) → a.roles ≡ d.roles → a.descriptors ≡ d.descriptors → ComeFrom a → (name : TheName) → IsReachedTable pairs a name → IsReachedTable pairs d name
  reached_with a roles descriptors come name = reached_with_roles d a roles descriptors pair.current come pairs pair may refl name

  granted_come : (s : GrantRole) (p : Effect) → define d users (defining.GrantRole s) ≡ Ok p → ((granted : TheName) → Among granted s.roles → IsIn d.memberships pair.current granted) → ComeFrom p.database
  granted_come s p is administers x y within =
      handed_on (λ (n : TheName). IsIn d.memberships x n ⊎ IsIn d.memberships pair.current n) p.database.memberships
      (λ m among before. elim (given_alone d pair s p is m among) [
        | inl old ↦ elim before [ inl own ↦ inl (one_more d.memberships x m old own) | inr acting ↦ inr (one_more d.memberships pair.current m old acting) ]
        | inr named ↦ inr (administers m.role named.0.0)
      ])
      x (inl (inl refl)) y within

  -- one who administers a role is in it
  grants_own : (granted : TheName) → MayGrantRole d pair.current granted → IsSuperuser d pair.current ⊎ IsIn d.memberships pair.current granted
  grants_own granted (inl super) = inl super
  grants_own granted (inr other) =
      let m = other.1.0 in
      inr (subst (λ (n : TheName). IsIn d.memberships pair.current n) other.1.2 (one_more d.memberships pair.current m other.1.1 other.1.4))

  abbrev Was : Membership → Type 0
  Was m = (o : Membership) × Among o d.memberships × (o.role ≡ m.role) × (o.member ≡ m.member)

  revoked_come : (s : RevokeRole) (p : Effect) → define d users (defining.RevokeRole s) ≡ Ok p → (x y : TheName) → IsIn p.database.memberships x y → IsIn d.memberships x y
  revoked_come s p is x y within = handed_on (IsIn d.memberships x) p.database.memberships (λ m among before. from m (was s.admin_option_for refl m among) before) x (inl refl) y within where
    was : (b : Bool) → s.admin_option_for ≡ b → (m : Membership) → Among m p.database.memberships → Was m
    was false off m among = let kept = (memberships_taken d pair s p off is m).0 among in (m, kept.0, refl, refl)
    was true on m among = elim ((options_cleared d pair s p on is m).0 among) [
      | inl kept ↦ (m, kept.0, refl, refl)
      | inr lost ↦ (lost.old, lost.was_there, sym (ap (λ (o : Membership). o.role) lost.is), sym (ap (λ (o : Membership). o.member) lost.is))
    ]

    from : (m : Membership) → Was m → IsIn d.memberships x m.member → IsIn d.memberships x m.role
    from m w before = subst (λ (n : TheName). IsIn d.memberships x n) w.2 (one_more d.memberships x w.0 w.1 (subst (λ (n : TheName). IsIn d.memberships x n) (sym w.3) before))

  -- ---- each statement

  abbrev pub Carried : DefiningStatement → Type 0
  Carried x = (p q : Effect) → define d users x ≡ Ok p → define e users x ≡ Ok q → (name : TheName) → Stay p.database q.database name

  created_table : (s : CreateTable) → Carried (defining.CreateTable s)
  created_table s p q on_d on_e name = at (create_table_leaves d users s p on_d) (create_table_leaves e users s q on_e) where
    at : CreateTableLeaves d users s p → CreateTableLeaves e users s q → Stay p.database q.database name
    at m n = by (bytes_eq s.table name) refl where
      by : (b : Bool) → bytes_eq s.table name ≡ b → Stay p.database q.database name
      by true own =
          let one : s.table ≡ name = bytes_same s.table name own in
          are_none
          (ap (λ (x : Database). rows_named x name) m.1.1 ∙ subst (λ (n : TheName). rows_named (with_table s.table users.current m.1.0 d) n ≡ []) one (new_rows s.table users.current m.1.0 d m.0))
          (ap (λ (x : Database). rows_named x name) n.1.1 ∙ subst (λ (t : TheName). rows_named (with_table s.table users.current n.1.0 e) t ≡ []) one (new_rows s.table users.current n.1.0 e n.0))
      by false apart = as_before p.database q.database name
          (ap (λ (x : Database). rows_named x name) m.1.1 ∙ beside_new s.table users.current name m.1.0 d apart)
          (ap (λ (x : Database). rows_named x name) n.1.1 ∙ beside_new s.table users.current name n.1.0 e apart)
          (subst (λ (x : Database). IsReachedTable pairs x name → IsReachedTable pairs d name) (sym m.1.1)
          (reached_from (with_table s.table users.current m.1.0 d) refl refl name
          (λ x h of. granted_beside name (owner_descriptors s.table users.current) d.descriptors x h of (owners_beside name s.table users.current apart))))

  dropped_table : (s : DropTable) → Carried (defining.DropTable s)
  dropped_table s p q on_d on_e name = by (bytes_eq name s.table) refl where
    at_d : p.database ≡ without_table s.table d
    at_d = drop_table_leaves d users s p on_d

    at_e : q.database ≡ without_table s.table e
    at_e = drop_table_leaves e users s q on_e

    by : (b : Bool) → bytes_eq name s.table ≡ b → Stay p.database q.database name
    by true own =
        let one : s.table ≡ name = sym (bytes_same name s.table own) in
        are_none
        (ap (λ (x : Database). rows_named x name) at_d ∙ subst (λ (n : TheName). rows_named (without_table s.table d) n ≡ []) one (dropped_rows s.table d))
        (ap (λ (x : Database). rows_named x name) at_e ∙ subst (λ (n : TheName). rows_named (without_table s.table e) n ≡ []) one (dropped_rows s.table e))
    by false apart = as_before p.database q.database name
        (ap (λ (x : Database). rows_named x name) at_d ∙ beside_dropped s.table name d apart)
        (ap (λ (x : Database). rows_named x name) at_e ∙ beside_dropped s.table name e apart)
        (subst (λ (x : Database). IsReachedTable pairs x name → IsReachedTable pairs d name) (sym at_d)
        (reached_from (without_table s.table d) refl refl name (λ x h of. all_there x (of_drop (λ (y : Descriptor). bytes_eq y.table s.table) d.descriptors x h).0)))

  altered_table : (s : AlterTable) → Carried (defining.AlterTable s)
  altered_table s p q on_d on_e name =
      as_before p.database q.database name (altered_rows d pair s p name on_d) (altered_rows e pair s q name (users_there (defining.AlterTable s) q on_e))
      (subst (λ (x : Database). IsReachedTable pairs x name → IsReachedTable pairs d name) (sym (alter_table_leaves d users s p on_d))
      (reached_from (with_table_changed s.table (with_row_security s.change) d) refl refl name (λ x h of. all_there x h)))

  granted_so : (s : Grant) → Carried (defining.Grant s)
  granted_so s p q on_d on_e name = at (grant_leaves d users s p on_d) (grant_leaves e users s q on_e) where
    at : GrantLeaves d users s p → GrantLeaves e users s q → Stay p.database q.database name
    at m n = by (bytes_eq m.0.name name) refl where
      reached : (b : Bool) → bytes_eq m.0.name name ≡ b → IsReachedTable pairs p.database name → IsReachedTable pairs d name
      reached true own = λ r. subst (IsReachedTable pairs d) (sym m.1 ∙ bytes_same m.0.name name own) (reached_itself pairs d pair may s.table m.2)
      reached false apart = subst (λ (x : Database). IsReachedTable pairs x name → IsReachedTable pairs d name) (sym m.3)
          (reached_from (record d { descriptors = with_descriptors (granted_by d users.current m.0 (privileges_of m.0.layout s.privileges) s.grantees s.with_grant_option) d.descriptors }) refl refl name
          (λ x h of. granted_beside name (granted_by d users.current m.0 (privileges_of m.0.layout s.privileges) s.grantees s.with_grant_option) d.descriptors x h of (granted_elsewhere d users s m.0 name apart)))

      by : (b : Bool) → bytes_eq m.0.name name ≡ b → Stay p.database q.database name
      by b is = same_tables p.database q.database name (ap (λ (x : Database). x.tables) m.3) (ap (λ (x : Database). x.tables) n.3) (reached b is)

  revoked_so : (s : Revoke) → Carried (defining.Revoke s)
  revoked_so s p q on_d on_e name = at (revoke_leaves d users s p on_d) (revoke_leaves e users s q on_e) where
    at : RevokeLeaves d p → RevokeLeaves e q → Stay p.database q.database name
    at m n = same_tables p.database q.database name (ap (λ (x : Database). x.tables) m.2) (ap (λ (x : Database). x.tables) n.2)
        (subst (λ (x : Database). IsReachedTable pairs x name → IsReachedTable pairs d name) (sym m.2) (reached_from (record d { descriptors = m.0 }) refl refl name (λ x h of. m.1 x h)))

  granted_role : (s : GrantRole) → Carried (defining.GrantRole s)
  granted_role s p q on_d on_e name = at (list_any_super (is_superuser d pair.current) refl) where
    after_d : p.database ≡ record d { memberships = p.database.memberships }
    after_d = (none_taken d pair s p on_d).1

    after_e : q.database ≡ record e { memberships = q.database.memberships }
    after_e = (none_taken e pair s q (users_there (defining.GrantRole s) q on_e)).1

    list_any_super : (b : Bool) → is_superuser d pair.current ≡ b → (is_superuser d pair.current ≡ true) ⊎ (is_superuser d pair.current ≡ false)
    list_any_super true is = inl is
    list_any_super false is = inr is

    own_of : is_superuser d pair.current ≡ false → (granted : TheName) → IsSuperuser d pair.current ⊎ IsIn d.memberships pair.current granted → IsIn d.memberships pair.current granted
    own_of not_super granted (inl super) = let contrary : true ≡ false = sym (super_of super) ∙ not_super in cc
    own_of not_super granted (inr within) = within

    at : (is_superuser d pair.current ≡ true) ⊎ (is_superuser d pair.current ≡ false) → Stay p.database q.database name
    at (inl super) = same_tables p.database q.database name (ap (λ (x : Database). x.tables) after_d) (ap (λ (x : Database). x.tables) after_e) (λ r. reaches_by super name)
    at (inr not_super) = same_tables p.database q.database name (ap (λ (x : Database). x.tables) after_d) (ap (λ (x : Database). x.tables) after_e)
        (reached_with p.database (ap (λ (x : Database). x.roles) after_d) (ap (λ (x : Database). x.descriptors) after_d)
        (granted_come s p on_d (λ granted h. own_of not_super granted (grants_own granted ((each_definition d users (defining.GrantRole s)).may p on_d granted h)))) name)

  revoked_role : (s : RevokeRole) → Carried (defining.RevokeRole s)
  revoked_role s p q on_d on_e name =
      let after_d = others_left d pair s p on_d in
      let after_e = others_left e pair s q (users_there (defining.RevokeRole s) q on_e) in
      same_tables p.database q.database name (ap (λ (x : Database). x.tables) after_d) (ap (λ (x : Database). x.tables) after_e)
      (reached_with p.database (ap (λ (x : Database). x.roles) after_d) (ap (λ (x : Database). x.descriptors) after_d) (λ x y within. inl (revoked_come s p on_d x y within)) name)

  pub carried : (x : DefiningStatement) → Carried x
  carried (defining.CreateRole s) p q on_d on_e name =
      same_tables p.database q.database name (create_role_keeps d users s p on_d) (create_role_keeps e users s q on_e) (λ r. reaches_each ((each_definition d users (defining.CreateRole s)).may p on_d) name)
  carried (defining.DropRole s) p q on_d on_e name =
      same_tables p.database q.database name (drop_role_keeps d users s p on_d) (drop_role_keeps e users s q on_e) (λ r. reaches_each ((each_definition d users (defining.DropRole s)).may p on_d) name)
  carried (defining.GrantRole s) p q on_d on_e name = granted_role s p q on_d on_e name
  carried (defining.RevokeRole s) p q on_d on_e name = revoked_role s p q on_d on_e name
  carried (defining.CreateTable s) p q on_d on_e name = created_table s p q on_d on_e name
  carried (defining.DropTable s) p q on_d on_e name = dropped_table s p q on_d on_e name
  carried (defining.AlterTable s) p q on_d on_e name = altered_table s p q on_d on_e name
  carried (defining.CreatePolicy s) p q on_d on_e name =
      let m = create_policy_leaves d users s p on_d in
      same_tables p.database q.database name (ap (λ (x : Database). x.tables) m) (ap (λ (x : Database). x.tables) (create_policy_leaves e users s q on_e))
      (subst (λ (x : Database). IsReachedTable pairs x name → IsReachedTable pairs d name) (sym m) (reached_from (with_policy (policy_of s) d) refl refl name (λ x h of. all_there x h)))
  carried (defining.DropPolicy s) p q on_d on_e name =
      let m = drop_policy_leaves d users s p on_d in
      same_tables p.database q.database name (ap (λ (x : Database). x.tables) m) (ap (λ (x : Database). x.tables) (drop_policy_leaves e users s q on_e))
      (subst (λ (x : Database). IsReachedTable pairs x name → IsReachedTable pairs d name) (sym m) (reached_from (without_policy s.table s.policy d) refl refl name (λ x h of. all_there x h)))
  carried (defining.Grant s) p q on_d on_e name = granted_so s p q on_d on_e name
  carried (defining.Revoke s) p q on_d on_e name = revoked_so s p q on_d on_e name

  -- ---- refused alike, or carried out alike

  abbrev pub BareAlike : Result Effect SqlState → Result Effect SqlState → Type 0
  BareAlike r k = (r >>= λ x. Ok (bared x)) ≡ (k >>= λ x. Ok (bared x))

  pub bare_alike : (x : DefiningStatement) → BareAlike (define d users x) (define e users x)
  bare_alike x = sym (each_definition d users x).apart ∙ ap (λ (y : Database). define y users x) same ∙ (each_definition e users x).apart
