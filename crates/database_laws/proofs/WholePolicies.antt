-- What is proved of the statements that define policies: databases stay whole, among the rest.
use Rattle.std.proofs.Common.{◌≡◌, ◌<◌, true, not, ◌&&◌, nat_le, List, [], ◌∷◌, length, fold, unwrap_or, Option, Some, None, IfSome, Ok, refl, sym, subst, inl, inr, Ordering, Less, Equal, Greater, arith, cond, is_eq, is_lt}
use Rattle.std.specs.List.{list_any}
use Rattle.std.proofs.lemmas.Bool.{and_parts, leb-true}
use Rattle.sql_types.specs.declared.state.SqlState.TheVariants.{DuplicateObject, ProgramLimitExceeded, UndefinedObject}
use Rattle.sql_types.specs.declared.tag.Tag.TheVariants as tag
use Rattle.sql_ast.specs.declared.columns.ColumnType.TheVariants.{Boolean}
use Rattle.sql_ast.specs.declared.role.Role.{Role}
use Rattle.sql_ast.specs.declared.privilege.Grantee.{Grantee}
use Rattle.sql_ast.specs.declared.privilege.Grantee.TheVariants as grantee
use Rattle.sql_ast.specs.declared.policy.Policy.{Policy}
use Rattle.sql_ast.specs.declared.policy.PolicyClause.{PolicyClause}
use Rattle.sql_ast.specs.declared.policy.PolicyRoles.{PolicyRoles}
use Rattle.sql_ast.specs.declared.policy.PolicyRoles.TheVariants as roles
use Rattle.sql_ast.specs.declared.statement.CreatePolicy.{CreatePolicy}
use Rattle.sql_ast.specs.declared.statement.DropPolicy.{DropPolicy}
use Rattle.sql_ast.specs.Rows.{max_value_length}
use Rattle.sql_ast.specs.Read.{IsReadCreatePolicy, AreGrantees}
use Rattle.expressions.specs.Meaning.{UserNames}
use Rattle.abstract_database.specs.Lists.{TheName, Among, Rising, name_cmp, put, the_new, drop_where}
use Rattle.abstract_database.specs.Database.{TableOf, Table, Database, is_policy_named, policy_cmp}
use Rattle.abstract_database.specs.Expressions.{own_scope}
use Rattle.abstract_database.specs.Sizes.{policy_size}
use Rattle.abstract_database.specs.Definitions.{with_grantee, policy_roles, policy_of, with_policy, without_policy}
use Rattle.abstract_database.specs.Statements.{done, create_policy, drop_policy}
use Rattle.abstract_database.specs.Whole.{Each, OneOf, IsRoleOf, max_policy_roles, ConcernsRoles, IsConditionOf, IsPolicyOf, IsWholePolicy, HasWholePolicies, IsWhole}
use Rattle.abstract_database.proofs.ResultLemmas.{Every, every_bind, every_ok, require_ok, each_to}
use Rattle.database_laws.proofs.PrivilegeLemmas.{names_total}
use Rattle.database_laws.proofs.WholeLists.{PutFrom, fresh, there, merged, of_put, of_drop, into_left, into_right}
use Rattle.database_laws.proofs.WholeRoles.{roles_required}
use Rattle.abstract_database.specs.Checks.{find_definition, require_roles, grantee_roles, clause_parts, policy_parts, has_few_roles, require_owner, checked_create_policy, checked_drop_policy}
use Rattle.expressions.specs.Parts.{Part, resolve_parts, check_expressions, check_type}
use Rattle.expressions.specs.Stages.{each, require}
use Rattle.database_laws.proofs.WholePrivileges.{table_found, in_grantee_roles}
use Rattle.sql_ast.specs.declared.statement.DatabaseStatement.TheVariants as on_database
use Rattle.sql_ast.specs.declared.statement.DefiningStatement.TheVariants as defining
use Rattle.expressions.specs.Names.{resolved}
use Rattle.database_laws.specs.Rights.{ActsAsOwnerOf}
use Rattle.database_laws.proofs.Defining.{IsWholeAside, WholeAfter, IsDefinition, definition}
use Rattle.database_laws.proofs.EffectLemmas.{done_answers}
use Rattle.abstract_database.proofs.RisingPuts.{put_rises}
use Rattle.database_laws.proofs.RisingLemmas.{policies_total, the_new_alike, dropped_rise}
use Rattle.database_laws.proofs.TableLemmas.{same_tables}
use Rattle.database_laws.proofs.WholeTexts.{fewer_known, one_more_known}
use Rattle.database_laws.proofs.RightLemmas.{Always, then, at_once, owner_checked}
use Rattle.database_laws.proofs.NotRefusedLemmas.{Spares, spares_bind, spares_other, spares_each, spares_names, spares_part, spares_table, spares_roles, spares_owner, duplicate, undefined, limited}
use Rattle.database_laws.proofs.StageLemmas.{found_same}

-- ---- policies in place of others

with_policies : (db : Database) (policies : List Policy) → IsWhole db → HasWholePolicies (record db { policies = policies }) → IsWholeAside (record db { policies = policies })
with_policies db policies w p = record {
  roles = record { roles = w.definitions.roles.roles; memberships = w.definitions.roles.memberships };
  tables = record { tables = w.definitions.tables.tables; few = w.definitions.tables.few };
  descriptors = record { descriptors = w.definitions.descriptors.descriptors; for_tables = w.definitions.descriptors.for_tables; owners = w.definitions.descriptors.owners };
  policies = p;
  rows = w.rows;
}

-- ---- the roles of a policy

-- roles of the database in rising order
abbrev AreGood : List Role → PolicyRoles → Type 0
AreGood all roles.Public = Unit {0}
AreGood all (roles.Only names) = Each (IsRoleOf all) names × Rising name_cmp names

abbrev AreNotNone : PolicyRoles → Type 0
AreNotNone roles.Public = Unit {0}
AreNotNone (roles.Only names) = 0 < length names

one_put : (all : List Role) (n : TheName) (names : List TheName) → IsRoleOf all n → Each (IsRoleOf all) names → Each (IsRoleOf all) (put name_cmp the_new n names)
one_put all n names is each m h = from (of_put name_cmp the_new n names m h) where
  from : PutFrom name_cmp the_new n names m → IsRoleOf all m
  from (fresh same) = subst (IsRoleOf all) same is
  from (there k) = each m k
  from (merged y k e same) = subst (IsRoleOf all) same is

some_put_at : (n y : TheName) (ys : List TheName) (o : Ordering) → 0 < length (cond (is_lt o) (n ∷ y ∷ ys) (cond (is_eq o) (the_new y n ∷ ys) (y ∷ put name_cmp the_new n ys)))
some_put_at n y ys Less = omega arith
some_put_at n y ys Equal = omega arith
some_put_at n y ys Greater = omega arith

some_put : (n : TheName) (names : List TheName) → 0 < length (put name_cmp the_new n names)
some_put n [] = omega arith
some_put n (y ∷ ys) = some_put_at n y ys (name_cmp n y)

good_with : (all : List Role) (r : PolicyRoles) (g : Grantee) → ((n : TheName) → g ≡ grantee.Role n → IsRoleOf all n) → AreGood all r → AreGood all (with_grantee r g)
good_with all roles.Public g f good = tt
good_with all (roles.Only names) grantee.Public f good = tt
good_with all (roles.Only names) (grantee.Role n) f good = (one_put all n names (f n refl) good.0, put_rises name_cmp names_total the_new (λ x y z e. names_total.congr x y z e) n names good.1)

some_with : (r : PolicyRoles) (g : Grantee) → AreNotNone (with_grantee r g)
some_with roles.Public g = tt
some_with (roles.Only names) grantee.Public = tt
some_with (roles.Only names) (grantee.Role n) = some_put n names

good_all : (all : List Role) (gs : List Grantee) (r : PolicyRoles) → ((n : TheName) → Among (grantee.Role n) gs → IsRoleOf all n) → AreGood all r → AreGood all (fold with_grantee r gs)
good_all all [] r f good = good
good_all all (g ∷ gs) r f good = good_all all gs (with_grantee r g) (λ n h. f n (inr h)) (good_with all r g (λ n e. f n (inl e)) good)

some_all : (gs : List Grantee) (r : PolicyRoles) → AreNotNone r → AreNotNone (fold with_grantee r gs)
some_all [] r some = some
some_all (g ∷ gs) r some = some_all gs (with_grantee r g) (some_with r g)

some_written : (gs : List Grantee) → 0 < length gs → AreNotNone (fold with_grantee (roles.Only []) gs)
some_written [] h = h
some_written (g ∷ gs) h = some_all gs (with_grantee (roles.Only []) g) (some_with (roles.Only []) g)

concerned : (all : List Role) (r : PolicyRoles) → AreGood all r → AreNotNone r → has_few_roles r ≡ true → ConcernsRoles all r
concerned all roles.Public good some few = tt
concerned all (roles.Only names) good some few = record { some = some; few = leb-true (length names) max_policy_roles few; known = good.0; rising = good.1 }

new_roles : (all : List Role) (gs : Option (List Grantee)) → IfSome gs AreGrantees → Each (IsRoleOf all) (grantee_roles (unwrap_or gs [])) → has_few_roles (policy_roles gs) ≡ true → ConcernsRoles all (policy_roles gs)
new_roles all None read known few = tt
new_roles all (Some gs) read known few =
    concerned all (fold with_grantee (roles.Only []) gs)
    (good_all all gs (roles.Only []) (λ n h. known n (in_grantee_roles gs n h)) (λ n h. absurd h, tt))
    (some_written gs read.some) few

-- ---- its conditions

condition_checked : (t : TableOf) (o : Option PolicyClause) → ((p : Part) → Among p (clause_parts t o) → (u : Unit {0}) × (check_type p ≡ Ok u)) → IfSome o (IsConditionOf t)
condition_checked t None f = tt
condition_checked t (Some c) f = (f (record { scope = own_scope t; term = c.expression; expected = Some Boolean }) (inl refl)).1

each_part : (parts : List Part) (l : List (Unit {0})) → check_expressions parts ≡ Ok l → (p : Part) → Among p parts → (u : Unit {0}) × (check_type p ≡ Ok u)
each_part parts l e p h = let at = each_to check_type parts l e p h in (at.0, at.1)

-- ---- CREATE POLICY

module _ (db : Database) (w : IsWhole db) (p : Policy) (whole : IsWholePolicy db.roles p) (of_table : OneOf (λ (t : Table). IsPolicyOf t.definition p) db.tables) where
  each_policy : (P : Policy → Type 0) → P p → Each P db.policies → Each P (put policy_cmp the_new p db.policies)
  each_policy P new each q h = from (of_put policy_cmp the_new p db.policies q h) where
    from : PutFrom policy_cmp the_new p db.policies q → P q
    from (fresh is) = subst P is new
    from (there k) = each q k
    from (merged y k e is) = subst P is new

  made_whole : IsWholeAside (with_policy p db)
  made_whole = with_policies db (put policy_cmp the_new p db.policies) w (record {
    policies = each_policy (IsWholePolicy db.roles) whole w.definitions.policies.policies;
    of_tables = each_policy (λ (q : Policy). OneOf (λ (t : Table). IsPolicyOf t.definition q) db.tables) of_table w.definitions.policies.of_tables;
  })

-- what CREATE POLICY was checked for
record PolicyFacts (db : Database) (s : CreatePolicy) (u : Unit {0}) : Type 0 where
  table : TableOf
  found : find_definition db s.table ≡ Ok table
  known : Each (IsRoleOf db.roles) (grantee_roles (unwrap_or s.grantees []))
  typed : (p : Part) → Among p (policy_parts table s) → (v : Unit {0}) × (check_type p ≡ Ok v)
  few : has_few_roles (policy_of s).roles ≡ true
  small : nat_le (policy_size (policy_of s)) max_value_length ≡ true

policy_facts : (db : Database) (users : UserNames) (s : CreatePolicy) → Every (PolicyFacts db s) (checked_create_policy db users s)
policy_facts db users s =
    every_bind (PolicyFacts db s) (find_definition db s.table) _ (λ table table-is.
    every_bind (PolicyFacts db s) (require_roles db (grantee_roles (unwrap_or s.grantees []))) _ (λ named named-is.
    every_bind (PolicyFacts db s) (require (not (list_any (is_policy_named s.table s.policy) db.policies)) DuplicateObject) _ (λ new new-is.
    every_bind (PolicyFacts db s) (resolve_parts (policy_parts table s)) _ (λ found found-is.
    every_bind (PolicyFacts db s) (check_expressions (policy_parts table s)) _ (λ typed typed-is.
    every_bind (PolicyFacts db s) (require_owner db users table) _ (λ allowed allowed-is.
    λ small small-is.
    let limits = and_parts (has_few_roles (policy_of s).roles) (nat_le (policy_size (policy_of s)) max_value_length) (require_ok (has_few_roles (policy_of s).roles && nat_le (policy_size (policy_of s)) max_value_length) ProgramLimitExceeded small small-is) in
    record {
      table = table;
      found = table-is;
      known = roles_required db (grantee_roles (unwrap_or s.grantees [])) named named-is;
      typed = each_part (policy_parts table s) typed typed-is;
      few = limits.0;
      small = limits.1;
    }))))))

pub create_policy_whole : (db : Database) (users : UserNames) (s : CreatePolicy) → IsReadCreatePolicy s → IsWhole db → Every WholeAfter (create_policy db users s)
create_policy_whole db users s read w =
    every_bind WholeAfter (checked_create_policy db users s) _ (λ free free-is.
    let f = policy_facts db users s free free-is in
    let at = table_found db s.table f.table f.found in
    every_ok WholeAfter (done tag.CreatePolicy (with_policy (policy_of s) db))
    (made_whole db w (policy_of s)
    (record {
      name = read.policy;
      roles = new_roles db.roles s.grantees read.grantees f.known f.few;
      using = read.using;
      check = read.check;
      clauses = read.clauses;
      size = leb-true (policy_size (policy_of s)) max_value_length f.small;
    }) (
      at.table,
      at.there,
      subst (λ d. IsPolicyOf d (policy_of s)) (sym at.is) (record {
        table = sym at.own;
        using = condition_checked f.table s.using (λ p h. f.typed p (into_left (clause_parts f.table s.using) (clause_parts f.table s.check) p h));
        check = condition_checked f.table s.check (λ p h. f.typed p (into_right (clause_parts f.table s.using) (clause_parts f.table s.check) p h));
      }),
    )))

-- ---- DROP POLICY

pub drop_policy_whole : (db : Database) (users : UserNames) (s : DropPolicy) → IsWhole db → Every WholeAfter (drop_policy db users s)
drop_policy_whole db users s w =
    every_bind WholeAfter (checked_drop_policy db users s) _ (λ free free-is.
    every_ok WholeAfter (done tag.DropPolicy (without_policy s.table s.policy db))
    (with_policies db (drop_where (is_policy_named s.table s.policy) db.policies) w (record {
      policies = λ p h. w.definitions.policies.policies p (of_drop (is_policy_named s.table s.policy) db.policies p h).0;
      of_tables = λ p h. w.definitions.policies.of_tables p (of_drop (is_policy_named s.table s.policy) db.policies p h).0;
    })))

-- ---- what is proved of these statements

module _ (db : Database) (users : UserNames) where
  create_policy_may : (s : CreatePolicy) → Always (ActsAsOwnerOf db users.current s.table) (checked_create_policy db users s)
  create_policy_may s =
      then _ (find_definition db s.table) _ (λ t t-is.
      then _ (require_roles db (grantee_roles (unwrap_or s.grantees []))) _ (λ named named-is.
      then _ (require (not (list_any (is_policy_named s.table s.policy) db.policies)) DuplicateObject) _ (λ new new-is.
      then _ (resolve_parts (policy_parts t s)) _ (λ found found-is.
      then _ (check_expressions (policy_parts t s)) _ (λ typed typed-is.
      at_once _ (require_owner db users t) _ (λ u e. owner_checked db users s.table t u t-is e))))))

  spares_create_policy : (s : CreatePolicy) → ActsAsOwnerOf db users.current s.table → Spares (checked_create_policy db users s)
  spares_create_policy s may =
      spares_bind (find_definition db s.table) _ (spares_table db users s.table) (λ t t-is.
      spares_bind (require_roles db (grantee_roles (unwrap_or s.grantees []))) _ (spares_roles db users (grantee_roles (unwrap_or s.grantees []))) (λ named named-is.
      spares_bind (require (not (list_any (is_policy_named s.table s.policy) db.policies)) DuplicateObject) _ (spares_other _ DuplicateObject duplicate) (λ new new-is.
      spares_bind (resolve_parts (policy_parts t s)) _ (spares_each (λ p. resolved p.scope p.term) (λ p. spares_names p.scope p.term) (policy_parts t s)) (λ found found-is.
      spares_bind (check_expressions (policy_parts t s)) _ (spares_each check_type spares_part (policy_parts t s)) (λ typed typed-is.
      spares_bind (require_owner db users t) _ (spares_owner db users s.table may t t-is) (λ allowed allowed-is.
      spares_other _ ProgramLimitExceeded limited))))))

  pub create_policy_definition : (s : CreatePolicy) → IsDefinition db users (defining.CreatePolicy s)
  create_policy_definition s = definition db users (defining.CreatePolicy s)
      (λ d. checked_create_policy d users s) (λ d free. done tag.CreatePolicy (with_policy (policy_of s) d)) (record {
        is = λ d. refl;
        lawful = λ free free-is. record {
          answers = done_answers tag.CreatePolicy (with_policy (policy_of s) db);
          ordered = λ o. record {
            roles = o.roles;
            memberships = o.memberships;
            tables = o.tables;
            descriptors = o.descriptors;
            policies = put_rises policy_cmp policies_total the_new (the_new_alike policy_cmp policies_total) _ db.policies o.policies;
          };
          tables = same_tables db;
          known = one_more_known db (on_database.Defining (defining.CreatePolicy s)) (policy_of s) (λ c h. h);
        };
        whole = λ read w are. create_policy_whole db users s read w;
        may = create_policy_may s;
        spared = spares_create_policy s;
        same_checks = found_same db s.table _;
        same_effect = λ free. refl;
      })

  pub drop_policy_definition : (s : DropPolicy) → IsDefinition db users (defining.DropPolicy s)
  drop_policy_definition s = definition db users (defining.DropPolicy s)
      (λ d. checked_drop_policy d users s) (λ d free. done tag.DropPolicy (without_policy s.table s.policy d)) (record {
        is = λ d. refl;
        lawful = λ free free-is. record {
          answers = done_answers tag.DropPolicy (without_policy s.table s.policy db);
          ordered = λ o. record {
            roles = o.roles;
            memberships = o.memberships;
            tables = o.tables;
            descriptors = o.descriptors;
            policies = dropped_rise policy_cmp (is_policy_named s.table s.policy) db.policies o.policies;
          };
          tables = same_tables db;
          known = fewer_known db (on_database.Defining (defining.DropPolicy s)) (is_policy_named s.table s.policy);
        };
        whole = λ read w are. drop_policy_whole db users s w;
        may =
            then _ (find_definition db s.table) _ (λ t t-is.
            then _ (require (list_any (is_policy_named s.table s.policy) db.policies) UndefinedObject) _ (λ named named-is u e.
            owner_checked db users s.table t u t-is e));
        spared = λ may.
            spares_bind (find_definition db s.table) _ (spares_table db users s.table) (λ t t-is.
            spares_bind (require (list_any (is_policy_named s.table s.policy) db.policies) UndefinedObject) _ (spares_other _ UndefinedObject undefined) (λ named named-is.
            spares_owner db users s.table may t t-is));
        same_checks = found_same db s.table _;
        same_effect = λ free. refl;
      })
