-- What CREATE POLICY and DROP POLICY leave.
use Rattle.std.proofs.Common.{◌≡◌, ◌⊎◌, ◌↔◌, true, false, not, List, [], ◌∷◌, fold, bytes_eq, unwrap_or, Option, Some, None, Ok, refl, sym, ap, subst, inl, inr, Ordering, Less, Equal, Greater}
use Rattle.std.specs.List.{list_any}
use Rattle.std.specs.Ordering.{ordering_then}
use Rattle.std.proofs.lemmas.Bool.{and_parts, both_ways, not-true}
use Rattle.sql_types.specs.declared.state.SqlState.TheVariants.{DuplicateObject}
use Rattle.sql_ast.specs.declared.privilege.Grantee.{Grantee}
use Rattle.sql_ast.specs.declared.privilege.Grantee.TheVariants as grantee
use Rattle.sql_ast.specs.declared.policy.Policy.{Policy}
use Rattle.sql_ast.specs.declared.policy.PolicyRoles.{PolicyRoles}
use Rattle.sql_ast.specs.declared.policy.PolicyRoles.TheVariants as roles
use Rattle.sql_ast.specs.declared.statement.CreatePolicy.{CreatePolicy}
use Rattle.expressions.specs.Meaning.{UserNames}
use Rattle.expressions.specs.Stages.{require}
use Rattle.abstract_database.specs.Lists.{TheName, Among, name_cmp, put, the_new}
use Rattle.abstract_database.specs.Database.{Database, is_policy_named, policy_cmp}
use Rattle.abstract_database.specs.Definitions.{with_grantee, policy_roles, policy_of}
use Rattle.abstract_database.specs.Checks.{find_definition, require_roles, grantee_roles, checked_create_policy, checked_drop_policy}
use Rattle.abstract_database.specs.Statements.{as_seen}
use Rattle.abstract_database.proofs.ElementLemmas.{any_holds}
use Rattle.abstract_database.proofs.ListLemmas.{bytes_same, same_bytes}
use Rattle.abstract_database.proofs.ResultLemmas.{bind_ok, require_ok}
use Rattle.database_laws.specs.Definitions.{AreRolesBy, AddsPolicy, DropsPolicy, create_policy_adds_it, drop_policy_takes_it}
use Rattle.database_laws.proofs.Defining.{done_by}
use Rattle.database_laws.proofs.WholeLists.{PutFrom, fresh, there, merged, of_put, put_old, put_new}
use Rattle.database_laws.proofs.WholeRoles.{names_same}
use Rattle.database_laws.proofs.RoleLemmas.{one_new, some_gone}

-- ---- the roles of a policy

of_name_put : (n : TheName) (names : List TheName) (m : TheName) → PutFrom name_cmp the_new n names m → Among m names ⊎ (m ≡ n)
of_name_put n names m (fresh is) = inr (sym is)
of_name_put n names m (there h) = inl h
of_name_put n names m (merged y h e is) = inr (sym is)

into_name_put : (n : TheName) (names : List TheName) (m : TheName) → Among m names ⊎ (m ≡ n) → Among m (put name_cmp the_new n names)
into_name_put n names m (inl h) = elim (put_old name_cmp the_new n names m h) [
  | inl stays ↦ stays
  | inr joins ↦ subst (λ x. Among x (put name_cmp the_new n names)) (names_same n m joins.0) joins.1
]
into_name_put n names m (inr is) = subst (λ x. Among x (put name_cmp the_new n names)) (sym is) (elim (put_new name_cmp the_new n names) [ inl h ↦ h | inr at ↦ at.3 ])

-- the roles of a list of grantees beside these names
abbrev AreRolesBeside : List TheName → List Grantee → PolicyRoles → Type 0
AreRolesBeside names grantees roles.Public = Among grantee.Public grantees
AreRolesBeside names grantees (roles.Only all) = (Among grantee.Public grantees → ⊥) × ((n : TheName) → Among n all ↔ (Among n names ⊎ Among (grantee.Role n) grantees))

public_stays : (grantees : List Grantee) → fold with_grantee roles.Public grantees ≡ roles.Public
public_stays [] = refl
public_stays (g ∷ gs) = public_stays gs

one_role : (names : List TheName) (n : TheName) (gs : List Grantee) (r : PolicyRoles) → AreRolesBeside (put name_cmp the_new n names) gs r → AreRolesBeside names (grantee.Role n ∷ gs) r
one_role names n gs roles.Public h = inr h
one_role names n gs (roles.Only all) h = (
  λ k. elim k [ inl is ↦ cc | inr later ↦ h.0 later ],
  λ m. (λ k. out m ((h.1 m).0 k), λ k. (h.1 m).1 (back m k)),
) where
  out : (m : TheName) → Among m (put name_cmp the_new n names) ⊎ Among (grantee.Role m) gs → Among m names ⊎ Among (grantee.Role m) (grantee.Role n ∷ gs)
  out m (inl k) = elim (of_name_put n names m (of_put name_cmp the_new n names m k)) [ inl old ↦ inl old | inr is ↦ inr (inl (ap (λ x. grantee.Role x) (sym is))) ]
  out m (inr k) = inr (inr k)

  same_name : (a b : TheName) → ◌≡◌ {A = Grantee} (grantee.Role a) (grantee.Role b) → b ≡ a
  same_name a b e = cc

  back : (m : TheName) → Among m names ⊎ Among (grantee.Role m) (grantee.Role n ∷ gs) → Among m (put name_cmp the_new n names) ⊎ Among (grantee.Role m) gs
  back m (inl k) = inl (into_name_put n names m (inl k))
  back m (inr (inl is)) = inl (into_name_put n names m (inr (same_name n m is)))
  back m (inr (inr k)) = inr k

roles_beside : (names : List TheName) (grantees : List Grantee) → AreRolesBeside names grantees (fold with_grantee (roles.Only names) grantees)
roles_beside names [] = (λ h. absurd h, λ n. (λ h. inl h, λ k. elim k [ inl h ↦ h | inr h ↦ absurd h ]))
roles_beside names (grantee.Public ∷ gs) = subst (AreRolesBeside names (grantee.Public ∷ gs)) (sym (public_stays gs)) (inl refl)
roles_beside names (grantee.Role n ∷ gs) = one_role names n gs (fold with_grantee (roles.Only (put name_cmp the_new n names)) gs) (roles_beside (put name_cmp the_new n names) gs)

beside_none : (grantees : List Grantee) (r : PolicyRoles) → AreRolesBeside [] grantees r → AreRolesBy (Some grantees) r
beside_none grantees roles.Public h = h
beside_none grantees (roles.Only all) h = (h.0, λ n. (λ k. elim ((h.1 n).0 k) [ inl none ↦ absurd none | inr g ↦ g ], λ k. (h.1 n).1 (inr k)))

roles_by : (grantees : Option (List Grantee)) → AreRolesBy grantees (policy_roles grantees)
roles_by None = refl
roles_by (Some grantees) = beside_none grantees (fold with_grantee (roles.Only []) grantees) (roles_beside [] grantees)

-- ---- CREATE POLICY

then_equal : (a b : Ordering) → ordering_then a b ≡ Equal → (a ≡ Equal) × (b ≡ Equal)
then_equal Equal b e = (refl, e)
then_equal Less b e = cc
then_equal Greater b e = cc

no_such_policy : (db : Database) (s : CreatePolicy) → list_any (is_policy_named s.table s.policy) db.policies ≡ false → (y : Policy) → Among y db.policies → policy_cmp (policy_of s) y ≡ Equal → ⊥
no_such_policy db s none y h e =
    let same = then_equal (name_cmp s.table y.table) (name_cmp s.policy y.name) e in
    both_ways (list_any (is_policy_named s.table s.policy) db.policies) none
    (any_holds (is_policy_named s.table s.policy) db.policies y h
    (rw (same_bytes y.table s.table (sym (names_same s.table y.table same.0)), same_bytes y.name s.policy (sym (names_same s.policy y.name same.1))) refl))

none_named : (db : Database) (users : UserNames) (s : CreatePolicy) (u : Unit {0}) → checked_create_policy db users s ≡ Ok u → list_any (is_policy_named s.table s.policy) db.policies ≡ false
none_named db users s u e =
    let table = bind_ok (find_definition db s.table) _ u e in
    let named = bind_ok (require_roles db (grantee_roles (unwrap_or s.grantees []))) _ u table.2 in
    let new = bind_ok (require (not (list_any (is_policy_named s.table s.policy) db.policies)) DuplicateObject) _ u named.2 in
    not-true (list_any (is_policy_named s.table s.policy) db.policies) (require_ok (not (list_any (is_policy_named s.table s.policy) db.policies)) DuplicateObject new.0 new.1)

pub policy_added : create_policy_adds_it
policy_added db pair s e is =
    let c = done_by (checked_create_policy db (as_seen pair db) s) _ e is in
    subst (AddsPolicy db s) c.2 (record {
      new = policy_of s;
      by = record { table = refl; name = refl; kind = refl; command = refl; roles = roles_by s.grantees; using = refl; check = refl };
      policies = one_new policy_cmp (policy_of s) db.policies (no_such_policy db s (none_named db (as_seen pair db) s c.0 c.1));
      others = refl;
      answer = refl;
    })

-- ---- DROP POLICY

is_the_policy : (table name : TheName) (p : Policy) → is_policy_named table name p ≡ true → (p.table ≡ table) × (p.name ≡ name)
is_the_policy table name p e = let parts = and_parts (bytes_eq p.table table) (bytes_eq p.name name) e in (bytes_same p.table table parts.0, bytes_same p.name name parts.1)

found_policy : (table name : TheName) (p : Policy) → (p.table ≡ table) × (p.name ≡ name) → is_policy_named table name p ≡ true
found_policy table name p k = rw (same_bytes p.table table k.0, same_bytes p.name name k.1) refl

pub policy_dropped : drop_policy_takes_it
policy_dropped db pair s e is =
    let c = done_by (checked_drop_policy db (as_seen pair db) s) _ e is in
    subst (DropsPolicy db s) c.2 (record {
      policies = λ p. some_gone (is_policy_named s.table s.policy) (λ (x : Policy). (x.table ≡ s.table) × (x.name ≡ s.policy)) db.policies p (is_the_policy s.table s.policy p) (found_policy s.table s.policy p);
      others = refl;
      answer = refl;
    })
