-- Statements on policies and privileges, as changes of their table.
use Rattle.std.proofs.Common.{◌≡◌, Bool, true, false, not, cond, ◌&&◌, List, [], ◌∷◌, ◌++◌, filter, bytes_eq, Option, Some, None, Ok, refl, ap, sym, ◌∙◌, subst}
use Rattle.std.specs.Prelude.{option_to_list}
use Rattle.std.specs.List.{list_any}
use Rattle.std.specs.Ordering.{is_eq}
use Rattle.std.specs.declared.cmp.Ordering.{Ordering}
use Rattle.std.specs.declared.cmp.Ordering.TheVariants.{Less, Equal, Greater}
use Rattle.std.proofs.lemmas.Bool.{false_from_ne_true, not_from_false, not-true, and_parts}
use Rattle.sql_types.specs.declared.state.SqlState.TheVariants.{InsufficientPrivilege, InvalidGrantOperation}
use Rattle.sql_types.specs.declared.tag.Tag.{Tag}
use Rattle.sql_types.specs.declared.tag.Tag.TheVariants as tag
use Rattle.sql_types.specs.declared.warning.Warning.{Warning}
use Rattle.sql_types.specs.declared.warning.Warning.TheVariants as warning
use Rattle.sql_ast.specs.declared.privilege.Privilege.{Privilege}
use Rattle.sql_ast.specs.declared.privilege.Grantor.TheVariants as grantor
use Rattle.sql_ast.specs.declared.privilege.Grantee.{Grantee}
use Rattle.sql_ast.specs.declared.privilege.Descriptor.{Descriptor}
use Rattle.sql_ast.specs.declared.policy.Policy.{Policy}
use Rattle.sql_ast.specs.declared.statement.CreatePolicy.{CreatePolicy}
use Rattle.sql_ast.specs.declared.statement.DropPolicy.{DropPolicy}
use Rattle.sql_ast.specs.declared.statement.Grant.{Grant}
use Rattle.sql_ast.specs.declared.statement.Revoke.{Revoke}
use Rattle.expressions.specs.Meaning.{UserNames}
use Rattle.expressions.specs.Stages.{require, each}
use Rattle.abstract_database.specs.Lists.{TheName, Among, put, the_new, change_where, drop_where}
use Rattle.abstract_database.specs.Chains.{by_start, by_step}
use Rattle.abstract_database.specs.Database.{TableOf, Database, is_policy_named, same_action, policy_cmp, descriptor_cmp}
use Rattle.abstract_database.specs.Definitions.{policy_of}
use Rattle.abstract_database.specs.Privileges.{privileges_of, columns_named, privilege_of, is_for, covers, is_same_role, supports, IsSupported, is_supported, has_some_privilege, leaves_out, acting_grantor, descriptors_by, granted_by, with_descriptors, same_key, takes, is_taken_by, without_option, without_named, held, abandoned, is_cascade, held_or_refused, revoked}
use Rattle.abstract_database.specs.Checks.{found_column, find_definition, require_roles, grantee_roles, is_public, checked_create_policy, checked_drop_policy, checked_grant, checked_revoke, CheckedRevoke}
use Rattle.abstract_database.specs.Statements.{Effect, warned, create_policy, drop_policy, grant, revoke}
use Rattle.abstract_database.specs.Whole.{Each}
use Rattle.abstract_database.proofs.ListLemmas.{bytes_same, same_bytes}
use Rattle.abstract_database.proofs.ElementLemmas.{any_found, of_filter, into_filter}
use Rattle.abstract_database.proofs.ChainLemmas.{support_found}
use Rattle.abstract_database.proofs.ResultLemmas.{bind_ok, ok_inside}
use Rattle.abstract_database.proofs.CheckLemmas.{found_definition}
use Rattle.stored_database.specs.Definitions.{TableDefinition, Definitions}
use Rattle.expr_parser.specs.Written.{IsAsWritten}
use Rattle.stored_database.specs.Valid.{IsNumbered, Describes}
use Rattle.stored_database.proofs.Lists.{of_map, of_flat_map, into_flat_map}
use Rattle.catalogue.specs.declared.change.SchemaChange.TheVariants as change
use Rattle.catalogue_changes.specs.SchemaChanges.{conditions_of}
use Rattle.catalogue_changes.specs.StatementChanges.{Makes, IsDoneBy, IsTableOf, with_one_policy, without_one_policy, with_its_descriptors}
use Rattle.catalogue_changes.proofs.PutListLemmas.{drop_put, filter_put, each_put, filter_twice, filter_within}
use Rattle.catalogue_changes.proofs.PutTableLemmas.{clauses_in}
use Rattle.catalogue_changes.proofs.DescriptorPutLemmas.{is_for_table, AreFor, one_table, one_policy_table, policies_ordered, others_stay}
use Rattle.catalogue_changes.proofs.TableBridgeLemmas.{is_of_table, whole, among, named, alike_with, written, own_descriptors, own_policies, tables_same}
use Rattle.catalogue_changes.proofs.RoleBridgeLemmas.{done_by}

-- ---- a table with other policies or other descriptors

module _ (d : Definitions) (db : Database) (s : Describes d db) (name : TheName) (t : TableDefinition) (found : IsTableOf d name t) where
  numbered : IsNumbered t
  numbered = s.valid.tables t (among d db s name t found)

  pub policies_make : (own all : List Policy) → Each (λ (p : Policy). p.table ≡ t.definition.name) own → Each IsAsWritten (conditions_of own)
      → filter (is_of_table t.definition.name) all ≡ own → drop_where (is_of_table t.definition.name) all ≡ drop_where (is_of_table t.definition.name) db.policies
      → Makes (change.PutTable (record t { policies = own })) d db (record db { policies = all })
  policies_make own all names conditions these others = record {
    fits = record {
      numbered = record { least = numbered.least; most = numbered.most; descriptors = numbered.descriptors; policies = names };
      alike = alike_with d db s name t found (record t { policies = own }) refl refl refl;
      conditions = conditions;
    };
    is = record {
      roles = refl;
      memberships = refl;
      tables = tables_same d db s name t found;
      descriptors = record { these_pass = own_descriptors d db s name t found; others = refl };
      policies = record { these_pass = these; others = others };
    };
  }

  pub descriptors_make : (all : List Descriptor) → drop_where (is_for_table t.definition.name) all ≡ drop_where (is_for_table t.definition.name) db.descriptors
      → Makes (change.PutTable (with_its_descriptors all t)) d db (record db { descriptors = all })
  descriptors_make all others = record {
    fits = record {
      numbered = record {
        least = numbered.least;
        most = numbered.most;
        descriptors = λ e of. bytes_same e.table t.definition.name (of_filter (is_for_table t.definition.name) all e of).1;
        policies = numbered.policies;
      };
      alike = alike_with d db s name t found (with_its_descriptors all t) refl refl refl;
      conditions = written d db s name t found;
    };
    is = record {
      roles = refl;
      memberships = refl;
      tables = tables_same d db s name t found;
      descriptors = record { these_pass = refl; others = others };
      policies = record { these_pass = own_policies d db s name t found; others = refl };
    };
  }

-- ---- CREATE POLICY

pub create_policy_done : (d : Definitions) (db : Database) (users : UserNames) (s : CreatePolicy) (t : TableDefinition) → Describes d db → IsTableOf d s.table t
    → Each IsAsWritten (option_to_list s.using ++ option_to_list s.check) → IsDoneBy (change.PutTable (with_one_policy (policy_of s) t)) d db (create_policy db users s)
create_policy_done d db users s t described found conditions = done_by (change.PutTable (with_one_policy p t)) d db (checked_create_policy db users s) _ (λ u is.
    policies_make d db described s.table t found own (put policy_cmp the_new p db.policies)
    (each_put policy_cmp the_new (λ (q : Policy). q.table ≡ t.definition.name) (λ x y a b. a) p t.policies own_table (described.valid.tables t (among d db described s.table t found)).policies)
    (λ c among. let q = of_flat_map clauses_in own c among in as_written q.0 q.1 c q.2)
    (filter_put policy_cmp the_new test policies_ordered p db.policies passes takes (whole d db described).definitions.order.policies ∙ ap (put policy_cmp the_new p) (own_policies d db described s.table t found))
    (drop_put policy_cmp the_new test p db.policies passes takes)) where
      p : Policy
      p = policy_of s

      own : List Policy
      own = put policy_cmp the_new p t.policies

      test : Policy → Bool
      test = is_of_table t.definition.name

      own_table : p.table ≡ t.definition.name
      own_table = sym (named d db described s.table t found)

      passes : test p ≡ true
      passes = same_bytes p.table t.definition.name own_table

      takes : (y : Policy) → policy_cmp p y ≡ Equal → (test y ≡ true) × (test p ≡ true)
      takes y e = (same_bytes y.table t.definition.name (one_policy_table p y e ∙ own_table), passes)

      as_written : (q : Policy) → Among q own → Each IsAsWritten (clauses_in q)
      as_written = each_put policy_cmp the_new (λ (q : Policy). Each IsAsWritten (clauses_in q)) (λ x y a b. a) p t.policies conditions
          (λ q of c there. written d db described s.table t found c (into_flat_map clauses_in t.policies q c of there))

-- ---- DROP POLICY

pub drop_policy_done : (d : Definitions) (db : Database) (users : UserNames) (s : DropPolicy) (t : TableDefinition) → Describes d db → IsTableOf d s.table t
    → IsDoneBy (change.PutTable (without_one_policy s.policy t)) d db (drop_policy db users s)
drop_policy_done d db users s t described found = done_by (change.PutTable (without_one_policy s.policy t)) d db (checked_drop_policy db users s) _ (λ u is.
    policies_make d db described s.table t found (drop_where named_so t.policies) (drop_where (is_policy_named s.table s.policy) db.policies)
    (λ p of. (described.valid.tables t (among d db described s.table t found)).policies p (of_filter (λ (q : Policy). not (named_so q)) t.policies p of).0)
    (λ c there.
    let q = of_flat_map clauses_in (drop_where named_so t.policies) c there in
    written d db described s.table t found c (into_flat_map clauses_in t.policies q.0 c (of_filter (λ (p : Policy). not (named_so p)) t.policies q.0 q.1).0 q.2))
    (filter_twice test (λ (p : Policy). not (is_policy_named s.table s.policy p)) (λ (p : Policy). not (named_so p)) db.policies
    (λ p of passes. ap (λ (b : Bool). not (b && named_so p)) (same_bytes p.table s.table (bytes_same p.table t.definition.name passes ∙ same_name)))
    ∙ ap (drop_where named_so) (own_policies d db described s.table t found))
    (filter_within (λ (p : Policy). not (test p)) (λ (p : Policy). not (is_policy_named s.table s.policy p)) db.policies
    (λ p of fails. not_from_false (is_policy_named s.table s.policy p) (false_from_ne_true (is_policy_named s.table s.policy p) (λ h.
    clash (sym (not-true (test p) fails) ∙ same_bytes p.table t.definition.name (bytes_same p.table s.table (and_parts (bytes_eq p.table s.table) (named_so p) h).0 ∙ sym same_name))))))) where
      named_so : Policy → Bool
      named_so p = bytes_eq p.name s.policy

      test : Policy → Bool
      test = is_of_table t.definition.name

      same_name : t.definition.name ≡ s.table
      same_name = named d db described s.table t found

      clash : false ≡ true → ⊥
      clash e = cc

-- ---- GRANT

by_grantor : (table : TheName) (grantees : List Grantee) (option : Bool) (p : Privilege) (by : Option TheName) → AreFor table (descriptors_by table grantees option p by)
by_grantor table grantees option p None e h = absurd h
by_grantor table grantees option p (Some by) e h =
    let g = of_map (λ (g : Grantee). record { grantor = grantor.Role by; grantee = g; table = table; action = p.action; column = p.column; grantable = option }) grantees e h in
    ap (λ (x : Descriptor). x.table) (sym g.2)

-- what is granted on a table is for it
pub named_for_table : (db : Database) (role : TheName) (table : TableOf) (ps : List Privilege) (grantees : List Grantee) (option : Bool) → AreFor table.name (granted_by db role table ps grantees option)
named_for_table db role table ps grantees option e h =
    let p = of_flat_map (λ (q : Privilege). descriptors_by table.name grantees option q (acting_grantor db role table q)) ps e h in
    by_grantor table.name grantees option p.0 (acting_grantor db role table p.0) e p.2

pub after_warning : (t : Tag) (b : Bool) (w : Warning) (db : Database) → (warned t b w db).database ≡ db
after_warning t true w db = refl
after_warning t false w db = refl

-- the table that is granted on
pub granted_table : (db : Database) (users : UserNames) (s : Grant) (table : TableOf) → checked_grant db users s ≡ Ok table → table.name ≡ s.table
granted_table db users s table e =
    let at = bind_ok (find_definition db s.table) _ table e in
    let known = bind_ok (require_roles db (grantee_roles s.grantees)) _ table at.2 in
    let columns = bind_ok (each (found_column at.0.layout) (columns_named s.privileges)) _ table known.2 in
    let allowed = bind_ok (require (has_some_privilege db users.current s.table) InsufficientPrivilege) _ table columns.2 in
    let not_public = bind_ok (require (not (s.with_grant_option && list_any is_public s.grantees)) InvalidGrantOperation) _ table allowed.2 in
    sym (ap (λ (n : TableOf). n.name) (ok_inside at.0 table not_public.2)) ∙ (found_definition db s.table at.0 at.1).own

pub grant_done : (d : Definitions) (db : Database) (users : UserNames) (s : Grant) (t : TableDefinition) (e : Effect) → Describes d db → IsTableOf d s.table t → grant db users s ≡ Ok e
    → Makes (change.PutTable (with_its_descriptors e.database.descriptors t)) d db e.database
grant_done d db users s t e described found is =
    let steps = bind_ok (checked_grant db users s) _ e is in
    let table = steps.0 in
    let own : table.name ≡ t.definition.name = granted_table db users s table steps.1 ∙ sym (named d db described s.table t found) in
    let ds : List Descriptor = granted_by db users.current table (privileges_of table.layout s.privileges) s.grantees s.with_grant_option in
    let each : AreFor table.name ds = named_for_table db users.current table (privileges_of table.layout s.privileges) s.grantees s.with_grant_option in
    subst (λ (z : Database). Makes (change.PutTable (with_its_descriptors z.descriptors t)) d db z) (sym (after_warning tag.Grant (leaves_out db users.current table s.privileges) warning.PrivilegeNotGranted (record db { descriptors = with_descriptors ds db.descriptors })) ∙ ap (λ (f : Effect). f.database) (ok_inside _ e steps.2))
    (descriptors_make d db described s.table t found (with_descriptors ds db.descriptors)
    (others_stay t.definition.name ds db.descriptors (λ x of. each x of ∙ own)))

-- ---- REVOKE

-- what is changed of what passes leaves what does not pass
changed_within : {X : Type 0} (test hit : X → Bool) (change : X → X) → ((x : X) → test (change x) ≡ test x) → (xs : List X) → ((x : X) → hit x ≡ true → test x ≡ true)
    → drop_where test (change_where hit change xs) ≡ drop_where test xs
changed_within test hit change same [] passing = refl
changed_within {X} test hit change same (x ∷ xs) passing = go (hit x) refl (changed_within test hit change same xs passing) where
  part : Bool → X → List X → List X
  part b y ys = cond (not b) (y ∷ ys) ys

  go : (b : Bool) → hit x ≡ b → drop_where test (change_where hit change xs) ≡ drop_where test xs
      → drop_where test (cond b (change x) x ∷ change_where hit change xs) ≡ drop_where test (x ∷ xs)
  go true c later = ap (λ (a : Bool). part a (change x) (drop_where test (change_where hit change xs))) (same x ∙ passing x c) ∙ later ∙ sym (ap (λ (a : Bool). part a x (drop_where test xs)) (passing x c))
  go false c later = ap (part (test x) x) later

-- what supports a descriptor is for its table
pub one_support : (p x : Descriptor) → supports p x ≡ true → p.table ≡ x.table
one_support p x step =
    let option = and_parts (is_for x.table (privilege_of x) p && p.grantable) (is_same_role p.grantee x.grantor) step in
    let for_it = and_parts (is_for x.table (privilege_of x) p) p.grantable option.0 in
    let on_it = and_parts (bytes_eq p.table x.table && same_action p.action x.action) (covers p.column x.column) for_it.0 in
    bytes_same p.table x.table (and_parts (bytes_eq p.table x.table) (same_action p.action x.action) on_it.0).0

module _ (name : TheName) (ns set : List Descriptor) (own : AreFor name ns) where
  abbrev test : Descriptor → Bool
  test = is_for_table name

  equal_there : (o : Ordering) → is_eq o ≡ true → o ≡ Equal
  equal_there Less e = cc
  equal_there Equal e = refl
  equal_there Greater e = cc

  -- what is taken is for the table
  taken_passes : (x : Descriptor) → is_taken_by ns x ≡ true → test x ≡ true
  taken_passes x h =
      let n = any_found (λ (m : Descriptor). takes m x) ns h in
      let beside : Descriptor = record n.0 { column = x.column } in
      let same = and_parts (same_key beside x) (covers n.0.column x.column) n.2 in
      same_bytes x.table name (one_table beside x (equal_there (descriptor_cmp beside x) same.0) ∙ own n.0 n.1)

  not_taken : (x : Descriptor) → not (test x) ≡ true → not (is_taken_by ns x) ≡ true
  not_taken x fails = not_from_false (is_taken_by ns x) (false_from_ne_true (is_taken_by ns x) (λ h. clash (sym (not-true (test x) fails) ∙ taken_passes x h))) where
    clash : false ≡ true → ⊥
    clash e = cc

  others_without : (option : Bool) → drop_where test (without_named option ns set) ≡ drop_where test set
  others_without false = filter_within (λ (x : Descriptor). not (test x)) (λ (x : Descriptor). not (is_taken_by ns x)) set (λ x of. not_taken x)
  others_without true = changed_within test (is_taken_by ns) without_option (λ x. refl) set taken_passes

  module _ (option : Bool) (all : (x : Descriptor) → Among x set → IsSupported set x) where
    abbrev cut : List Descriptor
    cut = without_named option ns set

    stays : (x : Descriptor) → Among x set → test x ≡ false → Among x cut
    stays x of fails = (of_filter (λ (y : Descriptor). not (test y)) cut x
        (subst (λ (zs : List Descriptor). Among x zs) (sym (others_without option)) (into_filter (λ (y : Descriptor). not (test y)) set x of (not_from_false (test x) fails)))).0

    pub was : (x : Descriptor) → Among x cut → test x ≡ false → Among x set
    was x of fails = (of_filter (λ (y : Descriptor). not (test y)) set x
        (subst (λ (zs : List Descriptor). Among x zs) (others_without option) (into_filter (λ (y : Descriptor). not (test y)) cut x of (not_from_false (test x) fails)))).0

    -- a chain of supports is for one table
    pub chain_stays : (x : Descriptor) → IsSupported set x → test x ≡ false → IsSupported cut x
    chain_stays x (by_start x' of start) fails = by_start x (stays x of fails) start
    chain_stays x (by_step p x' chain of step) fails =
        by_step p x (chain_stays p chain (ap (λ (n : TheName). bytes_eq n name) (one_support p x step) ∙ fails)) (stays x of fails) step

    others_held : drop_where test (held cut) ≡ drop_where test cut
    others_held = filter_within (λ (x : Descriptor). not (test x)) (is_supported cut) cut (λ x of fails.
        let no = not-true (test x) fails in support_found cut x (chain_stays x (all x (was x of no)) no))

    abbrev OthersStay : List Descriptor → Type 0
    OthersStay new = drop_where test new ≡ drop_where test set

    left : (cascade : Bool) (lost new : List Descriptor) → held_or_refused cascade cut lost ≡ Ok new → OthersStay new
    left true lost new e = subst OthersStay (ok_inside (held cut) new e) (others_held ∙ others_without option)
    left false [] new e = subst OthersStay (ok_inside cut new e) (others_without option)
    left false (x ∷ xs) new e = cc

-- the table that is revoked on
pub revoked_table : (db : Database) (users : UserNames) (s : Revoke) (c : CheckedRevoke) → checked_revoke db users s ≡ Ok c → c.table.name ≡ s.table
revoked_table db users s c e =
    let at = bind_ok (find_definition db s.table) _ c e in
    let known = bind_ok (require_roles db (grantee_roles s.grantees)) _ c at.2 in
    let columns = bind_ok (each (found_column at.0.layout) (columns_named s.privileges)) _ c known.2 in
    let allowed = bind_ok (require (has_some_privilege db users.current s.table) InsufficientPrivilege) _ c columns.2 in
    let after = bind_ok (revoked s.grant_option_for s.behavior (granted_by db users.current at.0 (privileges_of at.0.layout s.privileges) s.grantees false) db.descriptors) _ c allowed.2 in
    sym (ap (λ (r : CheckedRevoke). r.table.name) (ok_inside _ c after.2)) ∙ (found_definition db s.table at.0 at.1).own

pub revoke_done : (d : Definitions) (db : Database) (users : UserNames) (s : Revoke) (t : TableDefinition) (e : Effect) → Describes d db → IsTableOf d s.table t → revoke db users s ≡ Ok e
    → Makes (change.PutTable (with_its_descriptors e.database.descriptors t)) d db e.database
revoke_done d db users s t e described found is =
    let steps = bind_ok (checked_revoke db users s) _ e is in
    let c = steps.0 in
    let at = bind_ok (find_definition db s.table) _ c steps.1 in
    let known = bind_ok (require_roles db (grantee_roles s.grantees)) _ c at.2 in
    let columns = bind_ok (each (found_column at.0.layout) (columns_named s.privileges)) _ c known.2 in
    let allowed = bind_ok (require (has_some_privilege db users.current s.table) InsufficientPrivilege) _ c columns.2 in
    let after = bind_ok (revoked s.grant_option_for s.behavior (granted_by db users.current at.0 (privileges_of at.0.layout s.privileges) s.grantees false) db.descriptors) _ c allowed.2 in
    let own : at.0.name ≡ t.definition.name = (found_definition db s.table at.0 at.1).own ∙ sym (named d db described s.table t found) in
    let ns : List Descriptor = granted_by db users.current at.0 (privileges_of at.0.layout s.privileges) s.grantees false in
    let others : drop_where (is_for_table t.definition.name) after.0 ≡ drop_where (is_for_table t.definition.name) db.descriptors
    = left t.definition.name ns db.descriptors (λ x of. named_for_table db users.current at.0 (privileges_of at.0.layout s.privileges) s.grantees false x of ∙ own) s.grant_option_for
    (λ x of. ((whole d db described).definitions.descriptors.descriptors x of).supported)
    (is_cascade s.behavior) (abandoned (without_named s.grant_option_for ns db.descriptors)) after.0 after.1 in
    subst (λ (z : Database). Makes (change.PutTable (with_its_descriptors z.descriptors t)) d db z)
    (ap (λ (r : CheckedRevoke). record db { descriptors = r.descriptors }) (ok_inside _ c after.2) ∙ sym (after_warning tag.Revoke (leaves_out db users.current c.table s.privileges) warning.PrivilegeNotRevoked (record db { descriptors = c.descriptors }))
    ∙ ap (λ (f : Effect). f.database) (ok_inside _ e steps.2))
    (descriptors_make d db described s.table t found after.0 others)
