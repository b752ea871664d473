-- GRANT and REVOKE over the descriptors of their table alone.
use Rattle.std.proofs.Common.{◌≡◌, Bool, true, false, not, cond, ◌&&◌, ◌||◌, List, [], ◌∷◌, ◌++◌, filter, flat_map, is_some, bytes_eq, Option, Some, Result, Ok, Err, refl, ap, sym, ◌∙◌, subst}
use Rattle.std.specs.List.{list_any, list_all}
use Rattle.std.proofs.lemmas.Bool.{both_ways, false_from_ne_true, not-true, and_parts}
use Rattle.sql_types.specs.declared.state.SqlState.{SqlState}
use Rattle.sql_types.specs.declared.state.SqlState.TheVariants.{InsufficientPrivilege, InvalidGrantOperation}
use Rattle.sql_types.specs.declared.tag.Tag.{Tag}
use Rattle.sql_types.specs.declared.tag.Tag.TheVariants as tag
use Rattle.sql_types.specs.declared.warning.Warning.{Warning}
use Rattle.sql_types.specs.declared.warning.Warning.TheVariants as warning
use Rattle.sql_ast.specs.declared.privilege.Privilege.{Privilege}
use Rattle.sql_ast.specs.declared.privilege.Grantee.{Grantee}
use Rattle.sql_ast.specs.declared.privilege.Descriptor.{Descriptor}
use Rattle.sql_ast.specs.declared.statement.Grant.{Grant}
use Rattle.sql_ast.specs.declared.statement.Revoke.{Revoke}
use Rattle.sql_ast.specs.declared.statement.Privileges.{Privileges}
use Rattle.sql_ast.specs.declared.statement.Privileges.TheVariants as privileges
use Rattle.sql_ast.specs.declared.statement.DropBehavior.{DropBehavior}
use Rattle.expressions.specs.Meaning.{UserNames}
use Rattle.expressions.specs.Stages.{◌>>=◌, require, each}
use Rattle.abstract_database.specs.Lists.{TheName, Among, change_where}
use Rattle.abstract_database.specs.Chains.{by_start, by_step}
use Rattle.abstract_database.specs.Database.{TableOf, Database, same_action}
use Rattle.abstract_database.specs.Roles.{is_superuser, acts_as_owner}
use Rattle.abstract_database.specs.Privileges.{privileges_of, columns_named, is_for, covers, reaches, has_some_privilege, IsSupported, is_supported, role_of, holder_for, acting_grantor, leaves_out, descriptors_by, granted_by, with_descriptors, is_taken_by, without_option, without_named, held, abandoned, is_cascade, held_or_refused, revoked}
use Rattle.abstract_database.specs.Checks.{found_column, find_definition, require_roles, grantee_roles, is_public, checked_grant, checked_revoke, CheckedRevoke}
use Rattle.abstract_database.specs.Statements.{Effect, warned, grant, revoke}
use Rattle.abstract_database.proofs.CheckLemmas.{found_definition}
use Rattle.abstract_database.proofs.ListLemmas.{bytes_same, same_bytes}
use Rattle.abstract_database.proofs.ElementLemmas.{of_filter, into_filter, keep_all}
use Rattle.abstract_database.proofs.ChainLemmas.{found_support, support_found}
use Rattle.stored_database.specs.Definitions.{TableDefinition, Definitions}
use Rattle.stored_database.specs.Valid.{Describes}
use Rattle.catalogue.specs.declared.change.SchemaChange.TheVariants as change
use Rattle.catalogue_changes.specs.StatementChanges.{Makes, IsTableOf, alone, AgreesAlone}
use Rattle.catalogue_changes.proofs.PutListLemmas.{filter_twice, filter_within}
use Rattle.catalogue_changes.proofs.DescriptorPutLemmas.{is_for_table, AreFor, own_granted}
use Rattle.catalogue_changes.proofs.TableBridgeLemmas.{whole, named, own_descriptors}
use Rattle.catalogue_changes.proofs.PartBridgeLemmas.{granted_table, revoked_table, named_for_table, after_warning, grant_done, revoke_done, one_support, was, chain_stays}

-- ---- lists

any_within : {X : Type 0} (f test : X → Bool) → ((x : X) → f x ≡ true → test x ≡ true) → (xs : List X) → list_any f (filter test xs) ≡ list_any f xs
any_within f test passing [] = refl
any_within {X} f test passing (x ∷ xs) = go (test x) refl (any_within f test passing xs) where
  go : (b : Bool) → test x ≡ b → list_any f (filter test xs) ≡ list_any f xs → list_any f (cond b (x ∷ filter test xs) (filter test xs)) ≡ (f x || list_any f xs)
  go true c later = ap (λ (b : Bool). f x || b) later
  go false c later = later ∙ sym (ap (λ (b : Bool). b || list_any f xs) (false_from_ne_true (f x) (λ h. both_ways (test x) c (passing x h))))

changes_pass : {X : Type 0} (test hit : X → Bool) (change : X → X) → ((x : X) → test (change x) ≡ test x) → (xs : List X) → change_where hit change (filter test xs) ≡ filter test (change_where hit change xs)
changes_pass test hit change same [] = refl
changes_pass {X} test hit change same (x ∷ xs) = go (test x) (changes_pass test hit change same xs) ∙ sym (ap (λ (b : Bool). cond b (new ∷ rest) rest) (still (hit x))) where
  new : X
  new = cond (hit x) (change x) x

  rest : List X
  rest = filter test (change_where hit change xs)

  still : (b : Bool) → test (cond b (change x) x) ≡ test x
  still true = same x
  still false = refl

  go : (a : Bool) → change_where hit change (filter test xs) ≡ rest → change_where hit change (cond a (x ∷ filter test xs) (filter test xs)) ≡ cond a (new ∷ rest) rest
  go true later = ap (λ (zs : List X). new ∷ zs) later
  go false later = later

both_lists : {X : Type 0} {a b c d : List X} → a ≡ b → c ≡ d → a ++ c ≡ b ++ d
both_lists p q = cc

both_or : {a b c d : Bool} → a ≡ b → c ≡ d → (a || c) ≡ (b || d)
both_or p q = cc

both_and : {a b c d : Bool} → a ≡ b → c ≡ d → (a && c) ≡ (b && d)
both_and p q = cc

either_way : (a b : Bool) → (a ≡ true → b ≡ true) → (b ≡ true → a ≡ true) → a ≡ b
either_way true b f g = sym (f refl)
either_way false true f g = g refl
either_way false false f g = refl

-- ---- who grants

module _ (db : Database) (role name : TheName) (own : List Descriptor) (is : filter (is_for_table name) db.descriptors ≡ own) where
  abbrev one : Database
  one = record db { descriptors = own }

  pub same_privilege : (table : TheName) → table ≡ name → has_some_privilege one role table ≡ has_some_privilege db role table
  same_privilege table same = ap (λ (b : Bool). is_superuser db role || b)
      (ap (list_any f) (sym is)
      ∙ any_within f (is_for_table name) (λ x h. same_bytes x.table name (bytes_same x.table table (and_parts (bytes_eq x.table table) (reaches db.memberships role x.grantee) h).0 ∙ same)) db.descriptors) where
        f : Descriptor → Bool
        f x = bytes_eq x.table table && reaches db.memberships role x.grantee

  module _ (table : TableOf) (same : table.name ≡ name) where
    same_grantor : (p : Privilege) → acting_grantor one role table p ≡ acting_grantor db role table p
    same_grantor p = ap (λ (ds : List Descriptor). cond (acts_as_owner db role table.owner) (Some table.owner) (holder_for db role (flat_map (λ (x : Descriptor). role_of x.grantee) ds)))
        (ap (filter f) (sym is) ∙ filter_within f (is_for_table name) db.descriptors (λ x of h. passes x h)) where
          f : Descriptor → Bool
          f x = is_for table.name p x && x.grantable

          passes : (x : Descriptor) → f x ≡ true → is_for_table name x ≡ true
          passes x h =
              let for_it = and_parts (is_for table.name p x) x.grantable h in
              let on_it = and_parts (bytes_eq x.table table.name && same_action x.action p.action) (covers x.column p.column) for_it.0 in
              same_bytes x.table name (bytes_same x.table table.name (and_parts (bytes_eq x.table table.name) (same_action x.action p.action) on_it.0).0 ∙ same)

    pub same_named : (ps : List Privilege) (grantees : List Grantee) (option : Bool) → granted_by one role table ps grantees option ≡ granted_by db role table ps grantees option
    same_named [] grantees option = refl
    same_named (p ∷ ps) grantees option = both_lists (ap (descriptors_by table.name grantees option p) (same_grantor p)) (same_named ps grantees option)

    same_any : (ps : List Privilege) → list_any (λ p. is_some (acting_grantor one role table p)) ps ≡ list_any (λ p. is_some (acting_grantor db role table p)) ps
    same_any [] = refl
    same_any (p ∷ ps) = both_or (ap is_some (same_grantor p)) (same_any ps)

    same_all : (ps : List Privilege) → list_all (λ p. is_some (acting_grantor one role table p)) ps ≡ list_all (λ p. is_some (acting_grantor db role table p)) ps
    same_all [] = refl
    same_all (p ∷ ps) = both_and (ap is_some (same_grantor p)) (same_all ps)

    pub same_left_out : (ps : Privileges) → leaves_out one role table ps ≡ leaves_out db role table ps
    same_left_out (privileges.All columns) = ap not (same_any (privileges_of table.layout (privileges.All columns)))
    same_left_out (privileges.Actions actions) = ap not (same_all (privileges_of table.layout (privileges.Actions actions)))

one_answer : (t : Tag) (b c : Bool) (w : Warning) (x y : Database) → b ≡ c → (warned t b w x).answer ≡ (warned t c w y).answer
one_answer t true true w x y e = refl
one_answer t true false w x y e = cc
one_answer t false true w x y e = cc
one_answer t false false w x y e = refl

-- ---- GRANT

module _ (d : Definitions) (db : Database) (users : UserNames) (s : Grant) (t : TableDefinition) (described : Describes d db) (found : IsTableOf d s.table t) where
  abbrev name : TheName
  name = t.definition.name

  abbrev held_alone : filter (is_for_table t.definition.name) db.descriptors ≡ t.descriptors
  held_alone = own_descriptors d db described s.table t found

  is_name : s.table ≡ t.definition.name
  is_name = sym (named d db described s.table t found)

  same_checks : checked_grant (alone t db) users s ≡ checked_grant db users s
  same_checks = ap (λ (b : Bool). find_definition db s.table >>= λ table. require_roles db (grantee_roles s.grantees) >>= λ n. each (found_column table.layout) (columns_named s.privileges) >>= λ c. require b InsufficientPrivilege >>= λ m. require (not (s.with_grant_option && list_any is_public s.grantees)) InvalidGrantOperation >>= λ k. Ok table)
      (same_privilege db users.current t.definition.name t.descriptors held_alone s.table is_name)

  abbrev granted_in : Database → TableOf → List Descriptor
  granted_in z table = granted_by z users.current table (privileges_of table.layout s.privileges) s.grantees s.with_grant_option

  abbrev after_in : Database → TableOf → Effect
  after_in z table = warned tag.Grant (leaves_out z users.current table s.privileges) warning.PrivilegeNotGranted (record z { descriptors = with_descriptors (granted_in z table) z.descriptors })

  pub grant_alone : AgreesAlone t d db (grant db users s) (grant (alone t db) users s)
  grant_alone = go (checked_grant (alone t db) users s) same_checks where
    go : (r : Result TableOf SqlState) → r ≡ checked_grant db users s → AgreesAlone t d db (grant db users s) (r >>= λ table. Ok (after_in (alone t db) table))
    go (Err code) e = ap (λ (r : Result TableOf SqlState). r >>= λ table. Ok (after_in db table)) (sym e)
    go (Ok table) e =
        let done : grant db users s ≡ Ok (after_in db table) = ap (λ (r : Result TableOf SqlState). r >>= λ x. Ok (after_in db x)) (sym e) in
        let same : table.name ≡ t.definition.name = granted_table db users s table (sym e) ∙ is_name in
        let own : AreFor t.definition.name (granted_in db table) = λ x of. named_for_table db users.current table (privileges_of table.layout s.privileges) s.grantees s.with_grant_option x of ∙ same in
        record {
          effect = after_in db table;
          done = done;
          answer = one_answer tag.Grant (leaves_out db users.current table s.privileges) (leaves_out (alone t db) users.current table s.privileges) warning.PrivilegeNotGranted _ _
              (sym (same_left_out db users.current t.definition.name t.descriptors held_alone table same s.privileges));
          makes = subst (λ (ds : List Descriptor). Makes (change.PutTable (record t { descriptors = ds })) d db (after_in db table).database)
              (ap (λ (z : Database). filter (is_for_table t.definition.name) z.descriptors) (after_warning tag.Grant (leaves_out db users.current table s.privileges) warning.PrivilegeNotGranted (record db { descriptors = with_descriptors (granted_in db table) db.descriptors }))
              ∙ own_granted t.definition.name (granted_in db table) db.descriptors own (whole d db described).definitions.order.descriptors
              ∙ ap (with_descriptors (granted_in db table)) held_alone
              ∙ ap (λ (xs : List Descriptor). with_descriptors xs t.descriptors) (sym (same_named db users.current t.definition.name t.descriptors held_alone table same (privileges_of table.layout s.privileges) s.grantees s.with_grant_option))
              ∙ sym (ap (λ (z : Database). z.descriptors) (after_warning tag.Grant (leaves_out (alone t db) users.current table s.privileges) warning.PrivilegeNotGranted (record (alone t db) { descriptors = with_descriptors (granted_in (alone t db) table) t.descriptors }))))
              (grant_done d db users s t (after_in db table) described found done);
        }

-- ---- REVOKE

module _ (name : TheName) (ns set : List Descriptor) (own : AreFor name ns) (option : Bool) (all : (x : Descriptor) → Among x set → IsSupported set x) where
  abbrev test : Descriptor → Bool
  test = is_for_table name

  abbrev cut : List Descriptor
  cut = without_named option ns set

  cut_alone : (o : Bool) → without_named o ns (filter test set) ≡ filter test (without_named o ns set)
  cut_alone false = sym (filter_twice test (λ (x : Descriptor). not (is_taken_by ns x)) (λ (x : Descriptor). not (is_taken_by ns x)) set (λ x of passes. refl))
  cut_alone true = changes_pass test (is_taken_by ns) without_option (λ x. refl) set

  narrowed : (x : Descriptor) → IsSupported cut x → test x ≡ true → IsSupported (filter test cut) x
  narrowed x (by_start x' of start) passes = by_start x (into_filter test cut x of passes) start
  narrowed x (by_step p x' chain of step) passes =
      by_step p x (narrowed p chain (ap (λ (n : TheName). bytes_eq n name) (one_support p x step) ∙ passes)) (into_filter test cut x of passes) step

  widened : (x : Descriptor) → IsSupported (filter test cut) x → IsSupported cut x
  widened x (by_start x' of start) = by_start x (of_filter test cut x of).0 start
  widened x (by_step p x' chain of step) = by_step p x (widened p chain) (of_filter test cut x of).0 step

  same_support : (x : Descriptor) → Among x cut → test x ≡ true → is_supported cut x ≡ is_supported (filter test cut) x
  same_support x of passes = either_way (is_supported cut x) (is_supported (filter test cut) x)
      (λ h. support_found (filter test cut) x (narrowed x (found_support cut x of h) passes))
      (λ h. support_found cut x (widened x (found_support (filter test cut) x (into_filter test cut x of passes) h)))

  held_of_cut : held (filter test cut) ≡ filter test (held cut)
  held_of_cut = sym (filter_twice test (is_supported cut) (is_supported (filter test cut)) cut same_support)

  -- what is abandoned is for the table
  lost_passes : (x : Descriptor) → Among x (abandoned cut) → test x ≡ true
  lost_passes x of = go (test x) refl where
    lost : Among x cut × (not (is_supported cut x) ≡ true)
    lost = of_filter (λ (y : Descriptor). not (is_supported cut y)) cut x of

    go : (b : Bool) → test x ≡ b → test x ≡ true
    go true c = c
    go false c = absurd (both_ways (is_supported cut x) (not-true (is_supported cut x) lost.1)
        (support_found cut x (chain_stays name ns set own option all x (all x (was name ns set own option all x lost.0 c)) c)))

  same_lost : abandoned (filter test cut) ≡ abandoned cut
  same_lost = sym (filter_twice test (λ (x : Descriptor). not (is_supported cut x)) (λ (x : Descriptor). not (is_supported (filter test cut) x)) cut (λ x of passes. ap not (same_support x of passes)))
      ∙ keep_all test (abandoned cut) lost_passes

  by_behavior : (cascade : Bool) (lost : List Descriptor) → held_or_refused cascade (filter test cut) lost ≡ (held_or_refused cascade cut lost >>= λ new. Ok (filter test new))
  by_behavior true lost = ap (λ (ds : List Descriptor). Ok ds) held_of_cut
  by_behavior false [] = refl
  by_behavior false (x ∷ xs) = refl

  pub revoked_alone : (behavior : Option DropBehavior) → revoked option behavior ns (filter test set) ≡ (revoked option behavior ns set >>= λ new. Ok (filter test new))
  revoked_alone behavior =
      ap (λ (zs : List Descriptor). held_or_refused (is_cascade behavior) zs (abandoned zs)) (cut_alone option)
      ∙ ap (held_or_refused (is_cascade behavior) (filter test cut)) same_lost ∙ by_behavior (is_cascade behavior) (abandoned cut)

bind_same : {A B : Type 0} (r : Result A SqlState) (f g : A → Result B SqlState) (h : B → Result B SqlState) → ((a : A) → r ≡ Ok a → f a ≡ (g a >>= h)) → (r >>= f) ≡ ((r >>= g) >>= h)
bind_same (Ok a) f g h each = each a refl
bind_same (Err code) f g h each = refl

module _ (d : Definitions) (db : Database) (users : UserNames) (s : Revoke) (t : TableDefinition) (described : Describes d db) (found : IsTableOf d s.table t) where
  abbrev own_is : filter (is_for_table t.definition.name) db.descriptors ≡ t.descriptors
  own_is = own_descriptors d db described s.table t found

  its_name : s.table ≡ t.definition.name
  its_name = sym (named d db described s.table t found)

  abbrev named_in : Database → TableOf → List Descriptor
  named_in z table = granted_by z users.current table (privileges_of table.layout s.privileges) s.grantees false

  abbrev checked_with : TableOf → List Descriptor → Result CheckedRevoke SqlState
  checked_with table ds = Ok (record { table = table; descriptors = ds })

  abbrev narrow : CheckedRevoke → Result CheckedRevoke SqlState
  narrow c = Ok (record { table = c.table; descriptors = filter (is_for_table t.definition.name) c.descriptors })

  both_narrow : (table : TableOf) (r : Result (List Descriptor) SqlState) → ((r >>= λ new. Ok (filter (is_for_table t.definition.name) new)) >>= checked_with table) ≡ ((r >>= checked_with table) >>= narrow)
  both_narrow table (Ok ds) = refl
  both_narrow table (Err code) = refl

  same_revoked : (table : TableOf) → table.name ≡ t.definition.name
      → (revoked s.grant_option_for s.behavior (named_in (alone t db) table) t.descriptors >>= checked_with table) ≡ ((revoked s.grant_option_for s.behavior (named_in db table) db.descriptors >>= checked_with table) >>= narrow)
  same_revoked table same =
      ap (λ (ns : List Descriptor). revoked s.grant_option_for s.behavior ns t.descriptors >>= checked_with table) (same_named db users.current t.definition.name t.descriptors own_is table same (privileges_of table.layout s.privileges) s.grantees false)
      ∙ ap (λ (set : List Descriptor). revoked s.grant_option_for s.behavior (named_in db table) set >>= checked_with table) (sym own_is)
      ∙ ap (λ (r : Result (List Descriptor) SqlState). r >>= checked_with table) (revoked_alone t.definition.name (named_in db table) db.descriptors
      (λ x of. named_for_table db users.current table (privileges_of table.layout s.privileges) s.grantees false x of ∙ same) s.grant_option_for
      (λ x of. ((whole d db described).definitions.descriptors.descriptors x of).supported) s.behavior)
      ∙ both_narrow table (revoked s.grant_option_for s.behavior (named_in db table) db.descriptors)

  same_revoke_checks : checked_revoke (alone t db) users s ≡ (checked_revoke db users s >>= narrow)
  same_revoke_checks = bind_same (find_definition db s.table) _ _ narrow (λ table at. bind_same (require_roles db (grantee_roles s.grantees)) _ _ narrow (λ n known.
      bind_same (each (found_column table.layout) (columns_named s.privileges)) _ _ narrow (λ c there.
      ap (λ (b : Bool). require b InsufficientPrivilege >>= λ m. revoked s.grant_option_for s.behavior (named_in (alone t db) table) t.descriptors >>= checked_with table)
      (same_privilege db users.current t.definition.name t.descriptors own_is s.table its_name)
      ∙ bind_same (require (has_some_privilege db users.current s.table) InsufficientPrivilege) _ _ narrow (λ m allowed. same_revoked table ((found_definition db s.table table at).own ∙ its_name)))))

  abbrev left_in : Database → CheckedRevoke → Effect
  left_in z c = warned tag.Revoke (leaves_out z users.current c.table s.privileges) warning.PrivilegeNotRevoked (record z { descriptors = c.descriptors })

  pub revoke_alone : AgreesAlone t d db (revoke db users s) (revoke (alone t db) users s)
  revoke_alone = subst (λ (r : Result CheckedRevoke SqlState). AgreesAlone t d db (revoke db users s) (r >>= λ c. Ok (left_in (alone t db) c))) (sym same_revoke_checks) (go (checked_revoke db users s) refl) where
    go : (r : Result CheckedRevoke SqlState) → checked_revoke db users s ≡ r → AgreesAlone t d db (revoke db users s) ((r >>= narrow) >>= λ c. Ok (left_in (alone t db) c))
    go (Err code) e = ap (λ (r : Result CheckedRevoke SqlState). r >>= λ c. Ok (left_in db c)) e
    go (Ok c) e =
        let done : revoke db users s ≡ Ok (left_in db c) = ap (λ (r : Result CheckedRevoke SqlState). r >>= λ x. Ok (left_in db x)) e in
        let same : c.table.name ≡ t.definition.name = revoked_table db users s c e ∙ its_name in
        record {
          effect = left_in db c;
          done = done;
          answer = one_answer tag.Revoke (leaves_out db users.current c.table s.privileges) (leaves_out (alone t db) users.current c.table s.privileges) warning.PrivilegeNotRevoked _ _
              (sym (same_left_out db users.current t.definition.name t.descriptors own_is c.table same s.privileges));
          makes = subst (λ (ds : List Descriptor). Makes (change.PutTable (record t { descriptors = ds })) d db (left_in db c).database)
              (ap (λ (z : Database). filter (is_for_table t.definition.name) z.descriptors) (after_warning tag.Revoke (leaves_out db users.current c.table s.privileges) warning.PrivilegeNotRevoked (record db { descriptors = c.descriptors }))
              ∙ sym (ap (λ (z : Database). z.descriptors) (after_warning tag.Revoke (leaves_out (alone t db) users.current c.table s.privileges) warning.PrivilegeNotRevoked (record (alone t db) { descriptors = filter (is_for_table t.definition.name) c.descriptors }))))
              (revoke_done d db users s t (left_in db c) described found done);
        }
