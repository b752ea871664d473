-- CREATE POLICY and DROP POLICY in each database of the definitions.
use Rattle.std.proofs.Common.{◌≡◌, Bool, true, false, not, cond, ◌&&◌, ◌||◌, List, [], ◌∷◌, ◌++◌, filter, find, bytes_eq, unwrap_or, Option, Some, None, Result, Ok, Err, refl, sym, ap, ◌∙◌, subst, inl, inr}
use Rattle.std.specs.Prelude.{option_to_list}
use Rattle.std.specs.List.{list_any, AllByRecursion}
use Rattle.std.specs.Option.{option_map}
use Rattle.sql_types.specs.declared.answer.Answer.TheVariants.{Done}
use Rattle.sql_types.specs.declared.tag.Tag.TheVariants as tag
use Rattle.sql_types.specs.declared.state.Refusal.{Refusal}
use Rattle.sql_types.specs.declared.state.SqlState.{SqlState}
use Rattle.sql_types.specs.declared.state.SqlState.TheVariants.{UndefinedTable, UndefinedObject, DuplicateObject, InsufficientPrivilege, ProgramLimitExceeded}
use Rattle.sql_ast.specs.declared.policy.Policy.{Policy}
use Rattle.sql_ast.specs.declared.statement.DatabaseStatement.TheVariants as on_database
use Rattle.sql_ast.specs.declared.statement.DefiningStatement.TheVariants as defining
use Rattle.sql_ast.specs.declared.statement.CreatePolicy.{CreatePolicy}
use Rattle.sql_ast.specs.declared.statement.DropPolicy.{DropPolicy}
use Rattle.sql_ast.specs.Read.{IsReadCreatePolicy}
use Rattle.expr_parser.specs.Written.{IsAsWritten}
use Rattle.expressions.specs.Meaning.{UserNames}
use Rattle.expressions.specs.Stages.{◌>>=◌, require}
use Rattle.expressions.specs.Parts.{resolve_parts, check_expressions}
use Rattle.abstract_database.specs.Lists.{TheName, found_or}
use Rattle.abstract_database.specs.Database.{TableOf, Database, is_policy_named, definition_named}
use Rattle.abstract_database.specs.Roles.{acts_as_owner}
use Rattle.abstract_database.specs.Definitions.{policy_of, with_policy, without_policy}
use Rattle.abstract_database.specs.Checks.{require_roles, grantee_roles, policy_parts, checked_create_policy, checked_drop_policy}
use Rattle.abstract_database.specs.Statements.{Effect, done, create_policy, drop_policy}
use Rattle.abstract_database.proofs.ListLemmas.{bytes_same}
use Rattle.stored_database.specs.Definitions.{TableDefinition, Definitions, database_with, database_of}
use Rattle.stored_database.specs.Valid.{Describes}
use Rattle.stored_database.proofs.Wholeness.{described_whole}
use Rattle.database_laws.proofs.OrderLemmas.{ordered}
use Rattle.database_laws.proofs.WholeLists.{each_of}
use Rattle.database_laws.proofs.WholeRoles.{whole_of}
use Rattle.database_laws.proofs.WholePolicies.{create_policy_whole, drop_policy_whole}
use Rattle.catalogue.specs.Lookups.{is_definition_named}
use Rattle.catalogue_changes.specs.Carried.{IsCurrent, Refuses}
use Rattle.catalogue.specs.declared.change.SchemaChange.TheVariants as change
use Rattle.catalogue_changes.specs.StatementChanges.{IsTableOf, with_one_policy, without_one_policy}
use Rattle.catalogue_changes.proofs.PartBridgeLemmas.{create_policy_done, drop_policy_done}
use Rattle.catalogue_changes.proofs.TableBridgeLemmas.{found_among, is_of_table, own_policies}
use Rattle.schema_statements.specs.Refusing.{IsRightRefusal}
use Rattle.schema_statements.proofs.TableCarrying.{IsMade}
use Rattle.schema_statements.proofs.Owning.{found_alike}
use Rattle.schema_statements.specs.PolicyChecks.{keeps_limits, may_create, may_drop}

-- ---- the table of a statement

pub named_as : (d : Definitions) (name : TheName) (t : TableDefinition) → IsTableOf d name t → t.definition.name ≡ name
named_as d name t found = bytes_same t.definition.name name (found_among (is_definition_named name) d.tables t found).1

-- a policy of a table's name is among those of the table
among_own : (name policy : TheName) (all : List Policy) → list_any (is_policy_named name policy) all ≡ list_any (is_policy_named name policy) (filter (is_of_table name) all)
among_own name policy [] = refl
among_own name policy (p ∷ ps) = go (bytes_eq p.table name) refl (among_own name policy ps) where
  go : (b : Bool) → bytes_eq p.table name ≡ b → list_any (is_policy_named name policy) ps ≡ list_any (is_policy_named name policy) (filter (is_of_table name) ps)
      → (is_policy_named name policy p || list_any (is_policy_named name policy) ps) ≡ list_any (is_policy_named name policy) (cond b (p ∷ filter (is_of_table name) ps) (filter (is_of_table name) ps))
  go true is later = ap (λ (b : Bool). is_policy_named name policy p || b) later
  go false is later = ap (λ (b : Bool). (b && bytes_eq p.name policy) || list_any (is_policy_named name policy) ps) is ∙ later

module _ (d : Definitions) (name : TheName) (t : TableDefinition) (found : IsTableOf d name t) where
  there_alike : (db : Database) (policy : TheName) → Describes d db → list_any (is_policy_named name policy) db.policies ≡ list_any (is_policy_named name policy) t.policies
  there_alike db policy h =
      among_own name policy db.policies
      ∙ ap (λ (n : TheName). list_any (is_policy_named name policy) (filter (is_of_table n) db.policies)) (sym (named_as d name t found))
      ∙ ap (list_any (is_policy_named name policy)) (own_policies d db h name t found)

  definition_alike : (db : Database) → Describes d db → definition_named db name ≡ Some t.definition
  definition_alike db h = found_alike d db name h ∙ ap (option_map (λ (u : TableDefinition). u.definition)) found

not_found : (d : Definitions) (db : Database) (name : TheName) → Describes d db → find (is_definition_named name) d.tables ≡ None → definition_named db name ≡ None
not_found d db name h none = found_alike d db name h ∙ ap (option_map (λ (u : TableDefinition). u.definition)) none

-- ---- DROP POLICY

abbrev drop_steps : Bool → Bool → Result (Unit {0}) SqlState
drop_steps there may = require there UndefinedObject >>= λ is. require may InsufficientPrivilege

module _ (d : Definitions) (current : TheName) (s : DropPolicy) where
  abbrev drop_over : Database → TheName → Bool → Option TableOf → Result (Unit {0}) SqlState
  drop_over db role there o = found_or UndefinedTable o >>= λ (table : TableOf). require there UndefinedObject >>= λ is. require (acts_as_owner db role table.owner) InsufficientPrivilege

  abbrev then_dropped : Database → Result (Unit {0}) SqlState → Result Effect SqlState
  then_dropped db r = r >>= λ free. Ok (done tag.DropPolicy (without_policy s.table s.policy db))

  pub drop_on_none : find (is_definition_named s.table) d.tables ≡ None → Refuses (IsCurrent current) (λ db users. drop_policy db users s) d (record { 0 = UndefinedTable })
  drop_on_none none = inr (λ db users h by.
      ap (λ (o : Option TableOf). then_dropped db (drop_over db users.current (list_any (is_policy_named s.table s.policy) db.policies) o)) (not_found d db s.table h none))

  module _ (t : TableDefinition) (found : IsTableOf d s.table t) where
    drop_alike : (db : Database) (users : UserNames) → Describes d db → users.current ≡ current → checked_drop_policy db users s ≡ may_drop d current t s
    drop_alike db users h by =
        ap (λ (x : Database). drop_over x users.current (list_any (is_policy_named s.table s.policy) db.policies) (definition_named db s.table)) h.is
        ∙ ap (λ (n : TheName). drop_over (database_with d h.rows) n (list_any (is_policy_named s.table s.policy) db.policies) (definition_named db s.table)) by
        ∙ ap (λ (b : Bool). drop_over (database_with d h.rows) current b (definition_named db s.table)) (there_alike d s.table t found db s.policy h)
        ∙ ap (drop_over (database_with d h.rows) current (list_any (is_policy_named s.table s.policy) t.policies)) (definition_alike d s.table t found db h)

    pub refused_to_drop : (refusal : Refusal) → IsRightRefusal refusal (may_drop d current t s) → Refuses (IsCurrent current) (λ db users. drop_policy db users s) d refusal
    refused_to_drop refusal (inl memory) = inl memory
    refused_to_drop refusal (inr e) = inr (λ db users h by. ap (then_dropped db) (drop_alike db users h by ∙ e))

    pub drops : may_drop d current t s ≡ Ok tt → (db : Database) (users : UserNames) → Describes d db → users.current ≡ current →
        IsMade (λ db users. drop_policy db users s) (change.PutTable (without_one_policy s.policy t)) d (Done tag.DropPolicy None None) db users
    drops allowed db users h by =
        let after = without_policy s.table s.policy db in
        let is : drop_policy db users s ≡ Ok (done tag.DropPolicy after) = ap (then_dropped db) (drop_alike db users h by ∙ allowed) in
        record {
          after = after;
          effects = is;
          makes = drop_policy_done d db users s t h found (done tag.DropPolicy after) is;
          whole = whole_of after (ordered db users (on_database.Defining (defining.DropPolicy s)) (done tag.DropPolicy after) is (described_whole d db h).definitions.order)
              (drop_policy_whole db users s (described_whole d db h) (done tag.DropPolicy after) is);
        }

    -- what is found of the policy and the owner
    module _ (has : Bool) (has_it : has ≡ list_any (is_policy_named t.definition.name s.policy) t.policies) where
      has_is : list_any (is_policy_named s.table s.policy) t.policies ≡ has
      has_is = ap (λ (n : TheName). list_any (is_policy_named n s.policy) t.policies) (sym (named_as d s.table t found)) ∙ sym has_it

      pub no_policy : has ≡ false → may_drop d current t s ≡ Err UndefinedObject
      no_policy e = ap (λ (b : Bool). drop_steps b (acts_as_owner (database_of d) current t.definition.owner)) (has_is ∙ e)

      module _ (owner : TheName) (owned : owner ≡ t.definition.owner) (may : Bool) (may_act : may ≡ acts_as_owner (database_of d) current owner) (there : has ≡ true) where
        by_steps : may_drop d current t s ≡ drop_steps true may
        by_steps =
            ap (λ (b : Bool). drop_steps b (acts_as_owner (database_of d) current t.definition.owner)) (has_is ∙ there)
            ∙ ap (λ (n : TheName). drop_steps true (acts_as_owner (database_of d) current n)) (sym owned) ∙ ap (drop_steps true) (sym may_act)

        pub not_owner : may ≡ false → may_drop d current t s ≡ Err InsufficientPrivilege
        not_owner e = by_steps ∙ ap (drop_steps true) e

        pub dropped : may ≡ true → may_drop d current t s ≡ Ok tt
        dropped e = by_steps ∙ ap (drop_steps true) e

-- ---- CREATE POLICY

abbrev passed : Result (Unit {0}) SqlState
passed = Ok tt

-- two stages and what comes after them
grouped : {A B : Type 0} (r : Result A SqlState) (q : Result B SqlState) (later : Result (Unit {0}) SqlState) → (r >>= λ x. q >>= λ y. later) ≡ ((r >>= λ x. q >>= λ y. passed) >>= λ z. later)
grouped (Ok x) (Ok y) later = refl
grouped (Ok x) (Err code) later = refl
grouped (Err code) q later = refl

module _ (d : Definitions) (current : TheName) (s : CreatePolicy) where
  abbrev create_over : Database → TheName → Bool → Option TableOf → Result (Unit {0}) SqlState
  create_over db role there o =
      found_or UndefinedTable o >>= λ (table : TableOf). require_roles db (grantee_roles (unwrap_or s.grantees [])) >>= λ known. require (not there) DuplicateObject >>= λ new.
      resolve_parts (policy_parts table s) >>= λ found. check_expressions (policy_parts table s) >>= λ typed.
      require (acts_as_owner db role table.owner) InsufficientPrivilege >>= λ allowed. require (keeps_limits (policy_of s)) ProgramLimitExceeded

  abbrev then_created : Database → Result (Unit {0}) SqlState → Result Effect SqlState
  then_created db r = r >>= λ free. Ok (done tag.CreatePolicy (with_policy (policy_of s) db))

  pub create_on_none : find (is_definition_named s.table) d.tables ≡ None → Refuses (IsCurrent current) (λ db users. create_policy db users s) d (record { 0 = UndefinedTable })
  create_on_none none = inr (λ db users h by.
      ap (λ (o : Option TableOf). then_created db (create_over db users.current (list_any (is_policy_named s.table s.policy) db.policies) o)) (not_found d db s.table h none))

  module _ (t : TableDefinition) (found : IsTableOf d s.table t) where
    create_alike : (db : Database) (users : UserNames) → Describes d db → users.current ≡ current → checked_create_policy db users s ≡ may_create d current t s
    create_alike db users h by =
        ap (λ (x : Database). create_over x users.current (list_any (is_policy_named s.table s.policy) db.policies) (definition_named db s.table)) h.is
        ∙ ap (λ (n : TheName). create_over (database_with d h.rows) n (list_any (is_policy_named s.table s.policy) db.policies) (definition_named db s.table)) by
        ∙ ap (λ (b : Bool). create_over (database_with d h.rows) current b (definition_named db s.table)) (there_alike d s.table t found db s.policy h)
        ∙ ap (create_over (database_with d h.rows) current (list_any (is_policy_named s.table s.policy) t.policies)) (definition_alike d s.table t found db h)
        ∙ ap (λ (r : Result (Unit {0}) SqlState). require_roles (database_of d) (grantee_roles (unwrap_or s.grantees [])) >>= λ known. require (not (list_any (is_policy_named s.table s.policy) t.policies)) DuplicateObject >>= λ new. r)
        (grouped (resolve_parts (policy_parts t.definition s)) (check_expressions (policy_parts t.definition s))
        (require (acts_as_owner (database_of d) current t.definition.owner) InsufficientPrivilege >>= λ allowed. require (keeps_limits (policy_of s)) ProgramLimitExceeded))

    pub refused_to_create : (refusal : Refusal) → IsRightRefusal refusal (may_create d current t s) → Refuses (IsCurrent current) (λ db users. create_policy db users s) d refusal
    refused_to_create refusal (inl memory) = inl memory
    refused_to_create refusal (inr e) = inr (λ db users h by. ap (then_created db) (create_alike db users h by ∙ e))

    pub creates : may_create d current t s ≡ Ok tt → IsReadCreatePolicy s → AllByRecursion IsAsWritten (option_to_list s.using ++ option_to_list s.check)
        → (db : Database) (users : UserNames) → Describes d db → users.current ≡ current →
        IsMade (λ db users. create_policy db users s) (change.PutTable (with_one_policy (policy_of s) t)) d (Done tag.CreatePolicy None None) db users
    creates allowed read written db users h by =
        let after = with_policy (policy_of s) db in
        let is : create_policy db users s ≡ Ok (done tag.CreatePolicy after) = ap (then_created db) (create_alike db users h by ∙ allowed) in
        record {
          after = after;
          effects = is;
          makes = create_policy_done d db users s t h found (each_of IsAsWritten (option_to_list s.using ++ option_to_list s.check) written) (done tag.CreatePolicy after) is;
          whole = whole_of after (ordered db users (on_database.Defining (defining.CreatePolicy s)) (done tag.CreatePolicy after) is (described_whole d db h).definitions.order)
              (create_policy_whole db users s read (described_whole d db h) (done tag.CreatePolicy after) is);
        }
