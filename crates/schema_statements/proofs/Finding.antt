-- The table of a statement, and what is around its descriptors, in each database of the definitions.
use Rattle.std.proofs.Common.{◌≡◌, ◌⊎◌, Bool, true, false, cond, List, [], ◌∷◌, find, Option, Some, None, Ok, Err, inl, inr, refl, sym, ap, ◌∙◌, subst}
use Rattle.std.specs.Option.{option_map}
use Rattle.sql_types.specs.Row.{Row}
use Rattle.sql_types.specs.declared.state.SqlState.TheVariants.{UndefinedTable, OutOfMemory}
use Rattle.sql_types.specs.declared.state.Refusal.{Refusal}
use Rattle.sql_types.specs.declared.tag.Tag.{Tag}
use Rattle.sql_types.specs.declared.warning.Warning.{Warning}
use Rattle.sql_ast.specs.declared.role.Role.{Role}
use Rattle.sql_ast.specs.declared.role.Membership.{Membership}
use Rattle.sql_ast.specs.declared.privilege.Descriptor.{Descriptor}
use Rattle.sql_ast.specs.declared.statement.DatabaseStatement.TheVariants as on_database
use Rattle.sql_ast.specs.declared.statement.DefiningStatement.TheVariants as defining
use Rattle.sql_ast.specs.Read.{IsReadGrant}
use Rattle.sql_ast.specs.declared.statement.Grant.{Grant}
use Rattle.sql_ast.specs.declared.statement.Revoke.{Revoke}
use Rattle.expressions.specs.Meaning.{UserNames}
use Rattle.abstract_database.specs.Lists.{TheName, found_or}
use Rattle.abstract_database.specs.Database.{Table, Database, is_table_named, table_named}
use Rattle.abstract_database.specs.Checks.{find_definition}
use Rattle.abstract_database.specs.Statements.{grant, revoke}
use Rattle.stored_database.specs.Definitions.{TableDefinition, Definitions, table_with, tables_with}
use Rattle.stored_database.specs.Valid.{Describes}
use Rattle.stored_database.proofs.Wholeness.{described_whole}
use Rattle.database_laws.proofs.OrderLemmas.{ordered}
use Rattle.database_laws.proofs.WholeRoles.{whole_of}
use Rattle.database_laws.proofs.WholePrivileges.{grant_whole, revoke_whole}
use Rattle.catalogue.specs.Lookups.{is_definition_named}
use Rattle.catalogue.specs.Executed.{Execution}
use Rattle.catalogue_changes.specs.Carried.{IsCurrent, Refuses}
use Rattle.catalogue_changes.specs.StatementChanges.{IsTableOf}
use Rattle.abstract_database.proofs.ListLemmas.{bytes_same}
use Rattle.catalogue.specs.Descriptors.{DescriptorsChanged}
use Rattle.catalogue_changes.specs.DescriptorChanges.{IsChangeOf}
use Rattle.catalogue_changes.proofs.TableBridgeLemmas.{table_there, found_among}
use Rattle.catalogue_changes.proofs.AloneLemmas.{grant_alone, revoke_alone}
use Rattle.schema_statements.specs.PrivilegeDescriptors.{Around, database_in, carried_out}
use Rattle.schema_statements.specs.Alone.{LeavesAlone, IsRefusedAlone}
use Rattle.schema_statements.specs.PrivilegeStatements.{table_of, run_of, IsRead}
use Rattle.schema_statements.specs.declared.privilege_statement.PrivilegeStatement.{PrivilegeStatement}
use Rattle.schema_statements.specs.declared.privilege_statement.PrivilegeStatement.TheVariants as statement
use Rattle.schema_statements.proofs.PrivilegeCarrying.{ConcernsTable}

-- ---- no table of this name

none_with_rows : (name : TheName) (ts : List TableDefinition) (rows : List (List Row)) → find (is_definition_named name) ts ≡ None → find (is_table_named name) (tables_with ts rows) ≡ None
none_with_rows name [] rows e = refl
none_with_rows name (t ∷ ts) [] e = refl
none_with_rows name (t ∷ ts) (r ∷ rows) e = go (is_definition_named name t) e (none_with_rows name ts rows) where
  go : (b : Bool) → cond b (Some t) (find (is_definition_named name) ts) ≡ None
      → (find (is_definition_named name) ts ≡ None → find (is_table_named name) (tables_with ts rows) ≡ None)
      → cond b (Some (table_with t r)) (find (is_table_named name) (tables_with ts rows)) ≡ None
  go true f later = cc
  go false f later = later f

not_found : (d : Definitions) (db : Database) (name : TheName) → Describes d db → find (is_definition_named name) d.tables ≡ None → find_definition db name ≡ Err UndefinedTable
not_found d db name h e =
    ap (λ (o : Option Table). found_or UndefinedTable (option_map (λ (t : Table). t.definition) o)) (ap (λ (x : Database). table_named x name) h.is ∙ none_with_rows name d.tables h.rows e)

grant_on_none : (d : Definitions) (current : TheName) (s : Grant) → find (is_definition_named s.table) d.tables ≡ None → Refuses (IsCurrent current) (λ db users. grant db users s) d (record { 0 = UndefinedTable })
grant_on_none d current s e = inr (λ db users h by. rw (not_found d db s.table h e) refl)

revoke_on_none : (d : Definitions) (current : TheName) (s : Revoke) → find (is_definition_named s.table) d.tables ≡ None → Refuses (IsCurrent current) (λ db users. revoke db users s) d (record { 0 = UndefinedTable })
revoke_on_none d current s e = inr (λ db users h by. rw (not_found d db s.table h e) refl)

-- ---- the statements concern their table

grant_concerns : (d : Definitions) (s : Grant) (t : TableDefinition) → IsReadGrant s → IsTableOf d s.table t → ConcernsTable (λ db users. grant db users s) d t
grant_concerns d s t read found = record {
  agrees = λ db users h. grant_alone d db users s t h found;
  whole = λ db users e h is.
      whole_of e.database (ordered db users (on_database.Defining (defining.Grant s)) e is (described_whole d db h).definitions.order)
      (grant_whole db users s read (described_whole d db h) e is);
}

revoke_concerns : (d : Definitions) (s : Revoke) (t : TableDefinition) → IsTableOf d s.table t → ConcernsTable (λ db users. revoke db users s) d t
revoke_concerns d s t found = record {
  agrees = λ db users h. revoke_alone d db users s t h found;
  whole = λ db users e h is.
      whole_of e.database (ordered db users (on_database.Defining (defining.Revoke s)) e is (described_whole d db h).definitions.order)
      (revoke_whole db users s (described_whole d db h) e is);
}

-- ---- each of them

pub on_none : (d : Definitions) (current : TheName) (s : PrivilegeStatement) → find (is_definition_named (table_of s)) d.tables ≡ None → Refuses (IsCurrent current) (run_of s) d (record { 0 = UndefinedTable })
on_none d current (statement.Grant s) e = grant_on_none d current s.now e
on_none d current (statement.Revoke s) e = revoke_on_none d current s.now e

pub concerns_table : (d : Definitions) (s : PrivilegeStatement) (t : TableDefinition) → IsRead s → IsTableOf d (table_of s) t → ConcernsTable (run_of s) d t
concerns_table d (statement.Grant s) t read found = grant_concerns d s.now t read found
concerns_table d (statement.Revoke s) t read found = revoke_concerns d s.now t found

-- the table of a name has it
pub named_as : (d : Definitions) (name : TheName) (t : TableDefinition) → IsTableOf d name t → name ≡ t.definition.name
named_as d name t found = sym (bytes_same t.definition.name name (found_among (is_definition_named name) d.tables t found).1)

-- a change of the table is one of the table of the name
pub change_found : (d : Definitions) (name : TheName) (t : TableDefinition) → IsTableOf d name t → (c : DescriptorsChanged) → IsChangeOf t c → IsTableOf d c.table t
change_found d name t found c change =
    subst (λ (n : TheName). IsTableOf d n t) (sym (change.table ∙ sym (named_as d name t found))) found

-- ---- what is around the descriptors

abbrev with_parts : Database → List Role → List Membership → List Descriptor → Database
with_parts db roles memberships descriptors = record db { roles = roles; memberships = memberships; descriptors = descriptors }

same_parts : (db : Database) (rs qs : List Role) (ms ns : List Membership) (ds es : List Descriptor) → rs ≡ qs → ms ≡ ns → ds ≡ es → with_parts db rs ms ds ≡ with_parts db qs ns es
same_parts db rs qs ms ns ds es p q r =
    ap (λ (x : List Role). with_parts db x ms ds) p ∙ ap (λ (x : List Membership). with_parts db qs x ds) q ∙ ap (λ (x : List Descriptor). with_parts db qs ns x) r

module _ (current : TheName) (run : Execution) (d : Definitions) (name : TheName) (t : TableDefinition) (found : IsTableOf d name t)
    (roles : List Role) (same_roles : roles ≡ d.roles) (memberships : List Membership) (same_memberships : memberships ≡ d.memberships)
    (held : List Descriptor) (same_held : held ≡ t.descriptors) where
  abbrev around : (db : Database) (users : UserNames) → Describes d db → users.current ≡ current → Around name t.definition current
  around db users h by =
      let x = table_there name d.tables h.rows t h.each_table found in
      record {
        tables = db.tables;
        policies = db.policies;
        users = users;
        table = x.0;
        found = ap (λ (z : Database). find (is_table_named name) z.tables) h.is ∙ x.1;
        is = x.2;
        runs = by;
      }

  in_it : (db : Database) → Describes d db → (ds es : List Descriptor) → ds ≡ es → record db { descriptors = ds } ≡ with_parts db roles memberships es
  in_it db h ds es e =
      same_parts db db.roles roles db.memberships memberships ds es
      (ap (λ (z : Database). z.roles) h.is ∙ sym same_roles) (ap (λ (z : Database). z.memberships) h.is ∙ sym same_memberships) e

  pub leaves_alone : (tag : Tag) (warning : Option Warning) (new left : List Descriptor) → new ≡ left →
      ((a : Around name t.definition current) → run (database_in a roles memberships held) a.users ≡ Ok (carried_out tag warning (database_in a roles memberships new))) →
      LeavesAlone current run d t tag warning left
  leaves_alone tag warning new left same leaves db users h by =
      ap (λ (z : Database). run z users) (in_it db h t.descriptors held (sym same_held)) ∙ leaves (around db users h by)
      ∙ ap (λ (z : Database). Ok (carried_out tag warning z)) (sym (in_it db h left new (sym same)))

  pub is_refused_alone : (refusal : Refusal) → (refusal.0 ≡ OutOfMemory) ⊎ ((a : Around name t.definition current) → run (database_in a roles memberships held) a.users ≡ Err refusal.0) →
      IsRefusedAlone current run d t refusal
  is_refused_alone refusal (inl memory) = inl memory
  is_refused_alone refusal (inr refused) = inr (λ db users h by. ap (λ (z : Database). run z users) (in_it db h t.descriptors held (sym same_held)) ∙ refused (around db users h by))
