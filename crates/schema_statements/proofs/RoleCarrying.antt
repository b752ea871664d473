-- A statement that changes the roles and memberships of each database, and leaves it whole, is carried out.
use Rattle.std.proofs.Common.{◌≡◌, List, Ok, sym, ap, subst}
use Rattle.sql_types.specs.declared.answer.Answer.{Answer}
use Rattle.sql_ast.specs.declared.role.Role.{Role}
use Rattle.sql_ast.specs.declared.role.Membership.{Membership}
use Rattle.expressions.specs.Meaning.{UserNames}
use Rattle.store.specs.Records.{Records, Changes, applied}
use Rattle.store.proofs.Changes.{ordered_applied}
use Rattle.abstract_database.specs.Database.{Database}
use Rattle.abstract_database.specs.Statements.{effect}
use Rattle.abstract_database.specs.Whole.{IsWhole}
use Rattle.stored_database.specs.Definitions.{Definitions, database_with}
use Rattle.stored_database.specs.Valid.{Describes}
use Rattle.stored_database.specs.Records.{Shows}
use Rattle.stored_database.proofs.Wholeness.{whole_without_rows}
use Rattle.catalogue.specs.declared.change.SchemaChange.{SchemaChange}
use Rattle.catalogue.specs.Changes.{changed}
use Rattle.catalogue_changes.specs.SchemaChanges.{IsChanged, ChangeFits, record_changes, Leads}
use Rattle.catalogue_changes.specs.Entries.{Adds}
use Rattle.catalogue.specs.Executed.{Execution}
use Rattle.catalogue_changes.specs.Carried.{Carries}

-- ---- the next definitions

abbrev pub with_people : List Role → List Membership → Definitions → Definitions
with_people roles memberships d = record d { roles = roles; memberships = memberships }

pub people_described : (d : Definitions) (db : Database) (roles : List Role) (memberships : List Membership) → Describes d db →
    IsWhole (record db { roles = roles; memberships = memberships }) → Describes (with_people roles memberships d) (record db { roles = roles; memberships = memberships })
people_described d db roles memberships h whole =
    let is : record db { roles = roles; memberships = memberships } ≡ database_with (with_people roles memberships d) h.rows = ap (λ (x : Database). record x { roles = roles; memberships = memberships }) h.is in
    record {
      valid = record {
        whole = whole_without_rows (with_people roles memberships d) h.rows h.each_table (subst IsWhole is whole);
        tables = h.valid.tables;
        ids = h.valid.ids;
        conditions = h.valid.conditions;
      };
      rows = h.rows;
      each_table = h.each_table;
      is = is;
      whole_rows = whole.rows;
    }

-- ---- what a statement makes

-- in this database the statement makes the change, and leaves it whole
pub record Makes (run : Execution) (c : SchemaChange) (d : Definitions) (answer : Answer) (db : Database) (users : UserNames) : Type 0 where
  pub after : Database
  pub effects : run db users ≡ Ok (effect answer after)
  pub changes : IsChanged c db after
  pub whole : IsWhole after
  pub describes : Describes (changed c d) after

pub carries : (who : UserNames → Type 0) (run : Execution) (c : SchemaChange) (d : Definitions) (answer : Answer) (old new : Changes) → Leads c → ChangeFits c d →
    ((records : Records) → Adds (record_changes c d records) old new) →
    ((db : Database) (users : UserNames) → Describes d db → who users → Makes run c d answer db users) → Carries who run d answer (changed c d) old new
carries who run c d answer old new leads fits adds makes db users h by =
    let m = makes db users h by in
    record {
      after = m.after;
      effects = m.effects;
      describes = m.describes;
      leads = λ records o s.
          subst (λ (r : Records). Shows r (changed c d) m.after) (sym (adds (applied old records) records o))
          (leads (applied old records) d db m.after (ordered_applied old records o) s fits m.changes m.whole);
    }
