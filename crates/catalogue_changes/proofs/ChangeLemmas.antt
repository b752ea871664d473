-- All changes lead, and leave definitions of the database after them.
use Rattle.std.proofs.Common.{◌≡◌, List, sym, ap, ◌∙◌, subst}
use Rattle.sql_ast.specs.declared.role.Role.{Role}
use Rattle.sql_ast.specs.declared.role.Membership.{Membership}
use Rattle.store.specs.Records.{Records, Changes}
use Rattle.abstract_database.specs.Lists.{put, the_new, drop_where}
use Rattle.abstract_database.specs.Database.{Database, is_role_named, role_cmp}
use Rattle.abstract_database.specs.Whole.{IsWhole}
use Rattle.stored_database.specs.Definitions.{Definitions, TableDefinition}
use Rattle.stored_database.specs.Entries.{entries_of}
use Rattle.stored_database.specs.Valid.{Describes}
use Rattle.stored_database.specs.Records.{Shows}
use Rattle.stored_database.proofs.Spelled.{described_shown}
use Rattle.stored_database.proofs.Wholeness.{as_many, shown_described}
use Rattle.catalogue.specs.Tables.{HasOrderedParts}
use Rattle.catalogue.proofs.ValidDefinitions.{parts_in_order}
use Rattle.catalogue.specs.declared.change.SchemaChange.{SchemaChange}
use Rattle.catalogue.specs.declared.change.SchemaChange.TheVariants as change
use Rattle.catalogue.specs.Changes.{changed, concerns}
use Rattle.catalogue.specs.Descriptors.{DescriptorsChanged, table_after}
use Rattle.catalogue_changes.specs.Differences.{applied_in_turn}
use Rattle.catalogue_changes.specs.SchemaChanges.{ChangeFits, IsChanged, Leads, record_changes}
use Rattle.catalogue_changes.proofs.SetLemmas.{has_table, set_changed, set_records}
use Rattle.catalogue_changes.proofs.TableListLemmas.{put_there}
use Rattle.catalogue_changes.proofs.RowChangeLemmas.{put_rows, drop_rows}
use Rattle.catalogue_changes.proofs.RoleChangeLemmas.{with_people, people_changed, valid_after as valid_people, is_after as is_people, put_role_leads, drop_role_leads, set_memberships_leads}
use Rattle.catalogue_changes.proofs.PutTableLemmas.{many_after as many_put, is_after as is_put, valid_after as valid_put, put_table_leads}
use Rattle.catalogue_changes.proofs.DropTableLemmas.{many_after as many_dropped, is_after as is_dropped, valid_after as valid_dropped, drop_table_leads}

-- a change of descriptors leads as the put of the table does
set_descriptors_leads : (c : DescriptorsChanged) → Leads (change.SetDescriptors c)
set_descriptors_leads c records d db after o s fits is whole =
    let described = shown_described records d db s in
    let put = has_table c d db after described fits is in
    subst (λ (e : Definitions). Shows (applied_in_turn (record_changes (change.SetDescriptors c) d records) records) e after) (sym (set_changed c d db after described fits))
    (subst (λ (cs : Changes). Shows (applied_in_turn cs records) (changed (change.PutTable (table_after c fits.table)) d) after) (set_records c d db after described fits put whole records)
    (put_table_leads (table_after c fits.table) records d db after o s fits.after put whole))

pub change_leads : (c : SchemaChange) → Leads c
change_leads (change.PutRole r) = put_role_leads r
change_leads (change.DropRole name) = drop_role_leads name
change_leads (change.SetMemberships ms) = set_memberships_leads ms
change_leads (change.PutTable t) = put_table_leads t
change_leads (change.DropTable name) = drop_table_leads name
change_leads (change.SetDescriptors c) = set_descriptors_leads c

module _ (d : Definitions) (db after : Database) (s : Describes d db) where
  abbrev records : Records
  records = entries_of d s.rows

  abbrev shown : Shows (entries_of d s.rows) d db
  shown = described_shown d db s

  people_described : (roles : List Role) (ms : List Membership) → after ≡ people_changed roles ms db → IsWhole after → Describes (with_people roles ms d) after
  people_described roles ms same whole =
      let there : IsWhole (people_changed roles ms db) = subst IsWhole same whole in
      record {
        valid = valid_people records d db shown roles ms there;
        rows = shown.rows;
        each_table = as_many records d.tables shown.rows shown.held;
        is = same ∙ is_people records d db shown roles ms there;
        whole_rows = whole.rows;
      }

  table_described : (t : TableDefinition) → ChangeFits (change.PutTable t) d → IsChanged (change.PutTable t) db after → IsWhole after → Describes (changed (change.PutTable t) d) after
  table_described t fits is whole = record {
    valid = valid_put t records d db after shown fits is whole;
    rows = put_rows t d.tables shown.rows;
    each_table = many_put t records d db after shown fits is whole;
    is = is_put t records d db after shown fits is whole;
    whole_rows = whole.rows;
  }

  pub change_described : (c : SchemaChange) → ChangeFits c d → IsChanged c db after → IsWhole after → Describes (changed c d) after
  change_described (change.PutRole r) fits is whole =
      people_described (put role_cmp the_new r d.roles) d.memberships (is ∙ ap (λ (z : Database). people_changed (put role_cmp the_new r z.roles) z.memberships db) s.is) whole
  change_described (change.DropRole name) fits is whole =
      people_described (drop_where (is_role_named name) d.roles) (drop_where (concerns name) d.memberships)
      (is ∙ ap (λ (z : Database). people_changed (drop_where (is_role_named name) z.roles) (drop_where (concerns name) z.memberships) db) s.is) whole
  change_described (change.SetMemberships ms) fits is whole = people_described d.roles ms (is ∙ ap (λ (z : Database). people_changed z.roles ms db) s.is) whole
  change_described (change.PutTable t) fits is whole = table_described t fits is whole
  change_described (change.DropTable name) fits is whole = record {
    valid = valid_dropped name records d db after shown fits is whole;
    rows = drop_rows name d.tables shown.rows;
    each_table = many_dropped name records d db after shown fits is whole;
    is = is_dropped name records d db after shown fits is whole;
    whole_rows = whole.rows;
  }
  change_described (change.SetDescriptors c) fits is whole =
      subst (λ (e : Definitions). Describes e after) (sym (set_changed c d db after s fits))
      (table_described (table_after c fits.table) fits.after (has_table c d db after s fits is) whole)

  pub put_in_order : (t : TableDefinition) → ChangeFits (change.PutTable t) d → IsChanged (change.PutTable t) db after → IsWhole after → HasOrderedParts t
  put_in_order t fits is whole = parts_in_order (changed (change.PutTable t) d) (table_described t fits is whole).valid t (put_there t d.tables)
