-- Changes of roles and memberships: all else stays.
use Rattle.std.proofs.Common.{◌≡◌, ℕ, Bool, List, [], map, refl, ap, sym, ◌∙◌, subst}
use Rattle.byteorder.specs.Endian.{big_bytes}
use Rattle.sql_ast.specs.declared.role.Role.{Role}
use Rattle.sql_ast.specs.declared.role.Membership.{Membership}
use Rattle.store.specs.Records.{Records, IsOrdered, entries_where, has_prefix}
use Rattle.row_codec.specs.Rows.{row_prefix}
use Rattle.abstract_database.specs.Lists.{TheName, put, the_new, drop_where}
use Rattle.abstract_database.specs.Database.{Database, is_role_named, role_cmp, membership_cmp}
use Rattle.abstract_database.specs.Whole.{IsWhole}
use Rattle.stored_database.specs.Definitions.{TableDefinition, Definitions, ids_of, database_with}
use Rattle.stored_database.specs.RecordFormat.{role_prefix, role_record, membership_prefix, membership_record, table_prefix, descriptor_prefix, policy_prefix}
use Rattle.stored_database.specs.Items.{IsStoredMembership}
use Rattle.stored_database.specs.Valid.{AreValid}
use Rattle.stored_database.specs.Records.{is_orphan, is_orphan_row, Shows}
use Rattle.stored_database.proofs.KeyOrder.{role_order, membership_order}
use Rattle.stored_database.proofs.Validity.{stored_memberships}
use Rattle.stored_database.proofs.Wholeness.{as_many, whole_without_rows}
use Rattle.catalogue_changes.specs.Differences.{applied_in_turn}
use Rattle.catalogue.specs.declared.change.SchemaChange.TheVariants as change
use Rattle.catalogue.specs.Changes.{changed, concerns}
use Rattle.catalogue_changes.specs.SchemaChanges.{role_changes, membership_changes, Leads}
use Rattle.entry_differences.proofs.DifferenceLemmas.{in_turn_append}
use Rattle.catalogue_changes.proofs.TurnLemmas.{AreApart, kinds_apart, roles_no_orphans, memberships_no_orphans, no_orphan_rows, IsTurned, turned, ordered_spelled, spelled_pass, rows_stay}

-- the definitions with these roles and memberships
abbrev pub with_people : List Role → List Membership → Definitions → Definitions
with_people roles memberships d = record d { roles = roles; memberships = memberships }

abbrev pub people_changed : List Role → List Membership → Database → Database
people_changed roles memberships db = record db { roles = roles; memberships = memberships }

-- what is apart from roles and memberships is as it was
abbrev Stays : Records → Records → Type 0
Stays old new = (q : List ℕ → Bool) → AreApart (has_prefix role_prefix) q → AreApart (has_prefix membership_prefix) q → entries_where q new ≡ entries_where q old

module _ (records : Records) (d : Definitions) (db : Database) (s : Shows records d db) (roles : List Role) (memberships : List Membership) (whole : IsWhole (people_changed roles memberships db)) where
  abbrev pub after : Definitions
  after = with_people roles memberships d

  pub is_after : people_changed roles memberships db ≡ database_with after s.rows
  is_after = ap (people_changed roles memberships) s.is

  pub valid_after : AreValid after
  valid_after = record {
    whole = whole_without_rows after s.rows (as_many records d.tables s.rows s.held) (subst IsWhole is_after whole);
    tables = s.defined.valid.tables;
    ids = s.defined.valid.ids;
    conditions = s.defined.valid.conditions;
  }

  -- the records of roles are turned
  pub roles_turned : IsOrdered records → IsTurned (has_prefix role_prefix) (map role_record roles) records (applied_in_turn (role_changes d after) records)
  roles_turned o = turned (has_prefix role_prefix) (map role_record d.roles) (map role_record roles) records o
      (ordered_spelled (λ (r : Role). Unit {0}) role_cmp role_record (λ a b p q. role_order a b) roles (λ r among. tt) valid_after.whole.order.roles)
      s.defined.held.roles (spelled_pass (has_prefix role_prefix) role_record (λ r. refl) roles)

  -- the records of memberships are turned
  pub memberships_turned : (old : Records) → IsOrdered old → entries_where (has_prefix membership_prefix) old ≡ entries_where (has_prefix membership_prefix) records
      → IsTurned (has_prefix membership_prefix) (map membership_record memberships) old (applied_in_turn (membership_changes d after) old)
  memberships_turned old o same = turned (has_prefix membership_prefix) (map membership_record d.memberships) (map membership_record memberships) old o
      (ordered_spelled IsStoredMembership membership_cmp membership_record membership_order memberships (stored_memberships after valid_after) valid_after.whole.order.memberships)
      (same ∙ s.defined.held.memberships) (spelled_pass (has_prefix membership_prefix) membership_record (λ m. refl) memberships)

  -- records with these roles and memberships, all else as before, show the database with them
  pub people_shown : (new : Records) → entries_where (has_prefix role_prefix) new ≡ map role_record roles
      → entries_where (has_prefix membership_prefix) new ≡ map membership_record memberships → Stays records new → Shows new after (people_changed roles memberships db)
  people_shown new r m stays = record {
    defined = record {
      held = record {
        roles = r;
        memberships = m;
        tables = stays (has_prefix table_prefix) (kinds_apart 1 3 [] [] refl) (kinds_apart 2 3 [] [] refl) ∙ s.defined.held.tables;
        of_tables = λ (t : TableDefinition) among. record {
          descriptors = stays (has_prefix (descriptor_prefix t.id)) (kinds_apart 1 4 [] (big_bytes 4 t.id) refl) (kinds_apart 2 4 [] (big_bytes 4 t.id) refl) ∙ (s.defined.held.of_tables t among).descriptors;
          policies = stays (has_prefix (policy_prefix t.id)) (kinds_apart 1 5 [] (big_bytes 4 t.id) refl) (kinds_apart 2 5 [] (big_bytes 4 t.id) refl) ∙ (s.defined.held.of_tables t among).policies;
        };
      };
      no_other = stays (is_orphan (ids_of d.tables)) (roles_no_orphans (ids_of d.tables)) (memberships_no_orphans (ids_of d.tables)) ∙ s.defined.no_other;
      valid = valid_after;
    };
    rows = s.rows;
    held = rows_stay records new d.tables s.rows (λ t among. stays (has_prefix (row_prefix t.id)) (kinds_apart 1 6 [] (big_bytes 4 t.id) refl) (kinds_apart 2 6 [] (big_bytes 4 t.id) refl)) s.held;
    no_other_row = stays (is_orphan_row (ids_of d.tables)) (no_orphan_rows 1 [] (ids_of d.tables) refl) (no_orphan_rows 2 [] (ids_of d.tables) refl) ∙ s.no_other_row;
    is = is_after;
    whole_rows = whole.rows;
  }

-- ---- each change

pub put_role_leads : (r : Role) → Leads (change.PutRole r)
put_role_leads r records d db after o s fits is whole =
    subst (λ (e : Database). Shows (applied_in_turn (role_changes d (changed (change.PutRole r) d)) records) (changed (change.PutRole r) d) e) (sym same)
    (people_shown records d db s roles d.memberships there (applied_in_turn (role_changes d (changed (change.PutRole r) d)) records)
    step.held (step.elsewhere (has_prefix membership_prefix) (kinds_apart 1 2 [] [] refl) ∙ s.defined.held.memberships) (λ q first second. step.elsewhere q first))
  where
    roles : List Role
    roles = put role_cmp the_new r d.roles

    same : after ≡ people_changed roles d.memberships db
    same = is ∙ ap (λ (e : Database). people_changed (put role_cmp the_new r e.roles) e.memberships db) s.is

    there : IsWhole (people_changed roles d.memberships db)
    there = subst IsWhole same whole

    step : IsTurned (has_prefix role_prefix) (map role_record roles) records (applied_in_turn (role_changes d (changed (change.PutRole r) d)) records)
    step = roles_turned records d db s roles d.memberships there o

pub set_memberships_leads : (ms : List Membership) → Leads (change.SetMemberships ms)
set_memberships_leads ms records d db after o s fits is whole =
    subst (λ (e : Database). Shows (applied_in_turn (membership_changes d (changed (change.SetMemberships ms) d)) records) (changed (change.SetMemberships ms) d) e) (sym same)
    (people_shown records d db s d.roles ms there (applied_in_turn (membership_changes d (changed (change.SetMemberships ms) d)) records)
    (step.elsewhere (has_prefix role_prefix) (kinds_apart 2 1 [] [] refl) ∙ s.defined.held.roles) step.held (λ q first second. step.elsewhere q second))
  where
    same : after ≡ people_changed d.roles ms db
    same = is ∙ ap (λ (e : Database). people_changed e.roles ms db) s.is

    there : IsWhole (people_changed d.roles ms db)
    there = subst IsWhole same whole

    step : IsTurned (has_prefix membership_prefix) (map membership_record ms) records (applied_in_turn (membership_changes d (changed (change.SetMemberships ms) d)) records)
    step = memberships_turned records d db s d.roles ms there records o refl

pub drop_role_leads : (name : TheName) → Leads (change.DropRole name)
drop_role_leads name records d db after o s fits is whole =
    subst (λ (z : Records). Shows z (changed (change.DropRole name) d) after) (sym (in_turn_append (role_changes d e) (membership_changes d e) records))
    (subst (λ (z : Database). Shows last (changed (change.DropRole name) d) z) (sym same)
    (people_shown records d db s roles memberships there last
    (second.elsewhere (has_prefix role_prefix) (kinds_apart 2 1 [] [] refl) ∙ first.held) second.held (λ q one two. second.elsewhere q two ∙ first.elsewhere q one)))
  where
    roles : List Role
    roles = drop_where (is_role_named name) d.roles

    memberships : List Membership
    memberships = drop_where (concerns name) d.memberships

    e : Definitions
    e = changed (change.DropRole name) d

    same : after ≡ people_changed roles memberships db
    same = is ∙ ap (λ (z : Database). people_changed (drop_where (is_role_named name) z.roles) (drop_where (concerns name) z.memberships) db) s.is

    there : IsWhole (people_changed roles memberships db)
    there = subst IsWhole same whole

    mid : Records
    mid = applied_in_turn (role_changes d e) records

    last : Records
    last = applied_in_turn (membership_changes d e) mid

    first : IsTurned (has_prefix role_prefix) (map role_record roles) records mid
    first = roles_turned records d db s roles memberships there o

    second : IsTurned (has_prefix membership_prefix) (map membership_record memberships) mid last
    second = memberships_turned records d db s roles memberships there mid first.ordered (first.elsewhere (has_prefix membership_prefix) (kinds_apart 1 2 [] [] refl))
