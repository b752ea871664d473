-- All definitions that records hold.
use Rattle.std.proofs.Common.{◌≡◌, List, [], ◌∷◌, map, Option, Some, None, refl, ap, sym, ◌∙◌, subst}
use Rattle.std.specs.Prelude.{IfSome}
use Rattle.sql_ast.specs.declared.policy.PolicyClause.{PolicyClause}
use Rattle.sql_ast.specs.Read.{IsReadClause}
use Rattle.store.specs.Records.{Record, Records, IsOrdered}
use Rattle.abstract_database.specs.Lists.{Among}
use Rattle.stored_database.specs.Definitions.{TableDefinition, Definitions, definition_cmp, ids_of}
use Rattle.stored_database.specs.RecordFormat.{table_prefix, table_record}
use Rattle.stored_database.specs.Items.{AreStored}
use Rattle.stored_database.specs.Records.{HoldDefinitions, Define}
use Rattle.stored_database.proofs.KeyOrder.{table_order, held_rise, held_in_order}
use Rattle.stored_database.proofs.Lists.{into_map, of_map}
use Rattle.stored_database.proofs.Validity.{whole_roles, stored_memberships, whole_table, whole_policy, stored_table, stored_descriptors, stored_policies}
use Rattle.catalogue.specs.Catalogues.{AreInOrder}
use Rattle.catalogue.proofs.ValidDefinitions.{have_conditions}
use Rattle.catalogue_loading.specs.Clauses.{HasUtf8}
use Rattle.catalogue_loading.specs.RecordParts.{IsTableAlone}
use Rattle.catalogue_loading.specs.Held.{HasHeldParts, alone, AreHeldDefinitions, HasNoOrphan}
use Rattle.catalogue_loading.specs.Recorded.{AreRecorded}

-- a table's own record says nothing of its privilege descriptors and policies
own_records : (ts : List TableDefinition) → map table_record (map alone ts) ≡ map table_record ts
own_records [] = refl
own_records (t ∷ ts) = ap (λ (es : List Record). table_record t ∷ es) (own_records ts)

-- ---- what is held

module _ (records : Records) (d : Definitions) (h : AreHeldDefinitions records d) where
  own_record : (t : TableDefinition) → Among t d.tables → IsTableAlone (alone t)
  own_record t among = h.tables.tables.valid (alone t) (into_map alone d.tables t among)

  pub items_stored : AreStored d
  items_stored = record {
    memberships = h.memberships.valid;
    tables = λ t among. let stored = (own_record t among).stored in record { id = stored.id; owner = stored.owner; columns = stored.columns };
    items = λ t among. record {
      descriptors = (h.tables.parts t among).descriptors.valid;
      policies = λ p of. ((h.tables.parts t among).policies.held.valid p of).stored;
    };
  }

  pub definitions_held : HoldDefinitions records d
  definitions_held = record {
    roles = h.roles.held;
    memberships = h.memberships.held;
    tables = h.tables.tables.held ∙ own_records d.tables;
    of_tables = λ t among. record { descriptors = (h.tables.parts t among).descriptors.held; policies = (h.tables.parts t among).policies.held.held };
  }

  -- they stand in the order of their keys
  pub held_ordered : IsOrdered records → AreInOrder d
  held_ordered o =
      let order = held_in_order records d o items_stored definitions_held in
      record {
        roles = order.roles;
        memberships = order.memberships;
        tables = held_rise (λ (t : TableDefinition). Unit {0}) definition_cmp table_record (λ a b p q. table_order a b) records table_prefix d.tables o definitions_held.tables (λ t among. tt);
      }

  -- and without orphans they are all that is recorded
  pub held_recorded : IsOrdered records → HasNoOrphan (ids_of d.tables) records → AreRecorded records d
  held_recorded o none = record {
    held = definitions_held;
    no_other = none;
    stored = items_stored;
    order = held_in_order records d o items_stored definitions_held;
    roles = h.roles.valid;
    numbered = λ t among. record {
      least = (own_record t among).numbered;
      most = (own_record t among).stored.id;
      descriptors = λ e of. ((h.tables.parts t among).descriptors.valid e of).table;
      policies = λ p of. ((h.tables.parts t among).policies.held.valid p of).stored.table;
    };
    policies = λ t among p of. record {
      table = ((h.tables.parts t among).policies.held.valid p of).stored.table;
      using = ((h.tables.parts t among).policies.conditions p of).using;
      check = ((h.tables.parts t among).policies.conditions p of).check;
    };
  }

-- ---- valid definitions are held

utf8 : (c : Option PolicyClause) → IfSome c IsReadClause → IfSome c HasUtf8
utf8 None h = tt
utf8 (Some c) h = h.text.utf8

module _ (records : Records) (d : Definitions) (defined : Define records d) where
  own_valid : (t : TableDefinition) → Among t d.tables → IsTableAlone (alone t)
  own_valid t among =
      let whole = whole_table d defined.valid t among in
      let stored = stored_table d defined.valid t among in
      record {
        name = whole.name;
        layout = whole.layout;
        stored = record { id = stored.id; owner = stored.owner; columns = stored.columns };
        numbered = (defined.valid.tables t among).least;
        no_descriptors = refl;
        no_policies = refl;
      }

  parts_held : (t : TableDefinition) → Among t d.tables → HasHeldParts records t
  parts_held t among = record {
    descriptors = record { held = (defined.held.of_tables t among).descriptors; valid = stored_descriptors d defined.valid t among };
    policies = record {
      held = record {
        held = (defined.held.of_tables t among).policies;
        valid = λ p of.
            let whole = whole_policy d defined.valid t among p of in
            record { name_read = whole.name; stored = stored_policies d defined.valid t among p of; using_read = utf8 p.using whole.using; check_read = utf8 p.check whole.check };
      };
      conditions = λ p of. have_conditions d defined.valid t among p of;
    };
  }

  pub defined_held : AreHeldDefinitions records d
  defined_held = record {
    roles = record { held = defined.held.roles; valid = whole_roles d defined.valid };
    memberships = record { held = defined.held.memberships; valid = stored_memberships d defined.valid };
    tables = record {
      tables = record {
        held = defined.held.tables ∙ sym (own_records d.tables);
        valid = λ own among. let there = of_map alone d.tables own among in subst IsTableAlone there.2 (own_valid there.0 there.1);
      };
      parts = λ t among. parts_held t among;
    };
  }
