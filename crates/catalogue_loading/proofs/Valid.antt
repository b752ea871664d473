-- Definitions are valid where each of their parts is whole by itself.
use Rattle.std.proofs.Common.{◌≡◌, ◌≤◌, ℕ, List, [], ◌∷◌, length, ◌++◌, Option, Some, None, sym, ap, ◌∙◌, subst, inl, inr}
use Rattle.std.specs.Prelude.{IfSome, option_to_list}
use Rattle.std.proofs.lemmas.List.{length-map}
use Rattle.std.specs.declared.cmp.Ordering.TheVariants.{Less, Equal}
use Rattle.sql_ast.specs.declared.privilege.Descriptor.{Descriptor}
use Rattle.sql_ast.specs.declared.policy.Policy.{Policy}
use Rattle.sql_ast.specs.declared.policy.PolicyClause.{PolicyClause}
use Rattle.sql_ast.specs.Read.{IsReadClause}
use Rattle.abstract_database.specs.Lists.{TheName, Among, Rising}
use Rattle.abstract_database.specs.Database.{TableOf, Table}
use Rattle.abstract_database.specs.Privileges.{all_actions, owner_descriptors, owner_descriptor}
use Rattle.abstract_database.specs.Whole.{Each, OneOf, IsInOrder, IsWholeRole, IsWholeMembership, IsWholeTable, IsWholeDescriptor, IsDescriptorOf, HasOwnerDescriptors, IsWholePolicy, IsPolicyOf, clauses_of, max_tables}
use Rattle.stored_database.specs.Definitions.{TableDefinition, Definitions, definition_cmp, table_with, descriptors_of, policies_of, database_of}
use Rattle.expr_parser.specs.Written.{IsAsWritten}
use Rattle.stored_database.specs.Items.{AreStored}
use Rattle.stored_database.specs.Valid.{AreValid}
use Rattle.stored_database.proofs.Lists.{into_map, of_map, into_flat_map, of_flat_map, of_append}
use Rattle.stored_database.proofs.TableParts.{tables_in_order}
use Rattle.catalogue.proofs.ValidDefinitions.{parts_in_order, have_conditions, one_of_name}
use Rattle.catalogue_loading.specs.ValidityParts.{AreNumbered, IsGranted, HasWholePrivileges, HasUtf8, IsPolicy, IsWholeDefinition}
use Rattle.catalogue_loading.proofs.CheckedClauses.{TokensAreReadable, clause_read_if_any}
use Rattle.catalogue_loading.proofs.Supports.{supported_by_more, supported_within}

-- each descriptor of an owner is for his table
for_table : (name owner : TheName) (d : Descriptor) → Among d (owner_descriptors name owner) → d.table ≡ name
for_table name owner d among = let found = of_map (owner_descriptor name owner) all_actions d among in ap (λ (e : Descriptor). e.table) (sym found.2)

-- all that is whole by itself
pub record AreWholeParts (d : Definitions) : Type 0 where
  pub roles : Each IsWholeRole d.roles
  pub few : length d.tables ≤ max_tables
  pub numbers : AreNumbered d.tables
  pub memberships : Each (IsWholeMembership d.roles d.memberships) d.memberships
  pub tables : Each (IsWholeDefinition d.roles) d.tables

-- ---- valid definitions have whole parts

utf8_if_any : (o : Option PolicyClause) → IfSome o IsReadClause → IfSome o HasUtf8
utf8_if_any None h = tt
utf8_if_any (Some c) h = h.text.utf8

module _ (d : Definitions) (v : AreValid d) where
  in_database : (t : TableDefinition) → Among t d.tables → Among (table_with t []) (database_of d).tables
  in_database t among = into_map (λ (u : TableDefinition). table_with u []) d.tables t among

  own : (t u : TableDefinition) → Among t d.tables → Among u d.tables → u.definition.name ≡ t.definition.name → u ≡ t
  own t u a b e = one_of_name d.tables (tables_in_order d v) u t b a e

  module _ (t : TableDefinition) (among : Among t d.tables) where
    of_all : (e : Descriptor) → Among e t.descriptors → Among e (descriptors_of d.tables)
    of_all e here = into_flat_map (λ (u : TableDefinition). u.descriptors) d.tables t e among here

    of_own : (e : Descriptor) → Among e (descriptors_of d.tables) → e.table ≡ t.definition.name → Among e t.descriptors
    of_own e there is =
        let found = of_flat_map (λ (u : TableDefinition). u.descriptors) d.tables e there in
        let same = own t found.0 among found.1 (sym ((v.tables found.0 found.1).descriptors e found.2) ∙ is) in
        subst (λ (u : TableDefinition). Among e u.descriptors) same found.2

    granted : (e : Descriptor) → Among e t.descriptors → IsGranted d.roles t.definition e
    granted e here =
        let whole = v.whole.descriptors.descriptors e (of_all e here) in
        let found = v.whole.descriptors.for_tables e (of_all e here) in
        let u = of_map (λ (w : TableDefinition). table_with w []) d.tables found.0 found.1 in
        let table : found.0.definition ≡ u.0.definition = ap (λ (w : Table). w.definition) (sym u.2) in
        let named : u.0.definition.name ≡ t.definition.name = ap (λ (w : TableOf). w.name) (sym table) ∙ sym found.2.table ∙ (v.tables t among).descriptors e here in
        let is : IsDescriptorOf t.definition e = subst (λ (w : TableOf). IsDescriptorOf w e) (table ∙ ap (λ (w : TableDefinition). w.definition) (own t u.0 among u.1 named)) found.2 in
        record { column = is.column; action = is.action; grantor = whole.grantor; grantee = whole.grantee; system = is.system }

    privileges_of_valid : HasWholePrivileges d.roles t
    privileges_of_valid = record {
      granted = record {
        descriptors = granted;
        owners = λ (e : Descriptor) four. of_own e (v.whole.descriptors.owners (table_with t []) (in_database t among) e four) (for_table t.definition.name t.definition.owner e four);
      };
      supported = λ (e : Descriptor) here. supported_within t.definition.name (descriptors_of d.tables) t.descriptors of_own e ((v.tables t among).descriptors e here) (v.whole.descriptors.descriptors e (of_all e here)).supported;
    }

    policy_of_valid : (p : Policy) → Among p t.policies → IsPolicy d.roles p
    policy_of_valid p here =
        let whole = v.whole.policies.policies p (into_flat_map (λ (u : TableDefinition). u.policies) d.tables t p among here) in
        record { name = whole.name; roles = whole.roles; clauses = whole.clauses; using = utf8_if_any p.using whole.using; check = utf8_if_any p.check whole.check }

    definition_of_valid : IsWholeDefinition d.roles t
    definition_of_valid =
        let whole = v.whole.tables.tables (table_with t []) (in_database t among) in
        record {
          name = whole.name;
          owner = whole.owner;
          layout = whole.layout;
          order = parts_in_order d v t among;
          privileges = privileges_of_valid;
          policies = policy_of_valid;
          conditions = have_conditions d v t among;
        }

  pub parts_of_valid : AreWholeParts d
  parts_of_valid = record {
    roles = v.whole.roles.roles;
    few = subst (λ (n : ℕ). n ≤ max_tables) (length-map d.tables (λ (t : TableDefinition). table_with t [])) v.whole.tables.few;
    numbers = record { each = λ (t : TableDefinition) among. record { least = (v.tables t among).least; most = (v.tables t among).most }; own = v.ids };
    memberships = v.whole.roles.memberships;
    tables = definition_of_valid;
  }

-- ---- definitions with whole parts are valid

as_written_if_any : (o : Option PolicyClause) (c : PolicyClause) → IfSome o IsAsWritten → Among c (option_to_list o) → IsAsWritten c
as_written_if_any None c w among = absurd among
as_written_if_any (Some e) c w (inl is) = subst IsAsWritten is w
as_written_if_any (Some e) c w (inr later) = absurd later

module _ (law : TokensAreReadable) (d : Definitions) (s : AreStored d) (order : IsInOrder (database_of d)) (w : AreWholeParts d) where
  table_again : (P : TableOf → Type 0) → ((t : TableDefinition) → Among t d.tables → P t.definition) → Each (λ (t : Table). P t.definition) (database_of d).tables
  table_again P h t among =
      let found = of_map (λ (u : TableDefinition). table_with u []) d.tables t among in
      subst P (ap (λ (u : Table). u.definition) found.2) (h found.0 found.1)

  one_table : (P : TableOf → Type 0) (t : TableDefinition) → Among t d.tables → P t.definition → OneOf (λ (u : Table). P u.definition) (database_of d).tables
  one_table P t among h = (table_with t [], into_map (λ (u : TableDefinition). table_with u []) d.tables t among, h)

  whole_table : (t : TableDefinition) → Among t d.tables → IsWholeTable d.roles t.definition
  whole_table t among = let h = w.tables t among in record { name = h.name; owner = h.owner; layout = h.layout; columns = (s.tables t among).columns }

  of_table : (e : Descriptor) → Among e (descriptors_of d.tables) → (t : TableDefinition) × Among t d.tables × Among e t.descriptors
  of_table e among = of_flat_map (λ (u : TableDefinition). u.descriptors) d.tables e among

  into_all : (t : TableDefinition) → Among t d.tables → (e : Descriptor) → Among e t.descriptors → Among e (descriptors_of d.tables)
  into_all t among e here = into_flat_map (λ (u : TableDefinition). u.descriptors) d.tables t e among here

  whole_descriptor : (e : Descriptor) → Among e (descriptors_of d.tables) → IsWholeDescriptor d.roles (descriptors_of d.tables) e
  whole_descriptor e among =
      let t = of_table e among in
      let h = (w.tables t.0 t.1).privileges in
      let granted = h.granted.descriptors e t.2 in
      record { grantor = granted.grantor; grantee = granted.grantee; supported = supported_by_more t.0.descriptors (descriptors_of d.tables) (into_all t.0 t.1) e (h.supported e t.2) }

  descriptor_of : (e : Descriptor) → Among e (descriptors_of d.tables) → OneOf (λ (u : Table). IsDescriptorOf u.definition e) (database_of d).tables
  descriptor_of e among =
      let t = of_table e among in
      let stored = (s.items t.0 t.1).descriptors e t.2 in
      let granted = (w.tables t.0 t.1).privileges.granted.descriptors e t.2 in
      one_table (λ (u : TableOf). IsDescriptorOf u e) t.0 t.1 (record {
        table = stored.table;
        column = granted.column;
        action = granted.action;
        system = granted.system;
      })

  of_policy : (p : Policy) → Among p (policies_of d.tables) → (t : TableDefinition) × Among t d.tables × Among p t.policies
  of_policy p among = of_flat_map (λ (u : TableDefinition). u.policies) d.tables p among

  whole_policy : (p : Policy) → Among p (policies_of d.tables) → IsWholePolicy d.roles p
  whole_policy p among =
      let t = of_policy p among in
      let stored = (s.items t.0 t.1).policies p t.2 in
      let h = (w.tables t.0 t.1).policies p t.2 in
      record {
        name = h.name;
        roles = h.roles;
        using = clause_read_if_any law p.using stored.using h.using;
        check = clause_read_if_any law p.check stored.check h.check;
        clauses = h.clauses;
        size = stored.size;
      }

  policy_of : (p : Policy) → Among p (policies_of d.tables) → OneOf (λ (u : Table). IsPolicyOf u.definition p) (database_of d).tables
  policy_of p among =
      let t = of_policy p among in
      let h = (w.tables t.0 t.1).conditions p t.2 in
      one_table (λ (u : TableOf). IsPolicyOf u p) t.0 t.1 (record { table = ((s.items t.0 t.1).policies p t.2).table; using = h.using; check = h.check })

  written : (c : PolicyClause) → Among c (clauses_of (database_of d)) → IsAsWritten c
  written c among =
      let found = of_flat_map (λ (p : Policy). option_to_list p.using ++ option_to_list p.check) (policies_of d.tables) c among in
      let t = of_policy found.0 found.1 in
      let stored = (s.items t.0 t.1).policies found.0 t.2 in
      elim (of_append (option_to_list found.0.using) (option_to_list found.0.check) c found.2) [
        | inl here ↦ as_written_if_any found.0.using c stored.using here
        | inr there ↦ as_written_if_any found.0.check c stored.check there
      ]

  pub valid_of_parts : AreValid d
  valid_of_parts = record {
    whole = record {
      order = order;
      roles = record { roles = w.roles; memberships = w.memberships };
      tables = record {
        tables = table_again (IsWholeTable d.roles) whole_table;
        few = subst (λ (n : ℕ). n ≤ max_tables) (sym (length-map d.tables (λ (t : TableDefinition). table_with t []))) w.few;
      };
      descriptors = record {
        descriptors = whole_descriptor;
        for_tables = descriptor_of;
        owners = table_again (HasOwnerDescriptors (descriptors_of d.tables)) (λ t among e four. into_all t among e ((w.tables t among).privileges.granted.owners e four));
      };
      policies = record { policies = whole_policy; of_tables = policy_of };
    };
    tables = λ (t : TableDefinition) among. record {
      least = (w.numbers.each t among).least;
      most = (w.numbers.each t among).most;
      descriptors = (w.tables t among).order.descriptors;
      policies = (w.tables t among).order.policies;
    };
    ids = w.numbers.own;
    conditions = written;
  }
