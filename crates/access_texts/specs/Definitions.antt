-- What is told of the definitions of a database.
use Rattle.std.specs.Prelude.{Bool, not, ◌||◌, List, [], ◌∷◌, map, flat_map, codes, if◌then◌else◌}
use Rattle.sql_ast.specs.declared.columns.Column.{Column}
use Rattle.sql_ast.specs.declared.policy.Policy.{Policy}
use Rattle.sql_ast.specs.declared.privilege.Descriptor.{Descriptor}
use Rattle.sql_ast.specs.declared.role.Membership.{Membership}
use Rattle.stored_database.specs.Definitions.{TableDefinition}
use Rattle.section_texts.specs.Sections.{RowOf, SectionOf, text, flag, names}
use Rattle.access_texts.specs.Words.{action_word, clause_cell, column_cell, grantee_cell, grantor_cell, kind_word, policy_word, type_word}
use Rattle.access_texts.specs.Cells.{names_at, roles_cell}

-- a membership, with whether the member may grant the role on
abbrev pub membership_row : Membership → RowOf
membership_row m = text m.member ∷ text m.role ∷ flag m.admin ∷ []

abbrev pub membership_section : List Membership → SectionOf
membership_section ms = record {
  name = codes "memberships";
  columns = codes "role" ∷ codes "in" ∷ codes "admin option" ∷ [];
  keys = 2;
  rows = map membership_row ms;
}

-- a table with its owner, whether row security is enabled and concerns the owner too, and its key
abbrev pub table_row : TableDefinition → RowOf
table_row t =
    text t.definition.name ∷ text t.definition.owner ∷ flag t.definition.row_security ∷ flag t.definition.forced
    ∷ names (names_at t.definition.layout.columns t.definition.layout.key) ∷ []

abbrev pub table_section : List TableDefinition → SectionOf
table_section ts = record {
  name = codes "tables";
  columns = codes "table" ∷ codes "owner" ∷ codes "row security" ∷ codes "forced" ∷ codes "key" ∷ [];
  keys = 1;
  rows = map table_row ts;
}

abbrev pub column_row : TableDefinition → Column → RowOf
column_row t c = text t.definition.name ∷ text c.name ∷ text (type_word c.column_type) ∷ flag c.not_null ∷ []

abbrev pub column_rows : TableDefinition → List RowOf
column_rows t = map (column_row t) t.definition.layout.columns

abbrev pub column_section : List TableDefinition → SectionOf
column_section ts = record {
  name = codes "columns";
  columns = codes "table" ∷ codes "column" ∷ codes "type" ∷ codes "not null" ∷ [];
  keys = 2;
  rows = flat_map column_rows ts;
}

abbrev pub privilege_row : TableDefinition → Descriptor → RowOf
privilege_row t d =
    text t.definition.name ∷ column_cell t.definition.layout.columns d.column ∷ text (action_word d.action) ∷ grantee_cell d.grantee
    ∷ grantor_cell d.grantor ∷ flag d.grantable ∷ []

-- a descriptor, where all are told or its grantee may grant it on
abbrev pub told_privilege_rows : Bool → TableDefinition → Descriptor → List RowOf
told_privilege_rows grantable_only t d = if d.grantable || not grantable_only then privilege_row t d ∷ [] else []

abbrev pub privilege_rows : Bool → TableDefinition → List RowOf
privilege_rows grantable_only t = flat_map (told_privilege_rows grantable_only t) t.descriptors

abbrev pub privilege_section : Bool → List TableDefinition → SectionOf
privilege_section grantable_only ts = record {
  name = codes "privileges";
  columns = codes "table" ∷ codes "column" ∷ codes "privilege" ∷ codes "to" ∷ codes "by" ∷ codes "grant option" ∷ [];
  keys = 5;
  rows = flat_map (privilege_rows grantable_only) ts;
}

abbrev pub policy_row : TableDefinition → Policy → RowOf
policy_row t p =
    text t.definition.name ∷ text p.name ∷ text (kind_word p.kind) ∷ text (policy_word p.command) ∷ roles_cell p.roles
    ∷ clause_cell p.using ∷ clause_cell p.check ∷ []

abbrev pub policy_rows : TableDefinition → List RowOf
policy_rows t = map (policy_row t) t.policies

abbrev pub policy_section : List TableDefinition → SectionOf
policy_section ts = record {
  name = codes "policies";
  columns = codes "table" ∷ codes "policy" ∷ codes "kind" ∷ codes "command" ∷ codes "roles" ∷ codes "using" ∷ codes "with check" ∷ [];
  keys = 2;
  rows = flat_map policy_rows ts;
}
