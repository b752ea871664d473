-- Items that stand one after the other.
use Rattle.std.specs.Prelude.{◌≡◌, ◌≤◌, ℕ, List, ◌∷◌, [], length}
use Rattle.sql_types.specs.Name.{IsUtf8Name}
use Rattle.sql_ast.specs.declared.columns.Column.{Column}
use Rattle.sql_ast.specs.Layout.{Layout, IsLayout}
use Rattle.abstract_database.specs.Whole.{Each}
use Rattle.stored_database.specs.Definitions.{TableDefinition}
use Rattle.stored_database.specs.Items.{IsStoredTable}

-- so many items, each of which is valid
pub record AreParts {X : Type 0} (IsValid : X → Type 0) (count : ℕ) (xs : List X) : Type 0 where
  pub valid : Each IsValid xs
  pub counted : length xs ≡ count

-- the column has a name
abbrev pub HasName : Column → Type 0
HasName c = IsUtf8Name c.name

-- the columns and the key of a table, whose columns have names
pub record IsStoredLayout (l : Layout) : Type 0 where
  pub layout : IsLayout l
  pub names : Each HasName l.columns

-- the indices of a key after their number
abbrev pub key_bytes : List ℕ → List ℕ
key_bytes key = length key ∷ key

-- a table by itself, without its privilege descriptors and policies, which have records of their own
pub record IsTableAlone (t : TableDefinition) : Type 0 where
  pub name : IsUtf8Name t.definition.name
  pub layout : IsLayout t.definition.layout
  pub stored : IsStoredTable t
  pub numbered : 1 ≤ t.id
  pub no_descriptors : t.descriptors ≡ []
  pub no_policies : t.policies ≡ []
