-- Which rows the query of a plan may be asked of, and which rows a plan makes.
use Rattle.std.specs.Prelude.{◌≡◌, true, List, [], ◌∷◌, Result, Ok}
use Rattle.std.specs.List.{AllByRecursion}
use Rattle.sql_types.specs.Row.{Row}
use Rattle.sql_types.specs.declared.state.SqlState.{SqlState}
use Rattle.sql_ast.specs.declared.statement.Select.{Select}
use Rattle.sql_ast.specs.declared.statement.Insert.{Insert}
use Rattle.sql_ast.specs.declared.statement.Update.{Update}
use Rattle.sql_ast.specs.Layout.{Layout, IsLayout}
use Rattle.sql_ast.specs.Fits.{FitsTable}
use Rattle.sql_ast.specs.Read.{IsReadInsert, IsReadUpdate}
use Rattle.sql_ast.specs.Rows.{fits_record}
use Rattle.expressions.specs.Meaning.{UserNames}
use Rattle.expressions.specs.Types.{TypedTerm}
use Rattle.abstract_database.specs.Lists.{TheName}
use Rattle.abstract_database.specs.Database.{Database}
use Rattle.abstract_database.specs.Changes.{keeps_not_null, inserted_row, assigned}
use Rattle.abstract_database.specs.Queries.{Combination, product}
use Rattle.abstract_database.specs.Whole.{Each, AreRolesOf}
use Rattle.stored_database.specs.Definitions.{TableDefinition, Definitions}
use Rattle.stored_database.specs.Valid.{AreValid, Describes}
use Rattle.gathering.specs.Fits.{FitsQuery}
use Rattle.gathering.specs.Passed.{alone}
use Rattle.gathering.specs.Queries.{terms}
use Rattle.planner.specs.declared.select.SelectPlan.{SelectPlan}
use Rattle.planner.specs.declared.insert.InsertPlan.{InsertPlan}
use Rattle.planner.specs.declared.row_changes.ChangePlan.{ChangePlan}
use Rattle.planner.specs.Plans.{IsCheckedSelect, IsCheckedInsert, IsCheckedUpdate}
use Rattle.planner.specs.Selected.{tables_of_plan}
use Rattle.planner.specs.Tables.{IsTableNamed}

-- ---- tables

-- in a valid catalogue the table of a name has the columns and the key of a table
abbrev pub NamedTablesHaveLayouts : Type 0
NamedTablesHaveLayouts = (d : Definitions) (name : TheName) (t : TableDefinition) → AreValid d → IsTableNamed d name t → IsLayout t.definition.layout

-- ---- SELECT

-- one row of each table, which that table may hold
abbrev pub FitTables : List TableDefinition → Combination → Type 0
FitTables [] [] = Unit {0}
FitTables [] (row ∷ rows) = ⊥
FitTables (t ∷ ts) [] = ⊥
FitTables (t ∷ ts) (row ∷ rows) = FitsTable t.definition.layout row × FitTables ts rows

-- rows of each table, which that table may hold
abbrev pub AreRowsOf : List TableDefinition → List (List Row) → Type 0
AreRowsOf [] [] = Unit {0}
AreRowsOf [] (rows ∷ lists) = ⊥
AreRowsOf (t ∷ ts) [] = ⊥
AreRowsOf (t ∷ ts) (rows ∷ lists) = Each (FitsTable t.definition.layout) rows × AreRowsOf ts lists

-- the query of a plan may be asked of one row of each of its tables
abbrev pub QueriesFitCombinations : Type 0
QueriesFitCombinations = (d : Definitions) (current : TheName) (s : Select) (p : SelectPlan) (users : UserNames) (c : Combination)
    → IsCheckedSelect d current s p → FitTables (tables_of_plan p) c → FitsQuery users p.query c

-- so it may be asked of the rows of its table, where it has one
abbrev pub QueriesFitRows : Type 0
QueriesFitRows = (d : Definitions) (current : TheName) (s : Select) (p : SelectPlan) (users : UserNames) (t : TableDefinition) (rows : List Row)
    → IsCheckedSelect d current s p → tables_of_plan p ≡ t ∷ [] → Each (FitsTable t.definition.layout) rows
    → AllByRecursion (λ row. FitsQuery users p.query (alone row)) rows

-- and of all combinations of the rows of its tables
abbrev pub QueriesFitProducts : Type 0
QueriesFitProducts = (d : Definitions) (current : TheName) (s : Select) (p : SelectPlan) (users : UserNames) (lists : List (List Row))
    → IsCheckedSelect d current s p → AreRowsOf (tables_of_plan p) lists → AllByRecursion (FitsQuery users p.query) (product lists)

-- ---- INSERT and UPDATE

-- a row that is made is one that the table may hold, where it has no null that may not be and is not too large
abbrev pub GivesFittingRow : Layout → Result Row SqlState → Type 0
GivesFittingRow layout made = (row : Row) → made ≡ Ok row → keeps_not_null layout.columns row ≡ true → fits_record layout row ≡ true → FitsTable layout row

-- the row of an INSERT with these values
abbrev pub row_inserted : UserNames → InsertPlan → List TypedTerm → Result Row SqlState
row_inserted users p values = inserted_row p.target.table.now.definition.layout users p.columns (terms values)

-- the row that an UPDATE makes of another
abbrev pub row_updated : UserNames → ChangePlan → Row → Result Row SqlState
row_updated users p row = assigned users p.columns (terms p.values) row

-- each row of values of a plan makes a row of its table
abbrev pub InsertsFit : Type 0
InsertsFit = (d : Definitions) (db : Database) (users : UserNames) (s : Insert) (p : InsertPlan)
    → Describes d db → AreRolesOf db users → IsReadInsert s → IsCheckedInsert d users.current s p
    → Each (λ (values : List TypedTerm). GivesFittingRow p.target.table.now.definition.layout (row_inserted users p values)) p.rows

-- of each row of its table a plan makes another
abbrev pub UpdatesFit : Type 0
UpdatesFit = (d : Definitions) (db : Database) (users : UserNames) (s : Update) (p : ChangePlan) (rows : List Row)
    → Describes d db → AreRolesOf db users → IsReadUpdate s → IsCheckedUpdate d users.current s p → Each (FitsTable p.target.table.now.definition.layout) rows
    → Each (λ (row : Row). GivesFittingRow p.target.table.now.definition.layout (row_updated users p row)) rows
