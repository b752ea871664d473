-- Records stand for one database.
use Rattle.std.proofs.Common.{◌≡◌, ℕ, List, [], ◌∷◌, refl, ap, sym, ◌∙◌, subst}
use Rattle.sql_types.specs.Row.{Row}
use Rattle.sql_ast.specs.Layout.{Layout, IsLayout}
use Rattle.sql_ast.specs.Fits.{FitsTable}
use Rattle.store.specs.Records.{Records}
use Rattle.store.specs.Items.{Holds}
use Rattle.row_codec.specs.Rows.{row_prefix}
use Rattle.abstract_database.specs.Database.{Table, Database}
use Rattle.abstract_database.specs.Whole.{Each, AreWholeRows, HasWholeRows}
use Rattle.stored_database.specs.Definitions.{TableDefinition, Definitions, table_with, tables_with, database_with}
use Rattle.stored_database.specs.RecordFormat.{row_record}
use Rattle.stored_database.specs.Records.{HoldRows, Shows, StandsFor}
use Rattle.stored_database.proofs.Lists.{same_items, same_cons, first_of_each, rest_of_each}
use Rattle.stored_database.proofs.Rows.{one_row}
use Rattle.stored_database.proofs.Policies.{OneExpression}
use Rattle.stored_database.proofs.Validity.{whole_table}
use Rattle.stored_database.proofs.OneCatalogue.{one_catalogue}

pub one_rows : (records : Records) (id : ℕ) (layout : Layout) (xs ys : List Row) → IsLayout layout → Each (FitsTable layout) xs → Each (FitsTable layout) ys
    → Holds records (row_prefix id) (row_record id layout) xs → Holds records (row_prefix id) (row_record id layout) ys → xs ≡ ys
one_rows records id layout xs ys is a b p q = same_items (FitsTable layout) (row_record id layout) (one_row id layout is) xs ys a b (sym p ∙ q)

-- each table's rows are whole
abbrev pub IsWholeTableOfRows : Table → Type 0
IsWholeTableOfRows t = AreWholeRows t.definition.layout t.rows

abbrev HasLayout : TableDefinition → Type 0
HasLayout t = IsLayout t.definition.layout

same_rows : (records : Records) (ts : List TableDefinition) (xs ys : List (List Row)) → Each HasLayout ts
    → Each IsWholeTableOfRows (tables_with ts xs) → Each IsWholeTableOfRows (tables_with ts ys) → HoldRows records ts xs → HoldRows records ts ys → xs ≡ ys
same_rows records [] [] [] l a b p q = refl
same_rows records [] (x ∷ xs) ys l a b p q = absurd p
same_rows records [] [] (y ∷ ys) l a b p q = absurd q
same_rows records (t ∷ ts) [] ys l a b p q = absurd p
same_rows records (t ∷ ts) (x ∷ xs) [] l a b p q = absurd q
same_rows records (t ∷ ts) (x ∷ xs) (y ∷ ys) l a b p q =
    same_cons
    (one_rows records t.id t.definition.layout x y (first_of_each HasLayout t ts l)
    (first_of_each IsWholeTableOfRows (table_with t x) (tables_with ts xs) a).fit (first_of_each IsWholeTableOfRows (table_with t y) (tables_with ts ys) b).fit p.0 q.0)
    (same_rows records ts xs ys (rest_of_each HasLayout t ts l)
    (rest_of_each IsWholeTableOfRows (table_with t x) (tables_with ts xs) a) (rest_of_each IsWholeTableOfRows (table_with t y) (tables_with ts ys) b) p.1 q.1)

-- definitions show one database
shown_same : (records : Records) (d : Definitions) (a b : Database) → Shows records d a → Shows records d b → a ≡ b
shown_same records d a b p q =
    let rows = same_rows records d.tables p.rows q.rows (λ t among. (whole_table d p.defined.valid t among).layout)
    (subst HasWholeRows p.is p.whole_rows) (subst HasWholeRows q.is q.whole_rows) p.held q.held in
    p.is ∙ ap (λ (z : List (List Row)). database_with d z) rows ∙ sym q.is

pub one_database : OneExpression → (records : Records) (a b : Database) → StandsFor records a → StandsFor records b → a ≡ b
one_database one records a b p q =
    let is = one_catalogue one records p.0 q.0 p.1.defined q.1.defined in
    shown_same records q.0 a b (subst (λ (d : Definitions). Shows records d a) is p.1) q.1
