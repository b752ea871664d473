-- The rows that the query of a plan may be asked of, and those that a plan makes.
use Rattle.std.proofs.Common.{◌≡◌, ℕ, zero, suc, true, List, [], ◌∷◌, ◌++◌, map, flat_map, length, Result, Ok, Err, refl, sym, ap, ◌∙◌, subst, inl, inr, arith}
use Rattle.std.specs.List.{AllByRecursion}
use Rattle.sql_types.specs.Name.{IsUtf8Name}
use Rattle.sql_types.specs.Row.{Row}
use Rattle.sql_types.specs.declared.state.SqlState.{SqlState}
use Rattle.sql_ast.specs.declared.role.Role.{Role}
use Rattle.sql_ast.specs.declared.statement.Assignment.{Assignment}
use Rattle.sql_ast.specs.declared.statement.TableReference.{TableReference}
use Rattle.sql_ast.specs.Read.{AreSome, IsReadTerm, IsReadAssignment}
use Rattle.sql_ast.specs.Scope.{Table as ScopeTable, type_at}
use Rattle.expressions.specs.Meaning.{UserNames}
use Rattle.expressions.specs.Names.{resolved}
use Rattle.expressions.specs.Parts.{Part, check_type, check_expressions}
use Rattle.expressions.specs.Stages.{◌>>=◌, each}
use Rattle.expressions.specs.Types.{is_of}
use Rattle.abstract_database.specs.Lists.{TheName, Among}
use Rattle.abstract_database.specs.Checks.{insert_parts, value_parts, new_values, update_parts, condition_parts, checked_insert, checked_update}
use Rattle.abstract_database.specs.Database.{Database, is_role_named}
use Rattle.abstract_database.specs.Expressions.{own_scope, cell_in}
use Rattle.abstract_database.specs.Queries.{Combination, product, tables_in, scope_of}
use Rattle.abstract_database.specs.Statements.{Checked, inserts as inserts_rows, updates as updates_rows}
use Rattle.abstract_database.specs.Whole.{Each, IsWholeRole, IsRoleOf, AreRolesOf}
use Rattle.abstract_database.proofs.CheckLemmas.{insert_checked, update_checked}
use Rattle.abstract_database.proofs.ElementLemmas.{any_found}
use Rattle.abstract_database.proofs.ListLemmas.{bytes_same, in_append_left}
use Rattle.abstract_database.proofs.ResultLemmas.{ok_inside, each_to, each_from, length_each}
use Rattle.abstract_database.proofs.ValueTypes.{inserted_fits, assigned_fits}
use Rattle.stored_database.specs.Definitions.{TableDefinition, Definitions, table_with}
use Rattle.stored_database.specs.Valid.{Describes}
use Rattle.gathering.specs.Fits.{HasWidths as HaveWidths, HasKeyType}
use Rattle.gathering.specs.declared.query.OutputList.{OutputList}
use Rattle.gathering.specs.declared.query.OutputList.TheVariants.{Rows, Count}
use Rattle.gathering.specs.declared.query.RowList.TheVariants.{Columns, Values}
use Rattle.gathering.specs.declared.query.TypedSortKey.{TypedSortKey}
use Rattle.gathering.specs.Queries.{terms}
use Rattle.planner.specs.Bound.{HasWidths, IsTyped}
use Rattle.planner.specs.Fitting.{NamedTablesHaveLayouts, FitTables, AreRowsOf, QueriesFitCombinations, QueriesFitRows, QueriesFitProducts, InsertsFit, UpdatesFit}
use Rattle.planner.specs.Selected.{tables_of_plan, scope_of_plan}
use Rattle.planner.specs.Tables.{table_in, definitions_in}
use Rattle.planner.specs.Inserted.{checked_of as checked_insert_of}
use Rattle.planner.specs.RowChanges.{changes_of}
use Rattle.abstract_database.proofs.NewRows.{types_of, row_of, inserted_is_row, assigned_is_row, fits_row}
use Rattle.abstract_database.proofs.ReadValues.{AreTexts, name_is_text}

-- ---- lists

each_of : {X : Type 0} (P : X → Type 0) (xs : List X) → AllByRecursion P xs → Each P xs
each_of P [] a x h = absurd h
each_of P (y ∷ ys) a x (inl is) = subst P is a.0
each_of P (y ∷ ys) a x (inr later) = each_of P ys a.1 x later

all_of : {X : Type 0} (P : X → Type 0) (xs : List X) → Each P xs → AllByRecursion P xs
all_of P [] h = tt
all_of P (x ∷ xs) h = (h x (inl refl), all_of P xs (λ y k. h y (inr k)))

all_append : {X : Type 0} (P : X → Type 0) (xs ys : List X) → AllByRecursion P xs → AllByRecursion P ys → AllByRecursion P (xs ++ ys)
all_append P [] ys h k = k
all_append P (x ∷ xs) ys h k = (h.0, all_append P xs ys h.1 k)

all_mapped : {X Y : Type 0} (g : X → Y) (P : X → Type 0) (Q : Y → Type 0) → ((x : X) → P x → Q (g x)) → (xs : List X) → AllByRecursion P xs → AllByRecursion Q (map g xs)
all_mapped g P Q f [] h = tt
all_mapped g P Q f (x ∷ xs) h = (f x h.0, all_mapped g P Q f xs h.1)

all_flat : {X Y : Type 0} (g : X → List Y) (Q : Y → Type 0) (xs : List X) → ((x : X) → Among x xs → AllByRecursion Q (g x)) → AllByRecursion Q (flat_map g xs)
all_flat g Q [] h = tt
all_flat g Q (x ∷ xs) h = all_append Q (g x) (flat_map g xs) (h x (inl refl)) (all_flat g Q xs (λ y k. h y (inr k)))

all_so : {X : Type 0} (P Q : X → Type 0) → ((x : X) → P x → Q x) → (xs : List X) → AllByRecursion P xs → AllByRecursion Q xs
all_so P Q f [] h = tt
all_so P Q f (x ∷ xs) h = (f x h.0, all_so P Q f xs h.1)

into_map : {X Y : Type 0} (g : X → Y) (xs : List X) (x : X) → Among x xs → Among (g x) (map g xs)
into_map g [] x h = absurd h
into_map g (y ∷ ys) x (inl is) = inl (ap g is)
into_map g (y ∷ ys) x (inr later) = inr (into_map g ys x later)

in_right : {X : Type 0} (xs ys : List X) (z : X) → Among z ys → Among z (xs ++ ys)
in_right [] ys z h = h
in_right (x ∷ xs) ys z h = inr (in_right xs ys z h)

in_flat : {X Y : Type 0} (f : X → List Y) (xs : List X) (x : X) (y : Y) → Among x xs → Among y (f x) → Among y (flat_map f xs)
in_flat f [] x y h k = absurd h
in_flat f (z ∷ zs) x y (inl is) k = in_append_left (f z) (flat_map f zs) y (subst (λ w. Among y (f w)) (sym is) k)
in_flat f (z ∷ zs) x y (inr later) k = in_right (f z) (flat_map f zs) y (in_flat f zs x y later k)

-- ---- tables

pub layouts : NamedTablesHaveLayouts
layouts d name t v named = (v.whole.tables.tables (table_with t []) (into_map (λ (u : TableDefinition). table_with u []) d.tables t named.among)).layout

-- ---- SELECT

one_less : (m n : ℕ) → suc m ≡ suc n → m ≡ n
one_less m n h = omega (arith, h)

widths_alike : (refs : List TableReference) (ts : List TableDefinition) (c : Combination) → length ts ≡ length refs → FitTables ts c →
    map length c ≡ map (λ (t : ScopeTable). length t.columns) (scope_of refs (definitions_in ts))
widths_alike [] [] [] e f = refl
widths_alike [] [] (row ∷ rows) e f = absurd f
widths_alike [] (t ∷ ts) c e f = cc
widths_alike (r ∷ refs) [] c e f = cc
widths_alike (r ∷ refs) (t ∷ ts) [] e f = absurd f
widths_alike (r ∷ refs) (t ∷ ts) (row ∷ rows) e f = ap (λ n. n ∷ map length rows) f.0.columns.width ∙ ap (λ l. length t.definition.layout.columns ∷ l) (widths_alike refs ts rows (one_less (length ts) (length refs) e) f.1)

have_widths : (scope : List ScopeTable) (l : OutputList) (c : Combination) → HasWidths scope l → map length c ≡ map (λ (t : ScopeTable). length t.columns) scope → HaveWidths l c
have_widths scope (Rows (Columns widths)) c h e = e ∙ sym h
have_widths scope (Rows (Values list)) c h e = tt
have_widths scope Count c h e = tt

cells_fit : (refs : List TableReference) (ts : List TableDefinition) (c : Combination) → length ts ≡ length refs → FitTables ts c → (table index : ℕ) →
    is_of (type_at (scope_of refs (definitions_in ts)) (record { table = table; column = index })) (cell_in c (record { table = table; column = index })) ≡ true
cells_fit [] ts [] e f table index = refl
cells_fit (r ∷ refs) [] [] e f table index = refl
cells_fit (r ∷ refs) (t ∷ ts) [] e f table index = absurd f
cells_fit [] [] (row ∷ rows) e f table index = absurd f
cells_fit [] (t ∷ ts) (row ∷ rows) e f table index = cc
cells_fit (r ∷ refs) [] (row ∷ rows) e f table index = absurd f
cells_fit (r ∷ refs) (t ∷ ts) (row ∷ rows) e f zero index = types_of t.definition.layout.columns row f.0.columns.width f.0.columns.each index
cells_fit (r ∷ refs) (t ∷ ts) (row ∷ rows) e f (suc table) index = cells_fit refs ts rows (one_less (length ts) (length refs) e) f.1 table index

pub combinations : QueriesFitCombinations
combinations d current s p users c is f =
    let refs = tables_in s.source in
    let ts = tables_of_plan p in
    let long : length ts ≡ length refs = length_each (λ (r : TableReference). table_in d r.table) refs ts is.tables.found in (
      have_widths (scope_of_plan s p) p.query.list c is.widths (widths_alike refs ts c long f),
      all_so (λ (key : TypedSortKey). IsTyped (scope_of_plan s p) key.value) (HasKeyType users c)
          (λ key typed. typed (cell_in c) users (λ index. cells_fit refs ts c long f index.table index.column)) p.query.keys is.types.keys,
    )

pub rows : QueriesFitRows
rows d current s p users t rs is one fit =
    all_of _ rs (λ row h. combinations d current s p users (row ∷ []) is (subst (λ ts. FitTables ts (row ∷ [])) (sym one) (fit row h, tt)))

products_fit : (ts : List TableDefinition) (lists : List (List Row)) → AreRowsOf ts lists → AllByRecursion (FitTables ts) (product lists)
products_fit [] [] h = (tt, tt)
products_fit [] (rs ∷ lists) h = absurd h
products_fit (t ∷ ts) [] h = absurd h
products_fit (t ∷ ts) (rs ∷ lists) h =
    all_flat (λ row. map (λ rest. row ∷ rest) (product lists)) (FitTables (t ∷ ts)) rs
    (λ row k. all_mapped (λ rest. row ∷ rest) (FitTables ts) (FitTables (t ∷ ts)) (λ rest f. (h.0 row k, f)) (product lists) (products_fit ts lists h.1))

pub products : QueriesFitProducts
products d current s p users lists is h =
    all_so (FitTables (tables_of_plan p)) _ (λ c f. combinations d current s p users c is f) (product lists) (products_fit (tables_of_plan p) lists h)

-- ---- who acts

name_of_role : (all : List Role) → Each IsWholeRole all → (name : TheName) → IsRoleOf all name → IsUtf8Name name
name_of_role all w name is =
    let found = any_found (is_role_named name) all is in
    subst IsUtf8Name (bytes_same found.0.name name found.2) (w found.0 found.1)

texts_of : (d : Definitions) (db : Database) (users : UserNames) → Describes d db → AreRolesOf db users → AreTexts users
texts_of d db users h are =
    let of_role : (name : TheName) → IsRoleOf db.roles name → IsUtf8Name name = λ name is. name_of_role d.roles h.valid.whole.roles.roles name (subst (λ (x : Database). IsRoleOf x.roles name) h.is is) in
    record { current = name_is_text users.current (of_role users.current are.current); session = name_is_text users.session (of_role users.session are.session) }

-- ---- INSERT and UPDATE

-- what the checks of a statement over rows give is what those of its kind give
checked_inside : {C : Type 0} (a : Result C SqlState) (view : C → Checked) → ((x y : C) → view x ≡ view y → x ≡ y) → (c : C) → (a >>= λ x. Ok (view x)) ≡ Ok (view c) → a ≡ Ok c
checked_inside (Ok x) view one c e = ap (λ y. Ok y) (one x c (ok_inside (view x) (view c) e))
checked_inside (Err code) view one c e = cc

fine_parts : (parts : List Part) (l : List (Unit {0})) → check_expressions parts ≡ Ok l → (q : Part) → Among q parts → (u : Unit {0}) × (check_type q ≡ Ok u)
fine_parts parts l e q h = let at = each_to check_type parts l e q h in (at.0, at.1)

pub inserts : InsertsFit
inserts d db users s p h are read is values v row made kept sized =
    let t = p.target.table.now in
    let c = checked_insert_of p in
    let facts = insert_checked db users s c (checked_inside (checked_insert db users s) inserts_rows (λ x y e. cc) c (is.plan read.one_length db users h refl)) in
    let texts = texts_of d db users h are in
    let from = each_from (each (resolved [])) s.rows c.rows facts.bound (terms values) (into_map terms p.rows values v) in
    let fine : (q : Part) → Among q (value_parts [] c.table.layout c.columns from.0) → (u : Unit {0}) × (check_type q ≡ Ok u) =
    λ q k. fine_parts (insert_parts c.table.layout c.columns s.rows) facts.types facts.typed q (in_flat (value_parts [] c.table.layout c.columns) s.rows from.0 q from.1 k) in
    let typed = inserted_fits c.table.layout users c.columns from.0 (terms values) row fine from.2 made in
    let read_terms = each_of IsReadTerm from.0 (each_of (AreSome IsReadTerm) s.rows read.rows.each from.0 from.1).each in
    fits_row c.table.layout row (inserted_is_row c.table.layout users texts c.columns from.0 (terms values) read_terms from.2 row made) typed kept sized

pub updates : UpdatesFit
updates d db users s p rs h are read is fit row there new made kept sized =
    let c = changes_of p in
    let facts = update_checked db users s c (checked_inside (checked_update db users s) updates_rows (λ x y e. cc) c (is.plan tt db users h refl)) in
    let texts = texts_of d db users h are in
    let old = fit row there in
    let set_parts = value_parts (own_scope c.table) c.table.layout c.columns (new_values s) in
    let fine : (q : Part) → Among q set_parts → (u : Unit {0}) × (check_type q ≡ Ok u) =
    λ q k. fine_parts (update_parts c.table c.columns s) facts.types facts.typed q (in_append_left set_parts (condition_parts c.table s.condition) q k) in
    let typed = assigned_fits c.table users c.columns (new_values s) c.values row new (omega (arith, old.columns.width)) (types_of c.table.layout.columns row old.columns.width old.columns.each) fine facts.bound made in
    let read_terms = each_of IsReadTerm (new_values s) (all_mapped (λ (a : Assignment). a.value) IsReadAssignment IsReadTerm (λ a k. k.value) s.assignments read.assignments.each) in
    fits_row c.table.layout new (assigned_is_row c.table users texts c.columns (new_values s) c.values read_terms facts.bound row (row_of c.table.layout row old) new made) typed kept sized
