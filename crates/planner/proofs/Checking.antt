-- The tables that a statement names, in each database of the definitions.
use Rattle.std.proofs.Common.{◌≡◌, ℕ, Bool, true, false, cond, List, [], ◌∷◌, find, length, suc, arith, Option, Some, None, Result, Ok, Err, refl, sym, ap, ◌∙◌, subst, inl, inr}
use Rattle.std.specs.Option.{option_map}
use Rattle.sql_types.specs.Row.{Row}
use Rattle.sql_types.specs.declared.state.SqlState.{SqlState}
use Rattle.sql_types.specs.declared.state.SqlState.TheVariants.{UndefinedTable}
use Rattle.sql_ast.specs.declared.statement.TableReference.{TableReference}
use Rattle.expressions.specs.Stages.{◌>>=◌, each}
use Rattle.abstract_database.specs.Lists.{TheName, Among, found_or}
use Rattle.abstract_database.specs.Database.{Table, Database, is_table_named}
use Rattle.abstract_database.specs.Checks.{find_definition}
use Rattle.abstract_database.proofs.CheckLemmas.{find_passes}
use Rattle.abstract_database.proofs.ListLemmas.{bytes_same}
use Rattle.stored_database.specs.Definitions.{TableDefinition, Definitions, table_with, tables_with, database_with}
use Rattle.stored_database.specs.Valid.{Describes}
use Rattle.catalogue.specs.Lookups.{is_definition_named}
use Rattle.planner.specs.Tables.{table_in, tables_for, definitions_in}

-- ---- tables by name

named_at : (name : TheName) (t : TableDefinition) (rows : List Row) (b : Bool) (x : Option Table) (y : Option TableDefinition) →
    option_map (λ (u : Table). u.definition) x ≡ option_map (λ (u : TableDefinition). u.definition) y →
    option_map (λ (u : Table). u.definition) (cond b (Some (table_with t rows)) x) ≡ option_map (λ (u : TableDefinition). u.definition) (cond b (Some t) y)
named_at name t rows true x y e = refl
named_at name t rows false x y e = e

named : (name : TheName) (ts : List TableDefinition) (rows : List (List Row)) → length rows ≡ length ts →
    option_map (λ (u : Table). u.definition) (find (is_table_named name) (tables_with ts rows)) ≡ option_map (λ (u : TableDefinition). u.definition) (find (is_definition_named name) ts)
named name [] rows e = refl
named name (t ∷ ts) [] e = cc
named name (t ∷ ts) (r ∷ rows) e = named_at name t r (is_definition_named name t) (find (is_table_named name) (tables_with ts rows)) (find (is_definition_named name) ts) (named name ts rows (suc_same (length rows) (length ts) e)) where
  suc_same : (m n : ℕ) → suc m ≡ suc n → m ≡ n
  suc_same m n h = omega (arith, h)

as_definition : (o : Option TableDefinition) → found_or UndefinedTable (option_map (λ (u : TableDefinition). u.definition) o) ≡ (found_or UndefinedTable o >>= λ t. Ok t.definition)
as_definition None = refl
as_definition (Some t) = refl

pub definition_found : (d : Definitions) (rows : List (List Row)) (name : TheName) → length rows ≡ length d.tables →
    find_definition (database_with d rows) name ≡ (table_in d name >>= λ t. Ok t.definition)
definition_found d rows name e = ap (found_or UndefinedTable) (named name d.tables rows e) ∙ as_definition (find (is_definition_named name) d.tables)

first_and_rest : (a : Result TableDefinition SqlState) (b : Result (List TableDefinition) SqlState) →
    ((a >>= λ t. Ok t.definition) >>= λ x. (b >>= λ ts. Ok (definitions_in ts)) >>= λ xs. Ok (x ∷ xs)) ≡ ((a >>= λ t. b >>= λ ts. Ok (t ∷ ts)) >>= λ ts. Ok (definitions_in ts))
first_and_rest (Ok t) (Ok ts) = refl
first_and_rest (Ok t) (Err code) = refl
first_and_rest (Err code) b = refl

pub definitions_found : (d : Definitions) (rows : List (List Row)) (refs : List TableReference) → length rows ≡ length d.tables →
    each (λ (r : TableReference). find_definition (database_with d rows) r.table) refs ≡ (tables_for d refs >>= λ ts. Ok (definitions_in ts))
definitions_found d rows [] e = refl
definitions_found d rows (r ∷ refs) e =
    ap (λ a. a >>= λ x. each (λ (r : TableReference). find_definition (database_with d rows) r.table) refs >>= λ xs. Ok (x ∷ xs)) (definition_found d rows r.table e)
    ∙ ap (λ b. (table_in d r.table >>= λ t. Ok t.definition) >>= λ x. b >>= λ xs. Ok (x ∷ xs)) (definitions_found d rows refs e)
    ∙ first_and_rest (table_in d r.table) (tables_for d refs)

pub found_inside : (o : Option TableDefinition) (t : TableDefinition) → found_or UndefinedTable o ≡ Ok t → o ≡ Some t
found_inside None t e = cc
found_inside (Some u) t e = cc

some_inside : {X : Type 0} (a b : X) → ◌≡◌ {A = Option X} (Some a) (Some b) → a ≡ b
some_inside a b e = cc

here_or_later : {X : Type 0} (p : X → Bool) (y : X) (ys : List X) (x : X) (b : Bool) → (find p ys ≡ Some x → Among x ys) → cond b (Some y) (find p ys) ≡ Some x → Among x (y ∷ ys)
here_or_later p y ys x true later e = inl (some_inside y x e)
here_or_later p y ys x false later e = inr (later e)

pub find_among : {X : Type 0} (p : X → Bool) (xs : List X) (x : X) → find p xs ≡ Some x → Among x xs
find_among p [] x e = cc
find_among {X} p (y ∷ ys) x e = here_or_later p y ys x (p y) (find_among p ys x) e

-- the table of a name is that of its own name
pub own_table : (d : Definitions) (name : TheName) (t : TableDefinition) → table_in d name ≡ Ok t → table_in d t.definition.name ≡ Ok t
own_table d name t found =
    let own : t.definition.name ≡ name = bytes_same t.definition.name name (find_passes (is_definition_named name) d.tables t (found_inside (find (is_definition_named name) d.tables) t found)) in
    subst (λ n. table_in d n ≡ Ok t) (sym own) found

-- a table that the definitions do not have is in none of their databases
pub missing : (d : Definitions) (db : Database) (name : TheName) (code : SqlState) → Describes d db → table_in d name ≡ Err code → find_definition db name ≡ Err code
missing d db name code h e = ap (λ x. find_definition x name) h.is ∙ definition_found d h.rows name h.each_table ∙ ap (λ a. a >>= λ t. Ok t.definition) e
