-- The tables that a statement names.
use Rattle.std.proofs.Common.{◌≡◌, ◌++◌, List, [], ◌∷◌, map, length, Result, Ok, refl, sym, ap, ◌∙◌, inl, inr, append-nil, Bor}
use Rattle.std.proofs.lemmas.List.{nil_from_length}
use Rattle.sql_types.specs.declared.state.Refusal.{Refusal}
use Rattle.sql_types.specs.declared.state.SqlState.{SqlState}
use Rattle.sql_ast.specs.Scope.{Table as ScopeTable}
use Rattle.sql_ast.specs.declared.statement.TableReference.{TableReference}
use Rattle.expressions.specs.Stages.{each}
use Rattle.expressions.proofs.Each.{IsRightRefusal}
use Rattle.abstract_database.specs.Database.{TableOf}
use Rattle.abstract_database.specs.Queries.{scope_of}
use Rattle.stored_database.specs.Definitions.{TableDefinition, Definitions}
use Rattle.planner.specs.Tables.{table_in, tables_for, definitions_in}
use Rattle.planner.proofs.Stages.{each_map}

abbrev pub found : Definitions → Bor TableReference → Result TableDefinition SqlState
found d r = table_in d r.now.table

lent : (d : Definitions) (refs : List (Bor TableReference)) → tables_for d (map (λ r. r.now) refs) ≡ each (found d) refs
lent d refs = each_map (λ (r : TableReference). table_in d r.table) (λ (r : Bor TableReference). r.now) refs

pub all_found : (d : Definitions) (refs : List (Bor TableReference)) (ts : List TableDefinition) → each (found d) refs ≡ Ok ts → tables_for d (map (λ r. r.now) refs) ≡ Ok ts
all_found d refs ts e = lent d refs ∙ e

pub not_found : (d : Definitions) (refs : List (Bor TableReference)) (r : Refusal) → IsRightRefusal r (each (found d) refs) → IsRightRefusal r (tables_for d (map (λ r. r.now) refs))
not_found d refs r (inl e) = inl e
not_found d refs r (inr e) = inr (lent d refs ∙ e)

pub no_reference_left : (whole done : List ScopeTable) (rs : List (Bor TableReference)) (ts : List TableOf) → whole ≡ done ++ scope_of (map (λ r. r.now) rs) ts → length rs ≡ 0 → done ≡ whole
no_reference_left whole done rs ts e f = sym (e ∙ ap (λ (xs : List (Bor TableReference)). done ++ scope_of (map (λ r. r.now) xs) ts) (nil_from_length rs f) ∙ append-nil done)

no_tables : (rs : List TableReference) → scope_of rs [] ≡ []
no_tables [] = refl
no_tables (r ∷ rs) = refl

pub no_table_left : (whole done : List ScopeTable) (rs : List TableReference) (ts : List (Bor TableDefinition)) → whole ≡ done ++ scope_of rs (definitions_in (map (λ t. t.now) ts)) → length ts ≡ 0 → done ≡ whole
no_table_left whole done rs ts e f =
    sym (e ∙ ap (λ (xs : List (Bor TableDefinition)). done ++ scope_of rs (definitions_in (map (λ t. t.now) xs))) (nil_from_length ts f) ∙ ap (λ zs. done ++ zs) (no_tables rs) ∙ append-nil done)

pub lent_refused : {A B C : Type 0} (f : B → Result C SqlState) (g : A → B) (xs : List A) (r : Refusal) → IsRightRefusal r (each (λ x. f (g x)) xs) → IsRightRefusal r (each f (map g xs))
lent_refused f g xs r (inl e) = inl e
lent_refused f g xs r (inr e) = inr (each_map f g xs ∙ e)
