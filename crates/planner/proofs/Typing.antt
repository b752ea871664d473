-- The values of the list and the sort keys of a query have their types.
use Rattle.std.proofs.Common.{◌≡◌, suc, List, [], ◌∷◌, ◌++◌, map, take, drop, length, Option, Result, Ok, Err, refl, sym, ap, ◌∙◌, subst, append_assoc}
use Rattle.std.specs.List.{AllByRecursion}
use Rattle.std.proofs.lemmas.List.{length-map}
use Rattle.sql_types.specs.declared.state.SqlState.{SqlState}
use Rattle.sql_ast.specs.declared.expression.ColumnName.{ColumnName}
use Rattle.sql_ast.specs.declared.statement.SelectList.{SelectList}
use Rattle.sql_ast.specs.declared.statement.SortKey.{SortKey as WrittenKey}
use Rattle.sql_ast.specs.declared.statement.TableExpression.{TableExpression}
use Rattle.sql_ast.specs.Scope.{Table as ScopeTable, type_at}
use Rattle.sql_ast.specs.Term.{Term}
use Rattle.sql_types.specs.declared.value.Value.{Value}
use Rattle.sql_ast.specs.declared.scope.ColumnIndex.{ColumnIndex}
use Rattle.expressions.specs.Outcome.{Outcome}
use Rattle.expressions.specs.Meaning.{UserNames, value_of}
use Rattle.expressions.specs.Names.{resolved, cell_named}
use Rattle.expressions.proofs.Meanings.{resolved_means}
use Rattle.abstract_database.proofs.ValueTypes.{checked_value}
use Rattle.expressions.specs.Parts.{Part, Binds}
use Rattle.expressions.specs.Stages.{◌>>=◌, each}
use Rattle.expressions.specs.Types.{TypedTerm, FitsRow, HasType, type_of, typed, names_then_types}
use Rattle.abstract_database.specs.Queries.{expressions_of, conditions_of, keys_of, select_parts}
use Rattle.abstract_database.proofs.ResultLemmas.{ok_inside, bind_ok}
use Rattle.gathering.specs.declared.query.OutputList.{OutputList}
use Rattle.gathering.specs.declared.query.OutputList.TheVariants.{Rows, Count}
use Rattle.gathering.specs.declared.query.RowList.TheVariants.{Columns, Values}
use Rattle.gathering.specs.declared.query.TypedSortKey.{TypedSortKey}
use Rattle.gathering.specs.declared.query.Query.{Query}
use Rattle.planner.specs.Bound.{IsTyped, HasOwnType, HasListTypes, HasTypes, IsListOf, key_values, Begins}
use Rattle.planner.specs.Parts.{value_part, condition_part, key_part, list_length, conditions_length}
use Rattle.planner.proofs.Stages.{each_map}

-- ---- steps over lists that stand one behind the other

first_of : {A B : Type 0} (f : A → Result B SqlState) (xs ys : List A) (zs : List B) → each f (xs ++ ys) ≡ Ok zs → each f xs ≡ Ok (take (length xs) zs)
first_of f [] ys zs e = refl
first_of f (x ∷ xs) ys zs e =
    let a = bind_ok (f x) (λ y. each f (xs ++ ys) >>= λ l. Ok (y ∷ l)) zs e in
    let b = bind_ok (each f (xs ++ ys)) (λ l. Ok (a.0 ∷ l)) zs a.2 in
    subst (λ l. each f (x ∷ xs) ≡ Ok (take (suc (length xs)) l)) (ok_inside (a.0 ∷ b.0) zs b.2)
    (ap (λ r. r >>= λ y. each f xs >>= λ l. Ok (y ∷ l)) a.1 ∙ ap (λ r. r >>= λ l. Ok (a.0 ∷ l)) (first_of f xs ys b.0 b.1))

rest_of : {A B : Type 0} (f : A → Result B SqlState) (xs ys : List A) (zs : List B) → each f (xs ++ ys) ≡ Ok zs → each f ys ≡ Ok (drop (length xs) zs)
rest_of f [] ys zs e = e
rest_of f (x ∷ xs) ys zs e =
    let a = bind_ok (f x) (λ y. each f (xs ++ ys) >>= λ l. Ok (y ∷ l)) zs e in
    let b = bind_ok (each f (xs ++ ys)) (λ l. Ok (a.0 ∷ l)) zs a.2 in
    subst (λ l. each f ys ≡ Ok (drop (suc (length xs)) l)) (ok_inside (a.0 ∷ b.0) zs b.2) (rest_of f xs ys b.0 b.1)

all_given : {A B : Type 0} (f : A → Result B SqlState) (P : B → Type 0) → ((x : A) (y : B) → f x ≡ Ok y → P y) → (xs : List A) (ys : List B) → each f xs ≡ Ok ys → AllByRecursion P ys
all_given f P h [] ys e = subst (AllByRecursion P) (ok_inside [] ys e) tt
all_given f P h (x ∷ xs) ys e =
    let a = bind_ok (f x) (λ y. each f xs >>= λ l. Ok (y ∷ l)) ys e in
    let b = bind_ok (each f xs) (λ l. Ok (a.0 ∷ l)) ys a.2 in
    subst (AllByRecursion P) (ok_inside (a.0 ∷ b.0) ys b.2) (h x a.0 a.1, all_given f P h xs b.0 b.1)

front_all : {X : Type 0} (P : X → Type 0) (xs ys : List X) → AllByRecursion P (xs ++ ys) → AllByRecursion P xs
front_all P [] ys h = tt
front_all P (x ∷ xs) ys h = (h.0, front_all P xs ys h.1)

of_map : {X Y : Type 0} (P : Y → Type 0) (g : X → Y) (xs : List X) → AllByRecursion P (map g xs) → AllByRecursion (λ x. P (g x)) xs
of_map P g [] h = tt
of_map P g (x ∷ xs) h = (h.0, of_map P g xs h.1)

-- ---- the parts of a SELECT

abbrev named : Part → Result TypedTerm SqlState
named p = names_then_types p.scope p.term

is_typed : (scope : List ScopeTable) (e : Term ColumnName) (u : TypedTerm) → names_then_types scope e ≡ Ok u → IsTyped scope u
is_typed scope e u h =
    let a = bind_ok (resolved scope e) (typed scope) u h in
    let v = bind_ok (type_of (type_at scope) a.0) (λ v. Ok (record { term = a.0; value_type = v })) u a.2 in
    let same : a.0 ≡ u.term = ap (λ (w : TypedTerm). w.term) (ok_inside (record { term = a.0; value_type = v.0 }) u v.2) in
    λ cell users fits. of_type cell users fits (value_of cell users u.term) (sym (resolved_means scope cell users e a.0 a.1) ∙ ap (value_of cell users) same)
  where
    of_type : (cell : ColumnIndex → Value) (users : UserNames) → FitsRow (type_at scope) cell → (o : Outcome) → value_of (cell_named scope cell) users e ≡ o → HasType u.value_type o
    of_type cell users fits (Ok w) k = checked_value scope cell users fits e u w h k
    of_type cell users fits (Err code) k = tt

own_type : (scope : List ScopeTable) (e : Term ColumnName) (u : TypedTerm) → names_then_types scope e ≡ Ok u → HasOwnType scope u
own_type scope e u h =
    let a = bind_ok (resolved scope e) (typed scope) u h in
    let v = bind_ok (type_of (type_at scope) a.0) (λ v. Ok (record { term = a.0; value_type = v })) u a.2 in
    subst (HasOwnType scope) (ok_inside (record { term = a.0; value_type = v.0 }) u v.2) v.1

list_typed : (scope : List ScopeTable) (l : OutputList) (values : List TypedTerm) → IsListOf l values → AllByRecursion (HasOwnType scope) values → HasListTypes scope l
list_typed scope (Rows (Columns widths)) values e h = tt
list_typed scope (Rows (Values list)) values e h = subst (AllByRecursion (HasOwnType scope)) (sym e) h
list_typed scope Count values e h = tt

pub typed_query : (scope : List ScopeTable) (l : SelectList) (s : Option TableExpression) (bound : List TypedTerm) (q : Query) → Binds (select_parts scope l s) bound →
    IsListOf q.list (take (list_length l) bound) → Begins (key_values q.keys) (drop (conditions_length s) (drop (list_length l) bound)) → HasTypes scope q
typed_query scope l s bound q b list keys =
    let values = map (value_part scope) (expressions_of l) in
    let conditions = map (condition_part scope) (conditions_of s) in
    let sorts = map (key_part scope) (keys_of s) in
    let whole : each named (values ++ (conditions ++ sorts)) ≡ Ok bound = sym (ap (each named) (append_assoc values conditions sorts)) ∙ b.typed in
    let count : length values ≡ list_length l = length-map (expressions_of l) (value_part scope) in
    let many : length conditions ≡ conditions_length s = length-map (conditions_of s) (condition_part scope) in
    let first : each named values ≡ Ok (take (list_length l) bound) = subst (λ n. each named values ≡ Ok (take n bound)) count (first_of named values (conditions ++ sorts) bound whole) in
    let later : each named (conditions ++ sorts) ≡ Ok (drop (list_length l) bound) = subst (λ n. each named (conditions ++ sorts) ≡ Ok (drop n bound)) count (rest_of named values (conditions ++ sorts) bound whole) in
    let last : each named sorts ≡ Ok (drop (conditions_length s) (drop (list_length l) bound)) = subst (λ n. each named sorts ≡ Ok (drop n (drop (list_length l) bound))) many (rest_of named conditions sorts (drop (list_length l) bound) later) in
    let of_list = all_given (names_then_types scope) (HasOwnType scope) (own_type scope) (expressions_of l) (take (list_length l) bound) (sym (each_map named (value_part scope) (expressions_of l)) ∙ first) in
    let of_keys = all_given (λ (k : WrittenKey). names_then_types scope k.value) (IsTyped scope) (λ k u h. is_typed scope k.value u h) (keys_of s) (drop (conditions_length s) (drop (list_length l) bound)) (sym (each_map named (key_part scope) (keys_of s)) ∙ last) in
    record {
      list = list_typed scope q.list (take (list_length l) bound) list of_list;
      keys = of_map (IsTyped scope) (λ (k : TypedSortKey). k.value) q.keys (front_all (IsTyped scope) (key_values q.keys) keys.0 (subst (AllByRecursion (IsTyped scope)) keys.1 of_keys));
    }
