-- A query is bound by its parts: the names of all, then the types of all.
use Rattle.std.proofs.Common.{◌≡◌, ◌⊎◌, ℕ, ◌+◌, List, [], ◌∷◌, ◌++◌, map, length, take, drop, Option, Result, Ok, Err, refl, sym, ap, ◌∙◌, subst, inl, inr, length-append, length-drop, append-nil, append_assoc, arith, ◌-◌}
use Rattle.std.proofs.lemmas.List.{length-map, nil_from_length, take-map, drop-map}
use Rattle.sql_types.specs.declared.state.SqlState.{SqlState}
use Rattle.sql_types.specs.declared.state.SqlState.TheVariants.{OutOfMemory}
use Rattle.sql_types.specs.declared.state.Refusal.{Refusal}
use Rattle.sql_ast.specs.declared.scope.ColumnIndex.{ColumnIndex}
use Rattle.sql_ast.specs.declared.statement.SelectList.{SelectList}
use Rattle.sql_ast.specs.declared.statement.SelectList.TheVariants as list
use Rattle.sql_ast.specs.declared.statement.SortKey.{SortKey}
use Rattle.sql_ast.specs.declared.statement.TableExpression.{TableExpression}
use Rattle.sql_ast.specs.Scope.{Table as ScopeTable}
use Rattle.sql_ast.specs.Term.{Term}
use Rattle.expressions.specs.Names.{resolved}
use Rattle.expressions.specs.Parts.{Part, resolve_parts, check_expressions, Binds, IsBound}
use Rattle.expressions.specs.Stages.{◌>>=◌, each}
use Rattle.expressions.specs.Types.{TypedTerm}
use Rattle.abstract_database.specs.Queries.{expressions_of, conditions_of, keys_of, limit_of, select_parts, BoundList, BoundKey, BoundQuery, bound_list, bound_condition, bound_key, bound_query}
use Rattle.abstract_database.proofs.ResultLemmas.{length_each}
use Rattle.gathering.specs.Queries.{terms}
use Rattle.planner.specs.Parts.{value_part, condition_part, key_part, list_length, conditions_length, list_with, key_with, keys_with, query_with}
use Rattle.planner.proofs.Stages.{each_append, each_map, front, behind}

-- ---- the terms of the list and of the keys

list_by : (scope : List ScopeTable) (l : SelectList) → bound_list scope l ≡ (each (resolved scope) (expressions_of l) >>= λ ts. Ok (list_with l ts))
list_by scope list.Asterisk = refl
list_by scope (list.Expressions expressions) = refl
list_by scope list.Count = refl

key_step : (key : SortKey) (keys : List SortKey) (a : Result (Term ColumnIndex) SqlState) (b : Result (List (Term ColumnIndex)) SqlState) →
    ((a >>= λ t. Ok (key_with key t)) >>= λ k. (b >>= λ ts. Ok (keys_with keys ts)) >>= λ ks. Ok (k ∷ ks)) ≡ ((a >>= λ t. b >>= λ ts. Ok (t ∷ ts)) >>= λ ts. Ok (keys_with (key ∷ keys) ts))
key_step key keys (Ok t) (Ok ts) = refl
key_step key keys (Ok t) (Err code) = refl
key_step key keys (Err code) b = refl

keys_by : (scope : List ScopeTable) (keys : List SortKey) → each (bound_key scope) keys ≡ (each (λ k. resolved scope k.value) keys >>= λ ts. Ok (keys_with keys ts))
keys_by scope [] = refl
keys_by scope (key ∷ keys) =
    ap (λ r. bound_key scope key >>= λ k. r >>= λ ks. Ok (k ∷ ks)) (keys_by scope keys)
    ∙ key_step key keys (resolved scope key.value) (each (λ k. resolved scope k.value) keys)

-- ---- the query of lists of terms that stand one behind the other

abbrev Terms : Type 0
Terms = List (Term ColumnIndex)

abbrev query_by : SelectList → Option TableExpression → Terms → Terms → Terms → BoundQuery
query_by l s a b c = record { list = list_with l a; conditions = b; keys = keys_with (keys_of s) c; limit = limit_of s }

cut_of : (l : SelectList) (s : Option TableExpression) (n m : ℕ) (a b c : Terms) → length a ≡ n → length b ≡ m →
    query_by l s a b c ≡ query_by l s (take n (a ++ (b ++ c))) (take m (drop n (a ++ (b ++ c)))) (drop m (drop n (a ++ (b ++ c))))
cut_of l s n m a b c e f =
    subst (λ n. query_by l s a b c ≡ query_by l s (take n (a ++ (b ++ c))) (take m (drop n (a ++ (b ++ c)))) (drop m (drop n (a ++ (b ++ c))))) e
    (subst (λ m. query_by l s a b c ≡ query_by l s (take (length a) (a ++ (b ++ c))) (take m (drop (length a) (a ++ (b ++ c)))) (drop m (drop (length a) (a ++ (b ++ c))))) f
    (sym (
    ap (λ x. query_by l s x (take (length b) (drop (length a) (a ++ (b ++ c)))) (drop (length b) (drop (length a) (a ++ (b ++ c))))) (front a (b ++ c))
    ∙ ap (λ r. query_by l s a (take (length b) r) (drop (length b) r)) (behind a (b ++ c))
    ∙ ap (λ x. query_by l s a x (drop (length b) (b ++ c))) (front b c)
    ∙ ap (λ x. query_by l s a b x) (behind b c))))

module _ (l : SelectList) (s : Option TableExpression) (checks : Result (List (Unit {0})) SqlState) where
  -- stage after stage, as the definition has them, and as they are over all parts
  abbrev by_kind : Result Terms SqlState → Result Terms SqlState → Result Terms SqlState → Result BoundQuery SqlState
  by_kind a b c = (a >>= λ ts. Ok (list_with l ts)) >>= λ bound. b >>= λ conditions. (c >>= λ ts. Ok (keys_with (keys_of s) ts)) >>= λ keys. checks >>= λ typed. Ok (record { list = bound; conditions = conditions; keys = keys; limit = limit_of s })

  abbrev by_all : Result Terms SqlState → Result Terms SqlState → Result Terms SqlState → Result BoundQuery SqlState
  by_all a b c = (a >>= λ xs. (b >>= λ ys. c >>= λ zs. Ok (ys ++ zs)) >>= λ ys. Ok (xs ++ ys)) >>= λ ts. checks >>= λ typed. Ok (query_with l s ts)

  one_query : (a b c : Result Terms SqlState) → ((x : Terms) → a ≡ Ok x → length x ≡ list_length l) → ((y : Terms) → b ≡ Ok y → length y ≡ conditions_length s) → by_kind a b c ≡ by_all a b c
  one_query (Ok x) (Ok y) (Ok z) e f = ap (λ q. checks >>= λ typed. Ok q) (cut_of l s (list_length l) (conditions_length s) x y z (e x refl) (f y refl))
  one_query (Ok x) (Ok y) (Err code) e f = refl
  one_query (Ok x) (Err code) c e f = refl
  one_query (Err code) b c e f = refl

abbrev name : Part → Result (Term ColumnIndex) SqlState
name p = resolved p.scope p.term

-- the names of all parts are those of the list, of the conditions and of the keys
names_by : (scope : List ScopeTable) (l : SelectList) (s : Option TableExpression) → resolve_parts (select_parts scope l s)
    ≡ (each (resolved scope) (expressions_of l) >>= λ xs. (each (bound_condition scope) (conditions_of s) >>= λ ys. each (λ k. resolved scope k.value) (keys_of s) >>= λ zs. Ok (ys ++ zs)) >>= λ ys. Ok (xs ++ ys))
names_by scope l s =
    let values = map (value_part scope) (expressions_of l) in
    let conditions = map (condition_part scope) (conditions_of s) in
    let keys = map (key_part scope) (keys_of s) in
    ap (each name) (append_assoc values conditions keys)
    ∙ each_append name values (conditions ++ keys)
    ∙ ap (λ r. r >>= λ xs. each name (conditions ++ keys) >>= λ ys. Ok (xs ++ ys)) (each_map name (value_part scope) (expressions_of l))
    ∙ ap (λ r. each (resolved scope) (expressions_of l) >>= λ xs. r >>= λ ys. Ok (xs ++ ys)) (
    each_append name conditions keys
    ∙ ap (λ r. r >>= λ ys. each name keys >>= λ zs. Ok (ys ++ zs)) (each_map name (condition_part scope) (conditions_of s))
    ∙ ap (λ r. each (bound_condition scope) (conditions_of s) >>= λ ys. r >>= λ zs. Ok (ys ++ zs)) (each_map name (key_part scope) (keys_of s)))

pub by_parts : (scope : List ScopeTable) (l : SelectList) (s : Option TableExpression) →
    bound_query scope l s ≡ (resolve_parts (select_parts scope l s) >>= λ ts. check_expressions (select_parts scope l s) >>= λ typed. Ok (query_with l s ts))
by_parts scope l s =
    let parts = select_parts scope l s in
    let checks = check_expressions parts in
    let a = each (resolved scope) (expressions_of l) in
    let b = each (bound_condition scope) (conditions_of s) in
    let c = each (λ k. resolved scope k.value) (keys_of s) in
    ap (λ r. r >>= λ bound. b >>= λ conditions. each (bound_key scope) (keys_of s) >>= λ keys. checks >>= λ typed. Ok (record { list = bound; conditions = conditions; keys = keys; limit = limit_of s })) (list_by scope l)
    ∙ ap (λ r. (a >>= λ ts. Ok (list_with l ts)) >>= λ bound. b >>= λ conditions. r >>= λ keys. checks >>= λ typed. Ok (record { list = bound; conditions = conditions; keys = keys; limit = limit_of s })) (keys_by scope (keys_of s))
    ∙ one_query l s checks a b c (λ x e. length_each (resolved scope) (expressions_of l) x e) (λ y e. length_each (bound_condition scope) (conditions_of s) y e)
    ∙ sym (ap (λ r. r >>= λ ts. checks >>= λ typed. Ok (query_with l s ts)) (names_by scope l s))

-- ---- what the binder of parts answers

pub length_of_bound : (scope : List ScopeTable) (l : SelectList) (s : Option TableExpression) (bound : List TypedTerm) → Binds (select_parts scope l s) bound →
    length bound ≡ list_length l + (conditions_length s + length (keys_of s))
length_of_bound scope l s bound b =
    sym (length-map bound (λ t. t.term))
    ∙ length_each name (select_parts scope l s) (map (λ t. t.term) bound) b.names
    ∙ ap length (append_assoc (map (value_part scope) (expressions_of l)) (map (condition_part scope) (conditions_of s)) (map (key_part scope) (keys_of s)))
    ∙ length-append (map (value_part scope) (expressions_of l)) (map (condition_part scope) (conditions_of s) ++ map (key_part scope) (keys_of s))
    ∙ ap (λ n. n + length (map (condition_part scope) (conditions_of s) ++ map (key_part scope) (keys_of s))) (length-map (expressions_of l) (value_part scope))
    ∙ ap (λ n. list_length l + n) (
    length-append (map (condition_part scope) (conditions_of s)) (map (key_part scope) (keys_of s))
    ∙ ap (λ n. n + length (map (key_part scope) (keys_of s))) (length-map (conditions_of s) (condition_part scope))
    ∙ ap (λ n. conditions_length s + n) (length-map (keys_of s) (key_part scope)))

pub is_query : (scope : List ScopeTable) (l : SelectList) (s : Option TableExpression) (bound : List TypedTerm) → Binds (select_parts scope l s) bound →
    bound_query scope l s ≡ Ok (query_with l s (map (λ t. t.term) bound))
is_query scope l s bound b =
    by_parts scope l s
    ∙ ap (λ r. r >>= λ ts. check_expressions (select_parts scope l s) >>= λ typed. Ok (query_with l s ts)) b.names
    ∙ ap (λ r. r >>= λ typed. Ok (query_with l s (map (λ (t : TypedTerm). t.term) bound))) b.types

refused_by : (q : Terms → BoundQuery) (code : SqlState) (names : Result Terms SqlState) (checks : Result (List (Unit {0})) SqlState) → (names >>= λ ts. checks) ≡ Err code →
    (names >>= λ ts. checks >>= λ typed. Ok (q ts)) ≡ Err code
refused_by q code (Err other) checks e = cc
refused_by q code (Ok ts) (Err other) e = cc
refused_by q code (Ok ts) (Ok typed) e = cc

pub is_refused : (scope : List ScopeTable) (l : SelectList) (s : Option TableExpression) (r : Refusal) → IsBound (select_parts scope l s) (Err r) →
    (r.0 ≡ OutOfMemory) ⊎ (bound_query scope l s ≡ Err r.0)
is_refused scope l s r (inl e) = inl e
is_refused scope l s r (inr e) = inr (by_parts scope l s ∙ refused_by (query_with l s) r.0 (resolve_parts (select_parts scope l s)) (check_expressions (select_parts scope l s)) e)

-- ---- the keys beside their values

no_values : (keys : List SortKey) → keys_with keys [] ≡ []
no_values [] = refl
no_values (key ∷ keys) = refl

pub no_key_left : (whole done : List BoundKey) (keys : List SortKey) (ts : Terms) → whole ≡ done ++ keys_with keys ts → length keys ≡ 0 → done ≡ whole
no_key_left whole done keys ts e f = sym (e ∙ ap (λ ks. done ++ keys_with ks ts) (nil_from_length keys f) ∙ append-nil done)

pub no_value_left : (whole done : List BoundKey) (keys : List SortKey) (us : List TypedTerm) → whole ≡ done ++ keys_with keys (map (λ t. t.term) us) → length us ≡ 0 → done ≡ whole
no_value_left whole done keys us e f = sym (e ∙ ap (λ xs. done ++ keys_with keys (map (λ (t : TypedTerm). t.term) xs)) (nil_from_length us f) ∙ ap (λ ks. done ++ ks) (no_values keys) ∙ append-nil done)

-- ---- the bound parts, cut twice

keys_left : (l : SelectList) (s : Option TableExpression) (bound middle : List TypedTerm) →
    length bound ≡ list_length l + (conditions_length s + length (keys_of s)) → middle ≡ drop (list_length l) bound → length middle - length (keys_of s) ≡ conditions_length s
keys_left l s bound middle e m =
    let rest : length middle ≡ length bound - list_length l = ap length m ∙ length-drop (list_length l) bound in
    omega (arith, e, rest)

pub split_keys : (l : SelectList) (s : Option TableExpression) (bound middle keys : List TypedTerm) →
    length bound ≡ list_length l + (conditions_length s + length (keys_of s)) → middle ≡ drop (list_length l) bound → keys ≡ drop (length middle - length (keys_of s)) middle →
    keys ≡ drop (conditions_length s) (drop (list_length l) bound)
split_keys l s bound middle keys e m k = k ∙ ap (λ i. drop i middle) (keys_left l s bound middle e m) ∙ ap (drop (conditions_length s)) m

pub split_query : (l : SelectList) (s : Option TableExpression) (bound values conditions middle keys : List TypedTerm) (list : BoundList) (sorted : List BoundKey) →
    length bound ≡ list_length l + (conditions_length s + length (keys_of s)) →
    values ≡ take (list_length l) bound → middle ≡ drop (list_length l) bound → conditions ≡ take (length middle - length (keys_of s)) middle → keys ≡ drop (length middle - length (keys_of s)) middle →
    list ≡ list_with l (terms values) → sorted ≡ keys_with (keys_of s) (terms keys) →
    record { list = list; conditions = terms conditions; keys = sorted; limit = limit_of s } ≡ query_with l s (terms bound)
split_query l s bound values conditions middle keys list sorted e v m c k f g =
    let n = list_length l in
    let count = keys_left l s bound middle e m in
    let part : (xs : List TypedTerm) → xs ≡ take (conditions_length s) (drop n bound) → terms xs ≡ take (conditions_length s) (drop n (terms bound)) = λ xs h. ap terms h ∙ sym (take-map (λ t. t.term) (conditions_length s) (drop n bound)) ∙ ap (take (conditions_length s)) (sym (drop-map (λ t. t.term) n bound)) in
    let last : (xs : List TypedTerm) → xs ≡ drop (conditions_length s) (drop n bound) → terms xs ≡ drop (conditions_length s) (drop n (terms bound)) = λ xs h. ap terms h ∙ sym (drop-map (λ t. t.term) (conditions_length s) (drop n bound)) ∙ ap (drop (conditions_length s)) (sym (drop-map (λ t. t.term) n bound)) in
    let conditions_are = part conditions (c ∙ ap (λ i. take i middle) count ∙ ap (take (conditions_length s)) m) in
    let keys_are = last keys (split_keys l s bound middle keys e m k) in
    ap (λ (x : BoundList). record { list = x; conditions = terms conditions; keys = sorted; limit = limit_of s }) (f ∙ ap (list_with l) (ap terms v ∙ sym (take-map (λ t. t.term) n bound)))
    ∙ ap (λ x. record { list = list_with l (take n (terms bound)); conditions = x; keys = sorted; limit = limit_of s }) conditions_are
    ∙ ap (λ x. record { list = list_with l (take n (terms bound)); conditions = take (conditions_length s) (drop n (terms bound)); keys = x; limit = limit_of s }) (g ∙ ap (keys_with (keys_of s)) keys_are)
