-- The conditions after ON, join by join.
use Rattle.std.proofs.Common.{◌≡◌, ℕ, suc, ◌+◌, ◌<◌, List, ◌∷◌, ◌++◌, map, length, get_or, drop, sym, ap, ◌∙◌, append_assoc, add-one, arith}
use Rattle.std.proofs.Math.Seq.{drop-cons}
use Rattle.std.proofs.lemmas.List.{map-append}
use Rattle.sql_ast.specs.declared.statement.Join.{Join}
use Rattle.sql_ast.specs.Scope.{Table as ScopeTable}
use Rattle.expressions.specs.Parts.{Part}
use Rattle.abstract_database.specs.Queries.{condition_on, join_conditions}
use Rattle.planner.specs.Parts.{condition_part}

here : {A : Type 0} (xs : List A) (i : ℕ) (x : A) → x ≡ get_or xs i x → i < length xs → drop i xs ≡ x ∷ drop (i + 1) xs
here xs i x e lt = drop-cons xs i x lt ∙ ap (λ h. h ∷ drop (suc i) xs) (sym e) ∙ ap (λ n. x ∷ drop n xs) (sym (add-one i))

-- the condition of one more join is added
pub one_join : (scope : List ScopeTable) (joins : List Join) (i : ℕ) (join : Join) (whole before after : List Part) → join ≡ get_or joins i join → i < length joins →
    whole ≡ before ++ map (condition_part scope) (join_conditions (i + 2) (drop i joins)) → after ≡ before ++ map (condition_part scope) (condition_on (i + 2) join.condition) →
    whole ≡ after ++ map (condition_part scope) (join_conditions (i + 1 + 2) (drop (i + 1) joins))
one_join scope joins i join whole before after at lt left added =
    let rest = drop (i + 1) joins in
    let own = condition_on (i + 2) join.condition in
    let next : suc (i + 2) ≡ i + 1 + 2 = omega arith in
    left
    ∙ ap (λ js. before ++ map (condition_part scope) (join_conditions (i + 2) js)) (here joins i join at lt)
    ∙ ap (λ l. before ++ l) (map-append (condition_part scope) own (join_conditions (suc (i + 2)) rest))
    ∙ sym (append_assoc before (map (condition_part scope) own) (map (condition_part scope) (join_conditions (suc (i + 2)) rest)))
    ∙ ap (λ l. l ++ map (condition_part scope) (join_conditions (suc (i + 2)) rest)) (sym added)
    ∙ ap (λ n. after ++ map (condition_part scope) (join_conditions n rest)) next
