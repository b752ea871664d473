-- The slice of a text from one of its tokens to another is trimmed.
use Rattle.std.proofs.Common.{◌≡◌, ℕ, zero, suc, ◌+◌, ◌-◌, ◌<◌, ◌≤◌, List, [], ◌∷◌, length, map, take, drop, Result, Ok, refl, sym, ap, subst, ◌∙◌, arith, length-drop}
use Rattle.std.proofs.lemmas.List.{length-map, length-take-le, take_all}
use Rattle.sql_types.specs.declared.state.SqlState.{SqlState}
use Rattle.sql_lexer.specs.Lexeme.{Lexeme}
use Rattle.sql_lexer.specs.Lexing.{Lexes}
use Rattle.sql_lexer.specs.Slices.{start_at, end_at, text_between, moved_by, tokens_between}
use Rattle.sql_lexer.proofs.Cutting.{slice_lexes}
use Rattle.expr_parser.specs.Written.{IsTrimmed}
use Rattle.expr_parser.proofs.OneAnswer.{LexesOnce}

-- where the first of some tokens begins
start_drop : (ts : List Lexeme) (i : ℕ) → start_at (drop i ts) 0 ≡ start_at ts i
start_drop ts zero = refl
start_drop [] (suc i) = refl
start_drop (t ∷ ts) (suc i) = start_drop ts i

start_moved : (b n : ℕ) (ts : List Lexeme) → start_at (map (moved_by b) (take (suc n) ts)) 0 ≡ start_at ts 0 - b
start_moved b n [] = let e : 0 ≡ 0 - b = omega arith in e
start_moved b n (t ∷ ts) = refl

start_between : (ts : List Lexeme) (i j : ℕ) → start_at (tokens_between ts i j) 0 ≡ 0
start_between ts i j =
    let moved = start_moved (start_at ts i) (j - i) (drop i ts) in
    let first = start_drop ts i in
    omega (arith, moved, first)

-- where the last of some tokens ends
end_drop : (ts : List Lexeme) (i n : ℕ) → end_at (drop i ts) n ≡ end_at ts (i + n)
end_drop ts zero n = let e : 0 + n ≡ n = omega arith in ap (end_at ts) (sym e)
end_drop [] (suc i) n = refl
end_drop (t ∷ ts) (suc i) n = let e : suc i + n ≡ suc (i + n) = omega arith in end_drop ts i n ∙ ap (end_at (t ∷ ts)) (sym e)

end_moved : (b n : ℕ) (ts : List Lexeme) → end_at ts n - b ≤ end_at (map (moved_by b) (take (suc n) ts)) n
end_moved b zero [] = omega arith
end_moved b (suc n) [] = omega arith
end_moved b zero (t ∷ ts) = omega arith
end_moved b (suc n) (t ∷ ts) = end_moved b n ts

last_between : (ts : List Lexeme) (i j : ℕ) → i ≤ j → j < length ts → length (tokens_between ts i j) - 1 ≡ j - i
last_between ts i j le lt =
    let moved = length-map (take (suc (j - i)) (drop i ts)) (moved_by (start_at ts i)) in
    let taken = length-take-le (suc (j - i)) (drop i ts) (omega (arith, le, lt, length-drop i ts)) in
    omega (arith, moved, taken)

end_between : (ts : List Lexeme) (i j : ℕ) → i ≤ j → j < length ts → end_at ts j - start_at ts i ≤ end_at (tokens_between ts i j) (length (tokens_between ts i j) - 1)
end_between ts i j le lt =
    let place : i + (j - i) ≡ j = omega (arith, le) in
    let last = ap (end_at (tokens_between ts i j)) (last_between ts i j le lt) in
    let dropped = end_drop ts i (j - i) ∙ ap (end_at ts) place in
    omega (arith, end_moved (start_at ts i) (j - i) (drop i ts), last, dropped)

shorter : (n : ℕ) (z : List ℕ) → length (take n z) ≤ n
shorter zero z = omega arith
shorter (suc n) [] = omega arith
shorter (suc n) (x ∷ xs) = omega (arith, shorter n xs)

-- from the first byte to where the last token ends
all_of : (text : List ℕ) (from to : ℕ) → from ≡ 0 → length text ≤ to → take (to - from) (drop from text) ≡ text
all_of text from to first whole =
    ap (λ n. take (to - n) (drop n text)) first ∙ take_all (to - 0) text (omega (arith, whole))

pub slice_trimmed : LexesOnce → (text : List ℕ) (ts : List Lexeme) (i j : ℕ) → Lexes text (Ok ts) → i ≤ j → j < length ts → IsTrimmed (text_between text ts i j)
slice_trimmed o text ts i j lexes le lt found found_lexes =
    subst (λ us. text_between slice us 0 (length us - 1) ≡ slice) (same (o.one slice (Ok (tokens_between ts i j)) (Ok found) (slice_lexes text ts i j lexes le lt) found_lexes)) whole
  where
    slice : List ℕ
    slice = text_between text ts i j

    same : ◌≡◌ {A = Result (List Lexeme) SqlState} (Ok (tokens_between ts i j)) (Ok found) → tokens_between ts i j ≡ found
    same h = cc

    whole : text_between slice (tokens_between ts i j) 0 (length (tokens_between ts i j) - 1) ≡ slice
    whole = all_of slice (start_at (tokens_between ts i j) 0) (end_at (tokens_between ts i j) (length (tokens_between ts i j) - 1)) (start_between ts i j)
        (omega (arith, end_between ts i j le lt, shorter (end_at ts j - start_at ts i) (drop (start_at ts i) text)))
