-- The search for the first token with which no statement begins.
use Rattle.std.proofs.Common.{◌≡◌, ℕ, zero, suc, ◌+◌, ◌-◌, ◌<◌, ◌≤◌, Bool, false, List, [], ◌∷◌, ◌++◌, length, map, take, get_or, Result, Ok, Err, refl, sym, ap, subst, ◌∙◌, arith}
use Rattle.std.specs.Prelude.{All, IfOk}
use Rattle.std.specs.Str.{IsCharBoundary}
use Rattle.std.proofs.lemmas.Str.{IsCharBoundary-end}
use Rattle.std.proofs.lemmas.List.{take_more, get_or-map, length-map}
use Rattle.std.proofs.lemmas.List.Sums.{fold-append}
use Rattle.sql_lexer.specs.declared.token.Token.{Token}
use Rattle.sql_lexer.specs.declared.token.TokenKind.{TokenKind}
use Rattle.sql_lexer.specs.declared.token.TokenKind.TheVariants as kind
use Rattle.sql_lexer.specs.declared.token.Punctuation.TheVariants as punctuation
use Rattle.sql_lexer.specs.Lexeme.{Lexeme, lexeme, lexemes, kind_at, IsPlaced}
use Rattle.sql_lexer.specs.Parentheses.{open_after, open_count}
use Rattle.sql_parser.specs.Completions.{Words, completions}
use Rattle.sql_parser.specs.Places.{IsSpelled, IsBeginning, NoneCompletes, IsPlaceAmong, rest_of, place_at}

-- how many are open

pub counts_on : (ts : List Token) (i count next : ℕ) (d : Token) → count ≡ open_count (take i (lexemes ts)) → i < length ts → next ≡ open_after count (get_or ts i d).kind → next ≡ open_count (take (i + 1) (lexemes ts))
counts_on ts i count next d so lt is =
    let there : i < length (lexemes ts) = omega (arith, length-map ts lexeme) in
    let more : open_count (take (i + 1) (lexemes ts)) ≡ open_after (open_count (take i (lexemes ts))) (get_or ts i d).kind =
    ap open_count (take_more (lexemes ts) i (lexeme d) there)
    ∙ fold-append (λ n x. open_after n x.kind) 0 (take i (lexemes ts)) (get_or (lexemes ts) i (lexeme d) ∷ [])
    ∙ ap (λ x. open_after (open_count (take i (lexemes ts))) x.kind) (get_or-map lexeme ts i d (lexeme d) lt)
    in is ∙ ap (λ n. open_after n (get_or ts i d).kind) so ∙ sym more

one_more_at_most : (n : ℕ) (k : TokenKind) → open_after n k ≤ n + 1
one_more_at_most n (kind.Punctuation punctuation.Open) = omega arith
one_more_at_most n (kind.Punctuation punctuation.Close) = omega arith
one_more_at_most n _ = omega arith

pub next_at_most : (i n next : ℕ) (k : TokenKind) → n ≤ i → next ≡ open_after n k → next ≤ i + 1
next_at_most i n next k le e = omega (arith, le, e, one_more_at_most n k)

-- where a token begins

pub place_there : (end : ℕ) (ts : List Token) (i : ℕ) (d : Token) → i < length ts → (get_or ts i d).start ≡ place_at end (lexemes ts) i
place_there end [] i d lt = absurd (omega (arith, lt))
place_there end (t ∷ ts) zero d lt = refl
place_there end (t ∷ ts) (suc i) d lt = place_there end ts i d (omega (arith, lt))

pub place_past : (end : ℕ) (ts : List Token) (i : ℕ) → length ts ≤ i → end ≡ place_at end (lexemes ts) i
place_past end [] i le = refl
place_past end (t ∷ ts) zero le = absurd (omega (arith, le))
place_past end (t ∷ ts) (suc i) le = place_past end ts i (omega (arith, le))

boundary_at : (text : List ℕ) (ts : List Lexeme) (i : ℕ) → All (IsPlaced text) ts → IsCharBoundary text (place_at (length text) ts i)
boundary_at text [] i p = IsCharBoundary-end text
boundary_at text (t ∷ ts) zero p = (p 0 t (omega arith)).begins
boundary_at text (t ∷ ts) (suc i) p = boundary_at text ts i (λ k d lt. p (suc k) d (omega (arith, lt)))

pub boundary : (text : List ℕ) (ts : List Lexeme) (i end place : ℕ) → All (IsPlaced text) ts → end ≡ length text → place ≡ place_at end ts i → IsCharBoundary text place
boundary text ts i end place p e is = subst (IsCharBoundary text) (sym (is ∙ ap (λ n. place_at n ts i) e)) (boundary_at text ts i p)

-- which texts go on

all_cons : {B : Type 0} (P : B → Type 0) (y : B) (ys : List B) → P y → All P ys → All P (y ∷ ys)
all_cons P y ys p h zero d lt = p
all_cons P y ys p h (suc k) d lt = h k d (omega (arith, lt))

all_map : {A B : Type 0} (P : B → Type 0) (f : A → B) (xs : List A) → All (λ x. P (f x)) xs → All P (map f xs)
all_map P f [] h = λ k d lt. absurd (omega (arith, lt))
all_map P f (x ∷ xs) h = all_cons P (f x) (map f xs) (h 0 x (omega arith)) (all_map P f xs (λ j e l. h (suc j) e (omega (arith, l))))

taken : (i : ℕ) (ts : List Token) → lexemes (take i ts) ≡ take i (lexemes ts)
taken zero ts = refl
taken (suc i) [] = refl
taken (suc i) (t ∷ ts) = ap (λ us. lexeme t ∷ us) (taken i ts)

pub counted : (i count : ℕ) (ts us : List Token) → us ≡ take i ts → count ≡ open_count (lexemes us) → count ≡ open_count (take i (lexemes ts))
counted i count ts us e is = is ∙ ap (λ z. open_count (lexemes z)) e ∙ ap open_count (taken i ts)

pub tried : {A E : Type 0} (view : A → Words) (o : Result Bool E) (xs : List A) (before text : List ℕ) (n m : ℕ) → before ≡ text → n ≡ m
    → IfOk o (λ found. found ≡ false → All (λ c. IsSpelled (before ++ rest_of n (view c)) → ⊥) xs)
    → IfOk o (λ found. found ≡ false → NoneCompletes text m (map view xs))
tried view (Ok b) xs before text n m e f h = λ no.
    subst (λ z. NoneCompletes text z (map view xs)) f
    (subst (λ z. NoneCompletes z n (map view xs)) e
    (all_map (λ words. IsSpelled (before ++ rest_of n words) → ⊥) view xs (h no)))
tried view (Err b) xs before text n m e f h = tt

-- what the search keeps: low and high are places among the tokens, a statement begins with what stands before the one, and none is known to with what stands before the other
pub record Searching (text : List ℕ) (ts : List Lexeme) (table : List Words) (low high : ℕ) : Type 0 where
  pub apart : low < high
  pub most : high ≤ suc (length ts)
  pub below : 0 < low → IsBeginning (take (place_at (length text) ts low) text)
  pub above : high ≤ length ts → NoneCompletes (take (place_at (length text) ts high) text) (open_count (take high ts)) table

pub begun : (text : List ℕ) (ts : List Lexeme) (table : List Words) (high : ℕ) → high ≡ suc (length ts) → Searching text ts table 0 high
begun text ts table high e = record {
  apart = omega (arith, e);
  most = omega (arith, e);
  below = λ lt. absurd (omega (arith, lt));
  above = λ le. absurd (omega (arith, le, e));
}

pub raised : {text : List ℕ} {ts : List Lexeme} {table : List Words} {low high middle : ℕ} → Searching text ts table low high → middle < high → IsBeginning (take (place_at (length text) ts middle) text) → Searching text ts table middle high
raised s lt b = record { apart = lt; most = s.most; below = λ _. b; above = s.above }

pub lowered : {text : List ℕ} {ts : List Lexeme} {table : List Words} {low high middle : ℕ} → Searching text ts table low high → low < middle → middle ≤ length ts → NoneCompletes (take (place_at (length text) ts middle) text) (open_count (take middle ts)) table → Searching text ts table low middle
lowered s lt le n = record { apart = lt; most = omega (arith, le); below = s.below; above = λ _. n }

pub found_at : (text : List ℕ) (ts : List Lexeme) (table : List Words) (low high place : ℕ) → Searching text ts table low high → high - low ≤ 1 → place ≡ place_at (length text) ts low → table ≡ completions (kind_at ts 0) → IsPlaceAmong text ts place
found_at text ts table low high place s le is e = record {
  index = low;
  within = omega (arith, s.apart, s.most);
  stands = is;
  before = λ lt. subst (λ n. IsBeginning (take n text)) (sym is) (s.below lt);
  after = λ lt.
      let next : high ≡ suc low = omega (arith, le, s.apart) in
      subst (λ n. NoneCompletes (take (place_at (length text) ts n) text) (open_count (take n ts)) (completions (kind_at ts 0))) next
      (subst (λ words. NoneCompletes (take (place_at (length text) ts high) text) (open_count (take high ts)) words) e (s.above (omega (arith, lt, le, s.apart))));
}
