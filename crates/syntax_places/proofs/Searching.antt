-- The search for the first token with which no statement begins.
use Rattle.std.proofs.Common.{◌≡◌, ◌∙◌, ◌⊎◌, inl, inr, ℕ, zero, suc, ◌+◌, ◌-◌, ◌/◌, ◌<◌, ◌≤◌, Bool, true, false, List, [], ◌∷◌, ◌++◌, length, map, take, get_or, Result, Ok, Err, refl, sym, ap, subst, arith}
use Rattle.std.specs.Prelude.{All, IfOk}
use Rattle.std.specs.Str.{IsCharBoundary}
use Rattle.std.proofs.lemmas.Str.{IsCharBoundary-end}
use Rattle.std.proofs.lemmas.List.{take_more, get_or-map, length-map}
use Rattle.std.proofs.lemmas.List.Sums.{fold-append}
use Rattle.sql_lexer.specs.declared.token.Token.{Token}
use Rattle.sql_lexer.specs.declared.token.TokenKind.{TokenKind}
use Rattle.sql_lexer.specs.declared.token.TokenKind.TheVariants as kind
use Rattle.sql_lexer.specs.declared.token.Punctuation.TheVariants as punctuation
use Rattle.sql_lexer.specs.Lexeme.{Lexeme, lexeme, lexemes, kind_at, IsPlaced}
use Rattle.sql_lexer.specs.Parentheses.{open_after, open_count}
use Rattle.sql_parser.specs.Completions.{Words, completions}
use Rattle.sql_parser.specs.Places.{IsSpelled, rest_of, place_at}
use Rattle.syntax_places.specs.SyntaxPlaces.{GoesOnToAStatement, Halves, IsCompletedBy, found, raises, lowers}

-- how many are open

pub counts_on : (ts : List Token) (i count next : ℕ) (d : Token) → count ≡ open_count (take i (lexemes ts)) → i < length ts → next ≡ open_after count (get_or ts i d).kind → next ≡ open_count (take (i + 1) (lexemes ts))
counts_on ts i count next d so lt is =
    let there : i < length (lexemes ts) = omega (arith, length-map ts lexeme) in
    let more : open_count (take (i + 1) (lexemes ts)) ≡ open_after (open_count (take i (lexemes ts))) (get_or ts i d).kind =
    ap open_count (take_more (lexemes ts) i (lexeme d) there)
    ∙ fold-append (λ n x. open_after n x.kind) 0 (take i (lexemes ts)) (get_or (lexemes ts) i (lexeme d) ∷ [])
    ∙ ap (λ x. open_after (open_count (take i (lexemes ts))) x.kind) (get_or-map lexeme ts i d (lexeme d) lt)
    in is ∙ ap (λ n. open_after n (get_or ts i d).kind) so ∙ sym more

one_more_at_most : (n : ℕ) (k : TokenKind) → open_after n k ≤ n + 1
one_more_at_most n (kind.Punctuation punctuation.Open) = omega arith
one_more_at_most n (kind.Punctuation punctuation.Close) = omega arith
one_more_at_most n _ = omega arith

pub next_at_most : (i n next : ℕ) (k : TokenKind) → n ≤ i → next ≡ open_after n k → next ≤ i + 1
next_at_most i n next k le e = omega (arith, le, e, one_more_at_most n k)

-- where a token begins

pub place_there : (end : ℕ) (ts : List Token) (i : ℕ) (d : Token) → i < length ts → (get_or ts i d).start ≡ place_at end (lexemes ts) i
place_there end [] i d lt = absurd (omega (arith, lt))
place_there end (t ∷ ts) zero d lt = refl
place_there end (t ∷ ts) (suc i) d lt = place_there end ts i d (omega (arith, lt))

pub place_past : (end : ℕ) (ts : List Token) (i : ℕ) → length ts ≤ i → end ≡ place_at end (lexemes ts) i
place_past end [] i le = refl
place_past end (t ∷ ts) zero le = absurd (omega (arith, le))
place_past end (t ∷ ts) (suc i) le = place_past end ts i (omega (arith, le))

boundary_at : (text : List ℕ) (ts : List Lexeme) (i : ℕ) → All (IsPlaced text) ts → IsCharBoundary text (place_at (length text) ts i)
boundary_at text [] i p = IsCharBoundary-end text
boundary_at text (t ∷ ts) zero p = (p 0 t (omega arith)).begins
boundary_at text (t ∷ ts) (suc i) p = boundary_at text ts i (λ k d lt. p (suc k) d (omega (arith, lt)))

pub boundary : (text : List ℕ) (ts : List Lexeme) (i end place : ℕ) → All (IsPlaced text) ts → end ≡ length text → place ≡ place_at end ts i → IsCharBoundary text place
boundary text ts i end place p e is = subst (IsCharBoundary text) (sym (is ∙ ap (λ n. place_at n ts i) e)) (boundary_at text ts i p)

-- which texts go on

taken : (i : ℕ) (ts : List Token) → lexemes (take i ts) ≡ take i (lexemes ts)
taken zero ts = refl
taken (suc i) [] = refl
taken (suc i) (t ∷ ts) = ap (λ us. lexeme t ∷ us) (taken i ts)

pub counted : (i count : ℕ) (ts us : List Token) → us ≡ take i ts → count ≡ open_count (lexemes us) → count ≡ open_count (take i (lexemes ts))
counted i count ts us e is = is ∙ ap (λ z. open_count (lexemes z)) e ∙ ap open_count (taken i ts)

module _ {before text : List ℕ} {n m : ℕ} {ws table : List Words} (e : before ≡ text) (f : n ≡ m) (g : ws ≡ table) where
  same : IsCompletedBy before n ws ≡ IsCompletedBy text m table
  same = ap (λ z. IsCompletedBy z n ws) e ∙ ap (λ z. IsCompletedBy text z ws) f ∙ ap (λ z. IsCompletedBy text m z) g

  pub goes : {E : Type 0} (o : Result Bool E) → IfOk o (λ b. b ≡ true → IsCompletedBy before n ws) → IfOk o (λ b. b ≡ true → IsCompletedBy text m table)
  goes (Ok b) h = λ yes. subst (λ z. IsCompletedBy text m z) g (subst (λ z. IsCompletedBy text z ws) f (subst (λ z. IsCompletedBy z n ws) e (h yes)))
  goes (Err b) h = tt

  pub stops : {E : Type 0} (o : Result Bool E) → IfOk o (λ b. b ≡ false → IsCompletedBy before n ws → ⊥) → IfOk o (λ b. b ≡ false → IsCompletedBy text m table → ⊥)
  stops (Ok b) h = λ no it. h no (subst (λ z. IsCompletedBy z n ws) (sym e) (subst (λ z. IsCompletedBy text z ws) (sym f) (subst (λ z. IsCompletedBy text m z) (sym g) it)))
  stops (Err b) h = tt

-- what is found in the rest is found in the whole
pub record Searching (Holds : ℕ → Type 0) (all low high : ℕ) : Type 0 where
  pub apart : low < high
  pub most : high ≤ all
  pub whole : (i : ℕ) → Halves Holds low high i → Halves Holds 0 all i

pub begun : (Holds : ℕ → Type 0) (all high : ℕ) → 0 < all → high ≡ all → Searching Holds all 0 high
begun Holds all high some e = record {
  apart = omega (arith, some, e);
  most = omega (arith, e);
  whole = λ i h. subst (λ (n : ℕ). Halves Holds 0 n i) e h;
}

pub raised : {Holds : ℕ → Type 0} {all low high middle : ℕ} → Searching Holds all low high → middle ≡ low + (high - low) / 2 → 1 < high - low → middle < high → Holds middle → Searching Holds all middle high
raised {Holds} {all} {low} {high} {middle} s is wide lt h = record {
  apart = lt;
  most = s.most;
  whole = λ i inside. s.whole i (raises wide (subst Holds is h) (subst (λ (n : ℕ). Halves Holds n high i) is inside));
}

pub lowered : {Holds : ℕ → Type 0} {all low high middle : ℕ} → Searching Holds all low high → middle ≡ low + (high - low) / 2 → 1 < high - low → low < middle → middle ≤ all → (Holds middle → ⊥) → Searching Holds all low middle
lowered {Holds} {all} {low} {high} {middle} s is wide lt le h = record {
  apart = lt;
  most = le;
  whole = λ i inside. s.whole i (lowers wide (λ it. h (subst Holds (sym is) it)) (subst (λ (n : ℕ). Halves Holds low n i) is inside));
}

pub found_low : {Holds : ℕ → Type 0} {all low high : ℕ} → Searching Holds all low high → high - low ≤ 1 → Halves Holds 0 all low
found_low {Holds} {all} {low} {high} s le = s.whole low (found le)
