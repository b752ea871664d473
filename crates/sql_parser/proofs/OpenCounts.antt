-- A slice of tokens opens no more parentheses at once than all of them.
use Rattle.std.proofs.Common.{◌≡◌, ℕ, zero, suc, ◌+◌, ◌-◌, ◌≤◌, List, [], ◌∷◌, map, take, drop, refl, sym, subst, arith}
use Rattle.std.specs.Prelude.{fold}
use Rattle.sql_lexer.specs.Lexeme.{Lexeme}
use Rattle.sql_lexer.specs.Parentheses.{open_after, OpensTooMany}
use Rattle.sql_lexer.specs.Slices.{moved_by, start_at, tokens_between}
use Rattle.sql_lexer.specs.declared.token.TokenKind.{TokenKind}
use Rattle.sql_lexer.specs.declared.token.TokenKind.TheVariants as kind
use Rattle.sql_lexer.specs.declared.token.Punctuation.TheVariants as punctuation

-- how many are open after more tokens
abbrev open_from : ℕ → List Lexeme → ℕ
open_from n ts = fold (λ n t. open_after n t.kind) n ts

more_open : (k : TokenKind) (m n : ℕ) → m ≤ n → open_after m k ≤ open_after n k
more_open (kind.Punctuation punctuation.Open) m n le = omega (arith, le)
more_open (kind.Punctuation punctuation.Close) m n le = omega (arith, le)
more_open _ m n le = le

more_from : (ts : List Lexeme) (m n : ℕ) → m ≤ n → open_from m ts ≤ open_from n ts
more_from [] m n le = le
more_from (t ∷ ts) m n le = more_from ts (open_after m t.kind) (open_after n t.kind) (more_open t.kind m n le)

-- the tokens from b on, counted from 0 or from what is open before them
after_front : (b k : ℕ) (ts : List Lexeme) (n : ℕ) → open_from 0 (take k (drop b ts)) ≤ open_from n (take (b + k) ts)
after_front zero k ts n = let e : 0 + k ≡ k = omega arith in subst (λ z. open_from 0 (take k ts) ≤ open_from n (take z ts)) (sym e) (more_from (take k ts) 0 n (omega arith))
after_front (suc b) zero [] n = omega arith
after_front (suc b) (suc k) [] n = omega arith
after_front (suc b) k (t ∷ ts) n = let e : suc b + k ≡ suc (b + k) = omega arith in subst (λ z. open_from 0 (take k (drop b ts)) ≤ open_from n (take z (t ∷ ts))) (sym e) (after_front b k ts (open_after n t.kind))

-- the first k of the first n tokens, moved
fewer : (b k n : ℕ) (ts : List Lexeme) (m : ℕ) → (j : ℕ) × (open_from m (take k (map (moved_by b) (take n ts))) ≡ open_from m (take j ts))
fewer b zero n ts m = (0, refl)
fewer b (suc k) zero ts m = (0, refl)
fewer b (suc k) (suc n) [] m = (0, refl)
fewer b (suc k) (suc n) (t ∷ ts) m = let r = fewer b k n ts (open_after m t.kind) in (suc r.0, r.1)

pub no_more_between : (ts : List Lexeme) (i k : ℕ) → OpensTooMany (tokens_between ts i k) → OpensTooMany ts
no_more_between ts i k h =
    let r = fewer (start_at ts i) h.0 (suc (k - i)) (drop i ts) 0 in
    let f = after_front i r.0 ts 0 in
    (i + r.0, omega (arith, h.1, r.1, f))
