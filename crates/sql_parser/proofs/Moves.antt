-- What the tokens of a text spell, the same tokens by themselves spell.
use Rattle.std.proofs.Common.{◌≡◌, ℕ, zero, suc, ◌+◌, ◌-◌, ◌<◌, ◌≤◌, List, [], ◌∷◌, length, map, take, drop, refl, sym, ap, subst, ◌∙◌, arith}
use Rattle.std.specs.Prelude.{slice_get}
use Rattle.std.proofs.lemmas.List.{length-map, length-take-le}
use Rattle.std.proofs.Common.{length-drop}
use Rattle.sql_lexer.specs.Lexeme.{Lexeme, kind_at}
use Rattle.sql_lexer.specs.Content.{name}
use Rattle.sql_lexer.specs.Slices.{moved_by, start_at, tokens_between}
use Rattle.expr_parser.specs.Grammar.{Tree, Part, signed, primary, table_column, joiner, comparer, counted, leaf, SpellsExpr, Spells, chain, by_not, no_not, tests, compared, not_compared, by_number, by_minus, no_minus, by_leaf, qualified, inside, by_member, Continues, ends, goes_on, Tested, untested, is_null, is_not_null}
use Rattle.expr_parser.specs.declared.level.Level.{Level}
use Rattle.expr_parser.proofs.Readings.{spells_lt, continues_le, tested_le}
use Rattle.expr_parser.proofs.Descent.{within}

-- ---- a list that agrees with another up to an index

pub record Agrees (ts us : List Lexeme) (n : ℕ) : Type 0 where
  pub kinds : (k : ℕ) → k < n → kind_at us k ≡ kind_at ts k
  pub names : (k : ℕ) → k < n → name (slice_get us k) ≡ name (slice_get ts k)
  pub leaves : (k : ℕ) → k < n → leaf (slice_get us k) ≡ leaf (slice_get ts k)

mutual
  pub same_spelled : {ts us : List Lexeme} {n : ℕ} {p : Part} {i j : ℕ} {e : Tree} → Agrees ts us n → Spells ts p i j e → j ≤ n → Spells us p i j e
  same_spelled a (chain d r) le = chain (same_spelled a d (omega (arith, continues_le r, le))) (same_continued a r le)
  same_spelled a (by_not {i} h d) le = by_not (a.kinds i (omega (arith, spells_lt d, le)) ∙ h) (same_spelled a d le)
  same_spelled a (no_not d) le = no_not (same_spelled a d le)
  same_spelled a (tests d r) le = tests (same_spelled a d (omega (arith, tested_le r, le))) (same_tested a r le)
  same_spelled a (compared {k = k} d h b) le = compared (same_spelled a d (omega (arith, spells_lt b, le))) (ap comparer (a.kinds k (omega (arith, spells_lt b, le))) ∙ h) (same_spelled a b le)
  same_spelled a (not_compared d) le = not_compared (same_spelled a d le)
  same_spelled a (by_number {i} h g f) le = by_number (a.kinds i (omega (arith, le)) ∙ h) (ap counted (a.kinds (suc i) (omega (arith, le))) ∙ g) f
  same_spelled a (by_minus {i} h g d) le = by_minus (a.kinds i (omega (arith, spells_lt d, le)) ∙ h) (ap counted (a.kinds (suc i) (omega (arith, spells_lt d, le))) ∙ g) (same_spelled a d le)
  same_spelled a (no_minus d) le = no_minus (same_spelled a d le)
  same_spelled a (by_leaf {i} h) le = by_leaf (a.leaves i (omega (arith, le)) ∙ h)
  same_spelled a (qualified {i} h g f) le = qualified (a.names i (omega (arith, le)) ∙ h) (a.kinds (suc i) (omega (arith, le)) ∙ g) (a.names (suc (suc i)) (omega (arith, le)) ∙ f)
  same_spelled a (inside {i} {j} h d g) le = inside (a.kinds i (omega (arith, spells_lt d, le)) ∙ h) (same_spelled a d (omega (arith, le))) (a.kinds j (omega (arith, le)) ∙ g)
  same_spelled a (by_member {i} h g d) le = by_member (a.kinds i (omega (arith, spells_lt d, le)) ∙ h) (a.kinds (suc i) (omega (arith, spells_lt d, le)) ∙ g) (same_spelled a d le)

  pub same_continued : {ts us : List Lexeme} {n : ℕ} {c : Level} {l : Tree} {k j : ℕ} {e : Tree} → Agrees ts us n → Continues ts c l k j e → j ≤ n → Continues us c l k j e
  same_continued a ends le = ends
  same_continued a (goes_on {c = c} {k = k} h d r) le = goes_on (ap (joiner c) (a.kinds k (omega (arith, spells_lt d, continues_le r, le))) ∙ h) (same_spelled a d (omega (arith, continues_le r, le))) (same_continued a r le)

  pub same_tested : {ts us : List Lexeme} {n : ℕ} {l : Tree} {k j : ℕ} {e : Tree} → Agrees ts us n → Tested ts l k j e → j ≤ n → Tested us l k j e
  same_tested a untested le = untested
  same_tested a (is_null {k = k} h g r) le = is_null (a.kinds k (omega (arith, tested_le r, le)) ∙ h) (a.kinds (suc k) (omega (arith, tested_le r, le)) ∙ g) (same_tested a r le)
  same_tested a (is_not_null {k = k} h g f r) le = is_not_null (a.kinds k (omega (arith, tested_le r, le)) ∙ h) (a.kinds (suc k) (omega (arith, tested_le r, le)) ∙ g) (a.kinds (suc (suc k)) (omega (arith, tested_le r, le)) ∙ f) (same_tested a r le)

-- ---- without the first token

-- the tokens of one list after its first are those of another
record Follows (ts us : List Lexeme) : Type 0 where
  kinds : (k : ℕ) → kind_at us k ≡ kind_at ts (suc k)
  names : (k : ℕ) → name (slice_get us k) ≡ name (slice_get ts (suc k))
  leaves : (k : ℕ) → leaf (slice_get us k) ≡ leaf (slice_get ts (suc k))

rest_follows : (x : Lexeme) (us : List Lexeme) → Follows (x ∷ us) us
rest_follows x us = record { kinds = λ k. refl; names = λ k. refl; leaves = λ k. refl }

kind_in : {ts us : List Lexeme} {a i : ℕ} → Follows ts us → a ≡ suc i → kind_at us i ≡ kind_at ts a
kind_in {ts} {i = i} f p = f.kinds i ∙ ap (kind_at ts) (sym p)

name_in : {ts us : List Lexeme} {a i : ℕ} → Follows ts us → a ≡ suc i → name (slice_get us i) ≡ name (slice_get ts a)
name_in {ts} {i = i} f p = f.names i ∙ ap (λ z. name (slice_get ts z)) (sym p)

leaf_in : {ts us : List Lexeme} {a i : ℕ} → Follows ts us → a ≡ suc i → leaf (slice_get us i) ≡ leaf (slice_get ts a)
leaf_in {ts} {i = i} f p = f.leaves i ∙ ap (λ z. leaf (slice_get ts z)) (sym p)

mutual
  nearer : {ts us : List Lexeme} {p : Part} {a b : ℕ} {e : Tree} → Follows ts us → Spells ts p a b e → (i j : ℕ) → a ≡ suc i → b ≡ suc j → Spells us p i j e
  nearer f (chain {k = k} d r) i j p q =
      let s : k ≡ suc (k - 1) = omega (arith, spells_lt d) in
      chain (nearer f d i (k - 1) p s) (nearer_continued f r (k - 1) j s q)
  nearer f (by_not h d) i j p q = by_not (kind_in f p ∙ h) (nearer f d (suc i) j (ap suc p) q)
  nearer f (no_not d) i j p q = no_not (nearer f d i j p q)
  nearer f (tests {k = k} d r) i j p q =
      let s : k ≡ suc (k - 1) = omega (arith, spells_lt d) in
      tests (nearer f d i (k - 1) p s) (nearer_tested f r (k - 1) j s q)
  nearer f (compared {k = k} d h b) i j p q =
      let s : k ≡ suc (k - 1) = omega (arith, spells_lt d) in
      compared (nearer f d i (k - 1) p s) (ap comparer (kind_in f s) ∙ h) (nearer f b (suc (k - 1)) j (ap suc s) q)
  nearer f (not_compared d) i j p q = not_compared (nearer f d i j p q)
  nearer {us = us} f (by_number {e = e} h g m) i j p q =
      let s : suc (suc i) ≡ j = omega (arith, p, q) in
      subst (λ z. Spells us signed i z e) s (by_number (kind_in f p ∙ h) (ap counted (kind_in f (ap suc p)) ∙ g) m)
  nearer f (by_minus h g d) i j p q = by_minus (kind_in f p ∙ h) (ap counted (kind_in f (ap suc p)) ∙ g) (nearer f d (suc i) j (ap suc p) q)
  nearer f (no_minus d) i j p q = no_minus (nearer f d i j p q)
  nearer {us = us} f (by_leaf {e = e} h) i j p q =
      let s : suc i ≡ j = omega (arith, p, q) in
      subst (λ z. Spells us primary i z e) s (by_leaf (leaf_in f p ∙ h))
  nearer {us = us} f (qualified {t = t} {n = n} h g m) i j p q =
      let s : suc (suc (suc i)) ≡ j = omega (arith, p, q) in
      subst (λ z. Spells us primary i z (table_column t n)) s (qualified (name_in f p ∙ h) (kind_in f (ap suc p) ∙ g) (name_in f (ap (λ z. suc (suc z)) p) ∙ m))
  nearer {us = us} f (inside {j = k} {e = e} h d g) i j p q =
      let s : k ≡ suc (k - 1) = omega (arith, spells_lt d) in
      let z : suc (k - 1) ≡ j = omega (arith, s, q) in
      subst (λ m. Spells us primary i m e) z (inside (kind_in f p ∙ h) (nearer f d (suc i) (k - 1) (ap suc p) s) (kind_in f s ∙ g))
  nearer f (by_member h g d) i j p q = by_member (kind_in f p ∙ h) (kind_in f (ap suc p) ∙ g) (nearer f d (suc (suc i)) j (ap (λ z. suc (suc z)) p) q)

  nearer_continued : {ts us : List Lexeme} {c : Level} {l : Tree} {a b : ℕ} {e : Tree} → Follows ts us → Continues ts c l a b e → (i j : ℕ) → a ≡ suc i → b ≡ suc j → Continues us c l i j e
  nearer_continued {us = us} {c} {l} f ends i j p q = let s : i ≡ j = omega (arith, p, q) in subst (λ z. Continues us c l i z l) s ends
  nearer_continued {c = c} f (goes_on {m = m} h d r) i j p q =
      let s : m ≡ suc (m - 1) = omega (arith, spells_lt d) in
      goes_on (ap (joiner c) (kind_in f p) ∙ h) (nearer f d (suc i) (m - 1) (ap suc p) s) (nearer_continued f r (m - 1) j s q)

  nearer_tested : {ts us : List Lexeme} {l : Tree} {a b : ℕ} {e : Tree} → Follows ts us → Tested ts l a b e → (i j : ℕ) → a ≡ suc i → b ≡ suc j → Tested us l i j e
  nearer_tested {us = us} {l} f untested i j p q = let s : i ≡ j = omega (arith, p, q) in subst (λ z. Tested us l i z l) s untested
  nearer_tested f (is_null h g r) i j p q = is_null (kind_in f p ∙ h) (kind_in f (ap suc p) ∙ g) (nearer_tested f r (suc (suc i)) j (ap (λ z. suc (suc z)) p) q)
  nearer_tested f (is_not_null h g m r) i j p q = is_not_null (kind_in f p ∙ h) (kind_in f (ap suc p) ∙ g) (kind_in f (ap (λ z. suc (suc z)) p) ∙ m) (nearer_tested f r (suc (suc (suc i))) j (ap (λ z. suc (suc (suc z))) p) q)

-- without the first b tokens
dropped : (b : ℕ) (ts : List Lexeme) {p : Part} {m n : ℕ} {e : Tree} → Spells ts p (b + m) (b + n) e → Spells (drop b ts) p m n e
dropped zero ts {p} {m} {n} {e} d =
    let f : 0 + m ≡ m = omega arith in let g : 0 + n ≡ n = omega arith in
    subst (λ z. Spells ts p z n e) f (subst (λ z. Spells ts p (0 + m) z e) g d)
dropped (suc b) [] d = absurd (omega (arith, spells_lt d, within d))
dropped (suc b) (x ∷ us) {m = m} {n} d =
    let f : suc b + m ≡ suc (b + m) = omega arith in let g : suc b + n ≡ suc (b + n) = omega arith in
    dropped b us (nearer (rest_follows x us) d (b + m) (b + n) f g)

-- ---- the tokens from one to another

between_agrees : (b n : ℕ) (ts : List Lexeme) → Agrees ts (map (moved_by b) (take n ts)) n
between_agrees b n ts = record { kinds = kinds n ts; names = names n ts; leaves = leaves n ts }
  where
    kinds : (n : ℕ) (ts : List Lexeme) (k : ℕ) → k < n → kind_at (map (moved_by b) (take n ts)) k ≡ kind_at ts k
    kinds zero ts k lt = absurd (omega (arith, lt))
    kinds (suc n) [] k lt = refl
    kinds (suc n) (x ∷ xs) zero lt = refl
    kinds (suc n) (x ∷ xs) (suc k) lt = kinds n xs k (omega (arith, lt))

    names : (n : ℕ) (ts : List Lexeme) (k : ℕ) → k < n → name (slice_get (map (moved_by b) (take n ts)) k) ≡ name (slice_get ts k)
    names zero ts k lt = absurd (omega (arith, lt))
    names (suc n) [] k lt = refl
    names (suc n) (x ∷ xs) zero lt = refl
    names (suc n) (x ∷ xs) (suc k) lt = names n xs k (omega (arith, lt))

    leaves : (n : ℕ) (ts : List Lexeme) (k : ℕ) → k < n → leaf (slice_get (map (moved_by b) (take n ts)) k) ≡ leaf (slice_get ts k)
    leaves zero ts k lt = absurd (omega (arith, lt))
    leaves (suc n) [] k lt = refl
    leaves (suc n) (x ∷ xs) zero lt = refl
    leaves (suc n) (x ∷ xs) (suc k) lt = leaves n xs k (omega (arith, lt))

pub length_between : (ts : List Lexeme) (i k : ℕ) → i ≤ k → k < length ts → length (tokens_between ts i k) ≡ suc (k - i)
length_between ts i k le lt =
    length-map (take (suc (k - i)) (drop i ts)) (moved_by (start_at ts i)) ∙ length-take-le (suc (k - i)) (drop i ts) (omega (arith, le, lt, length-drop i ts))

-- an expression of a text is spelled by its own tokens
pub spelled_between : (ts : List Lexeme) (i k : ℕ) (e : Tree) → SpellsExpr ts i (suc k) e → SpellsExpr (tokens_between ts i k) 0 (length (tokens_between ts i k)) e
spelled_between ts i k e d =
    let le : i ≤ k = omega (arith, spells_lt d) in
    let lt : k < length ts = omega (arith, within d) in
    let first : i + 0 ≡ i = omega arith in
    let last : i + suc (k - i) ≡ suc k = omega (arith, le) in
    let moved : SpellsExpr ts (i + 0) (i + suc (k - i)) e = subst (λ z. SpellsExpr ts z (i + suc (k - i)) e) (sym first) (subst (λ z. SpellsExpr ts i z e) (sym last) d) in
    let alone = same_spelled (between_agrees (start_at ts i) (suc (k - i)) (drop i ts)) (dropped i ts moved) (omega arith) in
    subst (λ z. SpellsExpr (tokens_between ts i k) 0 z e) (sym (length_between ts i k le lt)) alone
