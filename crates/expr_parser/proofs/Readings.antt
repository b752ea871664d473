-- Two readings from one index are one, or the shorter is followed by a token that goes on with it.
use Rattle.std.proofs.Common.{◌≡◌, ℕ, suc, ◌<◌, ◌≤◌, List, Option, Some, None, slice_get, refl, sym, ap, subst, ◌∙◌, arith, option_map}
use Rattle.sql_lexer.specs.Lexeme.{Lexeme, kind_at}
use Rattle.sql_lexer.specs.Content.{name, name_in}
use Rattle.sql_lexer.specs.declared.token.TokenKind.{TokenKind}
use Rattle.sql_lexer.specs.declared.token.TokenKind.TheVariants.{Reserved, Unreserved, Punctuation}
use Rattle.sql_lexer.specs.declared.token.Reserved.TheVariants.{And, Is, Not, Null, Or}
use Rattle.sql_lexer.specs.declared.token.Unreserved.TheVariants.{Member, Of}
use Rattle.sql_lexer.specs.declared.token.Punctuation.TheVariants.{Open, Close, Dot, Star, Plus, Minus, Slash, Percent, Equal, NotEqual, Less, LessOrEqual, Greater, GreaterOrEqual}
use Rattle.sql_ast.specs.Term as tree
use Rattle.sql_ast.specs.declared.expression.Comparison.{Comparison}
use Rattle.expr_parser.specs.declared.level.Level.{Level}
use Rattle.expr_parser.specs.declared.level.Level.TheVariants as level
use Rattle.expr_parser.specs.declared.level.Connective.{Connective}
use Rattle.expr_parser.specs.Precedence.{token_precedence, part_precedence}
use Rattle.expr_parser.specs.Grammar.{Tree, table_column, joined, Part, chained, primary, operand, joiner, comparer, counted, negative, leaf_of, leaf, Spells, chain, by_not, no_not, tests, compared, not_compared, by_number, by_minus, no_minus, by_leaf, qualified, inside, by_member, Continues, ends, goes_on, Tested, untested, is_null, is_not_null}

-- two readings, to m and to n: one, or the shorter is followed by a token of at least this token_precedence
pub data Compared (ts : List Lexeme) (least m n : ℕ) (d e : Tree) : Type 0 where
  same : m ≡ n → d ≡ e → Compared ts least m n d e
  shorter : m < n → least ≤ token_precedence (kind_at ts m) → Compared ts least m n d e
  longer : n < m → least ≤ token_precedence (kind_at ts n) → Compared ts least m n d e

pub Some_inj : {A : Type 0} {x y : A} → Some x ≡ Some y → x ≡ y
Some_inj e = cc

pub joiner_precedence : (c : Level) (t : Option TokenKind) (o : Connective) → joiner c t ≡ Some o → token_precedence t ≡ part_precedence (chained c)
joiner_precedence level.Or (Some (Reserved Or)) o h = refl
joiner_precedence level.And (Some (Reserved And)) o h = refl
joiner_precedence level.Sum (Some (Punctuation Plus)) o h = refl
joiner_precedence level.Sum (Some (Punctuation Minus)) o h = refl
joiner_precedence level.Term (Some (Punctuation Star)) o h = refl
joiner_precedence level.Term (Some (Punctuation Slash)) o h = refl
joiner_precedence level.Term (Some (Punctuation Percent)) o h = refl
joiner_precedence level.Or t o h = cc
joiner_precedence level.And t o h = cc
joiner_precedence level.Sum t o h = cc
joiner_precedence level.Term t o h = cc

pub comparer_precedence : (t : Option TokenKind) (o : Comparison) → comparer t ≡ Some o → token_precedence t ≡ 5
comparer_precedence (Some (Punctuation Equal)) o h = refl
comparer_precedence (Some (Punctuation NotEqual)) o h = refl
comparer_precedence (Some (Punctuation Less)) o h = refl
comparer_precedence (Some (Punctuation LessOrEqual)) o h = refl
comparer_precedence (Some (Punctuation Greater)) o h = refl
comparer_precedence (Some (Punctuation GreaterOrEqual)) o h = refl
comparer_precedence _ o h = cc

pub operand_precedence : (c : Level) → part_precedence (chained c) < part_precedence (operand c)
operand_precedence level.Or = omega arith
operand_precedence level.And = omega arith
operand_precedence level.Sum = omega arith
operand_precedence level.Term = omega arith

mutual
  pub spells_lt : {ts : List Lexeme} {p : Part} {i j : ℕ} {e : Tree} → Spells ts p i j e → i < j
  spells_lt (chain a r) = omega (arith, spells_lt a, continues_le r)
  spells_lt (by_not h d) = omega (arith, spells_lt d)
  spells_lt (no_not d) = spells_lt d
  spells_lt (tests a r) = omega (arith, spells_lt a, tested_le r)
  spells_lt (compared a h b) = omega (arith, spells_lt a, spells_lt b)
  spells_lt (not_compared d) = spells_lt d
  spells_lt (by_number h g f) = omega arith
  spells_lt (by_minus h g d) = omega (arith, spells_lt d)
  spells_lt (no_minus d) = spells_lt d
  spells_lt (qualified h g f) = omega arith
  spells_lt (by_leaf h) = omega arith
  spells_lt (inside h d g) = omega (arith, spells_lt d)
  spells_lt (by_member h g d) = omega (arith, spells_lt d)

  pub continues_le : {ts : List Lexeme} {c : Level} {l : Tree} {k j : ℕ} {e : Tree} → Continues ts c l k j e → k ≤ j
  continues_le ends = omega arith
  continues_le (goes_on h a r) = omega (arith, spells_lt a, continues_le r)

  pub tested_le : {ts : List Lexeme} {l : Tree} {k j : ℕ} {e : Tree} → Tested ts l k j e → k ≤ j
  tested_le untested = omega arith
  tested_le (is_null h g r) = omega (arith, tested_le r)
  tested_le (is_not_null h g f r) = omega (arith, tested_le r)

-- what begins with a leaf or a name begins with no word or sign of the grammar
pub leaf_begins : (t : Option Lexeme) (k : TokenKind) (e : Tree) → leaf t ≡ Some e → option_map (λ t. t.kind) t ≡ Some k → ((b : List ℕ) → leaf_of k b ≡ None) → ⊥
leaf_begins None k e h g f = cc
leaf_begins (Some t) k e h g f = let no : None ≡ Some e = sym (f t.bytes) ∙ (ap (λ x. leaf_of x t.bytes) (sym (Some_inj g)) ∙ h) in cc

pub name_begins : (t : Option Lexeme) (k : TokenKind) (e : List ℕ) → name t ≡ Some e → option_map (λ t. t.kind) t ≡ Some k → ((b : List ℕ) → name_in k b ≡ None) → ⊥
name_begins None k e h g f = cc
name_begins (Some t) k e h g f = let no : None ≡ Some e = sym (f t.bytes) ∙ (ap (λ x. name_in x t.bytes) (sym (Some_inj g)) ∙ h) in cc

-- no NOT begins a test
mutual
  pub no_not_at : {ts : List Lexeme} {p : Part} {i j : ℕ} {e : Tree} → Spells ts p i j e → kind_at ts i ≡ Some (Reserved Not) → 3 < part_precedence p → ⊥
  no_not_at (chain {c} a r) not high = no_not_at a not (omega (arith, operand_precedence c))
  no_not_at (by_not h d) not high = omega arith
  no_not_at (no_not d) not high = omega arith
  no_not_at (tests a r) not high = no_not_at a not (omega arith)
  no_not_at (compared a h b) not high = no_not_at a not (omega arith)
  no_not_at (not_compared d) not high = no_not_at d not (omega arith)
  no_not_at (by_number h g f) not high = let e : Some (Punctuation Minus) ≡ Some (Reserved Not) = sym h ∙ not in cc
  no_not_at (by_minus h g d) not high = let e : Some (Punctuation Minus) ≡ Some (Reserved Not) = sym h ∙ not in cc
  no_not_at (no_minus d) not high = no_not_at d not (omega arith)
  no_not_at {ts} (by_leaf {i} {e} h) not high = leaf_begins (slice_get ts i) (Reserved Not) e h not (λ b. refl)
  no_not_at {ts} (qualified {i} {t} h g f) not high = name_begins (slice_get ts i) (Reserved Not) t h not (λ b. refl)
  no_not_at (inside h d g) not high = let e : Some (Punctuation Open) ≡ Some (Reserved Not) = sym h ∙ not in cc
  no_not_at (by_member h g d) not high = let e : Some (Unreserved Member) ≡ Some (Reserved Not) = sym h ∙ not in cc

pub no_minus_at : {ts : List Lexeme} {i j : ℕ} {e : Tree} → Spells ts primary i j e → kind_at ts i ≡ Some (Punctuation Minus) → ⊥
no_minus_at {ts} (by_leaf {i} {e} h) m = leaf_begins (slice_get ts i) (Punctuation Minus) e h m (λ b. refl)
no_minus_at {ts} (qualified {i} {t} h g f) m = name_begins (slice_get ts i) (Punctuation Minus) t h m (λ b. refl)
no_minus_at (inside h d g) m = let e : Some (Punctuation Open) ≡ Some (Punctuation Minus) = sym h ∙ m in cc
no_minus_at (by_member h g d) m = let e : Some (Unreserved Member) ≡ Some (Punctuation Minus) = sym h ∙ m in cc

pub from_here : {ts : List Lexeme} {p : Part} {i k j : ℕ} {e : Tree} → i ≡ k → Spells ts p k j e → Spells ts p i j e
from_here {ts} {p} {i} {k} {j} {e} h d = subst (λ x. Spells ts p x j e) (sym h) d

chain_shorter : {ts : List Lexeme} {c : Level} {k k' m n : ℕ} {l l' d e : Tree} → k < k' → part_precedence (operand c) ≤ token_precedence (kind_at ts k) → Continues ts c l k m d → Continues ts c l' k' n e → Compared ts (part_precedence (chained c)) m n d e
chain_shorter {c} p q ends s = shorter (omega (arith, continues_le s)) (omega (arith, operand_precedence c))
chain_shorter {ts} {c} {k} p q (goes_on {o} h a r) s = absurd (omega (arith, operand_precedence c, joiner_precedence c (kind_at ts k) o h))

chain_longer : {ts : List Lexeme} {c : Level} {k k' m n : ℕ} {l l' d e : Tree} → k' < k → part_precedence (operand c) ≤ token_precedence (kind_at ts k') → Continues ts c l k m d → Continues ts c l' k' n e → Compared ts (part_precedence (chained c)) m n d e
chain_longer {c} p q r ends = longer (omega (arith, continues_le r)) (omega (arith, operand_precedence c))
chain_longer {ts} {c} {k'} p q r (goes_on {o} h a s) = absurd (omega (arith, operand_precedence c, joiner_precedence c (kind_at ts k') o h))

chain_case : {ts : List Lexeme} {c : Level} {k k' m n : ℕ} {x y l l' d e : Tree} → Compared ts (part_precedence (operand c)) k k' x y → Continues ts c l k m d → Continues ts c l' k' n e → (x ≡ y → k ≡ k' → Compared ts (part_precedence (chained c)) m n d e) → Compared ts (part_precedence (chained c)) m n d e
chain_case (same p q) r s next = next q p
chain_case (shorter p q) r s next = chain_shorter p q r s
chain_case (longer p q) r s next = chain_longer p q r s

test_shorter : {ts : List Lexeme} {k k' m n : ℕ} {l l' d e : Tree} → k < k' → 5 ≤ token_precedence (kind_at ts k) → Tested ts l k m d → Tested ts l' k' n e → Compared ts 4 m n d e
test_shorter p q untested s = shorter (omega (arith, tested_le s)) (omega arith)
test_shorter p q (is_null h g r) s = absurd (omega (arith, ap token_precedence h))
test_shorter p q (is_not_null h g f r) s = absurd (omega (arith, ap token_precedence h))

test_longer : {ts : List Lexeme} {k k' m n : ℕ} {l l' d e : Tree} → k' < k → 5 ≤ token_precedence (kind_at ts k') → Tested ts l k m d → Tested ts l' k' n e → Compared ts 4 m n d e
test_longer p q r untested = longer (omega (arith, tested_le r)) (omega arith)
test_longer p q r (is_null h g s) = absurd (omega (arith, ap token_precedence h))
test_longer p q r (is_not_null h g f s) = absurd (omega (arith, ap token_precedence h))

test_case : {ts : List Lexeme} {k k' m n : ℕ} {l l' d e : Tree} → Compared ts 5 k k' l l' → Tested ts l k m d → Tested ts l' k' n e → (l ≡ l' → k ≡ k' → Compared ts 4 m n d e) → Compared ts 4 m n d e
test_case (same p q) r s next = next q p
test_case (shorter p q) r s next = test_shorter p q r s
test_case (longer p q) r s next = test_longer p q r s

weaken : {ts : List Lexeme} {a b m n : ℕ} {d e : Tree} → b ≤ a → Compared ts a m n d e → Compared ts b m n d e
weaken h (same p q) = same p q
weaken h (shorter p q) = shorter p (omega arith)
weaken h (longer p q) = longer p (omega arith)

under : {ts : List Lexeme} {a m n : ℕ} {d e : Tree} (f : Tree → Tree) → Compared ts a m n d e → Compared ts a m n (f d) (f e)
under f (same p q) = same p (ap f q)
under f (shorter p q) = shorter p q
under f (longer p q) = longer p q

joined_same : {o o' : Connective} {l l' r r' : Tree} → o ≡ o' → l ≡ l' → r ≡ r' → joined o l r ≡ joined o' l' r'
joined_same {o} {o'} {l} {l'} {r} {r'} p q t = ap (λ z. joined z l r) p ∙ (ap (λ z. joined o' z r) q ∙ ap (λ z. joined o' l' z) t)

compared_same : {o o' : Comparison} {l l' r r' : Tree} → o ≡ o' → l ≡ l' → r ≡ r' → tree.comparison o l r ≡ tree.comparison o' l' r'
compared_same p q t = cc

operand_case : {ts : List Lexeme} {m n : ℕ} {o o' : Comparison} {l l' r r' : Tree} → o ≡ o' → l ≡ l' → Compared ts 6 m n r r' → Compared ts 5 m n (tree.comparison o l r) (tree.comparison o' l' r')
operand_case p x (same q t) = same q (compared_same p x t)
operand_case p x (shorter q t) = shorter q (omega arith)
operand_case p x (longer q t) = longer q (omega arith)

compare_case : {ts : List Lexeme} {k k' m n : ℕ} {o o' : Comparison} {l l' r r' : Tree} → Compared ts 6 k k' l l' → comparer (kind_at ts k) ≡ Some o → comparer (kind_at ts k') ≡ Some o' → (k ≡ k' → Compared ts 6 m n r r') → Compared ts 5 m n (tree.comparison o l r) (tree.comparison o' l' r')
compare_case {ts} {k} {k'} {m} {n} {o} {o'} {l} {l'} {r} {r'} (same p q) h g next =
    let sames : o ≡ o' = Some_inj (sym h ∙ (ap (λ x. comparer (kind_at ts x)) p ∙ g)) in
    operand_case sames q (next p)
compare_case {ts} {k} {o} (shorter p q) h g next = absurd (omega (arith, comparer_precedence (kind_at ts k) o h))
compare_case {ts} {k' = k'} {o' = o'} (longer p q) h g next = absurd (omega (arith, comparer_precedence (kind_at ts k') o' g))

compare_one : {ts : List Lexeme} {k m n : ℕ} {o : Comparison} {l r e : Tree} → Compared ts 6 k n l e → comparer (kind_at ts k) ≡ Some o → k < m → Compared ts 5 m n (tree.comparison o l r) e
compare_one {ts} {k} {o = o} (same p q) h lt = longer (omega arith) (rw (← p) (omega (arith, comparer_precedence (kind_at ts k) o h)))
compare_one {ts} {k} {o = o} (shorter p q) h lt = absurd (omega (arith, comparer_precedence (kind_at ts k) o h))
compare_one (longer p q) h lt = longer (omega arith) (omega arith)

compare_other : {ts : List Lexeme} {k m n : ℕ} {o : Comparison} {l r e : Tree} → Compared ts 6 m k e l → comparer (kind_at ts k) ≡ Some o → k < n → Compared ts 5 m n e (tree.comparison o l r)
compare_other {ts} {k} {o = o} (same p q) h lt = shorter (omega arith) (rw p (omega (arith, comparer_precedence (kind_at ts k) o h)))
compare_other (shorter p q) h lt = shorter (omega arith) (omega arith)
compare_other {ts} {k} {o = o} (longer p q) h lt = absurd (omega (arith, comparer_precedence (kind_at ts k) o h))

inside_case : {ts : List Lexeme} {m n : ℕ} {d e : Tree} → Compared ts 1 m n d e → kind_at ts m ≡ Some (Punctuation Close) → kind_at ts n ≡ Some (Punctuation Close) → Compared ts 9 (suc m) (suc n) d e
inside_case (same p q) h g = same (ap suc p) q
inside_case (shorter p q) h g = absurd (omega (arith, ap token_precedence h))
inside_case (longer p q) h g = absurd (omega (arith, ap token_precedence g))

pub no_leaf : (ts : List Lexeme) (i : ℕ) (e : Tree) → leaf (slice_get ts i) ≡ Some e → kind_at ts i ≡ Some (Punctuation Open) → ⊥
no_leaf ts i e h g = leaf_begins (slice_get ts i) (Punctuation Open) e h g (λ b. refl)

pub no_name : (ts : List Lexeme) (i : ℕ) (t : List ℕ) → name (slice_get ts i) ≡ Some t → kind_at ts i ≡ Some (Punctuation Open) → ⊥
no_name ts i t h g = name_begins (slice_get ts i) (Punctuation Open) t h g (λ b. refl)

counted_twice : (t : Option TokenKind) (n : ℕ) → counted t ≡ Some n → counted t ≡ None → ⊥
counted_twice t n h g = let e : Some n ≡ None = sym h ∙ g in cc

number_same : {m n : ℕ} {d e : Tree} → m ≡ n → negative m ≡ Some d → negative n ≡ Some e → d ≡ e
number_same p h g = Some_inj (sym h ∙ (ap negative p ∙ g))

dotted : {ts : List Lexeme} {i : ℕ} {d e : Tree} → kind_at ts (suc i) ≡ Some (Punctuation Dot) → Compared ts 9 (suc i) (suc (suc (suc i))) d e
dotted g = shorter (omega arith) (omega (arith, ap token_precedence g))

dotted_back : {ts : List Lexeme} {i : ℕ} {d e : Tree} → kind_at ts (suc i) ≡ Some (Punctuation Dot) → Compared ts 9 (suc (suc (suc i))) (suc i) d e
dotted_back g = longer (omega arith) (omega (arith, ap token_precedence g))

-- OF stands behind the column MEMBER
of_behind : {ts : List Lexeme} {i n : ℕ} {d e : Tree} → kind_at ts (suc i) ≡ Some (Unreserved Of) → suc (suc i) < n → Compared ts 9 (suc i) n d e
of_behind g lt = shorter (omega (arith, lt)) (omega (arith, ap token_precedence g))

of_behind_back : {ts : List Lexeme} {i n : ℕ} {d e : Tree} → kind_at ts (suc i) ≡ Some (Unreserved Of) → suc (suc i) < n → Compared ts 9 n (suc i) d e
of_behind_back g lt = longer (omega (arith, lt)) (omega (arith, ap token_precedence g))

pub dot_or_of : {k : Option TokenKind} → k ≡ Some (Punctuation Dot) → k ≡ Some (Unreserved Of) → ⊥
dot_or_of h g = let e : Some (Punctuation Dot) ≡ Some (Unreserved Of) = sym h ∙ g in cc

pub open_or_member : {k : Option TokenKind} → k ≡ Some (Punctuation Open) → k ≡ Some (Unreserved Member) → ⊥
open_or_member h g = let e : Some (Punctuation Open) ≡ Some (Unreserved Member) = sym h ∙ g in cc

columns : {t n u m : List ℕ} → t ≡ u → n ≡ m → table_column t n ≡ table_column u m
columns p q = cc

row_shorter : {ts : List Lexeme} (c : Level) {k k' n : ℕ} {o : Connective} {d e : Tree} → k ≡ k' → joiner c (kind_at ts k') ≡ Some o → k' < n → Compared ts (part_precedence (chained c)) k n d e
row_shorter {ts} c {k} {k'} {n} {o} p h lt = shorter (omega arith) (rw p (omega (arith, joiner_precedence c (kind_at ts k') o h)))

row_longer : {ts : List Lexeme} (c : Level) {k k' m : ℕ} {o : Connective} {d e : Tree} → k ≡ k' → joiner c (kind_at ts k) ≡ Some o → k < m → Compared ts (part_precedence (chained c)) m k' d e
row_longer {ts} c {k} {o = o} p h lt = longer (omega arith) (rw (← p) (omega (arith, joiner_precedence c (kind_at ts k) o h)))

test_short : {ts : List Lexeme} {k k' n : ℕ} {d e : Tree} → k ≡ k' → kind_at ts k' ≡ Some (Reserved Is) → k' < n → Compared ts 4 k n d e
test_short p h lt = shorter (omega arith) (rw p (omega (arith, ap token_precedence h)))

test_long : {ts : List Lexeme} {k k' m : ℕ} {d e : Tree} → k ≡ k' → kind_at ts k ≡ Some (Reserved Is) → k < m → Compared ts 4 m k' d e
test_long p h lt = longer (omega arith) (rw (← p) (omega (arith, ap token_precedence h)))

joiners : (ts : List Lexeme) (c : Level) {k k' : ℕ} {o o' : Connective} → joiner c (kind_at ts k) ≡ Some o → joiner c (kind_at ts k') ≡ Some o' → k ≡ k' → o ≡ o'
joiners ts c h g p = Some_inj (sym h ∙ (ap (λ x. joiner c (kind_at ts x)) p ∙ g))

null_not_not : (ts : List Lexeme) {k k' : ℕ} → suc k ≡ suc k' → kind_at ts (suc k) ≡ Some (Reserved Null) → kind_at ts (suc k') ≡ Some (Reserved Not) → ⊥
null_not_not ts p h g = let e : Some (Reserved Null) ≡ Some (Reserved Not) = sym h ∙ (ap (kind_at ts) p ∙ g) in cc

mutual
  -- two readings of one part from one place
  pub one : {ts : List Lexeme} {p : Part} {i m n : ℕ} {d e : Tree} → Spells ts p i m d → Spells ts p i n e → Compared ts (part_precedence p) m n d e
  one (chain a r) (chain b s) = chain_case (one a b) r s (λ l k. one_row r s l k)
  one (by_not h d) (by_not g e) = under tree.negation (one d e)
  one (by_not h d) (no_not e) = absurd (no_not_at e h (omega arith))
  one (no_not d) (by_not g e) = absurd (no_not_at d g (omega arith))
  one (no_not d) (no_not e) = weaken (omega arith) (one d e)
  one (tests a r) (tests b s) = test_case (one a b) r s (λ l k. one_test r s l k)
  one (compared a h b) (compared c g d) = compare_case (one a c) h g (λ k. one b (from_here (ap suc k) d))
  one (compared a h b) (not_compared c) = compare_one (one a c) h (omega (arith, spells_lt b))
  one (not_compared a) (compared b g c) = compare_other (one a b) g (omega (arith, spells_lt c))
  one (not_compared a) (not_compared b) = weaken (omega arith) (one a b)
  one {ts} (by_number h g f) (by_number h' g' f') = same refl (number_same (Some_inj (sym g ∙ g')) f f')
  one {ts} (by_number {i} {n} h g f) (by_minus h' g' d) = absurd (counted_twice (kind_at ts (suc i)) n g g')
  one (by_number h g f) (no_minus d) = absurd (no_minus_at d h)
  one {ts} (by_minus h g d) (by_number {i} {n} h' g' f') = absurd (counted_twice (kind_at ts (suc i)) n g' g)
  one (by_minus h g d) (by_minus h' g' e) = under tree.minus (one d e)
  one (by_minus h g d) (no_minus e) = absurd (no_minus_at e h)
  one (no_minus d) (by_number h g f) = absurd (no_minus_at d h)
  one (no_minus d) (by_minus h g e) = absurd (no_minus_at d h)
  one (no_minus d) (no_minus e) = weaken (omega arith) (one d e)
  one (by_leaf h) (qualified g f e) = dotted f
  one (qualified g f e) (by_leaf h) = dotted_back f
  one (qualified h g f) (qualified h' g' f') = same refl (columns (Some_inj (sym h ∙ h')) (Some_inj (sym f ∙ f')))
  one {ts} (qualified {i} {t} h g f) (inside g' d f') = absurd (no_name ts i t h g')
  one {ts} (inside {i} g d f) (qualified {t = t} h g' f') = absurd (no_name ts i t h g)
  one (by_leaf h) (by_leaf g) = same refl (Some_inj (sym h ∙ g))
  one {ts} (by_leaf {i} {e} h) (inside g d f) = absurd (no_leaf ts i e h g)
  one {ts} (inside {i} g d f) (by_leaf {e = e} h) = absurd (no_leaf ts i e h g)
  one (inside h d f) (inside h' d' f') = inside_case (one d d') f f'
  one (by_leaf h) (by_member g f d) = of_behind f (spells_lt d)
  one (by_member g f d) (by_leaf h) = of_behind_back f (spells_lt d)
  one (qualified h g f) (by_member h' g' d) = absurd (dot_or_of g g')
  one (by_member h' g' d) (qualified h g f) = absurd (dot_or_of g g')
  one (inside h d g) (by_member h' g' d') = absurd (open_or_member h h')
  one (by_member h' g' d') (inside h d g) = absurd (open_or_member h h')
  one (by_member h g d) (by_member h' g' d') = under tree.member_test (one d d')

  pub one_row : {ts : List Lexeme} {c : Level} {k k' m n : ℕ} {l l' d e : Tree} → Continues ts c l k m d → Continues ts c l' k' n e → l ≡ l' → k ≡ k' → Compared ts (part_precedence (chained c)) m n d e
  one_row ends ends p q = same q p
  one_row ends (goes_on h a r) p q = row_shorter _ q h (omega (arith, spells_lt a, continues_le r))
  one_row (goes_on h a r) ends p q = row_longer _ q h (omega (arith, spells_lt a, continues_le r))
  one_row (goes_on h a r) (goes_on g b s) p q = chain_case (one a (from_here (ap suc q) b)) r s (λ t k. one_row r s (joined_same (joiners _ _ h g q) p t) k)

  pub one_test : {ts : List Lexeme} {k k' m n : ℕ} {l l' d e : Tree} → Tested ts l k m d → Tested ts l' k' n e → l ≡ l' → k ≡ k' → Compared ts 4 m n d e
  one_test untested untested p q = same q p
  one_test untested (is_null h g r) p q = test_short q h (omega (arith, tested_le r))
  one_test untested (is_not_null h g f r) p q = test_short q h (omega (arith, tested_le r))
  one_test (is_null h g r) untested p q = test_long q h (omega (arith, tested_le r))
  one_test (is_null h g r) (is_null h' g' s) p q = one_test r s (ap tree.null_test p) (ap (λ k. suc (suc k)) q)
  one_test (is_null h g r) (is_not_null h' g' f' s) p q = absurd (null_not_not _ (ap suc q) g g')
  one_test (is_not_null h g f r) untested p q = test_long q h (omega (arith, tested_le r))
  one_test (is_not_null h g f r) (is_null h' g' s) p q = absurd (null_not_not _ (ap suc (sym q)) g' g)
  one_test (is_not_null h g f r) (is_not_null h' g' f' s) p q = one_test r s (ap tree.not_null_test p) (ap (λ k. suc (suc (suc k))) q)
