-- What each function of the descent keeps.
use Rattle.std.proofs.Common.{◌≡◌, ◌≢◌, ℕ, zero, suc, ◌+◌, ◌-◌, ◌<◌, ◌≤◌, ◌⊎◌, inl, inr, List, [], ◌∷◌, Option, Some, None, length, slice_get, sym, ap, subst, ◌∙◌, arith, add-one, option_map, Result, Ok, Err, IfOk}
use Rattle.std.proofs.lemmas.Bool.{cases_lt}
use Rattle.std.proofs.lemmas.List.{length-map}
use Rattle.sql_lexer.specs.Lexeme.{Lexeme, lexeme, lexemes, kind_at}
use Rattle.sql_lexer.specs.Content.{name}
use Rattle.sql_lexer.specs.declared.token.Token.{Token}
use Rattle.sql_lexer.specs.declared.token.TokenKind.{TokenKind}
use Rattle.sql_lexer.specs.declared.token.TokenKind.TheVariants.{Reserved, Punctuation}
use Rattle.sql_lexer.specs.declared.token.Reserved.TheVariants.{Is, Not, Null}
use Rattle.sql_lexer.specs.declared.token.Punctuation.TheVariants.{Close, Minus}
use Rattle.sql_ast.specs.Term.{term_of}
use Rattle.sql_ast.specs.Term as tree
use Rattle.sql_ast.specs.declared.expression.ColumnName.{ColumnName}
use Rattle.sql_ast.specs.declared.expression.Comparison.{Comparison}
use Rattle.sql_ast.specs.declared.expression.Expression.{Expression}
use Rattle.expr_parser.specs.declared.level.Level.{Level}
use Rattle.expr_parser.specs.declared.level.Level.TheVariants as level
use Rattle.expr_parser.specs.declared.level.Connective.{Connective}
use Rattle.expr_parser.specs.Grammar.{Tree, joined, Part, chained, negation, test, comparison, signed, primary, operand, joiner, comparer, counted, negative, leaf, Spells, chain, by_not, no_not, tests, compared, not_compared, by_number, by_minus, no_minus, by_leaf, qualified, inside, by_member, Continues, ends, goes_on, Tested, untested, is_null, is_not_null, ReadsLongestPart, IsMinus}
use Rattle.expr_parser.specs.Precedence.{token_precedence, part_precedence}
use Rattle.expr_parser.proofs.Readings.{Compared, same, shorter, longer, one, joiner_precedence, comparer_precedence, operand_precedence, spells_lt, no_not_at, no_minus_at, Some_inj}

-- no front that spells the part is longer
abbrev pub Longest : List Lexeme → Part → ℕ → ℕ → Type 0
Longest ts p i m = (j : ℕ) (e : Tree) → Spells ts p i j e → j ≤ m

abbrev pub Never : List Lexeme → Part → ℕ → Type 0
Never ts p i = (j : ℕ) (e : Tree) → Spells ts p i j e → ⊥

pub get_below : (ts : List Lexeme) (i : ℕ) (k : TokenKind) → kind_at ts i ≡ Some k → i < length ts
get_below [] i k h = absurd (cc)
get_below (x ∷ xs) zero k h = omega arith
get_below (x ∷ xs) (suc i) k h = omega (arith, get_below xs i k h)

counted_below : (ts : List Lexeme) (i n : ℕ) → counted (kind_at ts i) ≡ Some n → i < length ts
counted_below [] i n h = absurd (cc)
counted_below (x ∷ xs) zero n h = omega arith
counted_below (x ∷ xs) (suc i) n h = omega (arith, counted_below xs i n h)

leaf_below : (ts : List Lexeme) (i : ℕ) (e : Tree) → leaf (slice_get ts i) ≡ Some e → i < length ts
leaf_below [] i e h = absurd (cc)
leaf_below (x ∷ xs) zero e h = omega arith
leaf_below (x ∷ xs) (suc i) e h = omega (arith, leaf_below xs i e h)

name_below : (ts : List Lexeme) (i : ℕ) (e : List ℕ) → name (slice_get ts i) ≡ Some e → i < length ts
name_below [] i e h = absurd (cc)
name_below (x ∷ xs) zero e h = omega arith
name_below (x ∷ xs) (suc i) e h = omega (arith, name_below xs i e h)

mutual
  pub within : {ts : List Lexeme} {p : Part} {i j : ℕ} {e : Tree} → Spells ts p i j e → j ≤ length ts
  within (chain a r) = continues_within r (within a)
  within (by_not h d) = within d
  within (no_not d) = within d
  within (tests a r) = tested_within r (within a)
  within (compared a h b) = within b
  within (not_compared d) = within d
  within {ts} (by_number {i} {n} h g f) = omega (arith, counted_below ts (suc i) n g)
  within (by_minus h g d) = within d
  within (no_minus d) = within d
  within {ts} (qualified {i} {n = n} h g f) = omega (arith, name_below ts (suc (suc i)) n f)
  within {ts} (by_leaf {i} {e} h) = omega (arith, leaf_below ts i e h)
  within {ts} (inside {j = j} h d g) = omega (arith, get_below ts j (Punctuation Close) g)
  within (by_member h g d) = within d

  pub continues_within : {ts : List Lexeme} {c : Level} {l : Tree} {k j : ℕ} {e : Tree} → Continues ts c l k j e → k ≤ length ts → j ≤ length ts
  continues_within ends lt = lt
  continues_within (goes_on h a r) lt = continues_within r (within a)

  pub tested_within : {ts : List Lexeme} {l : Tree} {k j : ℕ} {e : Tree} → Tested ts l k j e → k ≤ length ts → j ≤ length ts
  tested_within untested lt = lt
  tested_within {ts} (is_null {k = k} h g r) lt = tested_within r (omega (arith, get_below ts (suc k) (Reserved Null) g))
  tested_within {ts} (is_not_null {k = k} h g f r) lt = tested_within r (omega (arith, get_below ts (suc (suc k)) (Reserved Null) f))

-- what a call read
pub found : (ts : List Lexeme) (p : Part) (i : ℕ) (o : Option (Expression ColumnName × ℕ)) (x : Expression ColumnName) (end : ℕ) → ReadsLongestPart ts p i o → o ≡ Some (x, end) → Spells ts p i end (term_of x) × Longest ts p i end
found ts p i o x end r h = subst (ReadsLongestPart ts p i) h r

pub missing : (ts : List Lexeme) (p : Part) (i : ℕ) (o : Option (Expression ColumnName × ℕ)) → ReadsLongestPart ts p i o → o ≡ None → Never ts p i
missing ts p i o r h = subst (ReadsLongestPart ts p i) h r

pub within_tokens : (ts : List Token) {p : Part} {i j : ℕ} {e : Tree} → Spells (lexemes ts) p i j e → j ≤ length ts
within_tokens ts d = omega (arith, within d, length-map ts lexeme)

-- Chains

-- a chain goes on from m to n
abbrev pub CanContinue : List Lexeme → Level → ℕ → ℕ → Type 0
CanContinue ts c m n = (l : Tree) × (e : Tree) × Continues ts c l m n e

not_longer : {ts : List Lexeme} {c : Level} {k n : ℕ} {l e : Tree} → part_precedence (operand c) ≤ token_precedence (kind_at ts k) → Continues ts c l k n e → n ≤ k
not_longer q ends = omega arith
not_longer {ts} {c} {k} q (goes_on {o = o} h a r) = absurd (omega (arith, operand_precedence c, joiner_precedence c (kind_at ts k) o h))

split_at : {ts : List Lexeme} {c : Level} {m k n : ℕ} {x y l e : Tree} → Compared ts (part_precedence (operand c)) m k x y → k ≤ m → Continues ts c l k n e → (n ≤ m) ⊎ CanContinue ts c m n
split_at {ts} {c} {m} {k} {n} {l = l} {e = e} (same p q) lt r = inr (l, e, subst (λ z. Continues ts c l z n e) (sym p) r)
split_at (shorter p q) lt r = absurd (omega arith)
split_at (longer p q) lt r = inl (omega (arith, not_longer q r))

after_operand : {ts : List Lexeme} {c : Level} {i m k n : ℕ} {x y l e : Tree} → Spells ts (operand c) i m x → Longest ts (operand c) i m → Spells ts (operand c) i k y → Continues ts c l k n e → (n ≤ m) ⊎ CanContinue ts c m n
after_operand a most b r = split_at (one a b) (most _ _ b) r

after_chain : {ts : List Lexeme} {c : Level} {i m n : ℕ} {x e : Tree} → Spells ts (operand c) i m x → Longest ts (operand c) i m → Spells ts (chained c) i n e → (n ≤ m) ⊎ CanContinue ts c m n
after_chain a most (chain b r) = after_operand a most b r

after_joiner : {ts : List Lexeme} {c : Level} {i m n : ℕ} {x l e : Tree} → Spells ts (operand c) (suc i) m x → Longest ts (operand c) (suc i) m → Continues ts c l i n e → (n ≤ m) ⊎ CanContinue ts c m n
after_joiner a most ends = inl (omega (arith, spells_lt a))
after_joiner a most (goes_on h b r) = after_operand a most b r

pub record Chaining (ts : List Lexeme) (c : Level) (at end : ℕ) (left : Tree) : Type 0 where
  pub ordered : at < end
  pub within : end ≤ length ts
  pub front : (j : ℕ) (e : Tree) → Continues ts c left end j e → Spells ts (chained c) at j e
  pub longest : (n : ℕ) (e : Tree) → Spells ts (chained c) at n e → (n ≤ end) ⊎ CanContinue ts c end n

pub chaining_begins : {ts : List Lexeme} {c : Level} {at end : ℕ} {x : Tree} → Spells ts (operand c) at end x → Longest ts (operand c) at end → Chaining ts c at end x
chaining_begins a most = record {
  ordered = spells_lt a;
  within = within a;
  front = λ j e r. chain a r;
  longest = λ n e d. after_chain a most d;
}

goes_longer : {ts : List Lexeme} {c : Level} {end m n : ℕ} {x : Tree} → Spells ts (operand c) (suc end) m x → Longest ts (operand c) (suc end) m → (n ≤ end) ⊎ CanContinue ts c end n → (n ≤ m) ⊎ CanContinue ts c m n
goes_longer a most (inl h) = inl (omega (arith, spells_lt a))
goes_longer a most (inr g) = after_joiner a most g.2

pub chaining_goes_on : {ts : List Lexeme} {c : Level} {at end m : ℕ} {left x : Tree} {o : Connective} → Chaining ts c at end left → joiner c (kind_at ts end) ≡ Some o → Spells ts (operand c) (end + 1) m x → Longest ts (operand c) (end + 1) m → Chaining ts c at m (joined o left x)
chaining_goes_on {ts} {c} {at} {end} {m} {left} {x} {o} k h a0 most0 =
    let a : Spells ts (operand c) (suc end) m x = rw (← add-one) a0 in
    let most : Longest ts (operand c) (suc end) m = rw (← add-one) most0 in
    record {
      ordered = omega (arith, k.ordered, spells_lt a);
      within = within a;
      front = λ j e r. k.front j e (goes_on h a r);
      longest = λ n e d. goes_longer a most (k.longest n e d);
    }

ended : {ts : List Lexeme} {c : Level} {end n : ℕ} {l e : Tree} → joiner c (kind_at ts end) ≡ None → Continues ts c l end n e → n ≤ end
ended h ends = omega arith
ended h (goes_on g a r) = absurd (cc)

stuck : {ts : List Lexeme} {c : Level} {end n : ℕ} {l e : Tree} → Never ts (operand c) (suc end) → Continues ts c l end n e → n ≤ end
stuck h ends = omega arith
stuck h (goes_on g a r) = absurd (h _ _ a)

pub chaining_ends : {ts : List Lexeme} {c : Level} {at end : ℕ} {left : Tree} → Chaining ts c at end left → joiner c (kind_at ts end) ≡ None → Spells ts (chained c) at end left × Longest ts (chained c) at end
chaining_ends {ts} {c} {at} {end} {left} k h =
    (k.front end left ends, λ n e d. elim (k.longest n e d) [ inl lt ↦ lt | inr g ↦ ended h g.2 ])

pub chaining_stuck : {ts : List Lexeme} {c : Level} {at end : ℕ} {left : Tree} → Chaining ts c at end left → Never ts (operand c) (end + 1) → Spells ts (chained c) at end left × Longest ts (chained c) at end
chaining_stuck {ts} {c} {at} {end} {left} k h0 =
    let h : Never ts (operand c) (suc end) = rw (← add-one) h0 in
    (k.front end left ends, λ n e d. elim (k.longest n e d) [ inl lt ↦ lt | inr g ↦ stuck h g.2 ])

pub chain_never : {ts : List Lexeme} {c : Level} {i : ℕ} → Never ts (operand c) i → Never ts (chained c) i
chain_never h j e (chain a r) = h _ _ a

-- NOT

pub record Notting (ts : List Lexeme) (at first : ℕ) : Type 0 where
  pub ordered : at ≤ first
  pub each : (k : ℕ) → at ≤ k → k < first → kind_at ts k ≡ Some (Reserved Not)
  pub past : (n : ℕ) (e : Tree) → Spells ts negation at n e → (f : Tree) × Spells ts negation first n f

past_not : {ts : List Lexeme} {i n : ℕ} {e : Tree} → kind_at ts i ≡ Some (Reserved Not) → Spells ts negation i n e → (f : Tree) × Spells ts negation (suc i) n f
past_not h (by_not {e = e} g d) = (e, d)
past_not h (no_not d) = absurd (no_not_at d h (omega arith))

past_nots : {ts : List Lexeme} {i n : ℕ} {e : Tree} → kind_at ts i ≢ Some (Reserved Not) → Spells ts negation i n e → Spells ts test i n e
past_nots h (by_not g d) = absurd (h g)
past_nots h (no_not d) = d

pub notting_begins : (ts : List Lexeme) (at : ℕ) → Notting ts at at
notting_begins ts at = record { ordered = omega arith; each = λ k p q. absurd (omega arith); past = λ n e d. (e, d) }

pub notting_goes_on : {ts : List Lexeme} {at first : ℕ} → Notting ts at first → kind_at ts first ≡ Some (Reserved Not) → Notting ts at (first + 1)
notting_goes_on {ts} {at} {first} k h = record {
  ordered = omega (arith, k.ordered);
  each = λ j p q. elim (cases_lt j first) [ inl lt ↦ k.each j p lt | inr ge ↦ let e : j ≡ first = omega arith in rw e h ];
  past = λ n e d. let more = past_not h (k.past n e d).1 in (more.0, rw add-one more.1);
}

pub notted : {ts : List Lexeme} {at first end : ℕ} → Notting ts at first → kind_at ts first ≢ Some (Reserved Not) → Longest ts test first end → Longest ts negation at end
notted k h most n e d = most n _ (past_nots h (k.past n e d).1)

pub not_never : {ts : List Lexeme} {at first : ℕ} → Notting ts at first → kind_at ts first ≢ Some (Reserved Not) → Never ts test first → Never ts negation at
not_never k h never n e d = never n _ (past_nots h (k.past n e d).1)

pub wrapped : {ts : List Lexeme} {first end : ℕ} {e : Tree} → 0 < first → kind_at ts (first - 1) ≡ Some (Reserved Not) → Spells ts negation first end e → Spells ts negation (first - 1) end (tree.negation e)
wrapped {ts} {first} {end} {e} lt h d = by_not h (let p : suc (first - 1) ≡ first = omega arith in rw p d)

-- IS NULL

abbrev pub GoesTesting : List Lexeme → ℕ → ℕ → Type 0
GoesTesting ts m n = (l : Tree) × (e : Tree) × Tested ts l m n e

tested_not_longer : {ts : List Lexeme} {k n : ℕ} {l e : Tree} → 5 ≤ token_precedence (kind_at ts k) → Tested ts l k n e → n ≤ k
tested_not_longer q untested = omega arith
tested_not_longer q (is_null h g r) = absurd (omega (arith, ap token_precedence h))
tested_not_longer q (is_not_null h g f r) = absurd (omega (arith, ap token_precedence h))

test_split_at : {ts : List Lexeme} {m k n : ℕ} {x l e : Tree} → Compared ts 5 m k x l → k ≤ m → Tested ts l k n e → (n ≤ m) ⊎ GoesTesting ts m n
test_split_at {ts} {m} {k} {n} {x} {l} {e} (same p q) lt r = inr (l, e, subst (λ z. Tested ts l z n e) (sym p) r)
test_split_at (shorter p q) lt r = absurd (omega arith)
test_split_at (longer p q) lt r = inl (omega (arith, tested_not_longer q r))

after_comparison : {ts : List Lexeme} {i m n : ℕ} {x e : Tree} → Spells ts comparison i m x → Longest ts comparison i m → Spells ts test i n e → (n ≤ m) ⊎ GoesTesting ts m n
after_comparison a most (tests b r) = test_split_at (one a b) (most _ _ b) r

pub record Testing (ts : List Lexeme) (at end : ℕ) (left : Tree) : Type 0 where
  pub ordered : at < end
  pub within : end ≤ length ts
  pub front : (j : ℕ) (e : Tree) → Tested ts left end j e → Spells ts test at j e
  pub longest : (n : ℕ) (e : Tree) → Spells ts test at n e → (n ≤ end) ⊎ GoesTesting ts end n

pub testing_begins : {ts : List Lexeme} {at end : ℕ} {x : Tree} → Spells ts comparison at end x → Longest ts comparison at end → Testing ts at end x
testing_begins a most = record {
  ordered = spells_lt a;
  within = within a;
  front = λ j e r. tests a r;
  longest = λ n e d. after_comparison a most d;
}

past_null : {ts : List Lexeme} {k n : ℕ} {l e : Tree} → kind_at ts (suc k) ≡ Some (Reserved Null) → Tested ts l k n e → (n ≤ suc (suc k)) ⊎ GoesTesting ts (suc (suc k)) n
past_null h untested = inl (omega arith)
past_null h (is_null {l} {e} g f r) = inr (tree.null_test l, e, r)
past_null h (is_not_null g f t r) = absurd (cc)

past_not_null : {ts : List Lexeme} {k n : ℕ} {l e : Tree} → kind_at ts (suc k) ≡ Some (Reserved Not) → Tested ts l k n e → (n ≤ suc (suc (suc k))) ⊎ GoesTesting ts (suc (suc (suc k))) n
past_not_null h untested = inl (omega arith)
past_not_null h (is_null g f r) = absurd (cc)
past_not_null h (is_not_null {l} {e} g f t r) = inr (tree.not_null_test l, e, r)

pub testing_null : {ts : List Lexeme} {at end : ℕ} {left : Tree} → Testing ts at end left → kind_at ts end ≡ Some (Reserved Is) → kind_at ts (suc end) ≡ Some (Reserved Null) → Testing ts at (suc (suc end)) (tree.null_test left)
testing_null {ts} {at} {end} {left} k h g = record {
  ordered = omega (arith, k.ordered);
  within = omega (arith, get_below ts (suc end) (Reserved Null) g);
  front = λ j e r. k.front j e (is_null h g r);
  longest = λ n e d. elim (k.longest n e d) [ inl lt ↦ inl (omega arith) | inr t ↦ past_null g t.2 ];
}

pub testing_not_null : {ts : List Lexeme} {at end : ℕ} {left : Tree} → Testing ts at end left → kind_at ts end ≡ Some (Reserved Is) → kind_at ts (suc end) ≡ Some (Reserved Not) → kind_at ts (suc (suc end)) ≡ Some (Reserved Null) → Testing ts at (suc (suc (suc end))) (tree.not_null_test left)
testing_not_null {ts} {at} {end} {left} k h g f = record {
  ordered = omega (arith, k.ordered);
  within = omega (arith, get_below ts (suc (suc end)) (Reserved Null) f);
  front = λ j e r. k.front j e (is_not_null h g f r);
  longest = λ n e d. elim (k.longest n e d) [ inl lt ↦ inl (omega arith) | inr t ↦ past_not_null g t.2 ];
}

-- no test stands at k
abbrev pub NoTest : List Lexeme → ℕ → Type 0
NoTest ts k = (l e : Tree) (n : ℕ) → Tested ts l k n e → n ≤ k

pub no_is : {ts : List Lexeme} (k : ℕ) → kind_at ts k ≢ Some (Reserved Is) → NoTest ts k
no_is k h l e n untested = omega arith
no_is k h l e n (is_null g f r) = absurd (h g)
no_is k h l e n (is_not_null g f t r) = absurd (h g)

pub no_null : {ts : List Lexeme} (k : ℕ) → kind_at ts (suc k) ≢ Some (Reserved Null) → (kind_at ts (suc k) ≡ Some (Reserved Not) → kind_at ts (suc (suc k)) ≢ Some (Reserved Null)) → NoTest ts k
no_null k h w l e n untested = omega arith
no_null k h w l e n (is_null g f r) = absurd (h f)
no_null k h w l e n (is_not_null g f t r) = absurd (w f t)

pub testing_ends : {ts : List Lexeme} {at end : ℕ} {left : Tree} → Testing ts at end left → NoTest ts end → Spells ts test at end left × Longest ts test at end
testing_ends {ts} {at} {end} {left} k h =
    (k.front end left untested, λ n e d. elim (k.longest n e d) [ inl lt ↦ lt | inr t ↦ h _ _ n t.2 ])

pub test_never : {ts : List Lexeme} {i : ℕ} → Never ts comparison i → Never ts test i
test_never h j e (tests a r) = h _ _ a

-- comparisons

pub compare_never : {ts : List Lexeme} {i : ℕ} → Never ts (chained level.Sum) i → Never ts comparison i
compare_never h j e (compared a g b) = h _ _ a
compare_never h j e (not_compared a) = h _ _ a

-- where a comparison's first side ends, if it has two
beside : {ts : List Lexeme} {i m k : ℕ} {x l : Tree} {o : Comparison} → Spells ts (chained level.Sum) i m x → Longest ts (chained level.Sum) i m → Spells ts (chained level.Sum) i k l → comparer (kind_at ts k) ≡ Some o → k ≡ m
beside {ts} {k = k} {o = o} a most b h = elim (one a b) [ same p q ↦ sym p | shorter p q ↦ absurd (omega (arith, most _ _ b)) | longer p q ↦ absurd (omega (arith, comparer_precedence (kind_at ts k) o h)) ]

pub compare_alone : {ts : List Lexeme} {i m : ℕ} {x : Tree} → Spells ts (chained level.Sum) i m x → Longest ts (chained level.Sum) i m → comparer (kind_at ts m) ≡ None → Longest ts comparison i m
compare_alone {ts} {i} {m} a most h j e (compared {k = k} {o = o} b g d) = let p : k ≡ m = beside a most b g in absurd (let q : comparer (kind_at ts m) ≡ Some o = subst (λ z. comparer (kind_at ts z) ≡ Some o) p g in cc)
compare_alone a most h j e (not_compared b) = most _ _ b

pub compare_stuck : {ts : List Lexeme} {i m : ℕ} {x : Tree} → Spells ts (chained level.Sum) i m x → Longest ts (chained level.Sum) i m → Never ts (chained level.Sum) (m + 1) → Longest ts comparison i m
compare_stuck {ts} {i} {m} a most h j e (compared {k = k} {r = r} b g d) = let p : k ≡ m = beside a most b g in absurd (h j r (rw add-one (subst (λ z. Spells ts (chained level.Sum) (suc z) j r) p d)))
compare_stuck a most h j e (not_compared b) = most _ _ b

pub compare_both : {ts : List Lexeme} {i m n : ℕ} {x y : Tree} → Spells ts (chained level.Sum) i m x → Longest ts (chained level.Sum) i m → Spells ts (chained level.Sum) (m + 1) n y → Longest ts (chained level.Sum) (m + 1) n → Longest ts comparison i n
compare_both {ts} {i} {m} {n} a most c others j e (compared {k = k} {r = r} b g d) = let p : k ≡ m = beside a most b g in others j r (rw add-one (subst (λ z. Spells ts (chained level.Sum) (suc z) j r) p d))
compare_both a most c others j e (not_compared b) = omega (arith, most _ _ b, spells_lt c)

pub testing_null_on : {ts : List Lexeme} {at end : ℕ} {left : Tree} → Testing ts at end left → kind_at ts end ≡ Some (Reserved Is) → kind_at ts (end + 1) ≡ Some (Reserved Null) → Testing ts at (end + 2) (tree.null_test left)
testing_null_on {ts} {at} {end} {left} k h g =
    let p : end + 2 ≡ suc (suc end) = omega arith in
    rw p (testing_null k h (rw (← add-one) g))

pub testing_not_null_on : {ts : List Lexeme} {at end : ℕ} {left : Tree} → Testing ts at end left → kind_at ts end ≡ Some (Reserved Is) → kind_at ts (end + 1) ≡ Some (Reserved Not) → kind_at ts (end + 2) ≡ Some (Reserved Null) → Testing ts at (end + 3) (tree.not_null_test left)
testing_not_null_on {ts} {at} {end} {left} k h g f =
    let p : end + 3 ≡ suc (suc (suc end)) = omega arith in
    let q : end + 2 ≡ suc (suc end) = omega arith in
    rw p (testing_not_null k h (rw (← add-one) g) (rw q at f))

pub no_null_on : {ts : List Lexeme} (k : ℕ) → kind_at ts (k + 1) ≢ Some (Reserved Null) → (kind_at ts (k + 1) ≡ Some (Reserved Not) → kind_at ts (k + 2) ≢ Some (Reserved Null)) → NoTest ts k
no_null_on {ts} k h w =
    let q : k + 2 ≡ suc (suc k) = omega arith in
    no_null k (λ g. h (rw add-one g)) (λ g f. w (rw add-one g) (rw q f))

-- tree.minus signs

pub record Minusing (ts : List Lexeme) (at first : ℕ) : Type 0 where
  pub ordered : at ≤ first
  pub each : (k : ℕ) → at ≤ k → k < first → IsMinus ts k
  pub past : (n : ℕ) (e : Tree) → Spells ts signed at n e → (f : Tree) × Spells ts signed first n f

past_minus : {ts : List Lexeme} {i n : ℕ} {e : Tree} → IsMinus ts i → Spells ts signed i n e → (f : Tree) × Spells ts signed (suc i) n f
past_minus h (by_number {n = n} g f d) = absurd (let no : None ≡ Some n = sym h.1 ∙ f in cc)
past_minus h (by_minus {e = e} g f d) = (e, d)
past_minus h (no_minus d) = absurd (no_minus_at d h.0)

pub minusing_begins : (ts : List Lexeme) (at : ℕ) → Minusing ts at at
minusing_begins ts at = record { ordered = omega arith; each = λ k p q. absurd (omega arith); past = λ n e d. (e, d) }

pub minusing_goes_on : {ts : List Lexeme} {at first : ℕ} → Minusing ts at first → IsMinus ts first → Minusing ts at (first + 1)
minusing_goes_on {ts} {at} {first} k here = record {
  ordered = omega (arith, k.ordered);
  each = λ j p q. elim (cases_lt j first) [ inl lt ↦ k.each j p lt | inr ge ↦ let e : j ≡ first = omega arith in rw e here ];
  past = λ n e d. let more = past_minus here (k.past n e d).1 in (more.0, rw add-one more.1);
}

pub opposed : {ts : List Lexeme} {first end : ℕ} {e : Tree} → 0 < first → IsMinus ts (first - 1) → Spells ts signed first end e → Spells ts signed (first - 1) end (tree.minus e)
opposed {ts} {first} {end} {e} lt h d = by_minus h.0 h.1 (let p : suc (first - 1) ≡ first = omega arith in rw p d)

pub minused : {ts : List Lexeme} {at first end : ℕ} → Minusing ts at first → Longest ts signed first end → Longest ts signed at end
minused k most n e d = most n _ (k.past n e d).1

pub minus_never : {ts : List Lexeme} {at first : ℕ} → Minusing ts at first → Never ts signed first → Never ts signed at
minus_never k never n e d = never n _ (k.past n e d).1

no_minus_longest : {ts : List Lexeme} {i m : ℕ} → kind_at ts i ≢ Some (Punctuation Minus) → Longest ts primary i m → Longest ts signed i m
no_minus_longest h most j e (by_number g f d) = absurd (h g)
no_minus_longest h most j e (by_minus g f d) = absurd (h g)
no_minus_longest h most j e (no_minus d) = most j e d

no_minus_never : {ts : List Lexeme} {i : ℕ} → kind_at ts i ≢ Some (Punctuation Minus) → Never ts primary i → Never ts signed i
no_minus_never h never j e (by_number g f d) = h g
no_minus_never h never j e (by_minus g f d) = h g
no_minus_never h never j e (no_minus d) = never j e d

pub alone : (ts : List Lexeme) (i : ℕ) (o : Option (Expression ColumnName × ℕ)) → kind_at ts i ≢ Some (Punctuation Minus) → ReadsLongestPart ts primary i o → ReadsLongestPart ts signed i o
alone ts i None h r = no_minus_never h r
alone ts i (Some found) h r = (no_minus r.0, no_minus_longest h r.1)

counted_other : (t : Option TokenKind) (m n : ℕ) → counted t ≡ Some m → counted t ≡ None → ⊥
counted_other t m n h g = let no : Some m ≡ None = sym h ∙ g in cc

literal_longest : (ts : List Lexeme) (i n : ℕ) → kind_at ts i ≡ Some (Punctuation Minus) → counted (kind_at ts (suc i)) ≡ Some n → Longest ts signed i (suc (suc i))
literal_longest ts i n h g j e (by_number g' f d) = omega arith
literal_longest ts i n h g j e (by_minus g' f d) = absurd (counted_other (kind_at ts (suc i)) n n g f)
literal_longest ts i n h g j e (no_minus d) = absurd (no_minus_at d h)

pub literal : (ts : List Lexeme) (i n : ℕ) (o : Option (Expression ColumnName)) (x : Expression ColumnName) → kind_at ts i ≡ Some (Punctuation Minus) → counted (kind_at ts (i + 1)) ≡ Some n → option_map term_of o ≡ negative n → o ≡ Some x → Spells ts signed i (i + 2) (term_of x) × Longest ts signed i (i + 2)
literal ts i n o x h g0 r e =
    let g : counted (kind_at ts (suc i)) ≡ Some n = rw (← add-one) g0 in
    let p : i + 2 ≡ suc (suc i) = omega arith in
    let q : negative n ≡ Some (term_of x) = sym r ∙ ap (option_map term_of) e in
    rw p (by_number h g q, literal_longest ts i n h g)

too_large : (m n : ℕ) (e : Tree) → negative n ≡ None → m ≡ n → negative m ≡ Some e → ⊥
too_large m n e r p h = let no : None ≡ Some e = sym r ∙ (ap negative (sym p) ∙ h) in cc

pub literal_too_large : (ts : List Lexeme) (i n : ℕ) (o : Option (Expression ColumnName)) → kind_at ts i ≡ Some (Punctuation Minus) → counted (kind_at ts (i + 1)) ≡ Some n → option_map term_of o ≡ negative n → o ≡ None → Never ts signed i
literal_too_large ts i n o h g r q j e (by_number {n = m} g' f d) = too_large m n e (sym r ∙ ap (option_map term_of) q) (Some_inj (sym f ∙ (rw (← add-one) g))) d
literal_too_large ts i n o h g r q j e (by_minus g' f d) = counted_other (kind_at ts (suc i)) n n (rw (← add-one) g) f
literal_too_large ts i n o h g r q j e (no_minus d) = no_minus_at d h

pub no_number : (ts : List Lexeme) (i : ℕ) → kind_at ts i ≡ Some (Punctuation Minus) → (IsMinus ts i → ⊥) → counted (kind_at ts (i + 1)) ≡ None → Never ts signed i
no_number ts i h other g j e d = other (h, rw (← add-one) g)

pub alone_ok : {E : Type 0} (ts : List Lexeme) (i : ℕ) (r : Result (Option (Expression ColumnName × ℕ)) E) → kind_at ts i ≢ Some (Punctuation Minus) → IfOk r (λ o. ReadsLongestPart ts primary i o) → IfOk r (λ o. ReadsLongestPart ts signed i o)
alone_ok ts i (Ok o) h p = alone ts i o h p
alone_ok ts i (Err e) h p = tt

not_apart : {ts : List Lexeme} {l j : ℕ} {d e : Tree} → Compared ts l j j d e → d ≡ e
not_apart (same p q) = q
not_apart (shorter p q) = absurd (omega arith)
not_apart (longer p q) = absurd (omega arith)

pub one_spelling : {ts : List Lexeme} {p : Part} {i j : ℕ} {d e : Tree} → Spells ts p i j d → Spells ts p i j e → d ≡ e
one_spelling a b = not_apart (one a b)
