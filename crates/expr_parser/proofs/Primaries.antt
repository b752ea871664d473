-- Primaries: operands of one token, columns, parentheses, and MEMBER OF.
use Rattle.std.proofs.Common.{◌≡◌, ◌≢◌, ℕ, suc, ◌+◌, ◌-◌, ◌<◌, ◌≤◌, List, length, Option, Some, None, slice_get, refl, sym, ap, subst, ◌∙◌, arith, add-one, option_map, Result, Ok, Err, IfOk}
use Rattle.std.specs.List.{HoldsAt}
use Rattle.std.proofs.lemmas.Option.{slice_get-map, slice_get_read}
use Rattle.sql_lexer.specs.Lexeme.{Lexeme, kind_at, lexeme, lexemes}
use Rattle.sql_lexer.specs.declared.token.Token.{Token}
use Rattle.sql_lexer.specs.Content.{name, name_in, text_in, text_content}
use Rattle.sql_lexer.specs.declared.token.TokenKind.{TokenKind}
use Rattle.sql_lexer.specs.declared.token.TokenKind.TheVariants.{Reserved, Unreserved, Word, QuotedIdentifier, Text, Punctuation}
use Rattle.sql_lexer.specs.declared.token.Reserved.TheVariants.{Null, True, False, CurrentUser, SessionUser}
use Rattle.sql_lexer.specs.declared.token.Unreserved.TheVariants.{Member}
use Rattle.sql_lexer.specs.declared.token.Punctuation.TheVariants.{Open, Close, Dot}
use Rattle.sql_ast.specs.Term.{term_of}
use Rattle.sql_ast.specs.Term as tree
use Rattle.sql_ast.specs.declared.expression.ColumnName.{ColumnName}
use Rattle.sql_ast.specs.declared.expression.Expression.{Expression}
use Rattle.expr_parser.specs.declared.level.Level.TheVariants as level
use Rattle.expr_parser.specs.Grammar.{Tree, table_column, chained, primary, leaf_of, leaf, constant, bare_column, text_literal, Spells, by_leaf, qualified, inside, by_member, ReadsLongestPart, ReadsColumn, HasNoPrimary, IsMember}
use Rattle.expr_parser.specs.Precedence.{token_precedence}
use Rattle.expr_parser.proofs.Readings.{Compared, same, shorter, longer, one, spells_lt, no_leaf, no_name, dot_or_of, open_or_member, Some_inj}
use Rattle.expr_parser.proofs.Descent.{Longest, Never}

pub leaf_longest : (ts : List Lexeme) (i : ℕ) (x : Tree) → leaf (slice_get ts i) ≡ Some x → ((t n : List ℕ) → name (slice_get ts i) ≡ Some t → kind_at ts (suc i) ≡ Some (Punctuation Dot) → name (slice_get ts (suc (suc i))) ≡ Some n → ⊥) → (IsMember ts i → HasNoPrimary ts (suc (suc i))) → Longest ts primary i (suc i)
leaf_longest ts i x h q o j e (by_leaf g) = omega arith
leaf_longest ts i x h q o j e (qualified {t = t} {n = n} g d f) = absurd (q t n g d f)
leaf_longest ts i x h q o j e (inside g d f) = absurd (no_leaf ts i x h g)
leaf_longest ts i x h q o j e (by_member {e = f} g d b) = absurd (o (g, d) j f b)

pub inside_longest : {ts : List Lexeme} {i m : ℕ} {x : Tree} → kind_at ts i ≡ Some (Punctuation Open) → Spells ts (chained level.Or) (suc i) m x → Longest ts (chained level.Or) (suc i) m → Longest ts primary i (suc m)
inside_longest {ts} {i} h a most j e (by_leaf g) = absurd (no_leaf ts i e g h)
inside_longest {ts} {i} h a most j e (qualified {t = t} g d f) = absurd (no_name ts i t g h)
inside_longest h a most j e (inside g d f) = omega (arith, most _ _ d)
inside_longest h a most j e (by_member g d f) = absurd (open_or_member h g)

pub no_prim : (ts : List Lexeme) (i : ℕ) → leaf (slice_get ts i) ≡ None → ((t n : List ℕ) → name (slice_get ts i) ≡ Some t → kind_at ts (suc i) ≡ Some (Punctuation Dot) → name (slice_get ts (suc (suc i))) ≡ Some n → ⊥) → kind_at ts i ≢ Some (Punctuation Open) → (IsMember ts i → HasNoPrimary ts (suc (suc i))) → Never ts primary i
no_prim ts i h q o w j e (by_leaf g) = absurd (cc)
no_prim ts i h q o w j e (qualified {t = t} {n = n} g d f) = q t n g d f
no_prim ts i h q o w j e (inside g d f) = o g
no_prim ts i h q o w j e (by_member {e = f} g d b) = w (g, d) j f b

pub never_inside : (ts : List Lexeme) (i : ℕ) → kind_at ts i ≡ Some (Punctuation Open) → Never ts (chained level.Or) (i + 1) → Never ts primary i
never_inside ts i h never j e (by_leaf g) = no_leaf ts i e g h
never_inside ts i h never j e (qualified {t = t} g d f) = no_name ts i t g h
never_inside ts i h never j e (inside {j = k} g d f) = never k e (rw add-one d)
never_inside ts i h never j e (by_member g d f) = open_or_member h g

closed_here : {ts : List Lexeme} {k m : ℕ} {d e : Tree} → Compared ts 1 k m d e → kind_at ts k ≡ Some (Punctuation Close) → kind_at ts m ≢ Some (Punctuation Close) → k ≤ m → ⊥
closed_here {ts} (same p q) f other le = other (sym (ap (kind_at ts) p) ∙ f)
closed_here (shorter p q) f other le = omega (arith, ap token_precedence f)
closed_here (longer p q) f other le = omega arith

-- after "(" and the longest front no ")" stands: any shorter front would have to be the longest one
pub unclosed : (ts : List Lexeme) (i m : ℕ) (x : Tree) → kind_at ts i ≡ Some (Punctuation Open) → Spells ts (chained level.Or) (i + 1) m x → Longest ts (chained level.Or) (i + 1) m → kind_at ts m ≢ Some (Punctuation Close) → Never ts primary i
unclosed ts i m x h a most other j e (by_leaf g) = no_leaf ts i e g h
unclosed ts i m x h a most other j e (qualified {t = t} g d f) = no_name ts i t g h
unclosed ts i m x h a0 most other j e (inside {j = k} g d f) =
    let a : Spells ts (chained level.Or) (suc i) m x = rw (← add-one) a0 in
    closed_here (one d a) f other (most k e (rw add-one d))
unclosed ts i m x h a most other j e (by_member g d f) = open_or_member h g

pub closed : {ts : List Lexeme} {i m : ℕ} {x : Tree} → kind_at ts i ≡ Some (Punctuation Open) → Spells ts (chained level.Or) (i + 1) m x → Longest ts (chained level.Or) (i + 1) m → kind_at ts m ≡ Some (Punctuation Close) → Spells ts primary i (m + 1) x × Longest ts primary i (m + 1)
closed {ts} {i} {m} {x} h a0 most0 g =
    let a : Spells ts (chained level.Or) (suc i) m x = rw (← add-one) a0 in
    let most : Longest ts (chained level.Or) (suc i) m = rw (← add-one) most0 in
    rw add-one (inside h a g, inside_longest h a most)

-- what is no name begins no column
no_column : (ts : List Lexeme) (i : ℕ) → name (slice_get ts i) ≡ None → (t n : List ℕ) → name (slice_get ts i) ≡ Some t → kind_at ts (suc i) ≡ Some (Punctuation Dot) → name (slice_get ts (suc (suc i))) ≡ Some n → ⊥
no_column ts i h t n g d f = let e : None ≡ Some t = sym h ∙ g in cc

pub literal_read : (ts : List Lexeme) (i : ℕ) (o : Option (Expression ColumnName)) (x : Expression ColumnName) → option_map term_of o ≡ leaf (slice_get ts i) → o ≡ Some x → name (slice_get ts i) ≡ None → (IsMember ts i → ⊥) → Spells ts primary i (i + 1) (term_of x) × Longest ts primary i (i + 1)
literal_read ts i o x h e q w =
    let p : leaf (slice_get ts i) ≡ Some (term_of x) = sym h ∙ ap (option_map term_of) e in
    rw add-one (by_leaf p, leaf_longest ts i (term_of x) p (no_column ts i q) (λ m. absurd (w m)))

pub literal_missing : (ts : List Lexeme) (i : ℕ) (o : Option (Expression ColumnName)) → option_map term_of o ≡ leaf (slice_get ts i) → o ≡ None → name (slice_get ts i) ≡ None → kind_at ts i ≢ Some (Punctuation Open) → (IsMember ts i → ⊥) → Never ts primary i
literal_missing ts i o h e q w m = no_prim ts i (sym h ∙ ap (option_map term_of) e) (no_column ts i q) w (λ k. absurd (m k))

-- what is no name and no text is what its kind alone says
leaf_constant : (k : TokenKind) (b : List ℕ) → name_in k b ≡ None → text_in k b ≡ None → leaf_of k b ≡ constant k
leaf_constant Word b n t = rw n refl
leaf_constant (Unreserved w) b n t = rw n refl
leaf_constant QuotedIdentifier b n t = rw n refl
leaf_constant Text b n t = rw t refl
leaf_constant (Reserved Null) b n t = refl
leaf_constant (Reserved True) b n t = refl
leaf_constant (Reserved False) b n t = refl
leaf_constant (Reserved CurrentUser) b n t = refl
leaf_constant (Reserved SessionUser) b n t = refl
leaf_constant _ b n t = refl

leaf_text : (k : TokenKind) (b x : List ℕ) → text_in k b ≡ Some x → leaf_of k b ≡ Some (text_literal x)
leaf_text Text b x t = rw t refl
leaf_text _ b x t = cc

-- the token that stands at an index
abbrev Stands : List Token → ℕ → Token → Type 0
Stands tokens i t = (i < length tokens) × HoldsAt (λ y. t ≡ y) tokens i

lexeme_at : (tokens : List Token) (i : ℕ) (t : Token) → Stands tokens i t → slice_get (lexemes tokens) i ≡ Some (lexeme t)
lexeme_at tokens i t h = slice_get-map lexeme tokens i ∙ ap (option_map lexeme) (slice_get_read tokens (length tokens) i t refl h.0 (h.1 t))

pub constant_read : (tokens : List Token) (i : ℕ) (t : Token) → Stands tokens i t → name (slice_get (lexemes tokens) i) ≡ None → text_content (Some (lexeme t)) ≡ None → constant t.kind ≡ leaf (slice_get (lexemes tokens) i)
constant_read tokens i t h n e =
    let at = lexeme_at tokens i t h in
    sym (ap leaf at ∙ leaf_constant t.kind t.text.now (sym (ap name at) ∙ n) e)

pub text_read : (tokens : List Token) (i : ℕ) (t : Token) (x : List ℕ) → Stands tokens i t → text_content (Some (lexeme t)) ≡ Some x → Some (text_literal x) ≡ leaf (slice_get (lexemes tokens) i)
text_read tokens i t x h e = sym (ap leaf (lexeme_at tokens i t h) ∙ leaf_text t.kind t.text.now x e)

-- a name by itself is a column
bare_of : (k : TokenKind) (b n : List ℕ) → name_in k b ≡ Some n → leaf_of k b ≡ Some (bare_column n)
bare_of Word b n h = rw h refl
bare_of QuotedIdentifier b n h = rw h refl
bare_of (Unreserved w) b n h = rw h refl
bare_of _ b n h = cc

bare_leaf : (t : Option Lexeme) (n : List ℕ) → name t ≡ Some n → leaf t ≡ Some (bare_column n)
bare_leaf None n h = cc
bare_leaf (Some t) n h = bare_of t.kind t.bytes n h

pub bare_read : (ts : List Lexeme) (i : ℕ) (n : List ℕ) → name (slice_get ts i) ≡ Some n → (kind_at ts (i + 1) ≡ Some (Punctuation Dot) → (m : List ℕ) → name (slice_get ts (i + 2)) ≡ Some m → ⊥) → Spells ts primary i (i + 1) (bare_column n) × ((IsMember ts i → HasNoPrimary ts (suc (suc i))) → Longest ts primary i (i + 1))
bare_read ts i n h never =
    let p : leaf (slice_get ts i) ≡ Some (bare_column n) = bare_leaf (slice_get ts i) n h in
    let q : i + 2 ≡ suc (suc i) = omega arith in
    rw add-one (by_leaf p, λ o. leaf_longest ts i (bare_column n) p (λ t m g d f. never (rw add-one d) m (rw q f)) o)

qualified_longest : (ts : List Lexeme) (i : ℕ) (t : List ℕ) → name (slice_get ts i) ≡ Some t → kind_at ts (suc i) ≡ Some (Punctuation Dot) → Longest ts primary i (suc (suc (suc i)))
qualified_longest ts i t h o j e (by_leaf g) = omega arith
qualified_longest ts i t h o j e (qualified g d f) = omega arith
qualified_longest ts i t h o j e (inside g d f) = absurd (no_name ts i t h g)
qualified_longest ts i t h o j e (by_member g d f) = absurd (dot_or_of o d)

pub qualified_read : (ts : List Lexeme) (i : ℕ) (t n : List ℕ) → name (slice_get ts i) ≡ Some t → kind_at ts (i + 1) ≡ Some (Punctuation Dot) → name (slice_get ts (i + 2)) ≡ Some n → Spells ts primary i (i + 3) (table_column t n) × ((IsMember ts i → HasNoPrimary ts (suc (suc i))) → Longest ts primary i (i + 3))
qualified_read ts i t n h d0 f0 =
    let p : i + 3 ≡ suc (suc (suc i)) = omega arith in
    let q : i + 2 ≡ suc (suc i) = omega arith in
    rw p (qualified h (rw (← add-one) d0) (rw q at f0), λ o. qualified_longest ts i t h (rw (← add-one) d0))

pub other_name : {o : Option (List ℕ)} {n : List ℕ} → o ≡ None → o ≡ Some n → ⊥
other_name {n = n} h g = let e : None ≡ Some n = sym h ∙ g in cc

pub column_found : (ts : List Lexeme) (i : ℕ) (o : Option (Expression ColumnName × ℕ)) (x : Expression ColumnName × ℕ) → (IsMember ts i → ⊥) → ReadsColumn ts i o → o ≡ Some x → ReadsLongestPart ts primary i (Some x)
column_found ts i o x w r h = let c = subst (ReadsColumn ts i) h r in (c.0, c.1 (λ m. absurd (w m)))

pub column_missing : (ts : List Lexeme) (i : ℕ) (o : Option (Expression ColumnName × ℕ)) → ReadsColumn ts i o → o ≡ None → name (slice_get ts i) ≡ None
column_missing ts i o r h = subst (ReadsColumn ts i) h r

-- MEMBER OF

-- pairs of the words from the first index to before the second
pub data AreMembers (ts : List Lexeme) (at : ℕ) : ℕ → Type 0 where
  no_member : AreMembers ts at at
  one_more : {k : ℕ} → AreMembers ts at k → IsMember ts k → AreMembers ts at (suc (suc k))

pub members_le : {ts : List Lexeme} {at first : ℕ} → AreMembers ts at first → at ≤ first
members_le no_member = omega arith
members_le (one_more m h) = omega (arith, members_le m)

pub members_go_on : {ts : List Lexeme} {at first : ℕ} → AreMembers ts at first → IsMember ts first → AreMembers ts at (first + 2)
members_go_on {ts} {at} {first} m h = let p : first + 2 ≡ suc (suc first) = omega arith in rw p (one_more m h)

-- the last of these pairs
pub record LastMember (ts : List Lexeme) (at first : ℕ) : Type 0 where
  pub enough : 2 ≤ first
  pub before : AreMembers ts at (first - 2)
  pub last : IsMember ts (first - 2)

pub last_member : {ts : List Lexeme} {at first : ℕ} → AreMembers ts at first → at < first → LastMember ts at first
last_member no_member lt = absurd (omega (arith, lt))
last_member {ts} {at} (one_more {k} m h) lt =
    let p : suc (suc k) - 2 ≡ k = omega arith in
    record { enough = omega arith; before = rw p m; last = rw p h }

-- the predicate is longer than the column MEMBER
pub member_read : {ts : List Lexeme} {i m : ℕ} {x : Tree} → IsMember ts i → Spells ts primary (i + 2) m x → Longest ts primary (i + 2) m → Spells ts primary i m (tree.member_test x) × Longest ts primary i m
member_read {ts} {i} {m} {x} h a0 most0 =
    let p : i + 2 ≡ suc (suc i) = omega arith in
    let a : Spells ts primary (suc (suc i)) m x = rw p at a0 in
    let most : Longest ts primary (suc (suc i)) m = rw p at most0 in
    (by_member h.0 h.1 a, member_longest h a most)
  where
    member_longest : {ts : List Lexeme} {i m : ℕ} {x : Tree} → IsMember ts i → Spells ts primary (suc (suc i)) m x → Longest ts primary (suc (suc i)) m → Longest ts primary i m
    member_longest h a most j e (by_leaf g) = omega (arith, spells_lt a)
    member_longest h a most j e (qualified g d f) = absurd (dot_or_of d h.1)
    member_longest h a most j e (inside g d f) = absurd (open_or_member g h.0)
    member_longest h a most j e (by_member {e = f} g d b) = most j f b

-- what is no name is no leaf, where the word is MEMBER
no_member_leaf : (t : Option Lexeme) (e : Tree) → option_map (λ t. t.kind) t ≡ Some (Unreserved Member) → name t ≡ None → leaf t ≡ Some e → ⊥
no_member_leaf None e k h g = cc
no_member_leaf (Some t) e k h g =
    let q : t.kind ≡ Unreserved Member = Some_inj k in
    let u : name_in (Unreserved Member) t.bytes ≡ None = ap (λ x. name_in x t.bytes) (sym q) ∙ h in
    let v : leaf_of (Unreserved Member) t.bytes ≡ Some e = ap (λ x. leaf_of x t.bytes) (sym q) ∙ g in
    let w : None ≡ Some e = sym (ap (option_map bare_column) u) ∙ v in cc

pub member_never : (ts : List Lexeme) (i : ℕ) → IsMember ts i → name (slice_get ts i) ≡ None → Never ts primary (i + 2) → Never ts primary i
member_never ts i h w never j e (by_leaf g) = no_member_leaf (slice_get ts i) e h.0 w g
member_never ts i h w never j e (qualified {t = t} {n = n} g d f) = no_column ts i w t n g d f
member_never ts i h w never j e (inside g d f) = open_or_member g h.0
member_never ts i h w never j e (by_member {e = f} g d b) = let p : i + 2 ≡ suc (suc i) = omega arith in never j f (rw p b)

-- what stands where no primary stands behind the words: the column, if it is a name
pub member_alone : (ts : List Lexeme) (i : ℕ) (o : Option (Expression ColumnName × ℕ)) → IsMember ts i → Never ts primary (i + 2) → ReadsColumn ts i o → ReadsLongestPart ts primary i o
member_alone ts i None h never r = member_never ts i h r never
member_alone ts i (Some found) h never r =
    let p : i + 2 ≡ suc (suc i) = omega arith in
    (r.0, r.1 (λ m. rw p at never))

pub member_alone_ok : {E : Type 0} (ts : List Lexeme) (i : ℕ) (r : Result (Option (Expression ColumnName × ℕ)) E) → IsMember ts i → Never ts primary (i + 2) → IfOk r (λ o. ReadsColumn ts i o) → IfOk r (λ o. ReadsLongestPart ts primary i o)
member_alone_ok ts i (Ok o) h never p = member_alone ts i o h never p
member_alone_ok ts i (Err e) h never p = tt
