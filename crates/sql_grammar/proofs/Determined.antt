-- What one token of look-ahead tells: a phrase that it suffices for is read in one way.
use Rattle.std.proofs.Common.{◌≡◌, ℕ, ◌<◌, ◌≤◌, ◌⊎◌, inl, inr, List, [], ◌∷◌, ◌++◌, Option, Some, None, slice_get, refl, sym, ap, ◌∙◌, arith}
use Rattle.std.specs.Option.{option_map}
use Rattle.std.specs.Prelude.{Bool, true, false, not, ◌&&◌, ◌*◌, ◌+◌, nat_eq}
use Rattle.std.proofs.lemmas.Bool.{and_parts, and_cases, both_ways, cases_order, not-true, ne_eqb}
use Rattle.sql_lexer.specs.Lexeme.{Lexeme, kind_at}
use Rattle.sql_lexer.specs.Content as content
use Rattle.sql_lexer.specs.declared.token.TokenKind.{TokenKind}
use Rattle.sql_lexer.specs.declared.token.TokenKind.TheVariants.{Reserved, Unreserved, Word, QuotedIdentifier, Text, Number, Punctuation}
use Rattle.sql_lexer.specs.declared.token.Reserved.TheVariants as reserved
use Rattle.sql_lexer.specs.declared.token.Unreserved.TheVariants.{Member, Of}
use Rattle.sql_lexer.specs.declared.token.Punctuation.TheVariants.{Open, Comma, Dot, Star, Plus, Minus, Slash, Percent, Equal, NotEqual, Less, LessOrEqual, Greater, GreaterOrEqual}
use Rattle.sql_lexer.specs.declared.token.Reserved.{Reserved as Reserved_}
use Rattle.sql_lexer.specs.declared.token.Unreserved.{Unreserved as Unreserved_}
use Rattle.sql_lexer.specs.contracts.token.Reserved as reserved_words
use Rattle.sql_lexer.specs.contracts.token.Unreserved as unreserved_words
use denote.Enum.Declared.{tag_of}
use Rattle.expr_parser.specs.Grammar.{Tree, SpellsExpr, Part, leaf, chain, by_not, no_not, tests, compared, not_compared, by_number, by_minus, no_minus, by_leaf, qualified, inside, by_member}
use Rattle.expr_parser.specs.Grammar as grammar
use Rattle.expr_parser.proofs.Readings.{spells_lt}
use Rattle.expr_parser.specs.Precedence.{token_precedence}
use Rattle.sql_grammar.specs.Classes.{Class, exactly, names, no_star, code, is_name, in_class, in_any, apart}
use Rattle.sql_grammar.specs.Phrases.{Phrase, gives, ◌▹◌, ◌⊛◌, ◌∣◌, listed, many, word_of, name, number, expr, sort_key_expression, clause, Spells, StandsFor}
use Rattle.sql_grammar.specs.LookAhead.{operators, if_so, words_in, has_no_doubles, nullable, first, extends, is_determined, Ends}
use Rattle.sql_grammar.specs.Productions.{SpellsList, last, more, SpellsRepeated, no_more, one_more}
use Rattle.sql_grammar.proofs.Apart.{apart_never, or_none, none_of_both, in_former, in_latter, in_first, is_exactly, not_in}

-- Single tokens

kind_of_name : (t : Lexeme) (x : List ℕ) → content.name_in t.kind t.bytes ≡ Some x → is_name t.kind ≡ true
kind_of_name t x h = by_kind t.kind t.bytes h
  where
    by_kind : (k : TokenKind) (b : List ℕ) → content.name_in k b ≡ Some x → is_name k ≡ true
    by_kind Word b g = refl
    by_kind QuotedIdentifier b g = refl
    by_kind (Unreserved w) b g = refl
    by_kind _ b g = cc

name_of : (t : Option Lexeme) (x : List ℕ) → content.name t ≡ Some x → in_class names (option_map (λ t. t.kind) t) ≡ true
name_of None x h = cc
name_of (Some t) x h = kind_of_name t x h

pub name_known : (ts : List Lexeme) (i : ℕ) (x : List ℕ) → content.name (slice_get ts i) ≡ Some x → in_class names (kind_at ts i) ≡ true
name_known ts i x h = name_of (slice_get ts i) x h

differs : (m n : ℕ) → (m ≡ n → ⊥) → not (nat_eq m n) ≡ true
differs m n never = ap not (ne_eqb m n never)

-- a token that is known and is no star
not_star : (k : TokenKind) (o : Option TokenKind) → o ≡ Some k → in_class no_star (Some k) ≡ true → in_class no_star o ≡ true
not_star k o h g = rw h g

reserved_no_star : (w : Reserved_) → in_class no_star (Some (Reserved w)) ≡ true
reserved_no_star w = differs (8 * tag_of reserved_words.the_type w) (code (Punctuation Star)) (λ e. omega (arith, e))

unreserved_no_star : (w : Unreserved_) → in_class no_star (Some (Unreserved w)) ≡ true
unreserved_no_star w = differs (8 * tag_of unreserved_words.the_type w + 1) (code (Punctuation Star)) (λ e. omega (arith, e))

leaf_known : (t : Option Lexeme) (e : Tree) → leaf t ≡ Some e → in_class no_star (option_map (λ t. t.kind) t) ≡ true
leaf_known None e h = cc
leaf_known (Some t) e h = by_kind t.kind t.bytes h
  where
    by_kind : (k : TokenKind) (b : List ℕ) → grammar.leaf_of k b ≡ Some e → in_class no_star (Some k) ≡ true
    by_kind (Punctuation p) b g = cc
    by_kind (Reserved w) b g = reserved_no_star w
    by_kind (Unreserved w) b g = unreserved_no_star w
    by_kind Word b g = refl
    by_kind QuotedIdentifier b g = refl
    by_kind Text b g = refl
    by_kind (Number n) b g = refl

names_no_star : (k : Option TokenKind) → in_class names k ≡ true → in_class no_star k ≡ true
names_no_star None h = h
names_no_star (Some Word) h = refl
names_no_star (Some QuotedIdentifier) h = refl
names_no_star (Some (Unreserved w)) h = unreserved_no_star w
names_no_star (Some (Reserved w)) h = let e : false ≡ true = h in cc
names_no_star (Some Text) h = refl
names_no_star (Some (Number n)) h = refl
names_no_star (Some (Punctuation p)) h = let e : false ≡ true = h in cc

-- no expression begins with a star
pub expr_known : {ts : List Lexeme} {p : Part} {i j : ℕ} {e : Tree} → grammar.Spells ts p i j e → in_class no_star (kind_at ts i) ≡ true
expr_known (chain a r) = expr_known a
expr_known {ts} (by_not {i} h d) = not_star (Reserved reserved.Not) (kind_at ts i) h refl
expr_known (no_not d) = expr_known d
expr_known (tests a r) = expr_known a
expr_known (compared a h b) = expr_known a
expr_known (not_compared d) = expr_known d
expr_known {ts} (by_number {i} h g f) = not_star (Punctuation Minus) (kind_at ts i) h refl
expr_known {ts} (by_minus {i} h g d) = not_star (Punctuation Minus) (kind_at ts i) h refl
expr_known (no_minus d) = expr_known d
expr_known {ts} (by_leaf {i} {e} h) = leaf_known (slice_get ts i) e h
expr_known {ts} (qualified {i} {t} h g f) = names_no_star (kind_at ts i) (name_known ts i t h)
expr_known {ts} (inside {i} h d g) = not_star (Punctuation Open) (kind_at ts i) h refl
expr_known {ts} (by_member {i} h g d) = not_star (Unreserved Member) (kind_at ts i) h refl

-- an operator extends an expression
pub operator_known : (k : Option TokenKind) → 0 < token_precedence k → in_any operators k ≡ true
operator_known (Some (Reserved reserved.Or)) h = refl
operator_known (Some (Reserved reserved.And)) h = refl
operator_known (Some (Reserved reserved.Is)) h = refl
operator_known (Some (Punctuation Equal)) h = refl
operator_known (Some (Punctuation NotEqual)) h = refl
operator_known (Some (Punctuation Less)) h = refl
operator_known (Some (Punctuation LessOrEqual)) h = refl
operator_known (Some (Punctuation Greater)) h = refl
operator_known (Some (Punctuation GreaterOrEqual)) h = refl
operator_known (Some (Punctuation Plus)) h = refl
operator_known (Some (Punctuation Minus)) h = refl
operator_known (Some (Punctuation Star)) h = refl
operator_known (Some (Punctuation Slash)) h = refl
operator_known (Some (Punctuation Percent)) h = refl
operator_known (Some (Punctuation Dot)) h = refl
operator_known (Some (Unreserved Of)) h = refl
operator_known _ h = absurd (omega (arith, h))

-- Words of a table

pub word_known : {A : Type 0} (table : List (TokenKind × A)) (k : Option TokenKind) (y : A) → StandsFor table k y → in_any (words_in table) k ≡ true
word_known [] k y h = absurd h
word_known (e ∷ es) k y (inl h) = in_first (exactly e.0) (words_in es) k (is_exactly e.0 k h.0)
word_known (e ∷ es) k y (inr h) = in_latter (exactly e.0 ∷ []) (words_in es) k (word_known es k y h)

one_word : {A : Type 0} (e : TokenKind × A) (es : List (TokenKind × A)) (k : Option TokenKind) (y : A) → has_no_doubles (e ∷ es) ≡ true → k ≡ Some e.0 → StandsFor es k y → ⊥
one_word {A} e es k y w h g = both_ways (in_any (words_in es) (Some e.0)) (not-true (in_any (words_in es) (Some e.0)) (and_parts (not (in_any (words_in es) (Some e.0))) (has_no_doubles es) w).0) (rw h at (word_known {A = A} es k y g))

-- a word of a table without doubles stands for one value
pub one_value : {A : Type 0} (table : List (TokenKind × A)) (k : Option TokenKind) (x y : A) → has_no_doubles table ≡ true → StandsFor table k x → StandsFor table k y → x ≡ y
one_value [] k x y w h g = absurd h
one_value (e ∷ es) k x y w (inl h) (inl g) = h.1 ∙ sym g.1
one_value (e ∷ es) k x y w (inl h) (inr g) = absurd (one_word e es k y w h.0 g)
one_value (e ∷ es) k x y w (inr h) (inl g) = absurd (one_word e es k x w g.0 h)
one_value (e ∷ es) k x y w (inr h) (inr g) = one_value es k x y (and_parts (not (in_any (words_in es) (Some e.0))) (has_no_doubles es) w).1 h g

-- Where a phrase begins

-- a phrase from i to before j
pub record Begins {A : Type 0} (p : Phrase A) (ts : List Lexeme) (i j : ℕ) : Type 0 where
  pub le : i ≤ j
  pub filled : nullable p ≡ false → i < j
  pub known : i < j → in_any (first p) (kind_at ts i) ≡ true

-- what is empty may be so
pub empty_nullable : {A : Type 0} (p : Phrase A) (ts : List Lexeme) (i j : ℕ) → Begins p ts i j → j ≡ i → nullable p ≡ true
empty_nullable p ts i j b e = by_test (nullable p) (λ h. absurd (omega (arith, b.filled h, e)))
  where
    by_test : (t : Bool) → (t ≡ false → t ≡ true) → t ≡ true
    by_test true f = refl
    by_test false f = f refl

pub at_least : (i k : ℕ) → i ≤ k → (i < k) ⊎ (k ≡ i)
at_least i k le = elim (cases_order i k) [ inl e ↦ inr (sym e) | inr e ↦ elim e [ inl h ↦ inl h | inr h ↦ absurd (omega (arith, le, h)) ] ]

-- the first token of one phrase after another
begins_two : {A : Type 0} (p : Phrase A) (cs : List Class) (ts : List Lexeme) (i k : ℕ) → Begins p ts i k → (k ≡ i → in_any cs (kind_at ts i) ≡ true) → in_any (first p ++ if_so (nullable p) cs) (kind_at ts i) ≡ true
begins_two p cs ts i k b f = elim (at_least i k b.le) [
  | inl h ↦ in_former (first p) (if_so (nullable p) cs) (kind_at ts i) (b.known h)
  | inr e ↦ in_latter (first p) (if_so (nullable p) cs) (kind_at ts i) (rw (empty_nullable p ts i k b e) (f e))
]

of_list : {A : Type 0} {p : Phrase A} {ts : List Lexeme} {i j : ℕ} {xs : List A} → ((k : ℕ) (x : A) → Spells ts p i k x → Begins p ts i k) → nullable p ≡ false → SpellsList (Spells ts p) ts i j xs → in_any (first p) (kind_at ts i) ≡ true
of_list f e (last {j = k} {x = x} a) = let b = f k x a in b.known (b.filled e)
of_list f e (more {k = k} {x = x} a h r) = let b = f k x a in b.known (b.filled e)

of_many : {A : Type 0} {p : Phrase A} {ts : List Lexeme} {i j : ℕ} {xs : List A} → ((k : ℕ) (x : A) → Spells ts p i k x → Begins p ts i k) → nullable p ≡ false → SpellsRepeated (Spells ts p) i j xs → i < j → in_any (first p) (kind_at ts i) ≡ true
of_many f e no_more h = absurd (omega (arith, h))
of_many f e (one_more {k = k} {x = x} a r) h = let b = f k x a in b.known (b.filled e)

list_lt : {A : Type 0} (p : Phrase A) (ts : List Lexeme) {i j : ℕ} {xs : List A} → ((m k : ℕ) (x : A) → Spells ts p m k x → m < k) → SpellsList (Spells ts p) ts i j xs → i < j
list_lt p ts f (last {i} {j = k} {x = x} a) = f i k x a
list_lt p ts f (more {i} {k = k} {x = x} a h r) = omega (arith, f i k x a, list_lt p ts f r)

many_le : {A : Type 0} (p : Phrase A) (ts : List Lexeme) {i j : ℕ} {xs : List A} → ((m k : ℕ) (x : A) → Spells ts p m k x → m < k) → SpellsRepeated (Spells ts p) i j xs → i ≤ j
many_le p ts f no_more = omega arith
many_le p ts f (one_more {i} {k = k} {x = x} a r) = omega (arith, f i k x a, many_le p ts f r)

three : (a b c : Bool) → (a && b) && c ≡ true → (a ≡ true) × (b ≡ true) × (c ≡ true)
three a b c h = let v = and_parts (a && b) c h in let u = and_parts a b v.0 in (u.0, u.1, v.1)

four : (a b c d : Bool) → ((a && b) && c) && d ≡ true → (a ≡ true) × (b ≡ true) × (c ≡ true) × (d ≡ true)
four a b c d h = let v = and_parts ((a && b) && c) d h in let u = three a b c v.0 in (u.0, u.1, u.2, v.1)

-- what is known of two phrases one after the other, of two to choose from, and of one that is repeated
pub of_two : {A B : Type 0} (p : Phrase (A → B)) (q : Phrase A) → is_determined (p ⊛ q) ≡ true → (is_determined p ≡ true) × (is_determined q ≡ true) × (apart (extends p) (first q) ≡ true)
of_two p q w = three (is_determined p) (is_determined q) (apart (extends p) (first q)) w

pub of_choice : {A : Type 0} (p q : Phrase A) → is_determined (p ∣ q) ≡ true → (is_determined p ≡ true) × (is_determined q ≡ true) × (apart (first p) (first q) ≡ true) × (not (nullable p && nullable q) ≡ true)
of_choice p q w = four (is_determined p) (is_determined q) (apart (first p) (first q)) (not (nullable p && nullable q)) w

pub of_listed : {A : Type 0} (p : Phrase A) → is_determined (listed p) ≡ true → (is_determined p ≡ true) × (not (nullable p) ≡ true) × (apart (extends p) (exactly (Punctuation Comma) ∷ []) ≡ true)
of_listed p w = three (is_determined p) (not (nullable p)) (apart (extends p) (exactly (Punctuation Comma) ∷ [])) w

pub of_repeated : {A : Type 0} (p : Phrase A) → is_determined (many p) ≡ true → (is_determined p ≡ true) × (not (nullable p) ≡ true) × (apart (extends p) (first p) ≡ true)
of_repeated p w = three (is_determined p) (not (nullable p)) (apart (extends p) (first p)) w

pub of_token : {A : Type 0} (p : Phrase A) (t : TokenKind) → is_determined (p ▹ t) ≡ true → (is_determined p ≡ true) × (apart (extends p) (exactly t ∷ []) ≡ true)
of_token p t w = and_parts (is_determined p) (apart (extends p) (exactly t ∷ [])) w

pub begins : {A : Type 0} (p : Phrase A) (ts : List Lexeme) (i j : ℕ) (x : A) → is_determined p ≡ true → Spells ts p i j x → Begins p ts i j
begins (gives y) ts i j x w s = record { le = omega (arith, s.0); filled = λ h. let e : true ≡ false = h in cc; known = λ h. absurd (omega (arith, h, s.0)) }
begins (p ▹ t) ts i j x w s =
    let b = begins p ts i s.0 x (of_token p t w).0 s.1 in record {
      le = omega (arith, b.le, s.3);
      filled = λ h. omega (arith, b.le, s.3);
      known = λ h. begins_two p (exactly t ∷ []) ts i s.0 b (λ e. in_first (exactly t) [] (kind_at ts i) (is_exactly t (kind_at ts i) (ap (kind_at ts) (sym e) ∙ s.2)));
    }
begins (p ⊛ q) ts i j x w s =
    let v = of_two p q w in
    let b = begins p ts i s.0 s.1 v.0 s.3 in let c = begins q ts s.0 j s.2 v.1 s.4 in record {
      le = omega (arith, b.le, c.le);
      filled = λ h. elim (and_cases (nullable p) (nullable q) h) [ inl g ↦ omega (arith, b.filled g, c.le) | inr g ↦ omega (arith, b.le, c.filled g) ];
      known = λ h. begins_two p (first q) ts i s.0 b (λ e. rw (← e) (c.known (omega (arith, e, h))));
    }
begins (p ∣ q) ts i j x w s =
    let v = of_choice p q w in
    elim s [
      | inl d ↦ (let b = begins p ts i j x v.0 d in record {
        le = b.le;
        filled = λ h. b.filled (or_none (nullable p) (nullable q) h).0;
        known = λ h. in_former (first p) (first q) (kind_at ts i) (b.known h);
      })
      | inr d ↦ (let b = begins q ts i j x v.1 d in record {
        le = b.le;
        filled = λ h. b.filled (or_none (nullable p) (nullable q) h).1;
        known = λ h. in_latter (first p) (first q) (kind_at ts i) (b.known h);
      })
    ]
begins (listed p) ts i j x w s =
    let v = of_listed p w in let e = not-true (nullable p) v.1 in
    let lt = list_lt p ts (λ m k y d. (begins p ts m k y v.0 d).filled e) s in record {
      le = omega (arith, lt);
      filled = λ h. lt;
      known = λ h. of_list (λ k y d. begins p ts i k y v.0 d) e s;
    }
begins (many p) ts i j x w s =
    let v = of_repeated p w in let e = not-true (nullable p) v.1 in record {
      le = many_le p ts (λ m k y d. (begins p ts m k y v.0 d).filled e) s;
      filled = λ h. let g : true ≡ false = h in cc;
      known = λ h. of_many (λ k y d. begins p ts i k y v.0 d) e s h;
    }
begins (word_of table) ts i j x w s = record { le = omega (arith, s.1); filled = λ h. omega (arith, s.1); known = λ h. word_known table (kind_at ts i) x s.0 }
begins name ts i j x w s = record { le = omega (arith, s.1); filled = λ h. omega (arith, s.1); known = λ h. in_first names [] (kind_at ts i) (name_known ts i x s.0) }
begins number ts i j x w s = record { le = omega (arith, s.2); filled = λ h. omega (arith, s.2); known = λ h. rw s.0 }
begins expr ts i j x w s = record { le = omega (arith, spells_lt s); filled = λ h. spells_lt s; known = λ h. in_first no_star [] (kind_at ts i) (expr_known s) }
begins sort_key_expression ts i j x w s = record { le = omega (arith, spells_lt s.0); filled = λ h. spells_lt s.0; known = λ h. in_first no_star [] (kind_at ts i) (expr_known s.0) }
begins (clause source) ts i j x w s = record { le = omega (arith, spells_lt s.0); filled = λ h. spells_lt s.0; known = λ h. in_first no_star [] (kind_at ts i) (expr_known s.0) }

-- Where a phrase ends

-- before a token of another class nothing extends a phrase
before : {A : Type 0} (p : Phrase A) (ts : List Lexeme) (k : ℕ) (cs : List Class) → apart (extends p) cs ≡ true → in_any cs (kind_at ts k) ≡ true → Ends p ts k
before p ts k cs w h = not_in (extends p) (kind_at ts k) (λ g. apart_never (extends p) cs (kind_at ts k) w g h)

pub before_token : {A : Type 0} (p : Phrase A) (t : TokenKind) (ts : List Lexeme) (k : ℕ) → is_determined (p ▹ t) ≡ true → kind_at ts k ≡ Some t → Ends p ts k
before_token p t ts k w h = before p ts k (exactly t ∷ []) (of_token p t w).1 (in_first (exactly t) [] (kind_at ts k) (is_exactly t (kind_at ts k) h))

if_true : (b : Bool) (cs : List Class) (k : Option TokenKind) → b ≡ true → in_any (if_so b cs) k ≡ false → in_any cs k ≡ false
if_true b cs k e h = rw e at h

-- the former of two phrases ends where the latter begins, or where both end
pub former_ends : {A B : Type 0} (p : Phrase (A → B)) (q : Phrase A) (ts : List Lexeme) (k m : ℕ) (x : A) → is_determined (p ⊛ q) ≡ true → Spells ts q k m x → Ends (p ⊛ q) ts m → Ends p ts k
former_ends p q ts k m x w d s =
    let v = of_two p q w in let b = begins q ts k m x v.1 d in
    elim (at_least k m b.le) [
      | inl h ↦ before p ts k (first q) v.2 (b.known h)
      | inr e ↦ (let z = if_true (nullable q) (extends p) (kind_at ts m) (empty_nullable q ts k m b e) (none_of_both (extends q) (if_so (nullable q) (extends p)) (kind_at ts m) s).1 in rw e at z)
    ]

pub latter_ends : {A B : Type 0} (p : Phrase (A → B)) (q : Phrase A) (ts : List Lexeme) (m : ℕ) → Ends (p ⊛ q) ts m → Ends q ts m
latter_ends p q ts m s = (none_of_both (extends q) (if_so (nullable q) (extends p)) (kind_at ts m) s).0

-- what ends a choice
pub record ChoiceEnds {A : Type 0} (p q : Phrase A) (ts : List Lexeme) (m : ℕ) : Type 0 where
  pub left : Ends p ts m
  pub right : Ends q ts m
  pub left_begins : nullable q ≡ true → in_any (first p) (kind_at ts m) ≡ false
  pub right_begins : nullable p ≡ true → in_any (first q) (kind_at ts m) ≡ false

pub choice_ends : {A : Type 0} (p q : Phrase A) (ts : List Lexeme) (m : ℕ) → Ends (p ∣ q) ts m → ChoiceEnds p q ts m
choice_ends p q ts m s =
    let k = kind_at ts m in
    let a = none_of_both (extends p ++ extends q ++ if_so (nullable q) (first p)) (if_so (nullable p) (first q)) k s in
    let b = none_of_both (extends p ++ extends q) (if_so (nullable q) (first p)) k a.0 in
    let c = none_of_both (extends p) (extends q) k b.0 in record {
      left = c.0;
      right = c.1;
      left_begins = λ e. if_true (nullable q) (first p) k e b.1;
      right_begins = λ e. if_true (nullable p) (first q) k e a.1;
    }

-- only one of two phrases is spelled
pub one_choice : {A : Type 0} (p q : Phrase A) (ts : List Lexeme) (i m n : ℕ) (x y : A) → is_determined (p ∣ q) ≡ true → Spells ts p i m x → Spells ts q i n y → Ends (p ∣ q) ts m → Ends (p ∣ q) ts n → ⊥
one_choice p q ts i m n x y w d e s t =
    let v = of_choice p q w in
    let b = begins p ts i m x v.0 d in let c = begins q ts i n y v.1 e in
    let f = choice_ends p q ts m s in let g = choice_ends p q ts n t in
    elim (at_least i m b.le) [
      | inl h ↦ elim (at_least i n c.le) [
        | inl z ↦ apart_never (first p) (first q) (kind_at ts i) v.2 (b.known h) (c.known z)
        | inr z ↦ both_ways (in_any (first p) (kind_at ts i)) (let u = g.left_begins (empty_nullable q ts i n c z) in rw z at u) (b.known h)
      ]
      | inr h ↦ elim (at_least i n c.le) [
        | inl z ↦ both_ways (in_any (first q) (kind_at ts i)) (let u = f.right_begins (empty_nullable p ts i m b h) in rw h at u) (c.known z)
        | inr z ↦ both_ways (nullable p && nullable q) (not-true (nullable p && nullable q) v.3) (rw (empty_nullable p ts i m b h, empty_nullable q ts i n c z))
      ]
    ]
