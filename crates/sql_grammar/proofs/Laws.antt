-- The laws of lists and of repetitions.
use Rattle.std.proofs.Common.{◌≡◌, ℕ, suc, ◌<◌, inl, inr, List, [], ◌∷◌, Option, Some, refl, sym, ap, subst, ◌∙◌, arith}
use Rattle.sql_lexer.specs.Lexeme.{Lexeme, kind_at}
use Rattle.sql_lexer.specs.declared.token.TokenKind.{TokenKind}
use Rattle.sql_lexer.specs.declared.token.TokenKind.TheVariants.{Punctuation}
use Rattle.sql_lexer.specs.declared.token.Punctuation.TheVariants.{Comma}
use Rattle.sql_grammar.specs.Productions.{SpellsList, last, more, SpellsRepeated, no_more, one_more, OrCanBegin, IsMaximal, OrComma}

-- the laws of a production over one list of tokens
pub record Lawful {A : Type 0} (One : ℕ → ℕ → A → Type 0) (CanExtend : Option TokenKind → Type 0) (ts : List Lexeme) : Type 0 where
  pub advances : (i j : ℕ) (x : A) → One i j x → i < j
  pub unique : (i m n : ℕ) (x y : A) → One i m x → One i n y → IsMaximal CanExtend ts m → IsMaximal CanExtend ts n → (m ≡ n) × (x ≡ y)
  pub not_comma : CanExtend (Some (Punctuation Comma)) → ⊥

-- before a token that extends nothing a reading is maximal
pub before : {CanExtend : Option TokenKind → Type 0} {ts : List Lexeme} {k : ℕ} (s : TokenKind) → (CanExtend (Some s) → ⊥) → kind_at ts k ≡ Some s → IsMaximal CanExtend ts k
before {CanExtend} s never h = record { ends = λ g. never (subst CanExtend h g) }

pub before_comma : {A : Type 0} {One : ℕ → ℕ → A → Type 0} {CanExtend : Option TokenKind → Type 0} {ts : List Lexeme} {k : ℕ} → Lawful One CanExtend ts → kind_at ts k ≡ Some (Punctuation Comma) → IsMaximal CanExtend ts k
before_comma l h = before (Punctuation Comma) l.not_comma h

pub item_maximal : {CanExtend : Option TokenKind → Type 0} {ts : List Lexeme} {k : ℕ} → IsMaximal (OrComma CanExtend) ts k → IsMaximal CanExtend ts k
item_maximal s = record { ends = λ g. s.ends (inl g) }

-- Lists

pub no_comma : {A : Type 0} {CanExtend : Option TokenKind → Type 0} {ts : List Lexeme} {m k : ℕ} → IsMaximal (OrComma CanExtend) ts m → m ≡ k → kind_at ts k ≡ Some (Punctuation Comma) → A
no_comma {ts = ts} s p h = absurd (s.ends (inr (ap (kind_at ts) p ∙ h)))

pub same_one : {A : Type 0} {One : ℕ → ℕ → A → Type 0} {CanExtend : Option TokenKind → Type 0} {ts : List Lexeme} {i k m n : ℕ} {x y : A} → Lawful One CanExtend ts → i ≡ k → One i m x → One k n y → IsMaximal CanExtend ts m → IsMaximal CanExtend ts n → (m ≡ n) × (x ≡ y)
same_one {One = One} {i = i} {k} {m} {n} {x} {y} l p a b s t = l.unique i m n x y a (subst (λ z. One z n y) (sym p) b) s t

pub listed_lt : {A : Type 0} {One : ℕ → ℕ → A → Type 0} {CanExtend : Option TokenKind → Type 0} {ts : List Lexeme} {i j : ℕ} {xs : List A} → Lawful One CanExtend ts → SpellsList One ts i j xs → i < j
listed_lt l (last {i} {j} {x} a) = l.advances i j x a
listed_lt l (more {i} {k} {j} {x} a h r) = omega (arith, l.advances i k x a, listed_lt l r)

one_item : {A : Type 0} {m n : ℕ} {x y : A} → (m ≡ n) × (x ≡ y) → (m ≡ n) × (x ∷ [] ≡ y ∷ [])
one_item e = (e.0, ap (λ z. z ∷ []) e.1)

more_items : {A : Type 0} {m n : ℕ} {x y : A} {xs ys : List A} → x ≡ y → (m ≡ n) × (xs ≡ ys) → (m ≡ n) × (x ∷ xs ≡ y ∷ ys)
more_items p e = (e.0, let q = e.1 in cc)

pub listed_unique : {A : Type 0} {One : ℕ → ℕ → A → Type 0} {CanExtend : Option TokenKind → Type 0} {ts : List Lexeme} {i k m n : ℕ} {xs ys : List A} → Lawful One CanExtend ts → i ≡ k → SpellsList One ts i m xs → SpellsList One ts k n ys → IsMaximal (OrComma CanExtend) ts m → IsMaximal (OrComma CanExtend) ts n → (m ≡ n) × (xs ≡ ys)
listed_unique l p (last a) (last b) s t = one_item (same_one l p a b (item_maximal s) (item_maximal t))
listed_unique l p (last a) (more b h r) s t = no_comma s (same_one l p a b (item_maximal s) (before_comma l h)).0 h
listed_unique l p (more a h r) (last b) s t = no_comma t (sym (same_one l p a b (before_comma l h) (item_maximal t)).0) h
listed_unique l p (more a h r) (more b g q) s t =
    let e = same_one l p a b (before_comma l h) (before_comma l g) in
    more_items e.1 (listed_unique l (ap suc e.0) r q s t)

-- What stands any number of times

-- the laws of a production that is known by its first token
pub record Known {A : Type 0} (One : ℕ → ℕ → A → Type 0) (CanExtend CanBegin : Option TokenKind → Type 0) (ts : List Lexeme) : Type 0 where
  pub advances : (i j : ℕ) (x : A) → One i j x → i < j
  pub unique : (i m n : ℕ) (x y : A) → One i m x → One i n y → IsMaximal CanExtend ts m → IsMaximal CanExtend ts n → (m ≡ n) × (x ≡ y)
  pub known : (i j : ℕ) (x : A) → One i j x → CanBegin (kind_at ts i)
  pub apart : (k : Option TokenKind) → CanBegin k → CanExtend k → ⊥

-- before another of them, or where no token can extend them all, a reading is maximal
pub rest_maximal : {A : Type 0} {One : ℕ → ℕ → A → Type 0} {CanExtend CanBegin : Option TokenKind → Type 0} {ts : List Lexeme} {k n : ℕ} {xs : List A} → Known One CanExtend CanBegin ts → SpellsRepeated One k n xs → IsMaximal (OrCanBegin CanExtend CanBegin) ts n → IsMaximal CanExtend ts k
rest_maximal l no_more s = record { ends = λ g. s.ends (inl g) }
rest_maximal {ts = ts} l (one_more {i} {k} {j} {x} a r) s = record { ends = λ g. l.apart (kind_at ts i) (l.known i k x a) g }

same_known : {A : Type 0} {One : ℕ → ℕ → A → Type 0} {CanExtend CanBegin : Option TokenKind → Type 0} {ts : List Lexeme} {i k m n : ℕ} {x y : A} → Known One CanExtend CanBegin ts → i ≡ k → One i m x → One k n y → IsMaximal CanExtend ts m → IsMaximal CanExtend ts n → (m ≡ n) × (x ≡ y)
same_known {One = One} {i = i} {k} {m} {n} {x} {y} l p a b s t = l.unique i m n x y a (subst (λ z. One z n y) (sym p) b) s t

pub repeated_unique : {A : Type 0} {One : ℕ → ℕ → A → Type 0} {CanExtend CanBegin : Option TokenKind → Type 0} {ts : List Lexeme} {i k m n : ℕ} {xs ys : List A} → Known One CanExtend CanBegin ts → i ≡ k → SpellsRepeated One i m xs → SpellsRepeated One k n ys → IsMaximal (OrCanBegin CanExtend CanBegin) ts m → IsMaximal (OrCanBegin CanExtend CanBegin) ts n → (m ≡ n) × (xs ≡ ys)
repeated_unique l p no_more no_more s t = (p, refl)
repeated_unique {CanBegin = CanBegin} {ts} l p no_more (one_more {i = k} {k = j} {x = y} b r) s t = absurd (s.ends (inr (subst (λ z. CanBegin (kind_at ts z)) (sym p) (l.known k j y b))))
repeated_unique {CanBegin = CanBegin} {ts} l p (one_more {i} {k = j} {x = x} a r) no_more s t = absurd (t.ends (inr (subst (λ z. CanBegin (kind_at ts z)) p (l.known i j x a))))
repeated_unique l p (one_more a r) (one_more b q) s t =
    let e = same_known l p a b (rest_maximal l r s) (rest_maximal l q t) in
    more_items e.1 (repeated_unique l e.0 r q s t)
