-- Classes that no token is in both of.
use Rattle.std.proofs.Common.{◌≡◌, inl, inr, List, [], ◌∷◌, ◌++◌, Option, Some, None, refl, sym, ◌∙◌, arith}
use Rattle.std.specs.Prelude.{Bool, true, false, not, ◌||◌}
use Rattle.std.proofs.lemmas.Bool.{and_parts, or_cases, both_ways, eqb-true, eq-eqb, not-true}
use Rattle.sql_lexer.specs.declared.token.TokenKind.{TokenKind}
use Rattle.sql_lexer.specs.declared.token.TokenKind.TheVariants.{Reserved, Unreserved, Word, QuotedIdentifier, Text, Number, Punctuation}
use Rattle.sql_grammar.specs.Classes.{Class, exactly, names, no_star, code, is_name, in_class, in_any, classes_apart, apart_from, apart}

-- tokens of one number may both be names, or neither
same_name : (k a : TokenKind) → code k ≡ code a → is_name k ≡ true → is_name a ≡ true
same_name Word (Reserved w) e h = absurd (omega (arith, e))
same_name Word (Unreserved w) e h = refl
same_name Word Word e h = refl
same_name Word QuotedIdentifier e h = refl
same_name Word Text e h = absurd (omega (arith, e))
same_name Word (Number n) e h = absurd (omega (arith, e))
same_name Word (Punctuation p) e h = absurd (omega (arith, e))
same_name QuotedIdentifier (Reserved w) e h = absurd (omega (arith, e))
same_name QuotedIdentifier (Unreserved w) e h = refl
same_name QuotedIdentifier Word e h = refl
same_name QuotedIdentifier QuotedIdentifier e h = refl
same_name QuotedIdentifier Text e h = absurd (omega (arith, e))
same_name QuotedIdentifier (Number n) e h = absurd (omega (arith, e))
same_name QuotedIdentifier (Punctuation p) e h = absurd (omega (arith, e))
same_name (Unreserved u) (Reserved w) e h = absurd (omega (arith, e))
same_name (Unreserved u) (Unreserved w) e h = refl
same_name (Unreserved u) Word e h = refl
same_name (Unreserved u) QuotedIdentifier e h = refl
same_name (Unreserved u) Text e h = absurd (omega (arith, e))
same_name (Unreserved u) (Number n) e h = absurd (omega (arith, e))
same_name (Unreserved u) (Punctuation p) e h = absurd (omega (arith, e))
same_name (Reserved u) a e h = let g : false ≡ true = h in cc
same_name Text a e h = let g : false ≡ true = h in cc
same_name (Number n) a e h = let g : false ≡ true = h in cc
same_name (Punctuation p) a e h = let g : false ≡ true = h in cc

-- a class that holds a token holds each token of its number
same_class : (c : Class) (k a : TokenKind) → code k ≡ code a → in_class c (Some k) ≡ true → in_class c (Some a) ≡ true
same_class (exactly b) k a e h = rw (← e) h
same_class names k a e h = same_name k a e h
same_class no_star k a e h = rw (← e) h

one_apart : (a : TokenKind) (c : Class) (k : Option TokenKind) → not (in_class c (Some a)) ≡ true → in_class (exactly a) k ≡ true → in_class c k ≡ true → ⊥
one_apart a c None h g f = let e : false ≡ true = g in cc
one_apart a c (Some k) h g f = both_ways (in_class c (Some a)) (not-true (in_class c (Some a)) h) (same_class c k a (eqb-true (code k) (code a) g) f)

two_apart : (c d : Class) (k : Option TokenKind) → classes_apart c d ≡ true → in_class c k ≡ true → in_class d k ≡ true → ⊥
two_apart (exactly a) d k h g f = one_apart a d k h g f
two_apart names (exactly a) k h g f = one_apart a names k h f g
two_apart no_star (exactly a) k h g f = one_apart a no_star k h f g
two_apart names names k h g f = let e : false ≡ true = h in cc
two_apart names no_star k h g f = let e : false ≡ true = h in cc
two_apart no_star names k h g f = let e : false ≡ true = h in cc
two_apart no_star no_star k h g f = let e : false ≡ true = h in cc

class_apart : (c : Class) (ds : List Class) (k : Option TokenKind) → apart_from c ds ≡ true → in_class c k ≡ true → in_any ds k ≡ true → ⊥
class_apart c [] k h g f = let e : false ≡ true = f in cc
class_apart c (d ∷ ds) k h g f = let e = and_parts (classes_apart c d) (apart_from c ds) h in elim (or_cases (in_class d k) (in_any ds k) f) [ inl q ↦ two_apart c d k e.0 g q | inr q ↦ class_apart c ds k e.1 g q ]

pub apart_never : (cs ds : List Class) (k : Option TokenKind) → apart cs ds ≡ true → in_any cs k ≡ true → in_any ds k ≡ true → ⊥
apart_never [] ds k h g f = let e : false ≡ true = g in cc
apart_never (c ∷ cs) ds k h g f = let e = and_parts (apart_from c ds) (apart cs ds) h in elim (or_cases (in_class c k) (in_any cs k) g) [ inl q ↦ class_apart c ds k e.0 q f | inr q ↦ apart_never cs ds k e.1 q f ]

-- unions

any_or : (a b c : Bool) → (a || b) || c ≡ a || (b || c)
any_or true b c = refl
any_or false b c = refl

pub any_both : (cs ds : List Class) (k : Option TokenKind) → in_any (cs ++ ds) k ≡ in_any cs k || in_any ds k
any_both [] ds k = refl
any_both (c ∷ cs) ds k = rw (any_both cs ds k) (sym (any_or (in_class c k) (in_any cs k) (in_any ds k)))

pub or_none : (a b : Bool) → a || b ≡ false → (a ≡ false) × (b ≡ false)
or_none true b h = let e : true ≡ false = h in cc
or_none false b h = (refl, h)

pub none_of_both : (cs ds : List Class) (k : Option TokenKind) → in_any (cs ++ ds) k ≡ false → (in_any cs k ≡ false) × (in_any ds k ≡ false)
none_of_both cs ds k h = or_none (in_any cs k) (in_any ds k) (sym (any_both cs ds k) ∙ h)

or_left : (a b : Bool) → a ≡ true → a || b ≡ true
or_left a b h = rw h

or_right : (a b : Bool) → b ≡ true → a || b ≡ true
or_right true b h = refl
or_right false b h = h

pub in_former : (cs ds : List Class) (k : Option TokenKind) → in_any cs k ≡ true → in_any (cs ++ ds) k ≡ true
in_former cs ds k h = any_both cs ds k ∙ or_left (in_any cs k) (in_any ds k) h

pub in_latter : (cs ds : List Class) (k : Option TokenKind) → in_any ds k ≡ true → in_any (cs ++ ds) k ≡ true
in_latter cs ds k h = any_both cs ds k ∙ or_right (in_any cs k) (in_any ds k) h

pub in_first : (c : Class) (cs : List Class) (k : Option TokenKind) → in_class c k ≡ true → in_any (c ∷ cs) k ≡ true
in_first c cs k h = or_left (in_class c k) (in_any cs k) h

pub is_exactly : (t : TokenKind) (k : Option TokenKind) → k ≡ Some t → in_class (exactly t) k ≡ true
is_exactly t k h = rw h (eq-eqb (code t) (code t) refl)

-- a token that is in none of the classes that it must be apart from
pub not_in : (cs : List Class) (k : Option TokenKind) → (in_any cs k ≡ true → ⊥) → in_any cs k ≡ false
not_in cs k never = is_false (in_any cs k) never
  where
    is_false : (b : Bool) → (b ≡ true → ⊥) → b ≡ false
    is_false true h = absurd (h refl)
    is_false false h = refl
