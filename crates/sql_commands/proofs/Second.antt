-- Which tokens stand second in a phrase.
use Rattle.std.proofs.Common.{◌≡◌, ℕ, zero, suc, ◌<◌, ◌≤◌, ◌⊎◌, inl, inr, List, [], ◌∷◌, ◌++◌, Option, Some, length, refl, sym, ap, subst, ◌∙◌, arith}
use Rattle.std.specs.Prelude.{Bool, true, false, not, ◌&&◌, ◌||◌}
use Rattle.std.proofs.lemmas.Bool.{not-true}
use Rattle.sql_lexer.specs.Lexeme.{Lexeme, kind_at}
use Rattle.sql_lexer.specs.declared.token.TokenKind.{TokenKind}
use Rattle.sql_lexer.specs.declared.token.TokenKind.TheVariants.{Punctuation}
use Rattle.sql_lexer.specs.declared.token.Punctuation.TheVariants.{Comma, Star}
use Rattle.expr_parser.specs.Grammar.{Tree, SpellsExpr}
use Rattle.sql_commands.proofs.Within.{within}
use Rattle.sql_grammar.specs.Classes.{Class, exactly, no_star, in_any, in_class}
use Rattle.sql_grammar.specs.Phrases.{Phrase, gives, ◌▹◌, ◌⊛◌, ◌∣◌, listed, many, word_of, name, number, expr, sort_key_expression, clause, Spells}
use Rattle.sql_grammar.specs.LookAhead.{if_so, nullable, first, is_determined}
use Rattle.sql_grammar.specs.Productions.{SpellsList, last, more, SpellsRepeated, no_more, one_more}
use Rattle.sql_grammar.proofs.Apart.{in_former, in_latter, in_first, is_exactly}
use Rattle.sql_grammar.proofs.Determined.{begins, Begins, empty_nullable, at_least, of_two, of_choice, of_listed, of_repeated, of_token}

-- whether a phrase may have one token alone
abbrev pub single : {A : Type 0} → Phrase A → Bool
single (gives x) = false
single (p ▹ t) = nullable p
single (p ⊛ q) = single p && nullable q || nullable p && single q
single (p ∣ q) = single p || single q
single (listed p) = single p
single (many p) = single p
single _ = true

-- any token
abbrev pub any_token : List Class
any_token = no_star ∷ exactly (Punctuation Star) ∷ []

-- the tokens that can be its second
abbrev pub second : {A : Type 0} → Phrase A → List Class
second (gives x) = []
second (p ▹ t) = second p ++ if_so (single p) (exactly t ∷ [])
second (p ⊛ q) = second p ++ (if_so (single p) (first q) ++ if_so (nullable p) (second q))
second (p ∣ q) = second p ++ second q
second (listed p) = second p ++ if_so (single p) (exactly (Punctuation Comma) ∷ [])
second (many p) = second p ++ if_so (single p) (first p)
second (word_of table) = []
second name = []
second number = []
second expr = any_token
second sort_key_expression = any_token
second (clause source) = any_token

-- what is known of a phrase from i to before j
pub record Seconds {A : Type 0} (p : Phrase A) (ts : List Lexeme) (i j : ℕ) : Type 0 where
  pub alone : j ≡ suc i → single p ≡ true
  pub known : suc i < j → in_any (second p) (kind_at ts (suc i)) ≡ true

if_true : (b : Bool) (cs : List Class) (k : Option TokenKind) → b ≡ true → in_any cs k ≡ true → in_any (if_so b cs) k ≡ true
if_true b cs k e h = rw e h

any_of : (k : TokenKind) → in_any any_token (Some k) ≡ true
any_of k = by_test (in_class (exactly (Punctuation Star)) (Some k))
  where
    by_test : (t : Bool) → not t || (t || false) ≡ true
    by_test true = refl
    by_test false = refl

token_below : (ts : List Lexeme) (n j : ℕ) → n < j → j ≤ length ts → in_any any_token (kind_at ts n) ≡ true
token_below ts n j lt le = there ts n (omega (arith, lt, le))
  where
    there : (us : List Lexeme) (m : ℕ) → m < length us → in_any any_token (kind_at us m) ≡ true
    there [] m h = absurd (omega (arith, h))
    there (u ∷ us) zero h = any_of u.kind
    there (u ∷ us) (suc m) h = there us m (omega (arith, h))

of_expr : {A : Type 0} (p : Phrase A) (ts : List Lexeme) (i j : ℕ) (e : Tree) → single p ≡ true → second p ≡ any_token → SpellsExpr ts i j e → Seconds p ts i j
of_expr p ts i j e h g s = record { alone = λ q. h; known = λ lt. rw g (token_below ts (suc i) j lt (within s)) }

or_left : (a b : Bool) → a ≡ true → a || b ≡ true
or_left a b h = rw h

or_right : (a b : Bool) → b ≡ true → a || b ≡ true
or_right true b h = refl
or_right false b h = h

both : (a b : Bool) → a ≡ true → b ≡ true → a && b ≡ true
both a b h g = rw (h, g)

-- i, the next, or further on
stages : (i k : ℕ) → i ≤ k → (k ≡ i) ⊎ ((k ≡ suc i) ⊎ (suc i < k))
stages i k le = elim (at_least i k le) [
  | inr e ↦ inl e
  | inl h ↦ elim (at_least (suc i) k (omega (arith, h))) [ inl g ↦ inr (inr g) | inr e ↦ inr (inl e) ]
]

of_two_alone : (sp np sq nq : Bool) (i k j : ℕ) → (k ≡ i) ⊎ ((k ≡ suc i) ⊎ (suc i < k)) → k ≤ j → j ≡ suc i
    → (k ≡ i → np ≡ true) → (k ≡ suc i → sp ≡ true) → (j ≡ k → nq ≡ true) → (j ≡ suc k → sq ≡ true) → sp && nq || np && sq ≡ true
of_two_alone sp np sq nq i k j (inl e) le q a b c d = or_right (sp && nq) (np && sq) (both np sq (a e) (d (omega (arith, e, q))))
of_two_alone sp np sq nq i k j (inr (inl e)) le q a b c d = or_left (sp && nq) (np && sq) (both sp nq (b e) (c (omega (arith, e, q))))
of_two_alone sp np sq nq i k j (inr (inr h)) le q a b c d = absurd (omega (arith, h, le, q))

-- an item, or one after another with commas between them
of_list : {A : Type 0} (p : Phrase A) (ts : List Lexeme) {i j : ℕ} {xs : List A} → nullable p ≡ false → is_determined (listed p) ≡ true
    → ((m k : ℕ) (x : A) → Spells ts p m k x → Begins p ts m k) → ((m k : ℕ) (x : A) → Spells ts p m k x → Seconds p ts m k)
    → SpellsList (Spells ts p) ts i j xs → Seconds (listed p) ts i j
of_list p ts n w f g (last {i} {j} {x} a) = let c = g i j x a in record {
  alone = c.alone;
  known = λ h. in_former (second p) (if_so (single p) (exactly (Punctuation Comma) ∷ [])) (kind_at ts (suc i)) (c.known h);
}
of_list p ts n w f g (more {i} {k} {j} {x} {xs} a h r) =
    let b = f i k x a in let c = g i k x a in
    let lt : i < k = b.filled n in
    let gt : suc k < j = (begins (listed p) ts (suc k) j xs w r).filled refl in
    let commas = if_so (single p) (exactly (Punctuation Comma) ∷ []) in record {
      alone = λ e. absurd (omega (arith, e, lt, gt));
      known = λ q. elim (at_least (suc i) k lt) [
        | inl z ↦ in_former (second p) commas (kind_at ts (suc i)) (c.known z)
        | inr e ↦ in_latter (second p) commas (kind_at ts (suc i)) (if_true (single p) (exactly (Punctuation Comma) ∷ []) (kind_at ts (suc i)) (c.alone e) (in_first (exactly (Punctuation Comma)) [] (kind_at ts (suc i)) (is_exactly (Punctuation Comma) (kind_at ts (suc i)) (ap (kind_at ts) (sym e) ∙ h))))
      ];
    }

-- any number of them
of_many : {A : Type 0} (p : Phrase A) (ts : List Lexeme) {i j : ℕ} {xs : List A} → nullable p ≡ false → is_determined (many p) ≡ true
    → ((m k : ℕ) (x : A) → Spells ts p m k x → Begins p ts m k) → ((m k : ℕ) (x : A) → Spells ts p m k x → Seconds p ts m k)
    → SpellsRepeated (Spells ts p) i j xs → Seconds (many p) ts i j
of_many p ts n w f g (no_more {i}) = record { alone = λ e. absurd (omega (arith, e)); known = λ h. absurd (omega (arith, h)) }
of_many p ts n w f g (one_more {i} {k} {j} {x} {xs} a r) =
    let b = f i k x a in let c = g i k x a in let d = begins (many p) ts k j xs w r in
    let lt : i < k = b.filled n in
    let le : k ≤ j = d.le in record {
      alone = λ e. c.alone (omega (arith, e, lt, le));
      known = λ h. elim (at_least (suc i) k lt) [
        | inl z ↦ in_former (second p) (if_so (single p) (first p)) (kind_at ts (suc i)) (c.known z)
        | inr e ↦ in_latter (second p) (if_so (single p) (first p)) (kind_at ts (suc i)) (if_true (single p) (first p) (kind_at ts (suc i)) (c.alone e) (subst (λ z. in_any (first p) (kind_at ts z) ≡ true) e (d.known (omega (arith, e, h)))))
      ];
    }

pub seconds : {A : Type 0} (p : Phrase A) (ts : List Lexeme) (i j : ℕ) (x : A) → is_determined p ≡ true → Spells ts p i j x → Seconds p ts i j
seconds (gives y) ts i j x w s = record { alone = λ e. absurd (omega (arith, e, s.0)); known = λ h. absurd (omega (arith, h, s.0)) }
seconds (p ▹ t) ts i j x w s =
    let v = (of_token p t w).0 in let b = begins p ts i s.0 x v s.1 in let c = seconds p ts i s.0 x v s.1 in record {
      alone = λ e. empty_nullable p ts i s.0 b (omega (arith, e, s.3));
      known = λ h. elim (stages i s.0 b.le) [
        | inl e ↦ absurd (omega (arith, e, h, s.3))
        | inr f ↦ elim f [
          | inl e ↦ in_latter (second p) (if_so (single p) (exactly t ∷ [])) (kind_at ts (suc i)) (if_true (single p) (exactly t ∷ []) (kind_at ts (suc i)) (c.alone e) (in_first (exactly t) [] (kind_at ts (suc i)) (is_exactly t (kind_at ts (suc i)) (ap (kind_at ts) (sym e) ∙ s.2))))
          | inr g ↦ in_former (second p) (if_so (single p) (exactly t ∷ [])) (kind_at ts (suc i)) (c.known g)
        ]
      ];
    }
seconds (p ⊛ q) ts i j x w s =
    let v = of_two p q w in
    let b = begins p ts i s.0 s.1 v.0 s.3 in let c = begins q ts s.0 j s.2 v.1 s.4 in
    let f = seconds p ts i s.0 s.1 v.0 s.3 in let g = seconds q ts s.0 j s.2 v.1 s.4 in
    let rest = if_so (single p) (first q) ++ if_so (nullable p) (second q) in
    let k = kind_at ts (suc i) in record {
      alone = λ e. of_two_alone (single p) (nullable p) (single q) (nullable q) i s.0 j (stages i s.0 b.le) c.le e (empty_nullable p ts i s.0 b) f.alone (empty_nullable q ts s.0 j c) g.alone;
      known = λ h. elim (stages i s.0 b.le) [
        | inl e ↦ in_latter (second p) rest k (in_latter (if_so (single p) (first q)) (if_so (nullable p) (second q)) k (if_true (nullable p) (second q) k (empty_nullable p ts i s.0 b e) (subst (λ z. in_any (second q) (kind_at ts (suc z)) ≡ true) e (g.known (omega (arith, e, h))))))
        | inr z ↦ elim z [
          | inl e ↦ in_latter (second p) rest k (in_former (if_so (single p) (first q)) (if_so (nullable p) (second q)) k (if_true (single p) (first q) k (f.alone e) (subst (λ z. in_any (first q) (kind_at ts z) ≡ true) e (c.known (omega (arith, e, h))))))
          | inr u ↦ in_former (second p) rest k (f.known u)
        ]
      ];
    }
seconds (p ∣ q) ts i j x w s =
    let v = of_choice p q w in
    elim s [
      | inl d ↦ (let b = seconds p ts i j x v.0 d in record {
        alone = λ e. or_left (single p) (single q) (b.alone e);
        known = λ h. in_former (second p) (second q) (kind_at ts (suc i)) (b.known h);
      })
      | inr d ↦ (let b = seconds q ts i j x v.1 d in record {
        alone = λ e. or_right (single p) (single q) (b.alone e);
        known = λ h. in_latter (second p) (second q) (kind_at ts (suc i)) (b.known h);
      })
    ]
seconds (listed p) ts i j x w s =
    let v = (of_listed p w).0 in let n = not-true (nullable p) (of_listed p w).1 in
    of_list p ts n w (λ m k y d. begins p ts m k y v d) (λ m k y d. seconds p ts m k y v d) s
seconds (many p) ts i j x w s =
    let v = (of_repeated p w).0 in let n = not-true (nullable p) (of_repeated p w).1 in
    of_many p ts n w (λ m k y d. begins p ts m k y v d) (λ m k y d. seconds p ts m k y v d) s
seconds (word_of table) ts i j x w s = record { alone = λ e. refl; known = λ h. absurd (omega (arith, h, s.1)) }
seconds name ts i j x w s = record { alone = λ e. refl; known = λ h. absurd (omega (arith, h, s.1)) }
seconds number ts i j x w s = record { alone = λ e. refl; known = λ h. absurd (omega (arith, h, s.2)) }
seconds expr ts i j x w s = of_expr expr ts i j x refl refl s
seconds sort_key_expression ts i j x w s = of_expr sort_key_expression ts i j x refl refl s.0
seconds (clause source) ts i j x w s = of_expr (clause source) ts i j x.expression refl refl s.0
