-- Lines of a script, taken apart at the first byte that no name has.
use Rattle.std.proofs.Common.{◌≡◌, ◌≢◌, ◌<◌, ◌+◌, ◌∙◌, ◌&&◌, ◌==◌, ℕ, suc, Bool, true, false, not, List, [], ◌∷◌, ◌++◌, length, get_or, drop, Option, Some, None, MatchOption, refl, sym, ap, subst, arith}
use Rattle.std.specs.Prelude.{codes}
use Rattle.std.specs.Borrow.{Bor}
use Rattle.std.specs.List.{list_all}
use Rattle.std.specs.Str.Pattern.{FindsTextPrefix}
use Rattle.std.proofs.lemmas.List.Sums.{AllPass-from_list_all}
use Rattle.std.proofs.lemmas.Str.Pattern.{IsSplitOnceResult, split_after, split_parts}
use Rattle.wire.specs.ScriptLine.{is_name_byte, is_session_name, Request, Spells, empty, comment, opening, asking, closing}

both_true : (a b : Bool) → (a && b) ≡ true → (a ≡ true) × (b ≡ true)
both_true true b h = (refl, h)
both_true false b h = cc

pub all_name_bytes : (name : List ℕ) → is_session_name name ≡ true → list_all is_name_byte name ≡ true
all_name_bytes name h = (both_true (not (length name == 0)) (list_all is_name_byte name) h).1

apart : (b c : ℕ) → is_name_byte b ≡ true → is_name_byte c ≡ false → b ≢ c
apart b c p q e = let g : is_name_byte b ≡ is_name_byte c = ap is_name_byte e in cc

-- a name has no byte that no name has
lacks : (name : List ℕ) (c : ℕ) → is_session_name name ≡ true → is_name_byte c ≡ false → (i : ℕ) → i < length name → get_or name i 0 ≢ c
lacks name c h odd i lt = apart (get_or name i 0) c (AllPass-from_list_all is_name_byte name (all_name_bytes name h) i 0 lt) odd

pub no_split : (c : ℕ) (text : List ℕ) (r : Option (Bor (List ℕ) × Bor (List ℕ))) → IsSplitOnceResult c text r → c < 128 → is_name_byte c ≡ false → r ≡ None
    → (name rest : List ℕ) → is_session_name name ≡ true → text ≢ name ++ c ∷ rest
no_split c text r result lt odd is name rest named e =
    subst (λ r. MatchOption r ⊥ (λ x. (x.0.now ≡ name) × (x.1.now ≡ rest))) is (split_after c text name rest r result lt e (lacks name c named odd))

pub other_split : (c : ℕ) (text : List ℕ) (r : Option (Bor (List ℕ) × Bor (List ℕ))) (x : Bor (List ℕ) × Bor (List ℕ)) → IsSplitOnceResult c text r → c < 128 → is_name_byte c ≡ false → r ≡ Some x
    → is_session_name x.0.now ≡ false → (name rest : List ℕ) → is_session_name name ≡ true → text ≢ name ++ c ∷ rest
other_split c text r x result lt odd is unnamed name rest named e =
    let parts = subst (λ r. MatchOption r ⊥ (λ x. (x.0.now ≡ name) × (x.1.now ≡ rest))) is (split_after c text name rest r result lt e (lacks name c named odd)) in
    let g : is_session_name x.0.now ≡ is_session_name name = ap is_session_name parts.0 in cc

pub split_at : (c : ℕ) (text : List ℕ) (r : Option (Bor (List ℕ) × Bor (List ℕ))) (x : Bor (List ℕ) × Bor (List ℕ)) → IsSplitOnceResult c text r → c < 128 → r ≡ Some x → text ≡ x.0.now ++ c ∷ x.1.now
split_at c text r x result lt is =
    (subst (λ r. MatchOption r ((i : ℕ) → i < length text → get_or text i 0 ≢ c) (λ x. (text ≡ x.0.now ++ (c ∷ x.1.now)) × ((i : ℕ) → i < length x.0.now → get_or x.0.now i 0 ≢ c))) is (split_parts c text r result lt)).0

pub strip_text : (p s : List ℕ) (r : Option (Bor (List ℕ)))
    → MatchOption r (FindsTextPrefix p s None) (λ x. (n : ℕ) × FindsTextPrefix p s (Some n) × (x.now ≡ drop n s) × (length x.now + n ≡ length s))
    → MatchOption r ((rest : List ℕ) → s ≢ p ++ rest) (λ x. s ≡ p ++ x.now)
strip_text p s None h = λ rest. h rest
strip_text p s (Some x) h = h.1.1 ∙ ap (λ z. p ++ z) (sym h.2)

-- ---- invalid lines

-- what precedes the first byte that no name has, that byte, and what follows it
cons_same : {x y : ℕ} {xs ys : List ℕ} → x ≡ y → xs ≡ ys → x ∷ xs ≡ y ∷ ys
cons_same p q = cc

pub words : (xs ys : List ℕ) (c d : ℕ) (r s : List ℕ) → list_all is_name_byte xs ≡ true → list_all is_name_byte ys ≡ true → is_name_byte c ≡ false → is_name_byte d ≡ false
    → xs ++ c ∷ r ≡ ys ++ d ∷ s → (xs ≡ ys) × (c ≡ d) × (r ≡ s)
words [] [] c d r s p q m n e = (refl, cons_head e, cons_tail e) where
  cons_head : c ∷ r ≡ d ∷ s → c ≡ d
  cons_head e = cc

  cons_tail : c ∷ r ≡ d ∷ s → r ≡ s
  cons_tail e = cc
words [] (y ∷ ys) c d r s p q m n e = absurd (apart y c (both_true (is_name_byte y) (list_all is_name_byte ys) q).0 m cc)
words (x ∷ xs) [] c d r s p q m n e = absurd (apart x d (both_true (is_name_byte x) (list_all is_name_byte xs) p).0 n cc)
words (x ∷ xs) (y ∷ ys) c d r s p q m n e =
    let rest : xs ++ c ∷ r ≡ ys ++ d ∷ s = cc in
    let found = words xs ys c d r s (both_true (is_name_byte x) (list_all is_name_byte xs) p).1 (both_true (is_name_byte y) (list_all is_name_byte ys) q).1 m n rest in
    let heads : x ≡ y = cc in
    (cons_same heads found.0, found.1, found.2)

-- a line that begins with a word and a space is no statement
pub no_asking : (word : List ℕ) (rest : List ℕ) (line : List ℕ) → list_all is_name_byte word ≡ true → line ≡ word ++ 32 ∷ rest
    → (name text : List ℕ) → is_session_name name ≡ true → line ≢ name ++ 58 ∷ 32 ∷ text
no_asking word rest line all is name text named e =
    let found = words word name 32 58 rest (32 ∷ text) all (all_name_bytes name named) refl refl (sym is ∙ e) in
    let g : 32 ≡ 58 = found.1 in
    absurd (omega (arith, g))

-- a line that has none of the forms is invalid
pub never : (line : List ℕ) → line ≢ [] → ((rest : List ℕ) → line ≢ codes "#" ++ rest)
    → ((name login : List ℕ) → is_session_name name ≡ true → line ≢ codes "open " ++ (name ++ (codes " " ++ login)))
    → ((name text : List ℕ) → is_session_name name ≡ true → line ≢ name ++ (codes ": " ++ text))
    → ((name : List ℕ) → is_session_name name ≡ true → line ≢ codes "close " ++ name)
    → (s : Request) → Spells line s → ⊥
never line a b c d f s (empty e) = a e
never line a b c d f s (comment {rest} e) = b rest e
never line a b c d f s (opening {name} {login} n e) = c name login n e
never line a b c d f s (asking {name} {text} n e) = d name text n e
never line a b c d f s (closing {name} n e) = f name n e

abbrev pub head_of : List ℕ → ℕ
head_of [] = 0
head_of (x ∷ xs) = x

abbrev pub behind_five : List ℕ → List ℕ
behind_five (a ∷ b ∷ c ∷ d ∷ e ∷ rest) = rest
behind_five _ = []

abbrev pub behind_six : List ℕ → List ℕ
behind_six (a ∷ b ∷ c ∷ d ∷ e ∷ f ∷ rest) = rest
behind_six _ = []

-- "open " and no name that a space follows
pub no_opening : (line rest : List ℕ) → line ≡ codes "open " ++ rest → ((name login : List ℕ) → is_session_name name ≡ true → rest ≢ name ++ 32 ∷ login) → (s : Request) → Spells line s → ⊥
no_opening line rest is none =
    never line (λ e. let g : 111 ≡ 0 = ap head_of (sym is ∙ e) in absurd (omega (arith, g))) (λ r e. let g : 111 ≡ 35 = ap head_of (sym is ∙ e) in absurd (omega (arith, g)))
    (λ name login n e. none name login n (ap behind_five (sym is ∙ e)))
    (no_asking (codes "open") rest line refl is)
    (λ name n e. let g : 111 ≡ 99 = ap head_of (sym is ∙ e) in absurd (omega (arith, g)))

-- "close " and what is no name
pub no_closing : (line rest : List ℕ) → line ≡ codes "close " ++ rest → is_session_name rest ≡ false → (s : Request) → Spells line s → ⊥
no_closing line rest is unnamed =
    never line (λ e. let g : 99 ≡ 0 = ap head_of (sym is ∙ e) in absurd (omega (arith, g))) (λ r e. let g : 99 ≡ 35 = ap head_of (sym is ∙ e) in absurd (omega (arith, g)))
    (λ name login n e. let g : 99 ≡ 111 = ap head_of (sym is ∙ e) in absurd (omega (arith, g)))
    (no_asking (codes "close") rest line refl is)
    (λ name n e. let g : is_session_name rest ≡ is_session_name name = ap is_session_name (ap behind_six (sym is ∙ e)) in cc)

-- neither begins with a keyword nor is a name that a colon and a space follow
pub no_line : (line : List ℕ) → line ≢ [] → ((rest : List ℕ) → line ≢ codes "#" ++ rest) → ((rest : List ℕ) → line ≢ codes "open " ++ rest) → ((rest : List ℕ) → line ≢ codes "close " ++ rest)
    → ((name text : List ℕ) → is_session_name name ≡ true → line ≢ name ++ 58 ∷ 32 ∷ text) → (s : Request) → Spells line s → ⊥
no_line line a b c d none = never line a b (λ name login n e. c (name ++ (codes " " ++ login)) e) (λ name text n e. none name text n e) (λ name n e. d name e)

-- a name and a colon that no space follows
pub no_space : (line name rest : List ℕ) → line ≡ name ++ 58 ∷ rest → is_session_name name ≡ true → ((text : List ℕ) → rest ≢ 32 ∷ text)
    → (other text : List ℕ) → is_session_name other ≡ true → line ≢ other ++ 58 ∷ 32 ∷ text
no_space line name rest is named none other text n e =
    none text (words name other 58 58 rest (32 ∷ text) (all_name_bytes name named) (all_name_bytes other n) refl refl (sym is ∙ e)).2

-- ---- what a line begins with

pub strips_none : (p s : List ℕ) (r : Option (Bor (List ℕ)))
    → MatchOption r (FindsTextPrefix p s None) (λ x. (n : ℕ) × FindsTextPrefix p s (Some n) × (x.now ≡ drop n s) × (length x.now + n ≡ length s))
    → ((x : Bor (List ℕ)) → r ≢ Some x) → (rest : List ℕ) → s ≢ p ++ rest
strips_none p s None h none = strip_text p s None h
strips_none p s (Some x) h none = absurd (none x refl)

pub begins : (line : List ℕ) (byte : ℕ) → get_or line 0 0 ≡ suc byte → line ≡ suc byte ∷ drop 1 line
begins [] byte e = absurd (omega (arith, e))
begins (x ∷ xs) byte e = cons_same e refl

pub begins_not : (line rest : List ℕ) (byte : ℕ) → (get_or line 0 0 ≡ byte → ⊥) → line ≢ byte ∷ rest
begins_not line rest byte never e = never (ap (λ xs. get_or xs 0 0) e)

pub no_bytes : (line : List ℕ) → length line ≡ 0 → line ≡ []
no_bytes [] e = refl
no_bytes (x ∷ xs) e = absurd (omega (arith, e))
