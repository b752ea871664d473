-- The tokens of a text with blanks in place of some of them: the others.
use Rattle.std.proofs.Common.{◌≡◌, ℕ, zero, suc, ◌+◌, ◌-◌, ◌<◌, ◌≤◌, List, [], ◌∷◌, ◌++◌, length, take, drop, get_or, refl, sym, ap, subst, ◌∙◌, arith, Bool, true, false, Result, Ok, Err, length-drop}
use Rattle.std.specs.Prelude.{slice_range, replicate}
use Rattle.std.proofs.lemmas.List.{drop-drop, drop-take, drop_more, drop_at, drop-append-le, take-append-le, length-take-le, length-append, length-replicate}
use Rattle.std.proofs.lemmas.List.Folds.{drop_split}
use Rattle.sql_types.specs.declared.state.SqlState.{SqlState}
use Rattle.sql_lexer.specs.declared.class.Class.TheVariants as class
use Rattle.sql_lexer.specs.declared.lex_step.LexStep.{LexStep}
use Rattle.sql_lexer.specs.declared.lex_step.LexStep.TheVariants.{Skipped, Lexed}
use Rattle.sql_lexer.specs.declared.token.TokenKind.{TokenKind}
use Rattle.sql_lexer.specs.Class.{is_in}
use Rattle.sql_lexer.specs.LexStep.{step}
use Rattle.sql_lexer.specs.Lexeme.{Lexeme, end_of}
use Rattle.sql_lexer.specs.Lexing.{LexesFrom, Lexes, at_end, skipped, lexed, refused}
use Rattle.select_labels.specs.Marks.{marked, unmarked}
use Rattle.select_labels.specs.Unlabelled.{blanked}
use Rattle.select_labels.proofs.Followed.{Same, twins, begins_in_line, lexed_some, skipped_some}

same_items : {us ts : List Lexeme} {r : Result (List Lexeme) SqlState} → r ≡ Ok us → r ≡ Ok ts → us ≡ ts
same_items e f = cc

no_items : {A : Type 0} {s : SqlState} {ts : List Lexeme} → Err s ≡ Ok ts → A
no_items e = absurd (cc)

-- the token of these bytes
abbrev token_of : List ℕ → ℕ → TokenKind → ℕ → Lexeme
token_of z at k n = record { kind = k; bytes = take n (drop at z); start = at }

marked_nil : (ms : List Bool) → marked ms [] ≡ []
marked_nil [] = refl
marked_nil (m ∷ ms) = refl

unmarked_nil : (ms : List Bool) → unmarked ms [] ≡ []
unmarked_nil [] = refl
unmarked_nil (m ∷ ms) = refl

-- what a step takes
record Taken (z : List ℕ) (at n : ℕ) : Type 0 where
  some : 0 < n
  fits : at + n ≤ length z
  long : length (take n (drop at z)) ≡ n

-- a text lexes from places within it
within : {z : List ℕ} {at : ℕ} {r : Result (List Lexeme) SqlState} → LexesFrom z at r → at ≤ length z
within (at_end h) = omega (arith, h)
within (skipped g h d) = omega (arith, g)
within (lexed g h d) = omega (arith, g)
within (refused g h) = omega (arith, g)

lexed_taken : (z : List ℕ) (at : ℕ) (k : TokenKind) (n : ℕ) → at < length z → step (drop at z) ≡ Lexed k n → at + n ≤ length z → Taken z at n
lexed_taken z at k n lt h fits = record {
  some = lexed_some (get_or z at 0) (drop (at + 1) z) k n (sym (ap step (drop_more z at 0 lt)) ∙ h);
  fits = fits;
  long = length-take-le n (drop at z) (omega (arith, fits, length-drop at z));
}

skipped_taken : (z : List ℕ) (at n : ℕ) → at < length z → step (drop at z) ≡ Skipped n → at + n ≤ length z → Taken z at n
skipped_taken z at n lt h fits = record {
  some = skipped_some (get_or z at 0) (drop (at + 1) z) n (sym (ap step (drop_more z at 0 lt)) ∙ h);
  fits = fits;
  long = length-take-le n (drop at z) (omega (arith, fits, length-drop at z));
}

-- ---- what lies ahead

-- a token of some bytes, with the first a byte that ends no comment
record Begins (z : List ℕ) (l : Lexeme) : Type 0 where
  first : ℕ
  rest : List ℕ
  here : drop l.start z ≡ first ∷ rest
  line : is_in class.Line first ≡ true
  some : 0 < length l.bytes

-- the first of tokens stands from a place on
abbrev Ahead : List ℕ → ℕ → List Lexeme → Type 0
Ahead z at [] = Unit {0}
Ahead z at (l ∷ ls) = (at ≤ l.start) × Begins z l

earlier : (z : List ℕ) (at n : ℕ) (ls : List Lexeme) → Ahead z (at + n) ls → Ahead z at ls
earlier z at n [] a = tt
earlier z at n (l ∷ ls) a = (omega (arith, a.0), a.1)

begins : (z : List ℕ) (at : ℕ) (k : TokenKind) (n : ℕ) → at < length z → step (drop at z) ≡ Lexed k n → Taken z at n → Begins z (token_of z at k n)
begins z at k n lt h t =
    let here : drop at z ≡ get_or z at 0 ∷ drop (at + 1) z = drop_more z at 0 lt in
    record {
      first = get_or z at 0;
      rest = drop (at + 1) z;
      here = here;
      line = begins_in_line (get_or z at 0) (drop (at + 1) z) k n (sym (ap step here) ∙ h);
      some = omega (arith, t.some, t.long);
    }

ahead : {z : List ℕ} {at : ℕ} {r : Result (List Lexeme) SqlState} → LexesFrom z at r → (ts : List Lexeme) → r ≡ Ok ts → (ms : List Bool) → Ahead z at (marked ms ts)
ahead {z} (at_end {at = at} h) ts e ms =
    let none : [] ≡ ts = cc in
    subst (Ahead z at) (sym (marked_nil ms) ∙ ap (marked ms) none) tt
ahead {z} (skipped {at = at} {n = n} g h d) ts e ms = earlier z at n (marked ms ts) (ahead d ts e ms)
ahead {z} (lexed {at = at} {n = n} {k = k} {r = Ok us} g h d) ts e ms =
    let same : token_of z at k n ∷ us ≡ ts = same_items refl e in
    subst (λ us. Ahead z at (marked ms us)) same (of (ahead d us refl) ms)
  where
    of : ((ms : List Bool) → Ahead z (at + n) (marked ms us)) → (ms : List Bool) → Ahead z at (marked ms (token_of z at k n ∷ us))
    of later [] = tt
    of later (false ∷ ms) = earlier z at n (marked ms us) (later ms)
    of later (true ∷ ms) = (omega arith, begins z at k n g h (lexed_taken z at k n g h (within d)))
ahead (lexed {r = Err s} g h d) ts e ms = no_items e
ahead (refused g h) ts e ms = no_items e

-- ---- a step before a token that is left out

-- a step of the other text is the same, and so is what it takes; behind it stands the other text from there on
record Near (z y : List ℕ) (at n : ℕ) (ls : List Lexeme) : Type 0 where
  skip : step (drop at z) ≡ Skipped n → step (drop at y) ≡ Skipped n
  lex : (k : TokenKind) → step (drop at z) ≡ Lexed k n → step (drop at y) ≡ Lexed k n
  bytes : take n (drop at y) ≡ take n (drop at z)
  rest : drop (at + n) y ≡ blanked z (at + n) ls

first_blank : (n : ℕ) (t : List ℕ) → 0 < n → (s : List ℕ) × (replicate n 32 ++ t ≡ 32 ∷ s)
first_blank zero t some = absurd (omega (arith, some))
first_blank (suc n) t some = (replicate n 32 ++ t, refl)

same_step : (w r s : List ℕ) (c n : ℕ) → is_in class.Line c ≡ true → 0 < n → n ≤ length w → Same (length w) (step (w ++ c ∷ r)) (step (w ++ 32 ∷ s))
same_step [] r s c n line some le = absurd (omega (arith, some, le))
same_step (x ∷ xs) r s c n line some le = twins x xs r s c line

near_end : (z y : List ℕ) (at n : ℕ) → drop at y ≡ drop at z → Near z y at n []
near_end z y at n e = record {
  skip = λ h. ap step e ∙ h;
  lex = λ k h. ap step e ∙ h;
  bytes = ap (take n) e;
  rest = sym (drop-drop n at y) ∙ ap (drop n) e ∙ drop-drop n at z;
}

-- the text up to a token
record Gap (z : List ℕ) (at n : ℕ) (l : Lexeme) : Type 0 where
  long : length (slice_range z at l.start) ≡ l.start - at
  whole : drop at z ≡ slice_range z at l.start ++ drop l.start z
  later : drop n (slice_range z at l.start) ≡ slice_range z (at + n) l.start

gap : (z : List ℕ) (at n : ℕ) (l : Lexeme) → at + n ≤ l.start → Begins z l → Gap z at n l
gap z at n l le b =
    let some : length (drop l.start z) ≡ suc (length b.rest) = ap length b.here in
    let split : l.start - at ≡ n + (l.start - (at + n)) = omega (arith, le) in
    record {
      long = length-take-le (l.start - at) (drop at z) (omega (arith, some, length-drop l.start z, length-drop at z));
      whole = drop_split z at l.start (omega (arith, le));
      later = ap (λ m. drop n (take m (drop at z))) split ∙ drop-take n (l.start - (at + n)) (drop at z) ∙ ap (take (l.start - (at + n))) (drop-drop n at z);
    }

near_token : (z y w r s t : List ℕ) (c at n : ℕ) (l : Lexeme) (ls : List Lexeme) → w ≡ slice_range z at l.start → t ≡ replicate (length l.bytes) 32 ++ blanked z (end_of l) ls → Gap z at n l
    → drop l.start z ≡ c ∷ r → is_in class.Line c ≡ true → t ≡ 32 ∷ s → 0 < n → n ≤ length w → drop at y ≡ w ++ t → Near z y at n (l ∷ ls)
near_token z y w r s t c at n l ls w_is t_is g here line blank some le e =
    let old : drop at z ≡ w ++ c ∷ r = g.whole ∙ ap (λ (v : List ℕ). v ++ drop l.start z) (sym w_is) ∙ ap (λ (v : List ℕ). w ++ v) here in
    let new : drop at y ≡ w ++ 32 ∷ s = e ∙ ap (λ (v : List ℕ). w ++ v) blank in
    let same : Same (length w) (step (w ++ c ∷ r)) (step (w ++ 32 ∷ s)) = same_step w r s c n line some le in
    record {
      skip = λ h.
          let f : step (w ++ c ∷ r) ≡ Skipped n = sym (ap step old) ∙ h in
          ap step new ∙ subst (λ (f : LexStep). Same (length w) f (step (w ++ 32 ∷ s))) f same le;
      lex = λ k h.
          let f : step (w ++ c ∷ r) ≡ Lexed k n = sym (ap step old) ∙ h in
          ap step new ∙ subst (λ (f : LexStep). Same (length w) f (step (w ++ 32 ∷ s))) f same le;
      bytes = ap (take n) e ∙ take-append-le n w t le ∙ sym (take-append-le n w (c ∷ r) le) ∙ sym (ap (take n) old);
      rest =
          sym (drop-drop n at y) ∙ ap (drop n) e ∙ drop-append-le n w t le
          ∙ ap (λ (v : List ℕ). v ++ t) (ap (drop n) w_is ∙ g.later) ∙ ap (λ (v : List ℕ). slice_range z (at + n) l.start ++ v) t_is;
    }

near : (z y : List ℕ) (at n : ℕ) (ls : List Lexeme) → 0 < n → Ahead z (at + n) ls → drop at y ≡ blanked z at ls → Near z y at n ls
near z y at n [] some a e = near_end z y at n e
near z y at n (l ∷ ls) some a e =
    let g = gap z at n l a.0 a.1 in
    let t = replicate (length l.bytes) 32 ++ blanked z (end_of l) ls in
    let b = first_blank (length l.bytes) (blanked z (end_of l) ls) a.1.some in
    near_token z y (slice_range z at l.start) a.1.rest b.0 t a.1.first at n l ls refl refl g a.1.here a.1.line b.1 some (omega (arith, a.0, g.long)) e

-- ---- blanks

blank_step : (v : List ℕ) → step (32 ∷ v) ≡ Skipped 1
unfolding step
blank_step v = refl

blanks : (n : ℕ) (y rest : List ℕ) (at : ℕ) (r : Result (List Lexeme) SqlState) → drop at y ≡ replicate n 32 ++ rest → LexesFrom y (at + n) r → LexesFrom y at r
blanks zero y rest at r e d = let same : at + 0 ≡ at = omega arith in subst (λ m. LexesFrom y m r) same d
blanks (suc n) y rest at r e d =
    let long : length (drop at y) ≡ suc (length (replicate n 32 ++ rest)) = ap length e in
    let place : at + suc n ≡ at + 1 + n = omega arith in
    let behind : drop (at + 1) y ≡ replicate n 32 ++ rest = sym (drop-drop 1 at y) ∙ ap (drop 1) e in
    skipped (omega (arith, long, length-drop at y)) (ap step e ∙ blank_step (replicate n 32 ++ rest))
    (blanks n y rest (at + 1) r behind (subst (λ m. LexesFrom y m r) place d))

-- a token that is left out is blanks
record Blanked (z y : List ℕ) (at n : ℕ) (ls : List Lexeme) : Type 0 where
  blank : drop at y ≡ replicate n 32 ++ blanked z (at + n) ls
  rest : drop (at + n) y ≡ blanked z (at + n) ls

blanked_here : (z y : List ℕ) (at n : ℕ) (k : TokenKind) (ls : List Lexeme) → Taken z at n → drop at y ≡ blanked z at (token_of z at k n ∷ ls) → Blanked z y at n ls
blanked_here z y at n k ls t e =
    let none : at - at ≡ 0 = omega arith in
    let start : slice_range z at at ≡ [] = ap (λ m. take m (drop at z)) none in
    let blank : drop at y ≡ replicate n 32 ++ blanked z (at + n) ls =
    e ∙ ap (λ (v : List ℕ). v ++ (replicate (length (take n (drop at z))) 32 ++ blanked z (at + length (take n (drop at z))) ls)) start
    ∙ ap (λ m. replicate m 32 ++ blanked z (at + m) ls) t.long in
    record {
      blank = blank;
      rest = sym (drop-drop n at y) ∙ ap (drop n) blank ∙ drop_at (replicate n 32) (blanked z (at + n) ls) n (length-replicate n 32);
    }

-- ---- the whole

keeps : (z y : List ℕ) (at n : ℕ) (k : TokenKind) (ls us : List Lexeme) → at < length y → step (drop at z) ≡ Lexed k n → Near z y at n ls → LexesFrom y (at + n) (Ok us) → LexesFrom y at (Ok (token_of z at k n ∷ us))
keeps z y at n k ls us lt h q d =
    subst (λ (w : List ℕ). LexesFrom y at (Ok (record { kind = k; bytes = w; start = at } ∷ us))) q.bytes (lexed lt (q.lex k h) d)

unlabels : {z : List ℕ} {at : ℕ} {r : Result (List Lexeme) SqlState} → LexesFrom z at r → (ts : List Lexeme) → r ≡ Ok ts → (ms : List Bool) (y : List ℕ) → length y ≡ length z
    → drop at y ≡ blanked z at (marked ms ts) → LexesFrom y at (Ok (unmarked ms ts))
unlabels {z} (at_end {at = at} h) ts e ms y long b =
    let none : [] ≡ ts = cc in
    subst (λ us. LexesFrom y at (Ok us)) (sym (unmarked_nil ms) ∙ ap (unmarked ms) none) (at_end (h ∙ sym long))
unlabels {z} (skipped {at = at} {n = n} g h d) ts e ms y long b =
    let q = near z y at n (marked ms ts) (skipped_taken z at n g h (within d)).some (ahead d ts e ms) b in
    skipped (omega (arith, g, long)) (q.skip h) (unlabels d ts e ms y long q.rest)
unlabels {z} (lexed {at = at} {n = n} {k = k} {r = Ok us} g h d) ts e ms y long b =
    let same : token_of z at k n ∷ us ≡ ts = same_items refl e in
    subst (λ us. LexesFrom y at (Ok (unmarked ms us))) same
    (of (λ ms. ahead d us refl ms) (λ ms q. unlabels d us refl ms y long q) ms (b ∙ ap (λ us. blanked z at (marked ms us)) (sym same)))
  where
    of : ((ms : List Bool) → Ahead z (at + n) (marked ms us)) → ((ms : List Bool) → drop (at + n) y ≡ blanked z (at + n) (marked ms us) → LexesFrom y (at + n) (Ok (unmarked ms us)))
        → (ms : List Bool) → drop at y ≡ blanked z at (marked ms (token_of z at k n ∷ us)) → LexesFrom y at (Ok (unmarked ms (token_of z at k n ∷ us)))
    of before later [] b =
        let q = near z y at n [] (lexed_taken z at k n g h (within d)).some tt b in
        keeps z y at n k [] us (omega (arith, g, long)) h q (later [] q.rest)
    of before later (false ∷ ms) b =
        let q = near z y at n (marked ms us) (lexed_taken z at k n g h (within d)).some (before ms) b in
        keeps z y at n k (marked ms us) (unmarked ms us) (omega (arith, g, long)) h q (later ms q.rest)
    of before later (true ∷ ms) b =
        let q = blanked_here z y at n k (marked ms us) (lexed_taken z at k n g h (within d)) b in
        blanks n y (blanked z (at + n) (marked ms us)) at (Ok (unmarked ms us)) q.blank (later ms q.rest)
unlabels (lexed {r = Err s} g h d) ts e ms y long b = no_items e
unlabels (refused g h) ts e ms y long b = no_items e

-- ---- how long the text is

-- tokens of a text, one behind the other
abbrev InOrder : List ℕ → ℕ → List Lexeme → Type 0
InOrder z at [] = at ≤ length z
InOrder z at (l ∷ ls) = (at ≤ l.start) × InOrder z (end_of l) ls

order_before : (z : List ℕ) (at n : ℕ) (ls : List Lexeme) → InOrder z (at + n) ls → InOrder z at ls
order_before z at n [] o = omega (arith, o)
order_before z at n (l ∷ ls) o = (omega (arith, o.0), o.1)

order_within : (z : List ℕ) (at : ℕ) (ls : List Lexeme) → InOrder z at ls → at ≤ length z
order_within z at [] o = o
order_within z at (l ∷ ls) o = omega (arith, o.0, order_within z (end_of l) ls o.1)

in_order : {z : List ℕ} {at : ℕ} {r : Result (List Lexeme) SqlState} → LexesFrom z at r → (ts : List Lexeme) → r ≡ Ok ts → (ms : List Bool) → InOrder z at (marked ms ts)
in_order {z} (at_end {at = at} h) ts e ms =
    let none : [] ≡ ts = cc in
    let within : at ≤ length z = omega (arith, h) in
    subst (InOrder z at) (sym (marked_nil ms) ∙ ap (marked ms) none) within
in_order {z} (skipped {at = at} {n = n} g h d) ts e ms = order_before z at n (marked ms ts) (in_order d ts e ms)
in_order {z} (lexed {at = at} {n = n} {k = k} {r = Ok us} g h d) ts e ms =
    let same : token_of z at k n ∷ us ≡ ts = same_items refl e in
    subst (λ us. InOrder z at (marked ms us)) same (of (in_order d us refl) ms)
  where
    of : ((ms : List Bool) → InOrder z (at + n) (marked ms us)) → (ms : List Bool) → InOrder z at (marked ms (token_of z at k n ∷ us))
    of later [] = omega (arith, g)
    of later (false ∷ ms) = order_before z at n (marked ms us) (later ms)
    of later (true ∷ ms) =
        let t = lexed_taken z at k n g h (within d) in
        (omega arith, subst (λ m. InOrder z (at + m) (marked ms us)) (sym t.long) (later ms))
in_order (lexed {r = Err s} g h d) ts e ms = no_items e
in_order (refused g h) ts e ms = no_items e

pub blanked_length : (z : List ℕ) (at : ℕ) (ls : List Lexeme) → InOrder z at ls → length (blanked z at ls) + at ≡ length z
blanked_length z at [] o = omega (arith, o, length-drop at z)
blanked_length z at (l ∷ ls) o =
    let w : List ℕ = slice_range z at l.start in
    let b : List ℕ = replicate (length l.bytes) 32 in
    let r : List ℕ = blanked z (end_of l) ls in
    let long : length b ≡ length l.bytes = length-replicate (length l.bytes) 32 in
    let within = order_within z (end_of l) ls o.1 in
    let gap : length w ≡ l.start - at = length-take-le (l.start - at) (drop at z) (omega (arith, o.0, within, length-drop at z)) in
    omega (arith, o.0, within, gap, length-append w (b ++ r), length-append b r, long, blanked_length z (end_of l) ls o.1)

-- the others are the tokens of the text with blanks in place of those with a mark
pub marked_are_blank : (z : List ℕ) (ts : List Lexeme) (ms : List Bool) → Lexes z (Ok ts) → Lexes (blanked z 0 (marked ms ts)) (Ok (unmarked ms ts))
marked_are_blank z ts ms d =
    let long = blanked_length z 0 (marked ms ts) (in_order d ts refl ms) in
    unlabels d ts refl ms (blanked z 0 (marked ms ts)) (omega (arith, long)) refl

pub marked_are_as_long : (z : List ℕ) (ts : List Lexeme) (ms : List Bool) → Lexes z (Ok ts) → length (blanked z 0 (marked ms ts)) ≡ length z
marked_are_as_long z ts ms d = let long = blanked_length z 0 (marked ms ts) (in_order d ts refl ms) in omega (arith, long)
