-- A step of the lexer sees no further than the byte behind what it takes: it is the same where a blank stands there in place of another byte.
use Rattle.std.proofs.Common.{◌≡◌, ℕ, zero, suc, ◌+◌, ◌-◌, ◌<◌, ◌≤◌, List, [], ◌∷◌, ◌++◌, length, take, drop, Option, Some, None, refl, sym, ap, subst, ◌∙◌, arith, Bool, true, false, ⊎_elim}
use Rattle.std.specs.Prelude.{◌==◌, ◌&&◌, ◌||◌, nat_lt, if◌then◌else◌, slice_index}
use Rattle.std.specs.List.{prefix_len}
use Rattle.std.specs.Option.{option_map}
use Rattle.std.specs.Str.{byte}
use Rattle.std.proofs.lemmas.Bool.{and_right, and_parts, cases_Bool, eqb-true}
use Rattle.sql_types.specs.declared.state.SqlState.TheVariants.{NameTooLong, SyntaxError}
use Rattle.sql_lexer.specs.declared.class.Class.TheVariants as class
use Rattle.sql_lexer.specs.declared.lex_step.LexStep.{LexStep}
use Rattle.sql_lexer.specs.declared.lex_step.LexStep.TheVariants.{Skipped, Lexed, Refused}
use Rattle.sql_lexer.specs.declared.token.TokenKind.{TokenKind}
use Rattle.sql_lexer.specs.declared.token.Punctuation.{Punctuation}
use Rattle.sql_lexer.specs.Class.{is_in, skip_while}
use Rattle.sql_lexer.specs.LexStep.{step, word, word_of, number, number_of, number_to, quoted_name, quoted_name_of, quoted_text, quoted_text_of, longest, has_zero}
use Rattle.sql_lexer.specs.Number.{number_value}
use Rattle.sql_lexer.specs.Punctuation.{double_punctuation, single_punctuation}
use Rattle.sql_lexer.specs.Quote.{QuotedBytes, quoted, with_byte, extent}
use Rattle.sql_lexer.specs.Word.{word_kind}

-- f takes m bytes at most, and then g is the same
abbrev pub Same : ℕ → LexStep → LexStep → Type 0
Same m (Skipped n) g = n ≤ m → g ≡ Skipped n
Same m (Lexed k n) g = n ≤ m → g ≡ Lexed k n
Same m (Refused s) g = Unit {0}

itself : (m : ℕ) (f : LexStep) → Same m f f
itself m (Skipped n) = λ le. refl
itself m (Lexed k n) = λ le. refl
itself m (Refused s) = tt

choose : (m : ℕ) (b : Bool) (f g f' g' : LexStep) → (b ≡ true → Same m f f') → (b ≡ false → Same m g g') → Same m (if b then f else g) (if b then f' else g')
choose m true f g f' g' h k = h refl
choose m false f g f' g' h k = k refl

-- the same where the other text has a test of its own
apart : (m : ℕ) (b : Bool) (f g h : LexStep) → (b ≡ true → Same m f h) → (b ≡ false → Same m g h) → Same m (if b then f else g) h
apart m true f g h p q = p refl
apart m false f g h p q = q refl

-- ---- bytes

take_same : (n : ℕ) (w a b : List ℕ) → n ≤ length w → take n (w ++ a) ≡ take n (w ++ b)
take_same zero w a b le = refl
take_same (suc n) [] a b le = absurd (omega (arith, le))
take_same (suc n) (x ∷ w) a b le = ap (λ (l : List ℕ). x ∷ l) (take_same n w a b (omega (arith, le)))

-- what stops at no blank and before the byte behind, stops there
same_prefix : (p : ℕ → Bool) (w r s : List ℕ) (c : ℕ) → p 32 ≡ false → prefix_len p (w ++ c ∷ r) ≤ length w → prefix_len p (w ++ 32 ∷ s) ≡ prefix_len p (w ++ c ∷ r)
same_prefix p [] r s c blank le =
    let none : prefix_len p (32 ∷ s) ≡ 0 = rw blank refl in
    omega (arith, none, le)
same_prefix p (x ∷ w) r s c blank le =
    ⊎_elim
    (λ (t : p x ≡ true).
    let g : 1 + prefix_len p (w ++ c ∷ r) ≤ suc (length w) = rw t at le in
    rw t (ap (λ n. 1 + n) (same_prefix p w r s c blank (omega (arith, g)))))
    (λ (f : p x ≡ false). rw f refl)
    (cases_Bool (p x))

-- what does not stop at the byte behind, and takes no byte of it, stops before
stops_before : (p : ℕ → Bool) (w r s : List ℕ) (c : ℕ) → p c ≡ true → prefix_len p (w ++ c ∷ r) ≤ length w → prefix_len p (w ++ 32 ∷ s) ≡ prefix_len p (w ++ c ∷ r)
stops_before p [] r s c goes le =
    let some : prefix_len p (c ∷ r) ≡ 1 + prefix_len p r = rw goes refl in
    absurd (omega (arith, some, le))
stops_before p (x ∷ w) r s c goes le =
    ⊎_elim
    (λ (t : p x ≡ true).
    let g : 1 + prefix_len p (w ++ c ∷ r) ≤ suc (length w) = rw t at le in
    rw t (ap (λ n. 1 + n) (stops_before p w r s c goes (omega (arith, g)))))
    (λ (f : p x ≡ false). rw f refl)
    (cases_Bool (p x))

-- ---- words

word_twin : (x : ℕ) (xs r s : List ℕ) (c end : ℕ) (b : Bool) → end ≡ skip_while class.Inner (x ∷ xs ++ c ∷ r) 1 → nat_lt 63 end ≡ b
    → Same (suc (length xs)) (if b then Refused NameTooLong else Lexed (word_kind (take end (x ∷ xs ++ c ∷ r))) end) (word (x ∷ xs ++ 32 ∷ s))
word_twin x xs r s c end true is h = tt
word_twin x xs r s c end false is h = λ le.
    let inside : prefix_len (is_in class.Inner) (xs ++ c ∷ r) ≤ length xs = omega (arith, is, le) in
    let ends : skip_while class.Inner (x ∷ xs ++ 32 ∷ s) 1 ≡ end = ap (λ n. 1 + n) (same_prefix (is_in class.Inner) xs r s c refl inside) ∙ sym is in
    ap (word_of (x ∷ xs ++ 32 ∷ s)) ends ∙ (rw h (ap (λ w. Lexed (word_kind w) end) (take_same end (x ∷ xs) (32 ∷ s) (c ∷ r) le)))

same_word : (x : ℕ) (xs r s : List ℕ) (c : ℕ) → Same (suc (length xs)) (word (x ∷ xs ++ c ∷ r)) (word (x ∷ xs ++ 32 ∷ s))
same_word x xs r s c = word_twin x xs r s c (skip_while class.Inner (x ∷ xs ++ c ∷ r) 1) (nat_lt 63 (skip_while class.Inner (x ∷ xs ++ c ∷ r) 1)) refl refl

-- ---- numbers

after_twin : (w r s : List ℕ) (c i : ℕ) → i ≤ length w → is_in class.Start (slice_index (w ++ c ∷ r) i) ≡ false → is_in class.Start (slice_index (w ++ 32 ∷ s) i) ≡ false
after_twin [] r s c zero le h = refl
after_twin [] r s c (suc i) le h = absurd (omega (arith, le))
after_twin (x ∷ w) r s c zero le h = h
after_twin (x ∷ w) r s c (suc i) le h = after_twin w r s c i (omega (arith, le)) h

number_twin : (w r s : List ℕ) (c end : ℕ) (o : Option ℕ) → end ≡ skip_while class.Digit (w ++ c ∷ r) 0 → is_in class.Start (slice_index (w ++ c ∷ r) end) ≡ false → number_value (take end (w ++ c ∷ r)) ≡ o
    → Same (length w) (number_of o end) (number (w ++ 32 ∷ s))
number_twin w r s c end None is off h = tt
number_twin w r s c end (Some v) is off h = λ le.
    let inside : prefix_len (is_in class.Digit) (w ++ c ∷ r) ≤ length w = omega (arith, is, le) in
    let ends : skip_while class.Digit (w ++ 32 ∷ s) 0 ≡ end = ap (λ n. 0 + n) (same_prefix (is_in class.Digit) w r s c refl inside) ∙ sym is in
    let value : number_value (take end (w ++ 32 ∷ s)) ≡ Some v = ap number_value (take_same end w (32 ∷ s) (c ∷ r) le) ∙ h in
    ap (number_to (w ++ 32 ∷ s)) ends ∙ (rw (after_twin w r s c end le off) (ap (λ o. number_of o end) value))

same_number : (w r s : List ℕ) (c : ℕ) → Same (length w) (number (w ++ c ∷ r)) (number (w ++ 32 ∷ s))
same_number w r s c =
    let z = w ++ c ∷ r in
    let end = skip_while class.Digit z 0 in
    apart (length w) (is_in class.Start (slice_index z end)) _ _ _ (λ _. tt) (λ off. number_twin w r s c end (number_value (take end z)) refl off refl)

-- ---- quotes

step_other : (q x : ℕ) (zs : List ℕ) → (x == q) ≡ false → quoted q (x ∷ zs) ≡ option_map (with_byte x 1) (quoted q zs)
step_other q x [] off = rw off refl
step_other q x (y ∷ ys) off = rw off refl

step_double : (q x y : ℕ) (zs : List ℕ) → (x == q) ≡ true → (y == q) ≡ true → quoted q (x ∷ y ∷ zs) ≡ option_map (with_byte q 2) (quoted q zs)
step_double q x y zs one two = rw (one, two) refl

mapped : (x n : ℕ) (o : Option QuotedBytes) (r : QuotedBytes) → option_map (with_byte x n) o ≡ Some r → (s : QuotedBytes) × (o ≡ Some s) × (with_byte x n s ≡ r)
mapped x n None r h = absurd (cc)
mapped x n (Some s) r h = (s, refl, cc)

some_same : {r s : QuotedBytes} → Some r ≡ Some s → r ≡ s
some_same e = cc

abbrev one_byte : QuotedBytes
one_byte = record { content = []; written = 1 }

here_one : (q x y : ℕ) (zs : List ℕ) → (x == q) ≡ true → (y == q) ≡ false → quoted q (x ∷ y ∷ zs) ≡ Some one_byte
here_one q x y zs one two = rw (one, two) refl

-- a closing quote is written
written_some : (q : ℕ) (z : List ℕ) (o : QuotedBytes) → quoted q z ≡ Some o → 0 < o.written
written_some q [] o h = absurd (cc)
written_some q (x ∷ []) o h =
    ⊎_elim
    (λ (t : (x == q) ≡ true).
    let e : quoted q (x ∷ []) ≡ Some one_byte = rw t refl in
    let is : one_byte ≡ o = some_same (sym e ∙ h) in
    omega (arith, ap (λ (b : QuotedBytes). b.written) is))
    (λ (f : (x == q) ≡ false).
    let m = mapped x 1 (quoted q []) o (sym (step_other q x [] f) ∙ h) in
    omega (arith, ap (λ (b : QuotedBytes). b.written) m.2))
    (cases_Bool (x == q))
written_some q (x ∷ y ∷ ys) o h =
    ⊎_elim
    (λ (one : (x == q) ≡ true).
    ⊎_elim
    (λ (two : (y == q) ≡ true).
    let m = mapped q 2 (quoted q ys) o (sym (step_double q x y ys one two) ∙ h) in
    omega (arith, ap (λ (b : QuotedBytes). b.written) m.2))
    (λ (two : (y == q) ≡ false).
    let is : one_byte ≡ o = some_same (sym (here_one q x y ys one two) ∙ h) in
    omega (arith, ap (λ (b : QuotedBytes). b.written) is))
    (cases_Bool (y == q)))
    (λ (off : (x == q) ≡ false).
    let m = mapped x 1 (quoted q (y ∷ ys)) o (sym (step_other q x (y ∷ ys) off) ∙ h) in
    omega (arith, ap (λ (b : QuotedBytes). b.written) m.2))
    (cases_Bool (x == q))

quoted_twin : (q : ℕ) (w r s : List ℕ) (c : ℕ) (o : QuotedBytes) → (32 == q) ≡ false → quoted q (w ++ c ∷ r) ≡ Some o → o.written ≤ length w → quoted q (w ++ 32 ∷ s) ≡ Some o
quoted_twin q [] r s c o blank h le = absurd (omega (arith, le, written_some q (c ∷ r) o h))
quoted_twin q (x ∷ []) r s c o blank h le =
    ⊎_elim
    (λ (one : (x == q) ≡ true).
    ⊎_elim
    (λ (two : (c == q) ≡ true).
    let m = mapped q 2 (quoted q r) o (sym (step_double q x c r one two) ∙ h) in
    absurd (omega (arith, le, ap (λ (b : QuotedBytes). b.written) m.2)))
    (λ (two : (c == q) ≡ false). here_one q x 32 s one blank ∙ sym (here_one q x c r one two) ∙ h)
    (cases_Bool (c == q)))
    (λ (off : (x == q) ≡ false).
    let m = mapped x 1 (quoted q (c ∷ r)) o (sym (step_other q x (c ∷ r) off) ∙ h) in
    absurd (omega (arith, le, ap (λ (b : QuotedBytes). b.written) m.2, written_some q (c ∷ r) m.0 m.1)))
    (cases_Bool (x == q))
quoted_twin q (x ∷ y ∷ ys) r s c o blank h le =
    ⊎_elim
    (λ (one : (x == q) ≡ true).
    ⊎_elim
    (λ (two : (y == q) ≡ true).
    let m = mapped q 2 (quoted q (ys ++ c ∷ r)) o (sym (step_double q x y (ys ++ c ∷ r) one two) ∙ h) in
    let rest = quoted_twin q ys r s c m.0 blank m.1 (omega (arith, le, ap (λ (b : QuotedBytes). b.written) m.2)) in
    step_double q x y (ys ++ 32 ∷ s) one two ∙ ap (option_map (with_byte q 2)) rest ∙ ap Some m.2)
    (λ (two : (y == q) ≡ false). here_one q x y (ys ++ 32 ∷ s) one two ∙ sym (here_one q x y (ys ++ c ∷ r) one two) ∙ h)
    (cases_Bool (y == q)))
    (λ (off : (x == q) ≡ false).
    let m = mapped x 1 (quoted q (y ∷ ys ++ c ∷ r)) o (sym (step_other q x (y ∷ ys ++ c ∷ r) off) ∙ h) in
    let rest = quoted_twin q (y ∷ ys) r s c m.0 blank m.1 (omega (arith, le, ap (λ (b : QuotedBytes). b.written) m.2)) in
    step_other q x (y ∷ ys ++ 32 ∷ s) off ∙ ap (option_map (with_byte x 1)) rest ∙ ap Some m.2)
    (cases_Bool (x == q))

-- the bytes of a token with its quotes
bytes_twin : (x : ℕ) (xs a b : List ℕ) (n : ℕ) → n ≤ length xs → take (n + 1) (x ∷ xs ++ a) ≡ take (n + 1) (x ∷ xs ++ b)
bytes_twin x xs a b n le = take_same (n + 1) (x ∷ xs) a b (omega (arith, le))

same_name : (x : ℕ) (xs r s : List ℕ) (c : ℕ) (o : Option QuotedBytes) → quoted (byte "\"") (xs ++ c ∷ r) ≡ o
    → Same (suc (length xs)) (quoted_name_of (x ∷ xs ++ c ∷ r) (option_map extent o)) (quoted_name (x ∷ xs ++ 32 ∷ s))
same_name x xs r s c None h = tt
same_name x xs r s c (Some o) h =
    let z = x ∷ xs ++ c ∷ r in
    let y = x ∷ xs ++ 32 ∷ s in
    let m = suc (length xs) in
    apart m (length o.content == 0 || has_zero (take (o.written + 1) z)) _ _ _ (λ _. tt)
    (λ fine. apart m (nat_lt 63 (length o.content)) _ _ _ (λ _. tt)
    (λ few. λ le.
    let inside : o.written ≤ length xs = omega (arith, le) in
    let there : quoted (byte "\"") (xs ++ 32 ∷ s) ≡ Some o = quoted_twin (byte "\"") xs r s c o refl h inside in
    let same : (length o.content == 0 || has_zero (take (o.written + 1) y)) ≡ false = ap (λ w. length o.content == 0 || has_zero w) (bytes_twin x xs (32 ∷ s) (c ∷ r) o.written inside) ∙ fine in
    ap (λ o. quoted_name_of y (option_map extent o)) there ∙ (rw (same, few) refl)))

same_text : (x : ℕ) (xs r s : List ℕ) (c : ℕ) (o : Option QuotedBytes) → quoted (byte "'") (xs ++ c ∷ r) ≡ o
    → Same (suc (length xs)) (quoted_text_of (x ∷ xs ++ c ∷ r) (option_map extent o)) (quoted_text (x ∷ xs ++ 32 ∷ s))
same_text x xs r s c None h = tt
same_text x xs r s c (Some o) h =
    let z = x ∷ xs ++ c ∷ r in
    let y = x ∷ xs ++ 32 ∷ s in
    let m = suc (length xs) in
    apart m (has_zero (take (o.written + 1) z)) _ _ _ (λ _. tt)
    (λ fine. λ le.
    let inside : o.written ≤ length xs = omega (arith, le) in
    let there : quoted (byte "'") (xs ++ 32 ∷ s) ≡ Some o = quoted_twin (byte "'") xs r s c o refl h inside in
    let same : has_zero (take (o.written + 1) y) ≡ false = ap has_zero (bytes_twin x xs (32 ∷ s) (c ∷ r) o.written inside) ∙ fine in
    ap (λ o. quoted_text_of y (option_map extent o)) there ∙ (rw same refl))

-- ---- punctuation of one byte, and comments

no_double : (a : ℕ) → double_punctuation a 32 ≡ None
no_double a = rw (and_right (a == byte "<") false refl, and_right (a == byte "!") false refl, and_right (a == byte ">") false refl) refl

one_sign : (x c : ℕ) (two one : Option Punctuation) → single_punctuation x ≡ one → Same 1 (longest two one) (longest (double_punctuation x 32) (single_punctuation x))
one_sign x c (Some p) one g = λ le. absurd (omega (arith, le))
one_sign x c None (Some p) g = λ le. ap (λ o. longest o (single_punctuation x)) (no_double x) ∙ ap (longest None) g
one_sign x c None None g = tt

-- a comment is of two bytes at least
no_comment : (n : ℕ) (g : LexStep) → 2 ≤ n → Same 1 (Skipped n) g
no_comment n g two = λ le. absurd (omega (arith, le, two))

-- the same where each text has a test of its own
test_apart : (m : ℕ) (b b' : Bool) (f g f' g' : LexStep) → (b ≡ true → Same m f (if b' then f' else g')) → b' ≡ false → (b ≡ false → Same m g g') → Same m (if b then f else g) (if b' then f' else g')
test_apart m true b' f g f' g' p s q = p refl
test_apart m false true f g f' g' p s q = absurd (let e : true ≡ false = s in cc)
test_apart m false false f g f' g' p s q = q refl

same_comment : (x y : ℕ) (ys r s : List ℕ) (c : ℕ) → is_in class.Line c ≡ true
    → Same (suc (suc (length ys))) (Skipped (skip_while class.Line (x ∷ y ∷ ys ++ c ∷ r) 2)) (Skipped (skip_while class.Line (x ∷ y ∷ ys ++ 32 ∷ s) 2))
same_comment x y ys r s c line = λ le. ap (λ n. Skipped (2 + n)) (stops_before (is_in class.Line) ys r s c line (omega (arith, le)))

-- ---- the step

pub twins : (x : ℕ) (xs r s : List ℕ) (c : ℕ) → is_in class.Line c ≡ true → Same (suc (length xs)) (step (x ∷ xs ++ c ∷ r)) (step (x ∷ xs ++ 32 ∷ s))
unfolding step
twins x [] r s c line =
    let m = suc zero in
    choose m (is_in class.Blank x) _ _ _ _ (λ _. λ le. refl)
    (λ _. choose m (is_in class.Start x) _ _ _ _ (λ _. same_word x [] r s c)
    (λ _. choose m (is_in class.Digit x) _ _ _ _ (λ _. same_number (x ∷ []) r s c)
    (λ _. test_apart m (x == byte "-" && c == byte "-") (x == byte "-" && 32 == byte "-") _ _ _ _
    (λ _. no_comment (skip_while class.Line (x ∷ c ∷ r) 2) _ (omega arith))
    (and_right (x == byte "-") false refl)
    (λ _. choose m (x == byte "\"") _ _ _ _ (λ _. same_name x [] r s c (quoted (byte "\"") (c ∷ r)) refl)
    (λ _. choose m (x == byte "'") _ _ _ _ (λ _. same_text x [] r s c (quoted (byte "'") (c ∷ r)) refl)
    (λ _. one_sign x c (double_punctuation x c) (single_punctuation x) refl))))))
twins x (y ∷ ys) r s c line =
    let m = suc (suc (length ys)) in
    choose m (is_in class.Blank x) _ _ _ _ (λ _. λ le. refl)
    (λ _. choose m (is_in class.Start x) _ _ _ _ (λ _. same_word x (y ∷ ys) r s c)
    (λ _. choose m (is_in class.Digit x) _ _ _ _ (λ _. same_number (x ∷ y ∷ ys) r s c)
    (λ _. choose m (x == byte "-" && y == byte "-") _ _ _ _ (λ _. same_comment x y ys r s c line)
    (λ _. choose m (x == byte "\"") _ _ _ _ (λ _. same_name x (y ∷ ys) r s c (quoted (byte "\"") (y ∷ ys ++ c ∷ r)) refl)
    (λ _. choose m (x == byte "'") _ _ _ _ (λ _. same_text x (y ∷ ys) r s c (quoted (byte "'") (y ∷ ys ++ c ∷ r)) refl)
    (λ _. itself m (longest (double_punctuation x y) (single_punctuation x))))))))

no_sign : (r : List ℕ) (k : TokenKind) (n : ℕ) → step (0 ∷ r) ≡ Lexed k n → ⊥
unfolding step
no_sign r k n h = let wrong : Refused SyntaxError ≡ Lexed k n = h in cc

ten_skips : (r : List ℕ) (k : TokenKind) (n : ℕ) → step (10 ∷ r) ≡ Lexed k n → ⊥
unfolding step
ten_skips r k n h = let wrong : Skipped 1 ≡ Lexed k n = h in cc

return_skips : (r : List ℕ) (k : TokenKind) (n : ℕ) → step (13 ∷ r) ≡ Lexed k n → ⊥
unfolding step
return_skips r k n h = let wrong : Skipped 1 ≡ Lexed k n = h in cc

-- a byte with which a token begins ends no comment
pub begins_in_line : (c : ℕ) (r : List ℕ) (k : TokenKind) (n : ℕ) → step (c ∷ r) ≡ Lexed k n → is_in class.Line c ≡ true
begins_in_line c r k n h =
    ⊎_elim (λ (ten : (c == 10) ≡ true). absurd (ten_skips r k n (subst (λ b. step (b ∷ r) ≡ Lexed k n) (eqb-true c 10 ten) h)))
    (λ (not_ten : (c == 10) ≡ false).
    ⊎_elim (λ (cr : (c == 13) ≡ true). absurd (return_skips r k n (subst (λ b. step (b ∷ r) ≡ Lexed k n) (eqb-true c 13 cr) h)))
    (λ (not_cr : (c == 13) ≡ false).
    ⊎_elim (λ (nul : (c == 0) ≡ true). absurd (no_sign r k n (subst (λ b. step (b ∷ r) ≡ Lexed k n) (eqb-true c 0 nul) h)))
    (λ (not_nul : (c == 0) ≡ false). let t : is_in class.Line c ≡ true = rw (not_ten, not_cr, not_nul) refl in t)
    (cases_Bool (c == 0)))
    (cases_Bool (c == 13)))
    (cases_Bool (c == 10))

-- ---- a step takes some bytes

abbrev Takes : LexStep → Type 0
Takes (Skipped n) = 0 < n
Takes (Lexed k n) = 0 < n
Takes (Refused s) = Unit {0}

either : (b : Bool) (f g : LexStep) → (b ≡ true → Takes f) → Takes g → Takes (if b then f else g)
either true f g p q = p refl
either false f g p q = q

unless : (b : Bool) (f g : LexStep) → Takes f → Takes g → Takes (if b then f else g)
unless true f g p q = p
unless false f g p q = q

digit_some : (x : ℕ) (zs : List ℕ) → is_in class.Digit x ≡ true → 0 < skip_while class.Digit (x ∷ zs) 0
digit_some x zs h =
    let e : prefix_len (is_in class.Digit) (x ∷ zs) ≡ 1 + prefix_len (is_in class.Digit) zs = rw h refl in
    omega (arith, e)

number_takes : (o : Option ℕ) (end : ℕ) → 0 < end → Takes (number_of o end)
number_takes None end some = tt
number_takes (Some v) end some = some

name_takes : (z : List ℕ) (o : Option QuotedBytes) → Takes (quoted_name_of z (option_map extent o))
name_takes z None = tt
name_takes z (Some o) =
    let some : 0 < o.written + 1 = omega arith in
    unless (length o.content == 0 || has_zero (take (o.written + 1) z)) _ _ tt (unless (nat_lt 63 (length o.content)) _ _ tt some)

text_takes : (z : List ℕ) (o : Option QuotedBytes) → Takes (quoted_text_of z (option_map extent o))
text_takes z None = tt
text_takes z (Some o) =
    let some : 0 < o.written + 1 = omega arith in
    unless (has_zero (take (o.written + 1) z)) _ _ tt some

sign_takes : (two one : Option Punctuation) → Takes (longest two one)
sign_takes (Some p) one = omega arith
sign_takes None (Some p) = omega arith
sign_takes None None = tt

pub takes : (x : ℕ) (zs : List ℕ) → Takes (step (x ∷ zs))
unfolding step
takes x zs =
    let z = x ∷ zs in
    let word_end : 0 < skip_while class.Inner z 1 = omega arith in
    let line_end : 0 < skip_while class.Line z 2 = omega arith in
    let blank_end : 0 < 1 = omega arith in
    unless (is_in class.Blank x) _ _ blank_end
    (unless (is_in class.Start x) _ _ (unless (nat_lt 63 (skip_while class.Inner z 1)) _ _ tt word_end)
    (either (is_in class.Digit x) _ _
    (λ h. unless (is_in class.Start (slice_index z (skip_while class.Digit z 0))) _ _ tt (number_takes (number_value (take (skip_while class.Digit z 0) z)) (skip_while class.Digit z 0) (digit_some x zs h)))
    (unless (x == byte "-" && slice_index zs 0 == byte "-") _ _ line_end
    (unless (x == byte "\"") _ _ (name_takes z (quoted (byte "\"") zs))
    (unless (x == byte "'") _ _ (text_takes z (quoted (byte "'") zs))
    (sign_takes (double_punctuation x (slice_index zs 0)) (single_punctuation x)))))))

pub lexed_some : (c : ℕ) (r : List ℕ) (k : TokenKind) (n : ℕ) → step (c ∷ r) ≡ Lexed k n → 0 < n
lexed_some c r k n h = subst Takes h (takes c r)

pub skipped_some : (c : ℕ) (r : List ℕ) (n : ℕ) → step (c ∷ r) ≡ Skipped n → 0 < n
skipped_some c r n h = subst Takes h (takes c r)
