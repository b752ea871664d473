use Rattle.std.proofs.Common.{◌≡◌, ◌∙◌, ◌≤◌, ◌+◌, ◌-◌, ◌++◌, ◌∷◌, [], ℕ, List, length, drop, length-drop, Bool, true, false, sym, ap, subst, arith, append_assoc}
use Rattle.std.specs.Prelude.{◌==◌, ◌&&◌, ◌||◌, if◌then◌else◌, slice_index, slice_index_or}
use Rattle.std.specs.Str.{byte}
use Rattle.sql_lexer.specs.declared.class.Class.TheVariants as class
use Rattle.sql_lexer.specs.Class.{is_in}
use Rattle.std.proofs.lemmas.List.{take_rest}
use Rattle.statement_parameters.specs.declared.place.BytePlace.{BytePlace}
use Rattle.statement_parameters.specs.declared.place.BytePlace.TheVariants as place
use Rattle.statement_parameters.specs.Masks.{masked_from, is_masked, place_behind, place_behind_first, place_behind_comment}
use Rattle.statement_parameters.specs.Places.{comments_open}
use Rattle.statement_parameters.proofs.place.masked.Goals as goal

one_more : (whole shown new z after : List ℕ) (p q : BytePlace) (n s : ℕ) → 1 ≤ length z → after ≡ drop 1 z → whole ≡ shown ++ masked_from p z
    → n ≡ slice_index after 0 → s ≡ (if is_masked p (slice_index_or z 0 0) n then 32 else slice_index_or z 0 0) → q ≡ place_behind p (slice_index_or z 0 0) n
    → new ≡ shown ++ s ∷ [] → whole ≡ new ++ masked_from q after
one_more whole shown new [] after p q n s some is_after is n_is s_is q_is put = absurd (omega (arith, some))
one_more whole shown new (b ∷ bs) after p q n s some is_after is n_is s_is q_is put =
    let e : after ≡ bs = is_after in
    let m : n ≡ slice_index bs 0 = n_is ∙ ap (λ (l : List ℕ). slice_index l 0) e in
    let d : s ≡ (if is_masked p b (slice_index bs 0) then 32 else b) = s_is ∙ ap (λ (k : ℕ). if is_masked p b k then 32 else b) m in
    let f : q ≡ place_behind p b (slice_index bs 0) = q_is ∙ ap (place_behind p b) m in
    rw (put, d, f, e) (is ∙ sym (append_assoc shown ((if is_masked p b (slice_index bs 0) then 32 else b) ∷ []) (masked_from (place_behind p b (slice_index bs 0)) bs)))

-- ---- how many comments are open

by_test : (b : Bool) (p q : BytePlace) (k : ℕ) → comments_open p ≤ k → comments_open q ≤ k → comments_open (if b then p else q) ≤ k
by_test true p q k one other = one
by_test false p q k one other = other

behind_first : (b c k : ℕ) → comments_open (place_behind_first b c) ≤ k
behind_first b c k =
    by_test (is_in class.Start b) _ _ k (omega arith) (by_test (b == byte "'" || b == byte "\"") _ _ k (omega arith)
    (by_test (b == byte "-" && c == byte "-") _ _ k (omega arith) (by_test (b == byte "/" && c == byte "*") _ _ k (omega arith) (omega arith))))

behind_comment : (d b c : ℕ) → comments_open (place_behind_comment d b c) ≤ d + 1
behind_comment d b c = by_test (b == byte "/" && c == byte "*") _ _ (d + 1) (omega arith) (by_test (b == byte "*" && c == byte "/") _ _ (d + 1) (omega arith) (omega arith))

-- a byte opens one at most
opens : (p : BytePlace) (b c : ℕ) → comments_open (place_behind p b c) ≤ comments_open p + 1
opens place.Outside b c = behind_first b c (0 + 1)
opens place.Word b c = by_test (is_in class.Inner b) _ _ (0 + 1) (omega arith) (behind_first b c (0 + 1))
opens (place.Quoted q) b c = by_test (b == q) _ _ (0 + 1) (omega arith) (omega arith)
opens place.Line b c = by_test (is_in class.Line b) _ _ (0 + 1) (omega arith) (omega arith)
opens (place.Opening d) b c = omega arith
opens (place.Comment d) b c = behind_comment d b c
opens (place.Closing d) b c = by_test (d == 1) _ _ (d + 1) (omega arith) (omega arith)

fewer : (p q : BytePlace) (b c t : ℕ) (z after : List ℕ) → 1 ≤ length z → after ≡ drop 1 z → comments_open p + length z ≤ t → q ≡ place_behind p b c → comments_open q + length after ≤ t
fewer p q b c t z after some is_after whole is =
    let shorter : length after ≡ length z - 1 = ap length is_after ∙ length-drop 1 z in
    let more : comments_open q ≤ comments_open p + 1 = subst (λ (x : BytePlace). comments_open x ≤ comments_open p + 1) (sym is) (opens p b c) in
    omega (arith, shorter, more, whole, some)

pub loop-rest-preserved : goal.loop-rest-preserved
loop-rest-preserved c = record {
  shown = one_more _ _ _ _ _ _ _ _ _ c.in-len1-up.len_at_least (take_rest c.loop-rest.rest.now 1) c.loop-rest.invariant.shown c.first_or_zero-next.ensures c.shown_byte.ensures c.place_behind-place.ensures c.in_ok-push.ensures.items;
  opened = fewer c.loop-rest.place _ (slice_index_or c.loop-rest.rest.now 0 0) c.first_or_zero-next.result _ _ _ c.in-len1-up.len_at_least (take_rest c.loop-rest.rest.now 1) c.loop-rest.invariant.opened c.place_behind-place.ensures;
}
