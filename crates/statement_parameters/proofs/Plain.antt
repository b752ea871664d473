-- A text without signs of parameters and without slashes is masked as it stands.
use Rattle.std.proofs.Common.{◌≡◌, ◌∷◌, [], ℕ, List, refl, Bool, true, false}
use Rattle.std.specs.Prelude.{◌==◌, ◌&&◌, ◌||◌, not, if◌then◌else◌, slice_index}
use Rattle.std.specs.List.{list_any}
use Rattle.std.specs.Str.{byte}
use Rattle.std.proofs.lemmas.Bool.{or_parts}
use Rattle.sql_lexer.specs.declared.class.Class.TheVariants as class
use Rattle.sql_lexer.specs.Class.{is_in}
use Rattle.statement_parameters.specs.declared.place.BytePlace.{BytePlace}
use Rattle.statement_parameters.specs.declared.place.BytePlace.TheVariants as place
use Rattle.statement_parameters.specs.Masks.{is_foreign, is_in_comment, is_masked, is_plain, masked, masked_from, place_behind, place_behind_first}

either : (b : Bool) (p q : BytePlace) → is_in_comment p ≡ false → is_in_comment q ≡ false → is_in_comment (if b then p else q) ≡ false
either true p q e f = e
either false p q e f = f

no_slash : (b c : ℕ) → (b == byte "/") ≡ false → is_in_comment (if b == byte "/" && c == byte "*" then place.Opening 0 else place.Outside) ≡ false
no_slash b c e = rw e refl

first_place : (b c : ℕ) → (b == byte "/") ≡ false → is_in_comment (place_behind_first b c) ≡ false
first_place b c e =
    either (is_in class.Start b) _ _ refl (either (b == byte "'" || b == byte "\"") _ _ refl (either (b == byte "-" && c == byte "-") _ _ refl (no_slash b c e)))

next_place : (p : BytePlace) (b c : ℕ) → is_in_comment p ≡ false → (b == byte "/") ≡ false → is_in_comment (place_behind p b c) ≡ false
next_place place.Outside b c out e = first_place b c e
next_place place.Word b c out e = either (is_in class.Inner b) _ _ refl (first_place b c e)
next_place (place.Quoted q) b c out e = either (b == q) _ _ refl refl
next_place place.Line b c out e = either (is_in class.Line b) _ _ refl refl
next_place (place.Opening n) b c out e = absurd (cc)
next_place (place.Comment n) b c out e = absurd (cc)
next_place (place.Closing n) b c out e = absurd (cc)

not_foreign : (b c : ℕ) → (b == byte "/") ≡ false → (b == byte "$") ≡ false → is_foreign b c ≡ false
not_foreign b c e f = rw (e, f) refl

both_false : (x y : Bool) → y ≡ false → (x && y) ≡ false
both_false true y e = e
both_false false y e = refl

not_masked : (p : BytePlace) (b c : ℕ) → is_in_comment p ≡ false → (b == byte "/") ≡ false → (b == byte "$") ≡ false → is_masked p b c ≡ false
not_masked place.Outside b c out e f = not_foreign b c e f
not_masked place.Word b c out e f = both_false (not (is_in class.Inner b)) (is_foreign b c) (not_foreign b c e f)
not_masked (place.Quoted q) b c out e f = refl
not_masked place.Line b c out e f = refl
not_masked (place.Opening n) b c out e f = absurd (cc)
not_masked (place.Comment n) b c out e f = absurd (cc)
not_masked (place.Closing n) b c out e f = absurd (cc)

more : {x b : ℕ} {xs bs : List ℕ} → x ≡ b → xs ≡ bs → x ∷ xs ≡ b ∷ bs
more e f = cc

plain_from : (p : BytePlace) (z : List ℕ) → is_in_comment p ≡ false → list_any (λ b. b == byte "/") z ≡ false → list_any (λ b. b == byte "$") z ≡ false → masked_from p z ≡ z
plain_from p [] out e f = rw out refl
plain_from p (b ∷ bs) out e f =
    let c = slice_index bs 0 in
    let slash = or_parts (b == byte "/") (list_any (λ x. x == byte "/") bs) e in
    let dollar = or_parts (b == byte "$") (list_any (λ x. x == byte "$") bs) f in
    let here : (if is_masked p b c then 32 else b) ≡ b = rw (not_masked p b c out slash.0 dollar.0) refl in
    more here (plain_from (place_behind p b c) bs (next_place p b c out slash.0) slash.1 dollar.1)

none_of : (x y : Bool) → (not x && not y) ≡ true → (x ≡ false) × (y ≡ false)
none_of false false e = (refl, refl)
none_of false true e = absurd (cc)
none_of true y e = absurd (cc)

pub plain : (text : List ℕ) → is_plain text ≡ true → masked text ≡ text
plain text e =
    let k = none_of (list_any (λ b. b == byte "$") text) (list_any (λ b. b == byte "/") text) e in
    plain_from place.Outside text refl k.1 k.0
