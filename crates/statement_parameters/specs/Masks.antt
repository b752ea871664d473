-- A written text without what the language does not know: a comment between `/*` and `*/`, which may have others in it, and the sign of a
-- parameter. Both become blanks.
use Rattle.std.specs.Prelude.{ℕ, ◌+◌, ◌-◌, ◌==◌, ◌&&◌, ◌||◌, not, Bool, true, false, if◌then◌else◌, List, [], ◌∷◌, slice_index}
use Rattle.std.specs.List.{list_any}
use Rattle.std.specs.Str.{byte}
use Rattle.sql_lexer.specs.declared.class.Class.TheVariants as class
use Rattle.sql_lexer.specs.Class.{is_in}
use Rattle.statement_parameters.specs.declared.place.BytePlace.{BytePlace}
use Rattle.statement_parameters.specs.declared.place.BytePlace.TheVariants as place

-- ---- where a byte stands

-- behind a byte that begins something, or stands alone, with the byte that follows it
abbrev pub place_behind_first : ℕ → ℕ → BytePlace
place_behind_first b c =
    if is_in class.Start b then place.Word
    else (if b == byte "'" || b == byte "\"" then place.Quoted b
    else (if b == byte "-" && c == byte "-" then place.Line
    else (if b == byte "/" && c == byte "*" then place.Opening 0
    else place.Outside)))

abbrev pub place_behind_comment : ℕ → ℕ → ℕ → BytePlace
place_behind_comment depth b c =
    if b == byte "/" && c == byte "*" then place.Opening depth
    else (if b == byte "*" && c == byte "/" then place.Closing depth
    else place.Comment depth)

-- behind a byte at a place, with the byte that follows it
abbrev pub place_behind : BytePlace → ℕ → ℕ → BytePlace
place_behind place.Outside b c = place_behind_first b c
place_behind place.Word b c = if is_in class.Inner b then place.Word else place_behind_first b c
place_behind (place.Quoted quote) b c = if b == quote then place.Outside else place.Quoted quote
place_behind place.Line b c = if is_in class.Line b then place.Line else place.Outside
place_behind (place.Opening depth) b c = place.Comment (depth + 1)
place_behind (place.Comment depth) b c = place_behind_comment depth b c
place_behind (place.Closing depth) b c = if depth == 1 then place.Outside else place.Comment (depth - 1)

abbrev pub is_in_comment : BytePlace → Bool
is_in_comment (place.Opening depth) = true
is_in_comment (place.Comment depth) = true
is_in_comment (place.Closing depth) = true
is_in_comment p = false

-- ---- what becomes a blank

-- what opens a comment, and the sign of a parameter
abbrev pub is_foreign : ℕ → ℕ → Bool
is_foreign b c = (b == byte "/" && c == byte "*") || (b == byte "$" && is_in class.Digit c)

-- a zero byte of a comment stays, since the language refuses it wherever it stands
abbrev pub is_masked : BytePlace → ℕ → ℕ → Bool
is_masked place.Outside b c = is_foreign b c
is_masked place.Word b c = not (is_in class.Inner b) && is_foreign b c
is_masked (place.Quoted quote) b c = false
is_masked place.Line b c = false
is_masked p b c = not (b == 0)

-- behind a comment that nothing closes stands a byte that begins no token
abbrev pub masked_from : BytePlace → List ℕ → List ℕ
masked_from p [] = if is_in_comment p then byte "$" ∷ [] else []
masked_from p (b ∷ bs) = (if is_masked p b (slice_index bs 0) then 32 else b) ∷ masked_from (place_behind p b (slice_index bs 0)) bs

abbrev pub masked : List ℕ → List ℕ
masked text = masked_from place.Outside text

-- no sign of a parameter, and nothing that could open a comment
abbrev pub is_plain : List ℕ → Bool
is_plain text = not (list_any (λ b. b == byte "$") text) && not (list_any (λ b. b == byte "/") text)
