-- Words, and what is said of each.
use Rattle.std.specs.Prelude.{ℕ, Bool, true, false, List, [], ◌∷◌, map, if◌then◌else◌, Option, Some, None}
use Rattle.std.specs.Borrow.{Bor}
use Rattle.std.specs.Str.{str_eq_ignore_ascii_case}

-- some words, and what is said of each of them
abbrev pub KeywordHint : Type 0
KeywordHint = List (List ℕ) × List ℕ

-- an entry without its addresses
abbrev pub entry : Bor (List (Bor (List ℕ))) × Bor (List ℕ) → KeywordHint
entry e = (map (λ w. w.now) e.0.now, e.1.now)

-- one of these words is this one, in any case
abbrev pub has_word : List (List ℕ) → List ℕ → Bool
has_word [] word = false
has_word (w ∷ ws) word = (if str_eq_ignore_ascii_case w word then true else has_word ws word)

-- what the first entry with this word says
abbrev pub said_of : List KeywordHint → List ℕ → Option (List ℕ)
said_of [] word = None
said_of (e ∷ es) word = (if has_word e.0 word then Some e.1 else said_of es word)
