-- In which formats the values of an answer come (PostgreSQL 15 manual, 55.2.3).
use Rattle.std.specs.Prelude.{◌==◌, ℕ, Bool, true, nat_lt, if◌then◌else◌, List, [], ◌∷◌, length}
use Rattle.std.specs.List.{list_all}
use Rattle.postgres_messages.specs.declared.backend.ValueFormat.{ValueFormat}
use Rattle.postgres_messages.specs.declared.backend.ValueFormat.TheVariants.{Text, Binary}

-- a code is 0 or 1
abbrev pub are_format_codes : List ℕ → Bool
are_format_codes numbers = list_all (λ n. nat_lt n 2) numbers

abbrev pub format_of : ℕ → ValueFormat
format_of n = if n == 0 then Text else Binary

-- the format of the next column: without formats all values are text, and one is for all
abbrev pub next_format : List ValueFormat → ValueFormat
next_format [] = Text
next_format (f ∷ fs) = f

-- those of the columns behind it
abbrev pub other_formats : List ValueFormat → List ValueFormat
other_formats [] = []
other_formats (f ∷ []) = f ∷ []
other_formats (f ∷ g ∷ fs) = g ∷ fs

-- there is at most one, or one for each of so many columns
abbrev pub are_formats_for : List ValueFormat → ℕ → Bool
are_formats_for [] n = true
are_formats_for (f ∷ []) n = true
are_formats_for (f ∷ g ∷ fs) n = length (f ∷ g ∷ fs) == n
