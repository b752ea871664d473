-- Rows whose only sort key is a number.
use Rattle.std.specs.Prelude.{ℤ, Bool, true, false, not, ◌&&◌, List, [], ◌∷◌}
use Rattle.sql_types.specs.declared.value.Value.{Value}
use Rattle.sql_types.specs.declared.value.Value.TheVariants.{Int}
use Rattle.gathering.specs.declared.sort_value.SortValue.{SortValue}
use Rattle.gathering.specs.declared.sort_value.Directed.{Directed}
use Rattle.gathering.specs.declared.sort_value.Directed.TheVariants.{Ascending, Descending}
use Rattle.gathering.specs.declared.keyed_row.KeyedRow.{KeyedRow}
use Rattle.gathering.specs.SortValues.{number_in}

abbrev pub is_int : Value → Bool
is_int (Int n) = true
is_int _ = false

abbrev pub is_number : SortValue → Bool
is_number v = is_int v.0

-- whether a key is a number in this direction
abbrev pub is_directed_number : Bool → Directed → Bool
is_directed_number descending (Ascending v) = not descending && is_number v
is_directed_number descending (Descending v) = descending && is_number v.0

abbrev pub has_none : List Directed → Bool
has_none [] = true
has_none (x ∷ xs) = false

-- whether a row has one key, which is a number in this direction
abbrev pub has_number : Bool → KeyedRow → Bool
has_number descending r = has_none r.others.items && is_directed_number descending r.first

abbrev pub are_numbered : Bool → List KeyedRow → Bool
are_numbered descending [] = true
are_numbered descending (r ∷ rs) = has_number descending r && are_numbered descending rs

-- the number of a key, 0 where it is none
abbrev pub number_of_key : Directed → ℤ
number_of_key (Ascending v) = number_in v.0
number_of_key (Descending v) = number_in v.0.0

-- the number of a row's first key
abbrev pub key_number : KeyedRow → ℤ
key_number r = number_of_key r.first
