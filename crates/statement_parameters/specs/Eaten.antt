-- What is left of tokens behind those that were expected.
use Rattle.std.specs.Prelude.{ℕ, if◌then◌else◌, List, [], ◌∷◌, Option, Some, None, option_and_then}
use Rattle.std.specs.Str.{bytes_eq}

abbrev pub behind_one : List ℕ → List (List ℕ) → Option (List (List ℕ))
behind_one expected [] = None
behind_one expected (t ∷ ts) = if bytes_eq t expected then Some ts else None

abbrev pub behind_all : List (List ℕ) → List (List ℕ) → Option (List (List ℕ))
behind_all [] ts = Some ts
behind_all (e ∷ es) ts = option_and_then (behind_all es) (behind_one e ts)

-- nothing is behind tokens that are not known
abbrev pub behind_known : Option (List (List ℕ)) → List (List ℕ) → Option (List (List ℕ))
behind_known None ts = None
behind_known (Some expected) ts = behind_all expected ts
