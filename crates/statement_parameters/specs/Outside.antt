-- Tokens that are no part of a literal.
use Rattle.std.specs.Prelude.{◌≡◌, ℕ, ◌-◌, Bool, true, false, List, [], ◌∷◌, ◌++◌, map, length, replicate, slice_get, Option, Some, None}
use Rattle.sql_types.specs.declared.value.Value.{Value}
use Rattle.statement_parameters.specs.Parts.{StatementPart, token, parameter, literal_tokens}

-- the literals of two lists of values have as many tokens, each as the other
abbrev pub HaveLiteralsAlike : List Value → List Value → Type 0
HaveLiteralsAlike values others = map (λ v. length (literal_tokens v)) values ≡ map (λ v. length (literal_tokens v)) others

abbrev pub all_true : Option (List (List ℕ)) → List Bool
all_true None = []
all_true (Some tokens) = replicate (length tokens) true

-- for each token of a statement with values whether it is a literal's
abbrev pub marks_with : List (List (List ℕ)) → List StatementPart → List Bool
marks_with literals [] = []
marks_with literals (token bytes ∷ ps) = false ∷ marks_with literals ps
marks_with literals (parameter n ∷ ps) = all_true (slice_get literals (n - 1)) ++ marks_with literals ps

abbrev pub in_literals : List Value → List StatementPart → List Bool
in_literals values parts = marks_with (map literal_tokens values) parts

-- as many tokens, and the same where none of a literal stands
abbrev pub AgreeOutside : List Bool → List (List ℕ) → List (List ℕ) → Type 0
AgreeOutside [] [] [] = Unit {0}
AgreeOutside (true ∷ ms) (t ∷ ts) (u ∷ us) = AgreeOutside ms ts us
AgreeOutside (false ∷ ms) (t ∷ ts) (u ∷ us) = (t ≡ u) × AgreeOutside ms ts us
AgreeOutside ms ts us = ⊥
