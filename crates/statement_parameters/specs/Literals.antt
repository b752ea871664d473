-- The tokens of a literal as the program keeps it.
use Rattle.std.specs.Prelude.{ℕ, if◌then◌else◌, List, [], ◌∷◌, codes}
use Rattle.statement_parameters.specs.declared.literal.Literal.{Literal}

abbrev pub viewed_literal : Literal → List (List ℕ)
viewed_literal l = if l.negative then codes "(" ∷ codes "-" ∷ l.bytes.items ∷ codes ")" ∷ [] else l.bytes.items ∷ []
