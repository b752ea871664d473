-- Tokens of a text in their order.
use Rattle.std.specs.Prelude.{◌≤◌, ℕ, List, [], ◌∷◌}
use Rattle.std.specs.Str.{IsCharBoundary}
use Rattle.sql_lexer.specs.Lexeme.{IsPlaced, Lexeme, end_of}

-- each stands in the text, behind the one before it; the first from this place on
abbrev pub StandIn : List ℕ → ℕ → List Lexeme → Type 0
StandIn text at [] = IsCharBoundary text at
StandIn text at (t ∷ ts) = IsCharBoundary text at × (at ≤ t.start) × IsPlaced text t × StandIn text (end_of t) ts
