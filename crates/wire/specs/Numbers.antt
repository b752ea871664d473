-- The numbers that a recorder keeps.
use Rattle.std.specs.Prelude.{◌≡◌, ℕ, List, [], ◌∷◌, ◌++◌}

-- one number more
abbrev pub AddsNumber : List ℕ → ℕ → List ℕ → Type 0
AddsNumber before number after = after ≡ before ++ number ∷ []
