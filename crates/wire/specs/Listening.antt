-- What a listener gives, and what it gets back, where its contract names that.
use Rattle.std.specs.Prelude.{◌≡◌, List, [], ◌∷◌, ◌++◌, Option, Some, None}
use Rattle.wire.specs.Answers.{Known}

-- a connection at one moment: the bytes that its reader has left, and those that its sink has taken
pub record Line : Type 0 where
  pub left : Known
  pub held : Known

abbrev pub line_of : Known → Known → Line
line_of left held = record { left = left; held = held }

-- the connections that are still to come, in their order, with nothing in place of each that cannot be taken; and those that were closed, in the
-- order of their closing, as each was then
pub record Listening : Type 0 where
  pub coming : List (Option Line)
  pub closed : List Line

-- this comes next; after all that comes no connection can be taken
abbrev pub IsNext : List (Option Line) → Option Line → List (Option Line) → Type 0
IsNext [] it rest = (it ≡ None) × (rest ≡ [])
IsNext (next ∷ others) it rest = (it ≡ next) × (rest ≡ others)

-- what comes next was taken, or could not be
abbrev pub Takes : Option Listening → Option Line → Option Listening → Type 0
Takes None it new = Unit {0}
Takes (Some old) it None = ⊥
Takes (Some old) it (Some new) = IsNext old.coming it new.coming × (new.closed ≡ old.closed)

-- a connection was closed as it is
abbrev pub Closes : Option Listening → Line → Option Listening → Type 0
Closes None it new = Unit {0}
Closes (Some old) it None = ⊥
Closes (Some old) it (Some new) = (new.coming ≡ old.coming) × (new.closed ≡ old.closed ++ it ∷ [])
