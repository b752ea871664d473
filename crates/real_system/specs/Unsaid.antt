-- The system of a machine: no contract knows what it does, so it is called faithful by none.
use Rattle.std.specs.Prelude.{ℕ, [], None, false}
use Rattle.systems.specs.Systems.{SystemState, Absent}

-- of what it names nothing is said
abbrev pub unsaid : {D L : Type 0} → ℕ → SystemState D L
unsaid failures = record {
  faithful = ⊥;
  devices = λ path. Absent;
  texts = λ path. None;
  is_named = λ path. false;
  left = λ path device. ⊥;
  listeners = λ place. Absent;
  input = [];
  draws = λ n. [];
  failures = failures;
}
