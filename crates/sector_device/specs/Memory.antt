-- A device in memory: for each sector its last content and its synced one.
use Rattle.std.specs.Prelude.{◌≡◌, ◌⊎◌, ℕ, List, [], get_or}
use Rattle.sector_device.specs.Device.{DeviceState}

-- Its clock stands still, and nothing is said of past moments.
abbrev pub memory_state : ℕ → List (List ℕ) → List (List ℕ) → ℕ → DeviceState
memory_state sectors last synced failures = record {
  faithful = Unit {0};
  sectors = sectors;
  content = λ s. get_or last s [];
  left = λ s c. (c ≡ get_or last s []) ⊎ (c ≡ get_or synced s []);
  moment = 0;
  stops = λ a b image. ⊥;
  failures = failures;
  beside = λ s. ⊥;
}
