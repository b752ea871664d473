-- A file in memory: its bytes, and those of its last sync. A stop leaves one or the other.
use Rattle.std.specs.Prelude.{false, ◌≡◌, ◌⊎◌, ℕ, List, length}
use Rattle.std.proofs.Common.{⊎_elim, ap, ◌∙◌}
use Rattle.sector_device.specs.RawFile.{FileState}

-- Its clock stands still, and nothing is said of past moments.
abbrev pub file_in_memory : List ℕ → List ℕ → FileState
file_in_memory bytes synced = record {
  bytes = bytes;
  time = record { moment = 0; stops = λ a b x. ⊥; left = λ x. (x ≡ bytes) ⊎ (x ≡ synced) };
  has_failed_sync = false;
}

-- a stop leaves no more and no fewer bytes
pub keeps_length : (bytes synced x : List ℕ) → length synced ≡ length bytes → (x ≡ bytes) ⊎ (x ≡ synced) → length x ≡ length bytes
keeps_length bytes synced x same left =
    ⊎_elim (λ now. ap (λ (xs : List ℕ). length xs) now) (λ before. ap (λ (xs : List ℕ). length xs) before ∙ same) left
