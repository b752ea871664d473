-- What standard error is told of a file that was migrated as it was opened.
use Rattle.std.specs.Prelude.{◌≡◌, ◌++◌, ℕ, Bool, true, false, List, codes}
use Rattle.std.specs.Io.KnownBytes.{Appends}
use Rattle.wire.specs.ScriptRun.{Known}

-- that a file was migrated
abbrev pub migration_text : List ℕ → List ℕ
migration_text path = codes "guarddb: " ++ (path ++ codes " was of format 1 and is of format 2 now\n")

-- standard error was told that the file was migrated, unless it did not take that; where the file was not, nothing is told
abbrev pub TellsMigration : Bool → List ℕ → Bool → Known → Known → Type 0
TellsMigration true path told before after = told ≡ true → Appends before after (migration_text path)
TellsMigration false path told before after = (told ≡ true) × (after ≡ before)
