-- Numbers of tables that are free.
use Rattle.std.specs.Prelude.{◌≡◌, ◌<◌, ◌≤◌, ℕ, Bool, true, false, nat_eq, List, get_or}
use Rattle.std.specs.List.{list_any}
use Rattle.abstract_database.specs.Whole.{max_tables}

-- whether a table has the number
abbrev pub is_taken : List ℕ → ℕ → Bool
is_taken ids n = list_any (nat_eq n) ids

-- the number is free, and each lesser one from 1 is taken
pub record IsLeastFree (ids : List ℕ) (id : ℕ) : Type 0 where
  pub from : 1 ≤ id
  pub to : id ≤ max_tables
  pub free : is_taken ids id ≡ false
  pub least : (n : ℕ) → 1 ≤ n → n < id → is_taken ids n ≡ true

-- each number that a table may have is taken
abbrev pub AreAllTaken : List ℕ → Type 0
AreAllTaken ids = (n : ℕ) → 1 ≤ n → n ≤ max_tables → is_taken ids n ≡ true

-- the marks tell which numbers are taken
abbrev pub MarkTaken : List ℕ → List Bool → Type 0
MarkTaken ids marks = (n : ℕ) → n ≤ max_tables → get_or marks n false ≡ is_taken ids n
