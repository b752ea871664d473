-- Why a step of a statement over definitions is refused.
use Rattle.std.specs.Prelude.{◌≡◌, ◌⊎◌, Result, Ok, Err}
use Rattle.sql_types.specs.declared.state.SqlState.{SqlState}
use Rattle.sql_types.specs.declared.state.SqlState.TheVariants.{OutOfMemory}
use Rattle.sql_types.specs.declared.state.Refusal.{Refusal}

-- memory was refused, or the refusal is the one that is meant
abbrev pub IsRightRefusal : {A : Type 0} → Refusal → Result A SqlState → Type 0
IsRightRefusal r meant = (r.0 ≡ OutOfMemory) ⊎ (meant ≡ Err r.0)

-- a step ends as it is meant to: this relation holds of its value and the one that is meant, or its refusal is right
abbrev pub Refines : {A B : Type 0} → (B → A → Type 0) → Result B Refusal → Result A SqlState → Type 0
Refines P (Ok b) (Ok a) = P b a
Refines P (Ok b) (Err code) = ⊥
Refines P (Err r) meant = IsRightRefusal r meant
