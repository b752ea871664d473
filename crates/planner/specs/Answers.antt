-- What a call answers, beside what is meant.
use Rattle.std.specs.Prelude.{◌≡◌, ◌⊎◌, Result, Ok, Err}
use Rattle.sql_types.specs.declared.state.Refusal.{Refusal}
use Rattle.sql_types.specs.declared.state.SqlState.{SqlState}
use Rattle.sql_types.specs.declared.state.SqlState.TheVariants.{OutOfMemory}
use Rattle.expressions.specs.Meaning.{UserNames}
use Rattle.abstract_database.specs.Lists.{TheName}
use Rattle.abstract_database.specs.Database.{Database}
use Rattle.stored_database.specs.Definitions.{Definitions}
use Rattle.stored_database.specs.Valid.{Describes}

-- a call answers with something that stands for what is meant, or that memory was refused, or with the refusal
abbrev pub AnswersBy : {A B : Type 0} → (A → B) → Result A Refusal → Result B SqlState → Type 0
AnswersBy view (Ok x) meant = meant ≡ Ok (view x)
AnswersBy view (Err refusal) meant = (refusal.0 ≡ OutOfMemory) ⊎ (meant ≡ Err refusal.0)

-- ---- for each database that has these definitions, and users of whom the role is the current one

-- the checks give this
abbrev pub ChecksGive : {C : Type 0} → Definitions → TheName → (Database → UserNames → Result C SqlState) → C → Type 0
ChecksGive d role checks given = (db : Database) (users : UserNames) → Describes d db → users.current ≡ role → checks db users ≡ Ok given

-- memory was refused, or the checks refuse in this way
abbrev pub ChecksRefuse : {C : Type 0} → Definitions → TheName → (Database → UserNames → Result C SqlState) → Refusal → Type 0
ChecksRefuse d role checks refusal = (refusal.0 ≡ OutOfMemory)
    ⊎ ((db : Database) (users : UserNames) → Describes d db → users.current ≡ role → checks db users ≡ Err refusal.0)

-- the checks of this statement give this
abbrev pub IsGivenBy : {S C : Type 0} → (Database → UserNames → S → Result C SqlState) → Definitions → TheName → S → C → Type 0
IsGivenBy checks d role s given = ChecksGive d role (λ db users. checks db users s) given

-- memory was refused, or they refuse it in this way
abbrev pub IsRefusedBy : {S C : Type 0} → (Database → UserNames → S → Result C SqlState) → Definitions → TheName → S → Refusal → Type 0
IsRefusedBy checks d role s refusal = ChecksRefuse d role (λ db users. checks db users s) refusal
