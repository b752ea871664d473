-- GRANT and REVOKE over the privilege descriptors of their table alone.
use Rattle.std.specs.Prelude.{◌≡◌, ◌⊎◌, List, Option, None, Ok, Err}
use Rattle.sql_types.specs.declared.answer.Answer.TheVariants.{Done}
use Rattle.sql_types.specs.declared.tag.Tag.{Tag}
use Rattle.sql_types.specs.declared.warning.Warning.{Warning}
use Rattle.sql_types.specs.declared.state.Refusal.{Refusal}
use Rattle.sql_types.specs.declared.state.SqlState.TheVariants.{OutOfMemory}
use Rattle.sql_ast.specs.declared.privilege.Descriptor.{Descriptor}
use Rattle.expressions.specs.Meaning.{UserNames}
use Rattle.abstract_database.specs.Lists.{TheName}
use Rattle.abstract_database.specs.Database.{Database}
use Rattle.abstract_database.specs.Statements.{effect}
use Rattle.stored_database.specs.Definitions.{TableDefinition, Definitions}
use Rattle.stored_database.specs.Valid.{Describes}
use Rattle.catalogue.specs.Executed.{Execution}
use Rattle.catalogue_changes.specs.StatementChanges.{alone}

-- in each database of the definitions, with the descriptors of the table alone, the statement of this role is carried out with
-- this warning, if any, and leaves these descriptors
abbrev pub LeavesAlone : TheName → Execution → Definitions → TableDefinition → Tag → Option Warning → List Descriptor → Type 0
LeavesAlone current run d t tag warning left =
    (db : Database) (users : UserNames) → Describes d db → users.current ≡ current
    → run (alone t db) users ≡ Ok (effect (Done tag None warning) (record db { descriptors = left }))

-- memory was refused, or each of those databases refuses the statement of this role in this way
abbrev pub IsRefusedAlone : TheName → Execution → Definitions → TableDefinition → Refusal → Type 0
IsRefusedAlone current run d t refusal = (refusal.0 ≡ OutOfMemory)
    ⊎ ((db : Database) (users : UserNames) → Describes d db → users.current ≡ current → run (alone t db) users ≡ Err refusal.0)
