-- What the holder of the writer lock sees.
use Rattle.std.specs.Prelude.{Bool, false, Option, Some, None, is_some}
use Rattle.store.specs.Records.{Records}
use Rattle.stored_database.specs.Definitions.{Definitions}
use Rattle.transactions.specs.Views.{applied_all}
use Rattle.server.specs.declared.writer.Writer.{Writer}

-- the definitions after a change of them, or those before where there was none
abbrev pub definitions_or : Option Definitions → Definitions → Definitions
definitions_or None d = d
definitions_or (Some after) d = after

-- the records under the changes of the writer lock, if it is held
abbrev pub records_under : Option Writer → Records → Records
records_under None records = records
records_under (Some writer) records = applied_all writer.lists records

-- and the definitions
abbrev pub definitions_under : Option Writer → Definitions → Definitions
definitions_under None d = d
definitions_under (Some writer) d = definitions_or writer.catalogue d

-- it is held, and its session has changed them
abbrev pub changes_definitions : Option Writer → Bool
changes_definitions None = false
changes_definitions (Some writer) = is_some writer.catalogue
