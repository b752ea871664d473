-- What a statement that defines something comes to.
use Rattle.std.specs.Prelude.{Option, Some, None}
use Rattle.sql_types.specs.declared.answer.Answer.TheVariants.{Done}
use Rattle.sql_types.specs.declared.tag.Tag.{Tag}
use Rattle.sql_types.specs.declared.warning.Warning.{Warning}
use Rattle.store.specs.Records.{Changes}
use Rattle.catalogue.specs.declared.change.SchemaChange.{SchemaChange}
use Rattle.catalogue.specs.declared.effect.Effect.{Effect}

-- it is answered by its tag and its warning, if any; these are its changes of records and its change of the definitions
abbrev pub effect_defined : Tag → Option Warning → Changes → SchemaChange → Effect
effect_defined tag warning changes change = record { answer = Done tag None warning; changes = changes; schema = Some change }
