-- How new records are spelled.
use Rattle.storage_sizes.specs.declared.record_format.RecordFormat.{RecordFormat}
use Rattle.storage_sizes.specs.declared.record_format.RecordFormat.TheVariants.{V2}

-- the record format in which databases are made
unfoldable pub current : RecordFormat
current = V2
