-- What a store contains, and what a batch makes of it.
use Rattle.storage_sizes.specs.declared.record_format.RecordFormat.{RecordFormat}
use Rattle.store.specs.Records.{Changes, applied}
use Rattle.store.specs.Store.{Contents}

-- the records after the changes of a batch, which are of this record format then
abbrev pub changed_in : RecordFormat → Changes → Contents → Contents
changed_in record_format changes contents = record { record_format = record_format; records = applied changes contents.records }

-- the records after the changes of a batch, spelled as they were
abbrev pub changed_by_batch : Changes → Contents → Contents
changed_by_batch changes contents = changed_in contents.record_format changes contents
