use Rattle.journal.proofs.Rising.{one_batch_read, one_spelling}
use Rattle.journal.proofs.record_laws.one_batch.Goals as goal

pub returns-clause-batch : goal.returns-clause-batch
returns-clause-batch c bytes changes other = one_batch_read bytes changes other

pub returns-clause-bytes : goal.returns-clause-bytes
returns-clause-bytes c bytes other changes = one_spelling bytes other changes
