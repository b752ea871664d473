use Rattle.wire.proofs.Streams.{one_reading, reading, spells_bad}
use Rattle.wire.proofs.laws.one_reading.Goals as goal

pub returns-clause-some : goal.returns-clause-some
returns-clause-some c = reading

pub returns-clause-one : goal.returns-clause-one
returns-clause-one c = one_reading

pub returns-clause-ended : goal.returns-clause-ended
returns-clause-ended c = spells_bad
