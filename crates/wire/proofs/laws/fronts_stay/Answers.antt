use Rattle.wire.proofs.NextFrames.{more_whole, more_bad, whole_size, whole_alone}
use Rattle.wire.proofs.laws.fronts_stay.Goals as goal

pub returns-clause-whole : goal.returns-clause-whole
returns-clause-whole c = λ e size bytes more is. ((whole_size bytes e size is).1, more_whole bytes more e size is)

pub returns-clause-bad : goal.returns-clause-bad
returns-clause-bad c = λ bytes more is. more_bad bytes more is

pub returns-clause-alone : goal.returns-clause-alone
returns-clause-alone c = λ e size bytes is. whole_alone bytes e size is
