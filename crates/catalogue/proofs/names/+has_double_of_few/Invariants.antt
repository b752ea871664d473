use Rattle.std.proofs.Common.{length}
use Rattle.catalogue.proofs.names.+has_double_of_few.Given as goal

abbrev pub decreases-has_double_of_few : goal.decreases-has_double_of_few
decreases-has_double_of_few l = length l.names.now
