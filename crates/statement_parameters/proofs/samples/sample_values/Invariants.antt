use Rattle.std.proofs.Common.{◌≡◌, ◌+◌, ◌++◌, length}
use Rattle.statement_parameters.specs.Samples.{sample_values}
use Rattle.statement_parameters.proofs.samples.sample_values.Given as goal

-- what was made, and the samples of the rest, are all
abbrev pub invariant-loop-rest : goal.invariant-loop-rest
invariant-loop-rest l = record {
  place : l.index + length l.rest ≡ length l.types;
  whole : sample_values l.at l.candidate 0 l.types ≡ l.values.items ++ sample_values l.at l.candidate l.index l.rest;
}

abbrev pub decreases-loop-rest : goal.decreases-loop-rest
decreases-loop-rest l = length l.rest
