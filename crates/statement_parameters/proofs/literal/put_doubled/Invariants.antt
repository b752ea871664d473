use Rattle.std.proofs.Common.{◌≡◌, ◌++◌, take}
use Rattle.std.specs.List.{flat_map}
use Rattle.statement_parameters.specs.Parts.{doubled_quote}
use Rattle.statement_parameters.proofs.literal.put_doubled.Given as goal

abbrev pub invariant-loop-byte : goal.invariant-loop-byte
invariant-loop-byte l = l.out.items ≡ l.fn.out.items ++ flat_map doubled_quote (take l.byte-index l.text)
