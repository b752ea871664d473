use Rattle.std.proofs.Common.{◌≡◌, take, flat_map}
use Rattle.wire.specs.AnswerText.{escaped}
use Rattle.wire.proofs.answers.is_plain.Given as goal

abbrev pub invariant-loop-byte : goal.invariant-loop-byte
invariant-loop-byte l = flat_map escaped (take l.byte-index l.text) ≡ take l.byte-index l.text
