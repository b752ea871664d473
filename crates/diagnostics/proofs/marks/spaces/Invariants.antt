use Rattle.std.proofs.Common.{◌≡◌, take}
use Rattle.diagnostics.specs.Marks.{spaces}
use Rattle.diagnostics.proofs.marks.spaces.Given as goal

abbrev pub invariant-loop-byte : goal.invariant-loop-byte
invariant-loop-byte l = l.spaces.bytes.items ≡ spaces (take l.byte-index l.text)
