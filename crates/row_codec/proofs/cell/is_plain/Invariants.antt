use Rattle.std.proofs.Common.{◌<◌, ◌≢◌, ℕ, get_or}
use Rattle.row_codec.proofs.cell.is_plain.Given as goal

-- each byte so far is ASCII, and none is zero
abbrev pub invariant-loop-byte : goal.invariant-loop-byte
invariant-loop-byte l = (k : ℕ) → k < l.byte-index → (get_or l.bytes k 0 ≢ 0) × (get_or l.bytes k 0 < 128)
