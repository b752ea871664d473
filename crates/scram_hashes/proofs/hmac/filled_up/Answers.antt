use Rattle.std.proofs.Common.{ℕ, length, refl}
use Rattle.std.proofs.lemmas.List.{drop-replicate}
use Rattle.scram_hashes.proofs.hmac.filled_up.Goals as goal

pub returns : goal.returns
returns c = rw (c.copy_from_slice.ensures.after, drop-replicate {X = ℕ} (length c.args.bytes.now) 64 0) refl
