use Rattle.std.proofs.Common.{◌++◌}
use Rattle.std.proofs.lemmas.List.{append_assoc}
use Rattle.scram_hashes.specs.Hmac.{IsReadyFor, hmac_sha256, inner_block, outer_block}
use Rattle.scram_hashes.proofs.hmac.HmacKey.code_of_both.Goals as goal

pub returns : goal.returns
unfolding IsReadyFor hmac_sha256
returns c key ready =
    let begun = c.fed-begun.ensures (inner_block key) ready.0 in
    let inner = c.digest_with.ensures (inner_block key ++ c.args.beginning.now) begun in
    rw (inner, append_assoc (inner_block key) c.args.beginning.now c.args.end.now)
    at c.digest_with-2.ensures (outer_block key) ready.1
