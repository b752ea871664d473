use Rattle.scram_hashes.specs.Hmac.{IsReadyFor, hmac_sha256, inner_block, outer_block}
use Rattle.scram_hashes.proofs.hmac.HmacKey.code.Goals as goal

pub returns : goal.returns
unfolding IsReadyFor hmac_sha256
returns c key ready =
    let inner = c.digest_with.ensures (inner_block key) ready.0 in
    rw inner at c.digest_with-2.ensures (outer_block key) ready.1
