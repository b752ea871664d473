use Rattle.scram_hashes.specs.Hmac.{IsReadyFor}
use Rattle.scram_hashes.proofs.hmac.HmacKey.new.Goals as goal

pub returns : goal.returns
unfolding IsReadyFor
returns c = (
  rw (c.xor_each.ensures, c.key_block-block.ensures) at c.new_with_prefix.ensures,
  rw (c.xor_each-2.ensures, c.key_block-block.ensures) at c.new_with_prefix-2.ensures,
)
