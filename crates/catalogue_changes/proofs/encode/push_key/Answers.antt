use Rattle.std.proofs.Common.{arith}
use Rattle.catalogue_changes.proofs.KeyLemmas.{key_few, index_small}
use Rattle.catalogue_changes.proofs.encode.push_key.Goals as goal

pub overflow_cast-key : goal.overflow_cast-key
overflow_cast-key c = let h = key_few c.args.columns.now c.key-key.ensures.layout c.key-key.result.now c.key-key.ensures.key in omega (arith, h)

pub overflow_cast-index : goal.overflow_cast-index
overflow_cast-index c = let h = index_small c.args.columns.now c.key-key.ensures.layout c.key-key.result.now c.key-key.ensures.key c.loop-index.index-index in omega (arith, h)
