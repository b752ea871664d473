use Rattle.scram_hashes.proofs.verifier.Verifier.from_keys.Goals as goal

pub invariant_of-result : goal.invariant_of-result
invariant_of-result c = record {
  some_salt = c.requires.size.some;
  short_salt = c.requires.size.short;
  salt_bytes = rw c.deref.ensures.value at c.told_of_bytes.ensures;
  least = c.requires.count.least;
  most = c.requires.count.most;
  stored_size = c.told_of_key.ensures.size;
  stored_bytes = c.told_of_key.ensures.bytes;
  server_size = c.told_of_key-2.ensures.size;
  server_bytes = c.told_of_key-2.ensures.bytes;
}
