use Rattle.std.proofs.Common.{ap, ◌∙◌, sym}
use Rattle.std.specs.Prelude.{codes}
use Rattle.sha2.specs.Sha256.{sha256}
use Rattle.scram_hashes.specs.Hmac.{hmac_sha256}
use Rattle.scram_hashes.specs.Pbkdf2.{hi}
use Rattle.scram_hashes.specs.Keys.{client_key, stored_key_of}
use Rattle.scram_hashes.proofs.Xor.{length-hmac_sha256, xor_bytes-twice}
use Rattle.scram_hashes.proofs.laws.password_shows.Goals as goal

pub returns : goal.returns
returns c password salt messages iterations =
    let salted = hi password salt iterations in
    ap sha256 (xor_bytes-twice (client_key salted) (hmac_sha256 (stored_key_of salted) messages)
    (length-hmac_sha256 salted (codes "Client Key") ∙ sym (length-hmac_sha256 (stored_key_of salted) messages)))
