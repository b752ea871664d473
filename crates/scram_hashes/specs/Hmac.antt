-- HMAC with SHA-256 (RFC 2104, 2).
use Rattle.std.specs.Prelude.{ℕ, List, ◌++◌, ◌-◌, map, replicate, length, bit_xor, nat_le, if◌then◌else◌}
use Rattle.sha2.specs.Sha256.{sha256}
use Rattle.sha2.specs.Hashers.{Holds256}
use Rattle.scram_hashes.specs.declared.hmac.HmacKey.{HmacKey}

-- bytes, filled up with zeros to the 64 bytes that SHA-256 takes at once
abbrev pub filled_up : List ℕ → List ℕ
filled_up bytes = bytes ++ replicate (64 - length bytes) 0

-- the block that stands for a key: the key filled up, or its digest where it has over 64 bytes
abbrev pub key_block : List ℕ → List ℕ
key_block key = filled_up (if nat_le (length key) 64 then key else sha256 key)

-- each byte of the block, xor 0x36 and xor 0x5C
abbrev pub inner_block : List ℕ → List ℕ
inner_block key = map (λ byte. bit_xor byte 0x36) (key_block key)

abbrev pub outer_block : List ℕ → List ℕ
outer_block key = map (λ byte. bit_xor byte 0x5C) (key_block key)

-- H(K xor opad, H(K xor ipad, message))
unfoldable pub hmac_sha256 : List ℕ → List ℕ → List ℕ
hmac_sha256 key message = sha256 (outer_block key ++ sha256 (inner_block key ++ message))

-- what stands ready for a key: two hashers, each of which has taken one of its blocks
unfoldable pub IsReadyFor : List ℕ → HmacKey → Type 0
IsReadyFor key ready = Holds256 ready.inner (inner_block key) × Holds256 ready.outer (outer_block key)
