use Rattle.std.proofs.Common.{◌∙◌, length}
use Rattle.scram_hashes.specs.Base64.{Encodes}
use Rattle.scram_hashes.specs.VerifierText.{IsSaltSize}
use Rattle.scram_hashes.proofs.Base64.{same_Encodes}
use Rattle.scram_hashes.proofs.verifier.Verifier.from_text.Goals as goal

pub returns-then-not-may_be_salt : goal.returns-then-not-may_be_salt
returns-then-not-may_be_salt c verifier it =
    let parts = c.in-Some.ensures.complete verifier it.is_verifier it.text_is in
    let encodes : Encodes c.as_bytes-3.result.now c.in-Some-4.salt.items = rw c.in-Some-4.is at c.in_ok-salt.ensures in
    let own : Encodes c.as_bytes-3.result.now verifier.salt =
    record { are_bytes = it.is_verifier.salt_bytes; text_is = c.as_bytes-3.ensures.value ∙ parts.1 } in
    let same = same_Encodes c.as_bytes-3.result.now c.in-Some-4.salt.items verifier.salt encodes own in
    let may : IsSaltSize (length verifier.salt) = record { some = it.is_verifier.some_salt; short = it.is_verifier.short_salt } in
    let size : IsSaltSize (length c.as_slice.result.now) = rw (c.as_slice.ensures.value, same) may in
    let never = c.may_be_salt.ensures.1 size in
    let wrong = rw c.if-not-may_be_salt.true at never in
    cc wrong
