use Rattle.std.proofs.Common.{◌≡◌, List, ℕ, length, ap, ◌∙◌}
use Rattle.std.specs.Prelude.{Some, None, MatchOption, Option, ◌≢◌}
use Rattle.scram_hashes.specs.Base64.{Encodes, EncodesKey}
use Rattle.scram_hashes.proofs.Base64.{same_Encodes}
use Rattle.scram_hashes.proofs.decoding.decode_key.Goals as goal

key_or_none : (text bytes : List ℕ) (r : Option (List ℕ)) → Encodes text bytes
    → MatchOption r (length bytes ≢ 32) (λ array. (length bytes ≡ 32) × (array ≡ bytes))
    → MatchOption r ((key : List ℕ) → EncodesKey text key → ⊥) (λ key. EncodesKey text key)
key_or_none text bytes None encodes other = λ key it. other (ap length (same_Encodes text bytes key encodes it.encodes) ∙ it.size)
key_or_none text bytes (Some array) encodes found = record { encodes = rw found.1 encodes; size = ap length found.1 ∙ found.0 }

pub returns : goal.returns
returns c =
    let encodes : Encodes c.args.text.now c.in-Some.bytes.items = rw c.in-Some.is at c.in_ok-bytes.ensures in
    key_or_none c.args.text.now c.in-Some.bytes.items c.array_of.result encodes (rw c.as_slice.ensures.value at c.array_of.ensures)
