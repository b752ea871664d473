-- What is told of that with which a conversation began.
use Rattle.std.proofs.Common.{◌≡◌, ◌∙◌, ◌++◌, ◌∷◌, [], ◌<◌, ◌^◌, ℕ, List, sym, ap, subst, Option}
use Rattle.std.specs.Prelude.{codes, decimal, drop, map}
use Rattle.std.specs.Int.{w32}
use Rattle.std.proofs.lemmas.Grind.{flat_map-append}
use Rattle.std.proofs.lemmas.List.{append_cancel_left, append_cancel_right}
use Rattle.std.proofs.lemmas.List.Concat.{flat_map-cons}
use Rattle.talks.specs.declared.want.BlockStanding.TheVariants as standing
use Rattle.postgres_messages.specs.Backend.{authentication_ok, backend_key_data, reply_bytes}
use Rattle.postgres_messages.specs.Fields.{int32}
use Rattle.postgres_messages.specs.Reading.{number_at}
use Rattle.postgres_messages.proofs.Parts.{number32, some_is}
use Rattle.postgres_talks.specs.Moments.{greeting, setting_said, told_settings}
use Rattle.postgres_talks.specs.Sayings.{Saying, message, ready_said, said_bytes, saying_bytes}
use Rattle.base64.specs.GeneralPurpose.{IsBytes}
use Rattle.scram_hashes.specs.Base64.{base64}
use Rattle.scram_hashes.specs.Keys.{TheVerifier}
use Rattle.scram_hashes.proofs.Base64.{base64-injective}
use Rattle.scram.specs.Exchanges.{BeginsExchange, TheExchange, challenge}
use Rattle.scram.specs.Mocks.{TheMock}
use Rattle.protocol_laws.proofs.OneExchange.{one_basis, one_first}

-- behind the nonce of a challenge
abbrev behind_nonce : TheVerifier → List ℕ
behind_nonce v = codes ",s=" ++ (base64 v.salt ++ (codes ",i=" ++ decimal v.iterations))

pub drawn_as_told : (mock : TheMock) (role drawn other first : List ℕ) (stored : Option (List ℕ)) (x y : TheExchange) → IsBytes drawn → IsBytes other
    → BeginsExchange mock role stored drawn first x → BeginsExchange mock role stored other first y → challenge x ≡ challenge y → drawn ≡ other
drawn_as_told mock role drawn other first stored x y bytes others one two same =
    let parts = one_first first x.binding y.binding x.bare y.bare one.nonce two.nonce one.is_first two.is_first in
    let basis = one_basis mock role stored x.verifier y.verifier x.text y.text one.goes_by two.goes_by in
    let behind : x.nonce ++ behind_nonce x.verifier ≡ y.nonce ++ behind_nonce y.verifier = append_cancel_left (codes "r=") (x.nonce ++ behind_nonce x.verifier) (y.nonce ++ behind_nonce y.verifier) same in
    let nonces : x.nonce ≡ y.nonce = append_cancel_right x.nonce y.nonce (behind_nonce y.verifier) (subst (λ (v : TheVerifier). x.nonce ++ behind_nonce v ≡ y.nonce ++ behind_nonce y.verifier) basis.0 behind) in
    let texts : base64 drawn ≡ base64 other = append_cancel_left two.nonce (base64 drawn) (base64 other) (ap (λ (n : List ℕ). n ++ base64 drawn) (sym parts.2) ∙ sym one.nonce_is ∙ nonces ∙ two.nonce_is) in
    base64-injective drawn other bytes others texts

-- ---- the number of a process

-- what is said before it, and behind it
abbrev before_key : List Saying
before_key = message authentication_ok ∷ map setting_said told_settings

abbrev behind_key : List Saying
behind_key = ready_said standing.Outside ∷ []

greeting_bytes : (process : ℕ) → said_bytes (greeting process) ≡ said_bytes before_key ++ (reply_bytes (backend_key_data process 0) ++ said_bytes behind_key)
greeting_bytes process =
    flat_map-append saying_bytes before_key (message (backend_key_data process 0) ∷ behind_key)
    ∙ ap (λ (l : List ℕ). said_bytes before_key ++ l) (flat_map-cons saying_bytes (message (backend_key_data process 0)) behind_key)

key_as_told : (process other : ℕ) → process < 2 ^ 32 → other < 2 ^ 32 → reply_bytes (backend_key_data process 0) ≡ reply_bytes (backend_key_data other 0) → process ≡ other
key_as_told process other small small_there same =
    let body : int32 process ++ int32 0 ≡ int32 other ++ int32 0 = ap (drop 5) same in
    ap (λ (c : ℕ × List ℕ). c.0)
    (some_is (process, int32 0) (other, int32 0) (sym (number32.again process (int32 0) small) ∙ ap (number_at w32) body ∙ number32.again other (int32 0) small_there))

pub process_as_told : (process other : ℕ) → process < 2 ^ 32 → other < 2 ^ 32 → said_bytes (greeting process) ≡ said_bytes (greeting other) → process ≡ other
process_as_told process other small small_there same =
    let behind : reply_bytes (backend_key_data process 0) ++ said_bytes behind_key ≡ reply_bytes (backend_key_data other 0) ++ said_bytes behind_key =
    append_cancel_left (said_bytes before_key) (reply_bytes (backend_key_data process 0) ++ said_bytes behind_key) (reply_bytes (backend_key_data other 0) ++ said_bytes behind_key)
    (sym (greeting_bytes process) ∙ same ∙ greeting_bytes other) in
    key_as_told process other small small_there (append_cancel_right (reply_bytes (backend_key_data process 0)) (reply_bytes (backend_key_data other 0)) (said_bytes behind_key) behind)
