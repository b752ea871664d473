-- The texts of verifiers.
use Rattle.std.proofs.Common.{◌≡◌, ◌≢◌, ◌≤◌, ◌<◌, ◌^◌, ◌++◌, ◌∷◌, List, ℕ, arith, get_or, ap, sym, ◌∙◌}
use Rattle.std.specs.Prelude.{All, decimal, codes}
use Rattle.std.proofs.lemmas.List.{append_cancel_left}
use Rattle.std.proofs.lemmas.List.Elements.{All-from_get_or, All-from_recursion}
use Rattle.std.proofs.lemmas.Fmt.{decimal_injective, decimal_is_IsNumeral}
use Rattle.std.proofs.lemmas.Str.Parse.{digit_at}
use Rattle.scram_hashes.specs.Base64.{base64}
use Rattle.scram_hashes.specs.Keys.{IsVerifier, TheVerifier}
use Rattle.scram_hashes.specs.VerifierText.{SpellsVerifier, verifier_text}
use Rattle.scram_hashes.proofs.Base64.{base64-injective, base64_lacks_colon, base64_lacks_dollar}
use Rattle.scram_hashes.proofs.Cuts.{same_cut}

-- digits alone
pub decimal_lacks : (n c : ℕ) → n < 2 ^ 64 → 57 < c → All (λ b. b ≢ c) (decimal n)
decimal_lacks n c small above = All-from_get_or (λ b. b ≢ c) (decimal n) 0 (λ i below e.
    let digit = digit_at (decimal n) i (decimal_is_IsNumeral n small).0.1 below in
    let limit : get_or (decimal n) i 0 ≤ 57 = digit.1 in omega arith)

pub count_lacks : (v : TheVerifier) → IsVerifier v → All (λ b. b ≢ 58) (decimal v.iterations)
count_lacks v is = decimal_lacks v.iterations 58 (omega (arith, is.most)) (omega arith)

abbrev verifier_by : List ℕ → ℕ → List ℕ → List ℕ → TheVerifier
verifier_by salt iterations stored server = record { salt = salt; iterations = iterations; stored_key = stored; server_key = server }

same_parts : (v w : TheVerifier) → v.salt ≡ w.salt → v.iterations ≡ w.iterations → v.stored_key ≡ w.stored_key → v.server_key ≡ w.server_key → v ≡ w
same_parts v w salt iterations stored server =
    ap (λ x. verifier_by x v.iterations v.stored_key v.server_key) salt
    ∙ ap (λ x. verifier_by w.salt x v.stored_key v.server_key) iterations
    ∙ ap (λ x. verifier_by w.salt w.iterations x v.server_key) stored
    ∙ ap (λ x. verifier_by w.salt w.iterations w.stored_key x) server

-- a text spells one verifier
pub same_Spells : (text : List ℕ) (v w : TheVerifier) → SpellsVerifier text v → SpellsVerifier text w → v ≡ w
same_Spells text v w one two =
    let whole : verifier_text v ≡ verifier_text w = sym one.text_is ∙ two.text_is in
    let rest = append_cancel_left (codes "SCRAM-SHA-256$") _ _ whole in
    let counts = same_cut 58 (decimal v.iterations) _ (decimal w.iterations) _ (count_lacks v one.is_verifier) (count_lacks w two.is_verifier) rest in
    let salts = same_cut 36 (base64 v.salt) _ (base64 w.salt) _ (base64_lacks_dollar v.salt) (base64_lacks_dollar w.salt) counts.1 in
    let keys = same_cut 58 (base64 v.stored_key) _ (base64 w.stored_key) _ (base64_lacks_colon v.stored_key) (base64_lacks_colon w.stored_key) salts.1 in
    same_parts v w
    (base64-injective v.salt w.salt one.is_verifier.salt_bytes two.is_verifier.salt_bytes salts.0)
    (decimal_injective v.iterations w.iterations (omega (arith, one.is_verifier.most)) (omega (arith, two.is_verifier.most)) counts.0)
    (base64-injective v.stored_key w.stored_key one.is_verifier.stored_bytes two.is_verifier.stored_bytes keys.0)
    (base64-injective v.server_key w.server_key one.is_verifier.server_bytes two.is_verifier.server_bytes keys.1)

-- what stands behind each sign of a verifier's text
abbrev pub behind_stored_key : TheVerifier → List ℕ
behind_stored_key v = base64 v.server_key

abbrev pub behind_salt : TheVerifier → List ℕ
behind_salt v = base64 v.stored_key ++ 58 ∷ behind_stored_key v

abbrev pub behind_count : TheVerifier → List ℕ
behind_count v = base64 v.salt ++ 36 ∷ behind_salt v

abbrev pub behind_scheme : TheVerifier → List ℕ
behind_scheme v = decimal v.iterations ++ 58 ∷ behind_count v

pub scheme_lacks : All (λ b. b ≢ 36) (codes "SCRAM-SHA-256")
scheme_lacks = All-from_recursion (λ b. b ≢ 36) (codes "SCRAM-SHA-256") (
  (λ e. cc e),
  (
    (λ e. cc e),
    (
      (λ e. cc e),
      (
        (λ e. cc e),
        (
          (λ e. cc e),
          (
            (λ e. cc e),
            (
              (λ e. cc e),
              ((λ e. cc e), ((λ e. cc e), ((λ e. cc e), ((λ e. cc e), ((λ e. cc e), ((λ e. cc e), tt)))))),
            ),
          ),
        ),
      ),
    ),
  ),
)
