-- Last messages: the one proof that one has, and what was drawn before it.
use Rattle.std.proofs.Common.{◌≡◌, ◌++◌, ◌+◌, List, ℕ, length, arith, ap, sym, ◌∙◌}
use Rattle.std.specs.Prelude.{codes, drop}
use Rattle.std.proofs.lemmas.List.{append_assoc, append_cancel_left, append_cancel_right, length-append}
use Rattle.std.proofs.Math.Seq.{drop-append_seam}
use Rattle.base64.specs.GeneralPurpose.{IsBytes}
use Rattle.scram_hashes.specs.Base64.{base64}
use Rattle.scram_hashes.specs.Keys.{TheVerifier}
use Rattle.scram_hashes.proofs.Base64.{base64-injective, length-base64}
use Rattle.scram.specs.declared.messages.Binding.{Binding}
use Rattle.scram.specs.Messages.{final_bare, header, whole_nonce}
use Rattle.scram.specs.Exchanges.{Authenticates, HasProof, TheExchange}

-- a last message has one proof
pub one_proof : (x : TheExchange) (last a b : List ℕ) → HasProof x last a → HasProof x last b → a ≡ b
one_proof x last a b one other =
    let whole = sym one.last_is ∙ other.last_is in
    let behind = append_cancel_left (final_bare x.binding x.nonce) _ _ whole in
    base64-injective a b one.are_bytes other.are_bytes (append_cancel_left (codes ",p=") _ _ behind)

-- ends of one length, of one text
pub same_ends : (xs ys s t : List ℕ) → xs ++ s ≡ ys ++ t → length s ≡ length t → s ≡ t
same_ends xs ys s t e sizes =
    let whole : length xs + length s ≡ length ys + length t = sym (length-append xs s) ∙ ap length e ∙ length-append ys t in
    let fronts : length xs ≡ length ys = omega arith in
    sym (drop-append_seam xs s) ∙ ap (drop (length xs)) e ∙ ap (λ n. drop n (ys ++ t)) fronts ∙ drop-append_seam ys t

-- all of a last message that stands before what was drawn
abbrev before_drawn : Binding → List ℕ → List ℕ
before_drawn binding nonce = codes "c=" ++ (base64 (header binding) ++ (codes ",r=" ++ nonce))

drawn_last : (binding : Binding) (nonce drawn : List ℕ) → final_bare binding (whole_nonce nonce drawn) ≡ before_drawn binding nonce ++ base64 drawn
drawn_last binding nonce drawn =
    sym (append_assoc (codes "c=") (base64 (header binding) ++ (codes ",r=" ++ nonce)) (base64 drawn)
    ∙ ap (λ (l : List ℕ). codes "c=" ++ l) (append_assoc (base64 (header binding)) (codes ",r=" ++ nonce) (base64 drawn)
    ∙ ap (λ (l : List ℕ). base64 (header binding) ++ l) (append_assoc (codes ",r=") nonce (base64 drawn))))

-- one last message answers one draw
pub same_drawn : (v w : TheVerifier) (drawn other first second last : List ℕ) → IsBytes drawn → IsBytes other → length drawn ≡ length other
    → Authenticates v drawn first last → Authenticates w other second last → drawn ≡ other
same_drawn v w drawn other first second last bytes others sizes one two =
    let tail = codes ",p=" ++ base64 one.proof in
    let other_tail = codes ",p=" ++ base64 two.proof in
    let front = before_drawn one.binding one.nonce ++ base64 drawn in
    let other_front = before_drawn two.binding two.nonce ++ base64 other in
    let same : front ++ tail ≡ other_front ++ other_tail =
    ap (λ (l : List ℕ). l ++ tail) (sym (drawn_last one.binding one.nonce drawn)) ∙ sym one.last_is ∙ two.last_is
    ∙ ap (λ (l : List ℕ). l ++ other_tail) (drawn_last two.binding two.nonce other) in
    let proofs = length-base64 one.proof two.proof (one.size ∙ sym two.size) in
    let tails : length tail ≡ length other_tail =
    length-append (codes ",p=") (base64 one.proof) ∙ ap (λ n. 3 + n) proofs ∙ sym (length-append (codes ",p=") (base64 two.proof)) in
    let ends : tail ≡ other_tail = same_ends front other_front tail other_tail same tails in
    let fronts : front ≡ other_front = append_cancel_right front other_front other_tail (rw ends at same) in
    base64-injective drawn other bytes others
    (same_ends (before_drawn one.binding one.nonce) (before_drawn two.binding two.nonce) (base64 drawn) (base64 other) fronts (length-base64 drawn other sizes))
