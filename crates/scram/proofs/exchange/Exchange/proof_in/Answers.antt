use Rattle.std.proofs.Common.{◌≡◌, ◌++◌, List, ℕ, refl, ap, sym, ◌∙◌, rules}
use Rattle.std.specs.Prelude.{codes, Option, Some, None, MatchOption, IfOk, Result, Ok, Err}
use Rattle.scram_hashes.specs.Base64.{base64, EncodesKey}
use Rattle.scram.specs.Messages.{final_bare}
use Rattle.scram.specs.Exchanges.{HasProof, TheExchange}
use Rattle.scram.proofs.exchange.Exchange.proof_in.Goals as goal

of_exchange : {E : Type 0} (x : TheExchange) (expected last : List ℕ) (r : Result (Option (List ℕ)) E) → expected ≡ final_bare x.binding x.nonce
    → IfOk r (λ it. MatchOption it
    ((text proof : List ℕ) → EncodesKey text proof → last ≡ expected ++ (codes ",p=" ++ text) → ⊥)
    (λ proof. (text : List ℕ) × EncodesKey text proof × (last ≡ expected ++ (codes ",p=" ++ text))))
    → IfOk r (λ it. MatchOption it ((proof : List ℕ) → HasProof x last proof → ⊥) (λ proof. HasProof x last proof))
of_exchange x expected last (Err e) is h = tt
of_exchange x expected last (Ok None) is h = λ proof has.
    h (base64 proof) proof
    (record { encodes = record { are_bytes = has.are_bytes; text_is = refl }; size = has.size })
    (has.last_is ∙ ap (λ (l : List ℕ). l ++ (codes ",p=" ++ base64 proof)) (sym is))
of_exchange x expected last (Ok (Some proof)) is h = record {
  size = h.1.size;
  are_bytes = h.1.encodes.are_bytes;
  last_is = h.2 ∙ ap (λ (l : List ℕ). l ++ (codes ",p=" ++ h.0)) is
      ∙ ap (λ (l : List ℕ). final_bare x.binding x.nonce ++ (codes ",p=" ++ l)) h.1.encodes.text_is;
}

pub returns : goal.returns
returns c =
    let is : c.deref-2.result.now ≡ final_bare c.args.self.now.binding c.args.self.now.nonce = search rules in
    of_exchange c.args.self.now c.deref-2.result.now c.args.last.now c.proof_in.result is c.proof_in.ensures
