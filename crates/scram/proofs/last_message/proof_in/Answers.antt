use Rattle.std.proofs.Common.{◌≡◌, ◌++◌, List, ℕ, ap, sym, ◌∙◌}
use Rattle.std.specs.Prelude.{codes, Option, Some, None, MatchOption, IfOk, Result, Ok, Err}
use Rattle.std.proofs.lemmas.List.{append_cancel_left}
use Rattle.scram_hashes.specs.Base64.{EncodesKey}
use Rattle.scram.proofs.last_message.proof_in.Goals as goal

pub returns-in_default-behind : goal.returns-in_default-behind
returns-in_default-behind c text proof it e =
    c.in_default-behind.ensures text
    (append_cancel_left c.args.expected.now c.in-Some.rest.now (codes ",p=" ++ text) (sym c.in-Some.ensures ∙ e))

same_text : (expected last one other : List ℕ) → last ≡ expected ++ (codes ",p=" ++ one) → last ≡ expected ++ (codes ",p=" ++ other) → one ≡ other
same_text expected last one other first second =
    append_cancel_left (codes ",p=") one other (append_cancel_left expected _ _ (sym first ∙ second))

decoded : {E : Type 0} (expected last text : List ℕ) (r : Result (Option (List ℕ)) E) → last ≡ expected ++ (codes ",p=" ++ text)
    → IfOk r (λ it. MatchOption it ((key : List ℕ) → EncodesKey text key → ⊥) (λ key. EncodesKey text key))
    → IfOk r (λ it. MatchOption it
    ((own proof : List ℕ) → EncodesKey own proof → last ≡ expected ++ (codes ",p=" ++ own) → ⊥)
    (λ proof. (own : List ℕ) × EncodesKey own proof × (last ≡ expected ++ (codes ",p=" ++ own))))
decoded expected last text (Err e) is h = tt
decoded expected last text (Ok None) is h = λ own proof encodes other.
    let same = same_text expected last own text other is in
    h proof (rw same at encodes)
decoded expected last text (Ok (Some key)) is h = (text, h, is)

pub returns : goal.returns
returns c =
    let is : c.args.last.now ≡ c.args.expected.now ++ (codes ",p=" ++ c.in-Some-behind.text.now) =
    c.in-Some.ensures ∙ ap (λ (l : List ℕ). c.args.expected.now ++ l) c.in-Some-behind.ensures in
    decoded c.args.expected.now c.args.last.now c.in-Some-behind.text.now c.decode_key.result is c.decode_key.ensures
