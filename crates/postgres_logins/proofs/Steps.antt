-- What a step has said, where it may fail for memory.
use Rattle.std.proofs.Common.{◌≡◌, ◌∙◌, ℕ, List, [], ◌++◌, sym, subst}
use Rattle.std.specs.Prelude.{Option, Result, Ok, Err, IfOk, MatchOption, OnOk}
use Rattle.std.proofs.lemmas.List.{append-nil}
use Rattle.scram.specs.Exchanges.{TheExchange, BeginsExchange, IsNoFirst, IsRefusedLogin, IsShownLogin, messages}
use Rattle.scram.specs.Messages.{server_final}
use Rattle.scram.specs.Mocks.{TheMock}
use Rattle.password_talks.specs.declared.login.PasswordPlace.{PasswordPlace}
use Rattle.postgres_logins.specs.declared.stage.SaslStage.{SaslStage}
use Rattle.postgres_logins.specs.declared.login.SaslLogin.{SaslLogin}
use Rattle.postgres_logins.specs.Logins.{FindsStored, HearsIn}

module _ {A E : Type 0} (r : Result A E) (before after : List ℕ) where
  -- what was said meets one rule, and so another
  pub weaker : (P Q : List ℕ → Type 0) → ((said : List ℕ) → P said → Q said)
      → OnOk r ((said : List ℕ) × P said × (after ≡ before ++ said)) → OnOk r ((said : List ℕ) × Q said × (after ≡ before ++ said))
  weaker P Q f = elim r as (λ q. OnOk q ((said : List ℕ) × P said × (after ≡ before ++ said)) → OnOk q ((said : List ℕ) × Q said × (after ≡ before ++ said))) [
    | Ok a ↦ λ it. (it.0, f it.0 it.1, it.2)
    | Err e ↦ λ it. tt
  ]

  -- nothing was said
  pub says_nothing : (S : Type 0) (Q : List ℕ → Type 0) → (S → Q []) → after ≡ before → OnOk r S → OnOk r ((said : List ℕ) × Q said × (after ≡ before ++ said))
  says_nothing S Q f same = elim r as (λ q. OnOk q S → OnOk q ((said : List ℕ) × Q said × (after ≡ before ++ said))) [
    | Ok a ↦ λ it. ([], f it, same ∙ sym (append-nil before))
    | Err e ↦ λ it. tt
  ]

  -- this was said
  pub says_this : (S : Type 0) (Q : List ℕ → Type 0) (saying : List ℕ) → (S → Q saying) → OnOk r (S × (after ≡ before ++ saying)) → OnOk r ((said : List ℕ) × Q said × (after ≡ before ++ said))
  says_this S Q saying f = elim r as (λ q. OnOk q (S × (after ≡ before ++ saying)) → OnOk q ((said : List ℕ) × Q said × (after ≡ before ++ said))) [
    | Ok a ↦ λ it. (saying, f it.0, it.1)
    | Err e ↦ λ it. tt
  ]

module _ {A E : Type 0} (r : Result A E) (place : PasswordPlace) (drawn : List ℕ) (new : SaslLogin) (before after : List ℕ) where
  -- by the stage at which a message is heard
  pub hears_so : (s t : SaslStage) (message : List ℕ) → s ≡ t
      → OnOk r ((said : List ℕ) × HearsIn t message place drawn said new × (after ≡ before ++ said))
      → OnOk r ((said : List ℕ) × HearsIn s message place drawn said new × (after ≡ before ++ said))
  hears_so s t message same it = subst (λ (a : SaslStage). OnOk r ((said : List ℕ) × HearsIn a message place drawn said new × (after ≡ before ++ said))) (sym same) it

  -- by the stage at which it was looked up
  pub finds_so : (s t : SaslStage) (stored : Option (List ℕ)) → s ≡ t
      → OnOk r ((said : List ℕ) × FindsStored t place drawn stored said new × (after ≡ before ++ said))
      → OnOk r ((said : List ℕ) × FindsStored s place drawn stored said new × (after ≡ before ++ said))
  finds_so s t stored same it = subst (λ (a : SaslStage). OnOk r ((said : List ℕ) × FindsStored a place drawn stored said new × (after ≡ before ++ said))) (sym same) it

-- the exchange that was begun, by the arguments as they were passed
pub begun_so : {E : Type 0} (r : Result (Option TheExchange) E) (mock : TheMock) (role own first : List ℕ) (stored text : Option (List ℕ)) (drawn : List ℕ)
    → role ≡ own → stored ≡ text
    → IfOk r (λ it. MatchOption it (IsNoFirst first) (λ x. BeginsExchange mock role stored drawn first x))
    → IfOk r (λ it. MatchOption it (IsNoFirst first) (λ x. BeginsExchange mock own text drawn first x))
begun_so r mock role own first stored text drawn a b h =
    subst (λ (o : Option (List ℕ)). IfOk r (λ it. MatchOption it (IsNoFirst first) (λ x. BeginsExchange mock own o drawn first x))) b
    (subst (λ (l : List ℕ). IfOk r (λ it. MatchOption it (IsNoFirst first) (λ x. BeginsExchange mock l stored drawn first x))) a h)

-- what was shown, by the arguments as they were passed
pub shown_so : {S E : Type 0} (r : Result (Option S) E) (text_of message_of : S → List ℕ) (x : TheExchange) (last message : List ℕ) (stored text : Option (List ℕ))
    → last ≡ message → stored ≡ text
    → IfOk r (λ it. MatchOption it (IsRefusedLogin x last stored) (λ s. IsShownLogin x last stored (text_of s) × (message_of s ≡ server_final x.verifier (messages x))))
    → IfOk r (λ it. MatchOption it (IsRefusedLogin x message text) (λ s. IsShownLogin x message text (text_of s) × (message_of s ≡ server_final x.verifier (messages x))))
shown_so r text_of message_of x last message stored text a b h =
    subst (λ (o : Option (List ℕ)). IfOk r (λ it. MatchOption it (IsRefusedLogin x message o) (λ s. IsShownLogin x message o (text_of s) × (message_of s ≡ server_final x.verifier (messages x))))) b
    (subst (λ (l : List ℕ). IfOk r (λ it. MatchOption it (IsRefusedLogin x l stored) (λ s. IsShownLogin x l stored (text_of s) × (message_of s ≡ server_final x.verifier (messages x))))) a h)
