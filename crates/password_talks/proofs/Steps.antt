-- What an exchange does once a verifier was looked up.
use Rattle.std.proofs.Common.{◌≡◌, ◌∙◌, ℕ, List, [], ◌++◌, refl, ap, sym, subst}
use Rattle.std.specs.Prelude.{Option, Result, Ok, Err, IfOk, MatchOption, OnOk}
use Rattle.std.proofs.lemmas.List.{append-nil}
use Rattle.sql_types.specs.declared.state.SqlState.TheVariants.{InvalidAuthorization}
use Rattle.scram.specs.Exchanges.{TheExchange, BeginsExchange, IsNoFirst, IsRefusedLogin, IsShownLogin, challenge, messages}
use Rattle.scram.specs.Messages.{server_final}
use Rattle.scram.specs.Mocks.{TheMock, StoresNone}
use Rattle.talks.specs.declared.want.Want.TheVariants as want
use Rattle.password_talks.specs.declared.stage.LoginStage.{LoginStage}
use Rattle.password_talks.specs.declared.stage.LoginStage.TheVariants as stage
use Rattle.password_talks.specs.declared.login.Login.{Login}
use Rattle.password_talks.specs.declared.login.PasswordPlace.{PasswordPlace}
use Rattle.password_talks.specs.EarlyFrames.{message_frame}
use Rattle.password_talks.specs.Logins.{Challenges, FindsAt, IsMockOf, RefusesLogin, AnswersLast, MakesMock, StandsSo, begins_none, challenged, has_shown_none, is_let_in, lacks, made, verifier_of}

-- the exchange that was begun, by the arguments as they were passed
pub begun_so : {E : Type 0} (r : Result (Option TheExchange) E) (mock : TheMock) (role own first message : List ℕ) (stored text : Option (List ℕ)) (drawn : List ℕ)
    → role ≡ own → first ≡ message → stored ≡ text
    → IfOk r (λ it. MatchOption it (IsNoFirst first) (λ x. BeginsExchange mock role stored drawn first x))
    → IfOk r (λ it. MatchOption it (IsNoFirst message) (λ x. BeginsExchange mock own text drawn message x))
begun_so r mock role own first message stored text drawn a b c h =
    subst (λ (o : Option (List ℕ)). IfOk r (λ it. MatchOption it (IsNoFirst message) (λ x. BeginsExchange mock own o drawn message x))) c
    (subst (λ (l : List ℕ). IfOk r (λ it. MatchOption it (IsNoFirst l) (λ x. BeginsExchange mock own stored drawn l x))) b
    (subst (λ (l : List ℕ). IfOk r (λ it. MatchOption it (IsNoFirst first) (λ x. BeginsExchange mock l stored drawn first x))) a h))

-- what was shown, by the arguments as they were passed
pub shown_so : {S E : Type 0} (r : Result (Option S) E) (text_of message_of : S → List ℕ) (x : TheExchange) (last message : List ℕ) (stored text : Option (List ℕ))
    → last ≡ message → stored ≡ text
    → IfOk r (λ it. MatchOption it (IsRefusedLogin x last stored) (λ s. IsShownLogin x last stored (text_of s) × (message_of s ≡ server_final x.verifier (messages x))))
    → IfOk r (λ it. MatchOption it (IsRefusedLogin x message text) (λ s. IsShownLogin x message text (text_of s) × (message_of s ≡ server_final x.verifier (messages x))))
shown_so r text_of message_of x last message stored text a b h =
    subst (λ (o : Option (List ℕ)). IfOk r (λ it. MatchOption it (IsRefusedLogin x message o) (λ s. IsShownLogin x message o (text_of s) × (message_of s ≡ server_final x.verifier (messages x))))) b
    (subst (λ (l : List ℕ). IfOk r (λ it. MatchOption it (IsRefusedLogin x l stored) (λ s. IsShownLogin x l stored (text_of s) × (message_of s ≡ server_final x.verifier (messages x))))) a h)

module _ {A E : Type 0} (r : Result A E) (place : PasswordPlace) (drawn : List ℕ) (new : Login) (before after : List ℕ) where
  pub mock_made : (label : ℕ) (role first : List ℕ) (stored : Option (List ℕ)) (mock : TheMock) → IsMockOf stored mock → after ≡ before
      → OnOk r (StandsSo place drawn (stage.Mocked label role first mock) (verifier_of place role) new)
      → OnOk r ((said : List ℕ) × MakesMock place drawn label role first stored said new × (after ≡ before ++ said))
  mock_made label role first stored mock is_mock same = elim r as (λ q. OnOk q (StandsSo place drawn (stage.Mocked label role first mock) (verifier_of place role) new)
      → OnOk q ((said : List ℕ) × MakesMock place drawn label role first stored said new × (after ≡ before ++ said))) [
        | Ok a ↦ λ so. ([], made mock is_mock refl so, same ∙ sym (append-nil before))
        | Err e ↦ λ so. tt
      ]

  pub mock_lacks : (label : ℕ) (role first : List ℕ) (stored : Option (List ℕ)) → StoresNone stored
      → OnOk r ((said : List ℕ) × RefusesLogin place drawn label InvalidAuthorization said new × (after ≡ before ++ said))
      → OnOk r ((said : List ℕ) × MakesMock place drawn label role first stored said new × (after ≡ before ++ said))
  mock_lacks label role first stored none = elim r as (λ q. OnOk q ((said : List ℕ) × RefusesLogin place drawn label InvalidAuthorization said new × (after ≡ before ++ said))
      → OnOk q ((said : List ℕ) × MakesMock place drawn label role first stored said new × (after ≡ before ++ said))) [
        | Ok a ↦ λ it. (it.0, lacks none it.1, it.2)
        | Err e ↦ λ it. tt
      ]

  pub is_challenged : (label : ℕ) (role first : List ℕ) (mock : TheMock) (stored : Option (List ℕ)) (x : TheExchange) → BeginsExchange mock role stored drawn first x
      → OnOk r (StandsSo place drawn (stage.Challenged label role x) want.Message new × (after ≡ before ++ message_frame label (challenge x)))
      → OnOk r ((said : List ℕ) × Challenges place drawn label role first mock stored said new × (after ≡ before ++ said))
  is_challenged label role first mock stored x begun =
      elim r as (λ q. OnOk q (StandsSo place drawn (stage.Challenged label role x) want.Message new × (after ≡ before ++ message_frame label (challenge x)))
      → OnOk q ((said : List ℕ) × Challenges place drawn label role first mock stored said new × (after ≡ before ++ said))) [
        | Ok a ↦ λ it. (message_frame label (challenge x), challenged x begun refl it.0, it.1)
        | Err e ↦ λ it. tt
      ]

  pub is_no_first : (label : ℕ) (role first : List ℕ) (mock : TheMock) (stored : Option (List ℕ)) → IsNoFirst first
      → OnOk r ((said : List ℕ) × RefusesLogin place drawn label InvalidAuthorization said new × (after ≡ before ++ said))
      → OnOk r ((said : List ℕ) × Challenges place drawn label role first mock stored said new × (after ≡ before ++ said))
  is_no_first label role first mock stored none = elim r as (λ q. OnOk q ((said : List ℕ) × RefusesLogin place drawn label InvalidAuthorization said new × (after ≡ before ++ said))
      → OnOk q ((said : List ℕ) × Challenges place drawn label role first mock stored said new × (after ≡ before ++ said))) [
        | Ok a ↦ λ it. (it.0, begins_none none it.1, it.2)
        | Err e ↦ λ it. tt
      ]

  pub has_shown : (label : ℕ) (role : List ℕ) (x : TheExchange) (last : List ℕ) (stored : Option (List ℕ)) (text message : List ℕ) → IsShownLogin x last stored text
      → message ≡ server_final x.verifier (messages x)
      → OnOk r (StandsSo place drawn (stage.Admitted role text) (verifier_of place role) new × (after ≡ before ++ message_frame label message))
      → OnOk r ((said : List ℕ) × AnswersLast place drawn label role x last stored said new × (after ≡ before ++ said))
  has_shown label role x last stored text message shown is =
      elim r as (λ q. OnOk q (StandsSo place drawn (stage.Admitted role text) (verifier_of place role) new × (after ≡ before ++ message_frame label message))
      → OnOk q ((said : List ℕ) × AnswersLast place drawn label role x last stored said new × (after ≡ before ++ said))) [
        | Ok a ↦ λ it. (message_frame label message, is_let_in text shown (ap (message_frame label) is) it.0, it.1)
        | Err e ↦ λ it. tt
      ]

  pub has_shown_nothing : (label : ℕ) (role : List ℕ) (x : TheExchange) (last : List ℕ) (stored : Option (List ℕ)) → IsRefusedLogin x last stored
      → OnOk r ((said : List ℕ) × RefusesLogin place drawn label InvalidAuthorization said new × (after ≡ before ++ said))
      → OnOk r ((said : List ℕ) × AnswersLast place drawn label role x last stored said new × (after ≡ before ++ said))
  has_shown_nothing label role x last stored none = elim r as (λ q. OnOk q ((said : List ℕ) × RefusesLogin place drawn label InvalidAuthorization said new × (after ≡ before ++ said))
      → OnOk q ((said : List ℕ) × AnswersLast place drawn label role x last stored said new × (after ≡ before ++ said))) [
        | Ok a ↦ λ it. (it.0, has_shown_none none it.1, it.2)
        | Err e ↦ λ it. tt
      ]

  -- by the stage at which it was looked up
  pub finds_at : (s t : LoginStage) (stored : Option (List ℕ)) → s ≡ t
      → OnOk r ((said : List ℕ) × FindsAt t place drawn stored said new × (after ≡ before ++ said))
      → OnOk r ((said : List ℕ) × FindsAt s place drawn stored said new × (after ≡ before ++ said))
  finds_at s t stored same it = subst (λ (a : LoginStage). OnOk r ((said : List ℕ) × FindsAt a place drawn stored said new × (after ≡ before ++ said))) (sym same) it
