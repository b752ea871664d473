-- An exchange in PostgreSQL's messages says one thing to the same bytes and the same verifiers.
use Rattle.std.proofs.Common.{◌≡◌, ◌∙◌, ℕ, Bool, true, false, List, [], refl, sym, ap, subst, Option, Some, None, Ok, Err}
use Rattle.std.specs.Prelude.{nat_lt}
use Rattle.std.proofs.lemmas.List.{append-nil}
use Rattle.talks.specs.declared.want.Want.{Want}
use Rattle.talks.specs.declared.want.Want.TheVariants as want
use Rattle.talks.specs.declared.want.Reply.{Reply}
use Rattle.talks.specs.declared.want.Reply.TheVariants as reply
use Rattle.sql_types.specs.declared.state.SqlState.{SqlState}
use Rattle.postgres_messages.specs.Fields.{value}
use Rattle.postgres_messages.specs.Reading.{string_at, value_at}
use Rattle.postgres_messages.specs.Sasl.{TheInitial, SpellsInitial}
use Rattle.postgres_messages.specs.Start.{TheStart}
use Rattle.postgres_messages.proofs.Parts.{string_part, value_part}
use Rattle.postgres_messages.proofs.Starts.{one_packet}
use Rattle.scram.specs.Exchanges.{TheExchange, challenge}
use Rattle.scram.specs.Mocks.{TheMock}
use Rattle.password_talks.specs.declared.login.PasswordPlace.{PasswordPlace}
use Rattle.password_talks.specs.Logins.{verifier_of}
use Rattle.postgres_logins.specs.declared.start_request.StartRequest.{StartRequest}
use Rattle.postgres_logins.specs.declared.start_request.StartRequest.TheVariants as request
use Rattle.postgres_logins.specs.declared.stage.Newcomer.{Newcomer}
use Rattle.postgres_logins.specs.declared.stage.SaslStage.{SaslStage}
use Rattle.postgres_logins.specs.declared.stage.SaslStage.TheVariants as stage
use Rattle.postgres_logins.specs.declared.login.SaslLogin.{SaslLogin}
use Rattle.postgres_logins.specs.EntryMessages.{AsksAtStart, CarriesFirst, CarriesFirstIn, IsInitial, IsPacket, answer_in, first_of, start_request}
use Rattle.postgres_logins.specs.Logins.{AnswersFinal, FailsIf, FindsStored, HearsEncryption, HearsFirst, HearsIn, HearsInitial, HearsLast, HearsPacket, HearsRequest, LearnsIn, OpensExchange, PreparesMock, SendsAway, StandsAs, begins_none, challenged, has_shown_none, is_let_in, is_looking, lacks, made}
use Rattle.postgres_logins.specs.Sayings.{first_said}
use Rattle.protocol_laws.specs.Alike.{AreSaslLoginsAlike}
use Rattle.protocol_laws.proofs.OneExchange.{mock_and_none, one_exchange, one_mock, one_shown}

-- ---- packets of the start

one_start : (message : List ℕ) (o p : Option TheStart) → IsPacket message o → IsPacket message p → o ≡ p
one_start message (Some p) (Some q) one other = ap Some (one_packet message p q one other)
one_start message (Some p) None one other = absurd (other p one)
one_start message None (Some q) one other = absurd (one q other)
one_start message None None one other = refl

one_asked : (message : List ℕ) (r q : StartRequest) → AsksAtStart message r → AsksAtStart message q → r ≡ q
one_asked message r q one other = one.2 ∙ ap start_request (one_start message one.0 other.0 one.1 other.1) ∙ sym other.2

-- ---- first messages

both_some : {A : Type 0} (x y : A) (o : Option A) → o ≡ Some x → o ≡ Some y → x ≡ y
both_some x y o is it = let both : Some x ≡ Some y = sym is ∙ it in cc

abbrev initial_of : List ℕ → Option (List ℕ) → TheInitial
initial_of m r = record { mechanism = m; response = r }

one_initial : (body : List ℕ) (i j : TheInitial) → SpellsInitial body i → SpellsInitial body j → i ≡ j
one_initial body i j one other =
    let cut = both_some (i.mechanism, value i.response) (j.mechanism, value j.response) (string_at body) (ap string_at one.body_is ∙ string_part.again i.mechanism (value i.response) one.mechanism)
    (ap string_at other.body_is ∙ string_part.again j.mechanism (value j.response) other.mechanism) in
    let mechanisms : i.mechanism ≡ j.mechanism = ap (λ (c : List ℕ × List ℕ). c.0) cut in
    let values : value i.response ≡ value j.response = ap (λ (c : List ℕ × List ℕ). c.1) cut in
    let alone = both_some (i.response, []) (j.response, []) (value_at (value i.response)) (ap value_at (sym (append-nil (value i.response))) ∙ value_part.again i.response [] one.response)
    (ap value_at values ∙ ap value_at (sym (append-nil (value j.response))) ∙ value_part.again j.response [] other.response) in
    let responses : i.response ≡ j.response = ap (λ (c : Option (List ℕ) × List ℕ). c.0) alone in
    ap (λ (m : List ℕ). initial_of m i.response) mechanisms ∙ ap (initial_of j.mechanism) responses

one_initial_or_none : (body : List ℕ) (o p : Option TheInitial) → IsInitial body o → IsInitial body p → o ≡ p
one_initial_or_none body (Some i) (Some j) one other = ap Some (one_initial body i j one other)
one_initial_or_none body (Some i) None one other = absurd (other i one)
one_initial_or_none body None (Some j) one other = absurd (one j other)
one_initial_or_none body None None one other = refl

one_carried_in : (b o p : Option (List ℕ)) → CarriesFirstIn b o → CarriesFirstIn b p → o ≡ p
one_carried_in (Some body) o p one other = one.2 ∙ ap first_of (one_initial_or_none body one.0 other.0 one.1 other.1) ∙ sym other.2
one_carried_in None o p one other = one ∙ sym other

one_carried : (message : List ℕ) (o p : Option (List ℕ)) → CarriesFirst message o → CarriesFirst message p → o ≡ p
one_carried message o p one other = one_carried_in (answer_in message) o p one other

module _ (place : PasswordPlace) (drawn : List ℕ) (said also : List ℕ) (l m : SaslLogin) where
  abbrev AreOne : Type 0
  AreOne = (said ≡ also) × AreSaslLoginsAlike l m

  -- this was said in both, and both stand so
  both : {x : List ℕ} {s : SaslStage} {w : Want} → (said ≡ x) × StandsAs place drawn s w l → (also ≡ x) × StandsAs place drawn s w m → AreOne
  both one other = (one.0 ∙ sym other.0, (one.1.0 ∙ sym other.1.0, one.1.1 ∙ sym other.1.1, one.1.2 ∙ sym other.1.2, one.1.3 ∙ sym other.1.3))

  -- ---- what is heard

  one_encryption : (few : Bool) (answered : ℕ) → HearsEncryption few answered place drawn said l → HearsEncryption few answered place drawn also m → AreOne
  one_encryption true answered one other = both one other
  one_encryption false answered one other = both one other

  one_request : (r : StartRequest) (answered : ℕ) (message : List ℕ) → HearsRequest r answered message place drawn said l → HearsRequest r answered message place drawn also m → AreOne
  one_request request.Encryption answered message one other = one_encryption (nat_lt answered 2) answered one other
  one_request request.Leave answered message one other = both one other
  one_request (request.Login role) answered message one other = both one other
  one_request (request.Unfit state) answered message one other = both one other

  one_packet_heard : (answered : ℕ) (message : List ℕ) → HearsPacket answered message place drawn said l → HearsPacket answered message place drawn also m → AreOne
  one_packet_heard answered message one other =
      one_request other.0 answered message (subst (λ (r : StartRequest). HearsRequest r answered message place drawn said l) (one_asked message one.0 other.0 one.1 other.1) one.2) other.2

  one_opened : (n : Newcomer) (mock : TheMock) (stored : Option (List ℕ)) (first : List ℕ) → OpensExchange place drawn n mock stored first said l → OpensExchange place drawn n mock stored first also m → AreOne
  one_opened n mock stored first (challenged x is told stands) (challenged y it told_there stands_there) =
      let same : x ≡ y = one_exchange mock n.role stored drawn first x y is it in
      both (told ∙ ap (λ (z : TheExchange). first_said (challenge z)) same, subst (λ (z : TheExchange). StandsAs place drawn (stage.Challenged n z) want.Message l) same stands) (told_there, stands_there)
  one_opened n mock stored first (challenged x is told stands) (begins_none none refuses) = absurd (none x.binding x.bare is.nonce is.is_first)
  one_opened n mock stored first (begins_none none refuses) (challenged x is told stands) = absurd (none x.binding x.bare is.nonce is.is_first)
  one_opened n mock stored first (begins_none none refuses) (begins_none none_there refuses_there) = both refuses refuses_there

  one_first : (o : Option (List ℕ)) (n : Newcomer) (mock : TheMock) (stored : Option (List ℕ)) → HearsFirst o n mock stored place drawn said l → HearsFirst o n mock stored place drawn also m → AreOne
  one_first (Some first) n mock stored one other = one_opened n mock stored first one other
  one_first None n mock stored one other = both one other

  one_initial_heard : (n : Newcomer) (mock : TheMock) (stored : Option (List ℕ)) (message : List ℕ) → HearsInitial n mock stored message place drawn said l → HearsInitial n mock stored message place drawn also m → AreOne
  one_initial_heard n mock stored message one other =
      one_first other.0 n mock stored (subst (λ (o : Option (List ℕ)). HearsFirst o n mock stored place drawn said l) (one_carried message one.0 other.0 one.1 other.1) one.2) other.2

  one_last : (o : Option (List ℕ)) (n : Newcomer) (x : TheExchange) → HearsLast o n x place drawn said l → HearsLast o n x place drawn also m → AreOne
  one_last (Some last) n x one other = both one other
  one_last None n x one other = both one other

  pub one_heard : (s : SaslStage) (message : List ℕ) → HearsIn s message place drawn said l → HearsIn s message place drawn also m → AreOne
  one_heard (stage.Starting answered) message one other = one_packet_heard answered message one other
  one_heard (stage.Offered n mock stored) message one other = one_initial_heard n mock stored message one other
  one_heard (stage.Challenged n x) message one other = one_last (answer_in message) n x one other
  one_heard s message one other = both one other

  pub one_sent_away : (state : SqlState) → SendsAway place drawn state said l → SendsAway place drawn state also m → AreOne
  one_sent_away state one other = both one other

  -- ---- what is looked up

  one_prepared : (n : Newcomer) (stored : Option (List ℕ)) → PreparesMock place drawn n stored said l → PreparesMock place drawn n stored also m → AreOne
  one_prepared n stored (made mock is none stands) (made other it none_there stands_there) =
      both (none, subst (λ (x : TheMock). StandsAs place drawn (stage.Mocked n x) (verifier_of place n.role) l) (one_mock stored mock other is it) stands) (none_there, stands_there)
  one_prepared n stored (made mock is none stands) (lacks stores refuses) = absurd (mock_and_none stored mock is stores)
  one_prepared n stored (lacks stores refuses) (made mock is none stands) = absurd (mock_and_none stored mock is stores)
  one_prepared n stored (lacks stores refuses) (lacks stores_there refuses_there) = both refuses refuses_there

  one_answer : (n : Newcomer) (x : TheExchange) (last : List ℕ) (stored : Option (List ℕ)) → AnswersFinal place drawn n x last stored said l → AnswersFinal place drawn n x last stored also m → AreOne
  one_answer n x last stored (is_let_in text is told stands) (is_let_in other it told_there stands_there) =
      both (told, subst (λ (t : List ℕ). StandsAs place drawn (stage.Admitted n t) (verifier_of place n.role) l) (one_shown x last stored text other is it) stands) (told_there, stands_there)
  one_answer n x last stored (is_let_in text is told stands) (has_shown_none none refuses) = absurd (none text is)
  one_answer n x last stored (has_shown_none none refuses) (is_let_in text is told stands) = absurd (none text is)
  one_answer n x last stored (has_shown_none none refuses) (has_shown_none none_there refuses_there) = both refuses refuses_there

  one_found : (s : SaslStage) (stored : Option (List ℕ)) → FindsStored s place drawn stored said l → FindsStored s place drawn stored also m → AreOne
  one_found (stage.Begun n) stored one other = one_prepared n stored one other
  one_found (stage.Mocked n mock) stored one other = both one other
  one_found (stage.Answered n x last) stored one other = one_answer n x last stored one other
  one_found s stored one other = both one other

  one_failed : (looks : Bool) (state : SqlState) → FailsIf looks place drawn state said l → FailsIf looks place drawn state also m → AreOne
  one_failed true state one other = both one other
  one_failed false state one other = both one other

  pub one_learnt : (s : SaslStage) (r : Reply) → LearnsIn s place drawn r said l → LearnsIn s place drawn r also m → AreOne
  one_learnt s (reply.Verifier (Ok stored)) one other = one_found s stored one other
  one_learnt s (reply.Verifier (Err state)) one other = one_failed (is_looking s) state one other
  one_learnt s r one other = both one other
