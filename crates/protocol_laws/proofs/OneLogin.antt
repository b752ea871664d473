-- An exchange in frames says one thing to the same bytes and the same verifiers.
use Rattle.std.proofs.Common.{◌≡◌, ◌∙◌, ℕ, Bool, true, false, List, sym, ap, subst, Option, Some, None, Ok, Err}
use Rattle.std.specs.Prelude.{◌==◌}
use Rattle.talks.specs.declared.want.Want.{Want}
use Rattle.talks.specs.declared.want.Want.TheVariants as want
use Rattle.talks.specs.declared.want.Reply.{Reply}
use Rattle.talks.specs.declared.want.Reply.TheVariants as reply
use Rattle.sql_types.specs.declared.state.SqlState.{SqlState}
use Rattle.scram.specs.Exchanges.{TheExchange, challenge}
use Rattle.scram.specs.Mocks.{TheMock}
use Rattle.password_talks.specs.declared.stage.LoginStage.{LoginStage}
use Rattle.password_talks.specs.declared.stage.LoginStage.TheVariants as stage
use Rattle.password_talks.specs.declared.login.Login.{Login}
use Rattle.password_talks.specs.declared.login.PasswordPlace.{PasswordPlace}
use Rattle.password_talks.specs.EarlyFrames.{TheFrame, begins, ends, event, message_frame}
use Rattle.password_talks.specs.Logins.{AnswersLast, Challenges, FailsUnder, FindsAt, HearsAt, HearsEnd, IsBadFrame, LearnsAt, MakesMock, StandsSo, begins_none, challenged, has_shown_none, is_let_in, lacks, looking_label, made, verifier_of}
use Rattle.protocol_laws.specs.Alike.{AreLoginsAlike}
use Rattle.protocol_laws.proofs.OneExchange.{mock_and_none, one_exchange, one_mock, one_shown}

module _ (place : PasswordPlace) (drawn : List ℕ) (said also : List ℕ) (l m : Login) where
  abbrev AreOne : Type 0
  AreOne = (said ≡ also) × AreLoginsAlike l m

  -- this was said in both, and both stand so
  both : {x : List ℕ} {s : LoginStage} {w : Want} → (said ≡ x) × StandsSo place drawn s w l → (also ≡ x) × StandsSo place drawn s w m → AreOne
  both one other = (one.0 ∙ sym other.0, (one.1.0 ∙ sym other.1.0, one.1.1 ∙ sym other.1.1, one.1.2 ∙ sym other.1.2, one.1.3 ∙ sym other.1.3))

  -- ---- what is heard

  one_end : (fits : Bool) (label : ℕ) (role : List ℕ) (x : TheExchange) (last : List ℕ) → HearsEnd fits label role x last place drawn said l → HearsEnd fits label role x last place drawn also m → AreOne
  one_end true label role x last one other = both one other
  one_end false label role x last one other = both one other

  pub one_heard : (s : LoginStage) (f : TheFrame) → HearsAt s f place drawn said l → HearsAt s f place drawn also m → AreOne
  one_heard stage.Silent (begins label role first) one other = both one other
  one_heard (stage.Challenged label role x) (ends own last) one other = one_end (own == label) label role x last one other
  one_heard s (event session) one other = both one other
  one_heard s f one other = both one other

  pub one_bad : IsBadFrame place drawn said l → IsBadFrame place drawn also m → AreOne
  one_bad one other = both one other

  -- ---- what is looked up

  one_made : (label : ℕ) (role first : List ℕ) (stored : Option (List ℕ)) → MakesMock place drawn label role first stored said l → MakesMock place drawn label role first stored also m → AreOne
  one_made label role first stored (made mock is none stands) (made other it none_there stands_there) =
      both (none, subst (λ (x : TheMock). StandsSo place drawn (stage.Mocked label role first x) (verifier_of place role) l) (one_mock stored mock other is it) stands) (none_there, stands_there)
  one_made label role first stored (made mock is none stands) (lacks stores refuses) = absurd (mock_and_none stored mock is stores)
  one_made label role first stored (lacks stores refuses) (made mock is none stands) = absurd (mock_and_none stored mock is stores)
  one_made label role first stored (lacks stores refuses) (lacks stores_there refuses_there) = both refuses refuses_there

  one_challenge : (label : ℕ) (role first : List ℕ) (mock : TheMock) (stored : Option (List ℕ)) → Challenges place drawn label role first mock stored said l → Challenges place drawn label role first mock stored also m → AreOne
  one_challenge label role first mock stored (challenged x is told stands) (challenged y it told_there stands_there) =
      let same : x ≡ y = one_exchange mock role stored drawn first x y is it in
      both (told ∙ ap (λ (z : TheExchange). message_frame label (challenge z)) same, subst (λ (z : TheExchange). StandsSo place drawn (stage.Challenged label role z) want.Message l) same stands) (told_there, stands_there)
  one_challenge label role first mock stored (challenged x is told stands) (begins_none none refuses) = absurd (none x.binding x.bare is.nonce is.is_first)
  one_challenge label role first mock stored (begins_none none refuses) (challenged x is told stands) = absurd (none x.binding x.bare is.nonce is.is_first)
  one_challenge label role first mock stored (begins_none none refuses) (begins_none none_there refuses_there) = both refuses refuses_there

  one_answer : (label : ℕ) (role : List ℕ) (x : TheExchange) (last : List ℕ) (stored : Option (List ℕ)) → AnswersLast place drawn label role x last stored said l → AnswersLast place drawn label role x last stored also m → AreOne
  one_answer label role x last stored (is_let_in text is told stands) (is_let_in other it told_there stands_there) =
      both (told, subst (λ (t : List ℕ). StandsSo place drawn (stage.Admitted role t) (verifier_of place role) l) (one_shown x last stored text other is it) stands) (told_there, stands_there)
  one_answer label role x last stored (is_let_in text is told stands) (has_shown_none none refuses) = absurd (none text is)
  one_answer label role x last stored (has_shown_none none refuses) (is_let_in text is told stands) = absurd (none text is)
  one_answer label role x last stored (has_shown_none none refuses) (has_shown_none none_there refuses_there) = both refuses refuses_there

  one_found : (s : LoginStage) (stored : Option (List ℕ)) → FindsAt s place drawn stored said l → FindsAt s place drawn stored also m → AreOne
  one_found (stage.Begun label role first) stored one other = one_made label role first stored one other
  one_found (stage.Mocked label role first mock) stored one other = one_challenge label role first mock stored one other
  one_found (stage.Answered label role x last) stored one other = one_answer label role x last stored one other
  one_found s stored one other = both one other

  one_failed : (o : Option ℕ) (state : SqlState) → FailsUnder o place drawn state said l → FailsUnder o place drawn state also m → AreOne
  one_failed (Some label) state one other = both one other
  one_failed None state one other = both one other

  pub one_learnt : (s : LoginStage) (r : Reply) → LearnsAt s place drawn r said l → LearnsAt s place drawn r also m → AreOne
  one_learnt s (reply.Verifier (Ok stored)) one other = one_found s stored one other
  one_learnt s (reply.Verifier (Err state)) one other = one_failed (looking_label s) state one other
  one_learnt s r one other = both one other
