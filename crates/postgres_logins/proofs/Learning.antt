-- How an exchange stands once it has learnt what was looked up.
use Rattle.std.proofs.Common.{◌≡◌, ◌∙◌, ℕ, Bool, true, false, cond, List, [], ◌∷◌, ◌++◌, refl, ap, sym, subst}
use Rattle.std.specs.Prelude.{Option, Some, None, Ok, Err}
use Rattle.std.proofs.lemmas.List.{append-nil}
use Rattle.sql_types.specs.declared.state.SqlState.{SqlState}
use Rattle.talks.specs.Wants.{Learnt, learnt, FitsWant}
use Rattle.talks.specs.declared.talk.Talk.{Ghosts}
use Rattle.talks.specs.declared.want.Want.{Want}
use Rattle.talks.specs.declared.want.Want.TheVariants as want
use Rattle.talks.specs.declared.want.Reply.{Reply}
use Rattle.talks.specs.declared.want.Reply.TheVariants as reply
use Rattle.scram.specs.Exchanges.{TheExchange}
use Rattle.scram.specs.Mocks.{TheMock}
use Rattle.password_talks.proofs.Learning.{shown_so, was_found}
use Rattle.password_talks.specs.Courses.{found, looked_up, not_looked_up}
use Rattle.password_talks.specs.LookUps.{is_as_shown, refusal}
use Rattle.password_talks.specs.PasswordTalks.{asks_first}
use Rattle.password_talks.specs.declared.login.PasswordPlace.{PasswordPlace}
use Rattle.password_talks.specs.declared.stage.LoginStage.TheVariants as password
use Rattle.postgres_logins.specs.declared.stage.SaslStage.{SaslStage}
use Rattle.postgres_logins.specs.declared.stage.SaslStage.TheVariants as stage
use Rattle.postgres_logins.specs.declared.stage.Newcomer.{Newcomer}
use Rattle.postgres_logins.specs.declared.postgres_login_talk.PostgresLoginTalk.{PostgresLoginTalk}
use Rattle.postgres_logins.specs.Courses.{HasEntered, HasAuthenticated, had_no_mock, showed_nothing, failed}
use Rattle.postgres_logins.specs.Logins.{AnswersFinal, LearnsIn, PreparesMock, Offers, RefusesClient, StandsAs, has_shown_none, is_admitted, is_let_in, lacks, made, start_in}
use Rattle.postgres_logins.specs.PostgresLoginTalks.{HearsStartOf, LearnsFirstIf, LearnsIf, LearnsOutside, OpensIf, wanted_inside}
use Rattle.postgres_logins.specs.Sayings.{failure_said, refusal_said}
use Rattle.postgres_logins.proofs.Standing.{HasMock, HasAnswered, Reached, EndedSo, IsFor, FoundNow, Stands, at_stage, refused_so, goes_on, goes_on_anew, said_no_more}

module _ {T : Type 0} (k : Ghosts T) (place : PasswordPlace) (drawn bytes : List ℕ) where
  -- ---- while a verifier is looked up for the exchange

  -- the conversation inside has said nothing to what the exchange has learnt, where its client was not let in
  quiet : (t u : PostgresLoginTalk T) (own inner saying : List ℕ) (s : SaslStage) → u.login.stage ≡ s → start_in s ≡ None
      → HearsStartOf k (start_in u.login.stage) t.talk inner u.talk → saying ≡ own ++ inner → saying ≡ own
  quiet t u own inner saying s at none starts is =
      let so : HearsStartOf k None t.talk inner u.talk = subst (λ (o : Option (List ℕ)). HearsStartOf k o t.talk inner u.talk) (ap start_in at ∙ none) starts in
      is ∙ said_no_more own inner so.0

  spoken : (t u : PostgresLoginTalk T) (xs : List Learnt) (said own inner saying rest : List ℕ) (s : SaslStage) → u.login.stage ≡ s → start_in s ≡ None
      → HearsStartOf k (start_in u.login.stage) t.talk inner u.talk → saying ≡ own ++ inner → Stands k place drawn bytes u xs (said ++ own) rest
      → Stands k place drawn bytes u xs (said ++ saying) rest
  spoken t u xs said own inner saying rest s at none starts is it =
      subst (λ (l : List ℕ). Stands k place drawn bytes u xs (said ++ l) rest) (sym (quiet t u own inner saying s at none starts is)) it

  after_mock : (t u : PostgresLoginTalk T) (xs : List Learnt) (said own inner saying rest : List ℕ) (n : Newcomer) (stored : Option (List ℕ))
      → t.login.place ≡ place → t.login.drawn ≡ drawn → xs ≡ looked_up place.table place.mock stored ∷ [] → HasEntered bytes n said rest
      → PreparesMock t.login.place t.login.drawn n stored own u.login → HearsStartOf k (start_in u.login.stage) t.talk inner u.talk → saying ≡ own ++ inner → u.is_found ≡ false
      → Stands k place drawn bytes u xs (said ++ saying) rest
  after_mock t u xs said own inner saying rest n stored pl dr is entered (made mock is_mock none so) starts all anew =
      spoken t u xs said own inner saying rest (stage.Mocked n mock) so.2 refl starts all
      (at_stage k place drawn bytes t u (stage.Mocked n mock) (want.Verifier t.login.place.table n.role) xs (said ++ own) rest pl dr so anew (
        ap (λ (p : PasswordPlace). want.Verifier p.table n.role) pl,
        record {
          stored = stored;
          is_mock = is_mock;
          learnt_is = is;
          entered = subst (λ (l : List ℕ). HasEntered bytes n l rest) (sym (said_no_more said own none)) entered;
        },
      ))
  after_mock t u xs said own inner saying rest n stored pl dr is entered (lacks none refused) starts all anew =
      spoken t u xs said own inner saying rest stage.Ended refused.1.2 refl starts all
      (refused_so k place drawn bytes t u xs said own rest (failure_said n.role) pl dr refused anew
      (had_no_mock n said rest stored entered is none (ap (λ (l : List ℕ). said ++ l) refused.0)))

  after_role : (t u : PostgresLoginTalk T) (xs : List Learnt) (said own inner saying rest : List ℕ) (n : Newcomer) (mock : TheMock) (mock_stored stored : Option (List ℕ))
      → t.login.place ≡ place → t.login.drawn ≡ drawn → HasMock k place drawn bytes n mock (looked_up place.table place.mock mock_stored ∷ []) said rest
      → xs ≡ looked_up place.table place.mock mock_stored ∷ looked_up place.table n.role stored ∷ []
      → Offers t.login.place t.login.drawn n mock stored own u.login → HearsStartOf k (start_in u.login.stage) t.talk inner u.talk → saying ≡ own ++ inner → u.is_found ≡ false
      → Stands k place drawn bytes u xs (said ++ saying) rest
  after_role t u xs said own inner saying rest n mock mock_stored stored pl dr it is offers starts all anew =
      spoken t u xs said own inner saying rest (stage.Offered n mock stored) offers.1.2 refl starts all
      (at_stage k place drawn bytes t u (stage.Offered n mock stored) want.Message xs (said ++ own) rest pl dr offers.1 anew (
        refl,
        record {
          before = said;
          entered = it.entered;
          mock_stored = it.stored;
          is_mock = it.is_mock;
          learnt_is = is ∙ ap (λ (l : List Learnt). l ++ looked_up place.table n.role stored ∷ []) it.learnt_is;
          said_is = ap (λ (l : List ℕ). said ++ l) offers.0;
        },
      ))

  -- what was learnt, where each text was found
  all_found : (xs more : List Learnt) (role text mock_text : List ℕ) (mock_stored stored now : Option (List ℕ)) → mock_stored ≡ Some mock_text → stored ≡ Some text → now ≡ Some text
      → xs ≡ looked_up place.table place.mock mock_stored ∷ looked_up place.table role stored ∷ [] → more ≡ xs ++ looked_up place.table role now ∷ []
      → more ≡ found place.table place.mock mock_text ∷ found place.table role text ∷ found place.table role text ∷ []
  all_found xs more role text mock_text mock_stored stored now m s n is then =
      then ∙ ap (λ (l : List Learnt). l ++ looked_up place.table role now ∷ []) is
      ∙ ap (λ (o : Option (List ℕ)). looked_up place.table place.mock o ∷ looked_up place.table role stored ∷ looked_up place.table role now ∷ []) m
      ∙ ap (λ (o : Option (List ℕ)). found place.table place.mock mock_text ∷ looked_up place.table role o ∷ looked_up place.table role now ∷ []) s
      ∙ ap (λ (o : Option (List ℕ)). found place.table place.mock mock_text ∷ found place.table role text ∷ looked_up place.table role o ∷ []) n

  after_last : (t u : PostgresLoginTalk T) (xs more : List Learnt) (said own inner saying rest : List ℕ) (n : Newcomer) (last : List ℕ) (x : TheExchange) (stored : Option (List ℕ))
      → t.login.place ≡ place → t.login.drawn ≡ drawn → HasAnswered k place drawn bytes n x last xs said rest → more ≡ xs ++ looked_up place.table n.role stored ∷ []
      → AnswersFinal t.login.place t.login.drawn n x last stored own u.login → HearsStartOf k (start_in u.login.stage) t.talk inner u.talk → saying ≡ own ++ inner → u.is_found ≡ false
      → Stands k place drawn bytes u more (said ++ saying) rest
  after_last t u xs more said own inner saying rest n last x stored pl dr it then (is_let_in text shown says so) starts all anew =
      let begun = it.challenged in
      let offered = begun.offered in
      let was = shown_so begun.mock n.role drawn begun.first last text begun.stored stored x begun.begins_so shown in
      at_stage k place drawn bytes t u (stage.Admitted n text) (want.Verifier t.login.place.table n.role) more (said ++ saying) rest pl dr so anew (
        ap (λ (p : PasswordPlace). want.Verifier p.table n.role) pl,
        record {
          before = offered.before;
          behind_start = begun.middle;
          entered = offered.entered;
          first = begun.first;
          last = last;
          middle = it.middle;
          rest = rest;
          begun = begun.begun;
          ended = it.ended;
          was_shown = was.2;
          mock_text = offered.is_mock.text;
          later = [];
          learnt_is = all_found xs more n.role text offered.is_mock.text offered.mock_stored begun.stored stored offered.is_mock.is_stored was.0 was.1 offered.learnt_is then;
        },
      )
  after_last t u xs more said own inner saying rest n last x stored pl dr it then (has_shown_none none refused) starts all anew =
      spoken t u more said own inner saying rest stage.Ended refused.1.2 refl starts all
      (refused_so k place drawn bytes t u more said own rest (failure_said n.role) pl dr refused anew
      (showed_nothing n said it.middle last rest x xs stored it.challenged it.ended then none (ap (λ (l : List ℕ). said ++ l) refused.0)))

  -- it could not be looked up
  after_fault : (t u : PostgresLoginTalk T) (xs more : List Learnt) (said own inner saying rest role : List ℕ) (state : SqlState)
      → t.login.place ≡ place → t.login.drawn ≡ drawn → more ≡ xs ++ not_looked_up place.table role state ∷ []
      → RefusesClient t.login.place t.login.drawn (refusal_said state) own u.login → HearsStartOf k (start_in u.login.stage) t.talk inner u.talk → saying ≡ own ++ inner → u.is_found ≡ false
      → Stands k place drawn bytes u more (said ++ saying) rest
  after_fault t u xs more said own inner saying rest role state pl dr then refused starts all anew =
      spoken t u more said own inner saying rest stage.Ended refused.1.2 refl starts all
      (refused_so k place drawn bytes t u more said own rest (refusal_said state) pl dr refused anew
      (failed role said state xs then (ap (λ (l : List ℕ). said ++ l) refused.0)))

  learns_begun : (t u : PostgresLoginTalk T) (xs more : List Learnt) (said saying rest : List ℕ) (n : Newcomer) (r : Reply)
      → t.login.place ≡ place → t.login.drawn ≡ drawn → xs ≡ [] → HasEntered bytes n said rest
      → more ≡ xs ++ learnt (want.Verifier place.table place.mock) r ∷ [] → FitsWant (want.Verifier place.table place.mock) r
      → LearnsOutside k (stage.Begun n) t r saying u → Stands k place drawn bytes u more (said ++ saying) rest
  learns_begun t u xs more said saying rest n (reply.Verifier (Ok stored)) pl dr none entered then fits it =
      after_mock t u more said it.own it.inner saying rest n stored pl dr
      (then ∙ ap (λ (l : List Learnt). l ++ looked_up place.table place.mock stored ∷ []) none) entered it.learns it.starts it.said_is it.is_found
  learns_begun t u xs more said saying rest n (reply.Verifier (Err state)) pl dr none entered then fits it =
      after_fault t u xs more said it.own it.inner saying rest place.mock state pl dr then it.learns it.starts it.said_is it.is_found
  learns_begun t u xs more said saying rest n (reply.Answer a) pl dr none entered then fits it = absurd fits
  learns_begun t u xs more said saying rest n (reply.Standing b) pl dr none entered then fits it = absurd fits
  learns_begun t u xs more said saying rest n (reply.Description d) pl dr none entered then fits it = absurd fits

  learns_mocked : (t u : PostgresLoginTalk T) (xs more : List Learnt) (said saying rest : List ℕ) (n : Newcomer) (mock : TheMock) (r : Reply)
      → t.login.place ≡ place → t.login.drawn ≡ drawn → HasMock k place drawn bytes n mock xs said rest
      → more ≡ xs ++ learnt (want.Verifier place.table n.role) r ∷ [] → FitsWant (want.Verifier place.table n.role) r
      → LearnsOutside k (stage.Mocked n mock) t r saying u → Stands k place drawn bytes u more (said ++ saying) rest
  learns_mocked t u xs more said saying rest n mock (reply.Verifier (Ok stored)) pl dr has then fits it =
      after_role t u more said it.own it.inner saying rest n mock has.stored stored pl dr
      (subst (λ (l : List Learnt). HasMock k place drawn bytes n mock l said rest) has.learnt_is has)
      (then ∙ ap (λ (l : List Learnt). l ++ looked_up place.table n.role stored ∷ []) has.learnt_is) it.learns it.starts it.said_is it.is_found
  learns_mocked t u xs more said saying rest n mock (reply.Verifier (Err state)) pl dr has then fits it =
      after_fault t u xs more said it.own it.inner saying rest n.role state pl dr then it.learns it.starts it.said_is it.is_found
  learns_mocked t u xs more said saying rest n mock (reply.Answer a) pl dr has then fits it = absurd fits
  learns_mocked t u xs more said saying rest n mock (reply.Standing b) pl dr has then fits it = absurd fits
  learns_mocked t u xs more said saying rest n mock (reply.Description d) pl dr has then fits it = absurd fits

  learns_answered : (t u : PostgresLoginTalk T) (xs more : List Learnt) (said saying rest : List ℕ) (n : Newcomer) (x : TheExchange) (last : List ℕ) (r : Reply)
      → t.login.place ≡ place → t.login.drawn ≡ drawn → HasAnswered k place drawn bytes n x last xs said rest
      → more ≡ xs ++ learnt (want.Verifier place.table n.role) r ∷ [] → FitsWant (want.Verifier place.table n.role) r
      → LearnsOutside k (stage.Answered n x last) t r saying u → Stands k place drawn bytes u more (said ++ saying) rest
  learns_answered t u xs more said saying rest n x last (reply.Verifier (Ok stored)) pl dr has then fits it =
      after_last t u xs more said it.own it.inner saying rest n last x stored pl dr has then it.learns it.starts it.said_is it.is_found
  learns_answered t u xs more said saying rest n x last (reply.Verifier (Err state)) pl dr has then fits it =
      after_fault t u xs more said it.own it.inner saying rest n.role state pl dr then it.learns it.starts it.said_is it.is_found
  learns_answered t u xs more said saying rest n x last (reply.Answer a) pl dr has then fits it = absurd fits
  learns_answered t u xs more said saying rest n x last (reply.Standing b) pl dr has then fits it = absurd fits
  learns_answered t u xs more said saying rest n x last (reply.Description d) pl dr has then fits it = absurd fits

  -- ---- once the password was shown

  shown_on : (n : Newcomer) (text : List ℕ) (xs more : List Learnt) (x : Learnt) → HasAuthenticated place drawn bytes xs n text → more ≡ xs ++ x ∷ [] → HasAuthenticated place drawn bytes more n text
  shown_on n text xs more x it then = record {
    before = it.before;
    behind_start = it.behind_start;
    entered = it.entered;
    first = it.first;
    last = it.last;
    middle = it.middle;
    rest = it.rest;
    begun = it.begun;
    ended = it.ended;
    was_shown = it.was_shown;
    mock_text = it.mock_text;
    later = it.later ++ x ∷ [];
    learnt_is = then ∙ ap (λ (l : List Learnt). l ++ x ∷ []) it.learnt_is;
  }

  opens_if : (t u : PostgresLoginTalk T) (xs more : List Learnt) (said saying rest : List ℕ) (n : Newcomer) (text : List ℕ) (w : Want) (r : Reply) (b : Bool) (state : SqlState)
      → t.login.place ≡ place → t.login.drawn ≡ drawn → t.login.stage ≡ stage.Admitted n text → t.login.want ≡ want.Verifier place.table n.role
      → HasAuthenticated place drawn bytes xs n text → more ≡ xs ++ learnt (want.Verifier place.table n.role) r ∷ []
      → k.wants t.talk ≡ w → is_as_shown (password.Admitted n.role text) w r ≡ b → OpensIf k b state t saying u → Stands k place drawn bytes u more (said ++ saying) rest
  opens_if t u xs more said saying rest n text w r false state pl dr st wa shown then wants as_shown learns =
      goes_on_anew k place drawn bytes t u n text more (said ++ saying) rest pl dr st wa learns.1 learns.2
      (shown_on n text xs more (learnt (want.Verifier place.table n.role) r) shown then)
  opens_if t u xs more said saying rest n text w r true state pl dr st wa shown then wants as_shown learns =
      let it = was_found n.role text w r as_shown in
      goes_on k place drawn bytes t u n text more (said ++ saying) rest pl dr st wa learns.2
      (shown_on n text xs more (learnt (want.Verifier place.table n.role) r) shown then)
      (subst (λ (b : Bool). FoundNow k place drawn bytes b (stage.Admitted n text) (k.wants u.talk) more) (sym learns.3) (record {
        is_for = subst (λ (v : Want). IsFor k place drawn bytes n.role v) (sym (ap k.wants learns.1 ∙ wants ∙ it.wants)) it.login_is;
        earlier = xs;
        found_now = then ∙ ap (λ (s : Reply). xs ++ learnt (want.Verifier place.table n.role) s ∷ []) it.reply_is;
      }))

  learns_first : (t u : PostgresLoginTalk T) (xs more : List Learnt) (said saying rest : List ℕ) (n : Newcomer) (text : List ℕ) (v : Want) (r : Reply) (b : Bool)
      → t.login.place ≡ place → t.login.drawn ≡ drawn → t.login.stage ≡ stage.Admitted n text → t.login.want ≡ want.Verifier place.table n.role
      → HasAuthenticated place drawn bytes xs n text → v ≡ cond b t.login.want (k.wants t.talk) → more ≡ xs ++ learnt v r ∷ []
      → LearnsFirstIf k b (stage.Admitted n text) t r saying u → Stands k place drawn bytes u more (said ++ saying) rest
  learns_first t u xs more said saying rest n text v r false pl dr st wa shown is then learns =
      goes_on_anew k place drawn bytes t u n text more (said ++ saying) rest pl dr st wa learns.1 learns.2
      (shown_on n text xs more (learnt v r) shown then)
  learns_first t u xs more said saying rest n text v r true pl dr st wa shown is then learns =
      opens_if t u xs more said saying rest n text (k.wants t.talk) r (is_as_shown (password.Admitted n.role text) (k.wants t.talk) r) (refusal (password.Admitted n.role text) (k.wants t.talk) r)
      pl dr st wa shown (then ∙ ap (λ (w : Want). xs ++ learnt w r ∷ []) (is ∙ wa)) refl refl learns

  -- ---- by how it stands

  -- once it has ended nothing is learnt
  ended_learns : (w : Want) (r : Reply) (xs : List Learnt) (said : List ℕ) → EndedSo k place drawn bytes w xs said → FitsWant w r → ⊥
  ended_learns (want.End late) r xs said it fits = fits
  ended_learns want.OutOfMemory r xs said it fits = fits
  ended_learns want.Message r xs said it fits = it
  ended_learns (want.Event e) r xs said it fits = it
  ended_learns (want.Open n login entry) r xs said it fits = it
  ended_learns (want.Standing n) r xs said it fits = it
  ended_learns (want.Description n text) r xs said it fits = it
  ended_learns (want.Verifier table role) r xs said it fits = it

  pub learns_at : (t u : PostgresLoginTalk T) (xs more : List Learnt) (said saying rest : List ℕ) (v : Want) (r : Reply) (s : SaslStage) → t.login.stage ≡ s
      → t.login.place ≡ place → t.login.drawn ≡ drawn → Reached k place drawn bytes s t.login.want xs said rest
      → v ≡ wanted_inside (is_admitted s) t.login t.is_found (k.wants t.talk) → more ≡ xs ++ learnt v r ∷ [] → FitsWant v r
      → LearnsIf k (is_admitted s) s t r saying u → Stands k place drawn bytes u more (said ++ saying) rest
  learns_at t u xs more said saying rest v r (stage.Starting answered) st pl dr it is then fits learns = absurd (subst (λ (w : Want). FitsWant w r) (is ∙ it.0) fits)
  learns_at t u xs more said saying rest v r (stage.Begun n) st pl dr it is then fits learns =
      learns_begun t u xs more said saying rest n r pl dr it.1 it.2
      (then ∙ ap (λ (w : Want). xs ++ learnt w r ∷ []) (is ∙ it.0)) (subst (λ (w : Want). FitsWant w r) (is ∙ it.0) fits) learns
  learns_at t u xs more said saying rest v r (stage.Mocked n mock) st pl dr it is then fits learns =
      learns_mocked t u xs more said saying rest n mock r pl dr it.1
      (then ∙ ap (λ (w : Want). xs ++ learnt w r ∷ []) (is ∙ it.0)) (subst (λ (w : Want). FitsWant w r) (is ∙ it.0) fits) learns
  learns_at t u xs more said saying rest v r (stage.Offered n mock stored) st pl dr it is then fits learns = absurd (subst (λ (w : Want). FitsWant w r) (is ∙ it.0) fits)
  learns_at t u xs more said saying rest v r (stage.Challenged n x) st pl dr it is then fits learns = absurd (subst (λ (w : Want). FitsWant w r) (is ∙ it.0) fits)
  learns_at t u xs more said saying rest v r (stage.Answered n x last) st pl dr it is then fits learns =
      learns_answered t u xs more said saying rest n x last r pl dr it.1
      (then ∙ ap (λ (w : Want). xs ++ learnt w r ∷ []) (is ∙ it.0)) (subst (λ (w : Want). FitsWant w r) (is ∙ it.0) fits) learns
  learns_at t u xs more said saying rest v r (stage.Admitted n text) st pl dr it is then fits learns =
      learns_first t u xs more said saying rest n text v r (asks_first t.is_found (k.wants t.talk)) pl dr st it.0 it.1 is then learns
  learns_at t u xs more said saying rest v r stage.Ended st pl dr it is then fits learns = absurd (ended_learns t.login.want r xs said it (subst (λ (w : Want). FitsWant w r) is fits))
