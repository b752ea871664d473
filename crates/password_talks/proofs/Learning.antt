-- How an exchange stands once it has learnt what was looked up.
use Rattle.std.proofs.Common.{◌≡◌, ◌∙◌, ◌&&◌, ℕ, Bool, true, false, cond, List, [], ◌∷◌, ◌++◌, refl, ap, sym, subst}
use Rattle.std.specs.Prelude.{Option, Some, Ok, Err, bytes_eq}
use Rattle.std.proofs.lemmas.Slice.Eq.{bytes_eq-Decides}
use Rattle.sql_types.specs.declared.state.SqlState.{SqlState}
use Rattle.sql_types.specs.declared.state.SqlState.TheVariants.{InvalidAuthorization}
use Rattle.talks.specs.Wants.{Learnt, learnt, FitsWant}
use Rattle.talks.specs.declared.talk.Talk.{Ghosts}
use Rattle.talks.specs.declared.want.Want.{Want}
use Rattle.talks.specs.declared.want.Want.TheVariants as want
use Rattle.talks.specs.declared.want.SessionEntry.{SessionEntry}
use Rattle.talks.specs.declared.want.Reply.{Reply}
use Rattle.talks.specs.declared.want.Reply.TheVariants as reply
use Rattle.scram_hashes.specs.VerifierText.{SpellsVerifier}
use Rattle.scram.specs.Exchanges.{TheExchange, BeginsExchange, IsShownLogin, WasShown, challenge}
use Rattle.scram.specs.Mocks.{TheMock, GoesBy}
use Rattle.password_talks.specs.declared.stage.LoginStage.{LoginStage}
use Rattle.password_talks.specs.declared.stage.LoginStage.TheVariants as stage
use Rattle.password_talks.specs.declared.login.PasswordPlace.{PasswordPlace}
use Rattle.password_talks.specs.declared.password_talk.PasswordTalk.{PasswordTalk}
use Rattle.password_talks.specs.EarlyFrames.{Sends, begins, message_frame}
use Rattle.password_talks.specs.Logins.{Challenges, IsMockOf, RefusesLogin, LearnsAt, AnswersLast, MakesMock, is_admitted, is_let_in, has_shown_none, challenged, begins_none, made, lacks, refusal_said}
use Rattle.password_talks.specs.LookUps.{is_as_shown, refusal}
use Rattle.password_talks.specs.PasswordTalks.{LearnsIf, LearnsFirstIf, OpensIf, asks_first, wanted_inside}
use Rattle.password_talks.specs.Courses.{found, looked_up, not_looked_up, HasShown, had_no_mock, sent_no_first, showed_nothing, failed}
use Rattle.password_talks.proofs.Standing.{HasMock, HasAnswered, Reached, EndedSo, IsFor, FoundNow, Stands, at_stage, refused_so, goes_on, goes_on_anew, said_first}

-- what is shown was shown: a text that an exchange has was stored as it began, and the messages show the password of the verifier that it spells
pub shown_so : (mock : TheMock) (role drawn first last text : List ℕ) (stored now : Option (List ℕ)) (x : TheExchange)
    → BeginsExchange mock role stored drawn first x → IsShownLogin x last now text
    → (stored ≡ Some text) × (now ≡ Some text) × WasShown (Some text) (Some text) drawn first last text
shown_so mock role drawn first last text stored now x begun shown =
    let by : (stored ≡ Some text) × SpellsVerifier text x.verifier = subst (λ (o : Option (List ℕ)). GoesBy mock role stored x.verifier o) shown.was_stored begun.goes_by in (
      by.0,
      shown.is_stored,
      record {
        was_stored = refl;
        is_stored = refl;
        verifier = x.verifier;
        spells = by.1;
        authenticates = record {
          binding = x.binding;
          bare = x.bare;
          nonce = begun.nonce;
          proof = shown.proof;
          is_first = begun.is_first;
          last_is = rw begun.nonce_is at shown.has_proof.last_is;
          size = shown.has_proof.size;
          are_bytes = shown.has_proof.are_bytes;
          shows = rw begun.nonce_is at shown.shows;
        };
      },
    )

-- ---- what was looked up before a session

pub record WasFound (role text : List ℕ) (w : Want) (r : Reply) : Type 0 where
  pub reply_is : r ≡ reply.Verifier (Ok (Some text))
  pub login : List ℕ
  pub session : ℕ
  pub entry : SessionEntry
  pub wants : w ≡ want.Open session login entry
  pub login_is : login ≡ role

both : (a b : Bool) → (a && b) ≡ true → (a ≡ true) × (b ≡ true)
both true b h = (refl, h)
both false b h = cc

pub was_found : (role text : List ℕ) (w : Want) (r : Reply) → is_as_shown (stage.Admitted role text) w r ≡ true → WasFound role text w r
was_found role text (want.Open session login entry) (reply.Verifier (Ok (Some other))) h =
    let is = both (bytes_eq login role) (bytes_eq other text) h in
    record {
      reply_is = ap (λ (l : List ℕ). reply.Verifier (Ok (Some l))) ((bytes_eq-Decides other text).0 is.1);
      login = login;
      session = session;
      entry = entry;
      wants = refl;
      login_is = (bytes_eq-Decides login role).0 is.0;
    }
was_found role text w r h = cc

module _ {T : Type 0} (k : Ghosts T) (place : PasswordPlace) (drawn bytes : List ℕ) where
  -- ---- while a verifier is looked up for the exchange

  after_mock : (t u : PasswordTalk T) (xs : List Learnt) (said saying rest : List ℕ) (label : ℕ) (role first : List ℕ) (stored : Option (List ℕ))
      → t.login.place ≡ place → t.login.drawn ≡ drawn → xs ≡ looked_up place.table place.mock stored ∷ [] → said ≡ []
      → Sends bytes (begins label role first) rest → MakesMock t.login.place t.login.drawn label role first stored saying u.login → u.is_found ≡ false
      → Stands k place drawn bytes u xs (said ++ saying) rest
  after_mock t u xs said saying rest label role first stored pl dr is silent sent (made mock is_mock none so) anew =
      at_stage k place drawn bytes t u (stage.Mocked label role first mock) (want.Verifier t.login.place.table role) xs (said ++ saying) rest pl dr so anew (
        ap (λ (p : PasswordPlace). want.Verifier p.table role) pl,
        record {
          stored = stored;
          is_mock = is_mock;
          learnt_is = is;
          said_is = said_first said saying [] silent none;
          begun = sent;
        },
      )
  after_mock t u xs said saying rest label role first stored pl dr is silent sent (lacks none refused) anew =
      refused_so k place drawn bytes t u xs said saying rest label InvalidAuthorization pl dr refused anew
      (had_no_mock label role first rest stored sent is none (said_first said saying (refusal_said label InvalidAuthorization) silent refused.0))

  after_role : (t u : PasswordTalk T) (xs : List Learnt) (said saying rest : List ℕ) (label : ℕ) (role first : List ℕ) (mock : TheMock) (mock_stored stored : Option (List ℕ))
      → t.login.place ≡ place → t.login.drawn ≡ drawn
      → xs ≡ looked_up place.table place.mock mock_stored ∷ looked_up place.table role stored ∷ [] → said ≡ []
      → Sends bytes (begins label role first) rest → IsMockOf mock_stored mock → Challenges t.login.place t.login.drawn label role first mock stored saying u.login → u.is_found ≡ false
      → Stands k place drawn bytes u xs (said ++ saying) rest
  after_role t u xs said saying rest label role first mock mock_stored stored pl dr is silent sent is_mock (challenged x begun says so) anew =
      at_stage k place drawn bytes t u (stage.Challenged label role x) want.Message xs (said ++ saying) rest pl dr so anew (
        refl,
        record {
          first = first;
          mock = mock;
          mock_stored = mock_stored;
          stored = stored;
          begun = sent;
          is_mock = is_mock;
          begins_so = subst (λ (d : List ℕ). BeginsExchange mock role stored d first x) dr begun;
          learnt_is = is;
          said_is = said_first said saying (message_frame label (challenge x)) silent says;
        },
      )
  after_role t u xs said saying rest label role first mock mock_stored stored pl dr is silent sent is_mock (begins_none none refused) anew =
      refused_so k place drawn bytes t u xs said saying rest label InvalidAuthorization pl dr refused anew
      (sent_no_first label role first rest mock_stored stored sent is none (said_first said saying (refusal_said label InvalidAuthorization) silent refused.0))

  -- what was learnt, where each text was found
  all_found : (xs more : List Learnt) (role text mock_text : List ℕ) (mock_stored stored now : Option (List ℕ)) → mock_stored ≡ Some mock_text → stored ≡ Some text → now ≡ Some text
      → xs ≡ looked_up place.table place.mock mock_stored ∷ looked_up place.table role stored ∷ [] → more ≡ xs ++ looked_up place.table role now ∷ []
      → more ≡ found place.table place.mock mock_text ∷ found place.table role text ∷ found place.table role text ∷ []
  all_found xs more role text mock_text mock_stored stored now m s n is then =
      then ∙ ap (λ (l : List Learnt). l ++ looked_up place.table role now ∷ []) is
      ∙ ap (λ (o : Option (List ℕ)). looked_up place.table place.mock o ∷ looked_up place.table role stored ∷ looked_up place.table role now ∷ []) m
      ∙ ap (λ (o : Option (List ℕ)). found place.table place.mock mock_text ∷ looked_up place.table role o ∷ looked_up place.table role now ∷ []) s
      ∙ ap (λ (o : Option (List ℕ)). found place.table place.mock mock_text ∷ found place.table role text ∷ looked_up place.table role o ∷ []) n

  after_last : (t u : PasswordTalk T) (xs more : List Learnt) (said saying rest : List ℕ) (label : ℕ) (role last : List ℕ) (x : TheExchange) (stored : Option (List ℕ))
      → t.login.place ≡ place → t.login.drawn ≡ drawn → HasAnswered k place drawn bytes label role x last xs said rest → more ≡ xs ++ looked_up place.table role stored ∷ []
      → AnswersLast t.login.place t.login.drawn label role x last stored saying u.login → u.is_found ≡ false
      → Stands k place drawn bytes u more (said ++ saying) rest
  after_last t u xs more said saying rest label role last x stored pl dr it then (is_let_in text shown says so) anew =
      let begun = it.challenged in
      let was = shown_so begun.mock role drawn begun.first last text begun.stored stored x begun.begins_so shown in
      at_stage k place drawn bytes t u (stage.Admitted role text) (want.Verifier t.login.place.table role) more (said ++ saying) rest pl dr so anew (
        ap (λ (p : PasswordPlace). want.Verifier p.table role) pl,
        record {
          label = label;
          first = begun.first;
          last = last;
          middle = it.middle;
          rest = rest;
          begun = begun.begun;
          ended = it.ended;
          was_shown = was.2;
          mock_text = begun.is_mock.text;
          later = [];
          learnt_is = all_found xs more role text begun.is_mock.text begun.mock_stored begun.stored stored begun.is_mock.is_stored was.0 was.1 begun.learnt_is then;
        },
      )
  after_last t u xs more said saying rest label role last x stored pl dr it then (has_shown_none none refused) anew =
      refused_so k place drawn bytes t u more said saying rest label InvalidAuthorization pl dr refused anew
      (showed_nothing label role said it.middle last rest x xs stored it.challenged it.ended then none (ap (λ (l : List ℕ). said ++ l) refused.0))

  -- it could not be looked up
  after_fault : (t u : PasswordTalk T) (xs more : List Learnt) (said saying rest : List ℕ) (label : ℕ) (role : List ℕ) (state : SqlState)
      → t.login.place ≡ place → t.login.drawn ≡ drawn → more ≡ xs ++ not_looked_up place.table role state ∷ []
      → RefusesLogin t.login.place t.login.drawn label state saying u.login → u.is_found ≡ false → Stands k place drawn bytes u more (said ++ saying) rest
  after_fault t u xs more said saying rest label role state pl dr then refused anew =
      refused_so k place drawn bytes t u more said saying rest label state pl dr refused anew
      (failed label role said state xs then (ap (λ (l : List ℕ). said ++ l) refused.0))

  learns_begun : (t u : PasswordTalk T) (xs more : List Learnt) (said saying rest : List ℕ) (label : ℕ) (role first : List ℕ) (r : Reply)
      → t.login.place ≡ place → t.login.drawn ≡ drawn → xs ≡ [] → said ≡ [] → Sends bytes (begins label role first) rest
      → more ≡ xs ++ learnt (want.Verifier place.table place.mock) r ∷ [] → FitsWant (want.Verifier place.table place.mock) r
      → LearnsAt (stage.Begun label role first) t.login.place t.login.drawn r saying u.login → u.is_found ≡ false → Stands k place drawn bytes u more (said ++ saying) rest
  learns_begun t u xs more said saying rest label role first (reply.Verifier (Ok stored)) pl dr none silent sent then fits learns anew =
      after_mock t u more said saying rest label role first stored pl dr
      (then ∙ ap (λ (l : List Learnt). l ++ looked_up place.table place.mock stored ∷ []) none) silent sent learns anew
  learns_begun t u xs more said saying rest label role first (reply.Verifier (Err state)) pl dr none silent sent then fits learns anew =
      after_fault t u xs more said saying rest label place.mock state pl dr then learns anew
  learns_begun t u xs more said saying rest label role first (reply.Answer a) pl dr none silent sent then fits learns anew = absurd fits
  learns_begun t u xs more said saying rest label role first (reply.Standing b) pl dr none silent sent then fits learns anew = absurd fits
  learns_begun t u xs more said saying rest label role first (reply.Description d) pl dr none silent sent then fits learns anew = absurd fits

  learns_mocked : (t u : PasswordTalk T) (xs more : List Learnt) (said saying rest : List ℕ) (label : ℕ) (role first : List ℕ) (mock : TheMock) (r : Reply)
      → t.login.place ≡ place → t.login.drawn ≡ drawn → HasMock k place drawn bytes label role first mock xs said rest
      → more ≡ xs ++ learnt (want.Verifier place.table role) r ∷ [] → FitsWant (want.Verifier place.table role) r
      → LearnsAt (stage.Mocked label role first mock) t.login.place t.login.drawn r saying u.login → u.is_found ≡ false → Stands k place drawn bytes u more (said ++ saying) rest
  learns_mocked t u xs more said saying rest label role first mock (reply.Verifier (Ok stored)) pl dr it then fits learns anew =
      after_role t u more said saying rest label role first mock it.stored stored pl dr
      (then ∙ ap (λ (l : List Learnt). l ++ looked_up place.table role stored ∷ []) it.learnt_is) it.said_is it.begun it.is_mock learns anew
  learns_mocked t u xs more said saying rest label role first mock (reply.Verifier (Err state)) pl dr it then fits learns anew =
      after_fault t u xs more said saying rest label role state pl dr then learns anew
  learns_mocked t u xs more said saying rest label role first mock (reply.Answer a) pl dr it then fits learns anew = absurd fits
  learns_mocked t u xs more said saying rest label role first mock (reply.Standing b) pl dr it then fits learns anew = absurd fits
  learns_mocked t u xs more said saying rest label role first mock (reply.Description d) pl dr it then fits learns anew = absurd fits

  learns_answered : (t u : PasswordTalk T) (xs more : List Learnt) (said saying rest : List ℕ) (label : ℕ) (role : List ℕ) (x : TheExchange) (last : List ℕ) (r : Reply)
      → t.login.place ≡ place → t.login.drawn ≡ drawn → HasAnswered k place drawn bytes label role x last xs said rest
      → more ≡ xs ++ learnt (want.Verifier place.table role) r ∷ [] → FitsWant (want.Verifier place.table role) r
      → LearnsAt (stage.Answered label role x last) t.login.place t.login.drawn r saying u.login → u.is_found ≡ false → Stands k place drawn bytes u more (said ++ saying) rest
  learns_answered t u xs more said saying rest label role x last (reply.Verifier (Ok stored)) pl dr it then fits learns anew =
      after_last t u xs more said saying rest label role last x stored pl dr it then learns anew
  learns_answered t u xs more said saying rest label role x last (reply.Verifier (Err state)) pl dr it then fits learns anew =
      after_fault t u xs more said saying rest label role state pl dr then learns anew
  learns_answered t u xs more said saying rest label role x last (reply.Answer a) pl dr it then fits learns anew = absurd fits
  learns_answered t u xs more said saying rest label role x last (reply.Standing b) pl dr it then fits learns anew = absurd fits
  learns_answered t u xs more said saying rest label role x last (reply.Description d) pl dr it then fits learns anew = absurd fits

  -- ---- once the password was shown

  shown_on : (role text : List ℕ) (xs more : List Learnt) (x : Learnt) → HasShown place drawn bytes xs role text → more ≡ xs ++ x ∷ [] → HasShown place drawn bytes more role text
  shown_on role text xs more x it then = record {
    label = it.label;
    first = it.first;
    last = it.last;
    middle = it.middle;
    rest = it.rest;
    begun = it.begun;
    ended = it.ended;
    was_shown = it.was_shown;
    mock_text = it.mock_text;
    later = it.later ++ x ∷ [];
    learnt_is = then ∙ ap (λ (l : List Learnt). l ++ x ∷ []) it.learnt_is;
  }

  opens_if : (t u : PasswordTalk T) (xs more : List Learnt) (said saying rest role text : List ℕ) (w : Want) (r : Reply) (b : Bool) (state : SqlState)
      → t.login.place ≡ place → t.login.drawn ≡ drawn → t.login.stage ≡ stage.Admitted role text → t.login.want ≡ want.Verifier place.table role
      → HasShown place drawn bytes xs role text → more ≡ xs ++ learnt (want.Verifier place.table role) r ∷ []
      → k.wants t.talk ≡ w → is_as_shown (stage.Admitted role text) w r ≡ b → OpensIf k b state t saying u → Stands k place drawn bytes u more (said ++ saying) rest
  opens_if t u xs more said saying rest role text w r false state pl dr st wa shown then wants as_shown learns =
      goes_on_anew k place drawn bytes t u role text more (said ++ saying) rest pl dr st wa learns.1 learns.2
      (shown_on role text xs more (learnt (want.Verifier place.table role) r) shown then)
  opens_if t u xs more said saying rest role text w r true state pl dr st wa shown then wants as_shown learns =
      let it = was_found role text w r as_shown in
      goes_on k place drawn bytes t u role text more (said ++ saying) rest pl dr st wa learns.2
      (shown_on role text xs more (learnt (want.Verifier place.table role) r) shown then)
      (subst (λ (b : Bool). FoundNow k place drawn bytes b (stage.Admitted role text) (k.wants u.talk) more) (sym learns.3) (record {
        is_for = subst (λ (v : Want). IsFor k place drawn bytes role v) (sym (ap k.wants learns.1 ∙ wants ∙ it.wants)) it.login_is;
        earlier = xs;
        found_now = then ∙ ap (λ (s : Reply). xs ++ learnt (want.Verifier place.table role) s ∷ []) it.reply_is;
      }))

  learns_first : (t u : PasswordTalk T) (xs more : List Learnt) (said saying rest role text : List ℕ) (v : Want) (r : Reply) (b : Bool)
      → t.login.place ≡ place → t.login.drawn ≡ drawn → t.login.stage ≡ stage.Admitted role text → t.login.want ≡ want.Verifier place.table role
      → HasShown place drawn bytes xs role text → v ≡ cond b t.login.want (k.wants t.talk) → more ≡ xs ++ learnt v r ∷ []
      → LearnsFirstIf k b (stage.Admitted role text) t r saying u → Stands k place drawn bytes u more (said ++ saying) rest
  learns_first t u xs more said saying rest role text v r false pl dr st wa shown is then learns =
      goes_on_anew k place drawn bytes t u role text more (said ++ saying) rest pl dr st wa learns.1 learns.2
      (shown_on role text xs more (learnt v r) shown then)
  learns_first t u xs more said saying rest role text v r true pl dr st wa shown is then learns =
      opens_if t u xs more said saying rest role text (k.wants t.talk) r (is_as_shown (stage.Admitted role text) (k.wants t.talk) r) (refusal (stage.Admitted role text) (k.wants t.talk) r)
      pl dr st wa shown (then ∙ ap (λ (w : Want). xs ++ learnt w r ∷ []) (is ∙ wa)) refl refl learns

  -- ---- by how it stands

  -- once it has ended nothing is learnt
  ended_learns : (w : Want) (r : Reply) (xs : List Learnt) (said : List ℕ) → EndedSo k place drawn bytes w xs said → FitsWant w r → ⊥
  ended_learns (want.End late) r xs said it fits = fits
  ended_learns want.OutOfMemory r xs said it fits = fits
  ended_learns want.Message r xs said it fits = it
  ended_learns (want.Event e) r xs said it fits = it
  ended_learns (want.Open n login entry) r xs said it fits = it
  ended_learns (want.Standing n) r xs said it fits = it
  ended_learns (want.Description n text) r xs said it fits = it
  ended_learns (want.Verifier table role) r xs said it fits = it

  pub learns_at : (t u : PasswordTalk T) (xs more : List Learnt) (said saying rest : List ℕ) (v : Want) (r : Reply) (s : LoginStage) → t.login.stage ≡ s
      → t.login.place ≡ place → t.login.drawn ≡ drawn → Reached k place drawn bytes s t.login.want xs said rest
      → v ≡ wanted_inside (is_admitted s) t.login t.is_found (k.wants t.talk) → more ≡ xs ++ learnt v r ∷ [] → FitsWant v r
      → LearnsIf k (is_admitted s) s t r saying u → Stands k place drawn bytes u more (said ++ saying) rest
  learns_at t u xs more said saying rest v r stage.Silent st pl dr it is then fits learns = absurd (subst (λ (w : Want). FitsWant w r) (is ∙ it.0) fits)
  learns_at t u xs more said saying rest v r (stage.Begun label role first) st pl dr it is then fits learns =
      learns_begun t u xs more said saying rest label role first r pl dr it.1 it.2 it.3
      (then ∙ ap (λ (w : Want). xs ++ learnt w r ∷ []) (is ∙ it.0)) (subst (λ (w : Want). FitsWant w r) (is ∙ it.0) fits) learns.0 learns.2
  learns_at t u xs more said saying rest v r (stage.Mocked label role first mock) st pl dr it is then fits learns =
      learns_mocked t u xs more said saying rest label role first mock r pl dr it.1
      (then ∙ ap (λ (w : Want). xs ++ learnt w r ∷ []) (is ∙ it.0)) (subst (λ (w : Want). FitsWant w r) (is ∙ it.0) fits) learns.0 learns.2
  learns_at t u xs more said saying rest v r (stage.Challenged label role x) st pl dr it is then fits learns = absurd (subst (λ (w : Want). FitsWant w r) (is ∙ it.0) fits)
  learns_at t u xs more said saying rest v r (stage.Answered label role x last) st pl dr it is then fits learns =
      learns_answered t u xs more said saying rest label role x last r pl dr it.1
      (then ∙ ap (λ (w : Want). xs ++ learnt w r ∷ []) (is ∙ it.0)) (subst (λ (w : Want). FitsWant w r) (is ∙ it.0) fits) learns.0 learns.2
  learns_at t u xs more said saying rest v r (stage.Admitted role text) st pl dr it is then fits learns =
      learns_first t u xs more said saying rest role text v r (asks_first t.is_found (k.wants t.talk)) pl dr st it.0 it.1 is then learns
  learns_at t u xs more said saying rest v r stage.Ended st pl dr it is then fits learns = absurd (ended_learns t.login.want r xs said it (subst (λ (w : Want). FitsWant w r) is fits))
