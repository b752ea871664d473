-- How an exchange stands, after what was heard, learnt and said.
use Rattle.std.proofs.Common.{◌≡◌, ◌∙◌, ◌+◌, ℕ, Bool, true, false, nat_lt, List, [], ◌∷◌, ◌++◌, take, drop, refl, ap, sym, subst}
use Rattle.std.specs.Prelude.{Option, Some, None}
use Rattle.std.proofs.lemmas.List.{append-nil}
use Rattle.sql_types.specs.declared.state.SqlState.{SqlState}
use Rattle.sql_types.specs.declared.state.SqlState.TheVariants.{ProtocolViolation}
use Rattle.postgres_messages.specs.declared.front.StreamFront.TheVariants as stream
use Rattle.postgres_messages.specs.Front.{message_front, start_front}
use Rattle.talks.specs.Wants.{Learnt}
use Rattle.talks.specs.declared.talk.MessageFront.TheVariants.{Whole}
use Rattle.talks.specs.declared.talk.Talk.{Ghosts}
use Rattle.talks.specs.declared.want.Want.{Want}
use Rattle.talks.specs.declared.want.Want.TheVariants as want
use Rattle.scram.specs.Exchanges.{TheExchange, BeginsExchange, challenge}
use Rattle.scram.specs.Mocks.{TheMock}
use Rattle.password_talks.specs.Courses.{found, looked_up}
use Rattle.password_talks.specs.Logins.{IsMockOf}
use Rattle.password_talks.specs.declared.login.PasswordPlace.{PasswordPlace}
use Rattle.postgres_logins.specs.declared.start_request.StartRequest.{StartRequest}
use Rattle.postgres_logins.specs.declared.start_request.StartRequest.TheVariants as request
use Rattle.postgres_logins.specs.declared.stage.SaslStage.{SaslStage}
use Rattle.postgres_logins.specs.declared.stage.SaslStage.TheVariants as stage
use Rattle.postgres_logins.specs.declared.stage.Newcomer.{Newcomer}
use Rattle.postgres_logins.specs.declared.login.SaslLogin.{SaslLogin}
use Rattle.postgres_logins.specs.declared.postgres_login_talk.PostgresLoginTalk.{PostgresLoginTalk}
use Rattle.postgres_logins.specs.Courses.{HasAsked, WasChallenged, HasEntered, HasOffered, HasAuthenticated, RefusedFor, asked_more, asked_none, sent_no_first}
use Rattle.postgres_logins.specs.EntryMessages.{CarriesFirst, AsksAtStart, SendsFirst, SendsLast, SendsPacket, answer_in}
use Rattle.postgres_logins.specs.FrontLaws.{whole_in}
use Rattle.postgres_logins.specs.Logins.{OpensExchange, HearsEncryption, HearsFirst, HearsLast, HearsRequest, SendsAway, RefusesClient, StandsAs, begins_none, challenged, is_admitted, newcomer}
use Rattle.postgres_logins.specs.PostgresLoginTalks.{HearsIf, RejectsIf, front_at, wanted_inside}
use Rattle.postgres_logins.specs.Sayings.{failure_said, first_said, no_encryption}

-- nothing more was said
pub said_no_more : (said saying : List ℕ) → saying ≡ [] → said ++ saying ≡ said
said_no_more said saying none = ap (λ (m : List ℕ). said ++ m) none ∙ append-nil said

module _ {T : Type 0} (k : Ghosts T) (place : PasswordPlace) (drawn bytes : List ℕ) where
  -- the mock was made for an exchange that begins
  pub record HasMock (n : Newcomer) (mock : TheMock) (xs : List Learnt) (said rest : List ℕ) : Type 0 where
    pub stored : Option (List ℕ)
    pub is_mock : IsMockOf stored mock
    pub learnt_is : xs ≡ looked_up place.table place.mock stored ∷ []
    pub entered : HasEntered bytes n said rest

  -- the last message has come
  pub record HasAnswered (n : Newcomer) (x : TheExchange) (last : List ℕ) (xs : List Learnt) (said rest : List ℕ) : Type 0 where
    pub middle : List ℕ
    pub challenged : WasChallenged place drawn bytes xs said middle n x
    pub ended : SendsLast middle last rest

  -- it has ended
  abbrev pub EndedSo : Want → List Learnt → List ℕ → Type 0
  EndedSo (want.End true) xs said = RefusedFor place drawn bytes xs said
  EndedSo (want.End false) xs said = Unit {0}
  EndedSo want.OutOfMemory xs said = Unit {0}
  EndedSo _ xs said = ⊥

  -- how far it has come, and what it wants
  abbrev pub Reached : SaslStage → Want → List Learnt → List ℕ → List ℕ → Type 0
  Reached (stage.Starting answered) w xs said rest = (w ≡ want.Message) × (xs ≡ []) × HasAsked bytes answered said rest
  Reached (stage.Begun n) w xs said rest = (w ≡ want.Verifier place.table place.mock) × (xs ≡ []) × HasEntered bytes n said rest
  Reached (stage.Mocked n mock) w xs said rest = (w ≡ want.Verifier place.table n.role) × HasMock n mock xs said rest
  Reached (stage.Offered n mock stored) w xs said rest = (w ≡ want.Message) × HasOffered place bytes xs said rest n mock stored
  Reached (stage.Challenged n x) w xs said rest = (w ≡ want.Message) × WasChallenged place drawn bytes xs said rest n x
  Reached (stage.Answered n x last) w xs said rest = (w ≡ want.Verifier place.table n.role) × HasAnswered n x last xs said rest
  Reached (stage.Admitted n text) w xs said rest = (w ≡ want.Verifier place.table n.role) × HasAuthenticated place drawn bytes xs n text
  Reached stage.Ended w xs said rest = EndedSo w xs said

  -- a session that is wanted is for this role
  abbrev pub IsFor : List ℕ → Want → Type 0
  IsFor role (want.Open session login entry) = login ≡ role
  IsFor role _ = Unit {0}

  -- the verifier was just looked up for the session that is wanted
  pub record FoundIt (role text : List ℕ) (w : Want) (xs : List Learnt) : Type 0 where
    pub is_for : IsFor role w
    pub earlier : List Learnt
    pub found_now : xs ≡ earlier ++ found place.table role text ∷ []

  abbrev pub FoundNow : Bool → SaslStage → Want → List Learnt → Type 0
  FoundNow true (stage.Admitted n text) w xs = FoundIt n.role text w xs
  FoundNow _ _ w xs = Unit {0}

  pub record Stands (t : PostgresLoginTalk T) (xs : List Learnt) (said rest : List ℕ) : Type 0 where
    pub place_is : t.login.place ≡ place
    pub drawn_is : t.login.drawn ≡ drawn
    pub reached : Reached t.login.stage t.login.want xs said rest
    pub found_it : FoundNow t.is_found t.login.stage (k.wants t.talk) xs

  -- ---- what stands so

  pub at_stage : (t u : PostgresLoginTalk T) (s : SaslStage) (w : Want) (xs : List Learnt) (said rest : List ℕ) → t.login.place ≡ place → t.login.drawn ≡ drawn
      → StandsAs t.login.place t.login.drawn s w u.login → u.is_found ≡ false → Reached s w xs said rest → Stands u xs said rest
  at_stage t u s w xs said rest pl dr so none it = record {
    place_is = so.0 ∙ pl;
    drawn_is = so.1 ∙ dr;
    reached = subst (λ (a : SaslStage). Reached a u.login.want xs said rest) (sym so.2) (subst (λ (v : Want). Reached s v xs said rest) (sym so.3) it);
    found_it = subst (λ (b : Bool). FoundNow b u.login.stage (k.wants u.talk) xs) (sym none) tt;
  }

  pub refused_so : (t u : PostgresLoginTalk T) (xs : List Learnt) (said saying rest told : List ℕ) → t.login.place ≡ place → t.login.drawn ≡ drawn
      → RefusesClient t.login.place t.login.drawn told saying u.login → u.is_found ≡ false → RefusedFor place drawn bytes xs (said ++ saying) → Stands u xs (said ++ saying) rest
  refused_so t u xs said saying rest told pl dr it none was = at_stage t u stage.Ended (want.End true) xs (said ++ saying) rest pl dr it.1 none was

  pub unfit_so : (t u : PostgresLoginTalk T) (xs : List Learnt) (said saying rest : List ℕ) (state : SqlState) → t.login.place ≡ place → t.login.drawn ≡ drawn
      → SendsAway t.login.place t.login.drawn state saying u.login → u.is_found ≡ false → Stands u xs (said ++ saying) rest
  unfit_so t u xs said saying rest state pl dr it none = at_stage t u stage.Ended (want.End false) xs (said ++ saying) rest pl dr it.1 none tt

  -- the conversation inside has done something
  pub goes_on : (t u : PostgresLoginTalk T) (n : Newcomer) (text : List ℕ) (xs : List Learnt) (said rest : List ℕ) → t.login.place ≡ place → t.login.drawn ≡ drawn
      → t.login.stage ≡ stage.Admitted n text → t.login.want ≡ want.Verifier place.table n.role → u.login ≡ t.login
      → HasAuthenticated place drawn bytes xs n text → FoundNow u.is_found (stage.Admitted n text) (k.wants u.talk) xs → Stands u xs said rest
  goes_on t u n text xs said rest pl dr st wa same shown now = record {
    place_is = ap (λ (l : SaslLogin). l.place) same ∙ pl;
    drawn_is = ap (λ (l : SaslLogin). l.drawn) same ∙ dr;
    reached = subst (λ (a : SaslStage). Reached a u.login.want xs said rest) (sym (ap (λ (l : SaslLogin). l.stage) same ∙ st))
        (ap (λ (l : SaslLogin). l.want) same ∙ wa, shown);
    found_it = subst (λ (a : SaslStage). FoundNow u.is_found a (k.wants u.talk) xs) (sym (ap (λ (l : SaslLogin). l.stage) same ∙ st)) now;
  }

  pub goes_on_anew : (t u : PostgresLoginTalk T) (n : Newcomer) (text : List ℕ) (xs : List Learnt) (said rest : List ℕ) → t.login.place ≡ place → t.login.drawn ≡ drawn
      → t.login.stage ≡ stage.Admitted n text → t.login.want ≡ want.Verifier place.table n.role → u.login ≡ t.login → u.is_found ≡ false
      → HasAuthenticated place drawn bytes xs n text → Stands u xs said rest
  goes_on_anew t u n text xs said rest pl dr st wa same none shown =
      goes_on t u n text xs said rest pl dr st wa same shown
      (subst (λ (b : Bool). FoundNow b (stage.Admitted n text) (k.wants u.talk) xs) (sym none) tt)

  -- ---- packets of the start

  encryption_heard : (t u : PostgresLoginTalk T) (xs : List Learnt) (said saying rest : List ℕ) (size answered : ℕ) (b : Bool) → t.login.place ≡ place → t.login.drawn ≡ drawn
      → xs ≡ [] → HasAsked bytes answered said rest → SendsPacket rest request.Encryption size (drop size rest)
      → HearsEncryption b answered t.login.place t.login.drawn saying u.login → u.is_found ≡ false → Stands u xs (said ++ saying) (drop size rest)
  encryption_heard t u xs said saying rest size answered true pl dr none asked sent heard anew =
      at_stage t u (stage.Starting (answered + 1)) want.Message xs (said ++ saying) (drop size rest) pl dr heard.1 anew (
        refl,
        none,
        subst (λ (l : List ℕ). HasAsked bytes (answered + 1) (said ++ l) (drop size rest)) (sym heard.0) (asked_more answered size said rest (drop size rest) asked sent),
      )
  encryption_heard t u xs said saying rest size answered false pl dr none asked sent heard anew =
      unfit_so t u xs said saying (drop size rest) ProtocolViolation pl dr heard anew

  packet_heard : (t u : PostgresLoginTalk T) (xs : List Learnt) (said saying rest : List ℕ) (size answered : ℕ) (r : StartRequest) → t.login.place ≡ place → t.login.drawn ≡ drawn
      → xs ≡ [] → HasAsked bytes answered said rest → start_front rest ≡ stream.Whole size → AsksAtStart (take size rest) r
      → HearsRequest r answered (take size rest) t.login.place t.login.drawn saying u.login → u.is_found ≡ false → Stands u xs (said ++ saying) (drop size rest)
  packet_heard t u xs said saying rest size answered request.Encryption pl dr none asked front asks heard anew =
      encryption_heard t u xs said saying rest size answered (nat_lt answered 2) pl dr none asked (record { front = front; asks = asks; rest_is = refl }) heard anew
  packet_heard t u xs said saying rest size answered request.Leave pl dr none asked front asks heard anew =
      at_stage t u stage.Ended (want.End false) xs (said ++ saying) (drop size rest) pl dr heard.1 anew tt
  packet_heard t u xs said saying rest size answered (request.Login role) pl dr none asked front asks heard anew =
      at_stage t u (stage.Begun (newcomer (take size rest) role)) (want.Verifier t.login.place.table t.login.place.mock) xs (said ++ saying) (drop size rest) pl dr heard.1 anew (
        ap (λ (p : PasswordPlace). want.Verifier p.table p.mock) pl,
        none,
        record {
          count = answered;
          middle = rest;
          asked = subst (λ (l : List ℕ). HasAsked bytes answered l rest) (sym (said_no_more said saying heard.0)) asked;
          size = size;
          enters = record { front = front; asks = asks; rest_is = refl };
          start_is = refl;
        },
      )
  packet_heard t u xs said saying rest size answered (request.Unfit state) pl dr none asked front asks heard anew =
      unfit_so t u xs said saying (drop size rest) state pl dr heard anew

  -- ---- messages

  exchange_begun : (t u : PostgresLoginTalk T) (xs : List Learnt) (said saying rest : List ℕ) (size : ℕ) (n : Newcomer) (mock : TheMock) (stored : Option (List ℕ)) (first : List ℕ)
      → t.login.place ≡ place → t.login.drawn ≡ drawn → HasOffered place bytes xs said rest n mock stored
      → SendsFirst rest first (drop size rest)
      → OpensExchange t.login.place t.login.drawn n mock stored first saying u.login → u.is_found ≡ false → Stands u xs (said ++ saying) (drop size rest)
  exchange_begun t u xs said saying rest size n mock stored first pl dr offered sent (challenged x begun says so) anew =
      at_stage t u (stage.Challenged n x) want.Message xs (said ++ saying) (drop size rest) pl dr so anew (
        refl,
        record {
          mock = mock;
          stored = stored;
          before = said;
          middle = rest;
          offered = offered;
          first = first;
          begun = sent;
          begins_so = subst (λ (d : List ℕ). BeginsExchange mock n.role stored d first x) dr begun;
          said_is = ap (λ (l : List ℕ). said ++ l) says;
        },
      )
  exchange_begun t u xs said saying rest size n mock stored first pl dr offered sent (begins_none none refused) anew =
      refused_so t u xs said saying (drop size rest) (failure_said n.role) pl dr refused anew
      (sent_no_first n mock said rest first (drop size rest) stored offered sent none (ap (λ (l : List ℕ). said ++ l) refused.0))

  first_heard : (t u : PostgresLoginTalk T) (xs : List Learnt) (said saying rest : List ℕ) (size : ℕ) (n : Newcomer) (mock : TheMock) (stored o : Option (List ℕ))
      → t.login.place ≡ place → t.login.drawn ≡ drawn → HasOffered place bytes xs said rest n mock stored
      → message_front 2000 rest ≡ stream.Whole size → CarriesFirst (take size rest) o
      → HearsFirst o n mock stored t.login.place t.login.drawn saying u.login → u.is_found ≡ false → Stands u xs (said ++ saying) (drop size rest)
  first_heard t u xs said saying rest size n mock stored (Some first) pl dr offered front is heard anew =
      exchange_begun t u xs said saying rest size n mock stored first pl dr offered (record { size = size; front = front; is_first = is; rest_is = refl }) heard anew
  first_heard t u xs said saying rest size n mock stored None pl dr offered front is heard anew =
      unfit_so t u xs said saying (drop size rest) ProtocolViolation pl dr heard anew

  last_heard : (t u : PostgresLoginTalk T) (xs : List Learnt) (said saying rest : List ℕ) (size : ℕ) (n : Newcomer) (x : TheExchange) (o : Option (List ℕ))
      → t.login.place ≡ place → t.login.drawn ≡ drawn → WasChallenged place drawn bytes xs said rest n x
      → message_front 2000 rest ≡ stream.Whole size → answer_in (take size rest) ≡ o
      → HearsLast o n x t.login.place t.login.drawn saying u.login → u.is_found ≡ false → Stands u xs (said ++ saying) (drop size rest)
  last_heard t u xs said saying rest size n x (Some last) pl dr it front is heard anew =
      at_stage t u (stage.Answered n x last) (want.Verifier t.login.place.table n.role) xs (said ++ saying) (drop size rest) pl dr heard.1 anew (
        ap (λ (p : PasswordPlace). want.Verifier p.table n.role) pl,
        record {
          middle = rest;
          challenged = subst (λ (l : List ℕ). WasChallenged place drawn bytes xs l rest n x) (sym (said_no_more said saying heard.0)) it;
          ended = record { size = size; front = front; carries = is; rest_is = refl };
        },
      )
  last_heard t u xs said saying rest size n x None pl dr it front is heard anew =
      unfit_so t u xs said saying (drop size rest) ProtocolViolation pl dr heard anew

  -- a message, by how the exchange stands
  pub hears_at : (t u : PostgresLoginTalk T) (xs : List Learnt) (said saying rest : List ℕ) (size : ℕ) (s : SaslStage) → t.login.stage ≡ s
      → t.login.place ≡ place → t.login.drawn ≡ drawn → Reached s t.login.want xs said rest
      → wanted_inside (is_admitted s) t.login t.is_found (k.wants t.talk) ≡ want.Message → front_at k s t.talk rest ≡ Whole size
      → HearsIf k (is_admitted s) s t (take size rest) saying u → Stands u xs (said ++ saying) (drop size rest)
  hears_at t u xs said saying rest size (stage.Starting answered) st pl dr it wants front heard =
      packet_heard t u xs said saying rest size answered heard.0.0 pl dr it.1 it.2 (whole_in (start_front rest) size front) heard.0.1 heard.0.2 heard.2
  hears_at t u xs said saying rest size (stage.Begun n) st pl dr it wants front heard =
      let wrong : want.Verifier place.table place.mock ≡ want.Message = sym it.0 ∙ wants in cc
  hears_at t u xs said saying rest size (stage.Mocked n mock) st pl dr it wants front heard =
      let wrong : want.Verifier place.table n.role ≡ want.Message = sym it.0 ∙ wants in cc
  hears_at t u xs said saying rest size (stage.Offered n mock stored) st pl dr it wants front heard =
      first_heard t u xs said saying rest size n mock stored heard.0.0 pl dr it.1 (whole_in (message_front 2000 rest) size front) heard.0.1 heard.0.2 heard.2
  hears_at t u xs said saying rest size (stage.Challenged n x) st pl dr it wants front heard =
      last_heard t u xs said saying rest size n x (answer_in (take size rest)) pl dr it.1 (whole_in (message_front 2000 rest) size front) refl heard.0 heard.2
  hears_at t u xs said saying rest size (stage.Answered n x last) st pl dr it wants front heard =
      let wrong : want.Verifier place.table n.role ≡ want.Message = sym it.0 ∙ wants in cc
  hears_at t u xs said saying rest size (stage.Admitted n text) st pl dr it wants front heard =
      goes_on_anew t u n text xs (said ++ saying) (drop size rest) pl dr st it.0 heard.1 heard.2 it.1
  hears_at t u xs said saying rest size stage.Ended st pl dr it wants front heard = absurd (subst (λ (w : Want). EndedSo w xs said) wants it)

  -- a bad front
  pub rejects_at : (t u : PostgresLoginTalk T) (xs : List Learnt) (said saying rest : List ℕ) (s : SaslStage) → t.login.stage ≡ s
      → t.login.place ≡ place → t.login.drawn ≡ drawn → Reached s t.login.want xs said rest
      → RejectsIf k (is_admitted s) t saying u → Stands u xs (said ++ saying) rest
  rejects_at t u xs said saying rest (stage.Admitted n text) st pl dr it heard =
      goes_on_anew t u n text xs (said ++ saying) rest pl dr st it.0 heard.1 heard.2 it.1
  rejects_at t u xs said saying rest (stage.Starting answered) st pl dr it heard = unfit_so t u xs said saying rest ProtocolViolation pl dr heard.0 heard.2
  rejects_at t u xs said saying rest (stage.Begun n) st pl dr it heard = unfit_so t u xs said saying rest ProtocolViolation pl dr heard.0 heard.2
  rejects_at t u xs said saying rest (stage.Mocked n mock) st pl dr it heard = unfit_so t u xs said saying rest ProtocolViolation pl dr heard.0 heard.2
  rejects_at t u xs said saying rest (stage.Offered n mock stored) st pl dr it heard = unfit_so t u xs said saying rest ProtocolViolation pl dr heard.0 heard.2
  rejects_at t u xs said saying rest (stage.Challenged n x) st pl dr it heard = unfit_so t u xs said saying rest ProtocolViolation pl dr heard.0 heard.2
  rejects_at t u xs said saying rest (stage.Answered n x last) st pl dr it heard = unfit_so t u xs said saying rest ProtocolViolation pl dr heard.0 heard.2
  rejects_at t u xs said saying rest stage.Ended st pl dr it heard = unfit_so t u xs said saying rest ProtocolViolation pl dr heard.0 heard.2
