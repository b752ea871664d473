-- How an exchange stands, after what was heard, learnt and said.
use Rattle.std.proofs.Common.{◌≡◌, ◌∙◌, ◌==◌, ℕ, Bool, true, false, List, [], ◌∷◌, ◌++◌, take, drop, refl, ap, sym, subst, arith}
use Rattle.std.specs.Prelude.{Option}
use Rattle.std.proofs.lemmas.Bool.Decides.{nat_tests}
use Rattle.std.proofs.lemmas.List.{append-nil}
use Rattle.sql_types.specs.declared.state.SqlState.{SqlState}
use Rattle.sql_types.specs.declared.state.SqlState.TheVariants.{InvalidAuthorization}
use Rattle.talks.specs.Wants.{Learnt}
use Rattle.talks.specs.declared.talk.MessageFront.TheVariants.{Whole}
use Rattle.talks.specs.declared.talk.Talk.{Ghosts}
use Rattle.talks.specs.declared.want.Want.{Want}
use Rattle.talks.specs.declared.want.Want.TheVariants as want
use Rattle.scram.specs.Exchanges.{TheExchange}
use Rattle.scram.specs.Mocks.{TheMock}
use Rattle.password_talks.specs.declared.stage.LoginStage.{LoginStage}
use Rattle.password_talks.specs.declared.stage.LoginStage.TheVariants as stage
use Rattle.password_talks.specs.declared.login.Login.{Login}
use Rattle.password_talks.specs.declared.login.PasswordPlace.{PasswordPlace}
use Rattle.password_talks.specs.declared.password_talk.PasswordTalk.{PasswordTalk}
use Rattle.password_talks.specs.EarlyFrames.{TheFrame, Sends, begins, ends, event, bad, early_front, early_frame}
use Rattle.password_talks.specs.Logins.{HearsAt, HearsEnd, IsBadFrame, IsMockOf, RefusesLogin, StandsSo, is_admitted, refusal_said}
use Rattle.password_talks.specs.PasswordTalks.{HearsIf, RejectsIf, front_at, wanted_inside}
use Rattle.password_talks.specs.Courses.{found, looked_up, HasChallenged, HasShown, WasRefused, sent_event, sent_event_then}

-- a frame at the front
pub sends_here : (bytes : List ℕ) (n : ℕ) (f : TheFrame) → early_front bytes ≡ Whole n → early_frame (take n bytes) ≡ f → Sends bytes f (drop n bytes)
sends_here bytes n f front is = record { size = n; front = front; is_frame = is; rest_is = refl }

-- nothing more was said
pub said_no_more : (said saying l : List ℕ) → said ≡ l → saying ≡ [] → said ++ saying ≡ l
said_no_more said saying l is none = ap (λ (m : List ℕ). said ++ m) none ∙ append-nil said ∙ is

-- nothing was said before
pub said_first : (said saying l : List ℕ) → said ≡ [] → saying ≡ l → said ++ saying ≡ l
said_first said saying l none is = ap (λ (m : List ℕ). m ++ saying) none ∙ is

module _ {T : Type 0} (k : Ghosts T) (place : PasswordPlace) (drawn bytes : List ℕ) where
  -- the mock was made for an exchange that begins
  pub record HasMock (label : ℕ) (role first : List ℕ) (mock : TheMock) (xs : List Learnt) (said rest : List ℕ) : Type 0 where
    pub stored : Option (List ℕ)
    pub is_mock : IsMockOf stored mock
    pub learnt_is : xs ≡ looked_up place.table place.mock stored ∷ []
    pub said_is : said ≡ []
    pub begun : Sends bytes (begins label role first) rest

  -- the last message has come
  pub record HasAnswered (label : ℕ) (role : List ℕ) (x : TheExchange) (last : List ℕ) (xs : List Learnt) (said rest : List ℕ) : Type 0 where
    pub middle : List ℕ
    pub challenged : HasChallenged place drawn bytes xs said middle label role x
    pub ended : Sends middle (ends label last) rest

  -- it has ended
  abbrev pub EndedSo : Want → List Learnt → List ℕ → Type 0
  EndedSo (want.End true) xs said = WasRefused place drawn bytes xs said
  EndedSo (want.End false) xs said = Unit {0}
  EndedSo want.OutOfMemory xs said = Unit {0}
  EndedSo _ xs said = ⊥

  -- how far it has come, and what it wants
  abbrev pub Reached : LoginStage → Want → List Learnt → List ℕ → List ℕ → Type 0
  Reached stage.Silent w xs said rest = (w ≡ want.Message) × (xs ≡ []) × (said ≡ []) × (rest ≡ bytes)
  Reached (stage.Begun label role first) w xs said rest =
      (w ≡ want.Verifier place.table place.mock) × (xs ≡ []) × (said ≡ []) × Sends bytes (begins label role first) rest
  Reached (stage.Mocked label role first mock) w xs said rest = (w ≡ want.Verifier place.table role) × HasMock label role first mock xs said rest
  Reached (stage.Challenged label role x) w xs said rest = (w ≡ want.Message) × HasChallenged place drawn bytes xs said rest label role x
  Reached (stage.Answered label role x last) w xs said rest = (w ≡ want.Verifier place.table role) × HasAnswered label role x last xs said rest
  Reached (stage.Admitted role text) w xs said rest = (w ≡ want.Verifier place.table role) × HasShown place drawn bytes xs role text
  Reached stage.Ended w xs said rest = EndedSo w xs said

  -- a session that is wanted is for this role
  abbrev pub IsFor : List ℕ → Want → Type 0
  IsFor role (want.Open session login entry) = login ≡ role
  IsFor role _ = Unit {0}

  -- the verifier was just looked up for the session that is wanted
  pub record FoundIt (role text : List ℕ) (w : Want) (xs : List Learnt) : Type 0 where
    pub is_for : IsFor role w
    pub earlier : List Learnt
    pub found_now : xs ≡ earlier ++ found place.table role text ∷ []

  abbrev pub FoundNow : Bool → LoginStage → Want → List Learnt → Type 0
  FoundNow true (stage.Admitted role text) w xs = FoundIt role text w xs
  FoundNow _ _ w xs = Unit {0}

  pub record Stands (t : PasswordTalk T) (xs : List Learnt) (said rest : List ℕ) : Type 0 where
    pub place_is : t.login.place ≡ place
    pub drawn_is : t.login.drawn ≡ drawn
    pub reached : Reached t.login.stage t.login.want xs said rest
    pub found_it : FoundNow t.is_found t.login.stage (k.wants t.talk) xs

  -- ---- what stands so

  pub at_stage : (t u : PasswordTalk T) (s : LoginStage) (w : Want) (xs : List Learnt) (said rest : List ℕ) → t.login.place ≡ place → t.login.drawn ≡ drawn
      → StandsSo t.login.place t.login.drawn s w u.login → u.is_found ≡ false → Reached s w xs said rest → Stands u xs said rest
  at_stage t u s w xs said rest pl dr so none it = record {
    place_is = so.0 ∙ pl;
    drawn_is = so.1 ∙ dr;
    reached = subst (λ (a : LoginStage). Reached a u.login.want xs said rest) (sym so.2) (subst (λ (v : Want). Reached s v xs said rest) (sym so.3) it);
    found_it = subst (λ (b : Bool). FoundNow b u.login.stage (k.wants u.talk) xs) (sym none) tt;
  }

  pub refused_so : (t u : PasswordTalk T) (xs : List Learnt) (said saying rest : List ℕ) (label : ℕ) (state : SqlState) → t.login.place ≡ place → t.login.drawn ≡ drawn
      → RefusesLogin t.login.place t.login.drawn label state saying u.login → u.is_found ≡ false → WasRefused place drawn bytes xs (said ++ saying) → Stands u xs (said ++ saying) rest
  refused_so t u xs said saying rest label state pl dr it none was = at_stage t u stage.Ended (want.End true) xs (said ++ saying) rest pl dr it.1 none was

  pub bad_so : (t u : PasswordTalk T) (xs : List Learnt) (said saying rest : List ℕ) → t.login.place ≡ place → t.login.drawn ≡ drawn
      → IsBadFrame t.login.place t.login.drawn saying u.login → u.is_found ≡ false → Stands u xs (said ++ saying) rest
  bad_so t u xs said saying rest pl dr it none = at_stage t u stage.Ended (want.End false) xs (said ++ saying) rest pl dr it.1 none tt

  -- the conversation inside has done something
  pub goes_on : (t u : PasswordTalk T) (role text : List ℕ) (xs : List Learnt) (said rest : List ℕ) → t.login.place ≡ place → t.login.drawn ≡ drawn
      → t.login.stage ≡ stage.Admitted role text → t.login.want ≡ want.Verifier place.table role → u.login ≡ t.login
      → HasShown place drawn bytes xs role text → FoundNow u.is_found (stage.Admitted role text) (k.wants u.talk) xs → Stands u xs said rest
  goes_on t u role text xs said rest pl dr st wa same shown now = record {
    place_is = ap (λ (l : Login). l.place) same ∙ pl;
    drawn_is = ap (λ (l : Login). l.drawn) same ∙ dr;
    reached = subst (λ (a : LoginStage). Reached a u.login.want xs said rest) (sym (ap (λ (l : Login). l.stage) same ∙ st))
        (ap (λ (l : Login). l.want) same ∙ wa, shown);
    found_it = subst (λ (a : LoginStage). FoundNow u.is_found a (k.wants u.talk) xs) (sym (ap (λ (l : Login). l.stage) same ∙ st)) now;
  }

  pub goes_on_anew : (t u : PasswordTalk T) (role text : List ℕ) (xs : List Learnt) (said rest : List ℕ) → t.login.place ≡ place → t.login.drawn ≡ drawn
      → t.login.stage ≡ stage.Admitted role text → t.login.want ≡ want.Verifier place.table role → u.login ≡ t.login → u.is_found ≡ false
      → HasShown place drawn bytes xs role text → Stands u xs said rest
  goes_on_anew t u role text xs said rest pl dr st wa same none shown =
      goes_on t u role text xs said rest pl dr st wa same shown
      (subst (λ (b : Bool). FoundNow b (stage.Admitted role text) (k.wants u.talk) xs) (sym none) tt)

  -- ---- a frame

  -- while nothing was heard
  first_frame : (t u : PasswordTalk T) (xs : List Learnt) (said saying rest : List ℕ) (n : ℕ) (f : TheFrame) → t.login.place ≡ place → t.login.drawn ≡ drawn
      → xs ≡ [] → said ≡ [] → rest ≡ bytes → early_front rest ≡ Whole n → early_frame (take n rest) ≡ f
      → HearsAt stage.Silent f t.login.place t.login.drawn saying u.login → u.is_found ≡ false → Stands u xs (said ++ saying) (drop n rest)
  first_frame t u xs said saying rest n (begins label role first) pl dr none silent whole front is heard anew =
      let sent : Sends bytes (begins label role first) (drop n rest) = subst (λ (l : List ℕ). Sends l (begins label role first) (drop n rest)) whole (sends_here rest n (begins label role first) front is) in
      at_stage t u (stage.Begun label role first) (want.Verifier t.login.place.table t.login.place.mock) xs (said ++ saying) (drop n rest) pl dr heard.1 anew
      (ap (λ (p : PasswordPlace). want.Verifier p.table p.mock) pl, none, said_first said saying [] silent heard.0, sent)
  first_frame t u xs said saying rest n (event session) pl dr none silent whole front is heard anew =
      let sent : Sends bytes (event session) (drop n rest) = subst (λ (l : List ℕ). Sends l (event session) (drop n rest)) whole (sends_here rest n (event session) front is) in
      refused_so t u xs said saying (drop n rest) session InvalidAuthorization pl dr heard anew
      (sent_event session (drop n rest) sent none (said_first said saying (refusal_said session InvalidAuthorization) silent heard.0))
  first_frame t u xs said saying rest n (ends label last) pl dr none silent whole front is heard anew = bad_so t u xs said saying (drop n rest) pl dr heard anew
  first_frame t u xs said saying rest n bad pl dr none silent whole front is heard anew = bad_so t u xs said saying (drop n rest) pl dr heard anew

  -- the last message, under the label of the exchange or under another
  last_frame : (t u : PasswordTalk T) (xs : List Learnt) (said saying rest : List ℕ) (n label own : ℕ) (role last : List ℕ) (x : TheExchange) (b : Bool)
      → t.login.place ≡ place → t.login.drawn ≡ drawn → HasChallenged place drawn bytes xs said rest label role x
      → early_front rest ≡ Whole n → early_frame (take n rest) ≡ ends own last → (own == label) ≡ b
      → HearsEnd b label role x last t.login.place t.login.drawn saying u.login → u.is_found ≡ false → Stands u xs (said ++ saying) (drop n rest)
  last_frame t u xs said saying rest n label own role last x true pl dr it front is same heard anew =
      let one : own ≡ label = grind (arith, nat_tests) in
      at_stage t u (stage.Answered label role x last) (want.Verifier t.login.place.table role) xs (said ++ saying) (drop n rest) pl dr heard.1 anew (
        ap (λ (p : PasswordPlace). want.Verifier p.table role) pl,
        record {
          middle = rest;
          challenged = subst (λ (l : List ℕ). HasChallenged place drawn bytes xs l rest label role x) (sym (said_no_more said saying said refl heard.0)) it;
          ended = sends_here rest n (ends label last) front (is ∙ ap (λ (l : ℕ). ends l last) one);
        },
      )
  last_frame t u xs said saying rest n label own role last x false pl dr it front is other heard anew = bad_so t u xs said saying (drop n rest) pl dr heard anew

  -- once the client was challenged
  second_frame : (t u : PasswordTalk T) (xs : List Learnt) (said saying rest : List ℕ) (n label : ℕ) (role : List ℕ) (x : TheExchange) (f : TheFrame)
      → t.login.place ≡ place → t.login.drawn ≡ drawn → HasChallenged place drawn bytes xs said rest label role x
      → early_front rest ≡ Whole n → early_frame (take n rest) ≡ f
      → HearsAt (stage.Challenged label role x) f t.login.place t.login.drawn saying u.login → u.is_found ≡ false → Stands u xs (said ++ saying) (drop n rest)
  second_frame t u xs said saying rest n label role x (ends own last) pl dr it front is heard anew =
      last_frame t u xs said saying rest n label own role last x (own == label) pl dr it front is refl heard anew
  second_frame t u xs said saying rest n label role x (event session) pl dr it front is heard anew =
      refused_so t u xs said saying (drop n rest) session InvalidAuthorization pl dr heard anew
      (sent_event_then label session role said rest (drop n rest) x it (sends_here rest n (event session) front is) (ap (λ (l : List ℕ). said ++ l) heard.0))
  second_frame t u xs said saying rest n label role x (begins own other first) pl dr it front is heard anew = bad_so t u xs said saying (drop n rest) pl dr heard anew
  second_frame t u xs said saying rest n label role x bad pl dr it front is heard anew = bad_so t u xs said saying (drop n rest) pl dr heard anew

  -- a message, by how the exchange stands
  pub hears_at : (t u : PasswordTalk T) (xs : List Learnt) (said saying rest : List ℕ) (n : ℕ) (s : LoginStage) → t.login.stage ≡ s
      → t.login.place ≡ place → t.login.drawn ≡ drawn → Reached s t.login.want xs said rest
      → wanted_inside (is_admitted s) t.login t.is_found (k.wants t.talk) ≡ want.Message → front_at k (is_admitted s) t.talk rest ≡ Whole n
      → HearsIf k (is_admitted s) s t (take n rest) saying u → Stands u xs (said ++ saying) (drop n rest)
  hears_at t u xs said saying rest n stage.Silent st pl dr it wants front heard =
      first_frame t u xs said saying rest n (early_frame (take n rest)) pl dr it.1 it.2 it.3 front refl heard.0 heard.2
  hears_at t u xs said saying rest n (stage.Begun label role first) st pl dr it wants front heard =
      let wrong : want.Verifier place.table place.mock ≡ want.Message = sym it.0 ∙ wants in cc
  hears_at t u xs said saying rest n (stage.Mocked label role first mock) st pl dr it wants front heard =
      let wrong : want.Verifier place.table role ≡ want.Message = sym it.0 ∙ wants in cc
  hears_at t u xs said saying rest n (stage.Challenged label role x) st pl dr it wants front heard =
      second_frame t u xs said saying rest n label role x (early_frame (take n rest)) pl dr it.1 front refl heard.0 heard.2
  hears_at t u xs said saying rest n (stage.Answered label role x last) st pl dr it wants front heard =
      let wrong : want.Verifier place.table role ≡ want.Message = sym it.0 ∙ wants in cc
  hears_at t u xs said saying rest n (stage.Admitted role text) st pl dr it wants front heard =
      goes_on_anew t u role text xs (said ++ saying) (drop n rest) pl dr st it.0 heard.1 heard.2 it.1
  hears_at t u xs said saying rest n stage.Ended st pl dr it wants front heard = absurd (subst (λ (w : Want). EndedSo w xs said) wants it)

  -- a bad front
  pub rejects_at : (t u : PasswordTalk T) (xs : List Learnt) (said saying rest : List ℕ) (s : LoginStage) → t.login.stage ≡ s
      → t.login.place ≡ place → t.login.drawn ≡ drawn → Reached s t.login.want xs said rest
      → RejectsIf k (is_admitted s) t saying u → Stands u xs (said ++ saying) rest
  rejects_at t u xs said saying rest (stage.Admitted role text) st pl dr it heard =
      goes_on_anew t u role text xs (said ++ saying) rest pl dr st it.0 heard.1 heard.2 it.1
  rejects_at t u xs said saying rest stage.Silent st pl dr it heard = bad_so t u xs said saying rest pl dr heard.0 heard.2
  rejects_at t u xs said saying rest (stage.Begun label role first) st pl dr it heard = bad_so t u xs said saying rest pl dr heard.0 heard.2
  rejects_at t u xs said saying rest (stage.Mocked label role first mock) st pl dr it heard = bad_so t u xs said saying rest pl dr heard.0 heard.2
  rejects_at t u xs said saying rest (stage.Challenged label role x) st pl dr it heard = bad_so t u xs said saying rest pl dr heard.0 heard.2
  rejects_at t u xs said saying rest (stage.Answered label role x last) st pl dr it heard = bad_so t u xs said saying rest pl dr heard.0 heard.2
  rejects_at t u xs said saying rest stage.Ended st pl dr it heard = bad_so t u xs said saying rest pl dr heard.0 heard.2
