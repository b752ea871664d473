-- What the conversation inside hears and learns: nothing before its client was let in, and all that comes then.
use Rattle.std.proofs.Common.{◌≡◌, ◌∙◌, ℕ, Bool, true, false, cond, List, [], ◌∷◌, ◌++◌, take, drop, refl, ap, sym, subst}
use Rattle.std.specs.Prelude.{Some, Ok}
use Rattle.sql_types.specs.declared.answer.Answer.TheVariants.{Refused}
use Rattle.sql_types.specs.declared.state.SqlState.{SqlState}
use Rattle.talks.specs.Wants.{Learnt, learnt, FitsWant}
use Rattle.talks.specs.Conversations.{Heard, stays, hears, rejects, learns, loses, breaks}
use Rattle.talks.specs.declared.talk.MessageFront.TheVariants.{Whole, Bad}
use Rattle.talks.specs.declared.talk.Talk.{Ghosts}
use Rattle.talks.specs.declared.want.SessionEntry.{SessionEntry}
use Rattle.talks.specs.declared.want.Want.{Want}
use Rattle.talks.specs.declared.want.Want.TheVariants as want
use Rattle.talks.specs.declared.want.Reply.{Reply}
use Rattle.talks.specs.declared.want.Reply.TheVariants as reply
use Rattle.password_talks.proofs.Learning.{was_found}
use Rattle.password_talks.specs.Courses.{found}
use Rattle.password_talks.specs.Insides.{LearntInside, OpensNone, as_it_is, nothing, opened, opens_now, refused}
use Rattle.password_talks.specs.LookUps.{is_as_shown, refusal}
use Rattle.password_talks.specs.PasswordTalks.{asks_first}
use Rattle.password_talks.specs.declared.stage.LoginStage.TheVariants as password
use Rattle.postgres_logins.specs.declared.stage.SaslStage.{SaslStage}
use Rattle.postgres_logins.specs.declared.stage.SaslStage.TheVariants as stage
use Rattle.postgres_logins.specs.declared.stage.Newcomer.{Newcomer}
use Rattle.postgres_logins.specs.declared.login.SaslLogin.{SaslLogin}
use Rattle.postgres_logins.specs.declared.postgres_login_talk.PostgresLoginTalk.{PostgresLoginTalk}
use Rattle.postgres_logins.specs.Insides.{IsLoggedInAs}
use Rattle.postgres_logins.specs.Logins.{is_admitted, shown_in, start_in}
use Rattle.postgres_logins.specs.PostgresLoginTalks.{HearsIf, HearsMessage, HearsStartOf, LearnsFirstIf, LearnsIf, LearnsReply, OpensIf, RejectsIf, RejectsMessage, front_at, wanted, wanted_inside}
use Rattle.postgres_logins.proofs.Showing.{silent}

module _ {T : Type 0} (k : Ghosts T) (outer : Ghosts (PostgresLoginTalk T))
    (wants_is : (t : PostgresLoginTalk T) → outer.wants t ≡ wanted t.login t.is_found (k.wants t.talk))
    (front_is : (t : PostgresLoginTalk T) (bytes : List ℕ) → outer.front t bytes ≡ front_at k t.login.stage t.talk bytes)
    (hears_is : (t u : PostgresLoginTalk T) (message said : List ℕ) → outer.hears t message said u → HearsMessage k t message said u)
    (rejects_is : (t u : PostgresLoginTalk T) (said : List ℕ) → outer.rejects t said u → RejectsMessage k t said u)
    (learns_is : (t u : PostgresLoginTalk T) (r : Reply) (said : List ℕ) → outer.learns t r said u → LearnsReply k t r said u) where
  lost_then : {t u : PostgresLoginTalk T} {bytes said rest : List ℕ} {xs : List Learnt} {X : Type 0} → Heard outer t bytes xs said rest u → outer.wants t ≡ want.OutOfMemory
      → (outer.wants u ≡ want.OutOfMemory → ⊥) → X
  lost_then later end kept = absurd (kept (silent k outer wants_is front_is hears_is rejects_is learns_is later end).3)

  -- the client is let in, and the verifier was just found for the session that is wanted, or not
  record IsInside (t : PostgresLoginTalk T) (table : List ℕ) (n : Newcomer) (text : List ℕ) (f : Bool) : Type 0 where
    stage_is : t.login.stage ≡ stage.Admitted n text
    want_is : t.login.want ≡ want.Verifier table n.role
    found_is : t.is_found ≡ f

  -- what is wanted there
  wants_there : (t : PostgresLoginTalk T) (table : List ℕ) (n : Newcomer) (text : List ℕ) (f : Bool) (w : Want) → IsInside t table n text f → outer.wants t ≡ w
      → cond (asks_first f (k.wants t.talk)) (want.Verifier table n.role) (k.wants t.talk) ≡ w
  wants_there t table n text f w it is =
      ap (λ (v : Want). cond (asks_first f (k.wants t.talk)) v (k.wants t.talk)) (sym it.want_is)
      ∙ ap (λ (g : Bool). cond (asks_first g (k.wants t.talk)) t.login.want (k.wants t.talk)) (sym it.found_is)
      ∙ ap (λ (s : SaslStage). wanted_inside (is_admitted s) t.login t.is_found (k.wants t.talk)) (sym it.stage_is)
      ∙ sym (wants_is t) ∙ is

  -- it stays so
  stays_inside : (t u : PostgresLoginTalk T) (table : List ℕ) (n : Newcomer) (text : List ℕ) (f g : Bool) → IsInside t table n text f → u.login ≡ t.login → u.is_found ≡ g → IsInside u table n text g
  stays_inside t u table n text f g it same now = record {
    stage_is = ap (λ (l : SaslLogin). l.stage) same ∙ it.stage_is;
    want_is = ap (λ (l : SaslLogin). l.want) same ∙ it.want_is;
    found_is = now;
  }

  -- a message is wanted by the conversation inside
  message_inside : (b : Bool) (own w : Want) (table role : List ℕ) → own ≡ want.Verifier table role → cond b own w ≡ want.Message → w ≡ want.Message
  message_inside true own w table role looks is = let wrong : want.Verifier table role ≡ want.Message = sym looks ∙ is in cc
  message_inside false own w table role looks is = is

  -- a session is wanted for this role
  record AsksFor (role : List ℕ) (w : Want) : Type 0 where
    session : ℕ
    entry : SessionEntry
    wants : w ≡ want.Open session role entry

  abbrev AsksIf : Bool → List ℕ → Want → Type 0
  AsksIf true role w = AsksFor role w
  AsksIf false role w = Unit {0}

  -- what was found before is learnt, too
  abbrev with_found : Bool → List ℕ → List ℕ → List ℕ → List Learnt → List Learnt
  with_found true table role text xs = found table role text ∷ xs
  with_found false table role text xs = xs

  record InsideRun (t u : PostgresLoginTalk T) (table : List ℕ) (n : Newcomer) (text bytes said rest : List ℕ) (xs : List Learnt) : Type 0 where
    ys : List Learnt
    learnt_is : LearntInside table n.role text xs ys
    heard : Heard k t.talk bytes ys said rest u.talk

  run_stays : (t : PostgresLoginTalk T) (table : List ℕ) (n : Newcomer) (text bytes : List ℕ) (f : Bool) → InsideRun t t table n text bytes [] bytes (with_found f table n.role text [])
  run_stays t table n text bytes true = record { ys = []; learnt_is = opens_now; heard = stays }
  run_stays t table n text bytes false = record { ys = []; learnt_is = nothing; heard = stays }

  -- ---- what is learnt

  none_opened : (w : Want) → asks_first false w ≡ false → OpensNone w
  none_opened (want.Open session login entry) asked = let wrong : true ≡ false = asked in cc
  none_opened w asked = tt

  record IsOpening (w : Want) : Type 0 where
    session : ℕ
    login : List ℕ
    entry : SessionEntry
    is : w ≡ want.Open session login entry

  opening_of : (w : Want) → asks_first false w ≡ true → IsOpening w
  opening_of (want.Open session login entry) asked = record { session = session; login = login; entry = entry; is = refl }
  opening_of w asked = let wrong : false ≡ true = asked in cc

  -- the conversation inside learns what it wanted, and opens no session
  run_learns : (t u v : PostgresLoginTalk T) (table : List ℕ) (n : Newcomer) (text bytes said also rest : List ℕ) (x : Learnt) (xs : List Learnt) → k.wants t.talk ≡ x.want → OpensNone x.want
      → FitsWant x.want x.reply → k.learns t.talk x.reply said u.talk → InsideRun u v table n text bytes also rest xs
      → InsideRun t v table n text bytes (said ++ also) rest (x ∷ xs)
  run_learns t u v table n text bytes said also rest x xs wants none fits says run = record {
    ys = x ∷ run.ys;
    learnt_is = as_it_is x none run.learnt_is;
    heard = learns x wants fits says run.heard;
  }

  -- it learns that the session is opened before which the verifier was found
  run_opens : (t u v : PostgresLoginTalk T) (table : List ℕ) (n : Newcomer) (text bytes said also rest : List ℕ) (x : Learnt) (xs : List Learnt) → AsksFor n.role (k.wants t.talk) → k.wants t.talk ≡ x.want
      → FitsWant x.want x.reply → k.learns t.talk x.reply said u.talk → InsideRun u v table n text bytes also rest xs
      → InsideRun t v table n text bytes (said ++ also) rest (found table n.role text ∷ x ∷ xs)
  run_opens t u v table n text bytes said also rest x xs asks wants fits says run = record {
    ys = x ∷ run.ys;
    learnt_is = subst (λ (w : Want). LearntInside table n.role text (found table n.role text ∷ learnt w x.reply ∷ xs) (learnt w x.reply ∷ run.ys)) (sym asks.wants ∙ wants)
        (opened asks.session asks.entry x.reply run.learnt_is);
    heard = learns x wants fits says run.heard;
  }

  -- it learns that the session is refused before which the verifier was looked up
  run_refused : (t u v : PostgresLoginTalk T) (table : List ℕ) (n : Newcomer) (text bytes said also rest : List ℕ) (x : Learnt) (xs : List Learnt) → IsOpening (k.wants t.talk)
      → x.want ≡ want.Verifier table n.role → is_as_shown (password.Admitted n.role text) (k.wants t.talk) x.reply ≡ false
      → k.learns t.talk (reply.Answer (Refused (refusal (password.Admitted n.role text) (k.wants t.talk) x.reply))) said u.talk → InsideRun u v table n text bytes also rest xs
      → InsideRun t v table n text bytes (said ++ also) rest (x ∷ xs)
  run_refused t u v table n text bytes said also rest x xs opens looks as_shown says run =
      let told : Learnt = learnt (k.wants t.talk) (reply.Answer (Refused (refusal (password.Admitted n.role text) (k.wants t.talk) x.reply))) in
      let fits : FitsWant (k.wants t.talk) told.reply = subst (λ (w : Want). FitsWant w told.reply) (sym opens.is) tt in
      let there : LearntInside table n.role text (learnt (want.Verifier table n.role) x.reply ∷ xs) (told ∷ run.ys) =
      subst (λ (w : Want). is_as_shown (password.Admitted n.role text) w x.reply ≡ false
      → LearntInside table n.role text (learnt (want.Verifier table n.role) x.reply ∷ xs) (learnt w (reply.Answer (Refused (refusal (password.Admitted n.role text) w x.reply))) ∷ run.ys)) (sym opens.is)
      (λ e. refused opens.session opens.login opens.entry x.reply e run.learnt_is) as_shown in
      record {
        ys = told ∷ run.ys;
        learnt_is = subst (λ (w : Want). LearntInside table n.role text (learnt w x.reply ∷ xs) (told ∷ run.ys)) (sym looks) there;
        heard = learns told refl fits says run.heard;
      }

  -- the verifier is found for the session that it wants
  run_finds : (t u v : PostgresLoginTalk T) (table : List ℕ) (n : Newcomer) (text bytes said also rest : List ℕ) (x : Learnt) (xs : List Learnt) → x.want ≡ want.Verifier table n.role
      → x.reply ≡ reply.Verifier (Ok (Some text)) → said ≡ [] → u.talk ≡ t.talk → InsideRun u v table n text bytes also rest (found table n.role text ∷ xs)
      → InsideRun t v table n text bytes (said ++ also) rest (x ∷ xs)
  run_finds t u v table n text bytes said also rest x xs looks finds silent_yet same run = record {
    ys = run.ys;
    learnt_is = subst (λ (w : Want). LearntInside table n.role text (learnt w x.reply ∷ xs) run.ys) (sym looks)
        (subst (λ (r : Reply). LearntInside table n.role text (learnt (want.Verifier table n.role) r ∷ xs) run.ys) (sym finds) run.learnt_is);
    heard = subst (λ (l : List ℕ). Heard k t.talk bytes run.ys (l ++ also) rest v.talk) (sym silent_yet)
        (subst (λ (a : T). Heard k a bytes run.ys also rest v.talk) same run.heard);
  }

  -- ---- all that is heard

  -- a message
  on_hears : (f : Bool) (table : List ℕ) (n : Newcomer) (text : List ℕ) (t u v : PostgresLoginTalk T) (bytes said also rest : List ℕ) (xs : List Learnt) (size : ℕ) → IsInside t table n text f
      → AsksIf f n.role (k.wants t.talk) → outer.wants t ≡ want.Message → outer.front t bytes ≡ Whole size → outer.hears t (take size bytes) said u
      → (IsInside u table n text false → InsideRun u v table n text (drop size bytes) also rest xs)
      → InsideRun t v table n text bytes (said ++ also) rest (with_found f table n.role text xs)
  on_hears true table n text t u v bytes said also rest xs size it asks wants front says next =
      let wrong : want.Open asks.session n.role asks.entry ≡ want.Message = sym asks.wants ∙ wants_there t table n text true want.Message it wants in cc
  on_hears false table n text t u v bytes said also rest xs size it asks wants front says next =
      let h = subst (λ (s : SaslStage). HearsIf k (is_admitted s) s t (take size bytes) said u) it.stage_is (hears_is t u (take size bytes) said says) in
      let inner = message_inside (asks_first false (k.wants t.talk)) (want.Verifier table n.role) (k.wants t.talk) table n.role refl (wants_there t table n text false want.Message it wants) in
      let at : k.front t.talk bytes ≡ Whole size = sym (front_is t bytes ∙ ap (λ (s : SaslStage). front_at k s t.talk bytes) it.stage_is) ∙ front in
      let run = next (stays_inside t u table n text false false it h.1 h.2) in
      record { ys = run.ys; learnt_is = run.learnt_is; heard = hears size inner at h.0 run.heard }

  -- a bad front
  on_rejects : (f : Bool) (table : List ℕ) (n : Newcomer) (text : List ℕ) (t u v : PostgresLoginTalk T) (bytes said also rest : List ℕ) (xs : List Learnt) → IsInside t table n text f
      → AsksIf f n.role (k.wants t.talk) → outer.wants t ≡ want.Message → outer.front t bytes ≡ Bad → outer.rejects t said u
      → (IsInside u table n text false → InsideRun u v table n text bytes also rest xs)
      → InsideRun t v table n text bytes (said ++ also) rest (with_found f table n.role text xs)
  on_rejects true table n text t u v bytes said also rest xs it asks wants front says next =
      let wrong : want.Open asks.session n.role asks.entry ≡ want.Message = sym asks.wants ∙ wants_there t table n text true want.Message it wants in cc
  on_rejects false table n text t u v bytes said also rest xs it asks wants front says next =
      let h = subst (λ (s : SaslStage). RejectsIf k (is_admitted s) t said u) it.stage_is (rejects_is t u said says) in
      let inner = message_inside (asks_first false (k.wants t.talk)) (want.Verifier table n.role) (k.wants t.talk) table n.role refl (wants_there t table n text false want.Message it wants) in
      let at : k.front t.talk bytes ≡ Bad = sym (front_is t bytes ∙ ap (λ (s : SaslStage). front_at k s t.talk bytes) it.stage_is) ∙ front in
      let run = next (stays_inside t u table n text false false it h.1 h.2) in
      record { ys = run.ys; learnt_is = run.learnt_is; heard = rejects inner at h.0 run.heard }

  -- a reply, where the verifier was looked up
  on_looked_up : (b : Bool) (table : List ℕ) (n : Newcomer) (text : List ℕ) (t u v : PostgresLoginTalk T) (bytes said also rest : List ℕ) (x : Learnt) (xs : List Learnt) → IsInside t table n text false
      → is_as_shown (password.Admitted n.role text) (k.wants t.talk) x.reply ≡ b → IsOpening (k.wants t.talk) → want.Verifier table n.role ≡ x.want
      → OpensIf k b (refusal (password.Admitted n.role text) (k.wants t.talk) x.reply) t said u
      → ((g : Bool) → IsInside u table n text g → AsksIf g n.role (k.wants u.talk) → InsideRun u v table n text bytes also rest (with_found g table n.role text xs))
      → InsideRun t v table n text bytes (said ++ also) rest (x ∷ xs)
  on_looked_up false table n text t u v bytes said also rest x xs it as_shown opens looks h next =
      run_refused t u v table n text bytes said also rest x xs opens (sym looks) as_shown h.0 (next false (stays_inside t u table n text false false it h.1 h.2) tt)
  on_looked_up true table n text t u v bytes said also rest x xs it as_shown opens looks h next =
      let was = was_found n.role text (k.wants t.talk) x.reply as_shown in
      run_finds t u v table n text bytes said also rest x xs (sym looks) was.reply_is h.0 h.1
      (next true (stays_inside t u table n text false true it h.2 h.3)
      (record { session = was.session; entry = was.entry; wants = ap k.wants h.1 ∙ was.wants ∙ ap (λ (r : List ℕ). want.Open was.session r was.entry) was.login_is }))

  -- a reply, where nothing was found before
  on_first : (b : Bool) (table : List ℕ) (n : Newcomer) (text : List ℕ) (t u v : PostgresLoginTalk T) (bytes said also rest : List ℕ) (x : Learnt) (xs : List Learnt) → IsInside t table n text false
      → asks_first false (k.wants t.talk) ≡ b → cond b (want.Verifier table n.role) (k.wants t.talk) ≡ x.want → FitsWant x.want x.reply
      → LearnsFirstIf k b (stage.Admitted n text) t x.reply said u
      → ((g : Bool) → IsInside u table n text g → AsksIf g n.role (k.wants u.talk) → InsideRun u v table n text bytes also rest (with_found g table n.role text xs))
      → InsideRun t v table n text bytes (said ++ also) rest (x ∷ xs)
  on_first true table n text t u v bytes said also rest x xs it asked is fits h next =
      on_looked_up (is_as_shown (password.Admitted n.role text) (k.wants t.talk) x.reply) table n text t u v bytes said also rest x xs it refl (opening_of (k.wants t.talk) asked) is h next
  on_first false table n text t u v bytes said also rest x xs it asked is fits h next =
      run_learns t u v table n text bytes said also rest x xs is (subst OpensNone is (none_opened (k.wants t.talk) asked)) fits h.0
      (next false (stays_inside t u table n text false false it h.1 h.2) tt)

  -- a reply
  on_learns : (f : Bool) (table : List ℕ) (n : Newcomer) (text : List ℕ) (t u v : PostgresLoginTalk T) (bytes said also rest : List ℕ) (x : Learnt) (xs : List Learnt) → IsInside t table n text f
      → AsksIf f n.role (k.wants t.talk) → outer.wants t ≡ x.want → FitsWant x.want x.reply → outer.learns t x.reply said u
      → ((g : Bool) → IsInside u table n text g → AsksIf g n.role (k.wants u.talk) → InsideRun u v table n text bytes also rest (with_found g table n.role text xs))
      → InsideRun t v table n text bytes (said ++ also) rest (with_found f table n.role text (x ∷ xs))
  on_learns true table n text t u v bytes said also rest x xs it asks wants fits says next =
      let s = subst (λ (s : SaslStage). LearnsIf k (is_admitted s) s t x.reply said u) it.stage_is (learns_is t u x.reply said says) in
      let h = subst (λ (g : Bool). LearnsFirstIf k (asks_first g (k.wants t.talk)) (stage.Admitted n text) t x.reply said u) it.found_is s in
      run_opens t u v table n text bytes said also rest x xs asks (wants_there t table n text true x.want it wants) fits h.0
      (next false (stays_inside t u table n text true false it h.1 h.2) tt)
  on_learns false table n text t u v bytes said also rest x xs it asks wants fits says next =
      let s = subst (λ (s : SaslStage). LearnsIf k (is_admitted s) s t x.reply said u) it.stage_is (learns_is t u x.reply said says) in
      let h = subst (λ (g : Bool). LearnsFirstIf k (asks_first g (k.wants t.talk)) (stage.Admitted n text) t x.reply said u) it.found_is s in
      on_first (asks_first false (k.wants t.talk)) table n text t u v bytes said also rest x xs it refl (wants_there t table n text false x.want it wants) fits h next

  inside_go : (f : Bool) (table : List ℕ) (n : Newcomer) (text : List ℕ) {t u : PostgresLoginTalk T} {bytes said rest : List ℕ} {xs : List Learnt} → IsInside t table n text f
      → AsksIf f n.role (k.wants t.talk) → Heard outer t bytes xs said rest u → (outer.wants u ≡ want.OutOfMemory → ⊥)
      → InsideRun t u table n text bytes said rest (with_found f table n.role text xs)
  inside_go f table n text {t = t} {bytes = bytes} it asks stays kept = run_stays t table n text bytes f
  inside_go f table n text {t = t} {u = v} {rest = rest} it asks (hears {u = u} {bytes = bytes} {said = saying} {also = also} {xs = ys} size wants front says later) kept =
      on_hears f table n text t u v bytes saying also rest ys size it asks wants front says (λ i. inside_go false table n text i tt later kept)
  inside_go f table n text {t = t} {u = v} {rest = rest} it asks (rejects {u = u} {bytes = bytes} {said = saying} {also = also} {xs = ys} wants front says later) kept =
      on_rejects f table n text t u v bytes saying also rest ys it asks wants front says (λ i. inside_go false table n text i tt later kept)
  inside_go f table n text {t = t} {u = v} {rest = rest} it asks (learns {u = u} {bytes = bytes} {said = saying} {also = also} {xs = ys} x wants fits says later) kept =
      on_learns f table n text t u v bytes saying also rest x ys it asks wants fits says (λ g i a. inside_go g table n text i a later kept)
  inside_go f table n text it asks (loses x wants fits end later) kept = lost_then later end kept
  inside_go f table n text it asks (breaks end later) kept = lost_then later end kept

  pub heard_inside : (n : Newcomer) (text : List ℕ) {t u : PostgresLoginTalk T} {bytes said rest : List ℕ} {xs : List Learnt} → IsLoggedInAs t n text
      → Heard outer t bytes xs said rest u → (outer.wants u ≡ want.OutOfMemory → ⊥)
      → (ys : List Learnt) × LearntInside t.login.place.table n.role text xs ys × Heard k t.talk bytes ys said rest u.talk
  heard_inside n text {t} it heard kept =
      let run = inside_go false t.login.place.table n text (record { stage_is = it.stage_is; want_is = it.want_is; found_is = it.is_found }) tt heard kept in
      (run.ys, run.learnt_is, run.heard)

  -- ---- before the client was let in

  opens_same : (b : Bool) (state : SqlState) (t u : PostgresLoginTalk T) (said : List ℕ) → OpensIf k b state t said u → u.login ≡ t.login
  opens_same true state t u said h = h.2
  opens_same false state t u said h = h.1

  first_same : (b : Bool) (s : SaslStage) (t u : PostgresLoginTalk T) (r : Reply) (said : List ℕ) → LearnsFirstIf k b s t r said u → u.login ≡ t.login
  first_same true s t u r said h = opens_same (is_as_shown (shown_in s) (k.wants t.talk) r) (refusal (shown_in s) (k.wants t.talk) r) t u said h
  first_same false s t u r said h = h.1

  -- who was let in stays so
  stays_in : {t u : PostgresLoginTalk T} {bytes said rest : List ℕ} {xs : List Learnt} → is_admitted t.login.stage ≡ true → Heard outer t bytes xs said rest u
      → (outer.wants u ≡ want.OutOfMemory → ⊥) → is_admitted u.login.stage ≡ true
  stays_in is_in stays kept = is_in
  stays_in {t = t} is_in (hears {u = u} {bytes = bytes} {said = saying} size wants front says later) kept =
      let h = subst (λ (b : Bool). HearsIf k b t.login.stage t (take size bytes) saying u) is_in (hears_is t u (take size bytes) saying says) in
      stays_in (ap (λ (l : SaslLogin). is_admitted l.stage) h.1 ∙ is_in) later kept
  stays_in {t = t} is_in (rejects {u = u} {said = saying} wants front says later) kept =
      let h = subst (λ (b : Bool). RejectsIf k b t saying u) is_in (rejects_is t u saying says) in
      stays_in (ap (λ (l : SaslLogin). is_admitted l.stage) h.1 ∙ is_in) later kept
  stays_in {t = t} is_in (learns {u = u} {said = saying} x wants fits says later) kept =
      let h = subst (λ (b : Bool). LearnsIf k b t.login.stage t x.reply saying u) is_in (learns_is t u x.reply saying says) in
      stays_in (ap (λ (l : SaslLogin). is_admitted l.stage) (first_same (asks_first t.is_found (k.wants t.talk)) t.login.stage t u x.reply saying h) ∙ is_in) later kept
  stays_in is_in (loses x wants fits end later) kept = lost_then later end kept
  stays_in is_in (breaks end later) kept = lost_then later end kept

  -- it is let in now, or not yet
  either_now : (b : Bool) (t u v : PostgresLoginTalk T) → is_admitted u.login.stage ≡ b → (is_admitted u.login.stage ≡ true → is_admitted v.login.stage ≡ true)
      → is_admitted v.login.stage ≡ false → (is_admitted u.login.stage ≡ false → v.talk ≡ u.talk) → (is_admitted u.login.stage ≡ false → u.talk ≡ t.talk) → v.talk ≡ t.talk
  either_now true t u v is stays_so yet next same = let wrong : true ≡ false = sym (stays_so is) ∙ yet in cc
  either_now false t u v is stays_so yet next same = next is ∙ same is

  -- nobody has a StartupMessage heard who is not let in
  starts_none : (s : SaslStage) (t u : T) (inner : List ℕ) → is_admitted s ≡ false → HearsStartOf k (start_in s) t inner u → u ≡ t
  starts_none (stage.Admitted n text) t u inner out it = let wrong : true ≡ false = out in cc
  starts_none (stage.Starting answered) t u inner out it = it.1
  starts_none (stage.Begun n) t u inner out it = it.1
  starts_none (stage.Mocked n mock) t u inner out it = it.1
  starts_none (stage.Offered n mock stored) t u inner out it = it.1
  starts_none (stage.Challenged n x) t u inner out it = it.1
  starts_none (stage.Answered n x last) t u inner out it = it.1
  starts_none stage.Ended t u inner out it = it.1

  -- the conversation inside hears and learns nothing before
  pub untouched : {t u : PostgresLoginTalk T} {bytes said rest : List ℕ} {xs : List Learnt} → is_admitted t.login.stage ≡ false → Heard outer t bytes xs said rest u
      → is_admitted u.login.stage ≡ false → (outer.wants u ≡ want.OutOfMemory → ⊥) → u.talk ≡ t.talk
  untouched out stays yet kept = refl
  untouched {t = t} {u = v} out (hears {u = u} {bytes = bytes} {said = saying} size wants front says later) yet kept =
      let h = subst (λ (b : Bool). HearsIf k b t.login.stage t (take size bytes) saying u) out (hears_is t u (take size bytes) saying says) in
      either_now (is_admitted u.login.stage) t u v refl (λ e. stays_in e later kept) yet (λ e. untouched e later yet kept) (λ e. h.1)
  untouched {t = t} {u = v} out (rejects {u = u} {bytes = bytes} {said = saying} wants front says later) yet kept =
      let h = subst (λ (b : Bool). RejectsIf k b t saying u) out (rejects_is t u saying says) in
      either_now (is_admitted u.login.stage) t u v refl (λ e. stays_in e later kept) yet (λ e. untouched e later yet kept) (λ e. h.1)
  untouched {t = t} {u = v} out (learns {u = u} {bytes = bytes} {said = saying} x wants fits says later) yet kept =
      let h = subst (λ (b : Bool). LearnsIf k b t.login.stage t x.reply saying u) out (learns_is t u x.reply saying says) in
      either_now (is_admitted u.login.stage) t u v refl (λ e. stays_in e later kept) yet (λ e. untouched e later yet kept) (λ e. starts_none u.login.stage t.talk u.talk h.inner e h.starts)
  untouched out (loses x wants fits end later) yet kept = lost_then later end kept
  untouched out (breaks end later) yet kept = lost_then later end kept
