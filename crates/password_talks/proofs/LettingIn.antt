-- A client that shows its password is let in.
use Rattle.std.proofs.Common.{◌≡◌, ◌∙◌, ◌==◌, ◌&&◌, ℕ, Bool, true, false, List, [], ◌∷◌, ◌++◌, take, refl, ap, sym, subst, eq-eqb}
use Rattle.std.specs.Prelude.{Some, Ok, bytes_eq}
use Rattle.std.proofs.lemmas.List.{append-nil}
use Rattle.std.proofs.lemmas.Slice.Eq.{bytes_eq-Decides}
use Rattle.scram.specs.Exchanges.{TheExchange, BeginsExchange, IsShownLogin}
use Rattle.scram.specs.Messages.{whole_nonce}
use Rattle.talks.specs.Conversations.{Heard, stays, hears, learns}
use Rattle.talks.specs.declared.talk.Talk.{Ghosts}
use Rattle.talks.specs.declared.want.Want.{Want}
use Rattle.talks.specs.declared.want.Want.TheVariants as want
use Rattle.talks.specs.declared.want.SessionEntry.{SessionEntry}
use Rattle.talks.specs.declared.want.Reply.{Reply}
use Rattle.talks.specs.declared.want.Reply.TheVariants as reply
use Rattle.password_talks.specs.declared.stage.LoginStage.{LoginStage}
use Rattle.password_talks.specs.declared.stage.LoginStage.TheVariants as stage
use Rattle.password_talks.specs.declared.password_talk.PasswordTalk.{PasswordTalk}
use Rattle.password_talks.specs.EarlyFrames.{TheFrame, early_frame, message_frame}
use Rattle.password_talks.specs.Logins.{HearsAt, HearsEnd, challenged, is_admitted, is_let_in, made, mock_of}
use Rattle.password_talks.specs.LookUps.{is_as_shown, refusal}
use Rattle.password_talks.specs.PasswordTalks.{HearsIf, HearsMessage, LearnsFirstIf, LearnsIf, LearnsReply, OpensIf, asks_first, front_at, wanted, wanted_inside}
use Rattle.password_talks.specs.Courses.{found}
use Rattle.password_talks.specs.LettingIn.{ShowsPasswordNow, first_said, found_for, last_said, said_for}

-- the exchange that it begins
abbrev exchange_of : {drawn bytes : List ℕ} {label : ℕ} {role text mock_text rest : List ℕ} → ShowsPasswordNow drawn bytes label role text mock_text rest → TheExchange
exchange_of {drawn} {text = text} it = record {
  verifier = it.verifier;
  text = Some text;
  binding = it.shows.binding;
  bare = it.shows.bare;
  nonce = whole_nonce it.shows.nonce drawn;
}

begins_it : {drawn bytes : List ℕ} {label : ℕ} {role text mock_text rest : List ℕ} (it : ShowsPasswordNow drawn bytes label role text mock_text rest)
    → BeginsExchange (mock_of it.mock) role (Some text) drawn it.first (exchange_of it)
begins_it it = record { nonce = it.shows.nonce; is_first = it.shows.is_first; nonce_is = refl; goes_by = (refl, it.spells) }

shows_it : {drawn bytes : List ℕ} {label : ℕ} {role text mock_text rest : List ℕ} (it : ShowsPasswordNow drawn bytes label role text mock_text rest)
    → IsShownLogin (exchange_of it) it.last (Some text) text
shows_it it = record {
  proof = it.shows.proof;
  has_proof = record { size = it.shows.size; are_bytes = it.shows.are_bytes; last_is = it.shows.last_is };
  shows = it.shows.shows;
  was_stored = refl;
  is_stored = refl;
}

both_true : (a b : Bool) → a ≡ true → b ≡ true → (a && b) ≡ true
both_true true b p q = q
both_true false b p q = cc

-- the conversation, with its exchange at this stage
abbrev pub put : {T : Type 0} → PasswordTalk T → LoginStage → Want → PasswordTalk T
put t s w = record { login = record t.login { stage = s; want = w }; is_found = false; talk = t.talk }

abbrev pub looks : {T : Type 0} → PasswordTalk T → List ℕ → Want
looks t role = want.Verifier t.login.place.table role

-- it was let in
abbrev pub let_in_as : {T : Type 0} → PasswordTalk T → List ℕ → List ℕ → PasswordTalk T
let_in_as t role text = put t (stage.Admitted role text) (looks t role)

-- the verifier is found again before a session
abbrev pub found_again : {T : Type 0} → PasswordTalk T → PasswordTalk T
found_again t = record { login = t.login; is_found = true; talk = t.talk }

module _ {T : Type 0} (k : Ghosts T) (outer : Ghosts (PasswordTalk T))
    (wants_is : (t : PasswordTalk T) → outer.wants t ≡ wanted t.login t.is_found (k.wants t.talk))
    (front_is : (t : PasswordTalk T) (bytes : List ℕ) → outer.front t bytes ≡ front_at k (is_admitted t.login.stage) t.talk bytes)
    (hears_is : (t u : PasswordTalk T) (message said : List ℕ) → HearsMessage k t message said u → outer.hears t message said u)
    (learns_is : (t u : PasswordTalk T) (r : Reply) (said : List ℕ) → LearnsReply k t r said u → outer.learns t r said u) where
  -- from the last message on
  third_part : (t : PasswordTalk T) (bytes rest role text mock_text : List ℕ) (label : ℕ) (it : ShowsPasswordNow t.login.drawn bytes label role text mock_text rest)
      → Heard outer (put t (stage.Challenged label role (exchange_of it)) want.Message) it.middle (found t.login.place.table role text ∷ []) (message_frame label (last_said it)) rest (let_in_as t role text)
  third_part t bytes rest role text mock_text label it =
      let asked : PasswordTalk T = put t (stage.Challenged label role (exchange_of it)) want.Message in
      let answered : PasswordTalk T = put t (stage.Answered label role (exchange_of it) it.last) (looks t role) in
      let heard_so : HearsEnd (label == label) label role (exchange_of it) it.last asked.login.place asked.login.drawn [] answered.login =
      subst (λ (b : Bool). HearsEnd b label role (exchange_of it) it.last asked.login.place asked.login.drawn [] answered.login) (sym (eq-eqb label label refl)) (refl, (refl, refl, refl, refl)) in
      let heard : HearsAt (stage.Challenged label role (exchange_of it)) (early_frame (take it.ended.size it.middle)) asked.login.place asked.login.drawn [] answered.login =
      subst (λ (f : TheFrame). HearsAt (stage.Challenged label role (exchange_of it)) f asked.login.place asked.login.drawn [] answered.login) (sym it.ended.is_frame) heard_so in
      let last : Heard outer answered rest (found t.login.place.table role text ∷ []) (message_frame label (last_said it) ++ []) rest (let_in_as t role text) =
      learns (found t.login.place.table role text) (wants_is answered) tt
      (learns_is answered (let_in_as t role text) (reply.Verifier (Ok (Some text))) (message_frame label (last_said it)) (is_let_in text (shows_it it) refl (refl, refl, refl, refl), refl, refl)) stays in
      let all : Heard outer asked it.middle (found t.login.place.table role text ∷ []) (message_frame label (last_said it) ++ []) rest (let_in_as t role text) =
      hears it.ended.size (wants_is asked) (front_is asked it.middle ∙ it.ended.front)
      (hears_is asked answered (take it.ended.size it.middle) [] (heard, refl, refl))
      (subst (λ (l : List ℕ). Heard outer answered l (found t.login.place.table role text ∷ []) (message_frame label (last_said it) ++ []) rest (let_in_as t role text)) it.ended.rest_is last) in
      subst (λ (l : List ℕ). Heard outer asked it.middle (found t.login.place.table role text ∷ []) l rest (let_in_as t role text)) (append-nil (message_frame label (last_said it))) all

  -- from the look-ups on
  second_part : (t : PasswordTalk T) (bytes rest role text mock_text : List ℕ) (label : ℕ) (it : ShowsPasswordNow t.login.drawn bytes label role text mock_text rest)
      → Heard outer (put t (stage.Begun label role it.first) (looks t t.login.place.mock)) it.middle (found_for t.login.place role text mock_text) (said_for it) rest (let_in_as t role text)
  second_part t bytes rest role text mock_text label it =
      let begun : PasswordTalk T = put t (stage.Begun label role it.first) (looks t t.login.place.mock) in
      let mocked : PasswordTalk T = put t (stage.Mocked label role it.first (mock_of it.mock)) (looks t role) in
      let asked : PasswordTalk T = put t (stage.Challenged label role (exchange_of it)) want.Message in
      let second : Heard outer mocked it.middle (found t.login.place.table role text ∷ found t.login.place.table role text ∷ []) (said_for it) rest (let_in_as t role text) =
      learns (found t.login.place.table role text) (wants_is mocked) tt
      (learns_is mocked asked (reply.Verifier (Ok (Some text))) (message_frame label (first_said it)) (challenged (exchange_of it) (begins_it it) refl (refl, refl, refl, refl), refl, refl))
      (third_part t bytes rest role text mock_text label it) in
      learns (found t.login.place.table t.login.place.mock mock_text) (wants_is begun) tt
      (learns_is begun mocked (reply.Verifier (Ok (Some mock_text))) []
      (made (mock_of it.mock) (record { text = mock_text; verifier = it.mock; is_stored = refl; spells = it.spells_mock; mock_is = refl }) refl (refl, refl, refl, refl), refl, refl)) second

  -- from the first byte on
  pub lets_in : (t : PasswordTalk T) (bytes rest role text mock_text : List ℕ) (label : ℕ) → t.login.stage ≡ stage.Silent → t.login.want ≡ want.Message
      → (it : ShowsPasswordNow t.login.drawn bytes label role text mock_text rest)
      → Heard outer t bytes (found_for t.login.place role text mock_text) (said_for it) rest (let_in_as t role text)
  lets_in t bytes rest role text mock_text label silent message it =
      let begun : PasswordTalk T = put t (stage.Begun label role it.first) (looks t t.login.place.mock) in
      let wants : outer.wants t ≡ want.Message = wants_is t ∙ ap (λ (s : LoginStage). wanted_inside (is_admitted s) t.login t.is_found (k.wants t.talk)) silent ∙ message in
      let front = front_is t bytes ∙ ap (λ (s : LoginStage). front_at k (is_admitted s) t.talk bytes) silent ∙ it.begun.front in
      let heard : HearsAt stage.Silent (early_frame (take it.begun.size bytes)) t.login.place t.login.drawn [] begun.login =
      subst (λ (f : TheFrame). HearsAt stage.Silent f t.login.place t.login.drawn [] begun.login) (sym it.begun.is_frame) (refl, (refl, refl, refl, refl)) in
      let heard_there : HearsMessage k t (take it.begun.size bytes) [] begun =
      subst (λ (s : LoginStage). HearsIf k (is_admitted s) s t (take it.begun.size bytes) [] begun) (sym silent) (heard, refl, refl) in
      hears it.begun.size wants front (hears_is t begun (take it.begun.size bytes) [] heard_there)
      (subst (λ (l : List ℕ). Heard outer begun l (found_for t.login.place role text mock_text) (said_for it) rest (let_in_as t role text)) it.begun.rest_is
      (second_part t bytes rest role text mock_text label it))

-- ---- once it is let in

module _ {T : Type 0} (k : Ghosts T) where
  grants_at : (t : PasswordTalk T) (role text : List ℕ) (w : Want) (f b : Bool) (session : ℕ) (entry : SessionEntry) → w ≡ want.Open session role entry → f ≡ false
      → is_as_shown (stage.Admitted role text) w (reply.Verifier (Ok (Some text))) ≡ b → OpensIf k b (refusal (stage.Admitted role text) w (reply.Verifier (Ok (Some text)))) t [] (found_again t)
  grants_at t role text w f true session entry is anew as_shown = (refl, refl, refl, refl)
  grants_at t role text w f false session entry is anew as_shown =
      let same : is_as_shown (stage.Admitted role text) (want.Open session role entry) (reply.Verifier (Ok (Some text))) ≡ true =
      both_true (bytes_eq role role) (bytes_eq text text) ((bytes_eq-Decides role role).1 refl) ((bytes_eq-Decides text text).1 refl) in
      let wrong : true ≡ false = sym same ∙ ap (λ (v : Want). is_as_shown (stage.Admitted role text) v (reply.Verifier (Ok (Some text)))) (sym is) ∙ as_shown in cc

  pub grants : (t : PasswordTalk T) (role text : List ℕ) (session : ℕ) (entry : SessionEntry) → t.login.stage ≡ stage.Admitted role text → t.is_found ≡ false
      → k.wants t.talk ≡ want.Open session role entry → LearnsReply k t (reply.Verifier (Ok (Some text))) [] (found_again t)
  grants t role text session entry st anew is =
      let asks : asks_first t.is_found (k.wants t.talk) ≡ true = ap (λ (f : Bool). asks_first f (k.wants t.talk)) anew ∙ ap (λ (w : Want). asks_first false w) is in
      let first : LearnsFirstIf k true (stage.Admitted role text) t (reply.Verifier (Ok (Some text))) [] (found_again t) =
      grants_at t role text (k.wants t.talk) t.is_found (is_as_shown (stage.Admitted role text) (k.wants t.talk) (reply.Verifier (Ok (Some text)))) session entry is anew refl in
      let there : LearnsFirstIf k (asks_first t.is_found (k.wants t.talk)) (stage.Admitted role text) t (reply.Verifier (Ok (Some text))) [] (found_again t) =
      subst (λ (b : Bool). LearnsFirstIf k b (stage.Admitted role text) t (reply.Verifier (Ok (Some text))) [] (found_again t)) (sym asks) first in
      subst (λ (s : LoginStage). LearnsIf k (is_admitted s) s t (reply.Verifier (Ok (Some text))) [] (found_again t)) (sym st) there

  pub granted : (t : PasswordTalk T) (role text : List ℕ) (session : ℕ) (entry : SessionEntry) → t.login.stage ≡ stage.Admitted role text
      → k.wants t.talk ≡ want.Open session role entry → wanted t.login true (k.wants t.talk) ≡ want.Open session role entry
  granted t role text session entry st is =
      ap (λ (s : LoginStage). wanted_inside (is_admitted s) t.login true (k.wants t.talk)) st
      ∙ ap (λ (w : Want). wanted_inside true t.login true w) is
