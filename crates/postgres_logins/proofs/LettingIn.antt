-- A client that shows its password is let in.
use Rattle.std.proofs.Common.{◌≡◌, ◌∙◌, ◌≤◌, ◌+◌, ◌&&◌, ℕ, Bool, true, false, nat_lt, List, [], ◌∷◌, ◌++◌, take, drop, refl, ap, sym, subst, arith}
use Rattle.std.specs.Prelude.{Some, Ok, bytes_eq}
use Rattle.std.proofs.lemmas.Bool.Decides.{nat_tests}
use Rattle.std.proofs.lemmas.List.{append-nil, append_assoc}
use Rattle.std.proofs.lemmas.Slice.Eq.{bytes_eq-Decides}
use Rattle.scram.specs.Exchanges.{TheExchange, BeginsExchange, IsShownLogin}
use Rattle.scram.specs.Messages.{whole_nonce}
use Rattle.postgres_messages.specs.declared.front.StreamFront.{StreamFront}
use Rattle.talks.specs.Wants.{Learnt}
use Rattle.talks.specs.Conversations.{Heard, stays, hears, learns}
use Rattle.talks.specs.declared.talk.Talk.{Ghosts}
use Rattle.talks.specs.declared.want.Want.{Want}
use Rattle.talks.specs.declared.want.Want.TheVariants as want
use Rattle.talks.specs.declared.want.SessionEntry.{SessionEntry}
use Rattle.talks.specs.declared.want.Reply.{Reply}
use Rattle.talks.specs.declared.want.Reply.TheVariants as reply
use Rattle.password_talks.specs.Courses.{found}
use Rattle.password_talks.specs.Logins.{mock_of}
use Rattle.password_talks.specs.LookUps.{is_as_shown, refusal}
use Rattle.password_talks.specs.PasswordTalks.{asks_first}
use Rattle.password_talks.specs.declared.stage.LoginStage.TheVariants as password
use Rattle.postgres_logins.specs.declared.start_request.StartRequest.TheVariants as request
use Rattle.postgres_logins.specs.declared.stage.SaslStage.{SaslStage}
use Rattle.postgres_logins.specs.declared.stage.SaslStage.TheVariants as stage
use Rattle.postgres_logins.specs.declared.stage.Newcomer.{Newcomer}
use Rattle.postgres_logins.specs.declared.postgres_login_talk.PostgresLoginTalk.{PostgresLoginTalk}
use Rattle.postgres_logins.specs.Courses.{HasAsked, asked_more, asked_none}
use Rattle.postgres_logins.specs.EntryMessages.{SendsPacket, answer_in, front_in}
use Rattle.postgres_logins.specs.LettingIn.{AuthenticatesNow, found_for, said_for, server_final_for, server_first_for}
use Rattle.postgres_logins.specs.Logins.{HearsEncryption, HearsLast, challenged, is_admitted, is_let_in, made, newcomer}
use Rattle.postgres_logins.specs.PostgresLoginTalks.{HearsMessage, HearsStart, LearnsFirstIf, LearnsIf, LearnsReply, OpensIf, front_at, wanted, wanted_inside}
use Rattle.postgres_logins.specs.Sayings.{first_said, last_said, no_encryption, offer_said}

-- the exchange that it begins
abbrev exchange_of : {drawn bytes : List ℕ} {n : Newcomer} {text mock_text rest : List ℕ} → AuthenticatesNow drawn bytes n text mock_text rest → TheExchange
exchange_of {drawn} {text = text} it = record {
  verifier = it.verifier;
  text = Some text;
  binding = it.shows.binding;
  bare = it.shows.bare;
  nonce = whole_nonce it.shows.nonce drawn;
}

begins_it : {drawn bytes : List ℕ} {n : Newcomer} {text mock_text rest : List ℕ} (it : AuthenticatesNow drawn bytes n text mock_text rest)
    → BeginsExchange (mock_of it.mock) n.role (Some text) drawn it.first (exchange_of it)
begins_it it = record { nonce = it.shows.nonce; is_first = it.shows.is_first; nonce_is = refl; goes_by = (refl, it.spells) }

shows_it : {drawn bytes : List ℕ} {n : Newcomer} {text mock_text rest : List ℕ} (it : AuthenticatesNow drawn bytes n text mock_text rest)
    → IsShownLogin (exchange_of it) it.last (Some text) text
shows_it it = record {
  proof = it.shows.proof;
  has_proof = record { size = it.shows.size; are_bytes = it.shows.are_bytes; last_is = it.shows.last_is };
  shows = it.shows.shows;
  was_stored = refl;
  is_stored = refl;
}

both_true : (a b : Bool) → a ≡ true → b ≡ true → (a && b) ≡ true
both_true true b p q = q
both_true false b p q = cc

few_enough : (m : ℕ) → m + 1 ≤ 2 → nat_lt m 2 ≡ true
few_enough m le = grind (arith, nat_tests)

fewer : (m : ℕ) → m + 1 ≤ 2 → m ≤ 2
fewer m le = omega (arith, le)

-- the conversation, with its exchange at this stage, and with this inside
abbrev pub put : {T : Type 0} → PostgresLoginTalk T → SaslStage → Want → T → PostgresLoginTalk T
put t s w v = record { login = record t.login { stage = s; want = w }; is_found = false; talk = v }

abbrev pub looks : {T : Type 0} → PostgresLoginTalk T → List ℕ → Want
looks t role = want.Verifier t.login.place.table role

-- it was let in
abbrev pub let_in_as : {T : Type 0} → PostgresLoginTalk T → Newcomer → List ℕ → T → PostgresLoginTalk T
let_in_as t n text v = put t (stage.Admitted n text) (looks t n.role) v

-- the verifier is found again before a session
abbrev pub found_again : {T : Type 0} → PostgresLoginTalk T → PostgresLoginTalk T
found_again t = record { login = t.login; is_found = true; talk = t.talk }

-- a conversation that has heard nothing
as_it_stands : {T : Type 0} (t : PostgresLoginTalk T) (s : SaslStage) (w : Want) (f : Bool) → t.login.stage ≡ s → t.login.want ≡ w → t.is_found ≡ f
    → t ≡ record { login = record t.login { stage = s; want = w }; is_found = f; talk = t.talk }
as_it_stands {T} t s w f st wa fo =
    subst (λ (a : SaslStage). t ≡ record { login = record t.login { stage = a; want = w }; is_found = f; talk = t.talk }) st
    (subst (λ (b : Want). t ≡ record { login = record t.login { stage = t.login.stage; want = b }; is_found = f; talk = t.talk }) wa
    (subst (λ (g : Bool). t ≡ record { login = record t.login { stage = t.login.stage; want = t.login.want }; is_found = g; talk = t.talk }) fo refl))

module _ {T : Type 0} (k : Ghosts T) (outer : Ghosts (PostgresLoginTalk T))
    (wants_is : (t : PostgresLoginTalk T) → outer.wants t ≡ wanted t.login t.is_found (k.wants t.talk))
    (front_is : (t : PostgresLoginTalk T) (bytes : List ℕ) → outer.front t bytes ≡ front_at k t.login.stage t.talk bytes)
    (hears_is : (t u : PostgresLoginTalk T) (message said : List ℕ) → HearsMessage k t message said u → outer.hears t message said u)
    (learns_is : (t u : PostgresLoginTalk T) (r : Reply) (said : List ℕ) → LearnsReply k t r said u → outer.learns t r said u) where
  -- from the last message on
  last_part : (t : PostgresLoginTalk T) (v : T) (bytes rest text mock_text inner : List ℕ) (n : Newcomer) (it : AuthenticatesNow t.login.drawn bytes n text mock_text rest)
      → HearsStart k n.start t.talk inner v
      → Heard outer (put t (stage.Challenged n (exchange_of it)) want.Message t.talk) it.middle (found t.login.place.table n.role text ∷ [])
      (last_said (server_final_for it) ++ inner) rest (let_in_as t n text v)
  last_part t v bytes rest text mock_text inner n it starts =
      let asked : PostgresLoginTalk T = put t (stage.Challenged n (exchange_of it)) want.Message t.talk in
      let answered : PostgresLoginTalk T = put t (stage.Answered n (exchange_of it) it.last) (looks t n.role) t.talk in
      let heard : HearsLast (answer_in (take it.ended.size it.middle)) n (exchange_of it) asked.login.place asked.login.drawn [] answered.login =
      subst (λ o. HearsLast o n (exchange_of it) asked.login.place asked.login.drawn [] answered.login) (sym it.ended.carries) (refl, (refl, refl, refl, refl)) in
      let own : List ℕ = last_said (server_final_for it) in
      let last : Heard outer answered rest (found t.login.place.table n.role text ∷ []) ((own ++ inner) ++ []) rest (let_in_as t n text v) =
      learns (found t.login.place.table n.role text) (wants_is answered) tt
      (learns_is answered (let_in_as t n text v) (reply.Verifier (Ok (Some text))) (own ++ inner)
      (record { own = own; inner = inner; learns = is_let_in text (shows_it it) refl (refl, refl, refl, refl); starts = starts; said_is = refl; is_found = refl })) stays in
      let all : Heard outer asked it.middle (found t.login.place.table n.role text ∷ []) ((own ++ inner) ++ []) rest (let_in_as t n text v) =
      hears it.ended.size (wants_is asked) (front_is asked it.middle ∙ ap front_in it.ended.front)
      (hears_is asked answered (take it.ended.size it.middle) [] (heard, refl, refl))
      (subst (λ (l : List ℕ). Heard outer answered l (found t.login.place.table n.role text ∷ []) ((own ++ inner) ++ []) rest (let_in_as t n text v)) it.ended.rest_is last) in
      subst (λ (l : List ℕ). Heard outer asked it.middle (found t.login.place.table n.role text ∷ []) l rest (let_in_as t n text v)) (append-nil (own ++ inner)) all

  -- from the first message on
  first_part : (t : PostgresLoginTalk T) (v : T) (bytes rest text mock_text inner : List ℕ) (n : Newcomer) (it : AuthenticatesNow t.login.drawn bytes n text mock_text rest)
      → HearsStart k n.start t.talk inner v
      → Heard outer (put t (stage.Offered n (mock_of it.mock) (Some text)) want.Message t.talk) it.behind_start (found t.login.place.table n.role text ∷ [])
      (first_said (server_first_for it) ++ (last_said (server_final_for it) ++ inner)) rest (let_in_as t n text v)
  first_part t v bytes rest text mock_text inner n it starts =
      let offered : PostgresLoginTalk T = put t (stage.Offered n (mock_of it.mock) (Some text)) want.Message t.talk in
      let asked : PostgresLoginTalk T = put t (stage.Challenged n (exchange_of it)) want.Message t.talk in
      hears it.begun.size (wants_is offered) (front_is offered it.behind_start ∙ ap front_in it.begun.front)
      (hears_is offered asked (take it.begun.size it.behind_start) (first_said (server_first_for it))
      ((Some it.first, it.begun.is_first, challenged (exchange_of it) (begins_it it) refl (refl, refl, refl, refl)), refl, refl))
      (subst (λ (l : List ℕ). Heard outer asked l (found t.login.place.table n.role text ∷ []) (last_said (server_final_for it) ++ inner) rest (let_in_as t n text v)) it.begun.rest_is
      (last_part t v bytes rest text mock_text inner n it starts))

  -- from the look-ups on
  looked_part : (t : PostgresLoginTalk T) (v : T) (bytes rest text mock_text inner : List ℕ) (n : Newcomer) (it : AuthenticatesNow t.login.drawn bytes n text mock_text rest)
      → HearsStart k n.start t.talk inner v
      → Heard outer (put t (stage.Begun n) (looks t t.login.place.mock) t.talk) it.behind_start (found_for t.login.place n.role text mock_text)
      (offer_said ++ (first_said (server_first_for it) ++ (last_said (server_final_for it) ++ inner))) rest (let_in_as t n text v)
  looked_part t v bytes rest text mock_text inner n it starts =
      let begun : PostgresLoginTalk T = put t (stage.Begun n) (looks t t.login.place.mock) t.talk in
      let mocked : PostgresLoginTalk T = put t (stage.Mocked n (mock_of it.mock)) (looks t n.role) t.talk in
      let offered : PostgresLoginTalk T = put t (stage.Offered n (mock_of it.mock) (Some text)) want.Message t.talk in
      let second : Heard outer mocked it.behind_start (found t.login.place.table n.role text ∷ found t.login.place.table n.role text ∷ [])
      (offer_said ++ (first_said (server_first_for it) ++ (last_said (server_final_for it) ++ inner))) rest (let_in_as t n text v) =
      learns (found t.login.place.table n.role text) (wants_is mocked) tt
      (learns_is mocked offered (reply.Verifier (Ok (Some text))) offer_said
      (record { own = offer_said; inner = []; learns = (refl, (refl, refl, refl, refl)); starts = (refl, refl); said_is = sym (append-nil offer_said); is_found = refl }))
      (first_part t v bytes rest text mock_text inner n it starts) in
      learns (found t.login.place.table t.login.place.mock mock_text) (wants_is begun) tt
      (learns_is begun mocked (reply.Verifier (Ok (Some mock_text))) []
      (record {
        own = [];
        inner = [];
        learns = made (mock_of it.mock) (record { text = mock_text; verifier = it.mock; is_stored = refl; spells = it.spells_mock; mock_is = refl }) refl (refl, refl, refl, refl);
        starts = (refl, refl);
        said_is = refl;
        is_found = refl;
      })) second

  -- from the StartupMessage on
  start_part : (t : PostgresLoginTalk T) (v : T) (bytes rest text mock_text inner : List ℕ) (n : Newcomer) (it : AuthenticatesNow t.login.drawn bytes n text mock_text rest)
      → HearsStart k n.start t.talk inner v
      → Heard outer (put t (stage.Starting it.entered.count) want.Message t.talk) it.entered.middle (found_for t.login.place n.role text mock_text)
      (offer_said ++ (first_said (server_first_for it) ++ (last_said (server_final_for it) ++ inner))) rest (let_in_as t n text v)
  start_part t v bytes rest text mock_text inner n it starts =
      let e = it.entered in
      let waiting : PostgresLoginTalk T = put t (stage.Starting e.count) want.Message t.talk in
      let begun : PostgresLoginTalk T = put t (stage.Begun n) (looks t t.login.place.mock) t.talk in
      let same : stage.Begun n ≡ stage.Begun (newcomer (take e.size e.middle) n.role) = ap (λ (l : List ℕ). stage.Begun (newcomer l n.role)) e.start_is in
      hears e.size (wants_is waiting) (front_is waiting e.middle ∙ ap front_in e.enters.front)
      (hears_is waiting begun (take e.size e.middle) [] ((request.Login n.role, e.enters.asks, (refl, (refl, refl, same, refl))), refl, refl))
      (subst (λ (l : List ℕ). Heard outer begun l (found_for t.login.place n.role text mock_text)
      (offer_said ++ (first_said (server_first_for it) ++ (last_said (server_final_for it) ++ inner))) rest (let_in_as t n text v)) e.enters.rest_is
      (looked_part t v bytes rest text mock_text inner n it starts))

  -- requests for encryption come before
  asked_part : (t u : PostgresLoginTalk T) (bytes rest also : List ℕ) (xs : List Learnt) {m : ℕ} {said middle : List ℕ} → HasAsked bytes m said middle → m ≤ 2
      → Heard outer (put t (stage.Starting m) want.Message t.talk) middle xs also rest u
      → Heard outer (put t (stage.Starting 0) want.Message t.talk) bytes xs (said ++ also) rest u
  asked_part t u bytes rest also xs asked_none few later = later
  asked_part t u bytes rest also xs (asked_more m size said middle behind asked sends) few later =
      let waiting : PostgresLoginTalk T = put t (stage.Starting m) want.Message t.talk in
      let next : PostgresLoginTalk T = put t (stage.Starting (m + 1)) want.Message t.talk in
      let heard : HearsEncryption (nat_lt m 2) m t.login.place t.login.drawn no_encryption next.login =
      subst (λ (b : Bool). HearsEncryption b m t.login.place t.login.drawn no_encryption next.login) (sym (few_enough m few)) (refl, (refl, refl, refl, refl)) in
      let here : Heard outer waiting middle xs (no_encryption ++ also) rest u =
      hears size (wants_is waiting) (front_is waiting middle ∙ ap front_in sends.front)
      (hears_is waiting next (take size middle) no_encryption ((request.Encryption, sends.asks, heard), refl, refl))
      (subst (λ (l : List ℕ). Heard outer next l xs also rest u) sends.rest_is later) in
      subst (λ (l : List ℕ). Heard outer (put t (stage.Starting 0) want.Message t.talk) bytes xs l rest u) (sym (append_assoc said no_encryption also))
      (asked_part t u bytes rest (no_encryption ++ also) xs asked (fewer m few) here)

  -- from the first byte on
  pub lets_in : (t : PostgresLoginTalk T) (v : T) (bytes rest text mock_text inner : List ℕ) (n : Newcomer) → t.login.stage ≡ stage.Starting 0 → t.login.want ≡ want.Message → t.is_found ≡ false
      → HearsStart k n.start t.talk inner v → (it : AuthenticatesNow t.login.drawn bytes n text mock_text rest)
      → Heard outer t bytes (found_for t.login.place n.role text mock_text) (said_for it ++ inner) rest (let_in_as t n text v)
  lets_in t v bytes rest text mock_text inner n st wa anew starts it =
      let told : List ℕ = offer_said ++ (first_said (server_first_for it) ++ (last_said (server_final_for it) ++ inner)) in
      let all : Heard outer (put t (stage.Starting 0) want.Message t.talk) bytes (found_for t.login.place n.role text mock_text) (it.before ++ told) rest (let_in_as t n text v) =
      asked_part t (let_in_as t n text v) bytes rest told (found_for t.login.place n.role text mock_text) it.entered.asked it.few
      (start_part t v bytes rest text mock_text inner n it starts) in
      let first = first_said (server_first_for it) in
      let final = last_said (server_final_for it) in
      let same : it.before ++ told ≡ said_for it ++ inner =
      sym (append_assoc it.before (offer_said ++ (first ++ final)) inner
      ∙ ap (λ (l : List ℕ). it.before ++ l) (append_assoc offer_said (first ++ final) inner ∙ ap (λ (l : List ℕ). offer_said ++ l) (append_assoc first final inner))) in
      subst (λ (x : PostgresLoginTalk T). Heard outer x bytes (found_for t.login.place n.role text mock_text) (said_for it ++ inner) rest (let_in_as t n text v))
      (sym (as_it_stands t (stage.Starting 0) want.Message false st wa anew))
      (subst (λ (l : List ℕ). Heard outer (put t (stage.Starting 0) want.Message t.talk) bytes (found_for t.login.place n.role text mock_text) l rest (let_in_as t n text v)) same all)

-- ---- once it is let in

module _ {T : Type 0} (k : Ghosts T) where
  grants_at : (t : PostgresLoginTalk T) (role text : List ℕ) (w : Want) (f b : Bool) (session : ℕ) (entry : SessionEntry) → w ≡ want.Open session role entry → f ≡ false
      → is_as_shown (password.Admitted role text) w (reply.Verifier (Ok (Some text))) ≡ b → OpensIf k b (refusal (password.Admitted role text) w (reply.Verifier (Ok (Some text)))) t [] (found_again t)
  grants_at t role text w f true session entry is anew as_shown = (refl, refl, refl, refl)
  grants_at t role text w f false session entry is anew as_shown =
      let same : is_as_shown (password.Admitted role text) (want.Open session role entry) (reply.Verifier (Ok (Some text))) ≡ true =
      both_true (bytes_eq role role) (bytes_eq text text) ((bytes_eq-Decides role role).1 refl) ((bytes_eq-Decides text text).1 refl) in
      let wrong : true ≡ false = sym same ∙ ap (λ (v : Want). is_as_shown (password.Admitted role text) v (reply.Verifier (Ok (Some text)))) (sym is) ∙ as_shown in cc

  pub grants : (t : PostgresLoginTalk T) (n : Newcomer) (text : List ℕ) (session : ℕ) (entry : SessionEntry) → t.login.stage ≡ stage.Admitted n text → t.is_found ≡ false
      → k.wants t.talk ≡ want.Open session n.role entry → LearnsReply k t (reply.Verifier (Ok (Some text))) [] (found_again t)
  grants t n text session entry st anew is =
      let asks : asks_first t.is_found (k.wants t.talk) ≡ true = ap (λ (f : Bool). asks_first f (k.wants t.talk)) anew ∙ ap (λ (w : Want). asks_first false w) is in
      let first : LearnsFirstIf k true (stage.Admitted n text) t (reply.Verifier (Ok (Some text))) [] (found_again t) =
      grants_at t n.role text (k.wants t.talk) t.is_found (is_as_shown (password.Admitted n.role text) (k.wants t.talk) (reply.Verifier (Ok (Some text)))) session entry is anew refl in
      let there : LearnsFirstIf k (asks_first t.is_found (k.wants t.talk)) (stage.Admitted n text) t (reply.Verifier (Ok (Some text))) [] (found_again t) =
      subst (λ (b : Bool). LearnsFirstIf k b (stage.Admitted n text) t (reply.Verifier (Ok (Some text))) [] (found_again t)) (sym asks) first in
      subst (λ (s : SaslStage). LearnsIf k (is_admitted s) s t (reply.Verifier (Ok (Some text))) [] (found_again t)) (sym st) there

  pub granted : (t : PostgresLoginTalk T) (n : Newcomer) (text : List ℕ) (session : ℕ) (entry : SessionEntry) → t.login.stage ≡ stage.Admitted n text
      → k.wants t.talk ≡ want.Open session n.role entry → wanted t.login true (k.wants t.talk) ≡ want.Open session n.role entry
  granted t n text session entry st is =
      ap (λ (s : SaslStage). wanted_inside (is_admitted s) t.login true (k.wants t.talk)) st
      ∙ ap (λ (w : Want). wanted_inside true t.login true w) is
