-- A run that is let be, and runs that are refused.
use Rattle.std.specs.Prelude.{codes, decimal}
use Rattle.std.specs.Int.{w32, to_be_bytes}
use Rattle.std.proofs.Common.{◌≡◌, ◌≢◌, ◌∙◌, ◌+◌, length, ℕ, nat_eq, Bool, cond, List, [], ◌∷◌, ◌++◌, Option, Some, refl, sym, ap, subst}
use Rattle.std.proofs.lemmas.Bool.{eq-eqb, ne_eqb}
use Rattle.std.proofs.lemmas.List.{append-nil, append_assoc}
use Rattle.std.specs.List.{AllByRecursion}
use Rattle.store.specs.Store.{StoreState}
use Rattle.abstract_database.specs.Lists.{TheName}
use Rattle.talks.specs.declared.want.Want.{Want}
use Rattle.talks.specs.declared.want.Want.TheVariants as want
use Rattle.talks.specs.Wants.{Learnt, learnt, OpensSession}
use Rattle.password_talks.specs.declared.login.PasswordPlace.{PasswordPlace}
use Rattle.password_talks.specs.Courses.{found}
use Rattle.password_talks.specs.EarlyFrames.{message_frame}
use Rattle.password_talks.specs.LettingIn.{last_said, said_for}
use Rattle.password_talks.specs.LettingIn.{first_said as first_told}
use Rattle.password_talks.specs.Logins.{IsMockOf, mock_of}
use Rattle.postgres_logins.specs.LettingIn.{server_final_for, server_first_for}
use Rattle.postgres_logins.specs.LettingIn.{said_for as said_in_messages}
use Rattle.postgres_logins.specs.Sayings.{first_said, offer_said}
use Rattle.postgres_logins.specs.Sayings.{last_said as last_in_messages}
use Rattle.scram_hashes.specs.Base64.{base64}
use Rattle.scram_hashes.specs.Keys.{TheVerifier}
use Rattle.postgres_messages.specs.Fields.{int32}
use Rattle.scram_hashes.specs.VerifierText.{SpellsVerifier}
use Rattle.scram.specs.Exchanges.{Authenticates, BeginsExchange, TheExchange, challenge}
use Rattle.scram.specs.Messages.{server_first, whole_nonce}
use Rattle.scram.specs.Mocks.{TheMock}
use Rattle.login_laws.specs.Done.{Done, done_for, told_in}
use Rattle.login_laws.specs.Entitled.{WantsAsEntitled, WantedAsEntitled}
use Rattle.login_laws.specs.Runs.{who_shows_and_is_found_is_entitled, who_authenticates_and_is_found_is_entitled, look_ups_of_others_entitle_nobody, other_texts_entitle_nobody, recorded_exchanges_entitle_nobody}
use Rattle.login_laws.specs.Shown.{FoundAsKept, IsChallenged, IsChallengedInMessages, WereFoundAsKept, WasToldDrawn, ShowedPassword, ShowedPasswordInMessages}
use Rattle.login_laws.proofs.Entitling.{by_opening, keeps_own}

-- ---- what stands in what

-- these bytes stand in others
abbrev Stands : List ℕ → List ℕ → Type 0
Stands xs ys = (before : List ℕ) × (later : List ℕ) × (ys ≡ before ++ (xs ++ later))

stands_itself : (xs : List ℕ) → Stands xs xs
stands_itself xs = ([], [], sym (append-nil xs))

behind : (xs ys first : List ℕ) → Stands xs ys → Stands xs (first ++ ys)
behind xs ys first it = (first ++ it.0, it.1, ap (λ (l : List ℕ). first ++ l) it.2 ∙ sym (append_assoc first it.0 (xs ++ it.1)))

in_front : (xs ys last : List ℕ) → Stands xs ys → Stands xs (ys ++ last)
in_front xs ys last it = (it.0, it.1 ++ last, ap (λ (l : List ℕ). l ++ last) it.2 ∙ (append_assoc it.0 (xs ++ it.1) last ∙ ap (λ (l : List ℕ). it.0 ++ l) (append_assoc xs it.1 last)))

-- what was drawn stands in the challenge
in_challenge : (verifier : TheVerifier) (nonce drawn : List ℕ) → Stands (base64 drawn) (server_first verifier (whole_nonce nonce drawn))
in_challenge verifier nonce drawn =
    behind (base64 drawn) ((nonce ++ base64 drawn) ++ (codes ",s=" ++ (base64 verifier.salt ++ (codes ",i=" ++ decimal verifier.iterations)))) (codes "r=")
    (in_front (base64 drawn) (nonce ++ base64 drawn) (codes ",s=" ++ (base64 verifier.salt ++ (codes ",i=" ++ decimal verifier.iterations))) (behind (base64 drawn) (base64 drawn) nonce (stands_itself (base64 drawn))))

-- and in a frame, and in a message of PostgreSQL
in_frame : (label : ℕ) (xs ys : List ℕ) → Stands xs ys → Stands xs (message_frame label ys)
in_frame label xs ys it =
    behind xs (6 ∷ (to_be_bytes w32 label ++ ys)) (to_be_bytes w32 (5 + length ys)) (behind xs (to_be_bytes w32 label ++ ys) (6 ∷ []) (behind xs ys (to_be_bytes w32 label) it))

in_packet : (xs ys : List ℕ) → Stands xs ys → Stands xs (first_said ys)
in_packet xs ys it =
    behind xs (int32 (4 + length (int32 11 ++ ys)) ++ (int32 11 ++ ys)) (82 ∷ []) (behind xs (int32 11 ++ ys) (int32 (4 + length (int32 11 ++ ys))) (behind xs ys (int32 11) it))

-- and so in what is told to a client first, and in all that was said
in_told : (x : TheExchange) (mock : TheMock) (role drawn first : List ℕ) (stored : Option (List ℕ)) → BeginsExchange mock role stored drawn first x → Stands (base64 drawn) (challenge x)
in_told x mock role drawn first stored it = subst (λ (n : List ℕ). Stands (base64 drawn) (server_first x.verifier n)) (sym it.nonce_is) (in_challenge x.verifier it.nonce drawn)

in_said : (IsChallenge : List ℕ → Type 0) (drawn said : List ℕ) → ((s : List ℕ) → IsChallenge s → Stands (base64 drawn) s) → WasToldDrawn IsChallenge said → Stands (base64 drawn) said
in_said IsChallenge drawn said has it =
    subst (λ (l : List ℕ). Stands (base64 drawn) l) (sym it.said_is) (in_front (base64 drawn) it.first_said it.later (has it.first_said it.challenged))

challenged_in_frames : (place : PasswordPlace) (drawn sent role mock_text text : List ℕ) (label : ℕ) (rest said : List ℕ) → IsChallenged place drawn sent role mock_text text label rest said → Stands (base64 drawn) said
challenged_in_frames place drawn sent role mock_text text label rest said it =
    let x = it.0 in
    let was = it.1 in
    subst (λ (l : List ℕ). Stands (base64 drawn) l) (sym was.said_is)
    (in_frame label (base64 drawn) (challenge x) (in_told x was.mock role drawn was.first was.stored was.begins_so))

challenged_in_messages : (place : PasswordPlace) (drawn sent role mock_text text said : List ℕ) → IsChallengedInMessages place drawn sent role mock_text text said → Stands (base64 drawn) said
challenged_in_messages place drawn sent role mock_text text said it =
    let x = it.2 in
    let was = it.3 in
    subst (λ (l : List ℕ). Stands (base64 drawn) l) (sym was.said_is)
    (behind (base64 drawn) (first_said (challenge x)) was.before (in_packet (base64 drawn) (challenge x) (in_told x was.mock it.1.role drawn was.first was.stored was.begins_so)))

-- ---- an exchange in which the password is shown

abbrev exchange_of : (text : List ℕ) (verifier : TheVerifier) (drawn first last : List ℕ) → Authenticates verifier drawn first last → TheExchange
exchange_of text verifier drawn first last it = record { verifier = verifier; text = Some text; binding = it.binding; bare = it.bare; nonce = whole_nonce it.nonce drawn }

begins_it : (role text : List ℕ) (verifier : TheVerifier) (drawn first last : List ℕ) (mock : TheMock) → SpellsVerifier text verifier → (it : Authenticates verifier drawn first last)
    → BeginsExchange mock role (Some text) drawn first (exchange_of text verifier drawn first last it)
begins_it role text verifier drawn first last mock spells it = record { nonce = it.nonce; is_first = it.is_first; nonce_is = refl; goes_by = (refl, spells) }

is_mock : (text : List ℕ) (verifier : TheVerifier) → SpellsVerifier text verifier → IsMockOf (Some text) (mock_of verifier)
is_mock text verifier spells = record { text = text; verifier = verifier; is_stored = refl; spells = spells; mock_is = refl }

module _ {S X : Type 0} (state : S → StoreState) where
  -- ---- met

  told_so : (table role : TheName) (text : List ℕ) (x : Done S X) → FoundAsKept state table role text x → learnt x.exchange.want x.exchange.reply ≡ found table role text
  told_so table role text x it = rw (it.wanted, it.told) refl

  looks_up : (E : List (Done S X) → TheName → Type 0) (past : List (Done S X)) (table role : TheName) (text : List ℕ) (x : Done S X) → FoundAsKept state table role text x → WantsAsEntitled E past x.exchange.want
  looks_up E past table role text x it = subst (λ (w : Want). WantsAsEntitled E past w) (sym it.wanted) tt

  opens_as : (E : List (Done S X) → TheName → Type 0) (past : List (Done S X)) (w : Want) (n : ℕ) (role : TheName) → OpensSession w n role → E past role → WantsAsEntitled E past w
  opens_as E past (want.Open session login entry) n role opens is = subst (λ (r : TheName). E past r) (sym opens.1) is
  opens_as E past want.Message n role opens is = absurd opens
  opens_as E past (want.Event e) n role opens is = absurd opens
  opens_as E past (want.Standing session) n role opens is = absurd opens
  opens_as E past (want.Description session text) n role opens is = absurd opens
  opens_as E past (want.Verifier table login) n role opens is = absurd opens
  opens_as E past (want.End late) n role opens is = absurd opens
  opens_as E past want.OutOfMemory n role opens is = absurd opens

  four_told : (a b d e : Done S X) (p q r s : Learnt) → learnt a.exchange.want a.exchange.reply ≡ p → learnt b.exchange.want b.exchange.reply ≡ q → learnt d.exchange.want d.exchange.reply ≡ r → learnt e.exchange.want e.exchange.reply ≡ s
      → told_in (a ∷ b ∷ d ∷ e ∷ []) ≡ p ∷ q ∷ r ∷ s ∷ []
  four_told a b d e p q r s first second third fourth = rw (first, second, third, fourth) refl

  -- four look-ups that found what was kept, and then the session
  module _ (place : PasswordPlace) (role : TheName) (text mock_text : List ℕ) (a b d e x : Done S X) (of_mock : FoundAsKept state place.table place.mock mock_text a) (of_role : FoundAsKept state place.table role text b)
      (again : FoundAsKept state place.table role text d) (now : FoundAsKept state place.table role text e) where
    all_told : told_in (a ∷ b ∷ d ∷ e ∷ []) ≡ found place.table place.mock mock_text ∷ found place.table role text ∷ found place.table role text ∷ found place.table role text ∷ []
    all_told = four_told a b d e (found place.table place.mock mock_text) (found place.table role text) (found place.table role text) (found place.table role text)
        (told_so place.table place.mock mock_text a of_mock) (told_so place.table role text b of_role) (told_so place.table role text d again) (told_so place.table role text e now)

    all_found : WereFoundAsKept state place (a ∷ b ∷ d ∷ e ∷ []) role mock_text text
    all_found = record {
      of_mock = a;
      of_role = b;
      of_role_again = d;
      later = e ∷ [];
      began = refl;
      mock_kept = of_mock;
      role_kept = of_role;
      role_kept_again = again;
      earlier = a ∷ b ∷ d ∷ [];
      just_now = e;
      ended = refl;
      role_kept_now = now;
    }

    all_wanted : (E : List (Done S X) → TheName → Type 0) (n : ℕ) → OpensSession x.exchange.want n role → E (a ∷ b ∷ d ∷ e ∷ []) role → WantedAsEntitled E [] (a ∷ b ∷ d ∷ e ∷ x ∷ [])
    all_wanted E n opens showed = (
      looks_up E [] place.table place.mock mock_text a of_mock,
      (
        looks_up E (a ∷ []) place.table role text b of_role,
        (
          looks_up E (a ∷ b ∷ []) place.table role text d again,
          (looks_up E (a ∷ b ∷ d ∷ []) place.table role text e now, (opens_as E (a ∷ b ∷ d ∷ e ∷ []) x.exchange.want n role opens showed, tt)),
        ),
      ),
    )

  pub met : who_shows_and_is_found_is_entitled S X state
  met place drawn sent rest label n role text mock_text shows a b d e x of_mock of_role again now opens =
      all_wanted place role text mock_text a b d e x of_mock of_role again now (ShowedPassword state place drawn sent (said_for shows)) n opens (record {
        text = text;
        shown = record {
          label = label;
          first = shows.first;
          last = shows.last;
          middle = shows.middle;
          rest = rest;
          begun = shows.begun;
          ended = shows.ended;
          was_shown = record { was_stored = refl; is_stored = refl; verifier = shows.verifier; spells = shows.spells; authenticates = shows.shows };
          mock_text = mock_text;
          later = found place.table role text ∷ [];
          learnt_is = all_told place role text mock_text a b d e x of_mock of_role again now;
        };
        found = all_found place role text mock_text a b d e x of_mock of_role again now;
        told = record {
          first_said = message_frame label (first_told shows);
          later = message_frame label (last_said shows);
          challenged = (
            exchange_of text shows.verifier drawn shows.first shows.last shows.shows,
            record {
              first = shows.first;
              mock = mock_of shows.mock;
              mock_stored = Some mock_text;
              stored = Some text;
              begun = shows.begun;
              is_mock = is_mock mock_text shows.mock shows.spells_mock;
              begins_so = begins_it role text shows.verifier drawn shows.first shows.last (mock_of shows.mock) shows.spells shows.shows;
              learnt_is = refl;
              said_is = refl;
            },
          );
          said_is = refl;
        };
      })

  pub met_there : who_authenticates_and_is_found_is_entitled S X state
  met_there place drawn sent rest n newcomer text mock_text shows a b d e x of_mock of_role again now opens =
      all_wanted place newcomer.role text mock_text a b d e x of_mock of_role again now (ShowedPasswordInMessages state place drawn sent (said_in_messages shows)) n opens (record {
        newcomer = newcomer;
        is_for = refl;
        text = text;
        shown = record {
          before = shows.before;
          behind_start = shows.behind_start;
          entered = shows.entered;
          first = shows.first;
          last = shows.last;
          middle = shows.middle;
          rest = rest;
          begun = shows.begun;
          ended = shows.ended;
          was_shown = record { was_stored = refl; is_stored = refl; verifier = shows.verifier; spells = shows.spells; authenticates = shows.shows };
          mock_text = mock_text;
          later = found place.table newcomer.role text ∷ [];
          learnt_is = all_told place newcomer.role text mock_text a b d e x of_mock of_role again now;
        };
        found = all_found place newcomer.role text mock_text a b d e x of_mock of_role again now;
        told = record {
          first_said = (shows.before ++ offer_said) ++ first_said (server_first_for shows);
          later = last_in_messages (server_final_for shows);
          challenged = (
            shows.middle,
            newcomer,
            exchange_of text shows.verifier drawn shows.first shows.last shows.shows,
            record {
              mock = mock_of shows.mock;
              stored = Some text;
              before = shows.before ++ offer_said;
              middle = shows.behind_start;
              offered = record {
                before = shows.before;
                entered = shows.entered;
                mock_stored = Some mock_text;
                is_mock = is_mock mock_text shows.mock shows.spells_mock;
                learnt_is = refl;
                said_is = refl;
              };
              first = shows.first;
              begun = shows.begun;
              begins_so = begins_it newcomer.role text shows.verifier drawn shows.first shows.last (mock_of shows.mock) shows.spells shows.shows;
              said_is = refl;
            },
          );
          said_is = sym
              (append_assoc (shows.before ++ offer_said) (first_said (server_first_for shows)) (last_in_messages (server_final_for shows))
              ∙ append_assoc shows.before offer_said (first_said (server_first_for shows) ++ last_in_messages (server_final_for shows)));
        };
      })

  -- ---- refused

  own_first : (c : ℕ) (others later : List (Done S X)) (x : Done S X) → AllByRecursion (λ y. y.exchange.client ≢ c) others → x.exchange.client ≡ c → done_for c (others ++ x ∷ later) ≡ x ∷ done_for c later
  own_first c [] later x other own = keeps_own (nat_eq x.exchange.client c) x (done_for c later) (eq-eqb x.exchange.client c own)
  own_first c (y ∷ others) later x other own =
      ap (λ (b : Bool). cond b (y ∷ done_for c (others ++ x ∷ later)) (done_for c (others ++ x ∷ later))) (ne_eqb y.exchange.client c other.0) ∙ own_first c others later x other.1 own

  none_found : (place : PasswordPlace) (role : TheName) (mock_text text : List ℕ) → WereFoundAsKept {S = S} {X = X} state place [] role mock_text text → ⊥
  none_found place role mock_text text it = let began = it.began in cc

  entitles_nobody : (E : List (Done S X) → TheName → Type 0) → ((role : TheName) → E [] role → ⊥) → (c n : ℕ) (login : TheName) (others later : List (Done S X)) (x : Done S X) → AllByRecursion (λ y. y.exchange.client ≢ c) others
      → x.exchange.client ≡ c → OpensSession x.exchange.want n login → WantedAsEntitled E [] (done_for c (others ++ x ∷ later)) → ⊥
  entitles_nobody E none c n login others later x other own opens wanted =
      none login (by_opening E [] x.exchange.want n login opens (subst (λ (l : List (Done S X)). WantedAsEntitled E [] l) (own_first c others later x other own) wanted).0)

  pub in_frames : look_ups_of_others_entitle_nobody S X state (ShowedPassword state)
  in_frames place drawn sent said = entitles_nobody (ShowedPassword state place drawn sent said) (λ role it. none_found place role it.shown.mock_text it.text it.found)

  pub in_messages : look_ups_of_others_entitle_nobody S X state (ShowedPasswordInMessages state)
  in_messages place drawn sent said = entitles_nobody (ShowedPasswordInMessages state place drawn sent said) (λ role it. none_found place role it.shown.mock_text it.text it.found)

  last_same : (xs ys : List (Done S X)) (x y : Done S X) → xs ++ x ∷ [] ≡ ys ++ y ∷ [] → x ≡ y
  last_same [] [] x y is = cc
  last_same [] (b ∷ []) x y is = absurd (let no : ⊥ = cc in no)
  last_same [] (b ∷ d ∷ ys) x y is = absurd (let no : ⊥ = cc in no)
  last_same (a ∷ []) [] x y is = absurd (let no : ⊥ = cc in no)
  last_same (a ∷ d ∷ xs) [] x y is = absurd (let no : ⊥ = cc in no)
  last_same (a ∷ xs) (b ∷ ys) x y is = last_same xs ys x y (tails a b (xs ++ x ∷ []) (ys ++ y ∷ []) is) where
    tails : (a b : Done S X) (ls ks : List (Done S X)) → a ∷ ls ≡ b ∷ ks → ls ≡ ks
    tails a b ls ks is = cc

  pub texts : other_texts_entitle_nobody S X state
  texts place drawn sent said past last role it = subst (λ (x : Done S X). FoundAsKept state place.table role it.text x) (sym (last_same past it.found.earlier last it.found.just_now it.found.ended)) it.found.role_kept_now

  pub recorded : recorded_exchanges_entitle_nobody S X state (ShowedPassword state)
  recorded place drawn sent said past role untold it =
      let there = in_said (IsChallenged place drawn sent role it.shown.mock_text it.text it.shown.label it.shown.middle) drawn said
      (challenged_in_frames place drawn sent role it.shown.mock_text it.text it.shown.label it.shown.middle) it.told in
      untold there.0 there.1 there.2

  pub recorded_there : recorded_exchanges_entitle_nobody S X state (ShowedPasswordInMessages state)
  recorded_there place drawn sent said past role untold it =
      let there = in_said (IsChallengedInMessages place drawn sent it.newcomer.role it.shown.mock_text it.text) drawn said
      (challenged_in_messages place drawn sent it.newcomer.role it.shown.mock_text it.text) it.told in
      untold there.0 there.1 there.2
