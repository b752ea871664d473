-- A run that the laws let be, and runs that they refuse.
use Rattle.std.specs.Prelude.{◌≡◌, ◌≢◌, ℕ, List, [], ◌∷◌, ◌++◌}
use Rattle.std.specs.List.{AllByRecursion}
use Rattle.store.specs.Store.{StoreState}
use Rattle.abstract_database.specs.Lists.{TheName}
use Rattle.talks.specs.Wants.{OpensSession}
use Rattle.scram_hashes.specs.Base64.{base64}
use Rattle.password_talks.specs.declared.login.PasswordPlace.{PasswordPlace}
use Rattle.password_talks.specs.LettingIn.{ShowsPasswordNow, said_for}
use Rattle.postgres_logins.specs.LettingIn.{AuthenticatesNow}
use Rattle.postgres_logins.specs.LettingIn.{said_for as said_in_messages}
use Rattle.postgres_logins.specs.declared.stage.Newcomer.{Newcomer}
use Rattle.login_laws.specs.Done.{Done, done_for}
use Rattle.login_laws.specs.Entitled.{Entitlement, WantedAsEntitled}
use Rattle.login_laws.specs.Shown.{FoundAsKept, ShowedPassword, ShowedPasswordInMessages}

module _ (S X : Type 0) (state : S → StoreState) where
  -- A client sends the two frames that show the password of a verifier, and is told the two messages of the server. What is kept is found for it four
  -- times, as its conversation looks it up, and then it wants a session for the role
  abbrev pub who_shows_and_is_found_is_entitled : Type 0
  who_shows_and_is_found_is_entitled = (place : PasswordPlace) (drawn sent rest : List ℕ) (label n : ℕ) (role : TheName) (text mock_text : List ℕ) → (shows : ShowsPasswordNow drawn sent label role text mock_text rest) →
      (a b d e x : Done S X) → FoundAsKept state place.table place.mock mock_text a → FoundAsKept state place.table role text b → FoundAsKept state place.table role text d → FoundAsKept state place.table role text e →
      OpensSession x.exchange.want n role → WantedAsEntitled (ShowedPassword state place drawn sent (said_for shows)) [] (a ∷ b ∷ d ∷ e ∷ x ∷ [])

  -- the same of a client of PostgreSQL's protocol, whose StartupMessage names the role
  abbrev pub who_authenticates_and_is_found_is_entitled : Type 0
  who_authenticates_and_is_found_is_entitled = (place : PasswordPlace) (drawn sent rest : List ℕ) (n : ℕ) (newcomer : Newcomer) (text mock_text : List ℕ) → (shows : AuthenticatesNow drawn sent newcomer text mock_text rest) →
      (a b d e x : Done S X) → FoundAsKept state place.table place.mock mock_text a → FoundAsKept state place.table newcomer.role text b → FoundAsKept state place.table newcomer.role text d → FoundAsKept state place.table newcomer.role text e →
      OpensSession x.exchange.want n newcomer.role → WantedAsEntitled (ShowedPasswordInMessages state place drawn sent (said_in_messages shows)) [] (a ∷ b ∷ d ∷ e ∷ x ∷ [])

  -- whatever was done for others, a client for which nothing was done is entitled to no session: none of its own look-ups is there
  abbrev pub look_ups_of_others_entitle_nobody : Entitlement PasswordPlace S X → Type 0
  look_ups_of_others_entitle_nobody Entitled = (place : PasswordPlace) (drawn sent said : List ℕ) (c n : ℕ) (login : TheName) (others later : List (Done S X)) (x : Done S X) →
      AllByRecursion (λ y. y.exchange.client ≢ c) others → x.exchange.client ≡ c → OpensSession x.exchange.want n login →
      WantedAsEntitled (Entitled place drawn sent said) [] (done_for c (others ++ x ∷ later)) → ⊥

  -- nor is one for which another text was found last than the one whose password it has shown, or for which the last thing was no look-up of the role
  abbrev pub other_texts_entitle_nobody : Type 0
  other_texts_entitle_nobody = (place : PasswordPlace) (drawn sent said : List ℕ) (past : List (Done S X)) (last : Done S X) (role : TheName) →
      (shown : ShowedPassword state place drawn sent said (past ++ last ∷ []) role) → FoundAsKept state place.table role shown.text last

  -- nor is one that sends an exchange which was recorded: where what was drawn for its conversation was not said to it, it is entitled to no session
  abbrev pub recorded_exchanges_entitle_nobody : Entitlement PasswordPlace S X → Type 0
  recorded_exchanges_entitle_nobody Entitled = (place : PasswordPlace) (drawn sent said : List ℕ) (past : List (Done S X)) (role : TheName) →
      ((before later : List ℕ) → said ≡ before ++ (base64 drawn ++ later) → ⊥) → Entitled place drawn sent said past role → ⊥
