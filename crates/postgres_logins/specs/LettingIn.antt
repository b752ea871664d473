-- A client that shows its password, from its first byte until it is let in.
use Rattle.std.specs.Prelude.{◌++◌, ◌≤◌, ℕ, List, [], ◌∷◌}
use Rattle.scram_hashes.specs.Keys.{TheVerifier}
use Rattle.scram_hashes.specs.VerifierText.{SpellsVerifier}
use Rattle.scram.specs.Exchanges.{Authenticates}
use Rattle.scram.specs.Messages.{auth_message, server_first, server_final, whole_nonce}
use Rattle.talks.specs.Wants.{Learnt}
use Rattle.password_talks.specs.Courses.{found}
use Rattle.password_talks.specs.declared.login.PasswordPlace.{PasswordPlace}
use Rattle.postgres_logins.specs.declared.stage.Newcomer.{Newcomer}
use Rattle.postgres_logins.specs.Courses.{HasEntered}
use Rattle.postgres_logins.specs.EntryMessages.{SendsFirst, SendsLast}
use Rattle.postgres_logins.specs.Sayings.{first_said, last_said, offer_said}

-- The client names a role, after two requests for encryption at most, and its next two messages show the password of the verifier that
-- this text spells; the mock has a verifier, too.
pub record AuthenticatesNow (drawn bytes : List ℕ) (n : Newcomer) (text mock_text rest : List ℕ) : Type 0 where
  pub before : List ℕ
  pub behind_start : List ℕ
  pub entered : HasEntered bytes n before behind_start
  pub few : entered.count ≤ 2
  pub first : List ℕ
  pub last : List ℕ
  pub middle : List ℕ
  pub begun : SendsFirst behind_start first middle
  pub ended : SendsLast middle last rest
  pub mock : TheVerifier
  pub spells_mock : SpellsVerifier mock_text mock
  pub verifier : TheVerifier
  pub spells : SpellsVerifier text verifier
  pub shows : Authenticates verifier drawn first last

-- what is learnt for it where the text is found
abbrev pub found_for : PasswordPlace → List ℕ → List ℕ → List ℕ → List Learnt
found_for place role text mock_text = found place.table place.mock mock_text ∷ found place.table role text ∷ found place.table role text ∷ []

-- the two messages of the server
abbrev pub server_first_for : {drawn bytes : List ℕ} {n : Newcomer} {text mock_text rest : List ℕ} → AuthenticatesNow drawn bytes n text mock_text rest → List ℕ
server_first_for {drawn} it = server_first it.verifier (whole_nonce it.shows.nonce drawn)

abbrev pub server_final_for : {drawn bytes : List ℕ} {n : Newcomer} {text mock_text rest : List ℕ} → AuthenticatesNow drawn bytes n text mock_text rest → List ℕ
server_final_for {drawn} it = server_final it.verifier (auth_message it.shows.bare it.verifier it.shows.binding (whole_nonce it.shows.nonce drawn))

-- what is said to it: N to each request for encryption, the offer, and the two messages
abbrev pub said_for : {drawn bytes : List ℕ} {n : Newcomer} {text mock_text rest : List ℕ} → AuthenticatesNow drawn bytes n text mock_text rest → List ℕ
said_for it = it.before ++ (offer_said ++ (first_said (server_first_for it) ++ last_said (server_final_for it)))
