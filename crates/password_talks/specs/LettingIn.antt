-- A client that shows its password, from its first byte until it is let in.
use Rattle.std.specs.Prelude.{◌++◌, ℕ, List, [], ◌∷◌}
use Rattle.scram_hashes.specs.Keys.{TheVerifier}
use Rattle.scram_hashes.specs.VerifierText.{SpellsVerifier}
use Rattle.scram.specs.Exchanges.{Authenticates}
use Rattle.scram.specs.Messages.{auth_message, server_first, server_final, whole_nonce}
use Rattle.talks.specs.Wants.{Learnt}
use Rattle.password_talks.specs.declared.login.PasswordPlace.{PasswordPlace}
use Rattle.password_talks.specs.EarlyFrames.{Sends, begins, ends, message_frame}
use Rattle.password_talks.specs.Courses.{found}

-- The client sends two frames, whose messages show the password of the verifier that this text spells; the mock has a verifier, too
pub record ShowsPasswordNow (drawn bytes : List ℕ) (label : ℕ) (role text mock_text rest : List ℕ) : Type 0 where
  pub first : List ℕ
  pub last : List ℕ
  pub middle : List ℕ
  pub begun : Sends bytes (begins label role first) middle
  pub ended : Sends middle (ends label last) rest
  pub mock : TheVerifier
  pub spells_mock : SpellsVerifier mock_text mock
  pub verifier : TheVerifier
  pub spells : SpellsVerifier text verifier
  pub shows : Authenticates verifier drawn first last

-- what is learnt for it where the text is found
abbrev pub found_for : PasswordPlace → List ℕ → List ℕ → List ℕ → List Learnt
found_for place role text mock_text = found place.table place.mock mock_text ∷ found place.table role text ∷ found place.table role text ∷ []

-- what is said to it: the two messages of the server
abbrev pub first_said : {drawn bytes : List ℕ} {label : ℕ} {role text mock_text rest : List ℕ} → ShowsPasswordNow drawn bytes label role text mock_text rest → List ℕ
first_said {drawn} it = server_first it.verifier (whole_nonce it.shows.nonce drawn)

abbrev pub last_said : {drawn bytes : List ℕ} {label : ℕ} {role text mock_text rest : List ℕ} → ShowsPasswordNow drawn bytes label role text mock_text rest → List ℕ
last_said {drawn} it = server_final it.verifier (auth_message it.shows.bare it.verifier it.shows.binding (whole_nonce it.shows.nonce drawn))

abbrev pub said_for : {drawn bytes : List ℕ} {label : ℕ} {role text mock_text rest : List ℕ} → ShowsPasswordNow drawn bytes label role text mock_text rest → List ℕ
said_for {label = label} it = message_frame label (first_said it) ++ message_frame label (last_said it)
