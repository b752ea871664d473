-- A client has shown a password, of the verifier that was kept when it was looked up.
use Rattle.std.specs.Prelude.{◌≡◌, ℕ, List, [], ◌∷◌, ◌++◌, true, Some, Ok}
use Rattle.store.specs.Store.{StoreState}
use Rattle.abstract_database.specs.Lists.{TheName}
use Rattle.abstract_database.specs.Runs.{At}
use Rattle.kept_verifiers.specs.Verifiers.{kept_text}
use Rattle.server.specs.Standing.{Represents}
use Rattle.talks.specs.declared.want.Want.TheVariants as want
use Rattle.talks.specs.declared.want.Reply.TheVariants as reply
use Rattle.talks.specs.Wants.{Learnt}
use Rattle.scram.specs.Exchanges.{TheExchange}
use Rattle.doors.specs.declared.door.Door.{Door}
use Rattle.doors.specs.Doors.{admits}
use Rattle.served_machine.specs.Sessions.{IsSoundServer}
use Rattle.password_talks.specs.declared.login.PasswordPlace.{PasswordPlace}
use Rattle.password_talks.specs.Courses.{HasChallenged, HasShown, found}
use Rattle.postgres_logins.specs.declared.stage.Newcomer.{Newcomer}
use Rattle.postgres_logins.specs.Courses.{HasAuthenticated, WasChallenged}
use Rattle.login_laws.specs.Done.{Done, told_in}

-- ---- look-ups

-- it was looked up what a table keeps for a role, and this text was found: it was kept in the committed database, wherever the server stood then
pub record FoundAsKept {S X : Type 0} (state : S → StoreState) (table role : TheName) (text : List ℕ) (x : Done S X) : Type 0 where
  pub wanted : x.exchange.want ≡ want.Verifier table role
  pub told : x.exchange.reply ≡ reply.Verifier (Ok (Some text))
  pub sound : IsSoundServer state x.server
  pub kept : (w : At) → Represents state x.server w → kept_text w.standing.machine.committed table role ≡ Some text

-- The first three things that were done for a client are look-ups: of the mock's role, and twice of this role. The last thing that was done for it
-- is a look-up of this role, too; it may be the third one. Each time the text that was kept then was found, which is the same for the role
pub record WereFoundAsKept {S X : Type 0} (state : S → StoreState) (place : PasswordPlace) (past : List (Done S X)) (role : TheName) (mock_text text : List ℕ) : Type 0 where
  pub of_mock : Done S X
  pub of_role : Done S X
  pub of_role_again : Done S X
  pub later : List (Done S X)
  pub began : past ≡ of_mock ∷ of_role ∷ of_role_again ∷ later
  pub mock_kept : FoundAsKept state place.table place.mock mock_text of_mock
  pub role_kept : FoundAsKept state place.table role text of_role
  pub role_kept_again : FoundAsKept state place.table role text of_role_again
  pub earlier : List (Done S X)
  pub just_now : Done S X
  pub ended : past ≡ earlier ++ just_now ∷ []
  pub role_kept_now : FoundAsKept state place.table role text just_now

-- ---- who has shown a password

-- first a client was challenged, so, and then the rest was said to it
pub record WasToldDrawn (IsChallenged : List ℕ → Type 0) (said : List ℕ) : Type 0 where
  pub first_said : List ℕ
  pub later : List ℕ
  pub challenged : IsChallenged first_said
  pub said_is : said ≡ first_said ++ later

-- what was looked up for a client before it was challenged
abbrev pub found_first : PasswordPlace → (role mock_text text : List ℕ) → List Learnt
found_first place role mock_text text = found place.table place.mock mock_text ∷ found place.table role text ∷ []

-- the first frame of a client began an exchange under this label, with what was drawn for it, and this is left of its bytes; the challenge is all that was
-- said to it
abbrev pub IsChallenged : PasswordPlace → (drawn sent role mock_text text : List ℕ) (label : ℕ) (rest said : List ℕ) → Type 0
IsChallenged place drawn sent role mock_text text label rest said = (x : TheExchange) × HasChallenged place drawn sent (found_first place role mock_text text) said rest label role x

-- the same in PostgreSQL's messages, behind what was said to the StartupMessage and before it
abbrev pub IsChallengedInMessages : PasswordPlace → (drawn sent role mock_text text said : List ℕ) → Type 0
IsChallengedInMessages place drawn sent role mock_text text said =
    (rest : List ℕ) × (n : Newcomer) × (x : TheExchange) × WasChallenged place drawn sent (found_first place role mock_text text) said rest n x

-- so much has been done for a client, whose bytes showed the password of the verifier that was found for the role. Its last message answers the challenge
-- that was said to it first
pub record ShowedPassword {S X : Type 0} (state : S → StoreState) (place : PasswordPlace) (drawn sent said : List ℕ) (past : List (Done S X)) (role : TheName) : Type 0 where
  pub text : List ℕ
  pub shown : HasShown place drawn sent (told_in past) role text
  pub found : WereFoundAsKept state place past role shown.mock_text text
  pub told : WasToldDrawn (IsChallenged place drawn sent role shown.mock_text text shown.label shown.middle) said

-- the same of a client of PostgreSQL's protocol, whose StartupMessage named the role
pub record ShowedPasswordInMessages {S X : Type 0} (state : S → StoreState) (place : PasswordPlace) (drawn sent said : List ℕ) (past : List (Done S X)) (role : TheName) : Type 0 where
  pub newcomer : Newcomer
  pub is_for : newcomer.role ≡ role
  pub text : List ℕ
  pub shown : HasAuthenticated place drawn sent (told_in past) newcomer text
  pub found : WereFoundAsKept state place past role shown.mock_text text
  pub told : WasToldDrawn (IsChallengedInMessages place drawn sent newcomer.role shown.mock_text text) said

-- ---- at a door

-- one may come in there as the role of this name, whatever was drawn, sent, said and done
abbrev pub MayComeIn : {S X : Type 0} → Door → (drawn sent said : List ℕ) → List (Done S X) → TheName → Type 0
MayComeIn door drawn sent said past role = admits door role ≡ true
