-- Of a conversation of each kind: what it wanted and wants next, and whether its client is entitled to that.
use Rattle.std.proofs.Common.{◌≡◌, ℕ, false, List, [], refl}
use Rattle.std.proofs.lemmas.List.{append-nil}
use Rattle.std.specs.List.{AllByRecursion}
use Rattle.store.specs.Store.{StoreState}
use Rattle.talks.specs.Conversations.{Heard}
use Rattle.talks.specs.declared.talk.Talk.{Ghosts}
use Rattle.talks.specs.declared.want.Want.TheVariants as want
use Rattle.talks.specs.declared.want.Reply.{Reply}
use Rattle.password_talks.specs.declared.password_talk.PasswordTalk.{PasswordTalk}
use Rattle.password_talks.specs.declared.stage.LoginStage.TheVariants as stage
use Rattle.password_talks.specs.Logins.{is_admitted}
use Rattle.password_talks.specs.PasswordTalks.{HearsMessage, LearnsReply, RejectsMessage, front_at, wanted}
use Rattle.password_talks.proofs.Showing.{might_and_may}
use Rattle.postgres_logins.specs.declared.postgres_login_talk.PostgresLoginTalk.{PostgresLoginTalk}
use Rattle.postgres_logins.specs.declared.stage.SaslStage.TheVariants as sasl
use Rattle.postgres_logins.specs.PostgresLoginTalks.{HearsMessage as HearsInMessages, LearnsReply as LearnsInMessages, RejectsMessage as RejectsInMessages, front_at as front_in_messages, wanted as wanted_in_messages}
use Rattle.postgres_logins.proofs.Showing.{might_and_may as might_and_may_in_messages}
use Rattle.login_laws.specs.Done.{Done, told_in}
use Rattle.login_laws.specs.Entitled.{WantsAsEntitled, WantedAsEntitled}
use Rattle.login_laws.specs.Shown.{ShowedPassword, ShowedPasswordInMessages}
use Rattle.login_laws.proofs.Doing.{FindsKeptText}
use Rattle.login_laws.proofs.Showing.{all_entitled, as_entitled, all_entitled_there, as_entitled_there}
use Rattle.login_laws.proofs.ToldInFrames.{told_from_start}
use Rattle.login_laws.proofs.ToldInMessages.{told_from_start as told_in_messages}

module _ {S X T : Type 0} (state : S → StoreState) (k : Ghosts T) (outer : Ghosts (PasswordTalk T))
    (wants_is : (t : PasswordTalk T) → outer.wants t ≡ wanted t.login t.is_found (k.wants t.talk))
    (front_is : (t : PasswordTalk T) (bytes : List ℕ) → outer.front t bytes ≡ front_at k (is_admitted t.login.stage) t.talk bytes)
    (hears_is : (t u : PasswordTalk T) (message said : List ℕ) → outer.hears t message said u → HearsMessage k t message said u)
    (rejects_is : (t u : PasswordTalk T) (said : List ℕ) → outer.rejects t said u → RejectsMessage k t said u)
    (learns_is : (t u : PasswordTalk T) (r : Reply) (said : List ℕ) → outer.learns t r said u → LearnsReply k t r said u) where
  pub in_frames : (t u : PasswordTalk T) (sent said rest : List ℕ) (xs : List (Done S X)) → t.login.stage ≡ stage.Silent → t.login.want ≡ want.Message → t.is_found ≡ false → Heard outer t sent (told_in xs) said rest u
      → AllByRecursion (FindsKeptText state) xs
      → WantedAsEntitled (ShowedPassword state t.login.place t.login.drawn sent said) [] xs × WantsAsEntitled (ShowedPassword state t.login.place t.login.drawn sent said) xs (outer.wants u)
  in_frames t u sent said rest xs silent wants anew heard finds =
      let might = might_and_may k outer wants_is front_is hears_is rejects_is learns_is silent wants anew heard in
      let so = told_from_start k outer wants_is front_is hears_is rejects_is learns_is silent wants anew heard in (
        all_entitled state t.login.place t.login.drawn sent said (told_in xs) so [] xs refl tt finds might.0,
        as_entitled state t.login.place t.login.drawn sent said (told_in xs) so xs [] (outer.wants u) (append-nil (told_in xs)) finds might.1,
      )

module _ {S X T : Type 0} (state : S → StoreState) (k : Ghosts T) (outer : Ghosts (PostgresLoginTalk T))
    (wants_is : (t : PostgresLoginTalk T) → outer.wants t ≡ wanted_in_messages t.login t.is_found (k.wants t.talk))
    (front_is : (t : PostgresLoginTalk T) (bytes : List ℕ) → outer.front t bytes ≡ front_in_messages k t.login.stage t.talk bytes)
    (hears_is : (t u : PostgresLoginTalk T) (message said : List ℕ) → outer.hears t message said u → HearsInMessages k t message said u)
    (rejects_is : (t u : PostgresLoginTalk T) (said : List ℕ) → outer.rejects t said u → RejectsInMessages k t said u)
    (learns_is : (t u : PostgresLoginTalk T) (r : Reply) (said : List ℕ) → outer.learns t r said u → LearnsInMessages k t r said u) where
  pub in_messages : (t u : PostgresLoginTalk T) (sent said rest : List ℕ) (xs : List (Done S X)) → t.login.stage ≡ sasl.Starting 0 → t.login.want ≡ want.Message → t.is_found ≡ false → Heard outer t sent (told_in xs) said rest u
      → AllByRecursion (FindsKeptText state) xs
      → WantedAsEntitled (ShowedPasswordInMessages state t.login.place t.login.drawn sent said) [] xs × WantsAsEntitled (ShowedPasswordInMessages state t.login.place t.login.drawn sent said) xs (outer.wants u)
  in_messages t u sent said rest xs silent wants anew heard finds =
      let might = might_and_may_in_messages k outer wants_is front_is hears_is rejects_is learns_is silent wants anew heard in
      let so = told_in_messages k outer wants_is front_is hears_is rejects_is learns_is silent wants anew heard in (
        all_entitled_there state t.login.place t.login.drawn sent said (told_in xs) so [] xs refl tt finds might.0,
        as_entitled_there state t.login.place t.login.drawn sent said (told_in xs) so xs [] (outer.wants u) (append-nil (told_in xs)) finds might.1,
      )
