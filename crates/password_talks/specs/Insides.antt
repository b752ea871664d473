-- What the conversation inside learns once its client was let in.
use Rattle.std.specs.Prelude.{◌≡◌, ℕ, false, List, [], ◌∷◌}
use Rattle.sql_types.specs.declared.answer.Answer.TheVariants.{Refused}
use Rattle.talks.specs.Wants.{Learnt, learnt}
use Rattle.talks.specs.declared.want.SessionEntry.{SessionEntry}
use Rattle.talks.specs.declared.want.Want.{Want}
use Rattle.talks.specs.declared.want.Want.TheVariants as want
use Rattle.talks.specs.declared.want.Reply.{Reply}
use Rattle.talks.specs.declared.want.Reply.TheVariants as reply
use Rattle.password_talks.specs.declared.stage.LoginStage.TheVariants as stage
use Rattle.password_talks.specs.declared.password_talk.PasswordTalk.{PasswordTalk}
use Rattle.password_talks.specs.Courses.{found}
use Rattle.password_talks.specs.LookUps.{is_as_shown, refusal}

-- the client was just let in
pub record IsLetInAs {T : Type 0} (t : PasswordTalk T) (role text : List ℕ) : Type 0 where
  pub stage_is : t.login.stage ≡ stage.Admitted role text
  pub want_is : t.login.want ≡ want.Verifier t.login.place.table role
  pub is_found : t.is_found ≡ false

-- this opens no session
abbrev pub OpensNone : Want → Type 0
OpensNone (want.Open session login entry) = ⊥
OpensNone _ = Unit {0}

-- what the conversation inside learns, where this is learnt: each session is opened once the verifier was found for it, or it learns why not
pub data LearntInside (table role text : List ℕ) : List Learnt → List Learnt → Type 0 where
  nothing : LearntInside table role text [] []
  as_it_is : {xs ys : List Learnt} (x : Learnt) → OpensNone x.want → LearntInside table role text xs ys → LearntInside table role text (x ∷ xs) (x ∷ ys)
  opens_now : LearntInside table role text (found table role text ∷ []) []
  opened : {xs ys : List Learnt} (session : ℕ) (entry : SessionEntry) (r : Reply) → LearntInside table role text xs ys
      → LearntInside table role text (found table role text ∷ learnt (want.Open session role entry) r ∷ xs) (learnt (want.Open session role entry) r ∷ ys)
  refused : {xs ys : List Learnt} (session : ℕ) (login : List ℕ) (entry : SessionEntry) (r : Reply)
      → is_as_shown (stage.Admitted role text) (want.Open session login entry) r ≡ false → LearntInside table role text xs ys
      → LearntInside table role text (learnt (want.Verifier table role) r ∷ xs)
      (learnt (want.Open session login entry) (reply.Answer (Refused (refusal (stage.Admitted role text) (want.Open session login entry) r))) ∷ ys)
