-- What was drawn for a conversation in PostgreSQL's messages is told in a challenge.
use Rattle.std.proofs.Common.{◌≡◌, ◌∙◌, ℕ, false, List, [], ◌∷◌, ◌++◌, take, inl, inr, refl, sym, subst}
use Rattle.talks.specs.Wants.{Learnt, FitsWant}
use Rattle.talks.specs.Conversations.{Heard}
use Rattle.talks.specs.declared.talk.Talk.{Ghosts}
use Rattle.talks.specs.declared.want.Want.{Want}
use Rattle.talks.specs.declared.want.Want.TheVariants as want
use Rattle.talks.specs.declared.want.Reply.{Reply}
use Rattle.scram.specs.Exchanges.{TheExchange}
use Rattle.password_talks.specs.declared.login.PasswordPlace.{PasswordPlace}
use Rattle.password_talks.specs.Courses.{found, looked_up}
use Rattle.postgres_logins.specs.declared.stage.Newcomer.{Newcomer}
use Rattle.postgres_logins.specs.declared.stage.SaslStage.{SaslStage}
use Rattle.postgres_logins.specs.declared.stage.SaslStage.TheVariants as stage
use Rattle.postgres_logins.specs.declared.postgres_login_talk.PostgresLoginTalk.{PostgresLoginTalk}
use Rattle.postgres_logins.specs.Logins.{is_admitted}
use Rattle.postgres_logins.specs.PostgresLoginTalks.{HearsMessage, LearnsReply, RejectsMessage, front_at, wanted, wanted_inside}
use Rattle.postgres_logins.specs.Courses.{WasChallenged}
use Rattle.postgres_logins.proofs.Standing.{EndedSo, Reached, Stands, hears_at, rejects_at}
use Rattle.postgres_logins.proofs.Learning.{learns_at}
use Rattle.postgres_logins.proofs.Showing.{starts_so}
use Rattle.login_laws.proofs.Telling.{FewOrTold, ToldFirst, none_few, first_few, second_few, learnt_more, told_now, told_heard}

-- the client was challenged in messages
abbrev pub ChallengedInMessages : PasswordPlace → (drawn bytes : List ℕ) → List Learnt → List ℕ → Type 0
ChallengedInMessages place drawn bytes xs said = (rest : List ℕ) × (n : Newcomer) × (x : TheExchange) × WasChallenged place drawn bytes xs said rest n x

-- once it has ended nothing is learnt
ended_learns : {T : Type 0} (k : Ghosts T) (place : PasswordPlace) (drawn bytes : List ℕ) (w : Want) (r : Reply) (xs : List Learnt) (said : List ℕ) → EndedSo k place drawn bytes w xs said → FitsWant w r → ⊥
ended_learns k place drawn bytes (want.End late) r xs said it fits = fits
ended_learns k place drawn bytes want.OutOfMemory r xs said it fits = fits
ended_learns k place drawn bytes want.Message r xs said it fits = it
ended_learns k place drawn bytes (want.Event e) r xs said it fits = it
ended_learns k place drawn bytes (want.Open n login entry) r xs said it fits = it
ended_learns k place drawn bytes (want.Standing n) r xs said it fits = it
ended_learns k place drawn bytes (want.Description n text) r xs said it fits = it
ended_learns k place drawn bytes (want.Verifier table role) r xs said it fits = it

module _ {T : Type 0} (k : Ghosts T) (outer : Ghosts (PostgresLoginTalk T))
    (wants_is : (t : PostgresLoginTalk T) → outer.wants t ≡ wanted t.login t.is_found (k.wants t.talk))
    (front_is : (t : PostgresLoginTalk T) (bytes : List ℕ) → outer.front t bytes ≡ front_at k t.login.stage t.talk bytes)
    (hears_is : (t u : PostgresLoginTalk T) (message said : List ℕ) → outer.hears t message said u → HearsMessage k t message said u)
    (rejects_is : (t u : PostgresLoginTalk T) (said : List ℕ) → outer.rejects t said u → RejectsMessage k t said u)
    (learns_is : (t u : PostgresLoginTalk T) (r : Reply) (said : List ℕ) → outer.learns t r said u → LearnsReply k t r said u) where
  module _ (place : PasswordPlace) (drawn all : List ℕ) where
    -- the client was challenged so, of all that it has sent
    abbrev So : List Learnt → List ℕ → Type 0
    So = ChallengedInMessages place drawn all

    told_so : (xs : List Learnt) (y : Learnt) (said rest : List ℕ) (n : Newcomer) (x : TheExchange) → WasChallenged place drawn all xs said rest n x → ToldFirst So (xs ++ y ∷ []) said
    told_so xs y said rest n x it = told_now So xs (y ∷ []) said (rest, n, x, it)

    once_shown : (xs later : List Learnt) (x a b d : Learnt) (said : List ℕ) → xs ≡ a ∷ b ∷ d ∷ later → FewOrTold So xs said → FewOrTold So (xs ++ x ∷ []) said
    once_shown xs later x a b d said is (inr told) = inr (learnt_more So xs (x ∷ []) said told)
    once_shown xs later x a b d said is (inl few) = absurd (none_few xs later a b d is few)

    by_stage : (t : PostgresLoginTalk T) (xs : List Learnt) (said rest : List ℕ) (x : Learnt) (s : SaslStage) → Reached k place drawn all s t.login.want xs said rest → FewOrTold So xs said
        → x.want ≡ wanted_inside (is_admitted s) t.login t.is_found (k.wants t.talk) → FitsWant x.want x.reply → FewOrTold So (xs ++ x ∷ []) said
    by_stage t xs said rest x (stage.Starting answered) it so is fits = inl (first_few xs x it.1)
    by_stage t xs said rest x (stage.Begun n) it so is fits = inl (first_few xs x it.1)
    by_stage t xs said rest x (stage.Mocked n mock) it so is fits = inl (second_few xs (looked_up place.table place.mock it.1.stored) x it.1.learnt_is)
    by_stage t xs said rest x (stage.Offered n mock stored) it so is fits = absurd (subst (λ (w : Want). FitsWant w x.reply) (is ∙ it.0) fits)
    by_stage t xs said rest x (stage.Challenged n e) it so is fits = inr (told_so xs x said rest n e it.1)
    by_stage t xs said rest x (stage.Answered n e last) it so is fits = inr (told_so xs x said it.1.middle n e it.1.challenged)
    by_stage t xs said rest x (stage.Admitted n text) it so is fits =
        once_shown xs it.1.later x (found place.table place.mock it.1.mock_text) (found place.table n.role text) (found place.table n.role text) said it.1.learnt_is so
    by_stage t xs said rest x stage.Ended it so is fits = absurd (ended_learns k place drawn all t.login.want x.reply xs said it (subst (λ (w : Want). FitsWant w x.reply) is fits))

    few_or_told : {t u : PostgresLoginTalk T} {said rest : List ℕ} {xs : List Learnt} → Stands k place drawn all t [] [] all → Heard outer t all xs said rest u → FewOrTold So xs said
    few_or_told it heard =
        told_heard outer (Stands k place drawn all) So
        (λ t u xs said saying bytes n at wants front says.
        hears_at k place drawn all t u xs said saying bytes n t.login.stage refl at.place_is at.drawn_is at.reached (sym (wants_is t) ∙ wants) (sym (front_is t bytes) ∙ front) (hears_is t u (take n bytes) saying says))
        (λ t u xs said saying bytes at says. rejects_at k place drawn all t u xs said saying bytes t.login.stage refl at.place_is at.drawn_is at.reached (rejects_is t u saying says))
        (λ t u xs said saying bytes x at wants fits says.
        learns_at k place drawn all t u xs (xs ++ x ∷ []) said saying bytes x.want x.reply t.login.stage refl at.place_is at.drawn_is at.reached (sym wants ∙ wants_is t) refl fits (learns_is t u x.reply saying says))
        (λ t xs said bytes x at so wants fits. by_stage t xs said bytes x t.login.stage at.reached so (sym wants ∙ wants_is t) fits)
        [] [] it (inl tt) heard

  pub told_from_start : {t u : PostgresLoginTalk T} {bytes said rest : List ℕ} {xs : List Learnt} → t.login.stage ≡ stage.Starting 0 → t.login.want ≡ want.Message → t.is_found ≡ false → Heard outer t bytes xs said rest u
      → FewOrTold (ChallengedInMessages t.login.place t.login.drawn bytes) xs said
  told_from_start {t} {u} {bytes} silent wants anew heard =
      few_or_told t.login.place t.login.drawn bytes (starts_so k t.login.place t.login.drawn bytes t refl refl silent wants anew) heard
