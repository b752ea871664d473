-- What was drawn for a conversation in frames is told in the challenge that answers its first frame.
use Rattle.std.proofs.Common.{◌≡◌, ◌∙◌, ℕ, false, List, [], ◌∷◌, ◌++◌, take, drop, inl, inr, refl, ap, sym, subst}
use Rattle.talks.specs.Wants.{Learnt, FitsWant}
use Rattle.talks.specs.Conversations.{Heard}
use Rattle.talks.specs.declared.talk.Talk.{Ghosts}
use Rattle.talks.specs.declared.talk.MessageFront.TheVariants.{Whole}
use Rattle.talks.specs.declared.want.Want.{Want}
use Rattle.talks.specs.declared.want.Want.TheVariants as want
use Rattle.talks.specs.declared.want.Reply.{Reply}
use Rattle.scram.specs.Exchanges.{TheExchange}
use Rattle.password_talks.specs.declared.stage.LoginStage.{LoginStage}
use Rattle.password_talks.specs.declared.stage.LoginStage.TheVariants as stage
use Rattle.password_talks.specs.declared.login.PasswordPlace.{PasswordPlace}
use Rattle.password_talks.specs.declared.password_talk.PasswordTalk.{PasswordTalk}
use Rattle.password_talks.specs.Logins.{is_admitted}
use Rattle.password_talks.specs.PasswordTalks.{HearsMessage, LearnsReply, RejectsMessage, front_at, wanted, wanted_inside}
use Rattle.password_talks.specs.Courses.{HasChallenged, found, looked_up}
use Rattle.password_talks.specs.EarlyFrames.{Sends, begins, early_frame}
use Rattle.password_talks.proofs.Standing.{EndedSo, Reached, Stands, hears_at, rejects_at}
use Rattle.password_talks.proofs.Learning.{learns_at}
use Rattle.password_talks.proofs.Showing.{starts_so}
use Rattle.login_laws.proofs.Telling.{FewOrTold, ToldFirst, none_few, first_few, second_few, learnt_more, told_now, told_heard}

-- the client was challenged in frames
abbrev pub ChallengedInFrames : PasswordPlace → (drawn bytes : List ℕ) → List Learnt → List ℕ → Type 0
ChallengedInFrames place drawn bytes xs said = (label : ℕ) × (role : List ℕ) × (rest : List ℕ) × (x : TheExchange) × HasChallenged place drawn bytes xs said rest label role x

-- the first frame has one label and one role, and one rest
whole_same : (a b : ℕ) → Whole a ≡ Whole b → a ≡ b
whole_same a b is = cc

label_inside : (a b : ℕ) (r s f g : List ℕ) → begins a r f ≡ begins b s g → a ≡ b
label_inside a b r s f g is = cc

role_inside : (a b : ℕ) (r s f g : List ℕ) → begins a r f ≡ begins b s g → r ≡ s
role_inside a b r s f g is = cc

module _ (bytes : List ℕ) (a b : ℕ) (r s f g l m : List ℕ) (one : Sends bytes (begins a r f) l) (other : Sends bytes (begins b s g) m) where
  size_same : one.size ≡ other.size
  size_same = whole_same one.size other.size (sym one.front ∙ other.front)

  frame_same : begins a r f ≡ begins b s g
  frame_same = sym one.is_frame ∙ (ap (λ (n : ℕ). early_frame (take n bytes)) size_same ∙ other.is_frame)

  rest_left : l ≡ m
  rest_left = one.rest_is ∙ (ap (λ (n : ℕ). drop n bytes) size_same ∙ sym other.rest_is)

-- the challenge answers the first frame
pub same_challenge : (place : PasswordPlace) (drawn bytes : List ℕ) (xs : List Learnt) (said rest : List ℕ) (label : ℕ) (role : List ℕ) (x : TheExchange) (own : ℕ) (its first middle : List ℕ)
    → HasChallenged place drawn bytes xs said rest label role x → Sends bytes (begins own its first) middle → HasChallenged place drawn bytes xs said middle own its x
same_challenge place drawn bytes xs said rest label role x own its first middle it begun =
    let frame = frame_same bytes label own role its it.first first rest middle it.begun begun in
    subst (λ (r : List ℕ). HasChallenged place drawn bytes xs said middle own r x) (role_inside label own role its it.first first frame)
    (subst (λ (n : ℕ). HasChallenged place drawn bytes xs said middle n role x) (label_inside label own role its it.first first frame)
    (subst (λ (l : List ℕ). HasChallenged place drawn bytes xs said l label role x) (rest_left bytes label own role its it.first first rest middle it.begun begun) it))

-- once it has ended nothing is learnt
ended_learns : {T : Type 0} (k : Ghosts T) (place : PasswordPlace) (drawn bytes : List ℕ) (w : Want) (r : Reply) (xs : List Learnt) (said : List ℕ) → EndedSo k place drawn bytes w xs said → FitsWant w r → ⊥
ended_learns k place drawn bytes (want.End late) r xs said it fits = fits
ended_learns k place drawn bytes want.OutOfMemory r xs said it fits = fits
ended_learns k place drawn bytes want.Message r xs said it fits = it
ended_learns k place drawn bytes (want.Event e) r xs said it fits = it
ended_learns k place drawn bytes (want.Open n login entry) r xs said it fits = it
ended_learns k place drawn bytes (want.Standing n) r xs said it fits = it
ended_learns k place drawn bytes (want.Description n text) r xs said it fits = it
ended_learns k place drawn bytes (want.Verifier table role) r xs said it fits = it

module _ {T : Type 0} (k : Ghosts T) (outer : Ghosts (PasswordTalk T))
    (wants_is : (t : PasswordTalk T) → outer.wants t ≡ wanted t.login t.is_found (k.wants t.talk))
    (front_is : (t : PasswordTalk T) (bytes : List ℕ) → outer.front t bytes ≡ front_at k (is_admitted t.login.stage) t.talk bytes)
    (hears_is : (t u : PasswordTalk T) (message said : List ℕ) → outer.hears t message said u → HearsMessage k t message said u)
    (rejects_is : (t u : PasswordTalk T) (said : List ℕ) → outer.rejects t said u → RejectsMessage k t said u)
    (learns_is : (t u : PasswordTalk T) (r : Reply) (said : List ℕ) → outer.learns t r said u → LearnsReply k t r said u) where
  module _ (place : PasswordPlace) (drawn all : List ℕ) where
    -- the client was challenged so, of all that it has sent
    abbrev So : List Learnt → List ℕ → Type 0
    So = ChallengedInFrames place drawn all

    told_so : (xs : List Learnt) (y : Learnt) (said rest : List ℕ) (label : ℕ) (role : List ℕ) (x : TheExchange) → HasChallenged place drawn all xs said rest label role x → ToldFirst So (xs ++ y ∷ []) said
    told_so xs y said rest label role x it = told_now So xs (y ∷ []) said (label, role, rest, x, it)

    once_shown : (xs later : List Learnt) (x a b d : Learnt) (said : List ℕ) → xs ≡ a ∷ b ∷ d ∷ later → FewOrTold So xs said → FewOrTold So (xs ++ x ∷ []) said
    once_shown xs later x a b d said is (inr told) = inr (learnt_more So xs (x ∷ []) said told)
    once_shown xs later x a b d said is (inl few) = absurd (none_few xs later a b d is few)

    by_stage : (t : PasswordTalk T) (xs : List Learnt) (said rest : List ℕ) (x : Learnt) (s : LoginStage) → Reached k place drawn all s t.login.want xs said rest → FewOrTold So xs said
        → x.want ≡ wanted_inside (is_admitted s) t.login t.is_found (k.wants t.talk) → FitsWant x.want x.reply → FewOrTold So (xs ++ x ∷ []) said
    by_stage t xs said rest x stage.Silent it so is fits = inl (first_few xs x it.1)
    by_stage t xs said rest x (stage.Begun label role first) it so is fits = inl (first_few xs x it.1)
    by_stage t xs said rest x (stage.Mocked label role first mock) it so is fits = inl (second_few xs (looked_up place.table place.mock it.1.stored) x it.1.learnt_is)
    by_stage t xs said rest x (stage.Challenged label role e) it so is fits = inr (told_so xs x said rest label role e it.1)
    by_stage t xs said rest x (stage.Answered label role e last) it so is fits = inr (told_so xs x said it.1.middle label role e it.1.challenged)
    by_stage t xs said rest x (stage.Admitted role text) it so is fits =
        once_shown xs it.1.later x (found place.table place.mock it.1.mock_text) (found place.table role text) (found place.table role text) said it.1.learnt_is so
    by_stage t xs said rest x stage.Ended it so is fits = absurd (ended_learns k place drawn all t.login.want x.reply xs said it (subst (λ (w : Want). FitsWant w x.reply) is fits))

    few_or_told : {t u : PasswordTalk T} {said rest : List ℕ} {xs : List Learnt} → Stands k place drawn all t [] [] all → Heard outer t all xs said rest u → FewOrTold So xs said
    few_or_told it heard =
        told_heard outer (Stands k place drawn all) So
        (λ t u xs said saying bytes n at wants front says.
        hears_at k place drawn all t u xs said saying bytes n t.login.stage refl at.place_is at.drawn_is at.reached (sym (wants_is t) ∙ wants) (sym (front_is t bytes) ∙ front) (hears_is t u (take n bytes) saying says))
        (λ t u xs said saying bytes at says. rejects_at k place drawn all t u xs said saying bytes t.login.stage refl at.place_is at.drawn_is at.reached (rejects_is t u saying says))
        (λ t u xs said saying bytes x at wants fits says.
        learns_at k place drawn all t u xs (xs ++ x ∷ []) said saying bytes x.want x.reply t.login.stage refl at.place_is at.drawn_is at.reached (sym wants ∙ wants_is t) refl fits (learns_is t u x.reply saying says))
        (λ t xs said bytes x at so wants fits. by_stage t xs said bytes x t.login.stage at.reached so (sym wants ∙ wants_is t) fits)
        [] [] it (inl tt) heard

  pub told_from_start : {t u : PasswordTalk T} {bytes said rest : List ℕ} {xs : List Learnt} → t.login.stage ≡ stage.Silent → t.login.want ≡ want.Message → t.is_found ≡ false → Heard outer t bytes xs said rest u
      → FewOrTold (ChallengedInFrames t.login.place t.login.drawn bytes) xs said
  told_from_start {t} {u} {bytes} silent wants anew heard =
      few_or_told t.login.place t.login.drawn bytes (starts_so k t.login.place t.login.drawn bytes t refl refl silent wants anew) heard
