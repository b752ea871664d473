-- What may be wanted, whatever is heard and learnt.
use Rattle.std.proofs.Common.{◌≡◌, ◌∙◌, ◌⊎◌, ℕ, Bool, true, false, cond, List, [], ◌∷◌, ◌++◌, take, drop, inl, inr, refl, ap, sym, subst}
use Rattle.std.proofs.lemmas.List.{append-nil, append_assoc}
use Rattle.talks.specs.Wants.{Learnt, FitsWant}
use Rattle.talks.specs.Conversations.{Heard, stays, hears, rejects, learns, loses, breaks}
use Rattle.talks.specs.declared.talk.Talk.{Ghosts}
use Rattle.talks.specs.declared.want.Want.{Want}
use Rattle.talks.specs.declared.want.Want.TheVariants as want
use Rattle.talks.specs.declared.want.Reply.{Reply}
use Rattle.password_talks.specs.declared.stage.LoginStage.{LoginStage}
use Rattle.password_talks.specs.declared.stage.LoginStage.TheVariants as stage
use Rattle.password_talks.specs.declared.login.PasswordPlace.{PasswordPlace}
use Rattle.password_talks.specs.declared.password_talk.PasswordTalk.{PasswordTalk}
use Rattle.password_talks.specs.Logins.{is_admitted}
use Rattle.password_talks.specs.PasswordTalks.{HearsMessage, LearnsReply, RejectsMessage, asks_first, front_at, wanted, wanted_inside}
use Rattle.password_talks.specs.Courses.{found, HasShown, MayWant, MightBeWanted, WasRefused}
use Rattle.password_talks.proofs.Standing.{EndedSo, FoundNow, Reached, Stands, hears_at, rejects_at}
use Rattle.password_talks.proofs.Learning.{learns_at}

-- ---- at one moment

module _ {T : Type 0} (k : Ghosts T) (place : PasswordPlace) (drawn bytes : List ℕ) where
  may_be_inside : (f : Bool) (role text : List ℕ) (w : Want) (xs : List Learnt) → HasShown place drawn bytes xs role text
      → FoundNow k place drawn bytes f (stage.Admitted role text) w xs → asks_first f w ≡ false → MayWant place drawn bytes xs w
  may_be_inside true role text (want.Open n login entry) xs shown now asked = record {
    text = text;
    has_shown = subst (λ (r : List ℕ). HasShown place drawn bytes xs r text) (sym now.is_for) shown;
    earlier = now.earlier;
    found_now = now.found_now ∙ ap (λ (r : List ℕ). now.earlier ++ found place.table r text ∷ []) (sym now.is_for);
  }
  may_be_inside false role text (want.Open n login entry) xs shown now asked = cc
  may_be_inside f role text w xs shown now asked = tt

  may_first : (b f : Bool) (role text : List ℕ) (v own w : Want) (xs : List Learnt) → HasShown place drawn bytes xs role text
      → FoundNow k place drawn bytes f (stage.Admitted role text) w xs → asks_first f w ≡ b → own ≡ want.Verifier place.table role
      → v ≡ cond b own w → MayWant place drawn bytes xs v
  may_first true f role text v own w xs shown now asked looks is = subst (λ (a : Want). MayWant place drawn bytes xs a) (sym (is ∙ looks)) tt
  may_first false f role text v own w xs shown now asked looks is =
      subst (λ (a : Want). MayWant place drawn bytes xs a) (sym is) (may_be_inside f role text w xs shown now asked)

  may_ended : (w : Want) (xs : List Learnt) (said : List ℕ) → EndedSo k place drawn bytes w xs said → MayWant place drawn bytes xs w
  may_ended (want.Open n login entry) xs said it = absurd it
  may_ended w xs said it = tt

  pub may_at : (t : PasswordTalk T) (xs : List Learnt) (said rest : List ℕ) (v : Want) (s : LoginStage) → Reached k place drawn bytes s t.login.want xs said rest
      → FoundNow k place drawn bytes t.is_found s (k.wants t.talk) xs → v ≡ wanted_inside (is_admitted s) t.login t.is_found (k.wants t.talk)
      → MayWant place drawn bytes xs v
  may_at t xs said rest v stage.Silent it now is = subst (λ (a : Want). MayWant place drawn bytes xs a) (sym (is ∙ it.0)) tt
  may_at t xs said rest v (stage.Begun label role first) it now is = subst (λ (a : Want). MayWant place drawn bytes xs a) (sym (is ∙ it.0)) tt
  may_at t xs said rest v (stage.Mocked label role first mock) it now is = subst (λ (a : Want). MayWant place drawn bytes xs a) (sym (is ∙ it.0)) tt
  may_at t xs said rest v (stage.Challenged label role x) it now is = subst (λ (a : Want). MayWant place drawn bytes xs a) (sym (is ∙ it.0)) tt
  may_at t xs said rest v (stage.Answered label role x last) it now is = subst (λ (a : Want). MayWant place drawn bytes xs a) (sym (is ∙ it.0)) tt
  may_at t xs said rest v (stage.Admitted role text) it now is =
      may_first (asks_first t.is_found (k.wants t.talk)) t.is_found role text v t.login.want (k.wants t.talk) xs it.1 now refl it.0 is
  may_at t xs said rest v stage.Ended it now is = subst (λ (a : Want). MayWant place drawn bytes xs a) (sym is) (may_ended t.login.want xs said it)

  pub may_stand : (t : PasswordTalk T) (xs : List Learnt) (said rest : List ℕ) (v : Want) → Stands k place drawn bytes t xs said rest
      → v ≡ wanted t.login t.is_found (k.wants t.talk) → MayWant place drawn bytes xs v
  may_stand t xs said rest v it is = may_at t xs said rest v t.login.stage it.reached it.found_it is

  -- ---- who was refused

  refused_at : (t : PasswordTalk T) (xs : List Learnt) (said rest : List ℕ) (s : LoginStage) → s ≡ stage.Ended → t.login.want ≡ want.End true
      → Reached k place drawn bytes s t.login.want xs said rest → WasRefused place drawn bytes xs said
  refused_at t xs said rest s ended wants it =
      let there : EndedSo k place drawn bytes t.login.want xs said = subst (λ (a : LoginStage). Reached k place drawn bytes a t.login.want xs said rest) ended it in
      subst (λ (w : Want). EndedSo k place drawn bytes w xs said) wants there

  pub refused_now : (t : PasswordTalk T) (xs : List Learnt) (said rest : List ℕ) → Stands k place drawn bytes t xs said rest → t.login.stage ≡ stage.Ended
      → t.login.want ≡ want.End true → WasRefused place drawn bytes xs said
  refused_now t xs said rest it ended wants = refused_at t xs said rest t.login.stage ended wants it.reached

  -- ---- at the start

  pub starts_so : (t : PasswordTalk T) → t.login.place ≡ place → t.login.drawn ≡ drawn → t.login.stage ≡ stage.Silent → t.login.want ≡ want.Message → t.is_found ≡ false
      → Stands k place drawn bytes t [] [] bytes
  starts_so t pl dr silent wants anew = record {
    place_is = pl;
    drawn_is = dr;
    reached = subst (λ (a : LoginStage). Reached k place drawn bytes a t.login.want [] [] bytes) (sym silent) (wants, refl, refl, refl);
    found_it = subst (λ (b : Bool). FoundNow k place drawn bytes b t.login.stage (k.wants t.talk) []) (sym anew) tt;
  }

-- ---- all that is heard

module _ {T : Type 0} (k : Ghosts T) (outer : Ghosts (PasswordTalk T))
    (wants_is : (t : PasswordTalk T) → outer.wants t ≡ wanted t.login t.is_found (k.wants t.talk))
    (front_is : (t : PasswordTalk T) (bytes : List ℕ) → outer.front t bytes ≡ front_at k (is_admitted t.login.stage) t.talk bytes)
    (hears_is : (t u : PasswordTalk T) (message said : List ℕ) → outer.hears t message said u → HearsMessage k t message said u)
    (rejects_is : (t u : PasswordTalk T) (said : List ℕ) → outer.rejects t said u → RejectsMessage k t said u)
    (learns_is : (t u : PasswordTalk T) (r : Reply) (said : List ℕ) → outer.learns t r said u → LearnsReply k t r said u) where
  -- once memory was refused nothing is heard, learnt or said
  pub silent : {t u : PasswordTalk T} {bytes said rest : List ℕ} {xs : List Learnt} → Heard outer t bytes xs said rest u → outer.wants t ≡ want.OutOfMemory
      → (xs ≡ []) × (said ≡ []) × (rest ≡ bytes) × (outer.wants u ≡ want.OutOfMemory)
  silent stays lost = (refl, refl, refl, lost)
  silent (hears n wants front says later) lost = let wrong : want.Message ≡ want.OutOfMemory = sym wants ∙ lost in cc
  silent (rejects wants front says later) lost = let wrong : want.Message ≡ want.OutOfMemory = sym wants ∙ lost in cc
  silent (learns x wants fits says later) lost = absurd (subst (λ (w : Want). FitsWant w x.reply) (sym wants ∙ lost) fits)
  silent (loses x wants fits end later) lost = absurd (subst (λ (w : Want). FitsWant w x.reply) (sym wants ∙ lost) fits)
  silent (breaks end later) lost = silent later end

  -- it stands so after this, or memory was refused
  abbrev pub StandsOrLost : PasswordPlace → List ℕ → List ℕ → PasswordTalk T → List Learnt → List ℕ → List ℕ → Type 0
  StandsOrLost place drawn all u xs said rest = Stands k place drawn all u xs said rest ⊎ (outer.wants u ≡ want.OutOfMemory)

  abbrev Shows : PasswordPlace → List ℕ → List ℕ → PasswordTalk T → List Learnt → List Learnt → List ℕ → List ℕ → Type 0
  Shows place drawn all u xs ys said rest = MightBeWanted place drawn all xs ys × StandsOrLost place drawn all u (xs ++ ys) said rest

  pub shown_heard : (place : PasswordPlace) (drawn all : List ℕ) (xs : List Learnt) (said : List ℕ) {t u : PasswordTalk T} {bytes also rest : List ℕ} {ys : List Learnt}
      → Stands k place drawn all t xs said bytes → Heard outer t bytes ys also rest u → Shows place drawn all u xs ys (said ++ also) rest
  shown_heard place drawn all xs said {u = u} {rest = rest} it stays = (tt, inl (rw (append-nil xs, append-nil said) it))
  shown_heard place drawn all xs said {t = t} {u = v} {rest = rest} it (hears {u = u} {bytes = bytes} {said = saying} {also = also} {xs = ys} n wants front says later) =
      let next : Stands k place drawn all u xs (said ++ saying) (drop n bytes) =
      hears_at k place drawn all t u xs said saying bytes n t.login.stage refl it.place_is it.drawn_is it.reached (sym (wants_is t) ∙ wants) (sym (front_is t bytes) ∙ front)
      (hears_is t u (take n bytes) saying says) in
      subst (λ (l : List ℕ). Shows place drawn all v xs ys l rest) (append_assoc said saying also) (shown_heard place drawn all xs (said ++ saying) next later)
  shown_heard place drawn all xs said {t = t} {u = v} {rest = rest} it (rejects {u = u} {bytes = bytes} {said = saying} {also = also} {xs = ys} wants front says later) =
      let next : Stands k place drawn all u xs (said ++ saying) bytes =
      rejects_at k place drawn all t u xs said saying bytes t.login.stage refl it.place_is it.drawn_is it.reached (rejects_is t u saying says) in
      subst (λ (l : List ℕ). Shows place drawn all v xs ys l rest) (append_assoc said saying also) (shown_heard place drawn all xs (said ++ saying) next later)
  shown_heard place drawn all xs said {t = t} {u = v} {rest = rest} it (learns {u = u} {bytes = bytes} {said = saying} {also = also} {xs = ys} x wants fits says later) =
      let next : Stands k place drawn all u (xs ++ x ∷ []) (said ++ saying) bytes =
      learns_at k place drawn all t u xs (xs ++ x ∷ []) said saying bytes x.want x.reply t.login.stage refl it.place_is it.drawn_is it.reached (sym wants ∙ wants_is t) refl fits
      (learns_is t u x.reply saying says) in
      let on = shown_heard place drawn all (xs ++ x ∷ []) (said ++ saying) next later in
      let may : MayWant place drawn all xs x.want = may_stand k place drawn all t xs said bytes x.want it (sym wants ∙ wants_is t) in (
        (may, on.0),
        subst (λ (l : List Learnt). StandsOrLost place drawn all v l (said ++ (saying ++ also)) rest) (append_assoc xs (x ∷ []) ys)
            (subst (λ (l : List ℕ). StandsOrLost place drawn all v ((xs ++ x ∷ []) ++ ys) l rest) (append_assoc said saying also) on.1),
      )
  shown_heard place drawn all xs said {t = t} {u = v} {rest = rest} it (loses {bytes = bytes} {also = also} {xs = ys} x wants fits end later) =
      let none = silent later end in
      let may : MayWant place drawn all xs x.want = may_stand k place drawn all t xs said bytes x.want it (sym wants ∙ wants_is t) in
      ((may, subst (λ (l : List Learnt). MightBeWanted place drawn all (xs ++ x ∷ []) l) (sym none.0) tt), inr none.3)
  shown_heard place drawn all xs said {t = t} {u = v} {rest = rest} it (breaks {bytes = bytes} {also = also} {xs = ys} end later) =
      let none = silent later end in
      (subst (λ (l : List Learnt). MightBeWanted place drawn all xs l) (sym none.0) tt, inr none.3)

  -- ---- from the start

  pub from_start : {t u : PasswordTalk T} {bytes said rest : List ℕ} {xs : List Learnt} → t.login.stage ≡ stage.Silent → t.login.want ≡ want.Message → t.is_found ≡ false
      → Heard outer t bytes xs said rest u → Shows t.login.place t.login.drawn bytes u [] xs said rest
  from_start {t} {u} {bytes} {said} {rest} {xs} silent_yet wants anew heard =
      shown_heard t.login.place t.login.drawn bytes [] [] (starts_so k t.login.place t.login.drawn bytes t refl refl silent_yet wants anew) heard

  pub may_want_now : (place : PasswordPlace) (drawn all : List ℕ) (u : PasswordTalk T) (xs : List Learnt) (said rest : List ℕ) → StandsOrLost place drawn all u xs said rest
      → MayWant place drawn all xs (outer.wants u)
  may_want_now place drawn all u xs said rest (inl it) = may_stand k place drawn all u xs said rest (outer.wants u) it (wants_is u)
  may_want_now place drawn all u xs said rest (inr lost) = subst (λ (w : Want). MayWant place drawn all xs w) (sym lost) tt

  pub was_refused : (place : PasswordPlace) (drawn all : List ℕ) (u : PasswordTalk T) (xs : List Learnt) (said rest : List ℕ) → StandsOrLost place drawn all u xs said rest
      → u.login.stage ≡ stage.Ended → outer.wants u ≡ want.End true → WasRefused place drawn all xs said
  was_refused place drawn all u xs said rest (inl it) ended wants =
      refused_now k place drawn all u xs said rest it ended (own_wants u ended ∙ wants)
    where
      own_wants : (u : PasswordTalk T) → u.login.stage ≡ stage.Ended → u.login.want ≡ outer.wants u
      own_wants u ended = sym (wants_is u ∙ ap (λ (s : LoginStage). wanted_inside (is_admitted s) u.login u.is_found (k.wants u.talk)) ended)
  was_refused place drawn all u xs said rest (inr lost) ended wants = let wrong : want.End true ≡ want.OutOfMemory = sym wants ∙ lost in cc

  -- what may be wanted, of all that is heard
  pub might_and_may : {t u : PasswordTalk T} {bytes said rest : List ℕ} {xs : List Learnt} → t.login.stage ≡ stage.Silent → t.login.want ≡ want.Message → t.is_found ≡ false
      → Heard outer t bytes xs said rest u
      → MightBeWanted t.login.place t.login.drawn bytes [] xs × MayWant t.login.place t.login.drawn bytes xs (outer.wants u)
  might_and_may {t} {u} {bytes} {said} {rest} {xs} silent_yet wants anew heard =
      let it = from_start silent_yet wants anew heard in
      (it.0, may_want_now t.login.place t.login.drawn bytes u xs said rest it.1)

  -- why a client was refused
  pub refused_heard : {t u : PasswordTalk T} {bytes said rest : List ℕ} {xs : List Learnt} → t.login.stage ≡ stage.Silent → t.login.want ≡ want.Message → t.is_found ≡ false
      → Heard outer t bytes xs said rest u → u.login.stage ≡ stage.Ended → outer.wants u ≡ want.End true → WasRefused t.login.place t.login.drawn bytes xs said
  refused_heard {t} {u} {bytes} {said} {rest} {xs} silent_yet wants anew heard ended last =
      let it = from_start silent_yet wants anew heard in
      was_refused t.login.place t.login.drawn bytes u xs said rest it.1 ended last
