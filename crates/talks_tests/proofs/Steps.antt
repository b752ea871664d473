-- What one client does at once.
use Rattle.std.proofs.Common.{◌≡◌, ◌∙◌, ℕ, false, List, [], ◌∷◌, ◌++◌, take, drop, Option, Some, None, refl, ap, sym, subst, inr}
use Rattle.std.proofs.lemmas.List.{append-nil}
use Rattle.talks.specs.declared.talk.Talk.{Ghosts}
use Rattle.talks.specs.declared.talk.MessageFront.TheVariants.{Whole, Bad}
use Rattle.talks.specs.declared.want.Want.{Want}
use Rattle.talks.specs.declared.want.Want.TheVariants as want
use Rattle.talks.specs.declared.clients.EndCause.{EndCause}
use Rattle.talks.specs.declared.clients.EndCause.TheVariants as end_cause
use Rattle.talks.specs.Wants.{Learnt, FitsWant}
use Rattle.talks.specs.Conversations.{Heard, stays, hears, rejects, learns, loses, breaks, Conversation, Continues, EndsOnce, Passes, HasCause, IsGone, wanted, unless_ended}
use Rattle.talks.specs.Clients.{IsLeaving}
use Rattle.talks_tests.specs.Memory.{any_talk, conversation_of, state_at, state_of, IsOwnCause, HasWish}
use Rattle.talks_tests.specs.declared.line.MemoryClient.{MemoryClient}
use Rattle.talks_tests.specs.declared.line.Stage.{Stage}
use Rattle.talks_tests.specs.declared.line.Stage.TheVariants as stage
use Rattle.talks_tests.specs.declared.line.Wish.TheVariants as wish

pub ends_none : (a b : Option EndCause) (xs : List Learnt) → a ≡ None → EndsOnce a xs b
ends_none a b xs is = subst (λ (o : Option EndCause). EndsOnce o xs b) (sym is) tt

pub ends_stay : (a : Option EndCause) → EndsOnce a [] a
ends_stay None = tt
ends_stay (Some w) = (refl, refl)

-- what was said grows
appended : (old new said : List ℕ) → new ≡ old ++ said → new ++ [] ≡ (old ++ []) ++ said
appended old new said is = append-nil new ∙ (is ∙ ap (λ (l : List ℕ). l ++ said) (sym (append-nil old)))

none_wanted : (o : Option EndCause) (v w : Want) → unless_ended o v ≡ Some w → o ≡ None
none_wanted None v w is = refl
none_wanted (Some x) v w is = cc

pub the_wanted : (o : Option EndCause) (v w : Want) → unless_ended o v ≡ Some w → v ≡ w
the_wanted None v w is = cc
the_wanted (Some x) v w is = cc

-- a conversation that stands so
abbrev pub state : {T : Type 0} → T → List ℕ → List ℕ → Option EndCause → Conversation T
state talk held said end_cause = record { talk = talk; held = held; remaining = Some []; sent = Some said; unsent = []; failures = 0; limited = false; end_cause = end_cause }

module _ {T : Type 0} (k : Ghosts T) where
  -- no byte comes: what is heard of those held goes on
  pub continues : (t u : T) (held rest old new said : List ℕ) (a b : Option EndCause) (xs : List Learnt) → Heard k t held xs said rest u → new ≡ old ++ said → EndsOnce a xs b
      → Continues k (state t held old a) xs (state u rest new b)
  continues t u held rest old new said a b xs heard is ends =
      ([], said, refl, subst (λ (l : List ℕ). Heard k t l xs said rest u) (sym (append-nil held)) heard, appended old new said is, refl, ends)

  pub stands : (t : T) (held said : List ℕ) (a b : Option EndCause) → EndsOnce a [] b → Continues k (state t held said a) [] (state t held said b)
  stands t held said a b ends = continues t t held held said said [] a b [] stays (sym (append-nil said)) ends

  one : (t u : T) (bytes said rest : List ℕ) (xs : List Learnt) → Heard k t bytes xs (said ++ []) rest u → Heard k t bytes xs said rest u
  one t u bytes said rest xs heard = subst (λ (s : List ℕ). Heard k t bytes xs s rest u) (append-nil said) heard

  pub heard_message : (t u : T) (held said : List ℕ) (n : ℕ) → k.wants t ≡ want.Message → k.front t held ≡ Whole n → k.hears t (take n held) said u → Heard k t held [] said (drop n held) u
  heard_message t u held said n wants front says = one t u held said (drop n held) [] (hears n wants front says stays)

  pub heard_bad : (t u : T) (held said : List ℕ) → k.wants t ≡ want.Message → k.front t held ≡ Bad → k.rejects t said u → Heard k t held [] said held u
  heard_bad t u held said wants front says = one t u held said held [] (rejects wants front says stays)

  pub heard_broken : (t u : T) (held : List ℕ) → k.wants u ≡ want.OutOfMemory → Heard k t held [] [] held u
  heard_broken t u held end = breaks end stays

  pub heard_reply : (t u : T) (held said : List ℕ) (x : Learnt) → k.wants t ≡ x.want → FitsWant x.want x.reply → k.learns t x.reply said u → Heard k t held (x ∷ []) said held u
  heard_reply t u held said x wants fits says = one t u held said held (x ∷ []) (learns x wants fits says stays)

  pub heard_lost : (t u : T) (held : List ℕ) (x : Learnt) → k.wants t ≡ x.want → FitsWant x.want x.reply → k.wants u ≡ want.OutOfMemory → Heard k t held (x ∷ []) [] held u
  heard_lost t u held x wants fits end = loses x wants fits end stays

  -- ---- places

  pub passes_there : (x y : MemoryClient T) (xs : List Learnt) → x.stage ≡ stage.There → y.stage ≡ stage.There → Continues k (conversation_of x) xs (conversation_of y) → Passes k any_talk (state_of x) xs (state_of y)
  passes_there x y xs a b goes =
      let P : Stage → Stage → Type 0 = λ s r. Passes k any_talk (state_at s x) xs (state_at r y) in
      subst (λ (s : Stage). P s y.stage) (sym a) (subst (λ (r : Stage). P stage.There r) (sym b) goes)

  pub not_gone : (y : MemoryClient T) → y.stage ≡ stage.There → IsGone (state_of y) → ⊥
  not_gone y is gone = subst (λ (s : Stage). IsGone (state_at s y)) is gone

  pub comes : (x y : MemoryClient T) → x.stage ≡ stage.Awaited → y.stage ≡ stage.There → k.starts y.talk → y.held.items ≡ x.held.items → y.end_cause ≡ None → y.said.items ≡ [] → Passes k any_talk (state_of x) [] (state_of y)
  comes x y a b starts held end_cause said =
      let P : Stage → Stage → Type 0 = λ s r. Passes k any_talk (state_at s x) [] (state_at r y) in
      let fresh : Conversation T = record { talk = y.talk; held = []; remaining = Some x.held.items; sent = Some []; unsent = []; failures = 0; limited = false; end_cause = None } in
      let it : P stage.Awaited stage.There = (
        fresh,
        record { starts = starts; is_made = tt; held = refl; remaining = refl; sent = inr refl; unsent = refl; failures = refl; end_cause = refl },
        (x.held.items, [], sym (append-nil x.held.items), subst (λ (l : List ℕ). Heard k y.talk x.held.items [] [] l y.talk) (sym held) stays, append-nil y.said.items ∙ said, refl, tt),
      ) in
      subst (λ (s : Stage). P s y.stage) (sym a) (subst (λ (r : Stage). P stage.Awaited r) (sym b) it)

  closes_at : (s : Stage) (x : MemoryClient T) → IsLeaving k (state_at s x) → Passes k any_talk (state_at s x) [] (state_at stage.Gone x)
  closes_at stage.Awaited x leaving = absurd leaving
  closes_at stage.There x leaving = (conversation_of x, stands x.talk x.held.items x.said.items x.end_cause x.end_cause (ends_stay x.end_cause), leaving, refl)
  closes_at stage.Gone x leaving = absurd leaving

  pub closes : (x : MemoryClient T) → IsLeaving k (state_of x) → Passes k any_talk (state_of x) [] (state_at stage.Gone x)
  closes x leaving = closes_at x.stage x leaving

  there_at : (s : Stage) (x : MemoryClient T) (w : Want) → wanted k (state_at s x) ≡ Some w → (s ≡ stage.There) × (unless_ended x.end_cause (k.wants x.talk) ≡ Some w)
  there_at stage.Awaited x w is = cc
  there_at stage.There x w is = (refl, is)
  there_at stage.Gone x w is = cc

  -- a client that wants something is there, and its connection has not ended
  pub who_wants : (x : MemoryClient T) (w : Want) → wanted k (state_of x) ≡ Some w → (x.stage ≡ stage.There) × (x.end_cause ≡ None) × (k.wants x.talk ≡ w)
  who_wants x w is =
      let it = there_at x.stage x w is in
      (it.0, none_wanted x.end_cause (k.wants x.talk) w it.1, the_wanted x.end_cause (k.wants x.talk) w it.1)

  pub is_wanted : (x : MemoryClient T) → x.stage ≡ stage.There → x.end_cause ≡ None → wanted k (state_of x) ≡ Some (k.wants x.talk)
  is_wanted x there none =
      subst (λ (s : Stage). wanted k (state_at s x) ≡ Some (k.wants x.talk)) (sym there) (subst (λ (o : Option EndCause). unless_ended o (k.wants x.talk) ≡ Some (k.wants x.talk)) (sym none) refl)

  cause_kept : (w : EndCause) (x : MemoryClient T) (o : Option EndCause) → HasCause k w (conversation_of x) → HasCause k w (state x.talk x.held.items x.said.items o)
  cause_kept end_cause.Input x o is = is
  cause_kept end_cause.Finished x o is = is
  cause_kept end_cause.Failed x o is = is
  cause_kept end_cause.Limit x o is = is
  cause_kept end_cause.Memory x o is = is
  cause_kept end_cause.Stopped x o is = is
  cause_kept end_cause.HeldTheLock x o is = is
  cause_kept end_cause.RoleDropped x o is = is

  pub leaves : (x y : MemoryClient T) (w : EndCause) → y.stage ≡ stage.There → y.end_cause ≡ Some w → y.talk ≡ x.talk → y.held.items ≡ x.held.items → y.said.items ≡ x.said.items → HasCause k w (conversation_of x) → IsOwnCause w → HasWish k (wish.Left w) (state_of y)
  leaves x y w there is talk held said cause own =
      let here : HasCause k w (conversation_of y) = rw (talk, held, said) (cause_kept w x y.end_cause cause) in
      subst (λ (s : Stage). HasWish k (wish.Left w) (state_at s y)) (sym there) (is, (w, is, here), own)
