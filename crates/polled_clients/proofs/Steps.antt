-- What one client does at once.
use Rattle.std.proofs.Common.{◌≡◌, ◌⊎◌, inl, inr, ◌∙◌, ◌≤◌, ℕ, List, [], ◌∷◌, ◌++◌, take, drop, length, Option, Some, None, refl, ap, sym, subst}
use Rattle.std.proofs.lemmas.List.{append-nil, append_assoc}
use Rattle.std.proofs.KnownBytes.{Consumes-nil, Consumes-kept, Appends-nil, Appends-kept, Keeps-refl, append_known-grown}
use Rattle.std.specs.Io.KnownBytes.{append_known, Appends, Consumes, Keeps}
use Rattle.channels.specs.Channels.{IsReceived}
use Rattle.channels.specs.declared.channel.Received.{Received}
use Rattle.channels.specs.declared.channel.Received.TheVariants as reads
use Rattle.talks.specs.declared.talk.Talk.{Ghosts}
use Rattle.talks.specs.declared.talk.MessageFront.TheVariants.{Whole, Bad}
use Rattle.talks.specs.declared.want.Want.TheVariants as want
use Rattle.talks.specs.declared.clients.EndCause.{EndCause}
use Rattle.talks.specs.declared.clients.EndCause.TheVariants as end_cause
use Rattle.talks.specs.Wants.{Learnt, FitsWant}
use Rattle.talks.specs.Conversations.{Heard, stays, hears, rejects, learns, loses, breaks, Conversation, there, told, Continues, EndsOnce, HasCause}
use Rattle.talks.proofs.Passing.{passes_stay, passes_on}

pub ends_none : (a b : Option EndCause) (xs : List Learnt) → a ≡ None → EndsOnce a xs b
ends_none a b xs is = subst (λ (o : Option EndCause). EndsOnce o xs b) (sym is) tt

pub ends_stay : (a : Option EndCause) → EndsOnce a [] a
ends_stay None = tt
ends_stay (Some w) = (refl, refl)

-- what has been said goes last
pub said_last : (a old new said : List ℕ) → new ≡ old ++ said → a ++ new ≡ (a ++ old) ++ said
said_last a old new said is = ap (λ (l : List ℕ). a ++ l) is ∙ sym (append_assoc a old said)

pub nothing_said : (a old new : List ℕ) → new ≡ old → a ++ new ≡ (a ++ old) ++ []
nothing_said a old new is = ap (λ (l : List ℕ). a ++ l) is ∙ sym (append-nil (a ++ old))

module _ {T : Type 0} (k : Ghosts T) where
  one : (t u : T) (bytes said rest : List ℕ) (xs : List Learnt) → Heard k t bytes xs (said ++ []) rest u → Heard k t bytes xs said rest u
  one t u bytes said rest xs heard = subst (λ (s : List ℕ). Heard k t bytes xs s rest u) (append-nil said) heard

  pub heard_nothing : (t u : T) (bytes rest : List ℕ) → u ≡ t → rest ≡ bytes → Heard k t bytes [] [] rest u
  heard_nothing t u bytes rest same left =
      subst (λ (v : T). Heard k t bytes [] [] rest v) (sym same) (subst (λ (b : List ℕ). Heard k t bytes [] [] b t) (sym left) stays)

  pub heard_message : (t u : T) (bytes said rest : List ℕ) (n : ℕ) → k.wants t ≡ want.Message → k.front t bytes ≡ Whole n → k.hears t (take n bytes) said u → rest ≡ drop n bytes → Heard k t bytes [] said rest u
  heard_message t u bytes said rest n wants front says left =
      subst (λ (b : List ℕ). Heard k t bytes [] said b u) (sym left) (one t u bytes said (drop n bytes) [] (hears n wants front says stays))

  pub heard_bad : (t u : T) (bytes said : List ℕ) → k.wants t ≡ want.Message → k.front t bytes ≡ Bad → k.rejects t said u → Heard k t bytes [] said bytes u
  heard_bad t u bytes said wants front says = one t u bytes said bytes [] (rejects wants front says stays)

  pub heard_broken : (t u : T) (bytes : List ℕ) → k.wants u ≡ want.OutOfMemory → Heard k t bytes [] [] bytes u
  heard_broken t u bytes end = breaks end stays

  pub heard_broken_at : (t u : T) (bytes rest : List ℕ) → k.wants u ≡ want.OutOfMemory → rest ≡ bytes → Heard k t bytes [] [] rest u
  heard_broken_at t u bytes rest end left = subst (λ (b : List ℕ). Heard k t bytes [] [] b u) (sym left) (breaks end stays)

  pub heard_reply : (t u : T) (bytes said : List ℕ) (x : Learnt) → k.wants t ≡ x.want → FitsWant x.want x.reply → k.learns t x.reply said u → Heard k t bytes (x ∷ []) said bytes u
  heard_reply t u bytes said x wants fits says = one t u bytes said bytes (x ∷ []) (learns x wants fits says stays)

  pub heard_lost : (t u : T) (bytes : List ℕ) (x : Learnt) → k.wants t ≡ x.want → FitsWant x.want x.reply → k.wants u ≡ want.OutOfMemory → Heard k t bytes (x ∷ []) [] bytes u
  heard_lost t u bytes x wants fits end = loses x wants fits end stays

  -- nothing was heard, whatever has gone out
  pub quiet : (x y : Conversation T) → y.talk ≡ x.talk → y.held ≡ x.held → Keeps x.remaining y.remaining → Keeps (told x) (told y) → y.limited ≡ x.limited → EndsOnce x.end_cause [] y.end_cause → Continues k x [] y
  quiet x y talk held remaining keeps limited ends = (
    [],
    [],
    Consumes-kept x.remaining x.remaining y.remaining [] (Consumes-nil x.remaining) remaining,
    heard_nothing x.talk y.talk (x.held ++ []) y.held talk (held ∙ sym (append-nil x.held)),
    Appends-kept (told x) (told x) (told y) [] (Appends-nil (told x)) keeps,
    limited,
    ends,
  )

  -- bytes came, and were not heard yet
  pub received : (x y : Conversation T) (piece : List ℕ) → y.talk ≡ x.talk → y.held ≡ x.held ++ piece → Consumes x.remaining y.remaining piece → told y ≡ told x → y.limited ≡ x.limited → EndsOnce x.end_cause [] y.end_cause → Continues k x [] y
  received x y piece talk held consumes same limited ends = (
    piece,
    [],
    consumes,
    heard_nothing x.talk y.talk (x.held ++ piece) y.held talk held,
    subst (λ (o : Option (List ℕ)). Appends (told x) o []) (sym same) (Appends-nil (told x)),
    limited,
    ends,
  )

  spoke : (x y : Conversation T) (said : List ℕ) → y.sent ≡ x.sent → y.unsent ≡ x.unsent ++ said → Appends (told x) (told y) said
  spoke x y said sent unsent =
      subst (λ (o : Option (List ℕ)). Appends (told x) (append_known o y.unsent) said) (sym sent) (append_known-grown (told x) x.sent x.unsent y.unsent said (Keeps-refl (told x)) unsent)

  -- bytes that had come were heard, or something was learnt
  pub talked : (x y : Conversation T) (xs : List Learnt) (said : List ℕ) → Heard k x.talk x.held xs said y.held y.talk → y.remaining ≡ x.remaining → y.sent ≡ x.sent → y.unsent ≡ x.unsent ++ said → y.limited ≡ x.limited → EndsOnce x.end_cause xs y.end_cause
      → Continues k x xs y
  talked x y xs said heard remaining sent unsent limited ends = (
    [],
    said,
    subst (λ (o : Option (List ℕ)). Consumes x.remaining o []) (sym remaining) (Consumes-nil x.remaining),
    subst (λ (b : List ℕ). Heard k x.talk b xs said y.held y.talk) (sym (append-nil x.held)) heard,
    spoke x y said sent unsent,
    limited,
    ends,
  )

  -- a cause stays one where only the reason is noted
  pub cause_kept : (w : EndCause) (x : Conversation T) (o : Option EndCause) → HasCause k w x → HasCause k w (record x { end_cause = o })
  cause_kept end_cause.Input x o is = is
  cause_kept end_cause.Finished x o is = is
  cause_kept end_cause.Failed x o is = is
  cause_kept end_cause.Limit x o is = is
  cause_kept end_cause.Memory x o is = is
  cause_kept end_cause.Stopped x o is = is
  cause_kept end_cause.HeldTheLock x o is = is
  cause_kept end_cause.RoleDropped x o is = is

-- no bytes came, for whatever reason
pub none_came : (old new : Option (List ℕ)) (r : Received) (buffer : List ℕ) → (r ≡ reads.Nothing) ⊎ ((r ≡ reads.End) ⊎ (r ≡ reads.Failed)) → IsReceived old new r buffer → Keeps old new
none_came old new r buffer (inl is) got = subst (λ (r : Received). IsReceived old new r buffer) is got
none_came old new r buffer (inr (inl is)) got = subst (λ (r : Received). IsReceived old new r buffer) is got
none_came old new r buffer (inr (inr is)) got = subst (λ (r : Received). IsReceived old new r buffer) is got

pub keeps_same : (a b : Option (List ℕ)) → b ≡ a → Keeps a b
keeps_same a b is = subst (λ (o : Option (List ℕ)). Keeps a o) (sym is) (Keeps-refl a)

module _ {T : Type 0} (k : Ghosts T)
    (front_more : (t : T) (bytes more : List ℕ) (n : ℕ) → k.front t bytes ≡ Whole n → (n ≤ length bytes) × (k.front t (bytes ++ more) ≡ Whole n))
    (bad_more : (t : T) (bytes more : List ℕ) → k.front t bytes ≡ Bad → k.front t (bytes ++ more) ≡ Bad) where
  -- nothing was done
  pub continues_stay : (x : Conversation T) → Continues k x [] x
  continues_stay x = passes_stay k front_more bad_more (λ u. Unit {0}) (there x)

  -- one thing after the other
  pub continues_on : (x y z : Conversation T) (xs ys : List Learnt) → Continues k x xs y → Continues k y ys z → Continues k x (xs ++ ys) z
  continues_on x y z xs ys first next = passes_on k front_more bad_more (λ u. Unit {0}) (there x) (there y) (there z) xs ys first next
