-- Where each client is, before and after something was done.
use Rattle.std.proofs.Common.{Bor, Result, Ok, Err, OnOk, OnErr, ◌≡◌, ◌≢◌, ◌⊎◌, inl, inr, ◌∙◌, ◌+◌, ◌<◌, ◌≤◌, ◌==◌, ℕ, Bool, true, false, nat_lt, List, [], ◌∷◌, ◌++◌, length, Option, Some, None, IsSome, IfSome, if◌then◌else◌, refl, ap, sym, subst, arith}
use Rattle.std.proofs.lemmas.Bool.{eqb-true, eqb-false, ne_eqb, eq-eqb, ltb-true, ltb-false, lt-ltb, le-ltb}
use Rattle.std.specs.Map.{lookup}
use Rattle.std.specs.Option.{option_copied}
use Rattle.std.specs.Prelude.{nat_eq}
use Rattle.std.specs.Result.{is_ok}
use Rattle.channels.specs.declared.channel.Channel.{Ghosts as ChannelGhosts}
use Rattle.channels.specs.Channels.{NamedBytes, KeepsAll, KeepsOthers}
use Rattle.talks.specs.declared.talk.Talk.{Ghosts}
use Rattle.talks.specs.declared.talk.MessageFront.TheVariants.{Whole, Bad}
use Rattle.talks.specs.declared.want.Want.{Want}
use Rattle.talks.specs.declared.clients.EndCause.{EndCause}
use Rattle.talks.specs.Wants.{Learnt, learnt, own, FitsWant}
use Rattle.talks.specs.declared.want.Reply.{Reply}
use Rattle.talks.specs.Conversations.{Conversation, Continues, ClientState, awaited, there, gone, IsGone, IsNew, IsAwaited, HasEnded, Passes, wanted, unless_ended}
use Rattle.talks.specs.Clients.{NoneGoes, GoesAlone, AllCame, NobodyIsThere, Moved, IsLeaving}
use Rattle.talks.proofs.Passing.{passes_stay, passes_on}
use Rattle.polled_clients.proofs.Steps.{continues_stay}
use Rattle.polled_clients.specs.declared.peer.Peer.{Peer}
use Rattle.polled_clients.specs.Peers.{conversation_of, Goes}
use Rattle.polled_clients.specs.declared.need.EndOrder.{EndOrder}
use Rattle.polled_clients.specs.declared.need.Need.{Need}
use Rattle.polled_clients.specs.declared.need.Need.TheVariants as need
use Rattle.polled_clients.specs.ClientStates.{state_of, state_at, GoesOn, Learns, HasNeedHere, HasNeedAt}

-- what holds of one and of all others
pub each : (P : ℕ → Type 0) (client : ℕ) → P client → ((c : ℕ) → c ≢ client → P c) → (c : ℕ) → P c
each P client here others c = by (client == c) refl
  where
    by : (b : Bool) → (client == c) ≡ b → P c
    by true is = subst P (eqb-true client c is) here
    by false is = others c (λ same. eqb-false client c is (sym same))

pub own_other : (client c : ℕ) (x : Learnt) → c ≢ client → own client c x ≡ []
own_other client c x other = rw (ne_eqb client c (λ same. other (sym same))) refl

pub own_self : (client : ℕ) (x : Learnt) → own client client x ≡ x ∷ []
own_self client x = rw (eq-eqb client client refl) refl

none_wanted : (o : Option EndCause) (v w : Want) → unless_ended o v ≡ Some w → o ≡ None
none_wanted None v w is = refl
none_wanted (Some x) v w is = cc

the_wanted : (o : Option EndCause) (v w : Want) → unless_ended o v ≡ Some w → v ≡ w
the_wanted None v w is = cc
the_wanted (Some x) v w is = cc

-- a call's promise, where it is known how it went
pub when_ok : {A E : Type 0} (r : Result A E) (P : Type 0) → is_ok r ≡ true → OnOk r P → P
when_ok (Ok x) P ok it = it
when_ok (Err e) P ok it = cc

pub when_err : {A E : Type 0} (r : Result A E) (P : Type 0) → is_ok r ≡ false → OnErr r P → P
when_err (Ok x) P err it = cc
when_err (Err e) P err it = it

-- what was found is lent
pub lent : {X : Type 0} (o : Option (Bor X)) (p : Option X) → option_copied o ≡ p → IsSome p → IsSome o
lent {X = X} None p same some = subst (λ (q : Option X). IsSome q) (sym same) some
lent (Some x) p same some = refl

-- the same entries have the same at each key
pub found_same : {X : Type 0} (es fs : List (ℕ × X)) → fs ≡ es → (c : ℕ) → lookup (nat_eq c) fs ≡ lookup (nat_eq c) es
found_same es fs same c = ap (lookup (nat_eq c)) same

module _ {T C : Type 0} (t : Ghosts T) (k : ChannelGhosts C) where
  abbrev at_if : Bool → Option (Peer T C) → NamedBytes → NamedBytes → ClientState T
  at_if b p closed coming = if b then state_of k p closed else awaited coming

  -- ---- the conversations that are made

  -- by the same maker the same are made
  pub moved_by : {F : Type 0} (makes : F → T → Type 0) (m n : F) (p q : ℕ → ClientState T) → n ≡ m → Moved t (makes n) p q → Moved t (makes m) p q
  moved_by {F} makes m n p q same moved = subst (λ (x : F). Moved t (makes x) p q) same moved

  -- who comes with a conversation that is made, comes so
  pub made_so : (made : T → Type 0) (talk : T) (bytes : NamedBytes) (x : Conversation T) → made talk → IsNew t (λ u. u ≡ talk) bytes x → IsNew t made bytes x
  made_so made talk bytes x is new = record {
    starts = new.starts;
    is_made = subst made (sym new.is_made) is;
    held = new.held;
    remaining = new.remaining;
    sent = new.sent;
    unsent = new.unsent;
    failures = new.failures;
    end_cause = new.end_cause;
  }

  -- ---- one place

  passes_if : (made : T → Type 0) (b : Bool) (p q : Option (Peer T C)) (closed coming : NamedBytes) → GoesOn t k p [] q → Passes t made (at_if b p closed coming) [] (at_if b q closed coming)
  passes_if made true None q closed coming goes = rw (goes) (refl, refl)
  passes_if made true (Some x) None closed coming goes = absurd goes
  passes_if made true (Some x) (Some y) closed coming goes = goes
  passes_if made false p q closed coming goes = (refl, refl)

  gone_if : (b : Bool) (p q : Option (Peer T C)) (closed coming : NamedBytes) → GoesOn t k p [] q → IsGone (at_if b q closed coming) → IsGone (at_if b p closed coming)
  gone_if true None q closed coming goes is = tt
  gone_if true (Some x) None closed coming goes is = absurd goes
  gone_if true (Some x) (Some y) closed coming goes is = absurd is
  gone_if false p q closed coming goes is = absurd is

  -- who wants something is there, and its connection has not ended
  wants_if : (b : Bool) (p : Option (Peer T C)) (closed coming : NamedBytes) (w : Want) → wanted t (at_if b p closed coming) ≡ Some w
      → (x : Peer T C) × (p ≡ Some x) × (b ≡ true) × (x.end_cause ≡ None) × (t.wants x.talk ≡ w)
  wants_if true None closed coming w is = cc
  wants_if true (Some x) closed coming w is = (x, refl, refl, none_wanted x.end_cause (t.wants x.talk) w is, the_wanted x.end_cause (t.wants x.talk) w is)
  wants_if false p closed coming w is = cc

  pub who_wants : (came c : ℕ) (p : Option (Peer T C)) (closed coming : NamedBytes) (w : Want) → wanted t (state_at k came c p closed coming) ≡ Some w
      → (x : Peer T C) × (p ≡ Some x) × (nat_lt c came ≡ true) × (x.end_cause ≡ None) × (t.wants x.talk ≡ w)
  who_wants came c p closed coming w is = wants_if (nat_lt c came) p closed coming w is

  -- so it is one of those that are there, and may learn what fits
  runs : (p : Option (Peer T C)) (x : Peer T C) → p ≡ Some x → x.end_cause ≡ None → IfSome p (λ y. y.end_cause ≡ None)
  runs p x here none = subst (λ (o : Option (Peer T C)). IfSome o (λ y. y.end_cause ≡ None)) (sym here) none

  pub may_give_up : (came c : ℕ) (p : Option (Peer T C)) (closed coming : NamedBytes) (w : Want) → wanted t (state_at k came c p closed coming) ≡ Some w → IfSome p (λ y. y.end_cause ≡ None)
  may_give_up came c p closed coming w is =
      let it = who_wants came c p closed coming w is in
      runs p it.0 it.1 it.3

  pub may_learn : (came c : ℕ) (p : Option (Peer T C)) (closed coming : NamedBytes) (w : Want) (r : Reply) → wanted t (state_at k came c p closed coming) ≡ Some w → FitsWant w r
      → IfSome p (λ y. (y.end_cause ≡ None) × FitsWant (t.wants y.talk) r)
  may_learn came c p closed coming w r is fits =
      let it = who_wants came c p closed coming w is in
      subst (λ (o : Option (Peer T C)). IfSome o (λ y. (y.end_cause ≡ None) × FitsWant (t.wants y.talk) r)) (sym it.1) (it.3, subst (λ (v : Want). FitsWant v r) (sym it.4) fits)

  pub who_wants_is_there : (came c : ℕ) (p : Option (Peer T C)) (closed coming : NamedBytes) (w : Want) → wanted t (state_at k came c p closed coming) ≡ Some w → IsSome p
  who_wants_is_there came c p closed coming w is =
      let it = who_wants came c p closed coming w is in
      subst (λ (o : Option (Peer T C)). IsSome o) (sym it.1) refl

  -- what it wants is seen of it
  pub is_wanted : (came c : ℕ) (p : Option (Peer T C)) (closed coming : NamedBytes) (w : Want) (y : Peer T C) → wanted t (state_at k came c p closed coming) ≡ Some w → p ≡ Some y
      → wanted t (state_at k came c p closed coming) ≡ Some (t.wants y.talk)
  is_wanted came c p closed coming w y is here =
      let it = who_wants came c p closed coming w is in
      let same : it.0 ≡ y = cc in
      is ∙ ap (λ (v : Want). Some v) (sym it.4 ∙ ap (λ (z : Peer T C). t.wants z.talk) same)

  wants_still_if : (b : Bool) (p q : Option (Peer T C)) (closed coming : NamedBytes) (v w : Want) → wanted t (at_if b p closed coming) ≡ Some v → GoesOn t k p [] q → IfSome q (λ y. unless_ended y.end_cause (t.wants y.talk) ≡ Some w)
      → wanted t (at_if b q closed coming) ≡ Some w
  wants_still_if true None q closed coming v w is goes wants = cc
  wants_still_if true (Some x) None closed coming v w is goes wants = absurd goes
  wants_still_if true (Some x) (Some y) closed coming v w is goes wants = wants
  wants_still_if false p q closed coming v w is goes wants = cc

  pub wants_still : (came c : ℕ) (p q : Option (Peer T C)) (closed coming : NamedBytes) (v w : Want) → wanted t (state_at k came c p closed coming) ≡ Some v → GoesOn t k p [] q
      → IfSome q (λ y. unless_ended y.end_cause (t.wants y.talk) ≡ Some w) → wanted t (state_at k came c q closed coming) ≡ Some w
  wants_still came c p q closed coming v w is goes wants = wants_still_if (nat_lt c came) p q closed coming v w is goes wants

  learns_if : (made : T → Type 0) (b : Bool) (p q : Option (Peer T C)) (closed coming : NamedBytes) (w : Want) (r : Reply) → wanted t (at_if b p closed coming) ≡ Some w → Learns t k p r q
      → Passes t made (at_if b p closed coming) (learnt w r ∷ []) (at_if b q closed coming)
  learns_if made true None q closed coming w r is learns = cc
  learns_if made true (Some x) None closed coming w r is learns = absurd learns
  learns_if made true (Some x) (Some y) closed coming w r is learns = subst (λ (v : Want). Goes t k x (learnt v r ∷ []) y) (the_wanted x.end_cause (t.wants x.talk) w is) learns
  learns_if made false p q closed coming w r is learns = cc

  pub learns_at : (made : T → Type 0) (came c : ℕ) (p q : Option (Peer T C)) (closed coming : NamedBytes) (w : Want) (r : Reply) → wanted t (state_at k came c p closed coming) ≡ Some w → Learns t k p r q
      → Passes t made (state_at k came c p closed coming) (learnt w r ∷ []) (state_at k came c q closed coming)
  learns_at made came c p q closed coming w r is learns = learns_if made (nat_lt c came) p q closed coming w r is learns

  learns_gone_if : (b : Bool) (p q : Option (Peer T C)) (closed coming : NamedBytes) (r : Reply) → Learns t k p r q → IsGone (at_if b q closed coming) → IsGone (at_if b p closed coming)
  learns_gone_if true None q closed coming r learns is = tt
  learns_gone_if true (Some x) None closed coming r learns is = absurd learns
  learns_gone_if true (Some x) (Some y) closed coming r learns is = absurd is
  learns_gone_if false p q closed coming r learns is = absurd is

  went_if : (b : Bool) (p : Option (Peer T C)) (closed coming sent : NamedBytes) → at_if b p closed coming ≡ gone sent → closed ≡ sent
  went_if true None closed coming sent is = cc
  went_if true (Some x) closed coming sent is = cc
  went_if false p closed coming sent is = cc

  -- what had gone out to who has gone
  pub who_went : (came c : ℕ) (p : Option (Peer T C)) (closed coming sent : NamedBytes) → state_at k came c p closed coming ≡ gone sent → closed ≡ sent
  who_went came c p closed coming sent is = went_if (nat_lt c came) p closed coming sent is

  leaves_if : (b : Bool) (p : Option (Peer T C)) (closed coming : NamedBytes) → IsLeaving t (at_if b p closed coming) → (x : Peer T C) × (p ≡ Some x) × (b ≡ true) × HasEnded t (conversation_of k x)
  leaves_if true None closed coming is = absurd is
  leaves_if true (Some x) closed coming is = (x, refl, refl, is)
  leaves_if false p closed coming is = absurd is

  pub who_leaves : (came c : ℕ) (p : Option (Peer T C)) (closed coming : NamedBytes) → IsLeaving t (state_at k came c p closed coming)
      → (x : Peer T C) × (p ≡ Some x) × (nat_lt c came ≡ true) × HasEnded t (conversation_of k x)
  who_leaves came c p closed coming is = leaves_if (nat_lt c came) p closed coming is

  pub is_there : (came c : ℕ) (p : Option (Peer T C)) (closed coming : NamedBytes) → IsLeaving t (state_at k came c p closed coming) → IsSome p
  is_there came c p closed coming is =
      let it = who_leaves came c p closed coming is in
      subst (λ (o : Option (Peer T C)). IsSome o) (sym it.1) refl

  pub has_come : (came c : ℕ) (p : Option (Peer T C)) (closed coming : NamedBytes) → IsLeaving t (state_at k came c p closed coming) → nat_lt c came ≡ true
  has_come came c p closed coming is = (who_leaves came c p closed coming is).2

  pub has_ended : (came c : ℕ) (p : Option (Peer T C)) (closed coming : NamedBytes) (y : Peer T C) → IsLeaving t (state_at k came c p closed coming) → p ≡ Some y → HasEnded t (conversation_of k y)
  has_ended came c p closed coming y is here =
      let it = who_leaves came c p closed coming is in
      let same : it.0 ≡ y = cc in
      subst (λ (z : Peer T C). HasEnded t (conversation_of k z)) same it.3

  -- who has come, and is not there, has gone
  pub is_gone : (came c : ℕ) (p : Option (Peer T C)) (closed coming : NamedBytes) → nat_lt c came ≡ true → p ≡ None → IsGone (state_at k came c p closed coming)
  is_gone came c p closed coming has none = rw (has, none) tt

  need_if : (order : EndOrder) (v : Need) (p : Option (Peer T C)) (closed coming : NamedBytes) → HasNeedHere t k order v p → HasNeedAt t order v (at_if true p closed coming)
  need_if order v None closed coming has = rw (has) tt
  need_if order need.Nothing (Some x) closed coming has = tt
  need_if order need.Step (Some x) closed coming has = has
  need_if order need.Question (Some x) closed coming has = has
  need_if order (need.Left w) (Some x) closed coming has = (has.0, (w, has.0, has.1.0), has.1.1, has.1.2, has.1.4)

  pub need_at : (order : EndOrder) (came c : ℕ) (v : Need) (p : Option (Peer T C)) (closed coming : NamedBytes) → c < came → HasNeedHere t k order v p → HasNeedAt t order v (state_at k came c p closed coming)
  need_at order came c v p closed coming less has = subst (λ (b : Bool). HasNeedAt t order v (at_if b p closed coming)) (sym (lt-ltb c came less)) (need_if order v p closed coming has)

  -- ---- all of them: who they are, what had gone out to those that went, and what they send
  abbrev pub all : ℕ → (ℕ → Option (Peer T C)) → (ℕ → NamedBytes) → (ℕ → NamedBytes) → ℕ → ClientState T
  all came p closed coming c = state_at k came c (p c) (closed c) (coming c)

  is_none_there : (b : Bool) (p : Option (Peer T C)) (closed coming : NamedBytes) → p ≡ None → IsAwaited (at_if b p closed coming) ⊎ IsGone (at_if b p closed coming)
  is_none_there true p closed coming none = rw (none) (inr tt)
  is_none_there false p closed coming none = inl tt

  pub nobody_there : (came : ℕ) (p : ℕ → Option (Peer T C)) (closed coming : ℕ → NamedBytes) → ((c : ℕ) → p c ≡ None) → NobodyIsThere (all came p closed coming)
  nobody_there came p closed coming none = λ c. is_none_there (nat_lt c came) (p c) (closed c) (coming c) (none c)

  pub all_came : (came : ℕ) (p : ℕ → Option (Peer T C)) (closed coming : ℕ → NamedBytes) → ((c : ℕ) → p c ≡ None) → AllCame came (all came p closed coming)
  all_came came p closed coming none = λ c.
      ((λ less. rw (lt-ltb c came less, none c) tt), (λ more. rw (le-ltb c came more) tt))

  -- another is where it was
  pub goes_alone : (came client : ℕ) (p q : ℕ → Option (Peer T C)) (closed coming closed' coming' : ℕ → NamedBytes) → ((c : ℕ) → c ≢ client → q c ≡ p c) → KeepsOthers client closed closed' → KeepsAll coming coming'
      → GoesAlone client (all came p closed coming) (all came q closed' coming')
  goes_alone came client p q closed coming closed' coming' others apart kept = λ c other is.
      let same : all came q closed' coming' c ≡ all came p closed coming c = rw (others c other, apart c other, kept c) refl in
      subst IsGone same is

  module _ (front_more : (t0 : T) (bytes more : List ℕ) (n : ℕ) → t.front t0 bytes ≡ Whole n → (n ≤ length bytes) × (t.front t0 (bytes ++ more) ≡ Whole n))
      (bad_more : (t0 : T) (bytes more : List ℕ) → t.front t0 bytes ≡ Bad → t.front t0 (bytes ++ more) ≡ Bad) where
    -- the conversation with a client is the same
    pub goes_same : (x y : Peer T C) → conversation_of k y ≡ conversation_of k x → Goes t k x [] y
    goes_same x y same = subst (λ (z : Conversation T). Continues t (conversation_of k x) [] z) (sym same) (continues_stay t front_more bad_more (conversation_of k x))

  module _ (front_more : (t0 : T) (bytes more : List ℕ) (n : ℕ) → t.front t0 bytes ≡ Whole n → (n ≤ length bytes) × (t.front t0 (bytes ++ more) ≡ Whole n))
      (bad_more : (t0 : T) (bytes more : List ℕ) → t.front t0 bytes ≡ Bad → t.front t0 (bytes ++ more) ≡ Bad) (made : T → Type 0) where
    pub moved_none : (at : ℕ → ClientState T) → Moved t made at at
    moved_none at = record { passed = λ c. passes_stay t front_more bad_more made (at c); gone = λ c is. is }

    pub moved_on : (p q r : ℕ → ClientState T) → Moved t made p q → Moved t made q r → Moved t made p r
    moved_on p q r first next = record {
      passed = λ c. passes_on t front_more bad_more made (p c) (q c) (r c) [] [] (first.passed c) (next.passed c);
      gone = λ c is. first.gone c (next.gone c is);
    }

    -- the same places, told one by one
    pub moved_same : (p q : ℕ → ClientState T) → ((c : ℕ) → q c ≡ p c) → Moved t made p q
    moved_same p q same = record {
      passed = λ c. subst (λ (l : ClientState T). Passes t made (p c) [] l) (sym (same c)) (passes_stay t front_more bad_more made (p c));
      gone = λ c is. subst IsGone (same c) is;
    }

    -- one client went on
    pub moved_one : (came client : ℕ) (p q : ℕ → Option (Peer T C)) (closed coming : ℕ → NamedBytes) → GoesOn t k (p client) [] (q client) → ((c : ℕ) → c ≢ client → q c ≡ p c)
        → Moved t made (all came p closed coming) (all came q closed coming)
    moved_one came client p q closed coming goes others = record {
      passed = each (λ c. Passes t made (all came p closed coming c) [] (all came q closed coming c)) client (passes_if made (nat_lt client came) (p client) (q client) (closed client) (coming client) goes)
          (λ c other. subst (λ (o : Option (Peer T C)). Passes t made (all came p closed coming c) [] (state_at k came c o (closed c) (coming c))) (sym (others c other)) (passes_stay t front_more bad_more made (all came p closed coming c)));
      gone = each (λ c. IsGone (all came q closed coming c) → IsGone (all came p closed coming c)) client (gone_if (nat_lt client came) (p client) (q client) (closed client) (coming client) goes)
          (λ c other is. subst (λ (o : Option (Peer T C)). IsGone (state_at k came c o (closed c) (coming c))) (others c other) is);
    }

    -- nothing was done to a client
    pub kept_all : (came : ℕ) (p : ℕ → Option (Peer T C)) (closed coming closed' coming' : ℕ → NamedBytes) → KeepsAll closed closed' → KeepsAll coming coming' → (c : ℕ) → all came p closed' coming' c ≡ all came p closed coming c
    kept_all came p closed coming closed' coming' a b c = rw (a c, b c) refl

    pub moved_kept : (came : ℕ) (p : ℕ → Option (Peer T C)) (closed coming closed' coming' : ℕ → NamedBytes) → KeepsAll closed closed' → KeepsAll coming coming' → Moved t made (all came p closed coming) (all came p closed' coming')
    moved_kept came p closed coming closed' coming' a b = moved_same (all came p closed coming) (all came p closed' coming') (kept_all came p closed coming closed' coming' a b)

    pub moved_unchanged : (came : ℕ) (p q : ℕ → Option (Peer T C)) (closed coming : ℕ → NamedBytes) → ((c : ℕ) → q c ≡ p c) → Moved t made (all came p closed coming) (all came q closed coming)
    moved_unchanged came p q closed coming same = moved_same (all came p closed coming) (all came q closed coming) (λ c. rw (same c) refl)

    -- one learnt what it wanted
    pub taught : (came client : ℕ) (p q : ℕ → Option (Peer T C)) (closed coming : ℕ → NamedBytes) (w : Want) (r : Reply) → wanted t (all came p closed coming client) ≡ Some w → Learns t k (p client) r (q client) → ((c : ℕ) → c ≢ client → q c ≡ p c)
        → (c : ℕ) → Passes t made (all came p closed coming c) (own client c (learnt w r)) (all came q closed coming c)
    taught came client p q closed coming w r is learns others =
        each (λ c. Passes t made (all came p closed coming c) (own client c (learnt w r)) (all came q closed coming c)) client
        (subst (λ (xs : List Learnt). Passes t made (all came p closed coming client) xs (all came q closed coming client)) (sym (own_self client (learnt w r))) (learns_if made (nat_lt client came) (p client) (q client) (closed client) (coming client) w r is learns))
        (λ c other.
        subst (λ (xs : List Learnt). Passes t made (all came p closed coming c) xs (all came q closed coming c)) (sym (own_other client c (learnt w r) other))
        (subst (λ (o : Option (Peer T C)). Passes t made (all came p closed coming c) [] (state_at k came c o (closed c) (coming c))) (sym (others c other)) (passes_stay t front_more bad_more made (all came p closed coming c))))

    pub none_goes : (came client : ℕ) (p q : ℕ → Option (Peer T C)) (closed coming : ℕ → NamedBytes) (r : Reply) → Learns t k (p client) r (q client) → ((c : ℕ) → c ≢ client → q c ≡ p c) → NoneGoes (all came p closed coming) (all came q closed coming)
    none_goes came client p q closed coming r learns others =
        each (λ c. IsGone (all came q closed coming c) → IsGone (all came p closed coming c)) client (learns_gone_if (nat_lt client came) (p client) (q client) (closed client) (coming client) r learns)
        (λ c other is. subst (λ (o : Option (Peer T C)). IsGone (state_at k came c o (closed c) (coming c))) (others c other) is)

    -- one came
    below : (came c : ℕ) → c ≢ came → nat_lt c (came + 1) ≡ nat_lt c came
    below came c other = by (nat_lt c came) refl
      where
        by : (b : Bool) → nat_lt c came ≡ b → nat_lt c (came + 1) ≡ b
        by true is = lt-ltb c (came + 1) (omega (arith, ltb-true c came is))
        by false is = le-ltb c (came + 1) (omega (arith, other, ltb-false c came is))

    pub one_came : (came : ℕ) (p q : ℕ → Option (Peer T C)) (closed coming : ℕ → NamedBytes) (y : Peer T C) → q came ≡ Some y → IsNew t made (coming came) (conversation_of k y) → ((c : ℕ) → c ≢ came → q c ≡ p c)
        → Moved t made (all came p closed coming) (all (came + 1) q closed coming)
    one_came came p q closed coming y here new others =
        let awaits : all came p closed coming came ≡ awaited (coming came) = rw (le-ltb came came (omega arith)) refl in
        let comes : all (came + 1) q closed coming came ≡ there (conversation_of k y) = rw (lt-ltb came (came + 1) (omega arith), here) refl in
        let same : (c : ℕ) → c ≢ came → all (came + 1) q closed coming c ≡ all came p closed coming c = λ c other. rw (below came c other, others c other) refl in
        record {
          passed = each (λ c. Passes t made (all came p closed coming c) [] (all (came + 1) q closed coming c)) came
              (subst (λ (a : ClientState T). Passes t made a [] (all (came + 1) q closed coming came)) (sym awaits)
              (subst (λ (b : ClientState T). Passes t made (awaited (coming came)) [] b) (sym comes) (conversation_of k y, new, continues_stay t front_more bad_more (conversation_of k y))))
              (λ c other. subst (λ (b : ClientState T). Passes t made (all came p closed coming c) [] b) (sym (same c other)) (passes_stay t front_more bad_more made (all came p closed coming c)));
          gone = each (λ c. IsGone (all (came + 1) q closed coming c) → IsGone (all came p closed coming c)) came (λ is. absurd (subst IsGone comes is)) (λ c other is. subst IsGone (same c other) is);
        }

    -- one went
    pub one_went : (came client : ℕ) (p q : ℕ → Option (Peer T C)) (closed coming closed' coming' : ℕ → NamedBytes) (x : Peer T C) → p client ≡ Some x → nat_lt client came ≡ true → HasEnded t (conversation_of k x) → q client ≡ None
        → closed' client ≡ k.taken x.channel → ((c : ℕ) → c ≢ client → q c ≡ p c) → KeepsOthers client closed closed' → KeepsAll coming coming' → (c : ℕ) → Passes t made (all came p closed coming c) [] (all came q closed' coming' c)
    one_went came client p q closed coming closed' coming' x here has ended none went others apart kept =
        let was : all came p closed coming client ≡ there (conversation_of k x) = rw (has, here) refl in
        let is : all came q closed' coming' client ≡ gone (k.taken x.channel) = rw (has, none, went) refl in
        let same : (c : ℕ) → c ≢ client → all came q closed' coming' c ≡ all came p closed coming c = λ c other. rw (others c other, apart c other, kept c) refl in
        each (λ c. Passes t made (all came p closed coming c) [] (all came q closed' coming' c)) client
        (subst (λ (a : ClientState T). Passes t made a [] (all came q closed' coming' client)) (sym was)
        (subst (λ (b : ClientState T). Passes t made (there (conversation_of k x)) [] b) (sym is) (conversation_of k x, continues_stay t front_more bad_more (conversation_of k x), ended, refl)))
        (λ c other. subst (λ (b : ClientState T). Passes t made (all came p closed coming c) [] b) (sym (same c other)) (passes_stay t front_more bad_more made (all came p closed coming c)))
