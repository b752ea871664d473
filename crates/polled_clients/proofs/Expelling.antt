-- Who goes since its role was dropped, and who has lost its role, as it is looked for.
use Rattle.std.proofs.Common.{◌≡◌, ◌⊎◌, ◌∙◌, ◌<◌, ◌≤◌, ◌+◌, inl, inr, ℕ, suc, Bool, true, false, cond, List, [], ◌∷◌, ◌++◌, length, Option, Some, None, IfSome, Bor, if◌then◌else◌, refl, ap, sym, subst, arith}
use Rattle.std.specs.Map.{lookup}
use Rattle.std.specs.Map.Iter.{deref_pair}
use Rattle.std.specs.Option.{option_map}
use Rattle.std.specs.Prelude.{nat_eq, slice_get, is_some}
use Rattle.std.proofs.lemmas.Bool.{eqb-true, eqb-false, lt-ltb}
use Rattle.channels.specs.declared.channel.Channel.{Ghosts as ChannelGhosts}
use Rattle.channels.specs.declared.attend.Attend.{Ghosts as AttendGhosts}
use Rattle.channels.specs.Channels.{NamedBytes}
use Rattle.talks.specs.declared.talk.Talk.{Ghosts}
use Rattle.talks.specs.declared.talk.MessageFront.TheVariants.{Whole, Bad}
use Rattle.talks.specs.declared.clients.Next.{Next}
use Rattle.talks.specs.declared.clients.Next.TheVariants as next
use Rattle.talks.specs.Wants.{HasLostRole}
use Rattle.talks.specs.Conversations.{ClientState, awaited, comes_as}
use Rattle.talks.specs.Clients.{Contention, CutsOff, CutsOffOrExpels, Moved, HasLost, NoneHasLost, ExpelsLost, IsNext}
use Rattle.polled_clients.specs.declared.peer.Peer.{Peer}
use Rattle.polled_clients.specs.declared.lock_watch.LockWatch.{LockWatch}
use Rattle.polled_clients.specs.LockWatches.{contention_of}
use Rattle.polled_clients.specs.declared.clients.PolledClients.{PolledClients}
use Rattle.polled_clients.specs.ClientStates.{state_of, state_at, states, IsLooked, HasLostItsRole}
use Rattle.polled_clients.proofs.Placing.{moved_none, moved_on}

-- ---- who goes

module _ {T C : Type 0} (t : Ghosts T) (k : ChannelGhosts C) where
  pub expels_by : {F : Type 0} (makes : F → T → Type 0) (m n : F) (Has : ℕ → ℕ → List ℕ → Type 0) (Lacks : List ℕ → Type 0) (p q : ℕ → ClientState T) (a b : Option ℕ) → n ≡ m → ExpelsLost t (makes n) Has Lacks p q a b → ExpelsLost t (makes m) Has Lacks p q a b
  expels_by {F} makes m n Has Lacks p q a b same it = subst (λ (x : F). ExpelsLost t (makes x) Has Lacks p q a b) same it

  module _ (front_more : (s : T) (bytes more : List ℕ) (n : ℕ) → t.front s bytes ≡ Whole n → (n ≤ length bytes) × (t.front s (bytes ++ more) ≡ Whole n))
      (bad_more : (s : T) (bytes more : List ℕ) → t.front s bytes ≡ Bad → t.front s (bytes ++ more) ≡ Bad)
      (made : T → Type 0) (Has : ℕ → ℕ → List ℕ → Type 0) (Lacks : List ℕ → Type 0) where
    pub expels_on : (p q r : ℕ → ClientState T) (a b d : Option ℕ) → Moved t made p q → Moved t made q r → ExpelsLost t made Has Lacks p q a b → ExpelsLost t made Has Lacks q r b d → ExpelsLost t made Has Lacks p r a d
    expels_on p q r a b d moved also (inl same) (inl still) = inl (still ∙ same)
    expels_on p q r a b d moved also (inl same) (inr it) =
        inr (sym same ∙ it.0, (it.1.0, it.1.1, (it.1.2.0, moved_on t k front_more bad_more made p q it.1.2.0 moved it.1.2.1, it.1.2.2, it.1.2.3)))
    expels_on p q r a b d moved also (inr it) (inl still) =
        inr (it.0, (it.1.0, still ∙ it.1.1, (it.1.2.0, it.1.2.1, moved_on t k front_more bad_more made it.1.2.0 q r it.1.2.2 also, it.1.2.3)))
    expels_on p q r a b d moved also (inr it) (inr more) = let never : None ≡ Some it.1.0 = sym more.0 ∙ it.1.1 in absurd (cc)

-- a look that only tells anew who goes
pub cut_beside : (a b : LockWatch) (e : Option ℕ) → CutsOff (contention_of a) (contention_of b) → CutsOffOrExpels (contention_of a) (contention_of (record b { expelled = e }))
cut_beside a b e (inl same) = inl (ap (λ (x : Contention). record x { expelled = a.expelled }) same)
cut_beside a b e (inr it) = inr (it.0, (it.1.0, it.1.1, ap (λ (x : Contention). record x { expelled = a.expelled }) it.1.2))

pub expelled_kept : (a b : LockWatch) → CutsOff (contention_of a) (contention_of b) → b.expelled ≡ a.expelled
expelled_kept a b (inl same) = ap (λ (x : Contention). x.expelled) same
expelled_kept a b (inr it) = ap (λ (x : Contention). x.expelled) it.1.2

-- ---- who has lost its role

module _ {T C : Type 0} (t : Ghosts T) (k : ChannelGhosts C) (Has : ℕ → ℕ → List ℕ → Type 0) (Lacks : List ℕ → Type 0) (came c : ℕ) (closed coming : NamedBytes) where
  abbrev at_if : Bool → Option (Peer T C) → ClientState T
  at_if b o = if b then state_of k o closed else awaited coming

  abbrev HasLostAt : ClientState T → Type 0
  HasLostAt s = HasLostRole (Has c) Lacks ⊎ ((role : List ℕ) × (comes_as t s ≡ Some role) × Lacks role)

  pub lost_in : (o : Option (Peer T C)) → HasLostItsRole t Has Lacks came c o → HasLostAt (state_at k came c o closed coming)
  lost_in None is = absurd is
  lost_in (Some x) is = elim is.1 [
    | inl session ↦ inl session
    | inr own ↦ inr (own.0, subst (λ (b : Bool). comes_as t (at_if b (Some x)) ≡ Some own.0) (sym (lt-ltb c came is.0)) own.1, own.2)
  ]

-- ---- one after the other

module _ {X : Type 0} where
  -- a client stands at a place
  abbrev StandsIn : ℕ → List (ℕ × X) → Type 0
  StandsIn c es = (i : ℕ) × (i < length es) × ((e : ℕ × X) × (slice_get es i ≡ Some e) × (e.0 ≡ c))

  placed_if : (b : Bool) (e : ℕ × X) (es : List (ℕ × X)) (c : ℕ) (x : X) → nat_eq c e.0 ≡ b → cond b (Some e.1) (lookup (nat_eq c) es) ≡ Some x → (lookup (nat_eq c) es ≡ Some x → StandsIn c es) → StandsIn c (e ∷ es)
  placed_if true e es c x same found rest = (0, omega arith, (e, refl, sym (eqb-true c e.0 same)))
  placed_if false e es c x other found rest = let it = rest found in let less = it.1 in (suc it.0, omega (arith, less), it.2)

  -- who is there does
  pub placed : (es : List (ℕ × X)) (c : ℕ) (x : X) → lookup (nat_eq c) es ≡ Some x → StandsIn c es
  placed [] c x is = cc
  placed (e ∷ es) c x is = placed_if (nat_eq c e.0) e es c x refl is (λ found. placed es c x found)

  abbrev key_or : Option (ℕ × X) → ℕ
  key_or None = 0
  key_or (Some e) = e.0

  -- what was lent at a place
  pub key_lent : (o : Option (Bor ℕ × Bor X)) (p : Bor ℕ × Bor X) (s : Option (ℕ × X)) (e : ℕ × X) → o ≡ Some p → option_map deref_pair o ≡ s → s ≡ Some e → p.0.now ≡ e.0
  key_lent o p s e is entry found = ap key_or (ap (λ (q : Option (Bor ℕ × Bor X)). option_map deref_pair q) (sym is) ∙ entry ∙ found)

  -- nothing was
  pub none_lent : (o : Option (Bor ℕ × Bor X)) (s : Option (ℕ × X)) (e : ℕ × X) → o ≡ None → option_map deref_pair o ≡ s → s ≡ Some e → ⊥
  none_lent o s e is entry found = let never : None ≡ Some e = ap (λ (q : Option (Bor ℕ × Bor X)). option_map deref_pair q) (sym is) ∙ entry ∙ found in absurd (cc)

  -- none of the first so many is one
  abbrev pub NoneOfFirst : (ℕ → Type 0) → ℕ → List (ℕ × X) → Type 0
  NoneOfFirst Is n es = (i : ℕ) (e : ℕ × X) → i < n → slice_get es i ≡ Some e → Is e.0 → ⊥

  pub none_first : (Is : ℕ → Type 0) (es : List (ℕ × X)) → NoneOfFirst Is 0 es
  none_first Is es i e less found is = absurd (omega (arith, less))

  next_if : (Is : ℕ → Type 0) (n : ℕ) (es : List (ℕ × X)) (i : ℕ) (e : ℕ × X) (b : Bool) → nat_eq i n ≡ b → i < n + 1 → slice_get es i ≡ Some e → Is e.0 → NoneOfFirst Is n es → (slice_get es n ≡ Some e → Is e.0 → ⊥) → ⊥
  next_if Is n es i e true same less found is none last = last (subst (λ (j : ℕ). slice_get es j ≡ Some e) (eqb-true i n same) found) is
  next_if Is n es i e false other less found is none last = let apart = eqb-false i n other in none i e (omega (arith, less, apart)) found is

  pub none_next : (Is : ℕ → Type 0) (n : ℕ) (es : List (ℕ × X)) → NoneOfFirst Is n es → ((e : ℕ × X) → slice_get es n ≡ Some e → Is e.0 → ⊥) → NoneOfFirst Is (n + 1) es
  none_next Is n es none last i e less found is = next_if Is n es i e (nat_eq i n) refl less found is none (last e)

-- ---- what is to be done

module _ {T : Type 0} (t : Ghosts T) (stopped : Bool) (Dropped : Type 0) (Has : ℕ → ℕ → List ℕ → Type 0) (Lacks : List ℕ → Type 0) (at : ℕ → ClientState T) (waiting : List ℕ) (x : Contention) (expected : Option ℕ) (refusals looks : ℕ) where
  abbrev Looked : Next → Type 0
  Looked n = IsLooked t stopped at waiting x expected refusals looks n

  -- where nobody goes, and nobody has lost its role
  pub to_step : (client : ℕ) → Looked (next.Step client) → NoneHasLost t Dropped Has Lacks at → IsNext t stopped Dropped Has Lacks at waiting (record x { expelled = None }) expected refusals looks (next.Step client)
  to_step client looked none = (looked.0, looked.1, looked.2, (looked.3, refl), none)

  pub to_question : (client : ℕ) → Looked (next.Question client) → NoneHasLost t Dropped Has Lacks at → IsNext t stopped Dropped Has Lacks at waiting (record x { expelled = None }) expected refusals looks (next.Question client)
  to_question client looked none = (looked.0, looked.1, looked.2, (looked.3, refl), none)

-- ---- who goes first

module _ {T C : Type 0} (t : Ghosts T) (k : ChannelGhosts C) (Has : ℕ → ℕ → List ℕ → Type 0) (Lacks : List ℕ → Type 0) (came : ℕ) (p : ℕ → Option (Peer T C)) (closed coming : ℕ → NamedBytes) where
  abbrev here : ℕ → ClientState T
  here c = state_at k came c (p c) (closed c) (coming c)

  pub goes_lost : (r expelled : Option ℕ) → expelled ≡ None → IfSome r (λ c. HasLostItsRole t Has Lacks came c (p c)) → (r ≡ expelled) ⊎ ((expelled ≡ None) × ((c : ℕ) × (r ≡ Some c) × HasLost t Has Lacks here c))
  goes_lost None expelled none lost = inl (sym none)
  goes_lost (Some c) expelled none lost = inr (none, (c, refl, lost_in t k Has Lacks came c (closed c) (coming c) (p c) lost))

-- ---- all is as it was, but for whose turn is next and for who goes

-- a client is served
abbrev pub DoesServe : Next → Type 0
DoesServe (next.Step client) = Unit {0}
DoesServe (next.Question client) = Unit {0}
DoesServe (next.Left client w) = ⊥
DoesServe (next.Ended e) = ⊥

module _ {T C A F : Type 0} (k : ChannelGhosts C) (a : AttendGhosts A C) where
  abbrev pub IsSameBut : PolledClients T C A F → PolledClients T C A F → Type 0
  IsSameBut x y = y ≡ record x { turns = y.turns; lock = record x.lock { expelled = y.lock.expelled } }

  pub same_maker : (x y : PolledClients T C A F) → IsSameBut x y → y.maker ≡ x.maker
  same_maker x y same = ap (λ (z : PolledClients T C A F). z.maker) same

  pub as_it_was : (P : (ℕ → ClientState T) → Type 0) (x y : PolledClients T C A F) → IsSameBut x y → P (states k a x) → P (states k a y)
  as_it_was P x y same it = subst (λ (s : ℕ → ClientState T). P s) (sym (ap (λ (z : PolledClients T C A F). states k a z) same)) it

  module _ (t : Ghosts T) (stopped : Bool) (Dropped : Type 0) (Has : ℕ → ℕ → List ℕ → Type 0) (Lacks : List ℕ → Type 0) where
    abbrev LookedBy : PolledClients T C A F → Next → Type 0
    LookedBy x n = IsLooked t stopped (states k a x) x.waiting.items (contention_of x.lock) (Some x.limits.connections) x.refusals x.looks n

    abbrev NextBy : PolledClients T C A F → Next → Type 0
    NextBy x n = IsNext t stopped Dropped Has Lacks (states k a x) x.waiting.items (contention_of x.lock) (Some x.limits.connections) x.refusals x.looks n

    abbrev NoneLost : PolledClients T C A F → Type 0
    NoneLost x = NoneHasLost t Dropped Has Lacks (states k a x)

    to_serve : (x : PolledClients T C A F) (n : Next) → DoesServe n → LookedBy x n → NoneLost x → NextBy (record x { lock = record x.lock { expelled = None } }) n
    to_serve x (next.Step client) serves looked none =
        to_step t stopped Dropped Has Lacks (states k a x) x.waiting.items (contention_of x.lock) (Some x.limits.connections) x.refusals x.looks client looked none
    to_serve x (next.Question client) serves looked none =
        to_question t stopped Dropped Has Lacks (states k a x) x.waiting.items (contention_of x.lock) (Some x.limits.connections) x.refusals x.looks client looked none
    to_serve x (next.Left client w) serves looked none = absurd serves
    to_serve x (next.Ended e) serves looked none = absurd serves

    pub serves_next : (x y : PolledClients T C A F) (found n : Next) (r : Option Next) → IsSameBut x y → found ≡ n → DoesServe n → LookedBy x found → IfSome r (λ m. (m ≡ n) × (y.lock.expelled ≡ None) × NoneLost x) → IfSome r (λ m. NextBy y m)
    serves_next x y found n None same is serves looked none = tt
    serves_next x y found n (Some m) same is serves looked none =
        subst (λ (z : PolledClients T C A F). NextBy z m) (sym same)
        (subst (λ (o : Next). NextBy (record x { turns = y.turns; lock = record x.lock { expelled = y.lock.expelled } }) o) (sym none.0)
        (subst (λ (e : Option ℕ). NextBy (record x { turns = y.turns; lock = record x.lock { expelled = e } }) n) (sym none.1) (to_serve x n serves (subst (λ (o : Next). LookedBy x o) is looked) none.2)))

  module _ (t : Ghosts T) (Has : ℕ → ℕ → List ℕ → Type 0) (Lacks : List ℕ → Type 0)
      (front_more : (s : T) (bytes more : List ℕ) (n : ℕ) → t.front s bytes ≡ Whole n → (n ≤ length bytes) × (t.front s (bytes ++ more) ≡ Whole n))
      (bad_more : (s : T) (bytes more : List ℕ) → t.front s bytes ≡ Bad → t.front s (bytes ++ more) ≡ Bad)
      (made : T → Type 0) where
    -- one goes that was found in the middle
    pub expels_found : (p : ℕ → ClientState T) (o : LockWatch) (x y : PolledClients T C A F) → Moved t made p (states k a x) → CutsOff (contention_of o) (contention_of x.lock) → IsSameBut x y
        → (y.lock.expelled ≡ x.lock.expelled) ⊎ ((x.lock.expelled ≡ None) × ((c : ℕ) × (y.lock.expelled ≡ Some c) × HasLost t Has Lacks (states k a x) c))
        → ExpelsLost t made Has Lacks p (states k a y) o.expelled y.lock.expelled
    expels_found p o x y moved cuts same (inl still) = inl (still ∙ expelled_kept o x.lock cuts)
    expels_found p o x y moved cuts same (inr it) =
        inr (sym (expelled_kept o x.lock cuts) ∙ it.0, (it.1.0, it.1.1, (states k a x, moved, as_it_was (λ s. Moved t made (states k a x) s) x y same (moved_none t k front_more bad_more made (states k a x)), it.1.2)))

    -- and one that was found before, or is found after
    pub expels_through : (x y z w : PolledClients T C A F) → IsSameBut x y
        → (y.lock.expelled ≡ x.lock.expelled) ⊎ ((x.lock.expelled ≡ None) × ((c : ℕ) × (y.lock.expelled ≡ Some c) × HasLost t Has Lacks (states k a x) c))
        → Moved t made (states k a y) (states k a z) → CutsOff (contention_of y.lock) (contention_of z.lock) → IsSameBut z w
        → (w.lock.expelled ≡ z.lock.expelled) ⊎ ((z.lock.expelled ≡ None) × ((c : ℕ) × (w.lock.expelled ≡ Some c) × HasLost t Has Lacks (states k a z) c))
        → ExpelsLost t made Has Lacks (states k a x) (states k a w) x.lock.expelled w.lock.expelled
    expels_through x y z w before found moved cuts after later =
        let here = moved_none t k front_more bad_more made (states k a x) in
        expels_on t k front_more bad_more made Has Lacks (states k a x) (states k a y) (states k a w) x.lock.expelled y.lock.expelled w.lock.expelled
        (as_it_was (λ s. Moved t made (states k a x) s) x y before here)
        (as_it_was (λ s. Moved t made (states k a y) s) z w after moved)
        (expels_found (states k a x) x.lock x y here (inl refl) before found)
        (expels_found (states k a y) y.lock z w moved cuts after later)

-- ---- nobody has lost its role

module _ {T C : Type 0} (t : Ghosts T) (Has : ℕ → ℕ → List ℕ → Type 0) (Lacks : List ℕ → Type 0) (came : ℕ) (es : List (ℕ × Peer T C)) where
  abbrev LostIn : ℕ → Type 0
  LostIn c = HasLostItsRole t Has Lacks came c (lookup (nat_eq c) es)

  none_at : (n c : ℕ) (o : Option (Peer T C)) → lookup (nat_eq c) es ≡ o → length es ≤ n → NoneOfFirst LostIn n es → HasLostItsRole t Has Lacks came c o → ⊥
  none_at n c None is all none lost = lost
  none_at n c (Some x) is all none lost =
      let it = placed es c x is in
      let less = it.1 in
      none it.0 it.2.0 (omega (arith, less, all)) it.2.1
      (subst (λ (d : ℕ). LostIn d) (sym it.2.2) (subst (λ (o : Option (Peer T C)). HasLostItsRole t Has Lacks came c o) (sym is) lost))

  pub none_lost : (n : ℕ) → length es ≤ n → NoneOfFirst LostIn n es → (c : ℕ) → LostIn c → ⊥
  none_lost n all none c lost = none_at n c (lookup (nat_eq c) es) refl all none lost

-- ---- who goes already

pub none_of : (o : Option ℕ) → is_some o ≡ false → o ≡ None
none_of None is = refl
none_of (Some c) is = cc
