-- Who holds the writer lock that others want, as it is told of.
use Rattle.std.proofs.Common.{◌≡◌, ◌≢◌, ◌∙◌, ◌==◌, ◌&&◌, ◌||◌, inl, inr, ℕ, Bool, true, false, not, Option, Some, None, is_some, is_none, if◌then◌else◌, refl, ap, sym, subst}
use Rattle.std.proofs.lemmas.Bool.{eqb-true, eqb-false}
use Rattle.std.specs.declared.time.Duration.{Duration}
use Rattle.talks.specs.Clients.{CutsOff, is_client, contending, contended, unless_client, forgotten}
use Rattle.polled_clients.specs.declared.lock_watch.HoldTime.{HoldTime}
use Rattle.polled_clients.specs.declared.lock_watch.HoldTime.TheVariants.{New, Since, Over}
use Rattle.polled_clients.specs.declared.lock_watch.WantedHolder.{WantedHolder}
use Rattle.polled_clients.specs.declared.lock_watch.LockWatch.{LockWatch}
use Rattle.polled_clients.specs.LockWatches.{client_held, contention_of, is_holding, holder_after, time_after, looked_by, looked_for, looked, without_holder}

no_client : (c : ℕ) (o : Option ℕ) → is_client c o ≡ false → o ≡ Some c → ⊥
no_client c None is same = absurd (cc)
no_client c (Some d) is same = eqb-false d c is (cc)

the_client : (c : ℕ) (o : Option ℕ) → is_client c o ≡ true → o ≡ Some c
the_client c None is = cc
the_client c (Some d) is = ap Some (eqb-true d c is)

pub is_uncut : (c : ℕ) (x : LockWatch) → is_client c x.cut_off ≡ false → (contention_of x).cut_off ≢ Some c
is_uncut c x is = no_client c x.cut_off is

pub was_expelled : (c : ℕ) (x : LockWatch) → is_client c x.expelled ≡ true → (contention_of x).expelled ≡ Some c
was_expelled c x is = the_client c x.expelled is

pub was_cut_off : (c : ℕ) (x : LockWatch) → is_client c x.cut_off ≡ true → (contention_of x).cut_off ≡ Some c
was_cut_off c x is = the_client c x.cut_off is

-- ---- what is noted

new_if : (b : Bool) (h : ℕ) → client_held (if b then Some (record { client = h; time = New }) else None) ≡ (if b then Some h else None)
new_if true h = refl
new_if false h = refl

held_if : (b : Bool) (h : ℕ) (w : Bool) (c : ℕ) (old : Option WantedHolder) → is_holding h old ≡ b
    → client_held (if b then old else if w && not (h == c) then Some (record { client = h; time = New }) else None) ≡ (if b || (w && not (h == c)) then Some h else None)
held_if true h w c None is = cc
held_if true h w c (Some x) is = ap Some (eqb-true x.client h is)
held_if false h w c old is = new_if (w && not (h == c)) h

same_holding : (h : ℕ) (old : Option WantedHolder) → is_client h (client_held old) ≡ is_holding h old
same_holding h None = refl
same_holding h (Some x) = refl

held_after : (holder : Option ℕ) (c : ℕ) (w : Bool) (old : Option WantedHolder) → client_held (holder_after holder c w old) ≡ contending holder c w (client_held old)
held_after None c w old = refl
held_after (Some h) c w old = rw (same_holding h old) (held_if (is_holding h old) h w c old refl)

pub noted : (holder : Option ℕ) (c : ℕ) (w : Bool) (x y : LockWatch) → y ≡ record x { holder = holder_after holder c w x.holder } → contention_of y ≡ contended holder c w (contention_of x)
noted holder c w x y same =
    ap contention_of same ∙ ap (λ (o : Option ℕ). record (contention_of x) { holder = o }) (held_after holder c w x.holder)

-- ---- what a look does

kept : (x y : LockWatch) (t : HoldTime) (c : ℕ) → x.holder ≡ Some (record { client = c; time = t }) → (u : HoldTime) → y ≡ record x { holder = Some (record { client = c; time = u }) } → contention_of y ≡ contention_of x
kept x y t c is u same = ap contention_of same ∙ ap (λ (o : Option ℕ). record (contention_of x) { holder = o }) (sym (ap client_held is))

cut_if : (b d : Bool) (c : ℕ) (x : LockWatch) → is_some x.limit ≡ b → client_held x.holder ≡ Some c → CutsOff (contention_of x) (contention_of (if b && d then record x { cut_off = Some c } else x))
cut_if true true c x is held = inr (is, (c, held, refl))
cut_if true false c x is held = inl refl
cut_if false d c x is held = inl refl

by_time : (asked now : Duration) (x : LockWatch) (c : ℕ) (t : HoldTime) → x.holder ≡ Some (record { client = c; time = t }) → CutsOff (contention_of x) (contention_of (looked_by asked now x c t))
by_time asked now x c New held = inl (kept x (looked_by asked now x c New) New c held (time_after asked now x.limit New) refl)
by_time asked now x c (Since moment) held = inl (kept x (looked_by asked now x c (Since moment)) (Since moment) c held (time_after asked now x.limit (Since moment)) refl)
by_time asked now x c Over held = cut_if (is_some x.limit) (is_none x.cut_off) c x refl (ap client_held held)

by_holder : (asked now : Duration) (x : LockWatch) (o : Option WantedHolder) → x.holder ≡ o → CutsOff (contention_of x) (contention_of (looked_for asked now x o))
by_holder asked now x None held = inl refl
by_holder asked now x (Some h) held = by_time asked now x h.client h.time held

pub look_cuts : (asked now : Duration) (x y : LockWatch) → y ≡ looked asked now x → CutsOff (contention_of x) (contention_of y)
look_cuts asked now x y same = subst (λ (z : LockWatch). CutsOff (contention_of x) (contention_of z)) (sym same) (by_holder asked now x x.holder refl)

-- ---- who is forgotten

without_if : (b : Bool) (c : ℕ) (h : Option WantedHolder) → is_holding c h ≡ b → client_held (if b then None else h) ≡ (if b then None else client_held h)
without_if true c h is = refl
without_if false c h is = refl

without : (c : ℕ) (h : Option WantedHolder) → client_held (without_holder c h) ≡ unless_client c (client_held h)
without c h = rw (same_holding c h) (without_if (is_holding c h) c h refl)

pub forgets : (c : ℕ) (x y : LockWatch) → y.holder ≡ without_holder c x.holder → y.cut_off ≡ unless_client c x.cut_off → y.expelled ≡ unless_client c x.expelled → y.limit ≡ x.limit → contention_of y ≡ forgotten c (contention_of x)
forgets c x y holder cut expelled limit = rw (holder, cut, expelled, limit, without c x.holder) refl
