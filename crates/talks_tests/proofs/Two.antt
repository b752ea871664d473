-- Two clients.
use Rattle.std.proofs.Common.{◌≡◌, ◌≢◌, ◌==◌, ◌<◌, ◌≤◌, ℕ, Bool, true, false, List, [], ◌∷◌, ◌++◌, length, Option, Some, None, IfSome, refl, sym, subst, arith}
use Rattle.std.proofs.lemmas.Bool.{eqb-true, eqb-false, ne_eqb}
use Rattle.talks.specs.declared.talk.Talk.{Ghosts}
use Rattle.talks.specs.declared.talk.MessageFront.TheVariants.{Whole, Bad}
use Rattle.talks.specs.declared.want.Want.{Want}
use Rattle.talks.specs.declared.clients.Next.{Next}
use Rattle.talks.specs.declared.clients.Next.TheVariants as next
use Rattle.talks.specs.declared.clients.Finish.TheVariants as finish
use Rattle.talks.specs.Wants.{Learnt, own}
use Rattle.talks.specs.Conversations.{ClientState, awaited, Passes, IsGone, IsAwaited, wanted}
use Rattle.talks.specs.Clients.{NoneGoes, GoesAlone, AllCame, Moved, IsLeaving, IsNext, IsStillServed}
use Rattle.talks.proofs.Passing.{passes_stay, passes_on}
use Rattle.talks_tests.specs.Memory.{any_talk, state_at, state_of, HasWish}
use Rattle.talks_tests.specs.TwoClients.{contention_of, at_two, states, NextOf}
use Rattle.talks_tests.specs.declared.line.MemoryClient.{MemoryClient}
use Rattle.talks_tests.specs.declared.line.Stage.{Stage}
use Rattle.talks_tests.specs.declared.line.Stage.TheVariants as stage
use Rattle.talks_tests.specs.declared.line.Wish.{Wish}
use Rattle.talks_tests.specs.declared.line.Wish.TheVariants as wish
use Rattle.talks_tests.specs.declared.clients.TwoClients.{TwoClients}

-- ---- which client

by_second : (P : ℕ → Type 0) → P 1 → ((c : ℕ) → (0 ≡ c → ⊥) → (1 ≡ c → ⊥) → P c) → (c : ℕ) → (0 ≡ c → ⊥) → (t : Bool) → (1 == c) ≡ t → P c
by_second P second far c other true is = subst P (eqb-true 1 c is) second
by_second P second far c other false is = far c other (eqb-false 1 c is)

by_first : (P : ℕ → Type 0) → P 0 → P 1 → ((c : ℕ) → (0 ≡ c → ⊥) → (1 ≡ c → ⊥) → P c) → (c : ℕ) → (t : Bool) → (0 == c) ≡ t → P c
by_first P first second far c true is = subst P (eqb-true 0 c is) first
by_first P first second far c false is = by_second P second far c (eqb-false 0 c is) (1 == c) refl

-- what holds of the first, of the second and of all others
pub each : (P : ℕ → Type 0) → P 0 → P 1 → ((c : ℕ) → (0 ≡ c → ⊥) → (1 ≡ c → ⊥) → P c) → (c : ℕ) → P c
each P first second far c = by_first P first second far c (0 == c) refl

pub no_other : {T : Type 0} (a b : ClientState T) (c : ℕ) → (0 ≡ c → ⊥) → (1 ≡ c → ⊥) → at_two a b c ≡ awaited (Some [])
no_other a b c other another = rw (ne_eqb 0 c other, ne_eqb 1 c another) refl

pub own_first : (x : Learnt) (c : ℕ) → (0 ≡ c → ⊥) → own 0 c x ≡ []
own_first x c other = rw (ne_eqb 0 c other) refl

pub own_second : (x : Learnt) (c : ℕ) → (1 ≡ c → ⊥) → own 1 c x ≡ []
own_second x c another = rw (ne_eqb 1 c another) refl

module _ {T : Type 0} (k : Ghosts T) where
  pub both_pass : (a b d e : ClientState T) (f : ℕ → List Learnt) → Passes k any_talk a (f 0) d → Passes k any_talk b (f 1) e → ((c : ℕ) → (0 ≡ c → ⊥) → (1 ≡ c → ⊥) → f c ≡ []) → (c : ℕ) → Passes k any_talk (at_two a b c) (f c) (at_two d e c)
  both_pass a b d e f first second nothing =
      let P : ℕ → Type 0 = λ c. Passes k any_talk (at_two a b c) (f c) (at_two d e c) in
      let none : Passes k any_talk (awaited (Some [])) [] (awaited (Some [])) = (refl, refl) in
      each P first second (λ c other another.
      let Q : ClientState T → List Learnt → ClientState T → Type 0 = λ p xs q. Passes k any_talk p xs q in
      subst (λ (p : ClientState T). Q p (f c) (at_two d e c)) (sym (no_other a b c other another))
      (subst (λ (q : ClientState T). Q (awaited (Some [])) (f c) q) (sym (no_other d e c other another))
      (subst (λ (xs : List Learnt). Q (awaited (Some [])) xs (awaited (Some []))) (sym (nothing c other another)) none)))

  pub both_go : (a b d e : ClientState T) → (IsGone d → IsGone a) → (IsGone e → IsGone b) → NoneGoes (at_two a b) (at_two d e)
  both_go a b d e first second =
      each (λ c. IsGone (at_two d e c) → IsGone (at_two a b c)) first second (λ c other another is. absurd (subst IsGone (no_other d e c other another) is))

  pub first_goes : (a b d : ClientState T) → GoesAlone 0 (at_two a b) (at_two d b)
  first_goes a b d =
      each (λ c. c ≢ 0 → IsGone (at_two d b c) → IsGone (at_two a b c)) (λ not_it is. absurd (not_it refl)) (λ not_it is. is) (λ c other another not_it is. absurd (subst IsGone (no_other d b c other another) is))

  pub second_goes : (a b e : ClientState T) → GoesAlone 1 (at_two a b) (at_two a e)
  second_goes a b e =
      each (λ c. c ≢ 1 → IsGone (at_two a e c) → IsGone (at_two a b c)) (λ not_it is. is) (λ not_it is. absurd (not_it refl)) (λ c other another not_it is. absurd (subst IsGone (no_other a e c other another) is))

  -- who wants something is one of the two
  pub who : (a b : ClientState T) (c : ℕ) (w : Want) → wanted k (at_two a b c) ≡ Some w → (0 ≡ c → ⊥) → c ≡ 1
  who a b =
      each (λ c. (w : Want) → wanted k (at_two a b c) ≡ Some w → (0 ≡ c → ⊥) → c ≡ 1) (λ w is other. absurd (other refl)) (λ w is other. refl)
      (λ c other another w is not_it. let no : None ≡ Some w = subst (λ (p : ClientState T). wanted k p ≡ Some w) (no_other a b c other another) is in cc)

  pub who_leaves : (a b : ClientState T) (c : ℕ) → IsLeaving k (at_two a b c) → (0 ≡ c → ⊥) → c ≡ 1
  who_leaves a b =
      each (λ c. IsLeaving k (at_two a b c) → (0 ≡ c → ⊥) → c ≡ 1) (λ is other. absurd (other refl)) (λ is other. refl)
      (λ c other another is not_it. absurd (subst (IsLeaving k) (no_other a b c other another) is))

  came : (a b : ClientState T) → IsGone a → IsGone b → AllCame 2 (at_two a b)
  came a b first second =
      each (λ c. (c < 2 → IsGone (at_two a b c)) × (2 ≤ c → IsAwaited (at_two a b c))) ((λ less. first), (λ more. absurd (omega (arith, more)))) ((λ less. second), (λ more. absurd (omega (arith, more))))
      (λ c other another. ((λ less. absurd (omega (arith, other, another, less))), (λ more. subst IsAwaited (sym (no_other a b c other another)) tt)))

  is_gone : (x : MemoryClient T) → x.stage ≡ stage.Gone → IsGone (state_of x)
  is_gone x is = subst (λ (s : Stage). IsGone (state_at s x)) (sym is) tt

  pub done : (stopped : Bool) (x : TwoClients T) (waiting : List ℕ) → x.first.stage ≡ stage.Gone → x.second.stage ≡ stage.Gone → waiting ≡ [] → IsNext k stopped ⊥ (λ c n login. ⊥) (λ role. ⊥) (states x) waiting (contention_of x.contended) (Some 2) 0 x.looks (next.Ended finish.Done)
  done stopped x waiting first second nobody = ((2, refl, came (state_of x.first) (state_of x.second) (is_gone x.first first) (is_gone x.second second)), (λ leaves. nobody))

  uncut : (c : ℕ) (holder : Option ℕ) → IsStillServed c (contention_of holder)
  uncut c holder = ((λ is. cc), refl)

  -- where no role may have been dropped
  pub none_dropped : (stopped : Bool) (Dropped : Type 0) (Has : ℕ → ℕ → List ℕ → Type 0) (Lacks : List ℕ → Type 0) (at : ℕ → ClientState T) (waiting : List ℕ) (holder : Option ℕ) (looks : ℕ) (n : Next) → (Dropped → ⊥)
      → IsNext k stopped ⊥ (λ c n login. ⊥) (λ role. ⊥) at waiting (contention_of holder) (Some 2) 0 looks n → IsNext k stopped Dropped Has Lacks at waiting (contention_of holder) (Some 2) 0 looks n
  none_dropped stopped Dropped Has Lacks at waiting holder looks (next.Step c) none is = (is.0, is.1, is.2, is.3, λ dropped. absurd (none dropped))
  none_dropped stopped Dropped Has Lacks at waiting holder looks (next.Question c) none is = (is.0, is.1, is.2, is.3, λ dropped. absurd (none dropped))
  none_dropped stopped Dropped Has Lacks at waiting holder looks (next.Left c w) none is = is
  none_dropped stopped Dropped Has Lacks at waiting holder looks (next.Ended e) none is = is

  pub next_is : (stopped : Bool) (at : ℕ → ClientState T) (waiting : List ℕ) (holder : Option ℕ) (looks c : ℕ) (v : Wish) (r : Option Next) → NextOf c v r → HasWish k v (at c)
      → IfSome r (λ n. IsNext k stopped ⊥ (λ c n login. ⊥) (λ role. ⊥) at waiting (contention_of holder) (Some 2) 0 looks n)
  next_is stopped at waiting holder looks c wish.Nothing r is has = rw (is) tt
  next_is stopped at waiting holder looks c wish.Step r is has = rw (is) (has.0, has.1, has.2, uncut c holder, λ dropped. absurd dropped)
  next_is stopped at waiting holder looks c wish.Question r is has = rw (is) (has.0, has.1, has.2, uncut c holder, λ dropped. absurd dropped)
  next_is stopped at waiting holder looks c (wish.Left w) r is has = rw (is) (has.0, has.1, (λ same. absurd (has.2.0 same)), (λ same. absurd (has.2.1 same)), (λ same. absurd (has.2.2 same)))

  module _ (front_more : (t : T) (bytes more : List ℕ) (n : ℕ) → k.front t bytes ≡ Whole n → (n ≤ length bytes) × (k.front t (bytes ++ more) ≡ Whole n))
      (bad_more : (t : T) (bytes more : List ℕ) → k.front t bytes ≡ Bad → k.front t (bytes ++ more) ≡ Bad) where
    pub stay : (a : ClientState T) → Passes k any_talk a [] a
    stay a = passes_stay k front_more bad_more any_talk a

    pub moved_none : (at : ℕ → ClientState T) → Moved k any_talk at at
    moved_none at = record { passed = λ c. stay (at c); gone = λ c is. is }

    pub moved_on : (p q r : ℕ → ClientState T) → Moved k any_talk p q → Moved k any_talk q r → Moved k any_talk p r
    moved_on p q r first next = record {
      passed = λ c. passes_on k front_more bad_more any_talk (p c) (q c) (r c) [] [] (first.passed c) (next.passed c);
      gone = λ c is. first.gone c (next.gone c is);
    }

    pub moved_first : (a b d : ClientState T) → Passes k any_talk a [] d → (IsGone d → IsGone a) → Moved k any_talk (at_two a b) (at_two d b)
    moved_first a b d passed goes = record { passed = both_pass a b d b (λ c. []) passed (stay b) (λ c other another. refl); gone = both_go a b d b goes (λ is. is) }

    pub moved_second : (a b e : ClientState T) → Passes k any_talk b [] e → (IsGone e → IsGone b) → Moved k any_talk (at_two a b) (at_two a e)
    moved_second a b e passed goes = record { passed = both_pass a b a e (λ c. []) (stay a) passed (λ c other another. refl); gone = both_go a b a e (λ is. is) goes }

    pub first_learns : (a b d : ClientState T) (x : Learnt) → Passes k any_talk a (x ∷ []) d → (c : ℕ) → Passes k any_talk (at_two a b c) (own 0 c x) (at_two d b c)
    first_learns a b d x passed = both_pass a b d b (λ c. own 0 c x) passed (stay b) (λ c other another. own_first x c other)

    pub second_learns : (a b e : ClientState T) (x : Learnt) → Passes k any_talk b (x ∷ []) e → (c : ℕ) → Passes k any_talk (at_two a b c) (own 1 c x) (at_two a e c)
    second_learns a b e x passed = both_pass a b a e (λ c. own 1 c x) (stay a) passed (λ c other another. own_second x c another)
