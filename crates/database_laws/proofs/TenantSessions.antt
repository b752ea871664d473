-- The sessions of a tenant among all that are open.
use Rattle.std.proofs.Common.{◌≡◌, ℕ, nat_eq, Bool, true, false, cond, List, [], ◌∷◌, Option, Some, refl, sym, ap, ◌∙◌, subst}
use Rattle.std.proofs.lemmas.Bool.{eqb-true, eq-eqb}
use Rattle.abstract_database.specs.Machine.{Session, session_of, with_session, without_session}
use Rattle.abstract_database.specs.Statements.{UserPair}
use Rattle.database_laws.specs.HiddenRuns.{ActsWithin}
use Rattle.database_laws.specs.Told.{entries_of, AllFor}

-- ---- lists of sessions

module _ (number : ℕ) where
  pub looked : (es : List (ℕ × Session)) → session_of number es ≡ session_of number (entries_of number es)
  looked [] = refl
  looked (e ∷ es) = by (nat_eq number e.0) refl (looked es) where
    by : (b : Bool) → nat_eq number e.0 ≡ b → session_of number es ≡ session_of number (entries_of number es) → cond b (Some e.1) (session_of number es) ≡ session_of number (cond b (e ∷ entries_of number es) (entries_of number es))
    by true at go = sym (ap (λ (b : Bool). cond b (Some e.1) (session_of number (entries_of number es))) at)
    by false at go = go

  with_own : (s : Session) (es : List (ℕ × Session)) → entries_of number (with_session es number s) ≡ with_session (entries_of number es) number s
  with_own s [] = ap (λ (b : Bool). cond b ((number, s) ∷ []) []) (eq-eqb number number refl)
  with_own s (e ∷ es) = by (nat_eq number e.0) refl (with_own s es) where
    by : (b : Bool) → nat_eq number e.0 ≡ b → entries_of number (with_session es number s) ≡ with_session (entries_of number es) number s → entries_of number (cond b ((e.0, s) ∷ es) (e ∷ with_session es number s)) ≡ with_session (cond b (e ∷ entries_of number es) (entries_of number es)) number s
    by true at go =
        ap (λ (b : Bool). cond b ((e.0, s) ∷ entries_of number es) (entries_of number es)) at
        ∙ sym (ap (λ (b : Bool). cond b ((e.0, s) ∷ entries_of number es) (e ∷ with_session (entries_of number es) number s)) at)
    by false at go = ap (λ (b : Bool). cond b (e ∷ entries_of number (with_session es number s)) (entries_of number (with_session es number s))) at ∙ go

  without_own : (es : List (ℕ × Session)) → entries_of number (without_session number es) ≡ without_session number (entries_of number es)
  without_own [] = refl
  without_own (e ∷ es) = by (nat_eq number e.0) refl (without_own es) where
    by : (b : Bool) → nat_eq number e.0 ≡ b → entries_of number (without_session number es) ≡ without_session number (entries_of number es) → entries_of number (cond b es (e ∷ without_session number es)) ≡ without_session number (cond b (e ∷ entries_of number es) (entries_of number es))
    by true at go = sym (ap (λ (b : Bool). cond b (entries_of number es) (e ∷ without_session number (entries_of number es))) at)
    by false at go = ap (λ (b : Bool). cond b (e ∷ entries_of number (without_session number es)) (entries_of number (without_session number es))) at ∙ go

module _ (number i : ℕ) (apart : nat_eq i number ≡ false) where
  elsewhere : (n : ℕ) → nat_eq number n ≡ true → nat_eq i n ≡ false
  elsewhere n e = subst (λ (j : ℕ). nat_eq i j ≡ false) (eqb-true number n e) apart

  pub with_other : (s : Session) (es : List (ℕ × Session)) → entries_of i (with_session es number s) ≡ entries_of i es
  with_other s [] = ap (λ (b : Bool). cond b ((number, s) ∷ []) []) apart
  with_other s (e ∷ es) = by (nat_eq number e.0) refl (with_other s es) where
    by : (b : Bool) → nat_eq number e.0 ≡ b → entries_of i (with_session es number s) ≡ entries_of i es → entries_of i (cond b ((e.0, s) ∷ es) (e ∷ with_session es number s)) ≡ entries_of i (e ∷ es)
    by true at go =
        ap (λ (b : Bool). cond b ((e.0, s) ∷ entries_of i es) (entries_of i es)) (elsewhere e.0 at)
        ∙ sym (ap (λ (b : Bool). cond b (e ∷ entries_of i es) (entries_of i es)) (elsewhere e.0 at))
    by false at go = ap (λ (l : List (ℕ × Session)). cond (nat_eq i e.0) (e ∷ l) l) go

  pub without_other : (es : List (ℕ × Session)) → entries_of i (without_session number es) ≡ entries_of i es
  without_other [] = refl
  without_other (e ∷ es) = by (nat_eq number e.0) refl (without_other es) where
    by : (b : Bool) → nat_eq number e.0 ≡ b → entries_of i (without_session number es) ≡ entries_of i es → entries_of i (cond b es (e ∷ without_session number es)) ≡ entries_of i (e ∷ es)
    by true at go = sym (ap (λ (b : Bool). cond b (e ∷ entries_of i es) (entries_of i es)) (elsewhere e.0 at))
    by false at go = ap (λ (l : List (ℕ × Session)). cond (nat_eq i e.0) (e ∷ l) l) go

-- the same entries of each number in both, and again after both changed alike
pub with_both : (number i : ℕ) (s : Session) (es fs : List (ℕ × Session)) → entries_of i es ≡ entries_of i fs → entries_of i (with_session es number s) ≡ entries_of i (with_session fs number s)
with_both number i s es fs same = by (nat_eq i number) refl where
  by : (b : Bool) → nat_eq i number ≡ b → entries_of i (with_session es number s) ≡ entries_of i (with_session fs number s)
  by false apart = with_other number i apart s es ∙ same ∙ sym (with_other number i apart s fs)
  by true own =
      let at : i ≡ number = eqb-true i number own in
      let here : entries_of number es ≡ entries_of number fs = subst (λ (j : ℕ). entries_of j es ≡ entries_of j fs) at same in
      subst (λ (j : ℕ). entries_of j (with_session es number s) ≡ entries_of j (with_session fs number s)) (sym at)
      (with_own number s es ∙ ap (λ (l : List (ℕ × Session)). with_session l number s) here ∙ sym (with_own number s fs))

pub without_both : (number i : ℕ) (es fs : List (ℕ × Session)) → entries_of i es ≡ entries_of i fs → entries_of i (without_session number es) ≡ entries_of i (without_session number fs)
without_both number i es fs same = by (nat_eq i number) refl where
  by : (b : Bool) → nat_eq i number ≡ b → entries_of i (without_session number es) ≡ entries_of i (without_session number fs)
  by false apart = without_other number i apart es ∙ same ∙ sym (without_other number i apart fs)
  by true own =
      let at : i ≡ number = eqb-true i number own in
      let here : entries_of number es ≡ entries_of number fs = subst (λ (j : ℕ). entries_of j es ≡ entries_of j fs) at same in
      subst (λ (j : ℕ). entries_of j (without_session number es) ≡ entries_of j (without_session number fs)) (sym at)
      (without_own number es ∙ ap (without_session number) here ∙ sym (without_own number fs))

-- ---- all of them act as the pairs

module _ (pairs : UserPair → Bool) where
  all_with : (number : ℕ) (s : Session) (es : List (ℕ × Session)) → ActsWithin pairs s → AllFor pairs es → AllFor pairs (with_session es number s)
  all_with number s [] own all = (own, tt)
  all_with number s (e ∷ es) own all = by (nat_eq number e.0) (all_with number s es own all.1) where
    by : (b : Bool) → AllFor pairs (with_session es number s) → AllFor pairs (cond b ((e.0, s) ∷ es) (e ∷ with_session es number s))
    by true go = (own, all.1)
    by false go = (all.0, go)

  all_without : (number : ℕ) (es : List (ℕ × Session)) → AllFor pairs es → AllFor pairs (without_session number es)
  all_without number [] all = tt
  all_without number (e ∷ es) all = by (nat_eq number e.0) (all_without number es all.1) where
    by : (b : Bool) → AllFor pairs (without_session number es) → AllFor pairs (cond b es (e ∷ without_session number es))
    by true go = all.1
    by false go = (all.0, go)

  pub all_found : (number : ℕ) (es : List (ℕ × Session)) → AllFor pairs es → (s : Session) → session_of number es ≡ Some s → ActsWithin pairs s
  all_found number [] all s h = cc
  all_found number (e ∷ es) all s h = by (nat_eq number e.0) (all_found number es all.1 s) h where
    one_of : (x y : Session) → ◌≡◌ {A = Option Session} (Some x) (Some y) → x ≡ y
    one_of x y is = cc

    by : (b : Bool) → (session_of number es ≡ Some s → ActsWithin pairs s) → cond b (Some e.1) (session_of number es) ≡ Some s → ActsWithin pairs s
    by true go is = subst (ActsWithin pairs) (one_of e.1 s is) all.0
    by false go is = go is

  pub after_with : (number i : ℕ) (s : Session) (es : List (ℕ × Session)) → ActsWithin pairs s → AllFor pairs (entries_of i es) → AllFor pairs (entries_of i (with_session es number s))
  after_with number i s es own all = by (nat_eq i number) refl where
    by : (b : Bool) → nat_eq i number ≡ b → AllFor pairs (entries_of i (with_session es number s))
    by false apart = subst (AllFor pairs) (sym (with_other number i apart s es)) all
    by true is =
        let at : i ≡ number = eqb-true i number is in
        subst (λ (j : ℕ). AllFor pairs (entries_of j (with_session es number s))) (sym at)
        (subst (AllFor pairs) (sym (with_own number s es)) (all_with number s (entries_of number es) own (subst (λ (j : ℕ). AllFor pairs (entries_of j es)) at all)))

  pub after_without : (number i : ℕ) (es : List (ℕ × Session)) → AllFor pairs (entries_of i es) → AllFor pairs (entries_of i (without_session number es))
  after_without number i es all = by (nat_eq i number) refl where
    by : (b : Bool) → nat_eq i number ≡ b → AllFor pairs (entries_of i (without_session number es))
    by false apart = subst (AllFor pairs) (sym (without_other number i apart es)) all
    by true is =
        let at : i ≡ number = eqb-true i number is in
        subst (λ (j : ℕ). AllFor pairs (entries_of j (without_session number es))) (sym at)
        (subst (AllFor pairs) (sym (without_own number es)) (all_without number (entries_of number es) (subst (λ (j : ℕ). AllFor pairs (entries_of j es)) at all)))
