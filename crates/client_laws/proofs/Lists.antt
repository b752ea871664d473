-- Lists of sessions under other numbers.
use Rattle.std.proofs.Common.{◌≡◌, ◌∙◌, ℕ, nat_eq, Bool, true, false, cond, List, [], ◌∷◌, map, length, not, suc, Option, Some, None, refl, sym, ap}
use Rattle.abstract_database.specs.Database.{Database}
use Rattle.abstract_database.specs.Machine.{Session, Holder, client_of, own_sessions, session_of, with_session, without_session, released, seen_by, is_held_by_other}
use Rattle.client_laws.specs.Renumbered.{IsOneToOne, renumbered, renumbered_entry, renumbered_holder}
use Rattle.client_laws.proofs.Numbers.{client_renumbered, same_place, same_number}

-- a choice between two lists, under other numbers
chosen : {A B : Type 0} (f : A → B) (b : Bool) (xs ys : List A) → map f (cond b xs ys) ≡ cond b (map f xs) (map f ys)
chosen f true xs ys = refl
chosen f false xs ys = refl

module _ (place : ℕ → ℕ) (apart : IsOneToOne place) where
  abbrev R : ℕ → ℕ
  R = renumbered place

  abbrev entries : List (ℕ × Session) → List (ℕ × Session)
  entries es = map (renumbered_entry place) es

  pub session_so : (n : ℕ) (es : List (ℕ × Session)) → session_of (R n) (entries es) ≡ session_of n es
  session_so n [] = refl
  session_so n (e ∷ es) =
      ap (λ (b : Bool). cond b (Some e.1) (session_of (R n) (entries es))) (same_number place apart n e.0)
      ∙ ap (λ (o : Option Session). cond (nat_eq n e.0) (Some e.1) o) (session_so n es)

  pub with_so : (n : ℕ) (s : Session) (es : List (ℕ × Session)) → with_session (entries es) (R n) s ≡ entries (with_session es n s)
  with_so n s [] = refl
  with_so n s (e ∷ es) =
      ap (λ (b : Bool). cond b ((R e.0, s) ∷ entries es) ((R e.0, e.1) ∷ with_session (entries es) (R n) s)) (same_number place apart n e.0)
      ∙ ap (λ (l : List (ℕ × Session)). cond (nat_eq n e.0) ((R e.0, s) ∷ entries es) ((R e.0, e.1) ∷ l)) (with_so n s es)
      ∙ sym (chosen (renumbered_entry place) (nat_eq n e.0) ((e.0, s) ∷ es) (e ∷ with_session es n s))

  pub without_so : (n : ℕ) (es : List (ℕ × Session)) → without_session (R n) (entries es) ≡ entries (without_session n es)
  without_so n [] = refl
  without_so n (e ∷ es) =
      ap (λ (b : Bool). cond b (entries es) ((R e.0, e.1) ∷ without_session (R n) (entries es))) (same_number place apart n e.0)
      ∙ ap (λ (l : List (ℕ × Session)). cond (nat_eq n e.0) (entries es) ((R e.0, e.1) ∷ l)) (without_so n es)
      ∙ sym (chosen (renumbered_entry place) (nat_eq n e.0) es (e ∷ without_session n es))

  own_so : (c : ℕ) (es : List (ℕ × Session)) → own_sessions (place c) (entries es) ≡ entries (own_sessions c es)
  own_so c [] = refl
  own_so c (e ∷ es) =
      ap (λ (d : ℕ). cond (nat_eq (place c) d) ((R e.0, e.1) ∷ own_sessions (place c) (entries es)) (own_sessions (place c) (entries es))) (client_renumbered place e.0)
      ∙ ap (λ (b : Bool). cond b ((R e.0, e.1) ∷ own_sessions (place c) (entries es)) (own_sessions (place c) (entries es))) (same_place place apart c (client_of e.0))
      ∙ ap (λ (l : List (ℕ × Session)). cond (nat_eq c (client_of e.0)) ((R e.0, e.1) ∷ l) l) (own_so c es)
      ∙ sym (chosen (renumbered_entry place) (nat_eq c (client_of e.0)) (e ∷ own_sessions c es) (own_sessions c es))

  many : (es : List (ℕ × Session)) → length (entries es) ≡ length es
  many [] = refl
  many (e ∷ es) = ap (λ (n : ℕ). suc n) (many es)

  -- a client has as many sessions open
  pub as_many : (n : ℕ) (es : List (ℕ × Session)) → length (own_sessions (client_of (R n)) (entries es)) ≡ length (own_sessions (client_of n) es)
  as_many n es =
      ap (λ (c : ℕ). length (own_sessions c (entries es))) (client_renumbered place n)
      ∙ ap (λ (l : List (ℕ × Session)). length l) (own_so (client_of n) es)
      ∙ many (own_sessions (client_of n) es)

  -- ---- the writer lock

  pub released_so : (n : ℕ) (o : Option Holder) → released (R n) (renumbered_holder place o) ≡ renumbered_holder place (released n o)
  released_so n None = refl
  released_so n (Some h) = ap (λ (b : Bool). cond b None (Some (record h { session = R h.session }))) (same_number place apart h.session n) ∙ by (nat_eq h.session n) where
    by : (b : Bool) → cond b None (Some (record h { session = R h.session })) ≡ renumbered_holder place (cond b None (Some h))
    by true = refl
    by false = refl

  pub seen_so : (n : ℕ) (o : Option Holder) (db : Database) → seen_by (R n) (renumbered_holder place o) db ≡ seen_by n o db
  seen_so n None db = refl
  seen_so n (Some h) db = ap (λ (b : Bool). cond b h.database db) (same_number place apart h.session n)

  pub held_so : (n : ℕ) (o : Option Holder) → is_held_by_other (R n) (renumbered_holder place o) ≡ is_held_by_other n o
  held_so n None = refl
  held_so n (Some h) = ap not (same_number place apart h.session n)
