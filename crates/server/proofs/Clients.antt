-- The own sessions of a client, one after the other.
use Rattle.std.proofs.Common.{◌≡◌, ◌∙◌, ◌+◌, ℕ, zero, suc, nat_eq, Bool, true, false, cond, List, [], ◌∷◌, ◌++◌, length, take, drop, Option, Some, None, refl, sym, ap, append_assoc, add-one, eq-eqb, ◌≤◌, arith}
use Rattle.std.specs.Prelude.{slice_get}
use Rattle.std.specs.Option.{option_map}
use Rattle.std.proofs.lemmas.List.{take-append-drop, append-nil}
use Rattle.std.proofs.lemmas.List.Elements.{filter-append}
use Rattle.std.proofs.lemmas.Bool.{eqb-true}
use Rattle.abstract_database.specs.Machine.{Session, client_of, own_number, own_sessions}
use Rattle.server.proofs.Running.{length_more}

abbrev Entries : Type 0
Entries = List (ℕ × Session)

apart : (a b : ℕ) → (b ≡ a → ⊥) → nat_eq a b ≡ false
apart a b differ = by_bool (nat_eq a b) refl
  where
    by_bool : (z : Bool) → z ≡ nat_eq a b → nat_eq a b ≡ false
    by_bool true is = absurd (differ (sym (eqb-true a b (sym is))))
    by_bool false is = sym is

-- where there is no entry any more
past : {A : Type 0} (xs : List A) (i : ℕ) → length xs ≤ i → slice_get xs i ≡ None
past [] i le = refl
past (x ∷ xs) zero le = absurd (omega (arith, le))
past (x ∷ xs) (suc i) le = past xs i (omega (arith, le))

ends : {A : Type 0} (xs : List A) (i : ℕ) → slice_get xs i ≡ None → take (suc i) xs ≡ take i xs
ends [] zero is = refl
ends [] (suc i) is = refl
ends (x ∷ xs) zero is = cc
ends (x ∷ xs) (suc i) is = ap (λ l. x ∷ l) (ends xs i is)

pub ended : {A : Type 0} (xs : List A) (i : ℕ) → slice_get xs i ≡ None → take (i + 1) xs ≡ take i xs
ended xs i is = rw (add-one i) (ends xs i is)

module _ (client : ℕ) where
  -- the entries up to one are those before it and itself
  taken_next : (entries : Entries) (i : ℕ) (e : ℕ × Session) → slice_get entries i ≡ Some e → take (suc i) entries ≡ take i entries ++ e ∷ []
  taken_next [] i e is = cc
  taken_next (x ∷ xs) zero e is = let same : x ≡ e = cc in ap (λ (y : ℕ × Session). y ∷ []) same
  taken_next (x ∷ xs) (suc i) e is = ap (λ (l : Entries). x ∷ l) (taken_next xs i e is)

  taken_at : (entries : Entries) (i : ℕ) (e : ℕ × Session) → slice_get entries i ≡ Some e → take (i + 1) entries ≡ take i entries ++ e ∷ []
  taken_at entries i e is = rw (add-one i) (taken_next entries i e is)

  own_up_to : (entries : Entries) (i : ℕ) (e : ℕ × Session) → slice_get entries i ≡ Some e
      → own_sessions client (take (i + 1) entries) ≡ own_sessions client (take i entries) ++ own_sessions client (e ∷ [])
  own_up_to entries i e is =
      ap (own_sessions client) (taken_at entries i e is) ∙ filter-append (λ (x : ℕ × Session). nat_eq client (client_of x.0)) (take i entries) (e ∷ [])

  -- one more of the client's
  pub one_more : (entries : Entries) (i : ℕ) (e : ℕ × Session) → slice_get entries i ≡ Some e → nat_eq client (client_of e.0) ≡ true
      → own_sessions client (take (i + 1) entries) ≡ own_sessions client (take i entries) ++ e ∷ []
  one_more entries i e is own =
      own_up_to entries i e is ∙ ap (λ (b : Bool). own_sessions client (take i entries) ++ cond b (e ∷ []) []) own

  -- one of another
  pub none_more : (entries : Entries) (i : ℕ) (e : ℕ × Session) → slice_get entries i ≡ Some e → nat_eq client (client_of e.0) ≡ false
      → own_sessions client (take (i + 1) entries) ≡ own_sessions client (take i entries)
  none_more entries i e is other =
      own_up_to entries i e is ∙ ap (λ (b : Bool). own_sessions client (take i entries) ++ cond b (e ∷ []) []) other ∙ append-nil (own_sessions client (take i entries))

  -- the one at the place of as many as were before it
  at_end : (before rest : Entries) (e : ℕ × Session) → slice_get (before ++ e ∷ rest) (length before) ≡ Some e
  at_end [] rest e = refl
  at_end (x ∷ before) rest e = at_end before rest e

  pub own_here : (entries : Entries) (i : ℕ) (e : ℕ × Session) → slice_get entries i ≡ Some e → nat_eq client (client_of e.0) ≡ true
      → slice_get (own_sessions client entries) (length (own_sessions client (take i entries))) ≡ Some e
  own_here entries i e is own =
      let all : own_sessions client entries ≡ own_sessions client (take i entries) ++ e ∷ own_sessions client (drop (i + 1) entries) =
      ap (own_sessions client) (sym (take-append-drop (i + 1) entries)) ∙ filter-append (λ (x : ℕ × Session). nat_eq client (client_of x.0)) (take (i + 1) entries) (drop (i + 1) entries)
      ∙ ap (λ (l : Entries). l ++ own_sessions client (drop (i + 1) entries)) (one_more entries i e is own)
      ∙ append_assoc (own_sessions client (take i entries)) (e ∷ []) (own_sessions client (drop (i + 1) entries)) in
      ap (λ (l : Entries). slice_get l (length (own_sessions client (take i entries)))) all ∙ at_end (own_sessions client (take i entries)) (own_sessions client (drop (i + 1) entries)) e

  -- ---- how many there are

  pub counted : (entries : Entries) (i count : ℕ) (e : ℕ × Session) → slice_get entries i ≡ Some e → client_of e.0 ≡ client → count ≡ length (own_sessions client (take i entries))
      → count + 1 ≡ length (own_sessions client (take (i + 1) entries))
  counted entries i count e is own so_far =
      ap (λ (n : ℕ). n + 1) so_far ∙ sym (length_more (own_sessions client (take i entries)) e) ∙ sym (ap (λ (l : Entries). length l) (one_more entries i e is (eq-eqb client (client_of e.0) (sym own))))

  pub passed_by : (entries : Entries) (i count : ℕ) (e : ℕ × Session) → slice_get entries i ≡ Some e → (client_of e.0 ≡ client → ⊥) → count ≡ length (own_sessions client (take i entries))
      → count ≡ length (own_sessions client (take (i + 1) entries))
  passed_by entries i count e is other so_far = so_far ∙ sym (ap (λ (l : Entries). length l) (none_more entries i e is (apart client (client_of e.0) other)))

  -- ---- the one of an index

  pub own_found : (entries : Entries) (i index : ℕ) (e : ℕ × Session) → slice_get entries i ≡ Some e → client_of e.0 ≡ client → index ≡ length (own_sessions client (take i entries))
      → Some (own_number e.0) ≡ option_map (λ x. own_number x.0) (slice_get (own_sessions client entries) index)
  own_found entries i index e is own so_far =
      sym (ap (λ (o : Option (ℕ × Session)). option_map (λ (x : ℕ × Session). own_number x.0) o)
      (ap (slice_get (own_sessions client entries)) so_far ∙ own_here entries i e is (eq-eqb client (client_of e.0) (sym own))))

  pub own_missing : (entries : Entries) (index : ℕ) → length (own_sessions client entries) ≤ index → None ≡ option_map (λ x. own_number x.0) (slice_get (own_sessions client entries) index)
  own_missing entries index le = sym (ap (λ (o : Option (ℕ × Session)). option_map (λ (x : ℕ × Session). own_number x.0) o) (past (own_sessions client entries) index le))

-- where there is no first one there is none
none_first : {A : Type 0} (f : A → ℕ) (xs : List A) → None ≡ option_map f (slice_get xs 0) → xs ≡ []
none_first f [] is = refl
none_first f (x ∷ xs) is = cc

pub none_own : (client : ℕ) (entries : Entries) → None ≡ option_map (λ x. own_number x.0) (slice_get (own_sessions client entries) 0) → own_sessions client entries ≡ []
none_own client entries is = none_first (λ (x : ℕ × Session). own_number x.0) (own_sessions client entries) is
