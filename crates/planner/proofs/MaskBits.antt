-- Masks: what their bits say, and what the descriptors of a table give one with the rights of a role.
use Rattle.std.proofs.Common.{◌≡◌, ℕ, zero, suc, ◌+◌, ◌-◌, ◌^◌, ◌<◌, nat_eq, max, eq-eqb, eqb-true, not, Bool, true, false, ◌&&◌, ◌||◌, List, [], ◌∷◌, map, take, get_or, length, bytes_eq, refl, sym, ap, ◌∙◌, inl, inr, arith, Bor}
use Rattle.std.specs.Int.{bit_at}
use Rattle.std.specs.Int.Bits.{bit_or}
use Rattle.std.specs.List.{list_any, range_with_len}
use Rattle.std.proofs.lemmas.Nat.Bits.{bit_at_or, bit_at-lt, bit_at-zero, bit_at_ones, same_from_bits_below}
use Rattle.std.proofs.lemmas.List.Folds.{list_any_more}
use Rattle.sql_ast.specs.declared.privilege.Action.{Action}
use Rattle.sql_ast.specs.declared.privilege.Descriptor.{Descriptor}
use Rattle.sql_ast.specs.declared.privilege.Grantee.{Grantee}
use Rattle.sql_ast.specs.declared.privilege.Grantee.TheVariants.{Public, Role}
use Rattle.abstract_database.specs.Lists.{TheName, has_name}
use Rattle.abstract_database.specs.Database.{same_action, grantee_name}
use Rattle.stored_database.specs.Definitions.{TableDefinition}
use Rattle.catalogue.specs.Grants.{has_bit, bit_of, gives_bit, IsGivenBy, IsNamed, AreNamed}
use Rattle.planner.specs.declared.rights.Rights.{Rights}
use Rattle.planner.specs.Rights.{is_one, gives, IsGivenToAny, IsHeld, covers_some}

-- ---- bits

pub no_bit : (n : ℕ) → has_bit 0 n ≡ false
no_bit n = ap (λ b. nat_eq b 1) (bit_at-zero n)

one_or_other : (a b : ℕ) → a < 2 → b < 2 → nat_eq (max a b) 1 ≡ (nat_eq a 1 || nat_eq b 1)
one_or_other zero zero f g = refl
one_or_other zero (suc zero) f g = refl
one_or_other (suc zero) zero f g = refl
one_or_other (suc zero) (suc zero) f g = refl
one_or_other (suc (suc a)) b f g = absurd (omega (arith, f))
one_or_other zero (suc (suc b)) f g = absurd (omega (arith, g))
one_or_other (suc zero) (suc (suc b)) f g = absurd (omega (arith, g))

pub has_bit_or : (m n k : ℕ) → has_bit (bit_or m n) k ≡ (has_bit m k || has_bit n k)
has_bit_or m n k = ap (λ b. nat_eq b 1) (bit_at_or m n k) ∙ one_or_other (bit_at m k) (bit_at n k) (bit_at-lt m k) (bit_at-lt n k)

pub none_in_range : (p : ℕ → Bool) (a n i : ℕ) → list_any p (range_with_len a n) ≡ false → i < n → p (a + i) ≡ false
none_in_range p a zero i e lt = absurd (omega (arith, lt))
none_in_range p a (suc n) zero e lt = ap p (omega arith) ∙ first (p a) (list_any p (range_with_len (a + 1) n)) e where
  first : (x y : Bool) → (x || y) ≡ false → x ≡ false
  first true y h = cc
  first false y h = refl
none_in_range p a (suc n) (suc i) e lt = ap p (omega arith) ∙ none_in_range p (a + 1) n i (later (p a) (list_any p (range_with_len (a + 1) n)) e) (omega (arith, lt)) where
  later : (x y : Bool) → (x || y) ≡ false → y ≡ false
  later true y h = cc
  later false y h = h

no_bit_is_zero : (b : ℕ) → b < 2 → nat_eq b 1 ≡ false → b ≡ 0
no_bit_is_zero zero lt e = refl
no_bit_is_zero (suc zero) lt e = cc
no_bit_is_zero (suc (suc b)) lt e = absurd (omega (arith, lt))

pub none_of_range : (a n : ℕ) → list_any (has_bit 0) (range_with_len a n) ≡ false
none_of_range a zero = refl
none_of_range a (suc n) = ap (λ b. b || list_any (has_bit 0) (range_with_len (a + 1) n)) (no_bit a) ∙ none_of_range (a + 1) n

-- a mask is zero where it has no bit
pub zero_covers_none : (mask : ℕ) → mask ≡ 0 → covers_some (has_bit mask) ≡ false
zero_covers_none mask e = ap (λ m. covers_some (has_bit m)) e ∙ none_of_range 0 32

pub some_bit : (mask : ℕ) → mask < 2 ^ 32 → (mask ≡ 0 → ⊥) → covers_some (has_bit mask) ≡ true
some_bit mask fits apart = go (covers_some (has_bit mask)) refl where
  go : (b : Bool) → covers_some (has_bit mask) ≡ b → b ≡ true
  go true e = refl
  go false e = absurd (apart (same_from_bits_below 32 mask 0 fits (omega arith)
      (λ i lt. no_bit_is_zero (bit_at mask i) (bit_at-lt mask i) (let same : i ≡ 0 + i = omega arith in ap (has_bit mask) same ∙ none_in_range (has_bit mask) 0 32 i e lt) ∙ sym (bit_at-zero i))))

pub not_zero : (mask : ℕ) → mask < 2 ^ 32 → not (nat_eq mask 0) ≡ covers_some (has_bit mask)
not_zero mask fits = go (nat_eq mask 0) refl where
  go : (b : Bool) → nat_eq mask 0 ≡ b → not b ≡ covers_some (has_bit mask)
  go true e = sym (zero_covers_none mask (eqb-true mask 0 e))
  go false e = sym (some_bit mask fits (λ h. let contrary : false ≡ true = sym e ∙ eq-eqb mask 0 h in cc))

-- ---- what descriptors give

none : {X : Type 0} (xs : List X) → list_any (λ x. false) xs ≡ false
none [] = refl
none (x ∷ xs) = none xs

mixed : (a b c d : Bool) → ((a || b) || (c || d)) ≡ ((a || c) || (b || d))
mixed true b c d = refl
mixed false true true d = refl
mixed false true false d = refl
mixed false false c d = refl

pub any_either : {X : Type 0} (f g : X → Bool) (xs : List X) → list_any (λ x. f x || g x) xs ≡ (list_any f xs || list_any g xs)
any_either f g [] = refl
any_either f g (x ∷ xs) = ap (λ b. (f x || g x) || b) (any_either f g xs) ∙ mixed (f x) (g x) (list_any f xs) (list_any g xs)

-- a grantee is PUBLIC or one of the roles, and not both
one_by_name : (roles : List TheName) (g : Grantee) → IsNamed g → is_one roles g ≡ (bytes_eq (grantee_name g) [] || list_any (λ role. bytes_eq (grantee_name g) role) roles)
one_by_name roles Public named = refl
one_by_name roles (Role name) named = ap (λ b. b || has_name name roles) (sym named)

only_so : (w b : Bool) (roles : List TheName) (test : TheName → Bool) → (w && (b || list_any test roles)) ≡ ((w && b) || list_any (λ role. w && test role) roles)
only_so true b roles test = refl
only_so false b roles test = sym (none roles)

module _ (r : Rights) (a : Action) (n : ℕ) where
  given_by_one : (d : Descriptor) → IsNamed d.grantee → gives r a n d ≡ (gives_bit a [] n d || list_any (λ role. gives_bit a role n d) r.roles)
  given_by_one d named = by_cases (same_action d.action a) (nat_eq (bit_of d.column) n) where
    by_cases : (x y : Bool) → (x && y && is_one r.roles d.grantee) ≡ ((x && y && bytes_eq (grantee_name d.grantee) []) || list_any (λ role. x && y && bytes_eq (grantee_name d.grantee) role) r.roles)
    by_cases true y = ap (λ b. y && b) (one_by_name r.roles d.grantee named) ∙ only_so y (bytes_eq (grantee_name d.grantee) []) r.roles (λ role. bytes_eq (grantee_name d.grantee) role)
    by_cases false y = sym (none r.roles)

  -- a descriptor gives it to one with these rights where one gives it to PUBLIC, or to one of the roles
  given_by_name : (ds : List Descriptor) → AreNamed ds → list_any (gives r a n) ds ≡ (list_any (gives_bit a [] n) ds || list_any (λ role. list_any (gives_bit a role n) ds) r.roles)
  given_by_name [] named = sym (none r.roles)
  given_by_name (d ∷ ds) named =
      ap (λ b. b || list_any (gives r a n) ds) (given_by_one d (named d (inl refl)))
      ∙ ap (λ b. (gives_bit a [] n d || list_any (λ role. gives_bit a role n d) r.roles) || b) (given_by_name ds (λ e among. named e (inr among)))
      ∙ mixed (gives_bit a [] n d) (list_any (λ role. gives_bit a role n d) r.roles) (list_any (gives_bit a [] n) ds) (list_any (λ role. list_any (gives_bit a role n) ds) r.roles)
      ∙ ap (λ b. (gives_bit a [] n d || list_any (gives_bit a [] n) ds) || b) (sym (any_either (λ role. gives_bit a role n d) (λ role. list_any (gives_bit a role n) ds) r.roles))

-- a superuser has each bit
pub held_by_superuser : (r : Rights) (a : Action) (t : TableDefinition) → r.is_superuser ≡ true → IsHeld r a t (2 ^ 32 - 1)
held_by_superuser r a t e n few = ap (λ b. nat_eq b 1) (bit_at_ones 32 n few) ∙ sym (ap (λ b. b || list_any (gives r a n) t.descriptors) e)

-- another role those of PUBLIC and of its roles
pub held_by_roles : (r : Rights) (a : Action) (t : TableDefinition) (p q : ℕ) → r.is_superuser ≡ false → AreNamed t.descriptors → IsGivenBy t.descriptors a [] p → IsGivenToAny t.descriptors a r.roles q → IsHeld r a t (bit_or p q)
held_by_roles r a t p q e named public roles n few =
    has_bit_or p q n
    ∙ ap (λ b. b || has_bit q n) (public n few)
    ∙ ap (λ b. list_any (gives_bit a [] n) t.descriptors || b) (roles n few)
    ∙ sym (given_by_name r a n t.descriptors named)
    ∙ sym (ap (λ b. b || list_any (gives r a n) t.descriptors) e)

-- ---- role by role

pub given_to_one_more : (ds : List Descriptor) (a : Action) (roles : List (Bor TheName)) (i : ℕ) (d : Bor TheName) (mask given : ℕ) → IsGivenToAny ds a (map (λ x. x.now) (take i roles)) mask → IsGivenBy ds a (get_or roles i d).now given → i < length roles →
    IsGivenToAny ds a (map (λ x. x.now) (take (i + 1) roles)) (bit_or mask given)
given_to_one_more ds a roles i d mask given before own lt n few =
    has_bit_or mask given n
    ∙ ap (λ b. b || has_bit given n) (before n few ∙ sym (lent (take i roles)))
    ∙ ap (λ b. list_any (test n) (take i roles) || b) (own n few)
    ∙ sym (list_any_more (test n) roles i d lt)
    ∙ lent (take (i + 1) roles)
  where
    test : ℕ → Bor TheName → Bool
    test n x = list_any (gives_bit a x.now n) ds

    lent : (xs : List (Bor TheName)) → list_any (test n) xs ≡ list_any (λ y. list_any (gives_bit a y n) ds) (map (λ x. x.now) xs)
    lent [] = refl
    lent (x ∷ xs) = ap (λ b. test n x || b) (lent xs)
