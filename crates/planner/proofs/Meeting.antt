-- Which needs the bits of what is had meet.
use Rattle.std.proofs.Common.{◌≡◌, ℕ, zero, suc, ◌+◌, ◌<◌, nat_lt, Bool, true, false, ◌&&◌, ◌||◌, List, [], ◌∷◌, ◌++◌, refl, sym, ap, ◌∙◌, arith}
use Rattle.std.specs.List.{list_any, list_all, range_with_len}
use Rattle.std.proofs.lemmas.Bool.{ltb-true, or_right}
use Rattle.std.proofs.lemmas.List.Folds.{list_all-map, list_all-append}
use Rattle.sql_ast.specs.declared.privilege.Action.{Action}
use Rattle.sql_ast.specs.declared.privilege.Action.TheVariants as action
use Rattle.abstract_database.specs.Lists.{TheName}
use Rattle.abstract_database.specs.Needs.{Need, privilege, on_columns, on_columns_or_one}
use Rattle.abstract_database.specs.Privileges.{on_column}
use Rattle.stored_database.specs.Definitions.{TableDefinition}
use Rattle.catalogue.specs.Grants.{has_bit}
use Rattle.planner.specs.declared.rights.Rights.{Rights}
use Rattle.planner.specs.Rights.{has, IsHeld, covers, covers_some, meets, needs_of_write}

-- ---- tests over a range

any_in_range : (p q : ℕ → Bool) (a n : ℕ) → ((i : ℕ) → i < n → p (a + i) ≡ q (a + i)) → list_any p (range_with_len a n) ≡ list_any q (range_with_len a n)
any_in_range p q a zero h = refl
any_in_range p q a (suc n) h =
    ap (λ b. b || list_any p (range_with_len (a + 1) n)) (ap p (omega arith) ∙ h 0 (omega arith) ∙ ap q (omega arith))
    ∙ ap (λ b. q a || b) (any_in_range p q (a + 1) n (λ i lt. ap p (omega arith) ∙ h (suc i) (omega (arith, lt)) ∙ ap q (omega arith)))

pub found_in_range : (p : ℕ → Bool) (a n i : ℕ) → i < n → p (a + i) ≡ true → list_any p (range_with_len a n) ≡ true
found_in_range p a zero i lt e = absurd (omega (arith, lt))
found_in_range p a (suc n) zero lt e = ap (λ b. b || list_any p (range_with_len (a + 1) n)) (ap p (omega arith) ∙ e)
found_in_range p a (suc n) (suc i) lt e = or_right (p a) (list_any p (range_with_len (a + 1) n)) (found_in_range p (a + 1) n i (omega (arith, lt)) (ap p (omega arith) ∙ e))

all_alike : (p q : ℕ → Bool) → ((c : ℕ) → p c ≡ q c) → (cs : List ℕ) → list_all p cs ≡ list_all q cs
all_alike p q h [] = refl
all_alike p q h (c ∷ cs) = ap (λ b. b && list_all p cs) (h c) ∙ ap (λ b. q c && b) (all_alike p q h cs)

-- ---- a mask and what is had

module _ (r : Rights) (a : Action) (t : TableDefinition) (mask : ℕ) (held : IsHeld r a t mask) where
  covers_alike : (c : ℕ) → covers (has_bit mask) c ≡ covers (has r a t) c
  covers_alike c = ap (λ b. b || (nat_lt c 31 && has_bit mask (c + 1))) (held 0 (omega arith)) ∙ ap (λ b. has r a t 0 || b) (there (nat_lt c 31) refl) where
    there : (b : Bool) → nat_lt c 31 ≡ b → (b && has_bit mask (c + 1)) ≡ (b && has r a t (c + 1))
    there true e = let few = ltb-true c 31 e in held (c + 1) (omega (arith, few))
    there false e = refl

  pub each_alike : (cs : List ℕ) → list_all (covers (has_bit mask)) cs ≡ list_all (covers (has r a t)) cs
  each_alike cs = all_alike (covers (has_bit mask)) (covers (has r a t)) covers_alike cs

  pub some_alike : covers_some (has_bit mask) ≡ covers_some (has r a t)
  some_alike = any_in_range (has_bit mask) (has r a t) 0 32 (λ i lt. held (0 + i) (omega (arith, lt)))

-- ---- needs of columns

some_from_column : (bit : ℕ → Bool) (c : ℕ) → covers bit c ≡ true → covers_some bit ≡ true
some_from_column bit c e = whole (bit 0) refl e where
  alone : (y : Bool) → nat_lt c 31 ≡ y → (y && bit (c + 1)) ≡ true → covers_some bit ≡ true
  alone true few f = let lt = ltb-true c 31 few in found_in_range bit 0 32 (c + 1) (omega (arith, lt)) (let same : 0 + (c + 1) ≡ c + 1 = omega arith in ap bit same ∙ f)
  alone false few f = cc

  whole : (x : Bool) → bit 0 ≡ x → (x || (nat_lt c 31 && bit (c + 1))) ≡ true → covers_some bit ≡ true
  whole true own f = found_in_range bit 0 32 0 (omega arith) own
  whole false own f = alone (nat_lt c 31) refl f

implied : (s b rest : Bool) → (b ≡ true → s ≡ true) → (b && rest) ≡ (s && (b && rest))
implied true b rest h = refl
implied false true rest h = let contrary : false ≡ true = h refl in cc
implied false false rest h = refl

module _ (r : Rights) (t : TableDefinition) (name : TheName) (a : Action) where
  pub on_columns_met : (cs : List ℕ) → list_all (meets r t) (on_columns name a cs) ≡ list_all (covers (has r a t)) cs
  on_columns_met cs = list_all-map (meets r t) (λ c. privilege name (on_column a c)) cs

  pub on_columns_or_one_met : (cs : List ℕ) → list_all (meets r t) (on_columns_or_one name a cs) ≡ (covers_some (has r a t) && list_all (covers (has r a t)) cs)
  on_columns_or_one_met [] = refl
  on_columns_or_one_met (c ∷ cs) = on_columns_met (c ∷ cs) ∙ implied (covers_some (has r a t)) (covers (has r a t) c) (list_all (covers (has r a t)) cs) (some_from_column (has r a t) c)

-- what the tests of a mask say of the needs
module _ (r : Rights) (a : Action) (t : TableDefinition) (mask : ℕ) (held : IsHeld r a t mask) (name : TheName) (cs : List ℕ) where
  met : (some each : Bool) → some ≡ covers_some (has_bit mask) → each ≡ list_all (covers (has_bit mask)) cs → (some && each) ≡ list_all (meets r t) (on_columns_or_one name a cs)
  met some each e f =
      ap (λ b. b && each) (e ∙ some_alike r a t mask held) ∙ ap (λ b. covers_some (has r a t) && b) (f ∙ each_alike r a t mask held cs)
      ∙ sym (on_columns_or_one_met r t name a cs)

  pub not_met : (some : Bool) → some ≡ covers_some (has_bit mask) → some ≡ false → false ≡ list_all (meets r t) (on_columns_or_one name a cs)
  not_met some e nay = ap (λ b. b && list_all (covers (has_bit mask)) cs) (sym nay) ∙ met some (list_all (covers (has_bit mask)) cs) e refl

  pub all_met : (some each : Bool) → some ≡ covers_some (has_bit mask) → each ≡ list_all (covers (has_bit mask)) cs → some ≡ true → each ≡ list_all (meets r t) (on_columns_or_one name a cs)
  all_met some each e f so = ap (λ b. b && each) (sym so) ∙ met some each e f

  pub columns_met : (each : Bool) → each ≡ list_all (covers (has_bit mask)) cs → each ≡ list_all (meets r t) (on_columns name a cs)
  columns_met each e = e ∙ each_alike r a t mask held cs ∙ sym (on_columns_met r t name a cs)

-- rows are written by their columns, but for DELETE
module _ (r : Rights) (t : TableDefinition) (name : TheName) where
  pub as_columns : (a : Action) → (a ≡ action.Delete → ⊥) → (cs : List ℕ) → list_all (meets r t) (on_columns_or_one name a cs) ≡ list_all (meets r t) (needs_of_write a name cs)
  as_columns action.Select other cs = refl
  as_columns action.Insert other cs = refl
  as_columns action.Update other cs = refl
  as_columns action.Delete other cs = absurd (other refl)

-- needs that are met in two parts
module _ (r : Rights) (t : TableDefinition) where
  pub alone_met : (n : Need) (x : Bool) → x ≡ meets r t n → x ≡ list_all (meets r t) (n ∷ [])
  alone_met n x e = e ∙ sym (and_true (meets r t n)) where
    and_true : (b : Bool) → (b && true) ≡ b
    and_true true = refl
    and_true false = refl

  pub two_met : (ns ms : List Need) (a b : Bool) → a ≡ list_all (meets r t) ns → b ≡ list_all (meets r t) ms → a ≡ true → b ≡ list_all (meets r t) (ns ++ ms)
  two_met ns ms a b e f so = ap (λ x. x && b) (sym so ∙ e) ∙ ap (λ x. list_all (meets r t) ns && x) f ∙ sym (list_all-append (meets r t) ns ms)

  pub one_not_met : (ns ms : List Need) (a : Bool) → a ≡ list_all (meets r t) ns → a ≡ false → a ≡ list_all (meets r t) (ns ++ ms)
  one_not_met ns ms a e nay = nay ∙ ap (λ x. x && list_all (meets r t) ms) (sym nay ∙ e) ∙ sym (list_all-append (meets r t) ns ms)
