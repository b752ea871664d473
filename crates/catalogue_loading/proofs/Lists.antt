-- Elements of the front of a list, and of the whole.
use Rattle.std.proofs.Common.{◌≡◌, ◌≤◌, ◌<◌, ◌↔◌, IsTrue, ℕ, zero, suc, ◌+◌, Bool, true, false, List, [], ◌∷◌, Some, take, length, slice_get, get_or, refl, sym, ◌∙◌, subst, inl, inr, arith}
use Rattle.std.specs.Prelude.{Result, Ok, Err, IfOk}
use Rattle.std.proofs.Math.Seq.{take_all}
use Rattle.std.proofs.lemmas.Option.{slice_get_read}
use Rattle.abstract_database.specs.Whole.{Each}
use Rattle.abstract_database.proofs.ElementLemmas.{among_at}

module _ {X : Type 0} (P : X → Type 0) where
  each_suc : (xs : List X) (i : ℕ) (x : X) → slice_get xs i ≡ Some x → Each P (take i xs) → P x → Each P (take (suc i) xs)
  each_suc [] i x e h p y among = cc
  each_suc (z ∷ zs) zero x e h p y (inl is) = subst P is (subst P (same e) p) where
    same : (Some z) ≡ Some x → x ≡ z
    same f = cc
  each_suc (z ∷ zs) zero x e h p y (inr later) = absurd later
  each_suc (z ∷ zs) (suc i) x e h p y (inl is) = h y (inl is)
  each_suc (z ∷ zs) (suc i) x e h p y (inr later) = each_suc zs i x e (λ w among. h w (inr among)) p y later

  -- one more element is as P says
  pub each_more : (xs : List X) (i : ℕ) (x : X) → i < length xs → x ≡ get_or xs i x → Each P (take i xs) → P x → Each P (take (i + 1) xs)
  each_more xs i x lt is h p =
      subst (λ n. Each P (take n xs)) {x = suc i} {y = i + 1} (omega arith)
      (each_suc xs i x (slice_get_read xs (length xs) i x refl lt is) h p)

  pub each_all : (xs : List X) (i : ℕ) → length xs ≤ i → Each P (take i xs) → Each P xs
  each_all xs i le h = subst (Each P) (take_all i xs le) h

  -- where one is not, not each is
  pub not_each : (xs : List X) (i : ℕ) (x : X) → i < length xs → x ≡ get_or xs i x → (P x → ⊥) → IsTrue false ↔ Each P xs
  not_each xs i x lt is never = (λ e. cc, λ h. absurd (never (h x (among_at xs i x (slice_get_read xs (length xs) i x refl lt is)))))

pub not_true : (A : Type 0) (b : Bool) → b ≡ false → IsTrue b ↔ A → A → ⊥
not_true A b e iff a = no (sym e ∙ iff.1 a) where
  no : false ≡ true → ⊥
  no f = cc

pub if_ok_more : {A E : Type 0} (P Q : A → Type 0) (r : Result A E) → ((x : A) → P x → Q x) → IfOk r P → IfOk r Q
if_ok_more P Q (Ok x) f h = f x h
if_ok_more P Q (Err e) f h = tt

pub some_of : {X : Type 0} (xs : List X) → (xs ≡ [] → ⊥) → 0 < length xs
some_of [] h = absurd (h refl)
some_of (x ∷ xs) h = omega arith
