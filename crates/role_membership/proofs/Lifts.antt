-- Chains by keys are chains of the definitions, where each element of a list stands at some index, and its key is given by
-- those before it in a chain.
use Rattle.std.proofs.Common.{◌≡◌, ℕ, Bool, true, List, Option, Some, None, slice_get, refl, sym, ap, ◌∙◌}
use Rattle.std.proofs.lemmas.Bool.{false≢true}
use Rattle.std.proofs.lemmas.Option.{same_Some}
use Rattle.reachability.specs.declared.keyed.Element.{Element}
use Rattle.reachability.specs.Keyed.{gives_key, IsReachedByKeys}
use Rattle.reachability.specs.Keyed.{by_start as start_by_keys, by_step as step_by_keys}
use Rattle.abstract_database.specs.Lists.{Among}
use Rattle.abstract_database.specs.Chains.{IsLedTo, by_start, by_step}
use Rattle.abstract_database.proofs.ChainLemmas.{led_among}

-- where the elements of a list stand, and what they are
pub record Stand {K X : Type 0} (eq : K → K → Bool) (es : List (Element K)) (s : X → Bool) (t : X → X → Bool) (xs : List X) (At : ℕ → X → Type 0) : Type 0 where
  pub among : (i : ℕ) (x : X) → At i x → Among x xs
  pub place : (x : X) → Among x xs → (i : ℕ) × At i x
  pub element : (i : ℕ) (x : X) → At i x → (e : Element K) × (slice_get es i ≡ Some e) × (e.is_start ≡ s x)
  pub links : (p q : ℕ) (x y : X) (d e : Element K) → At p x → At q y → slice_get es p ≡ Some d → slice_get es q ≡ Some e → gives_key eq d.gives e.waits_for ≡ t x y
  pub given : (p : ℕ) (d : Element K) (k : K) → slice_get es p ≡ Some d → d.gives ≡ Some k → (x : X) × At p x

gives_some : {K : Type 0} (eq : K → K → Bool) (g : Option K) (w : K) → gives_key eq g w ≡ true → (k : K) × (g ≡ Some k)
gives_some eq None w e = absurd (false≢true e)
gives_some eq (Some k) w e = (k, refl)

module _ {K X : Type 0} (eq : K → K → Bool) (es : List (Element K)) (s : X → Bool) (t : X → X → Bool) (xs : List X) (At : ℕ → X → Type 0) (stand : Stand eq es s t xs At) where
  pub led_to : (i : ℕ) → IsReachedByKeys eq es i → (x : X) → At i x → IsLedTo s t xs x
  led_to _ (start_by_keys i e at is) x h =
      let f = stand.element i x h in
      by_start x (stand.among i x h) (sym f.2 ∙ ap (λ (d : Element K). d.is_start) (same_Some f.0 e (sym f.1 ∙ at)) ∙ is)
  led_to _ (step_by_keys p q d e r at_p at_q k) y h =
      let some = gives_some eq d.gives e.waits_for k in
      let before = stand.given p d some.0 at_p some.1 in
      by_step before.0 y (led_to p r before.0 before.1) (stand.among q y h) (sym (stand.links p q before.0 y d e before.1 h at_p at_q) ∙ k)

  pub is_reached : (x : X) → IsLedTo s t xs x → (i : ℕ) → At i x → IsReachedByKeys eq es i
  is_reached _ (by_start x h is) i at = let f = stand.element i x at in start_by_keys i f.0 f.1 (f.2 ∙ is)
  is_reached _ (by_step p x c h e) i at =
      let place = stand.place p (led_among s t xs p c) in
      let before = stand.element place.0 p place.1 in
      let here = stand.element i x at in
      step_by_keys place.0 i before.0 here.0 (is_reached p c place.0 place.1) before.1 here.1
      (stand.links place.0 i p x before.0 here.0 place.1 at before.1 here.1 ∙ e)
