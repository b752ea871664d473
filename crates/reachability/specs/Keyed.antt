-- What finite chains of elements lead to, where keys are values of any type.
use Rattle.std.specs.Prelude.{◌≡◌, ◌<◌, ◌↔◌, ℕ, Bool, true, false, List, Option, None, Some, length, slice_get, get_or}
use Rattle.std.specs.List.{IsDistinct}
use Rattle.reachability.specs.declared.keyed.Element.{Element}
use Rattle.reachability.specs.declared.numbered.Numbered.{Numbered}

-- whether the key that is given, if any, is the one that is waited for
abbrev pub gives_key : {K : Type 0} → (K → K → Bool) → Option K → K → Bool
gives_key eq None key = false
gives_key eq (Some given) key = eq given key

-- a finite chain of elements leads to this one: the first is a start, and each gives the key that the next waits for
pub data IsReachedByKeys {K : Type 0} (eq : K → K → Bool) (es : List (Element K)) : ℕ → Type 0 where
  by_start : (i : ℕ) (e : Element K) → slice_get es i ≡ Some e → e.is_start ≡ true → IsReachedByKeys eq es i
  by_step : (p q : ℕ) (d e : Element K) → IsReachedByKeys eq es p → slice_get es p ≡ Some d → slice_get es q ≡ Some e
      → gives_key eq d.gives e.waits_for ≡ true → IsReachedByKeys eq es q

-- these marks are those of the elements that are reached
pub record AreReachedByKeys {K : Type 0} (eq : K → K → Bool) (es : List (Element K)) (marks : List Bool) : Type 0 where
  pub count : length marks ≡ length es
  pub each : (i : ℕ) → (get_or marks i false ≡ true) ↔ IsReachedByKeys eq es i

-- ---- numbers in place of keys

-- at this number of the list stands a key that equals this one
abbrev pub IsNumberOf : {K : Type 0} → (K → K → Bool) → List K → K → ℕ → Type 0
IsNumberOf {K} eq known key n = (k : K) × (slice_get known n ≡ Some k) × (eq key k ≡ true)

abbrev pub IsNumberIfAny : {K : Type 0} → (K → K → Bool) → List K → Option K → Option ℕ → Type 0
IsNumberIfAny eq known None None = Unit {0}
IsNumberIfAny eq known None (Some n) = ⊥
IsNumberIfAny eq known (Some key) None = ⊥
IsNumberIfAny eq known (Some key) (Some n) = IsNumberOf eq known key n

-- what stands at a number stays there
abbrev pub Extends : {K : Type 0} → List K → List K → Type 0
Extends {K} old new = (n : ℕ) (k : K) → slice_get old n ≡ Some k → slice_get new n ≡ Some k

-- the element at an index has these parts
pub record IsNumbered {K : Type 0} (eq : K → K → Bool) (known : List K) (e : Element K) (mark : Bool) (waited : ℕ) (given : Option ℕ) : Type 0 where
  pub start : mark ≡ e.is_start
  pub waits_for : IsNumberOf eq known e.waits_for waited
  pub gives : IsNumberIfAny eq known e.gives given

-- the first n elements have their parts in these lists
pub record NumberFirst {K : Type 0} (eq : K → K → Bool) (known : List K) (n : ℕ) (es : List (Element K)) (starts : List Bool) (waits_for : List ℕ) (gives : List (Option ℕ)) : Type 0 where
  pub starts_count : length starts ≡ n
  pub waits_for_count : length waits_for ≡ n
  pub gives_count : length gives ≡ n
  pub each : (i : ℕ) (e : Element K) → i < n → slice_get es i ≡ Some e → IsNumbered eq known e (get_or starts i false) (get_or waits_for i 0) (get_or gives i None)

-- the numbers of some list of distinct keys
pub record AreNumbered {K : Type 0} (eq : K → K → Bool) (es : List (Element K)) (numbered : Numbered) : Type 0 where
  pub known : List K
  pub distinct : IsDistinct eq known
  pub count : numbered.keys ≡ length known
  pub each : NumberFirst eq known (length es) es numbered.starts.items numbered.waits_for.items numbered.gives.items
