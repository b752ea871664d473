-- What finite chains of elements lead to.
use Rattle.std.specs.Prelude.{◌≡◌, ◌<◌, ◌↔◌, ℕ, Bool, true, false, List, Option, None, Some, All, length, get_or}
use Rattle.reachability.specs.declared.elements.Elements.{Elements as Lent}

-- elements by their index: whether each is a start, the key that it waits for, and the key that it gives, if any
pub record Elements : Type 0 where
  pub starts : List Bool
  pub waits_for : List ℕ
  pub gives : List (Option ℕ)

-- the elements that are lent
abbrev pub elements_of : Lent → Elements
elements_of e = record { starts = e.starts.now; waits_for = e.waits_for.now; gives = e.gives.now }

-- each element has a key that it waits for and one that it gives, if any, and these are numbers below the count of keys
pub record HaveKeysBelow (keys : ℕ) (es : Elements) : Type 0 where
  pub waits_for_count : length es.waits_for ≡ length es.starts
  pub gives_count : length es.gives ≡ length es.starts
  pub waits_for : All (λ key. key < keys) es.waits_for
  pub gives : (i key : ℕ) → get_or es.gives i None ≡ Some key → key < keys

-- one element gives the key that another one waits for
pub record LeadsTo (es : Elements) (p q : ℕ) : Type 0 where
  pub inside : q < length es.starts
  pub key : get_or es.gives p None ≡ Some (get_or es.waits_for q 0)

-- a finite chain of elements leads to this one: the first is a start, and each leads to the next
pub data IsReached (es : Elements) : ℕ → Type 0 where
  by_start : (i : ℕ) → i < length es.starts → get_or es.starts i false ≡ true → IsReached es i
  by_step : (p q : ℕ) → IsReached es p → LeadsTo es p q → IsReached es q

-- these marks are those of the elements that are reached
pub record AreReached (es : Elements) (marks : List Bool) : Type 0 where
  pub count : length marks ≡ length es.starts
  pub each : (i : ℕ) → (get_or marks i false ≡ true) ↔ IsReached es i
