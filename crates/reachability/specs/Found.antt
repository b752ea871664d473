-- Elements that are found: marked, and in a queue in the order in which they were.
use Rattle.std.specs.Prelude.{◌≡◌, ◌<◌, ◌≤◌, ◌⊎◌, ℕ, Bool, true, false, List, length, get_or, count_by}

abbrev pub itself : Bool → Bool
itself mark = mark

-- the element of this index has a mark
abbrev pub IsMarked : List Bool → ℕ → Type 0
IsMarked marks i = get_or marks i false ≡ true

-- one of the first n of a list
abbrev pub IsAmongFirst : ℕ → List ℕ → ℕ → Type 0
IsAmongFirst n list i = (k : ℕ) × (k < n) × (get_or list k 0 ≡ i)

-- each element in the queue is marked, each marked one is in the queue, and none is there twice: they are as many
pub record IsQueueOf (marks : List Bool) (queue : List ℕ) : Type 0 where
  pub marked : (at : ℕ) → at < length queue → IsMarked marks (get_or queue at 0)
  pub queued : (i : ℕ) → IsMarked marks i → (at : ℕ) × (at < length queue) × (get_or queue at 0 ≡ i)
  pub once : length queue ≡ count_by itself marks

-- the elements of which P holds are found in addition, behind those that were
pub record Finds (P : ℕ → Type 0) (marks : List Bool) (queue : List ℕ) (new_marks : List Bool) (new_queue : List ℕ) : Type 0 where
  pub count : length new_marks ≡ length marks
  pub preserved : (i : ℕ) → IsMarked marks i → IsMarked new_marks i
  pub found : (i : ℕ) → P i → IsMarked new_marks i
  pub only : (i : ℕ) → IsMarked new_marks i → IsMarked marks i ⊎ P i
  pub longer : length queue ≤ length new_queue
  pub front : (at : ℕ) → at < length queue → get_or new_queue at 0 ≡ get_or queue at 0
