-- The place of a cursor in a map.
use Rattle.std.proofs.Common.{◌≡◌, ⊎_elim, ℕ, ◌-◌, ◌<◌, Bool, true, false, Option, Some, None, Result, Ok, Err, List, [], ◌∷◌, ◌++◌, length, refl, sym, ap, ◌∙◌, append_assoc, arith, subst}
use Rattle.std.specs.Prelude.{◌≢◌, MatchResult}
use Rattle.std.proofs.lemmas.Bool.{cases_Bool, false≢true}
use Rattle.std.proofs.lemmas.List.{append-nil}
use Rattle.pages.specs.declared.array.PageFault.{PageFault}
use Rattle.pages.specs.declared.array.PageFault.TheVariants.{Memory}
use Rattle.page_nodes.specs.declared.cell.NodeKind.TheVariants.{Leaf}
use Rattle.page_nodes.specs.Map.{is_below, Entry, AllAbove, IsRising, first_at, low_entries, rest_entries}
use Rattle.page_nodes.specs.Node.{IsCellAt}
use Rattle.page_nodes.proofs.Order.{lt_lt}
use Rattle.page_nodes.proofs.Scan.{IsHead, head_of, low_rest}
use Rattle.page_tree.specs.Search.{key_of, value_of, IsFound}
use Rattle.page_tree.specs.Kept.{AreLeft, IsTakenFrom, IsPlaced, KeepsPlace, IsFoundIn}
use Rattle.page_tree.specs.declared.cursor.TreeCursor.{TreeCursor}

-- the first of the cells that are left is read
pub head_left : (cells : List Entry) (cursor : TreeCursor) (key payload : List ℕ) (end : ℕ) → (left : AreLeft cells cursor) → 0 < cursor.leaf.left → IsCellAt Leaf cursor.leaf.page cursor.leaf.at key payload end
    → IsHead Leaf cursor.leaf.page cells left.after key payload end
head_left cells cursor key payload end left some view =
    head_of Leaf cursor.leaf.page cursor.leaf.at cells left.after key payload end left.spelled (omega (arith, left.count, some)) view

-- and taken
pub taken_from : (cells : List Entry) (before cursor : TreeCursor) (key payload : List ℕ) (end : ℕ) → AreLeft cells before → 0 < before.leaf.left → IsCellAt Leaf before.leaf.page before.leaf.at key payload end
    → key_of cursor ≡ key → value_of cursor ≡ payload → cursor.leaf.page ≡ before.leaf.page → cursor.leaf.at ≡ end → cursor.leaf.left ≡ before.leaf.left - 1 → IsTakenFrom cells true cursor
taken_from cells before cursor key payload end left some view key_is payload_is page at count =
    let h = head_left cells before key payload end left some view in
    let long = ap (λ (xs : List Entry). length xs) h.cells_are in
    subst (λ (xs : List Entry). IsTakenFrom xs true cursor) (sym h.cells_are) (
      refl,
      key_is ∙ h.key_is,
      payload_is ∙ h.payload_is,
      record { after = left.after; spelled = rw (page, at) h.rest; count = omega (arith, count, left.count, long) },
    )

entry_is : (key value : List ℕ) (e : Entry) → key ≡ e.0 → value ≡ e.1 → ◌≡◌ {A = Entry} (key, value) e
entry_is key value e k v = rw (k, v) refl

-- the first entry at or after a key is the first of those that are
first_of : List Entry → Option Entry
first_of [] = None
first_of (e ∷ es) = Some e

first_is : (key : List ℕ) (es : List Entry) → first_at key es ≡ first_of (rest_entries key es)
unfolding first_of
first_is key [] = refl
first_is key (e ∷ es) = ⊎_elim (λ yes. rw yes (first_is key es)) (λ no. rw no refl) (cases_Bool (is_below e.0 key))

-- the first of the last entries of a map is taken
found_as_first : (map low rest : List Entry) (key : List ℕ) (found : Bool) (cursor : TreeCursor) → map ≡ low ++ rest → first_at key map ≡ first_of rest → IsTakenFrom rest found cursor → IsFoundIn map key found cursor
unfolding first_of
found_as_first map low [] key found cursor whole first taken =
    (rw first taken.0, λ some. absurd (omega (arith, taken.1, some)))
found_as_first map low (c ∷ cs) key found cursor whole first taken = (
  rw first (taken.0, taken.1, taken.2),
  λ some. record {
    front = low;
    cells = cs;
    behind = [];
    map_is = whole ∙ (ap (λ (xs : List Entry). low ++ (c ∷ xs)) (sym (append-nil cs)) ∙ ap (λ (e : Entry). low ++ (e ∷ (cs ++ []))) (sym (entry_is (key_of cursor) (value_of cursor) c taken.1 taken.2)));
    left = taken.3;
  },
)

pub entry_taken : (key : List ℕ) (es : List Entry) (cursor : TreeCursor) (r : Result Bool PageFault)
    → MatchResult r (λ found. IsTakenFrom (rest_entries key es) found cursor) (λ f. (f ≡ Memory) × (cursor.leaf.left ≡ 0)) → MatchResult r (λ found. IsFoundIn es key found cursor) (λ f. f ≡ Memory)
entry_taken key es cursor (Ok found) is = found_as_first es (low_entries key es) (rest_entries key es) key found cursor (low_rest key es) (first_is key es) is
entry_taken key es cursor (Err f) is = is.0

-- the entry right behind one that is below a key
above_one : (key : List ℕ) (xs ys : List Entry) (e : Entry) → AllAbove key (xs ++ (e ∷ ys)) → is_below key e.0 ≡ true
above_one key [] ys e all = all.0
above_one key (x ∷ xs) ys e all = above_one key xs ys e all.1

first_behind : (key : List ℕ) (front : List Entry) (e c : Entry) (cs : List Entry) → IsRising (front ++ (e ∷ (c ∷ cs))) → is_below e.0 key ≡ true → is_below c.0 key ≡ false
    → first_at key (front ++ (e ∷ (c ∷ cs))) ≡ Some c
first_behind key [] e c cs rising below not = rw (below, not) refl
first_behind key (x ∷ xs) e c cs rising below not =
    rw (lt_lt x.0 e.0 key (above_one x.0 xs (c ∷ cs) e rising.0) below) (first_behind key xs e c cs rising.1 below not)

answer_is : (a b : Bool) → ◌≡◌ {A = Result Bool PageFault} (Ok a) (Ok b) → a ≡ b
answer_is a b same = cc

-- where there is a first cell, it is taken, or the call fails
pub takes_some : (c : Entry) (cs : List Entry) (cursor : TreeCursor) (r : Result Bool PageFault) (Q : PageFault → Type 0) → MatchResult r (λ found. IsTakenFrom (c ∷ cs) found cursor) Q → r ≢ Ok false
takes_some c cs cursor (Ok found) Q is none = absurd (false≢true (sym (answer_is found false none) ∙ is.0))
takes_some c cs cursor (Err f) Q is none = absurd cc

-- a step of a cursor
module _ (map : List Entry) (key : List ℕ) (before cursor : TreeCursor) (rising : IsRising map) (p : IsPlaced map before) (c : Entry) (cs : List Entry) (cells_are : p.cells ≡ c ∷ cs)
    (below : is_below (key_of before) key ≡ true) (not : is_below c.0 key ≡ false) where
  map_is : map ≡ p.front ++ ((key_of before, value_of before) ∷ (c ∷ (cs ++ p.behind)))
  map_is = p.map_is ∙ ap (λ (xs : List Entry). p.front ++ ((key_of before, value_of before) ∷ (xs ++ p.behind))) cells_are

  first_next : first_at key map ≡ Some c
  first_next =
      ap (λ (es : List Entry). first_at key es) map_is
      ∙ first_behind key p.front (key_of before, value_of before) c (cs ++ p.behind) (subst (λ (es : List Entry). IsRising es) map_is rising) below not

  pub stepped : (r : Result Bool PageFault) → MatchResult r (λ found. IsTakenFrom (c ∷ cs) found cursor) (λ f. (f ≡ Memory) × (cursor.leaf.left ≡ 0))
      → MatchResult r (λ found. found ≡ true → IsFound (first_at key map) true (key_of cursor) (value_of cursor)) (λ f. f ≡ Memory) × KeepsPlace map cursor
  stepped (Ok found) is = (
    λ yes. rw first_next (refl, is.1, is.2),
    λ some. record {
      front = p.front ++ ((key_of before, value_of before) ∷ []);
      cells = cs;
      behind = p.behind;
      map_is = map_is
          ∙ (sym (append_assoc p.front ((key_of before, value_of before) ∷ []) (c ∷ (cs ++ p.behind)))
          ∙ ap (λ (e : Entry). (p.front ++ ((key_of before, value_of before) ∷ [])) ++ (e ∷ (cs ++ p.behind))) (sym (entry_is (key_of cursor) (value_of cursor) c is.1 is.2)));
      left = is.3;
    },
  )
  stepped (Err f) is = (is.0, λ some. absurd (omega (arith, is.1, some)))

-- a place in a map is one in a map around it
pub place_within : (before map after : List Entry) (cursor : TreeCursor) → KeepsPlace map cursor → KeepsPlace (before ++ (map ++ after)) cursor
place_within before map after cursor keeps = λ some.
    let p = keeps some in
    let e : Entry = (key_of cursor, value_of cursor) in
    record {
      front = before ++ p.front;
      cells = p.cells;
      behind = p.behind ++ after;
      map_is = ap (λ (es : List Entry). before ++ (es ++ after)) p.map_is
          ∙ (ap (λ (es : List Entry). before ++ es) (append_assoc p.front (e ∷ (p.cells ++ p.behind)) after ∙ ap (λ (es : List Entry). p.front ++ (e ∷ es)) (append_assoc p.cells p.behind after))
          ∙ sym (append_assoc before p.front (e ∷ (p.cells ++ (p.behind ++ after)))));
      left = p.left;
    }
