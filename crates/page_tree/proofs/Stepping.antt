-- What is ahead of a walk.
use Rattle.std.proofs.Common.{◌≡◌, ⊎_elim, ℕ, ◌<◌, true, false, Option, Some, None, List, [], ◌∷◌, ◌++◌, length, take, drop, ◌+◌, ◌-◌, refl, sym, ap, ◌∙◌, subst, arith, append_assoc, length-append, length-drop}
use Rattle.std.proofs.lemmas.Bool.{cases_Bool, false≢true, true_from_ne_false}
use Rattle.page_nodes.specs.declared.cell.NodeKind.TheVariants.{Leaf}
use Rattle.page_nodes.specs.Map.{is_below, Entry, AllAbove, IsRising, first_at, low_entries, rest_entries}
use Rattle.page_nodes.proofs.Order.{one_way, lt_le}
use Rattle.page_nodes.proofs.Cells.{ahead_more, cell_long, part_ahead}
use Rattle.page_nodes.proofs.Scan.{low_rest}
use Rattle.page_tree.proofs.Bounds.{irreflexive}
use Rattle.page_tree.proofs.After.{up, down}
use Rattle.page_nodes.specs.Node.{two_bytes, cell_bytes, IsCellAt}
use Rattle.page_tree.proofs.Kept.{head_left}
use Rattle.page_tree.specs.Search.{IsFound, key_of, value_of}
use Rattle.page_tree.specs.Kept.{KeepsPlace}
use Rattle.page_tree.specs.Ahead.{AreInLeaf, IsFoundAt, IsStepped, part_of}
use Rattle.page_tree.specs.declared.cursor.TreeCursor.{TreeCursor}
use Rattle.page_tree.specs.declared.leaf.CellParts.{CellParts}
use Rattle.page_tree.specs.declared.tree_walk.TreeWalk.{TreeWalk}

-- where there is a first entry from a key on, it is the first of those from the key on
pub rest_first : (key : List ℕ) (map : List Entry) (e : Entry) → first_at key map ≡ Some e → (later : List Entry) × (rest_entries key map ≡ e ∷ later)
rest_first key [] e is = absurd (let bad : None ≡ Some e = is in cc)
rest_first key (x ∷ xs) e is = ⊎_elim
    (λ yes. let there : first_at key xs ≡ Some e = rw yes at is in let later = rest_first key xs e there in (later.0, rw yes later.1))
    (λ no. let here : Some x ≡ Some e = rw no at is in let same : x ≡ e = cc in (xs, rw no (ap (λ (y : Entry). y ∷ xs) same)))
    (cases_Bool (is_below x.0 key))

-- where there is none, nothing is from the key on
pub rest_none : (key : List ℕ) (map : List Entry) → first_at key map ≡ None → rest_entries key map ≡ []
rest_none key [] is = refl
rest_none key (x ∷ xs) is = ⊎_elim
    (λ yes. let there : first_at key xs ≡ None = rw yes at is in rw yes (rest_none key xs there))
    (λ no. let here : Some x ≡ None = rw no at is in absurd (let bad = here in cc))
    (cases_Bool (is_below x.0 key))

-- the entry behind others is above the first of them
above_one : (key : List ℕ) (xs ys : List Entry) (e : Entry) → AllAbove key (xs ++ (e ∷ ys)) → is_below key e.0 ≡ true
above_one key [] ys e all = all.0
above_one key (x ∷ xs) ys e all = above_one key xs ys e all.1

not_itself : (key : List ℕ) → is_below key key ≡ true → ⊥
not_itself key below = absurd (false≢true (sym (irreflexive key) ∙ below))

-- the entries from a key on, of a map that is cut before the first of them
pub rest_from : (key : List ℕ) (front later : List Entry) (e : Entry) → IsRising (front ++ (e ∷ later)) → first_at key (front ++ (e ∷ later)) ≡ Some e → rest_entries key (front ++ (e ∷ later)) ≡ e ∷ later
rest_from key [] later e rising is = ⊎_elim
    (λ yes. let there : first_at key later ≡ Some e = rw yes at is in absurd (not_itself e.0 (first_above e.0 key later e rising.0 there)))
    (λ no. rw no refl)
    (cases_Bool (is_below e.0 key))
  where
    first_above : (low key : List ℕ) (xs : List Entry) (e : Entry) → AllAbove low xs → first_at key xs ≡ Some e → is_below low e.0 ≡ true
    first_above low key [] e all is = absurd (let bad : None ≡ Some e = is in cc)
    first_above low key (x ∷ xs) e all is = ⊎_elim
        (λ yes. let there : first_at key xs ≡ Some e = rw yes at is in first_above low key xs e all.1 there)
        (λ no. let here : Some x ≡ Some e = rw no at is in let same : x ≡ e = cc in subst (λ (y : Entry). is_below low y.0 ≡ true) same all.0)
        (cases_Bool (is_below x.0 key))
rest_from key (x ∷ xs) later e rising is = ⊎_elim
    (λ yes. let there : first_at key (xs ++ (e ∷ later)) ≡ Some e = rw yes at is in rw yes (rest_from key xs later e rising.1 there))
    (λ no. let here : Some x ≡ Some e = rw no at is in let same : x ≡ e = cc in
    absurd (not_itself e.0 (subst (λ (y : Entry). is_below y.0 e.0 ≡ true) same (above_one x.0 xs later e rising.0))))
    (cases_Bool (is_below x.0 key))

-- a key is below the next one, and what is above it is not
before_next : (key : List ℕ) → is_below key (key ++ (0 ∷ [])) ≡ true
before_next key = true_from_ne_false (is_below key (key ++ (0 ∷ []))) (λ not. not_itself key (up key key not))

from_next : (key other : List ℕ) → is_below key other ≡ true → is_below other (key ++ (0 ∷ [])) ≡ false
from_next key other below = ⊎_elim
    (λ yes. absurd (false≢true (sym (down key other yes) ∙ below)))
    (λ no. no)
    (cases_Bool (is_below other (key ++ (0 ∷ []))))

all_from_next : (key : List ℕ) (es : List Entry) → AllAbove key es → rest_entries (key ++ (0 ∷ [])) es ≡ es
all_from_next key [] all = refl
all_from_next key (e ∷ es) all = rw (from_next key e.0 all.0) refl

-- behind an entry are the entries from the next key on
pub rest_behind : (front later : List Entry) (e : Entry) → IsRising (front ++ (e ∷ later)) → rest_entries (e.0 ++ (0 ∷ [])) (front ++ (e ∷ later)) ≡ later
rest_behind [] later e rising = rw (before_next e.0) (all_from_next e.0 later rising.0)
rest_behind (x ∷ xs) later e rising =
    let below : is_below x.0 (e.0 ++ (0 ∷ [])) ≡ true = lt_le x.0 e.0 (e.0 ++ (0 ∷ [])) (above_one x.0 xs later e rising.0) (one_way e.0 (e.0 ++ (0 ∷ [])) (before_next e.0)) in
    rw below (rest_behind xs later e rising.1)

-- ---- steps

found_pair : (o : Option Entry) (key value : List ℕ) → IsFound o true key value → o ≡ Some (key, value)
found_pair None key value is = absurd (false≢true (sym is))
found_pair (Some e) key value is = rw (is.1, is.2) refl

pub found_none : (o : Option Entry) (key value : List ℕ) → IsFound o false key value → o ≡ None
found_none None key value is = refl
found_none (Some e) key value is = absurd (false≢true is.0)

one_more : (map front later : List Entry) (e : Entry) → map ≡ front ++ (e ∷ later) → map ≡ (front ++ (e ∷ [])) ++ later
one_more map front later e is = is ∙ sym (append_assoc front (e ∷ []) later)

tail_is : (e : Entry) (xs ys : List Entry) → e ∷ xs ≡ e ∷ ys → xs ≡ ys
tail_is e xs ys same = cc

-- the first entry from a key on is found in a leaf
module _ (map : List Entry) (from : List ℕ) (walk : TreeWalk) (rising : IsRising map) (place : KeepsPlace map walk.cursor)
    (next : walk.cursor.leaf.left ≡ 0 → walk.next.items ≡ key_of walk.cursor ++ (0 ∷ [])) where
  abbrev e : Entry
  e = (key_of walk.cursor, value_of walk.cursor)

  module _ (later : List Entry) (first : first_at from map ≡ Some e) (rest : rest_entries from map ≡ e ∷ later) where
    in_leaf : 0 < walk.cursor.leaf.left → AreInLeaf map walk later
    in_leaf some =
        let p = place some in
        let cut = rest_from from p.front (p.cells ++ p.behind) e (subst (λ (es : List Entry). IsRising es) p.map_is rising) (ap (λ (es : List Entry). first_at from es) (sym p.map_is) ∙ first) in
        let later_is : later ≡ p.cells ++ p.behind = tail_is e later (p.cells ++ p.behind) (sym rest ∙ (ap (λ (es : List Entry). rest_entries from es) p.map_is ∙ cut)) in
        record {
          front = p.front ++ (e ∷ []);
          cells = p.cells;
          behind = p.behind;
          map_is = one_more map p.front later e (p.map_is ∙ ap (λ (es : List Entry). p.front ++ (e ∷ es)) (sym later_is));
          entries_are = later_is;
          left = p.left;
        }

    at_key : walk.cursor.leaf.left ≡ 0 → later ≡ rest_entries walk.next.items map
    at_key none =
        let whole : map ≡ low_entries from map ++ (e ∷ later) = low_rest from map ∙ ap (λ (es : List Entry). low_entries from map ++ es) rest in
        let behind = rest_behind (low_entries from map) later e (subst (λ (es : List Entry). IsRising es) whole rising) in
        sym (ap (λ (k : List ℕ). rest_entries k map) (next none) ∙ (ap (λ (es : List Entry). rest_entries (e.0 ++ (0 ∷ [])) es) whole ∙ behind))

  pub first_found : (entries : List Entry) → entries ≡ rest_entries from map → IsFound (first_at from map) true (key_of walk.cursor) (value_of walk.cursor) → walk.found ≡ None → IsStepped map true walk entries
  first_found entries is found found_is =
      let first = found_pair (first_at from map) (key_of walk.cursor) (value_of walk.cursor) found in
      let rest = rest_first from map e first in (
        e,
        rest.0,
        is ∙ rest.1,
        subst (λ (o : Option CellParts). IsFoundAt o walk.cursor e) (sym found_is) (refl, refl),
        record { in_leaf = in_leaf rest.0 first rest.1; at_key = at_key rest.0 first rest.1 },
      )

-- where a cell ends
pub cell_end : (bytes : List ℕ) (at : ℕ) (key payload : List ℕ) (end : ℕ) → IsCellAt Leaf bytes at key payload end → end ≡ at + 4 + length key + length payload
cell_end bytes at key payload end cell =
    let long = ap (λ (xs : List ℕ). length xs) cell.spelled in
    omega (arith, long, length-drop at bytes, length-append (cell_bytes Leaf (key, payload)) (drop end bytes), length-drop end bytes, cell_long Leaf (key, payload), cell.order, cell.inside)

-- its key and its value, which are at its end
cell_parts : (bytes : List ℕ) (at : ℕ) (key payload : List ℕ) (end : ℕ) → end ≡ at + 4 + length key + length payload → IsCellAt Leaf bytes at key payload end
    → (part_of bytes (end - length payload - length key) (end - length payload) ≡ key) × (part_of bytes (end - length payload) end ≡ payload)
unfolding cell_bytes
cell_parts bytes at key payload end is cell =
    let after = drop end bytes in
    let all : drop at bytes ≡ two_bytes (length key) ++ (two_bytes (length payload) ++ ((key ++ payload) ++ after)) = cell.spelled in
    let two : drop (at + 2) bytes ≡ two_bytes (length payload) ++ ((key ++ payload) ++ after) = ahead_more at 2 bytes (two_bytes (length key)) (two_bytes (length payload) ++ ((key ++ payload) ++ after)) refl all in
    let four : drop (at + 2 + 2) bytes ≡ (key ++ payload) ++ after = ahead_more (at + 2) 2 bytes (two_bytes (length payload)) ((key ++ payload) ++ after) refl two in
    let here : drop (at + 2 + 2) bytes ≡ key ++ (payload ++ after) = four ∙ append_assoc key payload after in
    let behind : drop (at + 2 + 2 + length key) bytes ≡ payload ++ after = ahead_more (at + 2 + 2) (length key) bytes key (payload ++ after) refl here in
    let key_at : end - length payload - length key ≡ at + 2 + 2 = omega (arith, is) in
    let value_at : end - length payload ≡ at + 2 + 2 + length key = omega (arith, is) in
    let key_long : (end - length payload) - (end - length payload - length key) ≡ length key = omega (arith, is) in
    let payload_long : end - (end - length payload) ≡ length payload = omega (arith, is) in (
      ap (λ (n : ℕ). take n (drop (end - length payload - length key) bytes)) key_long ∙ (ap (λ (n : ℕ). take (length key) (drop n bytes)) key_at ∙ part_ahead (at + 2 + 2) (length key) bytes key (payload ++ after) refl here),
      ap (λ (n : ℕ). take n (drop (end - length payload) bytes)) payload_long ∙ (ap (λ (n : ℕ). take (length payload) (drop n bytes)) value_at ∙ part_ahead (at + 2 + 2 + length key) (length payload) bytes payload after refl behind),
    )

-- the next cell of a leaf is found
pub next_found : (map : List Entry) (before walk : TreeWalk) (entries : List Entry) (key payload : List ℕ) (end : ℕ) (b : CellParts) → IsRising map → AreInLeaf map before entries → 0 < before.cursor.leaf.left
    → IsCellAt Leaf before.cursor.leaf.page before.cursor.leaf.at key payload end
    → walk.found ≡ Some b → b.key_at ≡ end - length payload - length key → b.value_at ≡ end - length payload → b.end ≡ end
    → walk.cursor.leaf.page ≡ before.cursor.leaf.page → walk.cursor.leaf.at ≡ end → walk.cursor.leaf.left ≡ before.cursor.leaf.left - 1
    → (walk.cursor.leaf.left ≡ 0 → walk.next.items ≡ key ++ (0 ∷ [])) → IsStepped map true walk entries
next_found map before walk entries key payload end b rising p some view found key_at value_at ends page goes count next =
    let h = head_left p.cells before.cursor key payload end p.left some view in
    let later = h.cs ++ p.behind in
    let entries_are : entries ≡ h.c ∷ later = p.entries_are ∙ ap (λ (xs : List Entry). xs ++ p.behind) h.cells_are in
    let whole : map ≡ p.front ++ (h.c ∷ later) = p.map_is ∙ ap (λ (es : List Entry). p.front ++ es) entries_are in
    let parts = cell_parts before.cursor.leaf.page before.cursor.leaf.at key payload end (cell_end before.cursor.leaf.page before.cursor.leaf.at key payload end view) view in
    let key_there : part_of walk.cursor.leaf.page b.key_at b.value_at ≡ h.c.0 = rw (page, key_at, value_at) (parts.0 ∙ h.key_is) in
    let value_there : part_of walk.cursor.leaf.page b.value_at b.end ≡ h.c.1 = rw (page, value_at, ends) (parts.1 ∙ h.payload_is) in
    let long = ap (λ (xs : List Entry). length xs) h.cells_are in (
      h.c,
      later,
      entries_are,
      subst (λ (o : Option CellParts). IsFoundAt o walk.cursor h.c) (sym found) (key_there, value_there),
      record {
        in_leaf = λ more. record {
          front = p.front ++ (h.c ∷ []);
          cells = h.cs;
          behind = p.behind;
          map_is = one_more map p.front later h.c whole;
          entries_are = refl;
          left = record { after = p.left.after; spelled = rw (page, goes) h.rest; count = omega (arith, count, p.left.count, long, some) };
        };
        at_key = λ none.
            let behind = rest_behind p.front later h.c (subst (λ (es : List Entry). IsRising es) whole rising) in
            let from : walk.next.items ≡ h.c.0 ++ (0 ∷ []) = next none ∙ ap (λ (k : List ℕ). k ++ (0 ∷ [])) h.key_is in
            sym (ap (λ (k : List ℕ). rest_entries k map) from ∙ (ap (λ (es : List Entry). rest_entries (h.c.0 ++ (0 ∷ [])) es) whole ∙ behind));
      },
    )

-- a cursor that keeps a place in each map keeps no leaf
pub none_left : (cursor : TreeCursor) → KeepsPlace [] cursor → 0 < cursor.leaf.left → ⊥
none_left cursor place some =
    let p = place some in
    let long = ap (λ (xs : List Entry). length xs) p.map_is in
    omega (arith, long, length-append p.front ((key_of cursor, value_of cursor) ∷ (p.cells ++ p.behind)))
