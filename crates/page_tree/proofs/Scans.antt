-- The least entry from a key on.
use Rattle.std.proofs.Common.{◌≡◌, ⊎_elim, inl, ℕ, ◌<◌, Bool, true, false, Option, Some, None, List, [], ◌∷◌, ◌++◌, length, refl, sym, ap, ◌∙◌, append_assoc, arith, subst, length-append}
use Rattle.std.proofs.lemmas.Bool.{cases_Bool, false≢true}
use Rattle.std.proofs.lemmas.List.{append-nil}
use Rattle.pages.specs.State.{Array}
use Rattle.page_nodes.specs.declared.cell.CellView.{CellView}
use Rattle.page_nodes.specs.Map.{is_below, Entry, first_at}
use Rattle.page_nodes.specs.Node.{four_bytes}
use Rattle.page_nodes.specs.Search.{later_in, IsPage, IsLent}
use Rattle.page_nodes.proofs.Order.{one_way, lt_le, below_none}
use Rattle.page_tree.specs.Forest.{Forest, no_trees, leaf, inner, append, cells, entries, IsUnder, AllFrom, next, IsSound, IsFull}
use Rattle.page_tree.specs.Site.{IsSubtree, site_of}
use Rattle.page_tree.specs.Search.{IsFound, first_after}
use Rattle.page_tree.specs.Kept.{KeepsPlace}
use Rattle.page_tree.specs.declared.cursor.TreeCursor.{TreeCursor}
use Rattle.page_tree.proofs.Trees.{parts, cells_append, entries_append, next_append, full_left}
use Rattle.page_tree.proofs.Bounds.{first_key, all_from, irreflexive, under_rest}
use Rattle.page_tree.proofs.Place.{Place, placed, entries_around, first_place, after_place, later_place}
use Rattle.page_tree.proofs.Kept.{place_within}
use Rattle.page_tree.proofs.Descent.{AtInner, ReadLeaf}

pub record FirstTree (f : Forest) : Type 0 where
  pub at : Forest
  pub after : Forest
  pub whole : f ≡ append at after
  pub from : List ℕ
  pub page : ℕ
  pub top : cells at ≡ (from, four_bytes page) ∷ []
  pub begins : next at None ≡ Some from

pub first_tree : (f : Forest) (j : List ℕ) → next f None ≡ Some j → FirstTree f
first_tree no_trees j e = absurd (let bad : None ≡ Some j = e in cc)
first_tree (leaf k p es f) j e = record { at = leaf k p es no_trees; after = f; whole = refl; from = k; page = p; top = refl; begins = refl }
first_tree (inner k p c f) j e = record { at = inner k p c no_trees; after = f; whole = refl; from = k; page = p; top = refl; begins = refl }

from_same : (f : Forest) (j : List ℕ) → next f None ≡ Some j → (r : FirstTree f) → j ≡ r.from
from_same f j e r = let all : Some j ≡ Some r.from = sym e ∙ (ap (λ (x : Forest). next x None) r.whole ∙ (next_append r.at r.after None ∙ first_key r.at r.from (next r.after None) r.begins)) in cc

pub full_entries : (f : Forest) → IsFull f → 0 < length (cells f) → 0 < length (entries f)
full_entries no_trees full some = some
full_entries (leaf k p es f) full some = omega (arith, full.0, length-append es (entries f))
full_entries (inner k p c f) full some = omega (arith, full_entries c full.1 (omega (arith, full.0)), length-append (entries c) (entries f))

-- the first tree, with its least key
pub first_tree_at : (A : Array) (d : ℕ) (high : Option (List ℕ)) (f : Forest) (r : FirstTree f) (levels page : ℕ) → IsSound A d high f → IsFull f → d < levels → four_bytes page ≡ four_bytes r.page
    → IsSubtree A (site_of r.at d r.from (next r.after high)) page r.from levels
first_tree_at A d high f r levels page s full shallow same =
    let two = parts A d high r.at r.after (subst (λ (x : Forest). IsSound A d high x) r.whole s) in
    record {
      sound = two.left;
      top = r.top ∙ ap (λ (b : List ℕ). (r.from, b) ∷ []) (sym same);
      full = inl (full_left r.at r.after (subst (λ (x : Forest). IsFull x) r.whole full));
      reaches = irreflexive r.from;
      ends = first_bound A d (next r.after high) r.at r.from two.left r.begins;
      shallow = shallow;
    }
  where
    some_key : (a b : List ℕ) → Some a ≡ Some b → a ≡ b
    some_key a b e = cc

    first_bound : (A : Array) (d : ℕ) (high : Option (List ℕ)) (t : Forest) (k : List ℕ) → IsSound A d high t → next t None ≡ Some k → IsUnder k high
    first_bound A d high no_trees k s e = absurd (let bad : None ≡ Some k = e in cc)
    first_bound A d high (leaf j p es f) k s e = subst (λ (x : List ℕ). IsUnder x high) (some_key j k e) (under_rest A d high f j s.5 s.3)
    first_bound A d high (inner j p c f) k s e = subst (λ (x : List ℕ). IsUnder x high) (some_key j k e) (under_rest A d high f j s.6 s.3)

pub first_tree_full : (f : Forest) (r : FirstTree f) → IsFull f → IsFull r.at
first_tree_full f r full = full_left r.at r.after (subst (λ (x : Forest). IsFull x) r.whole full)

first_tree_some : (f : Forest) (r : FirstTree f) → IsFull f → 0 < length (entries r.at)
first_tree_some f r full = full_entries r.at (first_tree_full f r full) (omega (arith, ap (λ (xs : List Entry). length xs) r.top))

-- the least entry of all is that of the first tree
heads : (xs ys : List Entry) → 0 < length xs → first_at [] (xs ++ ys) ≡ first_at [] xs
heads [] ys some = absurd (omega (arith, some))
heads (x ∷ xs) ys some = rw (below_none x.0) refl

pub least_first_tree : (f : Forest) (r : FirstTree f) → IsFull f → first_at [] (entries f) ≡ first_at [] (entries r.at)
least_first_tree f r full = ap (λ (x : Forest). first_at [] (entries x)) r.whole ∙ (ap (λ (xs : List Entry). first_at [] xs) (entries_append r.at r.after) ∙ heads (entries r.at) (entries r.after) (first_tree_some f r full))

least_above : (key j : List ℕ) (xs : List Entry) → is_below key j ≡ true → AllFrom j xs → first_at key xs ≡ first_at [] xs
least_above key j [] below all = refl
least_above key j (x ∷ xs) below all = rw (below_none x.0, one_way key x.0 (lt_le key j x.0 below all.0)) refl

-- the least entry from a key on, in the tree of the key or after it
first_front : (key : List ℕ) (xs ys : List Entry) (e : Entry) → first_at key xs ≡ Some e → first_at key (xs ++ ys) ≡ Some e
first_front key [] ys e is = absurd (let bad : None ≡ Some e = is in cc)
first_front key (x ∷ xs) ys e is = ⊎_elim (λ yes. let e2 : first_at key xs ≡ Some e = rw yes at is in rw yes (first_front key xs ys e e2)) (λ no. let e2 : Some x ≡ Some e = rw no at is in rw no e2) (cases_Bool (is_below x.0 key))

first_rest : (key : List ℕ) (xs ys : List Entry) → first_at key xs ≡ None → first_at key (xs ++ ys) ≡ first_at key ys
first_rest key [] ys is = refl
first_rest key (x ∷ xs) ys is = ⊎_elim (λ yes. let e2 : first_at key xs ≡ None = rw yes at is in rw yes (first_rest key xs ys e2)) (λ no. let e2 : Some x ≡ None = rw no at is in absurd (let bad = e2 in cc)) (cases_Bool (is_below x.0 key))

given_true : (o p : Option Entry) (key value : List ℕ) → IsFound o true key value → ((e : Entry) → o ≡ Some e → p ≡ Some e) → IsFound p true key value
given_true None p key value g same = absurd (false≢true (sym g))
given_true (Some e) p key value g same = let is = same e refl in rw is g

given_false : (o : Option Entry) (key value : List ℕ) → IsFound o false key value → o ≡ None
given_false None key value g = refl
given_false (Some e) key value g = absurd (false≢true g.0)

module _ (A : Array) (t : Forest) (d : ℕ) (low : List ℕ) (high : Option (List ℕ)) (page : ℕ) (key : List ℕ) (i : AtInner A t d low high page) (p : Place key high i.c) where
  first_here : first_at key (entries t) ≡ first_at key (entries p.at ++ entries p.after)
  first_here =
      ap (λ (x : Forest). first_at key (entries x)) i.is ∙ (ap (λ (xs : List Entry). first_at key xs) (append-nil (entries i.c)) ∙ first_place A i.below key high i.c p (placed A i.below key high i.c p i.sound))

  pub given_here : (k v : List ℕ) (found : Bool) → found ≡ true → IsFound (first_at key (entries p.at)) found k v → IsFound (first_at key (entries t)) true k v
  given_here k v found is g =
      given_true (first_at key (entries p.at)) (first_at key (entries t)) k v (subst (λ (b : Bool). IsFound (first_at key (entries p.at)) b k v) is g)
      (λ e some. first_here ∙ first_front key (entries p.at) (entries p.after) e some)

  none_later : (hs : List Entry) (h : Entry) → later_in key (h ∷ hs) ≡ None → is_below key h.0 ≡ true → ⊥
  none_later hs h e below = let bad : Some h.1 ≡ None = rw below at e in cc

  pub given_none : (k v : List ℕ) (found : Bool) → found ≡ false → IsFound (first_at key (entries p.at)) found k v → (later : Option ℕ) → later ≡ None → IsPage (later_in key i.rest) later → IsFound (first_at key (entries t)) false k v
  given_none k v found is g later gone page_is =
      let none = given_false (first_at key (entries p.at)) k v (subst (λ (b : Bool). IsFound (first_at key (entries p.at)) b k v) is g) in
      let no_later : later_in key i.rest ≡ None = is_none (later_in key i.rest) (subst (λ (o : Option ℕ). IsPage (later_in key i.rest) o) gone page_is) in
      let nothing : p.after ≡ no_trees = ⊎_elim (λ x. x) (λ more.
      let r = first_tree p.after more.0 more.1 in
      let spelled : later_in key ((r.from, four_bytes r.page) ∷ cells r.after) ≡ None =
      ap (λ (xs : List Entry). later_in key xs) (sym (ap (λ (x : Forest). cells x) r.whole ∙ (cells_append r.at r.after ∙ ap (λ (xs : List Entry). xs ++ cells r.after) r.top))) ∙ (sym (later_place A i.below key high i.c p (placed A i.below key high i.c p i.sound) i.head i.rest i.cells_are) ∙ no_later) in
      absurd (none_later (cells r.after) (r.from, four_bytes r.page) spelled (subst (λ (x : List ℕ). is_below key x ≡ true) (from_same p.after more.0 more.1 r) more.2))) (after_place key high i.c p) in
      let all : first_at key (entries t) ≡ None = first_here ∙ (first_rest key (entries p.at) (entries p.after) none ∙ ap (λ (x : Forest). first_at key (entries x)) nothing) in
      rw all refl
    where
      is_none : (o : Option (List ℕ)) → IsPage o None → o ≡ None
      is_none None e = refl
      is_none (Some x) e = absurd e

  pub later_first_tree : (later : ℕ) (o : Option ℕ) → o ≡ Some later → IsPage (later_in key i.rest) o → (j : List ℕ) × (next p.after None ≡ Some j) × (is_below key j ≡ true)
  later_first_tree later o is page_is = ⊎_elim (λ gone. absurd (not_page (later_in key i.rest)
      (later_place A i.below key high i.c p (placed A i.below key high i.c p i.sound) i.head i.rest i.cells_are ∙ ap (λ (x : Forest). later_in key (cells x)) gone) (subst (λ (x : Option ℕ). IsPage (later_in key i.rest) x) is page_is))) (λ more. more) (after_place key high i.c p)
    where
      not_page : (o : Option (List ℕ)) → o ≡ None → IsPage o (Some later) → ⊥
      not_page None e x = x
      not_page (Some y) e x = cc

  pub later_page : (later : ℕ) (o : Option ℕ) → o ≡ Some later → IsPage (later_in key i.rest) o → (j : List ℕ) → next p.after None ≡ Some j → is_below key j ≡ true → (r : FirstTree p.after) → four_bytes later ≡ four_bytes r.page
  later_page later o is page_is j e below r =
      let spelled : later_in key i.rest ≡ later_in key ((r.from, four_bytes r.page) ∷ cells r.after) =
      later_place A i.below key high i.c p (placed A i.below key high i.c p i.sound) i.head i.rest i.cells_are ∙ ap (λ (xs : List Entry). later_in key xs) (ap (λ (x : Forest). cells x) r.whole ∙ (cells_append r.at r.after ∙ ap (λ (xs : List Entry). xs ++ cells r.after) r.top)) in
      let lt : is_below key r.from ≡ true = subst (λ (x : List ℕ). is_below key x ≡ true) (from_same p.after j e r) below in
      let some : later_in key i.rest ≡ Some (four_bytes r.page) = spelled ∙ (rw lt refl) in
      subst (λ (x : Option (List ℕ)). IsPage x (Some later)) some (subst (λ (x : Option ℕ). IsPage (later_in key i.rest) x) is page_is)

  pub given_later : (k v : List ℕ) (found : Bool) → found ≡ false → IsFound (first_at key (entries p.at)) found k v → (j : List ℕ) → next p.after None ≡ Some j → is_below key j ≡ true → (r : FirstTree p.after) → IsFull p.after
      → first_at key (entries t) ≡ first_at [] (entries r.at)
  given_later k v found is g j e below r full =
      let none = given_false (first_at key (entries p.at)) k v (subst (λ (b : Bool). IsFound (first_at key (entries p.at)) b k v) is g) in
      first_here ∙ (first_rest key (entries p.at) (entries p.after) none ∙ (least_above key j (entries p.after) below (all_from A i.below high p.after j (placed A i.below key high i.c p i.sound).after_sound e) ∙ least_first_tree p.after r full))

  -- a place in the tree of the key, or in the first one after it, is a place among all
  entries_here : entries t ≡ entries p.before ++ (entries p.at ++ entries p.after)
  entries_here = ap entries i.is ∙ (append-nil (entries i.c) ∙ (ap entries p.whole ∙ entries_around p.before p.at p.after))

  pub place_here : (cursor : TreeCursor) → KeepsPlace (entries p.at) cursor → KeepsPlace (entries t) cursor
  place_here cursor keeps =
      subst (λ (es : List Entry). KeepsPlace es cursor) (sym entries_here) (place_within (entries p.before) (entries p.at) (entries p.after) cursor keeps)

  pub place_later : (r : FirstTree p.after) (cursor : TreeCursor) → KeepsPlace (entries r.at) cursor → KeepsPlace (entries t) cursor
  place_later r cursor keeps =
      let apart : entries t ≡ (entries p.before ++ entries p.at) ++ (entries r.at ++ entries r.after) =
      entries_here ∙ (sym (append_assoc (entries p.before) (entries p.at) (entries p.after)) ∙ ap (λ (es : List Entry). (entries p.before ++ entries p.at) ++ es) (ap entries r.whole ∙ entries_append r.at r.after)) in
      subst (λ (es : List Entry). KeepsPlace es cursor) (sym apart) (place_within (entries p.before ++ entries p.at) (entries r.at) (entries r.after) cursor keeps)

pub found_as : (o p : Option Entry) (found : Bool) (k v : List ℕ) → p ≡ o → IsFound o found k v → IsFound p found k v
found_as o p found k v same g = subst (λ (x : Option Entry). IsFound x found k v) (sym same) g

pub lent_none : (o : Option Entry) (found : Option CellView) (k v : List ℕ) → IsLent o found → found ≡ None → IsFound o false k v
lent_none o found k v is gone = at o (subst (λ (x : Option CellView). IsLent o x) gone is)
  where
    at : (o : Option Entry) → IsLent o None → IsFound o false k v
    at None e = refl
    at (Some x) e = absurd e

pub lent_some : (o : Option Entry) (found : Option CellView) (view : CellView) (k v : List ℕ) → IsLent o found → found ≡ Some view → k ≡ view.key.now → v ≡ view.payload.now → IsFound o true k v
lent_some o found view k v is some key value = at o (subst (λ (x : Option CellView). IsLent o x) some is)
  where
    at : (o : Option Entry) → IsLent o (Some view) → IsFound o true k v
    at None e = absurd e
    at (Some x) e = (refl, key ∙ e.0, value ∙ e.1)

-- nothing is between a key and the key with a zero byte
module _ (key : List ℕ) (up : (b : List ℕ) → is_below b (key ++ (0 ∷ [])) ≡ false → is_below key b ≡ true) (down : (b : List ℕ) → is_below b (key ++ (0 ∷ [])) ≡ true → is_below key b ≡ false) where
  pub after_is : (es : List Entry) → first_after key es ≡ first_at (key ++ (0 ∷ [])) es
  after_is [] = refl
  after_is (e ∷ es) = ⊎_elim
      (λ yes. let one : first_after key (e ∷ es) ≡ first_after key es = rw (down e.0 yes) refl in
      let two : first_at (key ++ (0 ∷ [])) (e ∷ es) ≡ first_at (key ++ (0 ∷ [])) es = rw yes refl in
      one ∙ (after_is es ∙ sym two))
      (λ no. let one : first_after key (e ∷ es) ≡ Some e = rw (up e.0 no) refl in
      let two : first_at (key ++ (0 ∷ [])) (e ∷ es) ≡ Some e = rw no refl in
      one ∙ sym two) (cases_Bool (is_below e.0 (key ++ (0 ∷ []))))

pub leaf_first : (t : Forest) (low : List ℕ) (page : ℕ) (bytes key : List ℕ) → (l : ReadLeaf t low page bytes) → first_at key (entries t) ≡ first_at key l.es
leaf_first t low page bytes key l = ap (λ (x : Forest). first_at key (entries x)) l.is ∙ ap (λ (xs : List Entry). first_at key xs) (append-nil l.es)

pub leaf_entries : (t : Forest) (low : List ℕ) (page : ℕ) (bytes : List ℕ) → (l : ReadLeaf t low page bytes) → l.es ≡ entries t
leaf_entries t low page bytes l = sym (ap entries l.is ∙ append-nil l.es)

payload_of : List Entry → List ℕ
payload_of [] = []
payload_of (c ∷ cs) = c.1

pub head_first_tree : (f : Forest) (r : FirstTree f) (head : Entry) (rest : List Entry) → cells f ≡ head ∷ rest → head.1 ≡ four_bytes r.page
unfolding payload_of
head_first_tree f r head rest e =
    let all : head ∷ rest ≡ (r.from, four_bytes r.page) ∷ cells r.after = sym e ∙ (ap (λ (x : Forest). cells x) r.whole ∙ (cells_append r.at r.after ∙ ap (λ (xs : List Entry). xs ++ cells r.after) r.top)) in
    ap payload_of all

pub least_inner : (A : Array) (t : Forest) (d : ℕ) (low : List ℕ) (high : Option (List ℕ)) (page : ℕ) (i : AtInner A t d low high page) (r : FirstTree i.c) → IsFull i.c → first_at [] (entries t) ≡ first_at [] (entries r.at)
least_inner A t d low high page i r full =
    ap (λ (x : Forest). first_at [] (entries x)) i.is ∙ (ap (λ (xs : List Entry). first_at [] xs) (append-nil (entries i.c)) ∙ least_first_tree i.c r full)

pub place_least : (A : Array) (t : Forest) (d : ℕ) (low : List ℕ) (high : Option (List ℕ)) (page : ℕ) (i : AtInner A t d low high page) (r : FirstTree i.c) (cursor : TreeCursor) → KeepsPlace (entries r.at) cursor → KeepsPlace (entries t) cursor
place_least A t d low high page i r cursor keeps =
    let apart : entries t ≡ entries r.at ++ entries r.after = ap entries i.is ∙ (append-nil (entries i.c) ∙ (ap entries r.whole ∙ entries_append r.at r.after)) in
    subst (λ (es : List Entry). KeepsPlace es cursor) (sym apart) (place_within [] (entries r.at) (entries r.after) cursor keeps)
