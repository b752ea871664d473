-- What a put makes of trees, page by page.
use Rattle.std.proofs.Common.{◌≡◌, ◌≢◌, ⊎_elim, inl, inr, ℕ, ◌<◌, true, false, Option, Some, None, List, [], ◌∷◌, ◌++◌, length, refl, sym, ap, ◌∙◌, arith, subst, append_assoc, length-append}
use Rattle.std.proofs.lemmas.Bool.{cases_eq}
use Rattle.std.proofs.lemmas.List.{append-nil}
use Rattle.std.specs.Prelude.{IsSome}
use Rattle.pages.specs.State.{Array}
use Rattle.page_nodes.specs.declared.cell.NodeKind.TheVariants.{Leaf, Inner}
use Rattle.page_nodes.specs.Map.{is_below, Entry, with_entry, IsRising}
use Rattle.page_nodes.specs.Node.{four_bytes}
use Rattle.page_nodes.proofs.Order.{one_way, lt_lt}
use Rattle.page_tree.specs.Forest.{Forest, no_trees, leaf, inner, append, cells, entries, Meets, IsUnder, AllFrom, AllUnder, next, HoldsChildren, IsSound, IsFull}
use Rattle.page_tree.specs.Puts.{AreWritten, AreSplit, HasPut}
use Rattle.page_tree.proofs.Keys.{with_right, under_append}
use Rattle.page_tree.proofs.Trees.{cells_append, entries_append, next_append, meets_append, meets_left, meets_right, full_append, full_left, full_right, parts, joined, in_use, keep, some_there}
use Rattle.page_tree.proofs.Bounds.{irreflexive, first_key, cells_under}
use Rattle.page_tree.proofs.Place.{Place, Placed, placed, bound_is, cells_around, edited_place}
use Rattle.page_tree.proofs.Descent.{not_gone}
use Rattle.page_tree.proofs.PutKeys.{with_from, with_under, with_rising, with_some, from_front, under_back, rising_front, rising_back, front_under, back_from, bound_below}

none_before : (o : Option (List ℕ)) → (IsSome o → ⊥) → o ≡ None
none_before None not = refl
none_before (Some b) not = absurd (not refl)

some_same : (a b : Option (List ℕ)) → b ≡ a → IsSome a → IsSome b
some_same a b e some = subst (λ (o : Option (List ℕ)). IsSome o) (sym e) some

some_at : (A : Array) (q p : ℕ) → q ≡ p → IsSome (A p) → IsSome (A q)
some_at A q p is some = subst (λ (l : ℕ). IsSome (A l)) (sym is) some

meets_at : (f : Forest) (q p : ℕ) → q ≡ p → Meets q f → Meets p f
meets_at f q p is m = subst (λ (l : ℕ). Meets l f) is m

-- a leaf takes an entry
pub leaf_put : (A B : Array) (key value low : List ℕ) (high : Option (List ℕ)) (page d : ℕ) (es : List Entry) → IsSound A d high (leaf low page es no_trees) → is_below key low ≡ false → IsUnder key high
    → AreWritten Leaf [] (with_entry key value es) page A B → HasPut A B key value d high (leaf low page es no_trees) (leaf low page (with_entry key value es) no_trees)
leaf_put A B key value low high page d es s reaches ends w = record {
  sound = ((w.bytes, w.here, w.node), s.1, (with_from key value low es reaches s.2.0, with_under key value high es ends s.2.1, with_rising key value es s.2.2), s.3, (λ m. m), tt);
  full = (with_some key value es, tt);
  entries_are = append-nil (with_entry key value es) ∙ ap (λ (xs : List Entry). with_entry key value xs) (sym (append-nil es));
  begins = refl;
  met = λ q m. inl m;
  meets = λ q m. m;
  taken = λ q some. ⊎_elim (λ is. inr (inl is)) (λ other. inl (some_same (B q) (A q) (sym (w.others q other)) some)) (cases_eq q page);
  others = λ q some not. w.others q (λ is. not (inl is));
  stays = λ q some. ⊎_elim (λ is. some_at B q page is (some_there (B page) w.bytes w.here)) (λ other. some_same (A q) (B q) (w.others q other) some) (cases_eq q page);
}

-- a leaf takes an entry and is cut: its page keeps the first part, and a new page takes the second
pub leaf_split : (A B : Array) (key value low : List ℕ) (high : Option (List ℕ)) (page made d : ℕ) (separator : List ℕ) (es : List Entry) → IsSound A d high (leaf low page es no_trees) → is_below key low ≡ false → IsUnder key high
    → (w : AreSplit Leaf [] (with_entry key value es) page made separator A B) → HasPut A B key value d high (leaf low page es no_trees) (leaf low page w.front (leaf w.c.0 made (w.c ∷ w.back) no_trees))
leaf_split A B key value low high page made d separator es s reaches ends w =
    let used : IsSome (A page) = in_use A d high (leaf low page es no_trees) s page (inl refl) in
    let distinct : page ≢ made = λ is. not_gone A made (some_at A made page (sym is) used) w.was_free in
    let from : AllFrom low (w.front ++ (w.c ∷ w.back)) = subst (λ (xs : List Entry). AllFrom low xs) w.whole (with_from key value low es reaches s.2.0) in
    let under : AllUnder high (w.c ∷ w.back) = under_back high w.front (w.c ∷ w.back) (subst (λ (xs : List Entry). AllUnder high xs) w.whole (with_under key value high es ends s.2.1)) in
    let rising : IsRising (w.front ++ (w.c ∷ w.back)) = subst (λ (xs : List Entry). IsRising xs) w.whole (with_rising key value es s.2.2) in
    let back = rising_back w.front (w.c ∷ w.back) rising in
    record {
      sound = (
        (w.bytes, w.here, w.node),
        s.1,
        (from_front low w.front (w.c ∷ w.back) from, front_under w.front w.c w.back rising, rising_front w.front (w.c ∷ w.back) rising),
        bound_below low w.front w.c w.back w.some from rising,
        (λ m. ⊎_elim (λ is. distinct is) (λ none. none) m),
        ((w.second_bytes, w.there, w.second_node), s.1, (back_from w.c w.back back, under, back), under.0, (λ m. m), tt),
      );
      full = (w.some, (omega arith, tt));
      entries_are = ap (λ (xs : List Entry). w.front ++ xs) (append-nil (w.c ∷ w.back)) ∙ (sym w.whole ∙ ap (λ (xs : List Entry). with_entry key value xs) (sym (append-nil es)));
      begins = refl;
      met = λ q m. ⊎_elim (λ is. inl (inl is)) (λ rest. ⊎_elim (λ is. inr (ap A is ∙ w.was_free)) (λ none. absurd none) rest) m;
      meets = λ q m. ⊎_elim (λ is. inl is) (λ none. absurd none) m;
      taken = λ q some. ⊎_elim (λ is. inr (inl is)) (λ off. ⊎_elim (λ is. inr (inr (inl is))) (λ other. inl (some_same (B q) (A q) (sym (w.others q off other)) some)) (cases_eq q made)) (cases_eq q page);
      others = λ q some not. w.others q (λ is. not (inl is)) (λ is. not_gone A q some (ap A is ∙ w.was_free));
      stays = λ q some. ⊎_elim (λ is. some_at B q page is (some_there (B page) w.bytes w.here))
          (λ off. some_same (A q) (B q) (w.others q off (λ is. not_gone A q some (ap A is ∙ w.was_free))) some) (cases_eq q page);
    }

-- the trees of an inner node, once a put has changed the one of its key
pub regrown : (A B : Array) (key value : List ℕ) (d : ℕ) (high : Option (List ℕ)) (f : Forest) (p : Place key high f) → IsSound A d high f → IsFull f → (u : Forest) → HasPut A B key value d (next p.after high) p.at u
    → HasPut A B key value d high f (append p.before (append u p.after))
regrown A B key value d high f p s full u put =
    let two = placed A d key high f p s in
    let used = in_use A d high f s in
    let in_before : (q : ℕ) → Meets q p.before → Meets q f = λ q m. subst (λ (x : Forest). Meets q x) (sym p.whole) (meets_left q p.before (append p.at p.after) m) in
    let in_at : (q : ℕ) → Meets q p.at → Meets q f = λ q m. subst (λ (x : Forest). Meets q x) (sym p.whole) (meets_right q p.before (append p.at p.after) (meets_left q p.at p.after m)) in
    let in_after : (q : ℕ) → Meets q p.after → Meets q f = λ q m. subst (λ (x : Forest). Meets q x) (sym p.whole) (meets_right q p.before (append p.at p.after) (meets_right q p.at p.after m)) in
    let full_parts : IsFull (append p.before (append p.at p.after)) = subst (λ (x : Forest). IsFull x) p.whole full in
    let bound : (to : Option (List ℕ)) → next (append u p.after) to ≡ Some p.from = λ to. bound_is u p.after to p.from (put.begins ∙ p.begins) in
    record {
      sound = joined B d high p.before (append u p.after)
          (subst (λ (o : Option (List ℕ)). IsSound B d o p.before) (sym (bound high))
          (keep A B d (Some p.from) p.before (λ q m. put.others q (used q (in_before q m)) (λ at. two.apart_before q m (meets_left q p.at p.after at))) two.before_sound))
          (joined B d high u p.after put.sound (keep A B d high p.after (λ q m. put.others q (used q (in_after q m)) (λ at. two.apart_after q at m)) two.after_sound)
          (λ q m n. ⊎_elim (λ old. two.apart_after q old n) (λ none. not_gone A q (used q (in_after q n)) none) (put.met q m)))
          (λ q m n. ⊎_elim (λ new. ⊎_elim (λ old. two.apart_before q m (meets_left q p.at p.after old)) (λ none. not_gone A q (used q (in_before q m)) none) (put.met q new))
          (λ after. two.apart_before q m (meets_right q p.at p.after after)) (meets_append q u p.after n));
      full = full_append p.before (append u p.after) (full_left p.before (append p.at p.after) full_parts)
          (full_append u p.after put.full (full_right p.at p.after (full_right p.before (append p.at p.after) full_parts)));
      entries_are = edited_place A d key high f p two u (Some value) put.entries_are;
      begins = next_append p.before (append u p.after) None ∙ (ap (λ (o : Option (List ℕ)). next p.before o) (bound None ∙ sym (bound_is p.at p.after None p.from p.begins))
          ∙ (sym (next_append p.before (append p.at p.after) None) ∙ ap (λ (x : Forest). next x None) (sym p.whole)));
      met = λ q m. ⊎_elim (λ b. inl (in_before q b)) (λ rest. ⊎_elim (λ new. ⊎_elim (λ old. inl (in_at q old)) (λ none. inr none) (put.met q new)) (λ b. inl (in_after q b)) (meets_append q u p.after rest))
          (meets_append q p.before (append u p.after) m);
      meets = λ q m. ⊎_elim (λ b. meets_left q p.before (append u p.after) b)
          (λ rest. meets_right q p.before (append u p.after) (⊎_elim (λ at. meets_left q u p.after (put.meets q at)) (λ b. meets_right q u p.after b) (meets_append q p.at p.after rest)))
          (meets_append q p.before (append p.at p.after) (subst (λ (x : Forest). Meets q x) p.whole m));
      taken = λ q some. ⊎_elim (λ old. inl old) (λ new. inr (meets_right q p.before (append u p.after) (meets_left q u p.after new))) (put.taken q some);
      others = λ q some not. put.others q some (λ at. not (in_at q at));
      stays = put.stays;
    }

-- the page of those trees is written anew
pub inner_put : (A B C : Array) (key value low : List ℕ) (high : Option (List ℕ)) (page d : ℕ) (c g : Forest) (head : Entry) (rest : List Entry) (s : IsSound A d high (inner low page c no_trees)) → HasPut A B key value s.2.0 high c g
    → cells g ≡ head ∷ rest → 0 < length rest → AreWritten Inner head.1 rest page B C → HasPut A C key value d high (inner low page c no_trees) (inner low page g no_trees)
inner_put A B C key value low high page d c g head rest s put is some w =
    let used : IsSome (A page) = in_use A d high (inner low page c no_trees) s page (inl (inl refl)) in
    let off : Meets page g → ⊥ = λ m. ⊎_elim (λ old. s.4 old) (λ none. not_gone A page used none) (put.met page m) in
    record {
      sound = (
        subst (λ (xs : List Entry). HoldsChildren C page xs) (sym is) (w.bytes, w.here, w.node),
        put.begins ∙ s.1,
        (s.2.0, s.2.1, keep B C s.2.0 high g (λ q m. w.others q (λ at. off (meets_at g q page at m))) put.sound),
        s.3,
        off,
        (λ q m none. none),
        tt,
      );
      full = (let long = ap (λ (xs : List Entry). length xs) is in omega (arith, long, some), put.full, tt);
      entries_are = append-nil (entries g) ∙ (put.entries_are ∙ ap (λ (xs : List Entry). with_entry key value xs) (sym (append-nil (entries c))));
      begins = refl;
      met = λ q m. ⊎_elim (λ here. ⊎_elim (λ at. inl (inl (inl at))) (λ new. ⊎_elim (λ old. inl (inl (inr old))) (λ none. inr none) (put.met q new)) here) (λ none. absurd none) m;
      meets = λ q m. ⊎_elim (λ here. ⊎_elim (λ at. inl (inl at)) (λ old. inl (inr (put.meets q old))) here) (λ none. absurd none) m;
      taken = λ q there. ⊎_elim (λ at. inr (inl (inl at)))
          (λ other. ⊎_elim (λ old. inl old) (λ new. inr (inl (inr new))) (put.taken q (some_same (C q) (B q) (sym (w.others q other)) there))) (cases_eq q page);
      others = λ q there not. w.others q (λ at. not (inl (inl at))) ∙ put.others q there (λ m. not (inl (inr m)));
      stays = λ q there. ⊎_elim (λ at. some_at C q page at (some_there (C page) w.bytes w.here)) (λ other. some_same (B q) (C q) (w.others q other) (put.stays q there)) (cases_eq q page);
    }

-- trees in two parts, as their cells
pub record Cut (f : Forest) (xs ys : List Entry) : Type 0 where
  pub left : Forest
  pub right : Forest
  pub whole : f ≡ append left right
  pub left_cells : cells left ≡ xs
  pub right_cells : cells right ≡ ys

tail_is : (x y : Entry) (xs ys : List Entry) → x ∷ xs ≡ y ∷ ys → xs ≡ ys
tail_is x y xs ys e = cc

head_is : (x y : Entry) (xs ys : List Entry) → x ∷ xs ≡ y ∷ ys → x ≡ y
head_is x y xs ys e = cc

both : (x y : Entry) (xs ys : List Entry) → x ≡ y → xs ≡ ys → x ∷ xs ≡ y ∷ ys
both x y xs ys a b = rw (a, b) refl

pub cut : (f : Forest) (xs ys : List Entry) → cells f ≡ xs ++ ys → Cut f xs ys
cut f [] ys e = record { left = no_trees; right = f; whole = refl; left_cells = refl; right_cells = e }
cut no_trees (x ∷ xs) ys e = absurd (let bad : [] ≡ x ∷ (xs ++ ys) = e in cc)
cut (leaf k p es f) (x ∷ xs) ys e =
    let c = cut f xs ys (tail_is _ x _ _ e) in
    record {
      left = leaf k p es c.left;
      right = c.right;
      whole = ap (λ (g : Forest). leaf k p es g) c.whole;
      left_cells = both _ x _ xs (head_is _ x _ _ e) c.left_cells;
      right_cells = c.right_cells;
    }
cut (inner k p d f) (x ∷ xs) ys e =
    let c = cut f xs ys (tail_is _ x _ _ e) in
    record {
      left = inner k p d c.left;
      right = c.right;
      whole = ap (λ (g : Forest). inner k p d g) c.whole;
      left_cells = both _ x _ xs (head_is _ x _ _ e) c.left_cells;
      right_cells = c.right_cells;
    }

cells_next : (f : Forest) (c : Entry) (cs : List Entry) → cells f ≡ c ∷ cs → next f None ≡ Some c.0
cells_next no_trees c cs e = absurd (let bad : [] ≡ c ∷ cs = e in cc)
cells_next (leaf k p es f) c cs e = ap (λ (x : Entry). Some x.0) (head_is (k, four_bytes p) c (cells f) cs e)
cells_next (inner k p d f) c cs e = ap (λ (x : Entry). Some x.0) (head_is (k, four_bytes p) c (cells f) cs e)

next_front : (f : Forest) (high : Option (List ℕ)) (c : Entry) (cs : List Entry) → cells f ≡ c ∷ cs → next f high ≡ Some c.0
next_front f high c cs e = first_key f c.0 high (cells_next f c cs e)

-- the first of two parts is below the second
parts_below : (B : Array) (d : ℕ) (high : Option (List ℕ)) (l r : Forest) (x c : Entry) (xs cs : List Entry) → IsSound B d (next r high) l → cells l ≡ x ∷ xs → cells r ≡ c ∷ cs → is_below x.0 c.0 ≡ true
parts_below B d high l r x c xs cs s left right =
    let bound : IsSound B d (Some c.0) l = subst (λ (o : Option (List ℕ)). IsSound B d o l) (next_front r high c cs right) s in
    let all : AllUnder (Some c.0) (x ∷ xs) = subst (λ (ys : List Entry). AllUnder (Some c.0) ys) left (cells_under B d (Some c.0) l bound) in
    all.0

cells_bounded : (B : Array) (d : ℕ) (high : Option (List ℕ)) (r : Forest) (c : Entry) (cs : List Entry) → IsSound B d high r → cells r ≡ c ∷ cs → IsUnder c.0 high
cells_bounded B d high r c cs s right =
    let all : AllUnder high (c ∷ cs) = subst (λ (ys : List Entry). AllUnder high ys) right (cells_under B d high r s) in
    all.0

-- of two trees side by side the second is within the bounds
pub record TwoTrees (f : Forest) (high : Option (List ℕ)) (a b : List ℕ) : Type 0 where
  pub order : is_below a b ≡ true
  pub ends : IsUnder b high

pub two_trees : (B : Array) (d : ℕ) (high : Option (List ℕ)) (f : Forest) (a b : Entry) → IsSound B d high f → cells f ≡ a ∷ b ∷ [] → TwoTrees f high a.0 b.0
two_trees B d high f a b s e =
    let c = cut f (a ∷ []) (b ∷ []) e in
    let two = parts B d high c.left c.right (subst (λ (x : Forest). IsSound B d high x) c.whole s) in
    record {
      order = parts_below B d high c.left c.right a b [] [] two.left c.left_cells c.right_cells;
      ends = cells_bounded B d high c.right b [] two.right c.right_cells;
    }

-- the page of those trees takes the first of them, and a new page the others
pub inner_split : (A B C : Array) (key value low : List ℕ) (high : Option (List ℕ)) (page made d : ℕ) (separator : List ℕ) (c g : Forest) (head : Entry) (rest : List Entry) (s : IsSound A d high (inner low page c no_trees))
    → HasPut A B key value s.2.0 high c g → cells g ≡ head ∷ rest → (w : AreSplit Inner head.1 rest page made separator B C) → (t : Cut g (head ∷ w.front) (w.c ∷ w.back))
    → HasPut A C key value d high (inner low page c no_trees) (inner low page t.left (inner w.c.0 made t.right no_trees))
inner_split A B C key value low high page made d separator c g head rest s put is w t =
    let used : IsSome (A page) = in_use A d high (inner low page c no_trees) s page (inl (inl refl)) in
    let used_now : IsSome (B page) = put.stays page used in
    let two = parts B s.2.0 high t.left t.right (subst (λ (x : Forest). IsSound B s.2.0 high x) t.whole put.sound) in
    let in_left : (q : ℕ) → Meets q t.left → Meets q g = λ q m. subst (λ (x : Forest). Meets q x) (sym t.whole) (meets_left q t.left t.right m) in
    let in_right : (q : ℕ) → Meets q t.right → Meets q g = λ q m. subst (λ (x : Forest). Meets q x) (sym t.whole) (meets_right q t.left t.right m) in
    let off : Meets page g → ⊥ = λ m. ⊎_elim (λ old. s.4 old) (λ none. not_gone A page used none) (put.met page m) in
    let fresh : Meets made g → ⊥ = λ m. not_gone B made (in_use B s.2.0 high g put.sound made m) w.was_free in
    let distinct : page ≢ made = λ at. not_gone B made (some_at B made page (sym at) used_now) w.was_free in
    let same : (q : ℕ) → Meets q g → C q ≡ B q = λ q m. w.others q (λ at. off (meets_at g q page at m)) (λ at. fresh (meets_at g q made at m)) in
    let full_parts : IsFull (append t.left t.right) = subst (λ (x : Forest). IsFull x) t.whole put.full in
    let bound : next t.right high ≡ Some w.c.0 = next_front t.right high w.c w.back t.right_cells in
    let begins : next t.left None ≡ Some low =
    cells_next t.left head w.front t.left_cells ∙ (sym (cells_next g head rest is) ∙ (put.begins ∙ s.1)) in
    let none_free : A made ≡ None = none_before (A made) (λ some. not_gone B made (put.stays made some) w.was_free) in
    let low_is : head.0 ≡ low = some_key head.0 low (sym (cells_next t.left head w.front t.left_cells) ∙ begins) in
    record {
      sound = (
        subst (λ (xs : List Entry). HoldsChildren C page xs) (sym t.left_cells) (w.bytes, w.here, w.node),
        begins,
        (s.2.0, s.2.1, keep B C s.2.0 (Some w.c.0) t.left (λ q m. same q (in_left q m)) (subst (λ (o : Option (List ℕ)). IsSound B s.2.0 o t.left) bound two.left)),
        subst (λ (x : List ℕ). is_below x w.c.0 ≡ true) low_is (parts_below B s.2.0 high t.left t.right head w.c w.front w.back two.left t.left_cells t.right_cells),
        (λ m. off (in_left page m)),
        (λ q m n. ⊎_elim (λ there. ⊎_elim
            (λ at_made. ⊎_elim (λ at. distinct (sym at ∙ at_made)) (λ l. fresh (meets_at g q made at_made (in_left q l))) m)
            (λ r. ⊎_elim (λ at. off (meets_at g q page at (in_right q r))) (λ l. two.apart q l r) m) there) (λ none. none) n),
        (
          subst (λ (xs : List Entry). HoldsChildren C made xs) (sym t.right_cells) (w.second_bytes, w.there, w.second_node),
          cells_next t.right w.c w.back t.right_cells,
          (s.2.0, s.2.1, keep B C s.2.0 high t.right (λ q m. same q (in_right q m)) two.right),
          cells_bounded B s.2.0 high t.right w.c w.back two.right t.right_cells,
          (λ m. fresh (in_right made m)),
          (λ q m none. none),
          tt,
        ),
      );
      full = (
        (let long = ap (λ (xs : List Entry). length xs) t.left_cells in omega (arith, long, w.some)),
        full_left t.left t.right full_parts,
        ((let long = ap (λ (xs : List Entry). length xs) t.right_cells in omega (arith, long, w.more)), full_right t.left t.right full_parts, tt),
      );
      entries_are = ap (λ (xs : List Entry). entries t.left ++ xs) (append-nil (entries t.right)) ∙ (sym (entries_append t.left t.right) ∙ (ap (λ (x : Forest). entries x) (sym t.whole)
          ∙ (put.entries_are ∙ ap (λ (xs : List Entry). with_entry key value xs) (sym (append-nil (entries c))))));
      begins = refl;
      met = λ q m. ⊎_elim
          (λ here. ⊎_elim (λ at. inl (inl (inl at))) (λ l. ⊎_elim (λ old. inl (inl (inr old))) (λ none. inr none) (put.met q (in_left q l))) here)
          (λ rest. ⊎_elim (λ there. ⊎_elim (λ at. inr (ap A at ∙ none_free)) (λ r. ⊎_elim (λ old. inl (inl (inr old))) (λ none. inr none) (put.met q (in_right q r))) there) (λ none. absurd none) rest) m;
      meets = λ q m. ⊎_elim
          (λ here. ⊎_elim (λ at. inl (inl at)) (λ old. ⊎_elim (λ l. inl (inr l)) (λ r. inr (inl (inr r))) (meets_append q t.left t.right (subst (λ (x : Forest). Meets q x) t.whole (put.meets q old)))) here)
          (λ none. absurd none) m;
      taken = λ q there. ⊎_elim (λ at. inr (inl (inl at)))
          (λ off_page. ⊎_elim (λ at. inr (inr (inl (inl at))))
          (λ off_made. ⊎_elim (λ old. inl old) (λ new. inr (⊎_elim (λ l. inl (inr l)) (λ r. inr (inl (inr r))) (meets_append q t.left t.right (subst (λ (x : Forest). Meets q x) t.whole new))))
          (put.taken q (some_same (C q) (B q) (sym (w.others q off_page off_made)) there))) (cases_eq q made)) (cases_eq q page);
      others = λ q there not. w.others q (λ at. not (inl (inl at))) (λ at. not_gone A q there (ap A at ∙ none_free)) ∙ put.others q there (λ m. not (inl (inr m)));
      stays = λ q there. ⊎_elim (λ at. some_at C q page at (some_there (C page) w.bytes w.here))
          (λ off_page. some_same (B q) (C q) (w.others q off_page (λ at. not_gone A q there (ap A at ∙ none_free))) (put.stays q there)) (cases_eq q page);
    }
  where
    some_key : (a b : List ℕ) → Some a ≡ Some b → a ≡ b
    some_key a b e = cc

-- the cells of those trees
head_under : (k : List ℕ) (head : Entry) (rest xs ys : List Entry) → head ∷ rest ≡ xs ++ ys → 0 < length xs → AllUnder (Some k) xs → is_below head.0 k ≡ true
head_under k head rest [] ys e some all = absurd (omega (arith, some))
head_under k head rest (x ∷ xs) ys e some all = rw (head_is head x rest (xs ++ ys) e) all.0

with_ahead : (separator b : List ℕ) (f : Forest) (high : Option (List ℕ)) → IsUnder separator (next f high) → with_entry separator b (cells f) ≡ (separator, b) ∷ cells f
with_ahead separator b no_trees high under = refl
with_ahead separator b (leaf k p es f) high under = rw (one_way separator k under, under) refl
with_ahead separator b (inner k p c f) high under = rw (one_way separator k under, under) refl

under_lt : (j k : List ℕ) (es : List Entry) → is_below j k ≡ true → AllUnder (Some j) es → AllUnder (Some k) es
under_lt j k [] lt all = tt
under_lt j k (e ∷ es) lt all = (lt_lt e.0 j k all.0 lt, under_lt j k es lt all.1)

with_head : (separator b : List ℕ) (head : Entry) (rest : List Entry) → is_below head.0 separator ≡ true → with_entry separator b (head ∷ rest) ≡ head ∷ with_entry separator b rest
with_head separator b head rest below = rw below refl

pub grown_cells : (A B : Array) (d : ℕ) (key : List ℕ) (high : Option (List ℕ)) (f : Forest) (p : Place key high f) (two : Placed A d key high f p) (u : Forest) (at : List ℕ) (separator b : List ℕ) (head : Entry) (rest : List Entry)
    → IsSound B d (next p.after high) u → cells p.at ≡ (p.from, at) ∷ [] → cells u ≡ (p.from, at) ∷ (separator, b) ∷ [] → cells f ≡ head ∷ rest
    → cells (append p.before (append u p.after)) ≡ head ∷ with_entry separator b rest
grown_cells A B d key high f p two u at separator b head rest sound top is cells_are =
    let bs = cells p.before in
    let hs = cells p.after in
    let c : Entry = (p.from, at) in
    let sides = two_trees B d (next p.after high) u c (separator, b) sound is in
    let all : AllUnder (Some separator) (bs ++ (c ∷ [])) = under_append (Some separator) bs (c ∷ []) (under_lt p.from separator bs sides.order (cells_under A d (Some p.from) p.before two.before_sound)) (sides.order, tt) in
    let old : head ∷ rest ≡ (bs ++ (c ∷ [])) ++ hs =
    sym cells_are ∙ (ap (λ (x : Forest). cells x) p.whole ∙ (cells_around p.before p.at p.after c top ∙ sym (append_assoc bs (c ∷ []) hs))) in
    let new : cells (append p.before (append u p.after)) ≡ (bs ++ (c ∷ [])) ++ ((separator, b) ∷ hs) =
    cells_append p.before (append u p.after) ∙ (ap (λ (xs : List Entry). bs ++ xs) (cells_append u p.after ∙ ap (λ (xs : List Entry). xs ++ hs) is) ∙ sym (append_assoc bs (c ∷ []) ((separator, b) ∷ hs))) in
    let below = head_under separator head rest (bs ++ (c ∷ [])) hs old (omega (arith, length-append bs (c ∷ []))) all in
    new ∙ (ap (λ (xs : List Entry). (bs ++ (c ∷ [])) ++ xs) (sym (with_ahead separator b p.after high sides.ends))
    ∙ (sym (with_right separator separator (irreflexive separator) hs b (bs ++ (c ∷ [])) all) ∙ (ap (λ (xs : List Entry). with_entry separator b xs) (sym old) ∙ with_head separator b head rest below)))

pub same_cells : (key : List ℕ) (high : Option (List ℕ)) (f : Forest) (p : Place key high f) (u : Forest) → cells u ≡ cells p.at → cells (append p.before (append u p.after)) ≡ cells f
same_cells key high f p u e =
    cells_append p.before (append u p.after) ∙ (ap (λ (xs : List Entry). cells p.before ++ xs) (cells_append u p.after ∙ (ap (λ (xs : List Entry). xs ++ cells p.after) e ∙ sym (cells_append p.at p.after)))
    ∙ (sym (cells_append p.before (append p.at p.after)) ∙ ap (λ (x : Forest). cells x) (sym p.whole)))
