-- What a put leaves of a tree, from what it leaves of a node.
use Rattle.std.proofs.Common.{◌≡◌, ◌≢◌, ⊎_elim, inl, inr, ℕ, suc, ◌+◌, ◌<◌, ◌≤◌, ◌^◌, false, Option, Some, None, List, [], ◌∷◌, ◌++◌, length, refl, sym, ap, ◌∙◌, arith, subst, length-append}
use Rattle.std.proofs.lemmas.Bool.{cases_eq}
use Rattle.std.proofs.lemmas.List.{append-nil}
use Rattle.std.specs.Prelude.{IsSome}
use Rattle.pages.specs.State.{Array, PagesState, OnlyReads, Writes, Takes}
use Rattle.page_nodes.specs.declared.cell.NodeKind.{NodeKind}
use Rattle.page_nodes.specs.declared.cell.NodeKind.TheVariants.{Leaf, Inner}
use Rattle.page_nodes.specs.Map.{is_below, Entry, with_entry}
use Rattle.page_nodes.specs.Node.{four_bytes, cells_bytes, IsNode, IsKeySize}
use Rattle.page_nodes.proofs.Cells.{four_same}
use Rattle.page_nodes.proofs.Scan.{short_cell}
use Rattle.page_tree.specs.Forest.{Forest, no_trees, leaf, inner, append, cells, entries, Meets, MeetsAll, IsUnder, next, Holds, HoldsChildren, IsSound, IsFull, Represents}
use Rattle.page_tree.specs.Site.{Site, IsSubtree, site_of}
use Rattle.page_nodes.specs.Scratch.{min_cells, EndFits}
use Rattle.page_tree.specs.Puts.{IsCutAtEnd, AreInScratch, AreWritten, AreStored, HasPut, IsPutBelow, IsTaken}
use Rattle.page_tree.proofs.Trees.{in_use, keep, some_there}
use Rattle.page_tree.proofs.Place.{Place, placed}
use Rattle.page_tree.proofs.Descent.{Numbered, AtInner, not_gone, children_full}
use Rattle.page_tree.proofs.PutKeys.{with_some}
use Rattle.page_tree.proofs.PutNodes.{CutParts, ended}
use Rattle.page_tree.proofs.PutTrees.{leaf_put, leaf_split, regrown, inner_put, inner_split, cut, grown_cells, same_cells}

-- from an array that is the same
pub stored_from : (A B C : Array) (kind : NodeKind) (first : List ℕ) (cs : List Entry) (page : ℕ) (made : Option ℕ) (separator : List ℕ) → ((l : ℕ) → B l ≡ A l) → AreStored kind first cs page made separator B C → AreStored kind first cs page made separator A C
stored_from A B C kind first cs page None separator same w = record { bytes = w.bytes; node = w.node; here = w.here; others = λ l off. w.others l off ∙ same l }
stored_from A B C kind first cs page (Some made) separator same w = record {
  front = w.front;
  c = w.c;
  back = w.back;
  whole = w.whole;
  some = w.some;
  more = w.more;
  separator_is = w.separator_is;
  bytes = w.bytes;
  node = w.node;
  here = w.here;
  second_bytes = w.second_bytes;
  second_node = w.second_node;
  was_free = sym (same made) ∙ w.was_free;
  there = w.there;
  others = λ l off far. w.others l off far ∙ same l;
}

pub below_from : (A B C : Array) (key value : List ℕ) (d : ℕ) (low : List ℕ) (high : Option (List ℕ)) (page : ℕ) (t : Forest) (made : Option ℕ) (separator : List ℕ) → ((l : ℕ) → B l ≡ A l)
    → IsPutBelow B C key value d low high page t made separator → IsPutBelow A C key value d low high page t made separator
below_from A B C key value d low high page t made separator same b = record {
  new = b.new;
  put = record {
    sound = b.put.sound;
    full = b.put.full;
    entries_are = b.put.entries_are;
    begins = b.put.begins;
    met = λ q m. ⊎_elim (λ old. inl old) (λ none. inr (sym (same q) ∙ none)) (b.put.met q m);
    meets = b.put.meets;
    taken = λ q some. ⊎_elim (λ old. inl (subst (λ (o : Option (List ℕ)). IsSome o) (same q) old)) (λ new. inr new) (b.put.taken q some);
    others = λ q some not. b.put.others q (subst (λ (o : Option (List ℕ)). IsSome o) (sym (same q)) some) not ∙ same q;
    stays = λ q some. b.put.stays q (subst (λ (o : Option (List ℕ)). IsSome o) (sym (same q)) some);
  };
  top = b.top;
}

-- cells in scratch, spelled otherwise
pub copied_for : (key other x y : List ℕ) (cs : List Entry) (items : List ℕ) (count : ℕ) → key ≡ other → x ≡ y → AreInScratch Inner (with_entry key x cs) items count → AreInScratch Inner (with_entry other y cs) items count
copied_for key other x y cs items count a b d =
    subst (λ (k : List ℕ). AreInScratch Inner (with_entry k y cs) items count) a (subst (λ (z : List ℕ). AreInScratch Inner (with_entry key z cs) items count) b d)

pub first_for : (A B : Array) (first other : List ℕ) (cs : List Entry) (page : ℕ) (made : Option ℕ) (separator : List ℕ) → first ≡ other → AreStored Inner first cs page made separator A B → AreStored Inner other cs page made separator A B
first_for A B first other cs page made separator e w = subst (λ (x : List ℕ). AreStored Inner x cs page made separator A B) e w

-- a page that holds a node is in use
pub holder_used : (A : Array) (page : ℕ) (kind : NodeKind) (first : List ℕ) (cs : List Entry) → Holds A page kind first cs → IsSome (A page)
holder_used A page kind first cs h = some_there (A page) h.0 h.1

-- a leaf
module _ (A C : Array) (key value low : List ℕ) (high : Option (List ℕ)) (page d : ℕ) (separator : List ℕ) (t : Forest) (es : List Entry) (is : t ≡ leaf low page es no_trees) (sound : IsSound A d high t) (reaches : is_below key low ≡ false)
    (ends : IsUnder key high) where
  alone : IsSound A d high (leaf low page es no_trees)
  alone = subst (λ (x : Forest). IsSound A d high x) is sound

  pub leaf_below : (made : Option ℕ) → AreStored Leaf [] (with_entry key value es) page made separator A C → IsPutBelow A C key value d low high page t made separator
  leaf_below None w = record {
    new = leaf low page (with_entry key value es) no_trees;
    put = subst (λ (x : Forest). HasPut A C key value d high x (leaf low page (with_entry key value es) no_trees)) (sym is) (leaf_put A C key value low high page d es alone reaches ends w);
    top = refl;
  }
  leaf_below (Some made) w = record {
    new = leaf low page w.front (leaf w.c.0 made (w.c ∷ w.back) no_trees);
    put = subst (λ (x : Forest). HasPut A C key value d high x (leaf low page w.front (leaf w.c.0 made (w.c ∷ w.back) no_trees))) (sym is) (leaf_split A C key value low high page made d separator es alone reaches ends w);
    top = ap (λ (k : List ℕ). (low, four_bytes page) ∷ (k, four_bytes made) ∷ []) (sym w.separator_is);
  }

-- an inner node
suc_same : (a b d : ℕ) → d ≡ suc a → d ≡ suc b → a ≡ b
suc_same a b d x y = omega (arith, x, y)

module _ (A B : Array) (key value low : List ℕ) (high : Option (List ℕ)) (page d child levels : ℕ) (t : Forest) (at : IsSubtree A (site_of t d low high) page key levels) (i : AtInner A t d low high page) (p : Place key high i.c)
    (top : cells p.at ≡ (p.from, four_bytes child) ∷ []) where
  whole_sound : IsSound A d high (inner low page i.c no_trees)
  whole_sound = subst (λ (x : Forest). IsSound A d high x) i.is at.sound

  depth_same : i.below ≡ whole_sound.2.0
  depth_same = suc_same i.below whole_sound.2.0 d i.deep whole_sound.2.1

  -- the trees of the node, once the put below is done
  pub trees_put : (made : Option ℕ) (separator : List ℕ) (b : IsPutBelow A B key value i.below p.from (next p.after high) child p.at made separator) → HasPut A B key value i.below high i.c (append p.before (append b.new p.after))
  trees_put made separator b = regrown A B key value i.below high i.c p i.sound (children_full t d i.below low page i.c at.full i.is i.deep).1 b.new b.put

  -- the node stays as it was
  pub still_there : (made : Option ℕ) (separator : List ℕ) → IsPutBelow A B key value i.below p.from (next p.after high) child p.at made separator → Holds B page Inner i.head.1 i.rest
  still_there made separator b =
      let used : IsSome (A page) = some_there (A page) i.holds.0 i.holds.1 in
      (i.holds.0, (trees_put made separator b).others page used whole_sound.4 ∙ i.holds.1, i.holds.2)

  pub inner_same : (separator : List ℕ) → IsPutBelow A B key value i.below p.from (next p.after high) child p.at None separator → IsPutBelow A B key value d low high page t None separator
  inner_same separator b =
      let g = append p.before (append b.new p.after) in
      let put : HasPut A B key value whole_sound.2.0 high i.c g = subst (λ (n : ℕ). HasPut A B key value n high i.c g) depth_same (trees_put None separator b) in
      let here = still_there None separator b in
      let is : cells g ≡ i.head ∷ i.rest = same_cells key high i.c p b.new (b.top ∙ sym top) ∙ i.cells_are in
      let two = (children_full t d i.below low page i.c at.full i.is i.deep).0 in
      let long = ap (λ (xs : List Entry). length xs) i.cells_are in
      let w : AreWritten Inner i.head.1 i.rest page B B = record { bytes = here.0; node = here.2; here = here.1; others = λ l off. refl } in
      record {
        new = inner low page g no_trees;
        put = subst (λ (x : Forest). HasPut A B key value d high x (inner low page g no_trees)) (sym i.is) (inner_put A B B key value low high page d i.c g i.head i.rest whole_sound put is (omega (arith, two, long)) w);
        top = refl;
      }

  pub inner_grown : (C : Array) (second : ℕ) (separator later_separator : List ℕ) → IsPutBelow A B key value i.below p.from (next p.after high) child p.at (Some second) separator
      → (made : Option ℕ) → AreStored Inner i.head.1 (with_entry separator (four_bytes second) i.rest) page made later_separator B C → IsPutBelow A C key value d low high page t made later_separator
  inner_grown C second separator later_separator b =
      let g = append p.before (append b.new p.after) in
      let put : HasPut A B key value whole_sound.2.0 high i.c g = subst (λ (n : ℕ). HasPut A B key value n high i.c g) depth_same (trees_put (Some second) separator b) in
      let is : cells g ≡ i.head ∷ with_entry separator (four_bytes second) i.rest =
      grown_cells A B i.below key high i.c p (placed A i.below key high i.c p i.sound) b.new (four_bytes child) separator (four_bytes second) i.head i.rest b.put.sound top b.top i.cells_are in
      grown g put is
    where
      grown : (g : Forest) → HasPut A B key value whole_sound.2.0 high i.c g → cells g ≡ i.head ∷ with_entry separator (four_bytes second) i.rest
          → (made : Option ℕ) → AreStored Inner i.head.1 (with_entry separator (four_bytes second) i.rest) page made later_separator B C → IsPutBelow A C key value d low high page t made later_separator
      grown g put is None w = record {
        new = inner low page g no_trees;
        put = subst (λ (x : Forest). HasPut A C key value d high x (inner low page g no_trees)) (sym i.is)
            (inner_put A B C key value low high page d i.c g i.head (with_entry separator (four_bytes second) i.rest) whole_sound put is (with_some separator (four_bytes second) i.rest) w);
        top = refl;
      }
      grown g put is (Some made) w =
          let parts = cut g (i.head ∷ w.front) (w.c ∷ w.back) (is ∙ ap (λ (xs : List Entry). i.head ∷ xs) w.whole) in
          let new = inner low page parts.left (inner w.c.0 made parts.right no_trees) in
          record {
            new = new;
            put = subst (λ (x : Forest). HasPut A C key value d high x new) (sym i.is)
                (inner_split A B C key value low high page made d later_separator i.c g i.head (with_entry separator (four_bytes second) i.rest) whole_sound put is w parts);
            top = ap (λ (k : List ℕ). (low, four_bytes page) ∷ (k, four_bytes made) ∷ []) (sym w.separator_is);
          }

-- the parts of scratch are stored
pub split_stored : (kind : NodeKind) (first : List ℕ) (cs : List Entry) (page made at index count : ℕ) (separator bytes items : List ℕ) (S T U : PagesState) → (parts : CutParts kind cs items at index count) → IsSome (S.array page)
    → IsNode kind first parts.front bytes → Writes page bytes S T → IsTaken kind parts.c parts.back separator made T U → AreStored kind first cs page (Some made) separator S.array U.array
split_stored kind first cs page made at index count separator bytes items S T U parts used node w taken =
    let distinct : page ≢ made = λ is. not_gone T.array made (subst (λ (l : ℕ). IsSome (T.array l)) is (some_there (T.array page) bytes w.here)) taken.takes.was_free in
    record {
      front = parts.front;
      c = parts.c;
      back = parts.back;
      whole = parts.whole;
      some = parts.some;
      more = parts.more;
      separator_is = taken.separator_is;
      bytes = bytes;
      node = node;
      here = taken.takes.writes.others page distinct ∙ w.here;
      second_bytes = taken.bytes;
      second_node = taken.node;
      was_free = sym (w.others made (λ is. distinct (sym is))) ∙ taken.takes.was_free;
      there = taken.takes.writes.here;
      others = λ l off far. taken.takes.writes.others l far ∙ w.others l off;
    }

-- and where the cut is at the end of the cells
pub split_ended : (kind : NodeKind) (first : List ℕ) (cs : List Entry) (page made at index count : ℕ) (separator bytes items : List ℕ) (S T U : PagesState) → (parts : CutParts kind cs items at index count) → IsSome (S.array page)
    → IsNode kind first parts.front bytes → Writes page bytes S T → IsTaken kind parts.c parts.back separator made T U → (e : EndFits kind cs) → index + min_cells kind ≡ count → IsCutAtEnd U.array page made kind first e
unfolding split_stored
split_ended kind first cs page made at index count separator bytes items S T U parts used node w taken e least =
    ended kind first cs page made separator S.array U.array (split_stored kind first cs page made at index count separator bytes items S T U parts used node w taken) e (omega (arith, parts.left_is, least))

pub record Rehomed (C : Array) (n d : ℕ) (f : Forest) (rest : List Entry) : Type 0 where
  pub new : Forest
  pub sound : IsSound C d None new
  pub full : IsFull new
  pub top : cells new ≡ ([], four_bytes n) ∷ rest
  pub off : Meets 0 new → ⊥
  pub has : (q : ℕ) → q ≢ 0 → Meets q f → Meets q new
  pub has_page : Meets n new
  pub entries_are : entries new ≡ entries f

head_key : List Entry → List ℕ
head_key [] = []
head_key (c ∷ cs) = c.0

head_payload : List Entry → List ℕ
head_payload [] = []
head_payload (c ∷ cs) = c.1

key_of : (k low x y : List ℕ) (xs ys : List Entry) → (k, x) ∷ xs ≡ (low, y) ∷ ys → k ≡ low
unfolding head_key
key_of k low x y xs ys e = ap head_key e

payload_of : (k low x y : List ℕ) (xs ys : List Entry) → (k, x) ∷ xs ≡ (low, y) ∷ ys → x ≡ y
unfolding head_payload
payload_of k low x y xs ys e = ap head_payload e

page_same : (A : Array) → Numbered A → (p page : ℕ) → IsSome (A p) → page < 2 ^ 32 → four_bytes p ≡ four_bytes page → p ≡ page
page_same A numbered p page some small e = four_same p page [] [] (let less = numbered p some in omega (arith, less)) small (ap (λ (xs : List ℕ). xs ++ []) e)

rest_of : (c d : Entry) (xs ys : List Entry) → c ∷ xs ≡ d ∷ ys → xs ≡ ys
rest_of c d xs ys e = cc

first_named : (k x : List ℕ) (xs ys : List Entry) → k ≡ [] → xs ≡ ys → (k, x) ∷ xs ≡ ([], x) ∷ ys
first_named k x xs ys a b = rw (a, b) refl

pub rehomed : (A C : Array) → Numbered A → (n d : ℕ) (f : Forest) (rest : List Entry) → IsSound A d None f → IsFull f → cells f ≡ ([], four_bytes 0) ∷ rest → A n ≡ None → C n ≡ A 0 → ((l : ℕ) → l ≢ 0 → l ≢ n → C l ≡ A l) → Rehomed C n d f rest
rehomed A C numbered n d no_trees rest s full e free now others = absurd (let bad : [] ≡ ([], four_bytes 0) ∷ rest = e in cc)
rehomed A C numbered n d (leaf k p es f) rest s full e free now others =
    let used = in_use A d None (leaf k p es f) s in
    let root : p ≡ 0 = page_same A numbered p 0 (used p (inl refl)) (omega arith) (payload_of k [] (four_bytes p) (four_bytes 0) (cells f) rest e) in
    let fresh : Meets n f → ⊥ = λ m. not_gone A n (used n (inr m)) free in
    let off : Meets 0 f → ⊥ = λ m. s.4 (subst (λ (l : ℕ). Meets l f) (sym root) m) in
    let moved : C n ≡ A p = now ∙ ap A (sym root) in
    record {
      new = leaf k n es f;
      sound = (
        (s.0.0, moved ∙ s.0.1, s.0.2),
        s.1,
        s.2,
        s.3,
        fresh,
        keep A C d None f (λ q m. others q (λ is. off (subst (λ (l : ℕ). Meets l f) is m)) (λ is. fresh (subst (λ (l : ℕ). Meets l f) is m))) s.5,
      );
      full = full;
      top = first_named k (four_bytes n) (cells f) rest (key_of k [] (four_bytes p) (four_bytes 0) (cells f) rest e) (rest_of (k, four_bytes p) ([], four_bytes 0) (cells f) rest e);
      off = λ m. ⊎_elim (λ is. not_gone A n (subst (λ (l : ℕ). IsSome (A l)) (root ∙ is) (used p (inl refl))) free) off m;
      has = λ q other m. ⊎_elim (λ is. absurd (other (is ∙ root))) (λ there. inr there) m;
      has_page = inl refl;
      entries_are = refl;
    }
rehomed A C numbered n d (inner k p c f) rest s full e free now others =
    let used = in_use A d None (inner k p c f) s in
    let root : p ≡ 0 = page_same A numbered p 0 (used p (inl (inl refl))) (omega arith) (payload_of k [] (four_bytes p) (four_bytes 0) (cells f) rest e) in
    let fresh : Meets n f → ⊥ = λ m. not_gone A n (used n (inr m)) free in
    let fresh_below : Meets n c → ⊥ = λ m. not_gone A n (used n (inl (inr m))) free in
    let off : Meets 0 f → ⊥ = λ m. s.5 0 (inl (sym root)) m in
    let off_below : Meets 0 c → ⊥ = λ m. s.4 (subst (λ (l : ℕ). Meets l c) (sym root) m) in
    let moved : C n ≡ A p = now ∙ ap A (sym root) in
    record {
      new = inner k n c f;
      sound = (
        moved_children (cells c) moved s.0,
        s.1,
        (s.2.0, s.2.1, keep A C s.2.0 (next f None) c (λ q m. others q (λ is. off_below (subst (λ (l : ℕ). Meets l c) is m)) (λ is. fresh_below (subst (λ (l : ℕ). Meets l c) is m))) s.2.2),
        s.3,
        fresh_below,
        (λ q m there. ⊎_elim (λ is. fresh (subst (λ (l : ℕ). Meets l f) is there)) (λ below. s.5 q (inr below) there) m),
        keep A C d None f (λ q m. others q (λ is. off (subst (λ (l : ℕ). Meets l f) is m)) (λ is. fresh (subst (λ (l : ℕ). Meets l f) is m))) s.6,
      );
      full = full;
      top = first_named k (four_bytes n) (cells f) rest (key_of k [] (four_bytes p) (four_bytes 0) (cells f) rest e) (rest_of (k, four_bytes p) ([], four_bytes 0) (cells f) rest e);
      off = λ m. ⊎_elim (λ here. ⊎_elim (λ is. not_gone A n (subst (λ (l : ℕ). IsSome (A l)) (root ∙ is) (used p (inl (inl refl)))) free) off_below here) off m;
      has = λ q other m. ⊎_elim (λ here. ⊎_elim (λ is. absurd (other (is ∙ root))) (λ below. inl (inr below)) here) (λ there. inr there) m;
      has_page = inl (inl refl);
      entries_are = refl;
    }
  where
    moved_children : (cs : List Entry) → C n ≡ A p → HoldsChildren A p cs → HoldsChildren C n cs
    moved_children [] moved h = h
    moved_children (x ∷ xs) moved h = (h.0, moved ∙ h.1, h.2)

pub root_grown : (A C : Array) → Numbered A → (n d : ℕ) (f : Forest) (c : Entry) (bytes : List ℕ) → IsSound A d None f → IsFull f → cells f ≡ ([], four_bytes 0) ∷ c ∷ [] → ((q : ℕ) → IsSome (A q) → Meets q f)
    → A n ≡ None → C n ≡ A 0 → C 0 ≡ Some bytes → IsNode Inner (four_bytes n) (c ∷ []) bytes → ((l : ℕ) → l ≢ 0 → l ≢ n → C l ≡ A l) → Represents (entries f) C
root_grown A C numbered n d f c bytes s full e only free now here node others =
    let r = rehomed A C numbered n d f (c ∷ []) s full e free now others in
    record {
      tree = inner [] 0 r.new no_trees;
      is_tree = record {
        depth = suc d;
        sound = (subst (λ (xs : List Entry). HoldsChildren C 0 xs) (sym r.top) (bytes, here, node), begins r.new (four_bytes n) (c ∷ []) r.top, (d, refl, r.sound), tt, r.off, (λ q m none. none), tt);
        root = refl;
        full = inl ((let long = ap (λ (xs : List Entry). length xs) r.top in omega (arith, long)), r.full, tt);
        only = λ q there. ⊎_elim (λ is. inl (inl is))
            (λ other. inl (inr (⊎_elim (λ is. subst (λ (l : ℕ). Meets l r.new) (sym is) r.has_page)
            (λ far. r.has q other (only q (subst (λ (o : Option (List ℕ)). IsSome o) (others q other far) there))) (cases_eq q n)))) (cases_eq q 0);
      };
      entries_are = append-nil (entries r.new) ∙ r.entries_are;
    }
  where
    begins : (g : Forest) (x : List ℕ) (xs : List Entry) → cells g ≡ ([], x) ∷ xs → next g None ≡ Some []
    begins no_trees x xs e = absurd (let bad : [] ≡ ([], x) ∷ xs = e in cc)
    begins (leaf k p es g) x xs e = ap (λ (y : List ℕ). Some y) (key_of k [] (four_bytes p) x (cells g) xs e)
    begins (inner k p h g) x xs e = ap (λ (y : List ℕ). Some y) (key_of k [] (four_bytes p) x (cells g) xs e)

-- a put at the root that leaves one tree
pub root_put : (A B : Array) (map : List Entry) (key value separator : List ℕ) (s : Represents map A) → IsPutBelow A B key value s.is_tree.depth [] None 0 s.tree None separator → Represents (with_entry key value map) B
root_put A B map key value separator s b = record {
  tree = b.new;
  is_tree = record {
    depth = s.is_tree.depth;
    sound = b.put.sound;
    root = b.top;
    full = inl b.put.full;
    only = λ q some. ⊎_elim (λ old. b.put.meets q (s.is_tree.only q old)) (λ new. new) (b.put.taken q some);
  };
  entries_are = b.put.entries_are ∙ ap (λ (es : List Entry). with_entry key value es) s.entries_are;
}

-- the one cell of a root is short
pub one_short : (key child items now : List ℕ) → now ≡ items → items ≡ cells_bytes Inner ((key, child) ∷ []) → IsKeySize key → length child ≡ 4 → 8 + length now ≤ 4096
one_short key child items now is spelled size four =
    let short = short_cell Inner (key, child) size four in
    omega (arith, short, ap (λ (xs : List ℕ). length xs) is, ap (λ (xs : List ℕ). length xs) spelled, length-append (Rattle.page_nodes.specs.Node.cell_bytes Inner (key, child)) [])

-- the pages of a root of two trees, call by call
pub still_used : (S R T : PagesState) (n : ℕ) (bytes : List ℕ) → OnlyReads S R → Takes n bytes R T → IsSome (S.array 0) → IsSome (T.array 0)
still_used S R T n bytes look takes used =
    let now : IsSome (R.array 0) = subst (λ (o : Option (List ℕ)). IsSome o) (sym (look.same 0)) used in
    subst (λ (o : Option (List ℕ)). IsSome o) (sym (takes.writes.others 0 (λ is. not_gone R.array n (subst (λ (l : ℕ). IsSome (R.array l)) is now) takes.was_free))) now

pub root_done : (S R T U : PagesState) → Numbered S.array → (f : Forest) (d n second : ℕ) (separator old bytes : List ℕ) → IsSound S.array d None f → IsFull f
    → cells f ≡ ([], four_bytes 0) ∷ (separator, four_bytes second) ∷ [] → MeetsAll S.array f → OnlyReads S R → S.array 0 ≡ Some old → Takes n old R T → IsNode Inner (four_bytes n) ((separator, four_bytes second) ∷ []) bytes
    → Writes 0 bytes T U → U.sound × Represents (entries f) U.array
root_done S R T U numbered f d n second separator old bytes s full top only look was takes node w =
    let used : IsSome (S.array 0) = some_there (S.array 0) old was in
    let free : S.array n ≡ None = sym (look.same n) ∙ takes.was_free in
    let other : n ≢ 0 = λ is. not_gone S.array n (subst (λ (l : ℕ). IsSome (S.array l)) (sym is) used) free in (
      w.sound,
      root_grown S.array U.array numbered n d f (separator, four_bytes second) bytes s full top only free (w.others n other ∙ (takes.writes.here ∙ sym was)) w.here node
          (λ l off far. w.others l off ∙ (takes.writes.others l far ∙ look.same l)),
    )

-- what a put into the leaf that was read has left
pub leaf_on : (X : Type 0) (A B C : Array) (key value : List ℕ) (s : Site) (page levels : ℕ) (separator : List ℕ) (es : List Entry) (made : Option ℕ) → s.tree ≡ leaf s.low page es no_trees
    → IsSubtree A s page key levels → ((l : ℕ) → B l ≡ A l) → X × AreStored Leaf [] (with_entry key value es) page made separator B C
    → X × IsPutBelow A C key value s.depth s.low s.high page s.tree made separator
leaf_on X A B C key value s page levels separator es made is at same f =
    (f.0, leaf_below A C key value s.low s.high page s.depth separator s.tree es is at.sound at.reaches at.ends made (stored_from A B C Leaf [] (with_entry key value es) page made separator same f.1))

pub at_made : (A B : Array) (key value : List ℕ) (d : ℕ) (low : List ℕ) (high : Option (List ℕ)) (page : ℕ) (t : Forest) (made now : Option ℕ) (separator : List ℕ) → made ≡ now
    → IsPutBelow A B key value d low high page t made separator → IsPutBelow A B key value d low high page t now separator
at_made A B key value d low high page t made now separator is b = subst (λ (o : Option ℕ). IsPutBelow A B key value d low high page t o separator) is b

pub some_now : (A B : Array) (page : ℕ) → ((l : ℕ) → B l ≡ A l) → IsSome (A page) → IsSome (B page)
some_now A B page same some = subst (λ (o : Option (List ℕ)). IsSome o) (sym (same page)) some

-- a put at the root that has made a second tree
pub root_met : (A B : Array) (map : List Entry) (key value : List ℕ) (second : ℕ) (separator : List ℕ) (s : Represents map A) (b : IsPutBelow A B key value s.is_tree.depth [] None 0 s.tree (Some second) separator)
    → (q : ℕ) → IsSome (B q) → Meets q b.new
root_met A B map key value second separator s b q some = ⊎_elim (λ old. b.put.meets q (s.is_tree.only q old)) (λ new. new) (b.put.taken q some)

pub represents_as : (A : Array) (xs ys : List Entry) → xs ≡ ys → Represents xs A → Represents ys A
represents_as A xs ys e s = subst (λ (zs : List Entry). Represents zs A) e s
