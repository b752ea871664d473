-- A removal below an inner node, and at the root.
use Rattle.std.proofs.Common.{◌≡◌, ◌≢◌, ⊎_elim, inl, inr, ℕ, ◌<◌, Option, Some, None, List, [], ◌∷◌, ◌++◌, length, refl, sym, ap, ◌∙◌, arith, subst}
use Rattle.std.proofs.lemmas.Bool.{cases_eq}
use Rattle.std.proofs.lemmas.List.{append-nil}
use Rattle.std.specs.Prelude.{IsSome}
use Rattle.pages.specs.State.{Array, PagesState, OnlyReads, Writes, Frees}
use Rattle.page_nodes.specs.declared.cell.NodeKind.TheVariants.{Leaf, Inner}
use Rattle.page_nodes.specs.Map.{Entry}
use Rattle.page_nodes.specs.Node.{four_bytes, IsNode}
use Rattle.page_tree.specs.Forest.{Forest, no_trees, leaf, inner, append, cells, entries, Meets, next, Holds, HoldsChildren, IsSound, IsFull, Represents}
use Rattle.page_tree.specs.Removal.{Moves, SpellsTrees, Becomes, IsAround, IsBetween, HasNoEntry, HasOneChild}
use Rattle.page_tree.proofs.Trees.{in_use, keep, full_left, full_right, meets_left, meets_right, meets_append}
use Rattle.page_tree.proofs.Place.{Place, placed, cells_around}
use Rattle.page_tree.proofs.Descent.{Numbered, AtInner, AtLeaf, look, not_gone}
use Rattle.page_tree.proofs.RemovalPages.{moves_same, moves_then, moves_between, moves_under, stays, stays_out, sound_still, apart_still, some_as}
use Rattle.page_tree.proofs.RemovalNodes.{page_same}
use Rattle.page_tree.proofs.RemovalTrees.{cells_next, cells_bounded}
use Rattle.page_tree.proofs.RemovalJoins.{becomes_after, becomes_read}

some_key : (a b : List ℕ) → Some a ≡ Some b → a ≡ b
some_key a b e = cc

pub leaf_becomes : (S T U : PagesState) (t : Forest) (low : List ℕ) (page : ℕ) (es : List Entry) (edit : List Entry → List Entry) (R : Forest → Type 0) → t ≡ leaf low page es no_trees → OnlyReads S T → Becomes T U (leaf low page es no_trees) (edit es) R → Becomes S U t (edit (entries t)) R
leaf_becomes S T U t low page es edit R is only_reads b =
    let later = becomes_read S T U (leaf low page es no_trees) (edit es) R only_reads b in
    subst (λ (y : Forest). Becomes S U y (edit (entries y)) R) (sym is)
    (record { sound = later.sound; trees = later.trees; moves = later.moves; entries_are = later.entries_are ∙ ap (λ (xs : List Entry). edit xs) (sym (append-nil es)); result = later.result })

-- the page of a tree is met
pub top_met : (A : Array) → Numbered A → (t : Forest) (d : ℕ) (low : List ℕ) (high : Option (List ℕ)) (page : ℕ) → IsSound A d high t → cells t ≡ (low, four_bytes page) ∷ [] → page < 4294967296 → Meets page t
top_met A numbered t d low high page s top small = ⊎_elim
    (λ l. subst (λ (y : Forest). Meets page y) (sym l.is) (inl refl)) (λ i. subst (λ (y : Forest). Meets page y) (sym i.is) (inl (inl refl))) (look A numbered t d low high page s top small)

two_at_least : (head : Entry) (rest : List Entry) → 1 < length (head ∷ rest) → (c : Entry) × (cs : List Entry) × (rest ≡ c ∷ cs)
two_at_least head [] some = absurd (omega (arith, some))
two_at_least head (c ∷ cs) some = (c, cs, refl)

-- what an inner node above a changed child stands on
pub record Follow (S T : PagesState) (tree : Forest) (page d : ℕ) (low : List ℕ) (high : Option (List ℕ)) (key : List ℕ) (child : ℕ) (first from : List ℕ) (before trees after : Forest) (edit : List Entry → List Entry) : Type 1 where
  pub c : Entry
  pub cs : List Entry
  pub around : IsAround T.array page d low high key child first (c ∷ cs) from before after
  pub between : IsBetween page before trees after
  pub holds : Holds T.array page Inner first (c ∷ cs)
  pub above : (U : PagesState) (R : Forest → Type 0) → Becomes T U (inner low page (append before (append trees after)) no_trees) (entries (append before (append trees after))) R → Becomes S U tree (edit (entries tree)) R

pub inner_follow : (S M T : PagesState) (tree : Forest) (d : ℕ) (low : List ℕ) (high : Option (List ℕ)) (page : ℕ) (key : List ℕ) (child : ℕ) → Numbered S.array → child < 4294967296 → IsSound S.array d high tree → (i : AtInner S.array tree d low high page) → (p : Place key high i.c)
    → 1 < length (cells i.c) → IsFull i.c → cells p.at ≡ (p.from, four_bytes child) ∷ [] → OnlyReads S M → (R : Forest → Type 0) → (edit : List Entry → List Entry)
    → ((u : Forest) → entries u ≡ edit (entries p.at) → entries (append p.before (append u p.after)) ≡ edit (entries i.c)) → (b : Becomes M T p.at (edit (entries p.at)) R)
    → Follow S T tree page i.below low high key child i.head.1 p.from p.before b.trees p.after edit
inner_follow S M T tree d low high page key child numbered small sound i p many full top only_reads R edit inside b =
    let A = S.array in
    let B = T.array in
    let pl = placed A i.below key high i.c p i.sound in
    let m : Moves A B p.at b.trees = moves_then S.array M.array T.array p.at p.at b.trees (moves_same S.array M.array p.at only_reads.same) b.moves in
    let here : IsSound A d high (inner low page i.c no_trees) = subst (λ (y : Forest). IsSound A d high y) i.is sound in
    let used : IsSome (A page) = in_use A d high (inner low page i.c no_trees) here page (inl (inl refl)) in
    let off : Meets page (append p.before (append p.at p.after)) → ⊥ = λ x. here.4 (subst (λ (y : Forest). Meets page y) (sym p.whole) x) in
    let off_at : Meets page p.at → ⊥ = λ x. off (meets_right page p.before (append p.at p.after) (meets_left page p.at p.after x)) in
    let before_apart : (q : ℕ) → Meets q p.before → Meets q p.at → ⊥ = λ q x y. pl.apart_before q x (meets_left q p.at p.after y) in
    let after_apart : (q : ℕ) → Meets q p.after → Meets q p.at → ⊥ = λ q x y. pl.apart_after q y x in
    let page_still : B page ≡ A page = stays A B p.at b.trees m page used off_at in
    let met = top_met A numbered p.at i.below p.from (next p.after high) child pl.at_sound top small in
    let parts_full : IsFull (append p.before (append p.at p.after)) = subst (λ (y : Forest). IsFull y) p.whole full in
    let more = two_at_least i.head i.rest (let long = ap (λ (xs : List Entry). length xs) i.cells_are in omega (arith, many, long)) in
    let low_is : i.head.0 ≡ low = some_key i.head.0 low (sym (cells_next i.c i.head i.rest i.cells_are) ∙ i.begins) in
    let spelled : cells p.before ++ ((p.from, four_bytes child) ∷ cells p.after) ≡ i.head ∷ i.rest =
    sym (cells_around p.before p.at p.after (p.from, four_bytes child) top) ∙ (ap (λ (y : Forest). cells y) (sym p.whole) ∙ i.cells_are) in
    record {
      c = more.0;
      cs = more.1;
      around = record {
        before_sound = sound_still A B p.at b.trees m i.below (Some p.from) p.before pl.before_sound before_apart;
        after_sound = sound_still A B p.at b.trees m i.below high p.after pl.after_sound after_apart;
        before_full = full_left p.before (append p.at p.after) parts_full;
        after_full = full_right p.at p.after (full_right p.before (append p.at p.after) parts_full);
        apart = λ q x y. pl.apart_before q x (meets_right q p.at p.after y);
        page_apart = λ x. ⊎_elim (λ y. off (meets_left page p.before (append p.at p.after) y)) (λ y. off (meets_right page p.before (append p.at p.after) (meets_right page p.at p.after y))) (meets_append page p.before p.after x);
        child_apart = λ x. ⊎_elim (λ y. before_apart child y met) (λ y. after_apart child y met) (meets_append child p.before p.after x);
        there = some_as A B page page_still used;
        spelled = spelled ∙ (ap (λ (k : List ℕ). (k, i.head.1) ∷ i.rest) low_is ∙ ap (λ (xs : List Entry). (low, i.head.1) ∷ xs) more.2);
        some = omega arith;
        under = cells_bounded A i.below (next p.after high) p.at (p.from, four_bytes child) [] pl.at_sound top;
        reaches = p.reaches;
        ends = p.ends;
      };
      between = record {
        apart_before = apart_still A B p.at b.trees m i.below (Some p.from) p.before pl.before_sound before_apart;
        apart_after = λ q x y. apart_still A B p.at b.trees m i.below high p.after pl.after_sound after_apart q y x;
        page_apart = stays_out A B p.at b.trees m page used off_at;
      };
      holds = subst (λ (xs : List Entry). Holds B page Inner i.head.1 xs) more.2 (i.holds.0, page_still ∙ i.holds.1, i.holds.2);
      above = λ U Q w.
          let whole : tree ≡ inner low page (append p.before (append p.at p.after)) no_trees = i.is ∙ ap (λ (y : Forest). inner low page y no_trees) p.whole in
          let moves : Moves A B tree (inner low page (append p.before (append b.trees p.after)) no_trees) =
          subst (λ (y : Forest). Moves A B y (inner low page (append p.before (append b.trees p.after)) no_trees)) (sym whole)
          (moves_under A B low page (append p.before (append p.at p.after)) (append p.before (append b.trees p.after)) (moves_between A B p.before p.after p.at b.trees m)) in
          let later = becomes_after S T U tree (inner low page (append p.before (append b.trees p.after)) no_trees) (entries (append p.before (append b.trees p.after))) Q moves w in
          let entries_of : entries tree ≡ entries i.c = ap (λ (y : Forest). entries y) i.is ∙ append-nil (entries i.c) in
          record {
            sound = later.sound;
            trees = later.trees;
            moves = later.moves;
            entries_are = later.entries_are ∙ (inside b.trees b.entries_are ∙ ap (λ (xs : List Entry). edit xs) (sym entries_of));
            result = later.result;
          };
    }

-- the only child of a root
pub child_met : (A : Array) → Numbered A → (d child : ℕ) (f : Forest) → child < 4294967296 → (h : HasOneChild A d [] None 0 child f) → Meets child h.children
child_met A numbered d child f small h = top_met A numbered h.children h.below [] None child h.spells.sound h.spells.spelled small

pub child_used : (A : Array) → Numbered A → (d child : ℕ) (f : Forest) → child < 4294967296 → HasOneChild A d [] None 0 child f → IsSome (A child)
child_used A numbered d child f small h = in_use A h.below None h.children h.spells.sound child (child_met A numbered d child f small h)

pub child_other : (A : Array) → Numbered A → (d child : ℕ) (f : Forest) → child < 4294967296 → HasOneChild A d [] None 0 child f → child ≢ 0
child_other A numbered d child f small h at = h.apart (subst (λ (n : ℕ). Meets n h.children) at (child_met A numbered d child f small h))

-- the root
pub root_preserved : (A : Array) (f : Forest) (d : ℕ) → SpellsTrees A d None (([], four_bytes 0) ∷ []) f → ((q : ℕ) → IsSome (A q) → Meets q f) → Represents (entries f) A
root_preserved A f d s only = record { tree = f; is_tree = record { depth = d; sound = s.sound; root = s.spelled; full = inl s.full; only = only }; entries_are = refl }

pub root_cleared : (S T : PagesState) (f : Forest) (d : ℕ) (bytes : List ℕ) → HasNoEntry S.array d [] 0 f → ((q : ℕ) → IsSome (S.array q) → Meets q f) → IsNode Leaf [] [] bytes → Writes 0 bytes S T → Represents (entries f) T.array
root_cleared S T f d bytes e only node w = record {
  tree = leaf [] 0 [] no_trees;
  is_tree = record {
    depth = 0;
    sound = ((bytes, w.here, node), refl, (tt, tt, tt), tt, (λ m. m), tt);
    root = refl;
    full = inr refl;
    only = λ q some. ⊎_elim (λ at. inl at) (λ other. subst (λ (y : Forest). Meets q y) e.is (only q (some_as T.array S.array q (sym (w.others q other)) some))) (cases_eq q 0);
  };
  entries_are = sym (ap (λ (y : Forest). entries y) e.is);
}

module _ (S T U V : PagesState) (f : Forest) (d child : ℕ) (bytes : List ℕ) (numbered : Numbered S.array) (small : child < 4294967296) (h : HasOneChild S.array d [] None 0 child f) (only : (q : ℕ) → IsSome (S.array q) → Meets q f)
    (only_reads : OnlyReads S T) (read : T.array child ≡ Some bytes) (w : Writes 0 bytes T U) (gone : Frees child U V) where
  met_child : Meets child h.children
  met_child = top_met S.array numbered h.children h.below [] None child h.spells.sound h.spells.spelled small

  zero_apart : 0 ≢ child
  zero_apart at = h.apart (subst (λ (n : ℕ). Meets n h.children) (sym at) met_child)

  root_now : V.array 0 ≡ Some bytes
  root_now = gone.others 0 zero_apart ∙ w.here

  there_before : S.array child ≡ Some bytes
  there_before = sym (only_reads.same child) ∙ read

  still : (q : ℕ) → q ≢ 0 → q ≢ child → V.array q ≡ S.array q
  still q zero other = gone.others q other ∙ (w.others q zero ∙ only_reads.same q)

  entries_now : entries h.children ≡ entries f
  entries_now = sym (ap (λ (y : Forest). entries y) h.is ∙ append-nil (entries h.children))

  old_met : (q : ℕ) → IsSome (V.array q) → q ≢ 0 → q ≢ child → Meets q h.children
  old_met q some zero other = ⊎_elim (λ top. ⊎_elim (λ at. absurd (zero at)) (λ y. y) top) (λ none. absurd none)
      (subst (λ (y : Forest). Meets q y) h.is (only q (some_as V.array S.array q (sym (still q zero other)) some)))

  met_now : (t : Forest) → Meets 0 t → ((q : ℕ) → q ≢ child → Meets q h.children → Meets q t) → (q : ℕ) → IsSome (V.array q) → Meets q t
  met_now t root rest q some = ⊎_elim (λ at. subst (λ (n : ℕ). Meets n t) (sym at) root)
      (λ zero. ⊎_elim (λ at. absurd (not_gone V.array q some (ap V.array at ∙ gone.here))) (λ other. rest q other (old_met q some zero other)) (cases_eq q child)) (cases_eq q 0)

  same_bytes : (a b : List ℕ) → Some a ≡ Some b → a ≡ b
  same_bytes a b e = cc

  lowered_leaf : AtLeaf S.array h.children [] child → Represents (entries f) V.array
  lowered_leaf l =
      let s : IsSound S.array h.below None (leaf [] child l.es no_trees) = subst (λ (y : Forest). IsSound S.array h.below None y) l.is h.spells.sound in
      let full : IsFull (leaf [] child l.es no_trees) = subst (λ (y : Forest). IsFull y) l.is h.spells.full in
      let same : s.0.0 ≡ bytes = same_bytes s.0.0 bytes (sym s.0.1 ∙ there_before) in
      record {
        tree = leaf [] 0 l.es no_trees;
        is_tree = record {
          depth = h.below;
          sound = ((bytes, root_now, subst (λ (x : List ℕ). IsNode Leaf [] l.es x) same s.0.2), s.1, s.2, s.3, (λ m. m), tt);
          root = refl;
          full = inl full;
          only = met_now (leaf [] 0 l.es no_trees) (inl refl) (λ q other m. ⊎_elim (λ at. absurd (other at)) (λ none. absurd none) (subst (λ (y : Forest). Meets q y) l.is m));
        };
        entries_are = sym (ap (λ (y : Forest). entries y) l.is) ∙ entries_now;
      }

  lowered_inner : AtInner S.array h.children h.below [] None child → Represents (entries f) V.array
  lowered_inner i =
      let s : IsSound S.array h.below None (inner [] child i.c no_trees) = subst (λ (y : Forest). IsSound S.array h.below None y) i.is h.spells.sound in
      let full : IsFull (inner [] child i.c no_trees) = subst (λ (y : Forest). IsFull y) i.is h.spells.full in
      let off_zero : Meets 0 i.c → ⊥ = λ m. h.apart (subst (λ (y : Forest). Meets 0 y) (sym i.is) (inl (inr m))) in
      let same : i.holds.0 ≡ bytes = same_bytes i.holds.0 bytes (sym i.holds.1 ∙ there_before) in
      let holds : HoldsChildren V.array 0 (i.head ∷ i.rest) = (bytes, root_now, subst (λ (x : List ℕ). IsNode Inner i.head.1 i.rest x) same i.holds.2) in
      record {
        tree = inner [] 0 i.c no_trees;
        is_tree = record {
          depth = h.below;
          sound = (
            subst (λ (xs : List Entry). HoldsChildren V.array 0 xs) (sym i.cells_are) holds,
            s.1,
            (s.2.0, s.2.1, keep S.array V.array s.2.0 None i.c (λ q m. still q (λ at. off_zero (subst (λ (n : ℕ). Meets n i.c) at m)) (λ at. s.4 (subst (λ (n : ℕ). Meets n i.c) at m))) s.2.2),
            s.3,
            off_zero,
            (λ q m none. none),
            tt,
          );
          root = refl;
          full = inl full;
          only = met_now (inner [] 0 i.c no_trees) (inl (inl refl)) (λ q other m. ⊎_elim (λ top. ⊎_elim (λ at. absurd (other at)) (λ y. inl (inr y)) top) (λ none. absurd none) (subst (λ (y : Forest). Meets q y) i.is m));
        };
        entries_are = sym (ap (λ (y : Forest). entries y) i.is) ∙ entries_now;
      }

  pub root_lowered : Represents (entries f) V.array
  root_lowered = ⊎_elim (λ l. lowered_leaf l) (λ i. lowered_inner i) (look S.array numbered h.children h.below [] None child h.spells.sound h.spells.spelled small)

-- the first page of trees is in use
head_same : (x y : Entry) (xs ys : List Entry) → x ∷ xs ≡ y ∷ ys → x ≡ y
head_same x y xs ys e = cc

pub first_used : (A : Array) → Numbered A → (f : Forest) (d : ℕ) (high : Option (List ℕ)) (page : ℕ) (k : List ℕ) (cs : List Entry) → page < 4294967296 → IsSound A d high f → cells f ≡ (k, four_bytes page) ∷ cs → IsSome (A page)
first_used A numbered no_trees d high page k cs small s e = absurd (let bad : [] ≡ (k, four_bytes page) ∷ cs = e in cc)
first_used A numbered (leaf j p es f) d high page k cs small s e =
    let used = in_use A d high (leaf j p es f) s p (inl refl) in
    let same : p ≡ page = page_same p page (let less = numbered p used in omega (arith, less)) small (ap (λ (x : Entry). x.1) (head_same (j, four_bytes p) (k, four_bytes page) (cells f) cs e)) in
    subst (λ (n : ℕ). IsSome (A n)) same used
first_used A numbered (inner j p c f) d high page k cs small s e =
    let used = in_use A d high (inner j p c f) s p (inl (inl refl)) in
    let same : p ≡ page = page_same p page (let less = numbered p used in omega (arith, less)) small (ap (λ (x : Entry). x.1) (head_same (j, four_bytes p) (k, four_bytes page) (cells f) cs e)) in
    subst (λ (n : ℕ). IsSome (A n)) same used
