-- The child that is put under its neighbour, seen from the inner node above.
use Rattle.std.proofs.Common.{◌≡◌, ◌≢◌, ⊎_elim, inl, inr, ℕ, suc, ◌<◌, Option, Some, None, List, [], ◌∷◌, ◌++◌, refl, sym, ap, ◌∙◌, arith, subst, append_assoc}
use Rattle.std.proofs.lemmas.List.{append-nil}
use Rattle.pages.specs.State.{Array, PagesState}
use Rattle.page_nodes.specs.declared.cell.NodeKind.TheVariants.{Inner}
use Rattle.page_nodes.specs.Map.{Entry, with_entry, without}
use Rattle.page_nodes.specs.Node.{four_bytes}
use Rattle.page_nodes.specs.Search.{pair_from}
use Rattle.page_tree.specs.Forest.{Forest, no_trees, leaf, inner, append, cells, entries, Meets, AllUnder, next, Holds, HoldsChildren, IsSound, IsFull}
use Rattle.page_tree.specs.Puts.{made_cells}
use Rattle.page_tree.specs.Removal.{SpellsTrees, IsParent, Becomes, IsAround, IsBetween, IsJoined, with_made}
use Rattle.page_tree.proofs.Keys.{with_right}
use Rattle.page_tree.proofs.Trees.{parts, joined, cells_append, entries_append, meets_append, meets_left, meets_right, full_append, full_left, full_right, in_use}
use Rattle.page_tree.proofs.Bounds.{irreflexive, first_key, cells_under}
use Rattle.page_tree.proofs.Place.{bound_is}
use Rattle.page_tree.proofs.Descent.{Numbered, look}
use Rattle.page_tree.proofs.RemovalPages.{moves_as, moves_between, meets_three, meets_mid, meets_sides, sound_still, apart_still}
use Rattle.page_tree.proofs.RemovalNodes.{page_same}
use Rattle.page_tree.proofs.RemovalTrees.{cells_next}
use Rattle.page_tree.proofs.RemovalSides.{without_here, made_spelled, FirstSide, LaterSide}

tail_is : (x y : Entry) (xs ys : List Entry) → x ∷ xs ≡ y ∷ ys → xs ≡ ys
tail_is x y xs ys e = cc

head_is : (x y : Entry) (xs ys : List Entry) → x ∷ xs ≡ y ∷ ys → x ≡ y
head_is x y xs ys e = cc

some_key : (a b : List ℕ) → Some a ≡ Some b → a ≡ b
some_key a b e = cc

children_at : (A : Array) (p : ℕ) (cs : List Entry) → HoldsChildren A p cs → (head : Entry) × (rest : List Entry) × (cs ≡ head ∷ rest) × Holds A p Inner head.1 rest
children_at A p [] h = absurd h
children_at A p (c ∷ cs) h = (c, cs, refl, h)

-- a neighbour that takes a child, and what that makes of the trees above
pub record Joins (S : PagesState) (d : ℕ) (low : List ℕ) (high : Option (List ℕ)) (key first : List ℕ) (c : Entry) (cs : List Entry) (child neighbour : ℕ) (before lone after : Forest) (first_of : List ℕ → List ℕ) (cells_of : List ℕ → List Entry → List Entry) : Type 1 where
  pub below : ℕ
  pub from : List ℕ
  pub to : Option (List ℕ)
  pub head : List ℕ
  pub rest : List Entry
  pub children : Forest
  pub parent : IsParent S.array neighbour below from to (first_of head) (cells_of head rest) children
  pub holds : Holds S.array neighbour Inner head rest
  pub above : (U : PagesState) (made : Option ℕ) (separator : List ℕ) → Becomes S U (inner from neighbour children no_trees) (entries children) (λ u. SpellsTrees U.array (suc below) to ((from, four_bytes neighbour) ∷ made_cells separator made) u)
      → Becomes S U (append before (append lone after)) (entries (append before (append lone after))) (λ f. IsJoined U.array d low high first c cs key child made separator f)

two_cells : (from low head_key k : List ℕ) (x b : List ℕ) (cs : List Entry) → from ≡ low → head_key ≡ k → (from, x) ∷ (head_key, b) ∷ cs ≡ (low, x) ∷ (k, b) ∷ cs
two_cells from low head_key k x b cs e g = rw (e, g) refl

module _ (S : PagesState) (page d : ℕ) (low : List ℕ) (high : Option (List ℕ)) (key : List ℕ) (child : ℕ) (first : List ℕ) (c : Entry) (cs : List Entry) (from : List ℕ) (left : ℕ) where
  module _ (k : List ℕ) (p : ℕ) (g rest x : Forest) (a : IsAround S.array page d low high key child first (c ∷ cs) from no_trees (inner k p g rest)) (f : FirstSide low first c cs key from child no_trees (inner k p g rest))
      (b : ℕ) (deep : d ≡ suc b) (x_sound : IsSound S.array b (Some k) x) (x_full : IsFull x) (x_spelled : cells x ≡ (from, four_bytes left) ∷ []) (bt : IsBetween page no_trees x (inner k p g rest))
      (g_sound : IsSound S.array b (next rest high) g) (head : Entry) (gs : List Entry) (g_cells : cells g ≡ head ∷ gs) where
    key_is : head.0 ≡ c.0
    key_is = some_key head.0 k (sym (cells_next g head gs g_cells) ∙ a.after_sound.1) ∙ ap (λ (z : Entry). z.0) (head_is (k, four_bytes p) c (cells rest) cs f.cells_are)

    first_parent : IsParent S.array p b low (next rest high) (four_bytes left) ((c.0, head.1) ∷ gs) (append x g)
    first_parent = record {
      spells = record {
        sound = joined S.array b (next rest high) x g (subst (λ (o : Option (List ℕ)). IsSound S.array b o x) (sym (first_key g k (next rest high) a.after_sound.1)) x_sound) g_sound (λ q m n. bt.apart_after q m (inl (inr n)));
        full = full_append x g x_full a.after_full.1;
        spelled = cells_append x g ∙ (ap (λ (zs : List Entry). zs ++ cells g) x_spelled ∙ (ap (λ (zs : List Entry). (from, four_bytes left) ∷ zs) g_cells ∙ two_cells from low head.0 c.0 (four_bytes left) head.1 gs f.low_is key_is));
      };
      apart = λ m. ⊎_elim (λ y. bt.apart_after p y (inl (inl refl))) (λ z. a.after_sound.4 z) (meets_append p x g m);
      there = in_use S.array d high (inner k p g rest) a.after_sound p (inl (inl refl));
    }

    moved : Forest
    moved = inner low p (append x g) no_trees

    pub first_apart : (q : ℕ) → Meets q rest → Meets q (inner low p (append x g) no_trees) → ⊥
    first_apart q m n = ⊎_elim (λ top. ⊎_elim (λ at. a.after_sound.5 q (inl at) m)
        (λ y. ⊎_elim (λ z. bt.apart_after q z (inr m)) (λ z. a.after_sound.5 q (inr z) m) (meets_append q x g y)) top) (λ none. none) n

    first_to : (q : ℕ) → Meets q (append (inner low p (append x g) no_trees) rest) → Meets q (append x (inner k p g rest))
    first_to q n = ⊎_elim (λ top. ⊎_elim (λ at. meets_right q x (inner k p g rest) (inl (inl at)))
        (λ y. ⊎_elim (λ z. meets_left q x (inner k p g rest) z) (λ z. meets_right q x (inner k p g rest) (inl (inr z))) (meets_append q x g y)) top) (λ m. meets_right q x (inner k p g rest) (inr m)) n

    first_back : (q : ℕ) → Meets q (append x (inner k p g rest)) → Meets q (append (inner low p (append x g) no_trees) rest)
    first_back q n = ⊎_elim (λ y. inl (inr (meets_left q x g y))) (λ r. ⊎_elim (λ top. ⊎_elim (λ at. inl (inl at)) (λ z. inl (inr (meets_right q x g z))) top) (λ m. inr m) r) (meets_append q x (inner k p g rest) n)

    first_above : (U : PagesState) (made : Option ℕ) (separator : List ℕ) → Becomes S U (inner low p (append x g) no_trees) (entries (append x g)) (λ u. SpellsTrees U.array (suc b) (next rest high) ((low, four_bytes p) ∷ made_cells separator made) u)
        → Becomes S U (append no_trees (append x (inner k p g rest))) (entries (append no_trees (append x (inner k p g rest)))) (λ f. IsJoined U.array d low high first c cs key child made separator f)
    first_above U made separator w =
        let u = w.trees in
        let u_sound : IsSound U.array d (next rest high) u = subst (λ (n : ℕ). IsSound U.array n (next rest high) u) (sym deep) w.result.sound in
        let rest_sound : IsSound U.array d high rest = sound_still S.array U.array (inner low p (append x g) no_trees) u w.moves d high rest a.after_sound.6 first_apart in
        let off = apart_still S.array U.array (inner low p (append x g) no_trees) u w.moves d high rest a.after_sound.6 first_apart in
        let gone : without (pair_from key first c cs).1.0 (c ∷ cs) ≡ cs = ap (λ (z : List ℕ × Entry). without z.1.0 (c ∷ cs)) f.pair_is ∙ without_here c cs in
        let one : (k, four_bytes p) ≡ c = head_is (k, four_bytes p) c (cells rest) cs f.cells_are in
        let two : cells rest ≡ cs = tail_is (k, four_bytes p) c (cells rest) cs f.cells_are in
        record {
          sound = w.sound;
          trees = append u rest;
          moves = moves_as S.array U.array (append (inner low p (append x g) no_trees) rest) (append x (inner k p g rest)) (append u rest) (append u rest) first_to first_back (λ q m. m) (λ q m. m)
              (moves_between S.array U.array no_trees rest (inner low p (append x g) no_trees) u w.moves);
          entries_are = entries_append u rest ∙ (ap (λ (es : List Entry). es ++ entries rest) (w.entries_are ∙ entries_append x g) ∙ (append_assoc (entries x) (entries g) (entries rest) ∙ sym (entries_append x (inner k p g rest))));
          result = record {
            left = four_bytes p;
            spells = record {
              sound = joined U.array d high u rest u_sound rest_sound (λ q m n. off q n m);
              full = full_append u rest w.result.full a.after_full.2;
              spelled = made_spelled U.array d high no_trees u rest low (four_bytes p) separator made (low, four_bytes p) cs tt u_sound w.result.spelled (ap (λ (zs : List Entry). (low, four_bytes p) ∷ zs) two)
                  ∙ ap (λ (zs : List Entry). (low, four_bytes p) ∷ with_made separator made zs) (sym gone);
            };
            left_is = inl (sym (ap (λ (z : List ℕ × Entry). z.0) f.pair_is), ap (λ (z : Entry). z.1) one ∙ sym (ap (λ (z : List ℕ × Entry). z.1.1) f.pair_is));
          };
        }

  -- the neighbour after takes the child
  pub joins_first : (before after x : Forest) (b : ℕ) → d ≡ suc b → IsAround S.array page d low high key child first (c ∷ cs) from before after → FirstSide low first c cs key from child before after
      → SpellsTrees S.array b (next after high) ((from, four_bytes left) ∷ []) x → IsBetween page before x after → Numbered S.array → (neighbour : ℕ) (k : List ℕ) → neighbour < 4294967296 → k ≡ (pair_from key first c cs).1.0 → four_bytes neighbour ≡ (pair_from key first c cs).1.1
      → Joins S d low high key first c cs child neighbour before x after (λ h. four_bytes left) (λ h hs. (k, h) ∷ hs)
  joins_first (leaf j q es h) after x b deep a f s bt numbered neighbour k small key_is page_is = absurd (let bad = f.none in cc)
  joins_first (inner j q h r) after x b deep a f s bt numbered neighbour k small key_is page_is = absurd (let bad = f.none in cc)
  joins_first no_trees no_trees x b deep a f s bt numbered neighbour k small key_is page_is = absurd (let bad : [] ≡ c ∷ cs = f.cells_are in cc)
  joins_first no_trees (leaf j q es h) x b deep a f s bt numbered neighbour k small key_is page_is = absurd (let flat = a.after_sound.1 in omega (arith, flat, deep))
  joins_first no_trees (inner j p g rest) x b deep a f s bt numbered neighbour k small key_is page_is =
      let one : (j, four_bytes p) ≡ c = head_is (j, four_bytes p) c (cells rest) cs f.cells_are in
      let used = in_use S.array d high (inner j p g rest) a.after_sound p (inl (inl refl)) in
      let same : p ≡ neighbour = page_same p neighbour (let less = numbered p used in omega (arith, less)) small (ap (λ (z : Entry). z.1) one ∙ (sym (ap (λ (z : List ℕ × Entry). z.1.1) f.pair_is) ∙ sym page_is)) in
      let k_is : c.0 ≡ k = sym (ap (λ (z : List ℕ × Entry). z.1.0) f.pair_is) ∙ sym key_is in
      let depth : a.after_sound.2.0 ≡ b = let e = a.after_sound.2.1 in omega (arith, e, deep) in
      let g_sound : IsSound S.array b (next rest high) g = subst (λ (n : ℕ). IsSound S.array n (next rest high) g) depth a.after_sound.2.2 in
      let ch = children_at S.array p (cells g) a.after_sound.0 in
      let made_of : Joins S d low high key first c cs child p no_trees x (inner j p g rest) (λ h. four_bytes left) (λ h hs. (c.0, h) ∷ hs) = record {
        below = b;
        from = low;
        to = next rest high;
        head = ch.0.1;
        rest = ch.1;
        children = append x g;
        parent = first_parent j p g rest x a f b deep s.sound s.full s.spelled bt g_sound ch.0 ch.1 ch.2;
        holds = ch.3;
        above = λ U made separator w. first_above j p g rest x a f b deep s.sound s.full s.spelled bt g_sound ch.0 ch.1 ch.2 U made separator w;
      } in
      subst (λ (n : ℕ). Joins S d low high key first c cs child n no_trees x (inner j p g rest) (λ h. four_bytes left) (λ h hs. (k, h) ∷ hs)) same
      (subst (λ (z : List ℕ). Joins S d low high key first c cs child p no_trees x (inner j p g rest) (λ h. four_bytes left) (λ h hs. (z, h) ∷ hs)) k_is made_of)

  module _ (k : List ℕ) (p : ℕ) (init g x after : Forest) (a : IsAround S.array page d low high key child first (c ∷ cs) from (append init (inner k p g no_trees)) after)
      (pair_is : pair_from key first c cs ≡ (four_bytes p, (from, four_bytes child))) (rest_are : cells (append init (inner k p g no_trees)) ++ cells after ≡ (low, first) ∷ without from (c ∷ cs)) (other : four_bytes child ≢ four_bytes p)
      (b : ℕ) (deep : d ≡ suc b) (s : SpellsTrees S.array b (next after high) ((from, four_bytes left) ∷ []) x) (bt : IsBetween page (append init (inner k p g no_trees)) x after)
      (init_sound : IsSound S.array d (Some k) init) (y_sound : IsSound S.array d (Some from) (inner k p g no_trees)) (g_sound : IsSound S.array b (Some from) g) (apart_init : (q : ℕ) → Meets q init → Meets q (inner k p g no_trees) → ⊥)
      (head : Entry) (gs : List Entry) (g_cells : cells g ≡ head ∷ gs) where
    in_y : (q : ℕ) → Meets q (inner k p g no_trees) → Meets q (append init (inner k p g no_trees))
    in_y q m = meets_right q init (inner k p g no_trees) m

    in_init : (q : ℕ) → Meets q init → Meets q (append init (inner k p g no_trees))
    in_init q m = meets_left q init (inner k p g no_trees) m

    y_full : IsFull (inner k p g no_trees)
    y_full = full_right init (inner k p g no_trees) a.before_full

    with_last : with_entry from (four_bytes left) gs ≡ gs ++ ((from, four_bytes left) ∷ [])
    with_last =
        let all : AllUnder (Some from) (head ∷ gs) = subst (λ (zs : List Entry). AllUnder (Some from) zs) g_cells (cells_under S.array b (Some from) g g_sound) in
        ap (λ (zs : List Entry). with_entry from (four_bytes left) zs) (sym (append-nil gs)) ∙ with_right from from (irreflexive from) [] (four_bytes left) gs all.1

    later_parent : IsParent S.array p b k (next after high) head.1 (with_entry from (four_bytes left) gs) (append g x)
    later_parent = record {
      spells = record {
        sound = joined S.array b (next after high) g x (subst (λ (o : Option (List ℕ)). IsSound S.array b o g) (sym (first_key x from (next after high) (cells_next x (from, four_bytes left) [] s.spelled))) g_sound) s.sound
            (λ q m n. bt.apart_before q (in_y q (inl (inr m))) n);
        full = full_append g x y_full.1 s.full;
        spelled = cells_append g x ∙ (ap (λ (zs : List Entry). cells g ++ zs) s.spelled ∙ (ap (λ (zs : List Entry). zs ++ ((from, four_bytes left) ∷ [])) g_cells
            ∙ (ap (λ (z : List ℕ). (z, head.1) ∷ (gs ++ ((from, four_bytes left) ∷ []))) (some_key head.0 k (sym (cells_next g head gs g_cells) ∙ y_sound.1)) ∙ ap (λ (zs : List Entry). (k, head.1) ∷ zs) (sym with_last))));
      };
      apart = λ m. ⊎_elim (λ z. y_sound.4 z) (λ z. bt.apart_before p (in_y p (inl (inl refl))) z) (meets_append p g x m);
      there = in_use S.array d (Some from) (inner k p g no_trees) y_sound p (inl (inl refl));
    }

    later_init : (q : ℕ) → Meets q init → Meets q (inner k p (append g x) no_trees) → ⊥
    later_init q m n = ⊎_elim (λ top. ⊎_elim (λ at. apart_init q m (inl (inl at)))
        (λ y. ⊎_elim (λ z. apart_init q m (inl (inr z))) (λ z. bt.apart_before q (in_init q m) z) (meets_append q g x y)) top) (λ none. none) n

    later_after : (q : ℕ) → Meets q after → Meets q (inner k p (append g x) no_trees) → ⊥
    later_after q m n = ⊎_elim (λ top. ⊎_elim (λ at. a.apart q (in_y q (inl (inl at))) m)
        (λ y. ⊎_elim (λ z. a.apart q (in_y q (inl (inr z))) m) (λ z. bt.apart_after q z m) (meets_append q g x y)) top) (λ none. none) n

    later_to : (q : ℕ) → Meets q (append init (append (inner k p (append g x) no_trees) after)) → Meets q (append (append init (inner k p g no_trees)) (append x after))
    later_to q n = ⊎_elim
        (λ t. ⊎_elim (λ top. ⊎_elim (λ at. meets_left q (append init (inner k p g no_trees)) (append x after) (in_y q (inl (inl at))))
        (λ y. ⊎_elim (λ z. meets_left q (append init (inner k p g no_trees)) (append x after) (in_y q (inl (inr z)))) (λ z. meets_mid q (append init (inner k p g no_trees)) x after z) (meets_append q g x y)) top) (λ none. absurd none) t)
        (λ side. ⊎_elim (λ i. meets_left q (append init (inner k p g no_trees)) (append x after) (in_init q i)) (λ h. meets_sides q (append init (inner k p g no_trees)) x after (inr h)) side)
        (meets_three q init (inner k p (append g x) no_trees) after n)

    later_back : (q : ℕ) → Meets q (append (append init (inner k p g no_trees)) (append x after)) → Meets q (append init (append (inner k p (append g x) no_trees) after))
    later_back q n = ⊎_elim
        (λ z. meets_mid q init (inner k p (append g x) no_trees) after (inl (inr (meets_right q g x z))))
        (λ side. ⊎_elim
        (λ i. ⊎_elim (λ y. meets_sides q init (inner k p (append g x) no_trees) after (inl y))
        (λ t. ⊎_elim (λ top. ⊎_elim (λ at. meets_mid q init (inner k p (append g x) no_trees) after (inl (inl at))) (λ z. meets_mid q init (inner k p (append g x) no_trees) after (inl (inr (meets_left q g x z)))) top) (λ none. absurd none) t)
        (meets_append q init (inner k p g no_trees) i))
        (λ h. meets_sides q init (inner k p (append g x) no_trees) after (inr h)) side)
        (meets_three q (append init (inner k p g no_trees)) x after n)

    later_entries : (u : Forest) → entries u ≡ entries (append g x) → entries (append init (append u after)) ≡ entries (append (append init (inner k p g no_trees)) (append x after))
    later_entries u e =
        let ei = entries init in
        let eg = entries g in
        let ex = entries x in
        let eh = entries after in
        let now : entries (append init (append u after)) ≡ ei ++ (eg ++ (ex ++ eh)) =
        entries_append init (append u after) ∙ ap (λ (zs : List Entry). ei ++ zs) (entries_append u after ∙ (ap (λ (zs : List Entry). zs ++ eh) (e ∙ entries_append g x) ∙ append_assoc eg ex eh)) in
        let was : entries (append (append init (inner k p g no_trees)) (append x after)) ≡ ei ++ (eg ++ (ex ++ eh)) =
        entries_append (append init (inner k p g no_trees)) (append x after) ∙ (ap (λ (zs : List Entry). zs ++ entries (append x after)) (entries_append init (inner k p g no_trees) ∙ ap (λ (zs : List Entry). ei ++ zs) (append-nil eg))
        ∙ (append_assoc ei eg (entries (append x after)) ∙ ap (λ (zs : List Entry). ei ++ (eg ++ zs)) (entries_append x after))) in
        now ∙ sym was

    later_above : (U : PagesState) (made : Option ℕ) (separator : List ℕ) → Becomes S U (inner k p (append g x) no_trees) (entries (append g x)) (λ u. SpellsTrees U.array (suc b) (next after high) ((k, four_bytes p) ∷ made_cells separator made) u)
        → Becomes S U (append (append init (inner k p g no_trees)) (append x after)) (entries (append (append init (inner k p g no_trees)) (append x after))) (λ f. IsJoined U.array d low high first c cs key child made separator f)
    later_above U made separator w =
        let u = w.trees in
        let t : Forest = inner k p (append g x) no_trees in
        let u_sound : IsSound U.array d (next after high) u = subst (λ (n : ℕ). IsSound U.array n (next after high) u) (sym deep) w.result.sound in
        let init_now : IsSound U.array d (Some k) init = sound_still S.array U.array t u w.moves d (Some k) init init_sound later_init in
        let init_off = apart_still S.array U.array t u w.moves d (Some k) init init_sound later_init in
        let after_now : IsSound U.array d high after = sound_still S.array U.array t u w.moves d high after a.after_sound later_after in
        let after_off = apart_still S.array U.array t u w.moves d high after a.after_sound later_after in
        let gone : without (pair_from key first c cs).1.0 (c ∷ cs) ≡ without from (c ∷ cs) = ap (λ (z : List ℕ × Entry). without z.1.0 (c ∷ cs)) pair_is in
        let begins : next u None ≡ Some k = cells_next u (k, four_bytes p) (made_cells separator made) w.result.spelled in
        let spelled_so : cells init ++ ((k, four_bytes p) ∷ cells after) ≡ (low, first) ∷ without from (c ∷ cs) =
        sym (ap (λ (zs : List Entry). zs ++ cells after) (cells_append init (inner k p g no_trees)) ∙ append_assoc (cells init) ((k, four_bytes p) ∷ []) (cells after)) ∙ rest_are in
        record {
          sound = w.sound;
          trees = append init (append u after);
          moves = moves_as S.array U.array (append init (append t after)) (append (append init (inner k p g no_trees)) (append x after)) (append init (append u after)) (append init (append u after)) later_to later_back (λ q m. m) (λ q m. m)
              (moves_between S.array U.array init after t u w.moves);
          entries_are = later_entries u w.entries_are;
          result = record {
            left = first;
            spells = record {
              sound = joined U.array d high init (append u after) (subst (λ (o : Option (List ℕ)). IsSound U.array d o init) (sym (bound_is u after high k begins)) init_now)
                  (joined U.array d high u after u_sound after_now (λ q m n. after_off q n m))
                  (λ q m n. ⊎_elim (λ z. init_off q m z) (λ z. a.apart q (in_init q m) z) (meets_append q u after n));
              full = full_append init (append u after) (full_left init (inner k p g no_trees) a.before_full) (full_append u after w.result.full a.after_full);
              spelled = made_spelled U.array d high init u after k (four_bytes p) separator made (low, first) (without from (c ∷ cs)) init_now u_sound w.result.spelled spelled_so
                  ∙ ap (λ (zs : List Entry). (low, first) ∷ with_made separator made zs) (sym gone);
            };
            left_is = inr ((λ e. other (e ∙ ap (λ (z : List ℕ × Entry). z.0) pair_is)), refl);
          };
        }

    made_later : Joins S d low high key first c cs child p (append init (inner k p g no_trees)) x after (λ h. h) (λ h hs. with_entry from (four_bytes left) hs)
    made_later = record {
      below = b;
      from = k;
      to = next after high;
      head = head.1;
      rest = gs;
      children = append g x;
      parent = later_parent;
      holds = subst (λ (zs : List Entry). HoldsChildren S.array p zs) g_cells y_sound.0;
      above = λ U made separator w. later_above U made separator w;
    }

  -- the neighbour before takes the child
  pub joins_later : (before after x : Forest) (b : ℕ) → d ≡ suc b → IsAround S.array page d low high key child first (c ∷ cs) from before after → LaterSide low first c cs key from child before after
      → SpellsTrees S.array b (next after high) ((from, four_bytes left) ∷ []) x → IsBetween page before x after → Numbered S.array → (neighbour : ℕ) (k : List ℕ) → neighbour < 4294967296 → k ≡ (pair_from key first c cs).1.0 → four_bytes neighbour ≡ (pair_from key first c cs).0
      → Joins S d low high key first c cs child neighbour before x after (λ h. h) (λ h hs. with_entry k (four_bytes left) hs)
  joins_later before after x b deep a f s bt numbered neighbour k small key_is page_is =
      let l = f.l in
      let two = parts S.array d (Some from) l.init l.tree (subst (λ (y : Forest). IsSound S.array d (Some from) y) l.whole a.before_sound) in
      let left_is : four_bytes l.page ≡ four_bytes neighbour = sym (ap (λ (z : List ℕ × Entry). z.0) f.pair_is) ∙ sym page_is in
      let top : cells l.tree ≡ (l.key, four_bytes neighbour) ∷ [] = l.top ∙ ap (λ (y : List ℕ). (l.key, y) ∷ []) left_is in
      let k_is : from ≡ k = sym (ap (λ (z : List ℕ × Entry). z.1.0) f.pair_is) ∙ sym key_is in
      ⊎_elim
      (λ flat.
      let at_leaf : IsSound S.array d (Some from) (leaf l.key neighbour flat.es no_trees) = subst (λ (y : Forest). IsSound S.array d (Some from) y) flat.is two.right in
      let zero = at_leaf.1 in absurd (omega (arith, zero, deep)))
      (λ i.
      let whole : before ≡ append l.init (inner l.key neighbour i.c no_trees) = l.whole ∙ ap (λ (y : Forest). append l.init y) i.is in
      let y_sound : IsSound S.array d (Some from) (inner l.key neighbour i.c no_trees) = subst (λ (y : Forest). IsSound S.array d (Some from) y) i.is two.right in
      let init_sound : IsSound S.array d (Some l.key) l.init = subst (λ (y : Forest). IsSound S.array d (next y (Some from)) l.init) i.is two.left in
      let apart_init : (q : ℕ) → Meets q l.init → Meets q (inner l.key neighbour i.c no_trees) → ⊥ = λ q m n. two.apart q m (subst (λ (y : Forest). Meets q y) (sym i.is) n) in
      let depth : i.below ≡ b = let e = i.deep in omega (arith, e, deep) in
      let made = made_later l.key neighbour l.init i.c x after (subst (λ (y : Forest). IsAround S.array page d low high key child first (c ∷ cs) from y after) whole a)
      (f.pair_is ∙ ap (λ (y : List ℕ). (y, (from, four_bytes child))) left_is) (ap (λ (y : Forest). cells y ++ cells after) (sym whole) ∙ f.rest_are) (λ e. f.other (e ∙ sym left_is))
      b deep s (subst (λ (y : Forest). IsBetween page y x after) whole bt) init_sound y_sound (subst (λ (n : ℕ). IsSound S.array n (Some from) i.c) depth i.sound) apart_init i.head i.rest i.cells_are in
      subst (λ (y : Forest). Joins S d low high key first c cs child neighbour y x after (λ h. h) (λ h hs. with_entry k (four_bytes left) hs)) (sym whole)
      (subst (λ (z : List ℕ). Joins S d low high key first c cs child neighbour (append l.init (inner l.key neighbour i.c no_trees)) x after (λ h. h) (λ h hs. with_entry z (four_bytes left) hs)) k_is made))
      (look S.array numbered l.tree d l.key (Some from) neighbour two.right top small)
