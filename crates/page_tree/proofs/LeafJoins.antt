-- Two leaves side by side that are joined.
use Rattle.std.proofs.Common.{◌≡◌, ◌≢◌, ◌⊎◌, ⊎_elim, inl, inr, ℕ, suc, ◌+◌, ◌<◌, ◌≤◌, true, false, Option, Some, None, List, [], ◌∷◌, ◌++◌, length, refl, sym, ap, ◌∙◌, arith, subst, append_assoc, length-append}
use Rattle.std.proofs.lemmas.Bool.{cases_Bool}
use Rattle.std.proofs.lemmas.List.{append-nil}
use Rattle.std.specs.Prelude.{IfSome}
use Rattle.pages.specs.State.{Array, PagesState, OnlyReads, Frees, Writes, OwnPages, GetOwn}
use Rattle.page_nodes.specs.declared.cell.NodeKind.{NodeKind}
use Rattle.page_nodes.specs.declared.cell.NodeKind.TheVariants.{Leaf, Inner}
use Rattle.page_nodes.specs.Map.{is_below, Entry, without}
use Rattle.page_nodes.specs.Node.{four_bytes, cells_bytes, HasSizes, IsNode}
use Rattle.page_nodes.specs.Search.{pair_from}
use Rattle.page_nodes.proofs.Order.{one_way}
use Rattle.page_nodes.proofs.Scan.{cells_append as spelled_append}
use Rattle.page_tree.specs.Forest.{Forest, no_trees, leaf, inner, append, cells, entries, Meets, AllUnder, next, Holds, IsSound, IsFull}
use Rattle.page_tree.specs.Puts.{AreInScratch, AreWritten}
use Rattle.page_tree.specs.Removal.{IsPageNumber, SpellsTrees, IsParent, Becomes, Describes, HasSeparator}
use Rattle.page_tree.specs.Taking.{most_left}
use Rattle.page_tree.specs.Joining.{AreBeside, with_joined, IsTakenFrom}
use Rattle.page_tree.specs.declared.joining.Neighbours.{Neighbours}
use Rattle.page_tree.specs.declared.removal.Underflow.{Underflow}
use Rattle.page_tree.specs.declared.removal.Underflow.TheVariants.{Trees, FewCells}
use Rattle.page_tree.proofs.Keys.{under_le, from_append, under_append, from_lower, under_higher}
use Rattle.page_tree.proofs.Trees.{Parts, parts, joined, keep, cells_append, entries_append, meets_append, meets_left, meets_right, full_append, full_left, full_right, in_use}
use Rattle.page_tree.proofs.Bounds.{cells_under}
use Rattle.page_tree.proofs.Represented.{rising_joined}
use Rattle.page_tree.proofs.Descent.{Numbered}
use Rattle.page_tree.proofs.RemovalNodes.{page_same}
use Rattle.page_tree.proofs.RemovalTrees.{under_page}
use Rattle.page_tree.proofs.RemovalJoins.{becomes_read, parent_keep}
use Rattle.page_tree.proofs.RemovalSteps.{same_becomes}
use Rattle.page_tree.proofs.RemovalSides.{without_mid, without_head, head_under}

tail_is : (x y : Entry) (xs ys : List Entry) → x ∷ xs ≡ y ∷ ys → xs ≡ ys
tail_is x y xs ys e = cc

head_is : (x y : Entry) (xs ys : List Entry) → x ∷ xs ≡ y ∷ ys → x ≡ y
head_is x y xs ys e = cc

-- the pair of a key is two trees side by side
record Pair (f : Forest) (key left : List ℕ) (c : Entry) (cs : List Entry) : Type 0 where
  before : Forest
  low : List ℕ
  p : ℕ
  es : List Entry
  k : List ℕ
  q : ℕ
  fs : List Entry
  after : Forest
  whole : f ≡ append before (leaf low p es (leaf k q fs after))
  pair_is : pair_from key left c cs ≡ (four_bytes p, (k, four_bytes q))

pair_here : (j k : List ℕ) (p q : ℕ) (es fs : List Entry) (after : Forest) (x c : Entry) (cs : List Entry) (key : List ℕ) → (j, four_bytes p) ∷ (k, four_bytes q) ∷ cells after ≡ x ∷ c ∷ cs → pair_from key x.1 c cs ≡ (x.1, c)
    → Pair (leaf j p es (leaf k q fs after)) key x.1 c cs
pair_here j k p q es fs after x c cs key e stop =
    let one : (j, four_bytes p) ≡ x = head_is (j, four_bytes p) x ((k, four_bytes q) ∷ cells after) (c ∷ cs) e in
    let two : (k, four_bytes q) ≡ c = head_is (k, four_bytes q) c (cells after) cs (tail_is (j, four_bytes p) x ((k, four_bytes q) ∷ cells after) (c ∷ cs) e) in
    record {
      before = no_trees;
      low = j;
      p = p;
      es = es;
      k = k;
      q = q;
      fs = fs;
      after = after;
      whole = refl;
      pair_is = stop ∙ (ap (λ (y : Entry). (y.1, c)) (sym one) ∙ ap (λ (y : Entry). (four_bytes p, y)) (sym two));
    }

pair_stop : (key left : List ℕ) (c d : Entry) (ds : List Entry) → is_below key d.0 ≡ true → pair_from key left c (d ∷ ds) ≡ (left, c)
pair_stop key left c d ds e = rw e refl

pair_on : (key left : List ℕ) (c d : Entry) (ds : List Entry) → is_below key d.0 ≡ false → pair_from key left c (d ∷ ds) ≡ pair_from key c.1 d ds
pair_on key left c d ds e = rw e refl

pair_in : (A : Array) (d : ℕ) (high : Option (List ℕ)) (f : Forest) (x c : Entry) (cs : List Entry) (key : List ℕ) → d ≡ 0 → IsSound A d high f → cells f ≡ x ∷ c ∷ cs → Pair f key x.1 c cs
pair_in A d high no_trees x c cs key flat s e = absurd (let bad : [] ≡ x ∷ c ∷ cs = e in cc)
pair_in A d high (inner k p g f) x c cs key flat s e = absurd (let deep = s.2.1 in omega (arith, deep, flat))
pair_in A d high (leaf j p es no_trees) x c cs key flat s e = absurd (let bad : [] ≡ c ∷ cs = tail_is (j, four_bytes p) x [] (c ∷ cs) e in cc)
pair_in A d high (leaf j p es (inner k q g f)) x c cs key flat s e = absurd (let deep = s.5.2.1 in omega (arith, deep, flat))
pair_in A d high (leaf j p es (leaf k q fs after)) x c [] key flat s e = pair_here j k p q es fs after x c [] key e refl
pair_in A d high (leaf j p es (leaf k q fs after)) x c (b ∷ bs) key flat s e =
    ⊎_elim (λ yes. pair_here j k p q es fs after x c (b ∷ bs) key e (pair_stop key x.1 c b bs yes))
    (λ no.
    let r = pair_in A d high (leaf k q fs after) c b bs key flat s.5 (tail_is (j, four_bytes p) x ((k, four_bytes q) ∷ cells after) (c ∷ b ∷ bs) e) in
    record {
      before = leaf j p es r.before;
      low = r.low;
      p = r.p;
      es = r.es;
      k = r.k;
      q = r.q;
      fs = r.fs;
      after = r.after;
      whole = ap (λ (y : Forest). leaf j p es y) r.whole;
      pair_is = pair_on key x.1 c b bs no ∙ r.pair_is;
    })
    (cases_Bool (is_below key b.0))

-- the trees with the two leaves that are told, and the children of the inner node
pub record Beside (key first : List ℕ) (c : Entry) (cs : List Entry) (low : List ℕ) (children : Forest) (leaves : Neighbours) : Type 0 where
  pub beside : AreBeside children leaves
  pub key_is : (pair_from key first c cs).1.0 ≡ beside.key

same_leaves : (bs hs : Forest) (j k : List ℕ) (es fs : List Entry) (p q l r : ℕ) → p ≡ l → q ≡ r → append bs (leaf j p es (leaf k q fs hs)) ≡ append bs (leaf j l es (leaf k r fs hs))
same_leaves bs hs j k es fs p q l r a b = rw (a, b) refl

pub beside_in : (A : Array) (page d : ℕ) (low : List ℕ) (high : Option (List ℕ)) (key first : List ℕ) (c : Entry) (cs : List Entry) (children : Forest) (bytes : List ℕ) (leaves : Neighbours) → Numbered A → d ≡ 0 → IsParent A page d low high first (c ∷ cs) children
    → IsTakenFrom first c cs key bytes leaves → IsPageNumber leaves.left × IsPageNumber leaves.right → Beside key first c cs low children leaves
beside_in A page d low high key first c cs children bytes leaves numbered flat par t small =
    let r = pair_in A d high children (low, first) c cs key flat par.spells.sound par.spells.spelled in
    let s : IsSound A d high (append r.before (leaf r.low r.p r.es (leaf r.k r.q r.fs r.after))) = subst (λ (y : Forest). IsSound A d high y) r.whole par.spells.sound in
    let used_p = in_use A d high _ s r.p (meets_right r.p r.before (leaf r.low r.p r.es (leaf r.k r.q r.fs r.after)) (inl refl)) in
    let used_q = in_use A d high _ s r.q (meets_right r.q r.before (leaf r.low r.p r.es (leaf r.k r.q r.fs r.after)) (inr (inl refl))) in
    let left : r.p ≡ leaves.left = page_same r.p leaves.left (let less = numbered r.p used_p in omega (arith, less)) small.0 (sym (t.left_is ∙ ap (λ (z : List ℕ × Entry). z.0) r.pair_is)) in
    let right : r.q ≡ leaves.right = page_same r.q leaves.right (let less = numbered r.q used_q in omega (arith, less)) small.1 (sym (t.right_is ∙ ap (λ (z : List ℕ × Entry). z.1.1) r.pair_is)) in
    record {
      beside = record {
        before = r.before;
        low = r.low;
        left = r.es;
        key = r.k;
        right = r.fs;
        after = r.after;
        whole = r.whole ∙ same_leaves r.before r.after r.low r.k r.es r.fs r.p r.q leaves.left leaves.right left right;
      };
      key_is = ap (λ (z : List ℕ × Entry). z.1.0) r.pair_is;
    }

module _ (A : Array) (page d : ℕ) (low : List ℕ) (high : Option (List ℕ)) (first : List ℕ) (ds : List Entry) (children : Forest) (leaves : Neighbours) (p : AreBeside children leaves) (par : IsParent A page d low high first ds children) where
  abbrev one : Forest
  one = leaf p.low leaves.left (p.left ++ p.right) p.after

  abbrev two : Forest
  two = leaf p.low leaves.left p.left (leaf p.key leaves.right p.right p.after)

  apart_of : Parts A d high p.before two
  apart_of = parts A d high p.before two (subst (λ (y : Forest). IsSound A d high y) p.whole par.spells.sound)

  left_sound : IsSound A d (Some p.low) p.before
  left_sound = apart_of.left

  two_sound : IsSound A d high two
  two_sound = apart_of.right

  -- the leaves that are joined, and the others
  pub left_holds : Holds A leaves.left Leaf [] p.left
  left_holds = two_sound.0

  pub right_holds : Holds A leaves.right Leaf [] p.right
  right_holds = two_sound.5.0

  to_old : (q : ℕ) → Meets q (with_joined p) → Meets q children
  to_old q m = subst (λ (y : Forest). Meets q y) (sym p.whole)
      (⊎_elim (λ x. meets_left q p.before two x)
      (λ y. meets_right q p.before two (⊎_elim (λ at. inl at) (λ z. inr (inr z)) y))
      (meets_append q p.before one m))

  from_old : (q : ℕ) → Meets q children → (q ≡ leaves.right) ⊎ Meets q (with_joined p)
  from_old q m = ⊎_elim (λ x. inr (meets_left q p.before one x))
      (λ y. ⊎_elim (λ at. inr (meets_right q p.before one (inl at)))
      (λ z. ⊎_elim (λ at. inl at) (λ w. inr (meets_right q p.before one (inr w))) z) y)
      (meets_append q p.before two (subst (λ (y : Forest). Meets q y) p.whole m))

  right_met : Meets leaves.right children
  right_met = subst (λ (y : Forest). Meets leaves.right y) (sym p.whole) (meets_right leaves.right p.before two (inr (inl refl)))

  left_met : Meets leaves.left (with_joined p)
  left_met = meets_right leaves.left p.before one (inl refl)

  pub left_other : leaves.left ≢ leaves.right
  left_other = λ at. two_sound.4 (inl at)

  pub page_left : page ≢ leaves.left
  page_left = λ at. par.apart (to_old page (subst (λ (n : ℕ). Meets n (with_joined p)) (sym at) left_met))

  pub page_right : page ≢ leaves.right
  page_right = λ at. par.apart (subst (λ (n : ℕ). Meets n children) (sym at) right_met)

  -- the cells of the inner node without that of the right leaf
  pub without_right_leaf : (key : List ℕ) (c : Entry) (cs : List Entry) → ds ≡ c ∷ cs → key ≡ p.key → cells (with_joined p) ≡ (low, first) ∷ without key (c ∷ cs)
  without_right_leaf key c cs is same =
      let y : Entry = (p.low, four_bytes leaves.left) in
      let z : Entry = (p.key, four_bytes leaves.right) in
      let bs = cells p.before in
      let hs = cells p.after in
      let e : (low, first) ∷ c ∷ cs ≡ (bs ++ (y ∷ [])) ++ (z ∷ hs) =
      ap (λ (xs : List Entry). (low, first) ∷ xs) (sym is) ∙ (sym par.spells.spelled ∙ (ap (λ (x : Forest). cells x) p.whole ∙ (cells_append p.before two ∙ sym (append_assoc bs (y ∷ []) (z ∷ hs))))) in
      let all : AllUnder (Some p.key) (bs ++ (y ∷ [])) =
      under_append (Some p.key) bs (y ∷ []) (under_higher p.low (Some p.key) bs two_sound.3 (cells_under A d (Some p.low) p.before left_sound)) (two_sound.3, tt) in
      let below : is_below low p.key ≡ true = head_under p.key (low, first) (c ∷ cs) (bs ++ (y ∷ [])) (z ∷ hs) e (omega (arith, length-append bs (y ∷ []))) all in
      cells_append p.before one ∙ (sym (append_assoc bs (y ∷ []) hs) ∙ (sym (without_mid p.key (four_bytes leaves.right) (bs ++ (y ∷ [])) hs all)
      ∙ (ap (λ (xs : List Entry). without p.key xs) (sym e) ∙ (without_head p.key (low, first) (c ∷ cs) below ∙ ap (λ (k : List ℕ). (low, first) ∷ without k (c ∷ cs)) (sym same)))))

  joined_entries : entries (with_joined p) ≡ entries children
  joined_entries = entries_append p.before one ∙ (ap (λ (xs : List Entry). entries p.before ++ xs) (append_assoc p.left p.right (entries p.after))
      ∙ (sym (entries_append p.before two) ∙ sym (ap (λ (x : Forest). entries x) p.whole)))

  full_now : IsFull (with_joined p)
  full_now =
      let full : IsFull (append p.before two) = subst (λ (y : Forest). IsFull y) p.whole par.spells.full in
      let rest = full_right p.before two full in
      full_append p.before one (full_left p.before two full)
      (omega (arith, rest.0, length-append p.left p.right), rest.1.1)

  -- the array once the two are joined
  module _ (V : Array) (still : (q : ℕ) → q ≢ page → q ≢ leaves.left → q ≢ leaves.right → V q ≡ A q) (holds : Holds V leaves.left Leaf [] (p.left ++ p.right)) where
    kept : (q : ℕ) → Meets q children → q ≢ leaves.left → q ≢ leaves.right → V q ≡ A q
    kept q m left right = still q (λ at. par.apart (subst (λ (n : ℕ). Meets n children) at m)) left right

    before_kept : IsSound V d (Some p.low) p.before
    before_kept = keep A V d (Some p.low) p.before
        (λ q m. kept q (subst (λ (y : Forest). Meets q y) (sym p.whole) (meets_left q p.before two m)) (λ at. apart_of.apart q m (inl at)) (λ at. apart_of.apart q m (inr (inl at)))) left_sound

    after_kept : IsSound V d high p.after
    after_kept = keep A V d high p.after
        (λ q m. kept q (subst (λ (y : Forest). Meets q y) (sym p.whole) (meets_right q p.before two (inr (inr m))))
        (λ at. two_sound.4 (inr (subst (λ (n : ℕ). Meets n p.after) at m))) (λ at. two_sound.5.4 (subst (λ (n : ℕ). Meets n p.after) at m))) two_sound.5.5

    one_sound : IsSound V d high one
    one_sound = (
      holds,
      two_sound.1,
      (
        from_append p.low p.left p.right two_sound.2.0 (from_lower p.low p.key p.right (one_way p.low p.key two_sound.3) two_sound.5.2.0),
        under_append (next p.after high) p.left p.right (under_higher p.key (next p.after high) p.left two_sound.5.3 two_sound.2.1) two_sound.5.2.1,
        rising_joined p.key p.left p.right two_sound.2.2 two_sound.5.2.2 two_sound.2.1 two_sound.5.2.0,
      ),
      under_le p.low p.key (next p.after high) (one_way p.low p.key two_sound.3) two_sound.5.3,
      (λ m. two_sound.4 (inr m)),
      after_kept,
    )

    joined_sound : IsSound V d high (with_joined p)
    joined_sound = joined V d high p.before one before_kept one_sound (λ q m n. ⊎_elim (λ at. apart_of.apart q m (inl at)) (λ y. apart_of.apart q m (inr (inr y))) n)

-- the left leaf has the cells of both, the right one is freed, and the inner node above is written
pub joined_leaves : (S T U V : PagesState) (page d : ℕ) (low : List ℕ) (high : Option (List ℕ)) (first bytes : List ℕ) (cs ds : List Entry) (children : Forest) (leaves : Neighbours) (p : AreBeside children leaves) → IsParent S.array page d low high first cs children
    → cells (with_joined p) ≡ (low, first) ∷ ds → 0 < length ds → IsNode Inner first ds bytes → Frees leaves.right S T → AreWritten Leaf [] (p.left ++ p.right) leaves.left T.array U.array → Writes page bytes U V
    → Becomes S V (inner low page children no_trees) (entries children) (λ f. SpellsTrees V.array (suc d) high ((low, four_bytes page) ∷ []) f)
joined_leaves S T U V page d low high first bytes cs ds children leaves p par spelled some node freed wrote w =
    let still : (q : ℕ) → q ≢ page → q ≢ leaves.left → q ≢ leaves.right → V.array q ≡ S.array q = λ q a b c. w.others q a ∙ (wrote.others q b ∙ freed.others q c) in
    let off_left : leaves.left ≢ page = λ at. page_left S.array page d low high first cs children leaves p par (sym at) in
    let off_right : leaves.right ≢ page = λ at. page_right S.array page d low high first cs children leaves p par (sym at) in
    let other : leaves.right ≢ leaves.left = λ at. left_other S.array page d low high first cs children leaves p par (sym at) in
    let gone : V.array leaves.right ≡ None = w.others leaves.right off_right ∙ (wrote.others leaves.right other ∙ freed.here) in
    let holds : Holds V.array leaves.left Leaf [] (p.left ++ p.right) = (wrote.bytes, w.others leaves.left off_left ∙ wrote.here, wrote.node) in
    let met = to_old S.array page d low high first cs children leaves p par in
    let was = from_old S.array page d low high first cs children leaves p par in
    record {
      sound = w.sound;
      trees = inner low page (with_joined p) no_trees;
      moves = record {
        others = λ q off now. still q (λ at. off (inl (inl at))) (λ at. now (inl (inr (subst (λ (n : ℕ). Meets n (with_joined p)) (sym at) (left_met S.array page d low high first cs children leaves p par)))))
            (λ at. off (inl (inr (subst (λ (n : ℕ). Meets n children) (sym at) (right_met S.array page d low high first cs children leaves p par)))));
        freed = λ q m now. ⊎_elim (λ top. ⊎_elim (λ at. absurd (now (inl (inl at)))) (λ y. ⊎_elim (λ at. ap (λ (n : ℕ). V.array n) at ∙ gone) (λ x. absurd (now (inl (inr x)))) (was q y)) top) (λ none. absurd none) m;
        taken = λ q m off. ⊎_elim (λ top. ⊎_elim (λ at. absurd (off (inl (inl at)))) (λ y. absurd (off (inl (inr (met q y))))) top) (λ none. absurd none) m;
      };
      entries_are = append-nil (entries (with_joined p)) ∙ joined_entries S.array page d low high first cs children leaves p par;
      result = under_page V.array page d low high first ds (with_joined p) (joined_sound S.array page d low high first cs children leaves p par V.array still holds) (full_now S.array page d low high first cs children leaves p par) spelled some
          (λ m. par.apart (met page m)) (bytes, w.here, node);
    }

-- ---- the calls of a join

-- an inner node without the cell of the right child
pub taken_from : (first : List ℕ) (c : Entry) (cs : List Entry) (key k bytes : List ℕ) (left right : ℕ) (leaves : Neighbours) → (leaves.left ≡ left) × (leaves.right ≡ right)
    → (four_bytes left ≡ (pair_from key first c cs).0) × (k ≡ (pair_from key first c cs).1.0) × (four_bytes right ≡ (pair_from key first c cs).1.1)
    → 0 < length (without k (c ∷ cs)) → IsNode Inner first (without k (c ∷ cs)) bytes → IsTakenFrom first c cs key bytes leaves
taken_from first c cs key k bytes left right leaves pages pair some node = record {
  left_is = ap (λ (n : ℕ). four_bytes n) pages.0 ∙ pair.0;
  right_is = ap (λ (n : ℕ). four_bytes n) pages.1 ∙ pair.2;
  some = subst (λ (x : List ℕ). 0 < length (without x (c ∷ cs))) pair.1 some;
  node = subst (λ (x : List ℕ). IsNode Inner first (without x (c ∷ cs)) bytes) pair.1 node;
}

-- what was found
pub found_is : {T : Type 0} (found : Option T) (x : T) (Y : T → Type 0) → found ≡ Some x → IfSome found Y → Y x
found_is {T} found x Y is all = subst (λ (o : Option T). IfSome o Y) is all

sizes_both : (xs ys : List Entry) → HasSizes Leaf xs → HasSizes Leaf ys → HasSizes Leaf (xs ++ ys)
sizes_both [] ys a b = b
sizes_both (x ∷ xs) ys a b = (a.0, a.1, sizes_both xs ys a.2 b)

-- the cells of two leaves, copied one after the other
pub both_copied : (es fs : List Entry) (left right : ℕ) (cleared one two : List ℕ) → cleared ≡ [] → (left ≡ length es) × (one ≡ cleared ++ cells_bytes Leaf es) × HasSizes Leaf es → (right ≡ length fs) × (two ≡ one ++ cells_bytes Leaf fs) × HasSizes Leaf fs
    → 4 + length two ≤ 4096 → AreInScratch Leaf (es ++ fs) two (left + right)
both_copied es fs left right cleared one two empty a b fits = record {
  sizes = sizes_both es fs a.2 b.2;
  spelled = b.1 ∙ (ap (λ (xs : List ℕ). xs ++ cells_bytes Leaf fs) (a.1 ∙ ap (λ (xs : List ℕ). xs ++ cells_bytes Leaf es) empty) ∙ sym (spelled_append Leaf es fs));
  count_is = omega (arith, a.0, b.0, length-append es fs);
  short = omega (arith, fits);
}

pub holds_then : (S T : PagesState) (page : ℕ) (kind : NodeKind) (first : List ℕ) (cs : List Entry) → OnlyReads S T → Holds S.array page kind first cs → Holds T.array page kind first cs
holds_then S T page kind first cs only_reads h = (h.0, only_reads.same page ∙ h.1, h.2)

pub own_then : (a b c : OwnPages) → GetOwn [] a b → GetOwn [] b c → GetOwn [] a c
own_then a b c one two = λ l page own. ⊎_elim (λ mid. one l page mid) (λ at. inr at) (two l page own)

-- nothing is joined
pub not_joined : (S T : PagesState) (page d : ℕ) (low : List ℕ) (high : Option (List ℕ)) (first : List ℕ) (cs : List Entry) (f : Forest) → OnlyReads S T → IsParent S.array page d low high first cs f → 0 < length cs → Holds S.array page Inner first cs
    → Becomes S T (inner low page f no_trees) (entries f) (λ u. SpellsTrees T.array (suc d) high ((low, four_bytes page) ∷ []) u)
not_joined S T page d low high first cs f only_reads p some holds =
    becomes_read S T T (inner low page f no_trees) (entries f) (λ u. SpellsTrees T.array (suc d) high ((low, four_bytes page) ∷ []) u) only_reads
    (same_becomes T page d low high first cs f only_reads.sound (parent_keep S.array T.array page d low high first cs f only_reads.same p) some (holds_then S T page Inner first cs only_reads holds))

pub reads_nothing : (S : PagesState) → S.sound → OnlyReads S S
reads_nothing S sound = record { sound = sound; same = λ l. refl }

-- ---- a leaf with few cells

pub leaf_left : (u : Underflow) (A : Array) (d : ℕ) (low : List ℕ) (high : Option (List ℕ)) (page : ℕ) (separator : List ℕ) (f : Forest) → (u ≡ FewCells) ⊎ (u ≡ Trees None) → d ≡ 0
    → SpellsTrees A d high ((low, four_bytes page) ∷ []) f → Describes u A d low high page separator f
leaf_left u A d low high page separator f is flat s = elim is [
  | inl few ↦ subst (λ (x : Underflow). Describes x A d low high page separator f) (sym few) (record { flat = flat; spells = s })
  | inr trees ↦ subst (λ (x : Underflow). Describes x A d low high page separator f) (sym trees) s
]

pub leaf_becomes_left : (u : Underflow) (S T : PagesState) (t : Forest) (es : List Entry) (d : ℕ) (low : List ℕ) (high : Option (List ℕ)) (page : ℕ) (separator : List ℕ) → (u ≡ FewCells) ⊎ (u ≡ Trees None) → d ≡ 0
    → Becomes S T t es (λ f. SpellsTrees T.array d high ((low, four_bytes page) ∷ []) f) → Becomes S T t es (λ f. Describes u T.array d low high page separator f)
leaf_becomes_left u S T t es d low high page separator is flat b = record {
  sound = b.sound;
  trees = b.trees;
  moves = b.moves;
  entries_are = b.entries_are;
  result = leaf_left u T.array d low high page separator b.trees is flat b.result;
}

pub no_separator : (u : Underflow) (separator : List ℕ) → (u ≡ FewCells) ⊎ (u ≡ Trees None) → HasSeparator u separator
no_separator u separator is = elim is [
  | inl few ↦ subst (λ (x : Underflow). HasSeparator x separator) (sym few) tt
  | inr trees ↦ subst (λ (x : Underflow). HasSeparator x separator) (sym trees) tt
]

pub one_left : (u : Underflow) → (u ≡ FewCells) ⊎ (u ≡ Trees None) → 1 ≤ most_left 0 u
one_left u is = elim is [
  | inl few ↦ subst (λ (x : Underflow). 1 ≤ most_left 0 x) (sym few) (omega arith)
  | inr trees ↦ subst (λ (x : Underflow). 1 ≤ most_left 0 x) (sym trees) (omega arith)
]
