-- An inner node without one of its children.
use Rattle.std.proofs.Common.{◌≡◌, ◌≢◌, ⊎_elim, inl, inr, ℕ, ◌<◌, false, Option, List, [], ◌∷◌, refl, sym, ap, ◌∙◌, arith, subst}
use Rattle.pages.specs.State.{Array, PagesState}
use Rattle.page_nodes.specs.Map.{is_below, Entry, without}
use Rattle.page_nodes.specs.Node.{four_bytes}
use Rattle.page_nodes.specs.Search.{pair_from}
use Rattle.page_nodes.proofs.Order.{one_way}
use Rattle.page_tree.specs.Forest.{Forest, no_trees, leaf, inner, append, cells, entries, Meets, next}
use Rattle.page_tree.specs.Removal.{IsAround, IsParent, IsRest, Becomes}
use Rattle.page_tree.proofs.Keys.{under_le, from_lower}
use Rattle.page_tree.proofs.Trees.{cells_append, meets_append, meets_right, full_append, joined}
use Rattle.page_tree.proofs.Descent.{Numbered}
use Rattle.page_tree.proofs.RemovalPages.{moves_as}
use Rattle.page_tree.proofs.RemovalSides.{widen, without_here, FirstSide, LaterSide, sides}

tail_is : (x y : Entry) (xs ys : List Entry) → x ∷ xs ≡ y ∷ ys → xs ≡ ys
tail_is x y xs ys e = cc

head_is : (x y : Entry) (xs ys : List Entry) → x ∷ xs ≡ y ∷ ys → x ≡ y
head_is x y xs ys e = cc

-- what is left of an inner node
pub record Lost (A : Array) (page d : ℕ) (low : List ℕ) (high : Option (List ℕ)) (key first : List ℕ) (c : Entry) (cs : List Entry) (before after : Forest) (rest : ℕ) : Type 0 where
  pub children : Forest
  pub parent : IsParent A page d low high (four_bytes rest) (without (pair_from key first c cs).1.0 (c ∷ cs)) children
  pub meets : (q : ℕ) → Meets q children → Meets q (append before after)
  pub met : (q : ℕ) → Meets q (append before after) → Meets q children
  pub entries_are : entries children ≡ entries (append before after)

module _ (A : Array) (page d : ℕ) (low : List ℕ) (high : Option (List ℕ)) (key : List ℕ) (child : ℕ) (first : List ℕ) (c : Entry) (cs : List Entry) (from : List ℕ) (rest : ℕ) (bytes : List ℕ) (count : ℕ) (r : IsRest first c cs key child rest bytes count) where
  first_rest : pair_from key first c cs ≡ (four_bytes child, c) → four_bytes rest ≡ c.1
  first_rest e = ⊎_elim (λ yes. yes.1 ∙ ap (λ (p : List ℕ × Entry). p.1.1) e) (λ no. absurd (no.0 (sym (ap (λ (p : List ℕ × Entry). p.0) e)))) r.first_is

  later_rest : (left : List ℕ) → pair_from key first c cs ≡ (left, (from, four_bytes child)) → four_bytes child ≢ left → four_bytes rest ≡ first
  later_rest left e other = ⊎_elim (λ yes. absurd (other (yes.0 ∙ ap (λ (p : List ℕ × Entry). p.0) e))) (λ no. no.1) r.first_is

  lost_first : (before after : Forest) → d ≡ 0 → IsAround A page d low high key child first (c ∷ cs) from before after → FirstSide low first c cs key from child before after → Lost A page d low high key first c cs before after rest
  lost_first before no_trees flat a f = absurd (let bad : [] ≡ c ∷ cs = f.cells_are in cc)
  lost_first before (inner k p g h) flat a f = absurd (let deep = a.after_sound.2.1 in omega (arith, deep, flat))
  lost_first before (leaf k p es h) flat a f =
      let s = a.after_sound in
      let one : (k, four_bytes p) ≡ c = head_is (k, four_bytes p) c (cells h) cs f.cells_are in
      let two : cells h ≡ cs = tail_is (k, four_bytes p) c (cells h) cs f.cells_are in
      let above : is_below k low ≡ false = subst (λ (x : List ℕ). is_below k x ≡ false) f.low_is (one_way from k a.under) in
      let gone : without (pair_from key first c cs).1.0 (c ∷ cs) ≡ cs = ap (λ (p : List ℕ × Entry). without p.1.0 (c ∷ cs)) f.pair_is ∙ without_here c cs in
      let page_is : four_bytes p ≡ four_bytes rest = ap (λ (x : Entry). x.1) one ∙ sym (first_rest f.pair_is) in
      record {
        children = leaf low p es h;
        parent = record {
          spells = record {
            sound = (s.0, s.1, (from_lower low k es above s.2.0, s.2.1, s.2.2), under_le low k (next h high) above s.3, s.4, s.5);
            full = a.after_full;
            spelled = ap (λ (b : List ℕ). (low, b) ∷ cells h) page_is ∙ ap (λ (xs : List Entry). (low, four_bytes rest) ∷ xs) (two ∙ sym gone);
          };
          apart = λ m. a.page_apart (meets_right page before (leaf k p es h) m);
          there = a.there;
        };
        meets = λ q m. meets_right q before (leaf k p es h) m;
        met = λ q m. ⊎_elim (λ x. absurd (let bad : Meets q no_trees = subst (λ (y : Forest). Meets q y) f.none x in bad)) (λ y. y) (meets_append q before (leaf k p es h) m);
        entries_are = sym (ap (λ (x : Forest). entries (append x (leaf k p es h))) f.none);
      }

  lost_later : (before after : Forest) → IsAround A page d low high key child first (c ∷ cs) from before after → LaterSide low first c cs key from child before after → Lost A page d low high key first c cs before after rest
  lost_later before after a f =
      let gone : without (pair_from key first c cs).1.0 (c ∷ cs) ≡ without from (c ∷ cs) = ap (λ (p : List ℕ × Entry). without p.1.0 (c ∷ cs)) f.pair_is in
      let first_is : four_bytes rest ≡ first = later_rest (four_bytes f.l.page) f.pair_is f.other in
      record {
        children = append before after;
        parent = record {
          spells = record {
            sound = joined A d high before after (widen A d from (next after high) before a.under a.before_sound) a.after_sound a.apart;
            full = full_append before after a.before_full a.after_full;
            spelled = cells_append before after ∙ (f.rest_are ∙ (ap (λ (b : List ℕ). (low, b) ∷ without from (c ∷ cs)) (sym first_is) ∙ ap (λ (xs : List Entry). (low, four_bytes rest) ∷ xs) (sym gone)));
          };
          apart = a.page_apart;
          there = a.there;
        };
        meets = λ q m. m;
        met = λ q m. m;
        entries_are = refl;
      }

  pub lost : (before after : Forest) → d ≡ 0 → IsAround A page d low high key child first (c ∷ cs) from before after → Numbered A → child < 4294967296 → Lost A page d low high key first c cs before after rest
  lost before after flat a numbered small = ⊎_elim (λ f. lost_first before after flat a f) (λ f. lost_later before after a f) (sides A page d low high key child first c cs from before after a numbered small)

-- the same pages and entries in other trees
pub becomes_as : (old new : PagesState) (t u : Forest) (xs ys : List Entry) (R : Forest → Type 0) → ((q : ℕ) → Meets q t → Meets q u) → ((q : ℕ) → Meets q u → Meets q t) → xs ≡ ys → Becomes old new t xs R → Becomes old new u ys R
becomes_as old new t u xs ys R tu ut e b = record {
  sound = b.sound;
  trees = b.trees;
  moves = moves_as old.array new.array t u b.trees b.trees tu ut (λ q m. m) (λ q m. m) b.moves;
  entries_are = b.entries_are ∙ e;
  result = b.result;
}

pub under_as : (low : List ℕ) (page : ℕ) (t u : Forest) → ((q : ℕ) → Meets q t → Meets q u) → (q : ℕ) → Meets q (inner low page t no_trees) → Meets q (inner low page u no_trees)
under_as low page t u tu q m = ⊎_elim (λ top. ⊎_elim (λ at. inl (inl at)) (λ x. inl (inr (tu q x))) top) (λ none. inr none) m
