-- Cells without one of them.
use Rattle.std.proofs.Common.{◌≡◌, ⊎_elim, inl, inr, ℕ, ◌+◌, ◌<◌, ◌≤◌, List, [], ◌∷◌, ◌++◌, length, sym, ap, ◌∙◌, arith, subst, length-append}
use Rattle.std.proofs.lemmas.Bool.{cases_Bool}
use Rattle.page_nodes.specs.declared.cell.NodeKind.{NodeKind}
use Rattle.page_nodes.specs.declared.cell.NodeKind.TheVariants.{Leaf, Inner}
use Rattle.page_nodes.specs.Map.{is_below, Entry, without}
use Rattle.page_nodes.specs.Node.{four_bytes, cell_bytes, cells_bytes, start, HasSizes, IsNode}
use Rattle.page_nodes.specs.Search.{pair_from}
use Rattle.page_nodes.proofs.Cells.{four_same}
use Rattle.page_tree.specs.Puts.{AreInScratch}
use Rattle.page_tree.specs.Removal.{IsRest}

without_sizes : (kind : NodeKind) (key : List ℕ) (cs : List Entry) → HasSizes kind cs → HasSizes kind (without key cs)
without_sizes kind key [] sizes = tt
without_sizes kind key (c ∷ cs) sizes = ⊎_elim (λ yes. rw yes (sizes.0, sizes.1, without_sizes kind key cs sizes.2))
    (λ past. rw past (⊎_elim (λ less. rw less sizes) (λ same. rw same sizes.2) (cases_Bool (is_below key c.0)))) (cases_Bool (is_below c.0 key))

pub without_long : (kind : NodeKind) (key : List ℕ) (cs : List Entry) → length (cells_bytes kind (without key cs)) ≤ length (cells_bytes kind cs)
without_long kind key [] = omega arith
without_long kind key (c ∷ cs) =
    let old = length-append (cell_bytes kind c) (cells_bytes kind cs) in
    ⊎_elim (λ yes. rw yes (omega (arith, old, length-append (cell_bytes kind c) (cells_bytes kind (without key cs)), without_long kind key cs)))
    (λ past. rw past (⊎_elim (λ less. rw less (omega arith)) (λ same. rw same (omega (arith, old))) (cases_Bool (is_below key c.0)))) (cases_Bool (is_below c.0 key))

node_long : (kind : NodeKind) (first : List ℕ) (cs : List Entry) (bytes : List ℕ) → IsNode kind first cs bytes → start kind + length (cells_bytes kind cs) ≤ 4096
node_long Leaf first cs bytes n = omega (arith, n.fits, n.first_size, length-append first (cells_bytes Leaf cs))
node_long Inner first cs bytes n = omega (arith, n.fits, n.first_size, length-append first (cells_bytes Inner cs))

-- a node without a cell, in scratch
pub fits_without : (kind : NodeKind) (first : List ℕ) (cs : List Entry) (bytes key items : List ℕ) → IsNode kind first cs bytes → items ≡ cells_bytes kind (without key cs) → start kind + length items ≤ 4096
fits_without kind first cs bytes key items n spelled = omega (arith, node_long kind first cs bytes n, without_long kind key cs, ap (λ (xs : List ℕ). length xs) spelled)

pub copied_without : (kind : NodeKind) (first : List ℕ) (cs : List Entry) (bytes key items : List ℕ) (count : ℕ) → IsNode kind first cs bytes
    → count ≡ length (without key cs) → items ≡ cells_bytes kind (without key cs) → AreInScratch kind (without key cs) items count
copied_without kind first cs bytes key items count n number spelled = record {
  sizes = without_sizes kind key cs n.sizes;
  spelled = spelled;
  count_is = number;
  short = omega (arith, fits_without kind first cs bytes key items n spelled);
}

-- the rest of a node without a child
module _ (first : List ℕ) (c : Entry) (cs : List Entry) (key k : List ℕ) (child left : ℕ) (items : List ℕ) (count : ℕ) (left_is : four_bytes left ≡ (pair_from key first c cs).0) (key_is : k ≡ (pair_from key first c cs).1.0) (copied : AreInScratch Inner (without k (c ∷ cs)) items count) (fits : start Inner + length items ≤ 4096) where
  pub rest_right : (right : ℕ) → four_bytes right ≡ (pair_from key first c cs).1.1 → four_bytes left ≡ four_bytes child → IsRest first c cs key child right items count
  rest_right right right_is same = record {
    copied = subst (λ (x : List ℕ). AreInScratch Inner (without x (c ∷ cs)) items count) key_is copied;
    fits = fits;
    first_is = inl (sym same ∙ left_is, right_is);
  }

  pub rest_first : (rest : ℕ) → four_bytes rest ≡ first → (four_bytes left ≡ four_bytes child → ⊥) → IsRest first c cs key child rest items count
  rest_first rest rest_is other = record {
    copied = subst (λ (x : List ℕ). AreInScratch Inner (without x (c ∷ cs)) items count) key_is copied;
    fits = fits;
    first_is = inr ((λ e. other (left_is ∙ sym e)), rest_is);
  }

pub page_same : (a b : ℕ) → a < 4294967296 → b < 4294967296 → four_bytes a ≡ four_bytes b → a ≡ b
page_same a b small small_too e = four_same a b [] [] (omega (arith, small)) (omega (arith, small_too)) (ap (λ (xs : List ℕ). xs ++ []) e)

-- cells in scratch, as a slice
pub copied_slice : (kind : NodeKind) (cs : List Entry) (items now : List ℕ) (count : ℕ) → now ≡ items → AreInScratch kind cs items count → AreInScratch kind cs now count
copied_slice kind cs items now count e d = subst (λ (x : List ℕ). AreInScratch kind cs x count) (sym e) d
