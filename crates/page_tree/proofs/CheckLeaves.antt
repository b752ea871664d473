-- Entries between bounds, by their end keys.
use Rattle.std.proofs.Common.{◌≡◌, ℕ, ◌<◌, Bool, true, false, Option, Some, None, List, [], ◌∷◌, length, sym, ap, ◌∙◌, arith}
use Rattle.std.proofs.lemmas.Bool.{false≢true}
use Rattle.page_nodes.specs.declared.cell.NodeKind.TheVariants.{Leaf}
use Rattle.page_nodes.specs.declared.page.EndKeys.{EndKeys}
use Rattle.page_nodes.specs.Map.{is_below, Entry, IsRising}
use Rattle.page_nodes.specs.Node.{IsNode, IsWhole}
use Rattle.page_nodes.specs.Ends.{last_key, BeginAndEnd, AreEnds}
use Rattle.page_nodes.proofs.Order.{lt_lt}
use Rattle.page_tree.specs.Forest.{AllFrom, AllUnder}
use Rattle.page_tree.specs.Check.{AreBetween, IsLeafBetween}
use Rattle.page_tree.proofs.CheckTrees.{from_above, under_all, leaf_node}

-- where the last key is below a bound, all are; and where all are, it is
last_under : (high : List ℕ) (e : Entry) (es : List Entry) → IsRising (e ∷ es) → is_below (last_key e.0 es) high ≡ true → AllUnder (Some high) (e ∷ es)
last_under high e [] rising lt = (lt, tt)
last_under high e (c ∷ cs) rising lt = let rest = last_under high c cs rising.1 lt in (lt_lt e.0 c.0 high rising.0.0 rest.0, rest)

under_last : (high : List ℕ) (e : Entry) (es : List Entry) → AllUnder (Some high) (e ∷ es) → is_below (last_key e.0 es) high ≡ true
under_last high e [] all = all.0
under_last high e (c ∷ cs) all = under_last high c cs all.1

pub none_between : (low : List ℕ) (high : Option (List ℕ)) (es : List Entry) → es ≡ [] → AreBetween low high es false
none_between low high es none from under some = omega (arith, some, ap (λ (xs : List Entry). length xs) none)

pub begins_below : (low : List ℕ) (high : Option (List ℕ)) (es : List Entry) (first last : List ℕ) → BeginAndEnd es first last → true ≡ is_below first low → AreBetween low high es false
begins_below low high [] first last ends lt from under some = ends
begins_below low high (e ∷ es) first last ends lt from under some = false≢true (sym from.0 ∙ (ap (λ (k : List ℕ). is_below k low) (sym ends.0) ∙ sym lt))

-- the first key is not below a bound
begins_from : (low : List ℕ) (es : List Entry) (first last : List ℕ) → BeginAndEnd es first last → IsRising es → false ≡ is_below first low → AllFrom low es
begins_from low [] first last ends rising le = tt
begins_from low (e ∷ es) first last ends rising le =
    let here : is_below e.0 low ≡ false = ap (λ (k : List ℕ). is_below k low) (sym ends.0) ∙ sym le in
    (here, from_above low e.0 es here rising.0)

has_some : (es : List Entry) (first last : List ℕ) → BeginAndEnd es first last → 0 < length es
has_some [] first last ends = absurd ends
has_some (e ∷ es) first last ends = omega arith

pub ends_open : (low : List ℕ) (es : List Entry) (first last : List ℕ) → BeginAndEnd es first last → IsRising es → false ≡ is_below first low → AreBetween low None es true
ends_open low es first last ends rising le = (begins_from low es first last ends rising le, under_all es, has_some es first last ends)

pub ends_between : (low high : List ℕ) (es : List Entry) (first last : List ℕ) (whole : Bool) → BeginAndEnd es first last → IsRising es → false ≡ is_below first low → whole ≡ is_below last high → AreBetween low (Some high) es whole
ends_between low high [] first last whole ends rising le is = absurd ends
ends_between low high (e ∷ es) first last true ends rising le is =
    let lt : is_below (last_key e.0 es) high ≡ true = ap (λ (k : List ℕ). is_below k high) (sym ends.1) ∙ sym is in
    (begins_from low (e ∷ es) first last ends rising le, last_under high e es rising lt, omega arith)
ends_between low high (e ∷ es) first last false ends rising le is = λ from under some.
    false≢true (is ∙ (ap (λ (k : List ℕ). is_below k high) ends.1 ∙ under_last high e es under))

-- whether a page is a leaf between bounds, by its end keys
pub leaf_between : (bytes low : List ℕ) (high : Option (List ℕ)) (keys : Option EndKeys) (whole : Bool) → IsWhole bytes Leaf → ((es : List Entry) → IsNode Leaf [] es bytes → AreEnds es keys)
    → ((es : List Entry) → AreEnds es keys → IsRising es → AreBetween low high es whole) → IsLeafBetween bytes low high whole
leaf_between bytes low high keys true leaf ends between = (leaf, between leaf.cells (ends leaf.cells (leaf_node bytes leaf)) leaf.rising)
leaf_between bytes low high keys false leaf ends between = λ es node rising. between es (ends es node) rising

pub no_whole_leaf : (bytes low : List ℕ) (high : Option (List ℕ)) → (IsWhole bytes Leaf → ⊥) → IsLeafBetween bytes low high false
no_whole_leaf bytes low high none es node rising from under some = none (record { first = []; cells = es; node = node; rising = rising; some = tt })
