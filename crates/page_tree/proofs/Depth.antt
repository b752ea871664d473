-- A full tree of pages below 65,536 has at most 16 levels of inner nodes.
use Rattle.std.proofs.Common.{◌≡◌, ◌⊎◌, ⊎_elim, inl, inr, ℕ, suc, ◌+◌, ◌*◌, ◌<◌, ◌≤◌, ◌^◌, Bool, true, false, ◌||◌, Option, None, List, [], ◌∷◌, ◌++◌, length, refl, sym, ap, ◌∙◌, arith, length-append, eqb}
use Rattle.std.specs.List.{IsDistinct, list_any, AllByRecursion}
use Rattle.std.proofs.lemmas.Bool.{false≢true, false_from_ne_true}
use Rattle.std.proofs.lemmas.Bool.Decides.{nat_tests}
use Rattle.std.proofs.lemmas.List.Folds.{list_any-append}
use Rattle.std.proofs.lemmas.Map.Steps.{length-le_from_distinct_below}
use Rattle.std.proofs.Math.Nat.{pow-le-pow_right, mul-le-mul_left}
use native.Mathlib.Numerals.{unary_clauses}
use Rattle.std.proofs.Math.Bool.{or-true}
use Rattle.pages.specs.State.{Array}
use Rattle.page_nodes.specs.Map.{Entry}
use Rattle.page_tree.specs.Forest.{Forest, no_trees, leaf, inner, cells, Meets, next, IsSound, IsFull, Represents}
use Rattle.page_tree.specs.Site.{Site, IsSubtree, site_of}
use Rattle.page_tree.proofs.Trees.{in_use}
use Rattle.page_tree.proofs.Descent.{Numbered}
use Rattle.page_nodes.proofs.Order.{below_none}

leaves : Forest → List ℕ
leaves no_trees = []
leaves (leaf k p es f) = p ∷ leaves f
leaves (inner k p c f) = leaves c ++ leaves f

leaf_wide : (d n l : ℕ) → d ≡ 0 → 2 ^ d * n ≤ l → 2 ^ d * suc n ≤ suc l
leaf_wide d n l is h = let h0 : 2 ^ 0 * n ≤ l = rw is at h in rw is (omega (arith, h0))

inner_wide : (b d n m l o t : ℕ) → d ≡ suc b → 2 ^ d * n ≤ l → 2 ^ b * m ≤ o → 1 < m → t ≡ o + l → 2 ^ d * suc n ≤ t
inner_wide b d n m l o t is h below two total =
    let twice : 2 ^ b * 2 ≤ 2 ^ b * m = mul-le-mul_left (2 ^ b) two in
    let power : 2 ^ d ≡ 2 ^ b * 2 = rw is (simp unary_clauses (omega arith)) in
    omega (arith, twice, power, h, below, total)

wide : (A : Array) (d : ℕ) (high : Option (List ℕ)) (f : Forest) → IsSound A d high f → IsFull f → 2 ^ d * length (cells f) ≤ length (leaves f)
unfolding leaves
wide A d high no_trees s full = omega arith
wide A d high (leaf k p es f) s full = leaf_wide d (length (cells f)) (length (leaves f)) s.1 (wide A d high f s.5 full.1)
wide A d high (inner k p c f) s full = inner_wide s.2.0 d (length (cells f)) (length (cells c)) (length (leaves f)) (length (leaves c)) (length (leaves c ++ leaves f)) s.2.1
    (wide A d high f s.6 full.2) (wide A s.2.0 (next f high) c s.2.2 full.1) full.0 (length-append (leaves c) (leaves f))

or_cases : (a b : Bool) → (a || b) ≡ true → (a ≡ true) ⊎ (b ≡ true)
or_cases true b e = inl refl
or_cases false b e = inr e

same_number : (a b : ℕ) → eqb a b ≡ true → a ≡ b
same_number a b e = grind (arith, nat_tests)

leaf_met : (f : Forest) (q : ℕ) → list_any (eqb q) (leaves f) ≡ true → Meets q f
unfolding leaves
leaf_met no_trees q any = absurd (false≢true any)
leaf_met (leaf k p es f) q any = ⊎_elim (λ here. inl (same_number q p here)) (λ there. inr (leaf_met f q there)) (or_cases (eqb q p) (list_any (eqb q) (leaves f)) any)
leaf_met (inner k p c f) q any = ⊎_elim (λ here. inl (inr (leaf_met c q here))) (λ there. inr (leaf_met f q there))
    (or_cases (list_any (eqb q) (leaves c)) (list_any (eqb q) (leaves f)) (sym (list_any-append (eqb q) (leaves c) (leaves f)) ∙ any))

all_append : (P : ℕ → Type 0) (xs ys : List ℕ) → AllByRecursion P xs → AllByRecursion P ys → AllByRecursion P (xs ++ ys)
all_append P [] ys a b = b
all_append P (x ∷ xs) ys a b = (a.0, all_append P xs ys a.1 b)

all_other : (x : ℕ) (ys : List ℕ) → (list_any (eqb x) ys ≡ true → ⊥) → AllByRecursion (λ y. eqb x y ≡ false) ys
all_other x [] none = tt
all_other x (y ∷ ys) none =
    (false_from_ne_true (eqb x y) (λ is. none (rw is refl)), all_other x ys (λ any. none (rw any (or-true (eqb x y)))))

eqb_same : (x : ℕ) → eqb x x ≡ true
eqb_same x = grind (arith, nat_tests)

distinct_append : (xs ys : List ℕ) → IsDistinct eqb xs → IsDistinct eqb ys → ((q : ℕ) → list_any (eqb q) xs ≡ true → list_any (eqb q) ys ≡ true → ⊥) → IsDistinct eqb (xs ++ ys)
unfolding IsDistinct
distinct_append [] ys a b apart = b
distinct_append (x ∷ xs) ys a b apart = (
  all_append (λ y. eqb x y ≡ false) xs ys a.0 (all_other x ys (λ any. apart x (rw (eqb_same x) refl) any)),
  distinct_append xs ys a.1 b (λ q one two. apart q (rw one (or-true (eqb q x))) two),
)

distinct : (A : Array) (d : ℕ) (high : Option (List ℕ)) (f : Forest) → IsSound A d high f → IsDistinct eqb (leaves f)
unfolding leaves IsDistinct
distinct A d high no_trees s = tt
distinct A d high (leaf k p es f) s = (all_other p (leaves f) (λ any. s.4 (leaf_met f p any)), distinct A d high f s.5)
distinct A d high (inner k p c f) s =
    distinct_append (leaves c) (leaves f) (distinct A s.2.0 (next f high) c s.2.2) (distinct A d high f s.6) (λ q one two. s.5 q (inr (leaf_met c q one)) (leaf_met f q two))

not_more : (d : ℕ) → 2 ^ d ≤ 65536 → d < 17
not_more d small = le_or d (λ more. let big : 2 ^ 17 ≤ 2 ^ d = pow-le-pow_right (omega arith) more in omega (arith, big))
  where
    le_or : (d : ℕ) → (17 ≤ d → ⊥) → d < 17
    le_or d not = omega arith

pub shallow : (A : Array) (d : ℕ) (high : Option (List ℕ)) (f : Forest) (c : Entry) → IsSound A d high f → IsFull f ⊎ (d ≡ 0) → cells f ≡ c ∷ [] → Numbered A → d < 17
shallow A d high f c s full one numbered = ⊎_elim
    (λ all.
    let few = length-le_from_distinct_below (leaves f) 65536 (distinct A d high f s) (λ q any. numbered q (in_use A d high f s q (leaf_met f q any))) in
    let many = wide A d high f s all in
    let number : length (cells f) ≡ 1 = ap (λ (xs : List Entry). length xs) one in
    let product : 2 ^ d * length (cells f) ≡ 2 ^ d = rw number (omega arith) in
    not_more d (omega (arith, few, many, product)))
    (λ zero. omega (arith, zero)) full

-- the root
abbrev pub root_site : (A : Array) (map : List Entry) → Represents map A → Site
root_site A map s = site_of s.tree s.is_tree.depth [] None

pub root_at : (A : Array) (map : List Entry) (key : List ℕ) → Numbered A → (s : Represents map A) → IsSubtree A (root_site A map s) 0 key 17
root_at A map key numbered s = record {
  sound = s.is_tree.sound;
  top = s.is_tree.root;
  full = s.is_tree.full;
  reaches = below_none key;
  ends = tt;
  shallow = shallow A s.is_tree.depth None s.tree _ s.is_tree.sound s.is_tree.full s.is_tree.root numbered;
}
