-- The keys of sound trees are within bounds.
use Rattle.std.proofs.Common.{◌≡◌, ◌⊎◌, ⊎_elim, inl, inr, ℕ, false, Option, Some, None, List, [], ◌∷◌, refl, ◌∙◌, subst}
use Rattle.std.proofs.lemmas.Bool.{cases_Bool}
use Rattle.pages.specs.State.{Array}
use Rattle.page_nodes.specs.Map.{is_below, Entry}
use Rattle.page_nodes.proofs.Order.{one_way}
use Rattle.page_tree.specs.Forest.{Forest, no_trees, leaf, inner, cells, entries, IsUnder, AllFrom, AllUnder, next, IsSound}
use Rattle.page_tree.proofs.Keys.{under_le, from_append, under_append, from_lower}

-- a first key bounds
pub first_key : (f : Forest) (k : List ℕ) (high : Option (List ℕ)) → next f None ≡ Some k → next f high ≡ Some k
first_key no_trees k high e = absurd (let bad : None ≡ Some k = e in cc)
first_key (leaf j p es f) k high e = e
first_key (inner j p c f) k high e = e

-- trees begin with a key, or there are none
pub begin : (f : Forest) → (f ≡ no_trees) ⊎ ((k : List ℕ) × (next f None ≡ Some k))
begin no_trees = inl refl
begin (leaf k p es f) = inr (k, refl)
begin (inner k p c f) = inr (k, refl)

pub irreflexive : (k : List ℕ) → is_below k k ≡ false
irreflexive k = ⊎_elim (λ yes. one_way k k yes) (λ no. no) (cases_Bool (is_below k k))

some_key : (a b : List ℕ) → Some a ≡ Some b → a ≡ b
some_key a b e = cc

-- what is below the first tree is below what bounds all
pub under_rest : (A : Array) (d : ℕ) (high : Option (List ℕ)) (f : Forest) (k : List ℕ) → IsSound A d high f → IsUnder k (next f high) → IsUnder k high
under_rest A d high no_trees k s u = u
under_rest A d high (leaf j p es f) k s u = under_le k j high (one_way k j u) (under_rest A d high f j s.5 s.3)
under_rest A d high (inner j p c f) k s u = under_le k j high (one_way k j u) (under_rest A d high f j s.6 s.3)

pub all_under_rest : (A : Array) (d : ℕ) (high : Option (List ℕ)) (f : Forest) (es : List Entry) → IsSound A d high f → AllUnder (next f high) es → AllUnder high es
all_under_rest A d high f [] s all = tt
all_under_rest A d high f (e ∷ es) s all = (under_rest A d high f e.0 s all.0, all_under_rest A d high f es s all.1)

pub all_under : (A : Array) (d : ℕ) (high : Option (List ℕ)) (f : Forest) → IsSound A d high f → AllUnder high (entries f)
all_under A d high no_trees s = tt
all_under A d high (leaf k p es f) s = under_append high es (entries f) (all_under_rest A d high f es s.5 s.2.1) (all_under A d high f s.5)
all_under A d high (inner k p c f) s = under_append high (entries c) (entries f) (all_under_rest A d high f (entries c) s.6 (all_under A s.2.0 (next f high) c s.2.2)) (all_under A d high f s.6)

pub cells_under : (A : Array) (d : ℕ) (high : Option (List ℕ)) (f : Forest) → IsSound A d high f → AllUnder high (cells f)
cells_under A d high no_trees s = tt
cells_under A d high (leaf k p es f) s = (under_rest A d high f k s.5 s.3, cells_under A d high f s.5)
cells_under A d high (inner k p c f) s = (under_rest A d high f k s.6 s.3, cells_under A d high f s.6)

-- the next key is not below
pub after_key : (k j : List ℕ) (f : Forest) (high : Option (List ℕ)) → IsUnder k (next f high) → next f None ≡ Some j → is_below j k ≡ false
after_key k j f high u e = one_way k j (subst (λ (o : Option (List ℕ)). IsUnder k o) (first_key f j high e) u)

pub all_from : (A : Array) (d : ℕ) (high : Option (List ℕ)) (f : Forest) (k : List ℕ) → IsSound A d high f → next f None ≡ Some k → AllFrom k (entries f)
all_from A d high no_trees k s e = tt
all_from A d high (leaf j p es f) k s e =
    let same : j ≡ k = some_key j k e in
    from_append k es (entries f) (subst (λ (x : List ℕ). AllFrom x es) same s.2.0)
    (⊎_elim (λ gone. rw gone tt) (λ more. from_lower k more.0 (entries f) (after_key k more.0 f high (subst (λ (x : List ℕ). IsUnder x (next f high)) same s.3) more.1) (all_from A d high f more.0 s.5 more.1)) (begin f))
all_from A d high (inner j p c f) k s e =
    let same : j ≡ k = some_key j k e in
    from_append k (entries c) (entries f) (all_from A s.2.0 (next f high) c k s.2.2 (s.1 ∙ e))
    (⊎_elim (λ gone. rw gone tt) (λ more. from_lower k more.0 (entries f) (after_key k more.0 f high (subst (λ (x : List ℕ). IsUnder x (next f high)) same s.3) more.1) (all_from A d high f more.0 s.6 more.1)) (begin f))

pub cells_from : (A : Array) (d : ℕ) (high : Option (List ℕ)) (f : Forest) (k : List ℕ) → IsSound A d high f → next f None ≡ Some k → AllFrom k (cells f)
cells_from A d high no_trees k s e = tt
cells_from A d high (leaf j p es f) k s e =
    let same : j ≡ k = some_key j k e in
    (rw same (irreflexive k), ⊎_elim (λ gone. rw gone tt) (λ more. from_lower k more.0 (cells f) (after_key k more.0 f high (subst (λ (x : List ℕ). IsUnder x (next f high)) same s.3) more.1) (cells_from A d high f more.0 s.5 more.1)) (begin f))
cells_from A d high (inner j p c f) k s e =
    let same : j ≡ k = some_key j k e in
    (rw same (irreflexive k), ⊎_elim (λ gone. rw gone tt) (λ more. from_lower k more.0 (cells f) (after_key k more.0 f high (subst (λ (x : List ℕ). IsUnder x (next f high)) same s.3) more.1) (cells_from A d high f more.0 s.6 more.1)) (begin f))
