-- Leaves that are counted in a walk.
use Rattle.std.proofs.Common.{◌≡◌, ◌+◌, ℕ, Bool, true, false, [], ◌∷◌, sym, ap, subst, ◌∙◌, arith}
use Rattle.store.specs.Records.{Record, Records}
use Rattle.store.specs.Steps.{Takes}
use Rattle.copies.specs.Wanted.{begun_for, cell_size, placed}

-- some are counted, and the others are those of the records ahead
abbrev pub HasLeft : (Records → Type 0) → ℕ → ℕ → ℕ → Type 0
HasLeft ahead leaves used all = (rest : Records) × ahead rest × (leaves + begun_for used rest ≡ all)

-- one record more is counted
pub one_counted : (A B : Records → Type 0) (F : Record → Type 0) (found : Bool) (leaves used all : ℕ) → found ≡ true → HasLeft A leaves used all → ((later : Records) → A later → Takes F B found later)
    → (entry : Record) → ((e : Record) → F e → entry ≡ e) → (cell : ℕ) → cell ≡ cell_size entry → (p : ℕ × ℕ) → p ≡ placed used cell → HasLeft B (leaves + p.0) p.1 all
one_counted A B F true leaves used all is left takes entry same cell cell_is p p_is =
    let t = takes left.0 left.1 in
    let so : p ≡ placed used (cell_size t.0) = p_is ∙ ap (placed used) (cell_is ∙ ap cell_size (same t.0 t.3)) in
    let counted : leaves + begun_for used (t.0 ∷ t.1) ≡ all = ap (λ (es : Records). leaves + begun_for used es) (sym t.2) ∙ left.2 in
    let sum : leaves + (p.0 + begun_for p.1 t.1) ≡ all = subst (λ (q : ℕ × ℕ). leaves + (q.0 + begun_for q.1 t.1) ≡ all) (sym so) counted in
    (t.1, t.4, omega (arith, sum))
one_counted A B F false leaves used all is left takes entry same cell cell_is p p_is = absurd cc

-- all are
pub all_counted : (A B : Records → Type 0) (F : Record → Type 0) (found : Bool) (leaves used all : ℕ) → found ≡ false → HasLeft A leaves used all → ((later : Records) → A later → Takes F B found later)
    → leaves ≡ all
all_counted A B F false leaves used all is left takes =
    let none : left.0 ≡ [] = takes left.0 left.1 in
    let counted : leaves + begun_for used [] ≡ all = ap (λ (es : Records). leaves + begun_for used es) (sym none) ∙ left.2 in
    omega (arith, counted)
all_counted A B F true leaves used all is left takes = absurd cc
