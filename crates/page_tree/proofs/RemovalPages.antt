-- Pages that trees leave and take.
use Rattle.std.proofs.Common.{◌≡◌, ◌⊎◌, ⊎_elim, inl, inr, ℕ, Option, Some, None, List, sym, ◌∙◌, subst}
use Rattle.std.proofs.lemmas.Bool.{cases_eq}
use Rattle.std.specs.Prelude.{IsSome}
use Rattle.pages.specs.State.{Array}
use Rattle.page_nodes.specs.Map.{Entry}
use Rattle.page_tree.specs.Forest.{Forest, no_trees, leaf, inner, append, Meets, next, IsSound, IsFull}
use Rattle.page_tree.specs.Removal.{Moves, IsAround, IsBetween}
use Rattle.page_tree.proofs.Trees.{meets_append, meets_left, meets_right, full_append, joined, in_use, keep}
use Rattle.page_tree.proofs.Place.{bound_is}
use Rattle.page_tree.proofs.Descent.{not_gone}

-- whether trees meet a page
pub met : (q : ℕ) (f : Forest) → Meets q f ⊎ (Meets q f → ⊥)
met q no_trees = inr (λ m. m)
met q (leaf k p es f) = ⊎_elim (λ here. inl (inl here)) (λ off. ⊎_elim (λ there. inl (inr there)) (λ not. inr (λ m. ⊎_elim off not m)) (met q f)) (cases_eq q p)
met q (inner k p c f) =
    ⊎_elim (λ here. inl (inl (inl here)))
    (λ off. ⊎_elim (λ below. inl (inl (inr below)))
    (λ none. ⊎_elim (λ there. inl (inr there)) (λ not. inr (λ m. ⊎_elim (λ top. ⊎_elim off none top) not m)) (met q f)) (met q c)) (cases_eq q p)

pub moves_same : (A B : Array) (t : Forest) → ((q : ℕ) → B q ≡ A q) → Moves A B t t
moves_same A B t same = record { others = λ q off still. same q; freed = λ q m not. absurd (not m); taken = λ q m not. absurd (not m) }

pub moves_then : (A B C : Array) (t u v : Forest) → Moves A B t u → Moves B C u v → Moves A C t v
moves_then A B C t u v one two = record {
  others = λ q off still. ⊎_elim (λ m. two.freed q m still ∙ sym (one.taken q m off)) (λ not. two.others q not still ∙ one.others q off not) (met q u);
  freed = λ q m still. ⊎_elim (λ n. two.freed q n still) (λ not. two.others q not still ∙ one.freed q m not) (met q u);
  taken = λ q m off. ⊎_elim (λ n. one.taken q n off) (λ not. sym (one.others q off not) ∙ two.taken q m not) (met q u);
}

-- the same pages in other trees
pub moves_as : (A B : Array) (s t u v : Forest) → ((q : ℕ) → Meets q s → Meets q t) → ((q : ℕ) → Meets q t → Meets q s) → ((q : ℕ) → Meets q u → Meets q v) → ((q : ℕ) → Meets q v → Meets q u) → Moves A B s u → Moves A B t v
moves_as A B s t u v st ts uv vu m = record {
  others = λ q off still. m.others q (λ x. off (st q x)) (λ x. still (uv q x));
  freed = λ q x still. m.freed q (ts q x) (λ y. still (uv q y));
  taken = λ q x off. m.taken q (vu q x) (λ y. off (st q y));
}

pub meets_three : (q : ℕ) (f g h : Forest) → Meets q (append f (append g h)) → Meets q g ⊎ (Meets q f ⊎ Meets q h)
meets_three q f g h m = ⊎_elim (λ a. inr (inl a)) (λ r. ⊎_elim (λ b. inl b) (λ c. inr (inr c)) (meets_append q g h r)) (meets_append q f (append g h) m)

pub meets_mid : (q : ℕ) (f g h : Forest) → Meets q g → Meets q (append f (append g h))
meets_mid q f g h m = meets_right q f (append g h) (meets_left q g h m)

pub meets_sides : (q : ℕ) (f g h : Forest) → Meets q f ⊎ Meets q h → Meets q (append f (append g h))
meets_sides q f g h m = ⊎_elim (λ a. meets_left q f (append g h) a) (λ c. meets_right q f (append g h) (meets_right q g h c)) m

pub meets_pair : (q : ℕ) (f h : Forest) → Meets q f ⊎ Meets q h → Meets q (append f h)
meets_pair q f h m = ⊎_elim (λ a. meets_left q f h a) (λ c. meets_right q f h c) m

-- a change among other trees
pub moves_between : (A B : Array) (f h t u : Forest) → Moves A B t u → Moves A B (append f (append t h)) (append f (append u h))
moves_between A B f h t u m = record {
  others = λ q off still. m.others q (λ x. off (meets_mid q f t h x)) (λ x. still (meets_mid q f u h x));
  freed = λ q x still. ⊎_elim (λ y. m.freed q y (λ z. still (meets_mid q f u h z))) (λ side. absurd (still (meets_sides q f u h side))) (meets_three q f t h x);
  taken = λ q x off. ⊎_elim (λ y. m.taken q y (λ z. off (meets_mid q f t h z))) (λ side. absurd (off (meets_sides q f t h side))) (meets_three q f u h x);
}

-- a change below an inner node
pub moves_under : (A B : Array) (low : List ℕ) (page : ℕ) (t u : Forest) → Moves A B t u → Moves A B (inner low page t no_trees) (inner low page u no_trees)
moves_under A B low page t u m = record {
  others = λ q off still. m.others q (λ x. off (inl (inr x))) (λ x. still (inl (inr x)));
  freed = λ q x still. ⊎_elim (λ top. ⊎_elim (λ here. absurd (still (inl (inl here)))) (λ y. m.freed q y (λ z. still (inl (inr z)))) top) (λ none. absurd none) x;
  taken = λ q x off. ⊎_elim (λ top. ⊎_elim (λ here. absurd (off (inl (inl here)))) (λ y. m.taken q y (λ z. off (inl (inr z)))) top) (λ none. absurd none) x;
}

-- a page in use that the trees do not meet stays as it is, and they do not take it
pub stays_out : (A B : Array) (t u : Forest) → Moves A B t u → (q : ℕ) → IsSome (A q) → (Meets q t → ⊥) → Meets q u → ⊥
stays_out A B t u m q some off n = not_gone A q some (m.taken q n off)

pub stays : (A B : Array) (t u : Forest) → Moves A B t u → (q : ℕ) → IsSome (A q) → (Meets q t → ⊥) → B q ≡ A q
stays A B t u m q some off = m.others q off (stays_out A B t u m q some off)

pub some_as : (A B : Array) (q : ℕ) → B q ≡ A q → IsSome (A q) → IsSome (B q)
some_as A B q same some = subst (λ (o : Option (List ℕ)). IsSome o) (sym same) some

-- each page in use is met, still
pub only_still : (A B : Array) (t u : Forest) → Moves A B t u → ((q : ℕ) → IsSome (A q) → Meets q t) → (q : ℕ) → IsSome (B q) → Meets q u
only_still A B t u m only q some = ⊎_elim (λ yes. yes)
    (λ not. ⊎_elim (λ old. absurd (not_gone B q some (m.freed q old not))) (λ off. absurd (off (only q (some_as B A q (sym (m.others q off not)) some)))) (met q t)) (met q u)

-- trees that another change leaves alone stay sound
pub sound_still : (A B : Array) (t u : Forest) → Moves A B t u → (d : ℕ) (high : Option (List ℕ)) (f : Forest) → IsSound A d high f → ((q : ℕ) → Meets q f → Meets q t → ⊥) → IsSound B d high f
sound_still A B t u m d high f s apart = keep A B d high f (λ q x. stays A B t u m q (in_use A d high f s q x) (apart q x)) s

pub apart_still : (A B : Array) (t u : Forest) → Moves A B t u → (d : ℕ) (high : Option (List ℕ)) (f : Forest) → IsSound A d high f → ((q : ℕ) → Meets q f → Meets q t → ⊥) → (q : ℕ) → Meets q f → Meets q u → ⊥
apart_still A B t u m d high f s apart q x = stays_out A B t u m q (in_use A d high f s q x) (apart q x)

module _ (A B : Array) (page d : ℕ) (low : List ℕ) (high : Option (List ℕ)) (key : List ℕ) (child : ℕ) (first : List ℕ) (cs : List Entry) (from : List ℕ) (before after : Forest) where
  pub around_keep : IsAround A page d low high key child first cs from before after → ((q : ℕ) → Meets q (append before after) → B q ≡ A q) → IsSome (B page) → IsAround B page d low high key child first cs from before after
  around_keep a same there = record {
    before_sound = keep A B d (Some from) before (λ q m. same q (meets_left q before after m)) a.before_sound;
    after_sound = keep A B d high after (λ q m. same q (meets_right q before after m)) a.after_sound;
    before_full = a.before_full;
    after_full = a.after_full;
    apart = a.apart;
    page_apart = a.page_apart;
    child_apart = a.child_apart;
    there = there;
    spelled = a.spelled;
    some = a.some;
    under = a.under;
    reaches = a.reaches;
    ends = a.ends;
  }

  pub between_sound : IsAround A page d low high key child first cs from before after → (u : Forest) → IsSound A d (next after high) u → next u None ≡ Some from → IsBetween page before u after → IsSound A d high (append before (append u after))
  between_sound a u s begins b =
      joined A d high before (append u after) (subst (λ (o : Option (List ℕ)). IsSound A d o before) (sym (bound_is u after high from begins)) a.before_sound)
      (joined A d high u after s a.after_sound b.apart_after)
      (λ q m n. ⊎_elim (λ x. b.apart_before q m x) (λ y. a.apart q m y) (meets_append q u after n))

  pub between_full : IsAround A page d low high key child first cs from before after → (u : Forest) → IsFull u → IsFull (append before (append u after))
  between_full a u full = full_append before (append u after) a.before_full (full_append u after full a.after_full)

  pub between_off : IsAround A page d low high key child first cs from before after → (u : Forest) → IsBetween page before u after → Meets page (append before (append u after)) → ⊥
  between_off a u b m = ⊎_elim (λ x. b.page_apart x) (λ side. a.page_apart (meets_pair page before after side)) (meets_three page before u after m)
