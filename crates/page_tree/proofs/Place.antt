-- Where a key belongs among trees.
use Rattle.std.proofs.Common.{◌≡◌, ◌⊎◌, ⊎_elim, inl, inr, ℕ, true, false, Option, Some, None, List, [], ◌∷◌, ◌++◌, refl, sym, ap, ◌∙◌, subst}
use Rattle.std.proofs.lemmas.Bool.{cases_Bool}
use Rattle.std.proofs.lemmas.List.{append-nil}
use Rattle.pages.specs.State.{Array}
use Rattle.page_nodes.specs.Map.{is_below, Entry, value_for, first_at, edited}
use Rattle.page_nodes.specs.Node.{four_bytes}
use Rattle.page_nodes.specs.Search.{child_in, later_in}
use Rattle.page_nodes.proofs.Order.{one_way, lt_le}
use Rattle.page_tree.specs.Forest.{Forest, no_trees, leaf, inner, append, cells, entries, Meets, IsUnder, AllFrom, AllUnder, next, IsSound}
use Rattle.page_tree.proofs.Keys.{value_left, value_right, first_right, edited_left, edited_right}
use Rattle.page_tree.proofs.Trees.{parts, append_trees_assoc, cells_append, entries_append, next_append}
use Rattle.page_tree.proofs.Bounds.{begin, first_key, all_under, all_from, cells_under, cells_from}

-- the tree in which a key belongs, with those before and after it
pub record Place (key : List ℕ) (high : Option (List ℕ)) (f : Forest) : Type 0 where
  pub before : Forest
  pub at : Forest
  pub after : Forest
  pub whole : f ≡ append before (append at after)
  pub from : List ℕ
  pub page : ℕ
  pub top : cells at ≡ (from, four_bytes page) ∷ []
  pub begins : next at None ≡ Some from
  pub reaches : is_below key from ≡ false
  pub ends : IsUnder key (next after high)

here : (key : List ℕ) (high : Option (List ℕ)) (at after : Forest) (k : List ℕ) (p : ℕ) → cells at ≡ (k, four_bytes p) ∷ [] → next at None ≡ Some k → is_below key k ≡ false → IsUnder key (next after high) → Place key high (append at after)
here key high at after k p top begins reaches ends = record { before = no_trees; at = at; after = after; whole = refl; from = k; page = p; top = top; begins = begins; reaches = reaches; ends = ends }

later : (key : List ℕ) (high : Option (List ℕ)) (g f : Forest) → Place key high f → Place key high (append g f)
later key high g f p = record {
  before = append g p.before;
  at = p.at;
  after = p.after;
  whole = ap (λ (x : Forest). append g x) p.whole ∙ sym (append_trees_assoc g p.before (append p.at p.after));
  from = p.from;
  page = p.page;
  top = p.top;
  begins = p.begins;
  reaches = p.reaches;
  ends = p.ends;
}

-- with a tree ahead
ahead : (key : List ℕ) (high : Option (List ℕ)) (at f : Forest) (k : List ℕ) (p : ℕ) → cells at ≡ (k, four_bytes p) ∷ [] → next at None ≡ Some k → is_below key k ≡ false → IsUnder key high
    → ((j : List ℕ) → next f None ≡ Some j → is_below key j ≡ false → Place key high f) → Place key high (append at f)
ahead key high at f k p top begins reaches ends rest =
    ⊎_elim (λ gone. here key high at f k p top begins reaches (subst (λ (x : Forest). IsUnder key (next x high)) (sym gone) ends))
    (λ more. ⊎_elim (λ below. here key high at f k p top begins reaches (subst (λ (o : Option (List ℕ)). IsUnder key o) (sym (first_key f more.0 high more.1)) below))
    (λ past. later key high at f (rest more.0 more.1 past)) (cases_Bool (is_below key more.0)))
    (begin f)

some_key : (a b : List ℕ) → Some a ≡ Some b → a ≡ b
some_key a b e = cc

pub find : (key : List ℕ) (high : Option (List ℕ)) (f : Forest) (k : List ℕ) → next f None ≡ Some k → is_below key k ≡ false → IsUnder key high → Place key high f
find key high no_trees k e reaches ends = absurd (let bad : None ≡ Some k = e in cc)
find key high (leaf j p es f) k e reaches ends =
    ahead key high (leaf j p es no_trees) f j p refl refl (subst (λ (x : List ℕ). is_below key x ≡ false) (sym (some_key j k e)) reaches) ends (λ i begins past. find key high f i begins past ends)
find key high (inner j p c f) k e reaches ends =
    ahead key high (inner j p c no_trees) f j p refl refl (subst (λ (x : List ℕ). is_below key x ≡ false) (sym (some_key j k e)) reaches) ends (λ i begins past. find key high f i begins past ends)

-- what the cells say of the place
module _ (key : List ℕ) where
  past_none : (first : List ℕ) (hs : List Entry) (to : List ℕ) → is_below key to ≡ true → AllFrom to hs → child_in key first hs ≡ first
  past_none first [] to below all = refl
  past_none first (h ∷ hs) to below all = rw (lt_le key to h.0 below all.0) refl

  pub child_there : (bs : List Entry) (first : List ℕ) (c : Entry) (hs : List Entry) → is_below key c.0 ≡ false → AllUnder (Some c.0) bs → child_in key c.1 hs ≡ c.1 → child_in key first (bs ++ (c ∷ hs)) ≡ c.1
  child_there [] first c hs reaches under last = rw reaches last
  child_there (b ∷ bs) first c hs reaches under last = rw (one_way b.0 key (lt_le b.0 c.0 key under.0 reaches)) (child_there bs b.1 c hs reaches under.1 last)

  pub later_there : (bs : List Entry) (c : Entry) (hs : List Entry) → is_below key c.0 ≡ false → AllUnder (Some c.0) bs → later_in key (bs ++ (c ∷ hs)) ≡ later_in key hs
  later_there [] c hs reaches under = rw reaches refl
  later_there (b ∷ bs) c hs reaches under = rw (one_way b.0 key (lt_le b.0 c.0 key under.0 reaches)) (later_there bs c hs reaches under.1)

  pub child_is : (cs : List Entry) (first : Entry) (bs : List Entry) (c : Entry) (hs : List Entry) → first ∷ cs ≡ bs ++ (c ∷ hs) → is_below key c.0 ≡ false → AllUnder (Some c.0) bs → child_in key c.1 hs ≡ c.1 → child_in key first.1 cs ≡ c.1
  child_is cs first [] c hs e reaches under last =
      let head : first ≡ c = cc in
      let tail : cs ≡ hs = cc in
      rw (head, tail) last
  child_is cs first (b ∷ bs) c hs e reaches under last =
      let head : first ≡ b = cc in
      let tail : cs ≡ bs ++ (c ∷ hs) = cc in
      rw (head, tail) (child_there bs b.1 c hs reaches under.1 last)

  pub later_is : (cs : List Entry) (first : Entry) (bs : List Entry) (c : Entry) (hs : List Entry) → first ∷ cs ≡ bs ++ (c ∷ hs) → is_below key c.0 ≡ false → AllUnder (Some c.0) bs → later_in key cs ≡ later_in key hs
  later_is cs first [] c hs e reaches under = let tail : cs ≡ hs = cc in rw tail refl
  later_is cs first (b ∷ bs) c hs e reaches under = let tail : cs ≡ bs ++ (c ∷ hs) = cc in rw tail (later_there bs c hs reaches under.1)

-- what is known of a place among sound trees
pub record Placed (A : Array) (d : ℕ) (key : List ℕ) (high : Option (List ℕ)) (f : Forest) (p : Place key high f) : Type 0 where
  pub before_sound : IsSound A d (Some p.from) p.before
  pub at_sound : IsSound A d (next p.after high) p.at
  pub after_sound : IsSound A d high p.after
  pub apart_before : (q : ℕ) → Meets q p.before → Meets q (append p.at p.after) → ⊥
  pub apart_after : (q : ℕ) → Meets q p.at → Meets q p.after → ⊥

pub bound_is : (at after : Forest) (high : Option (List ℕ)) (from : List ℕ) → next at None ≡ Some from → next (append at after) high ≡ Some from
bound_is at after high from e = next_append at after high ∙ first_key at from (next after high) e

pub placed : (A : Array) (d : ℕ) (key : List ℕ) (high : Option (List ℕ)) (f : Forest) (p : Place key high f) → IsSound A d high f → Placed A d key high f p
placed A d key high f p s =
    let one = parts A d high p.before (append p.at p.after) (subst (λ (x : Forest). IsSound A d high x) p.whole s) in
    let two = parts A d high p.at p.after one.right in
    record {
      before_sound = subst (λ (o : Option (List ℕ)). IsSound A d o p.before) (bound_is p.at p.after high p.from p.begins) one.left;
      at_sound = two.left;
      after_sound = two.right;
      apart_before = one.apart;
      apart_after = two.apart;
    }

pub entries_around : (before at after : Forest) → entries (append before (append at after)) ≡ entries before ++ (entries at ++ entries after)
entries_around before at after = entries_append before (append at after) ∙ ap (λ (xs : List Entry). entries before ++ xs) (entries_append at after)

pub cells_around : (before at after : Forest) (c : Entry) → cells at ≡ c ∷ [] → cells (append before (append at after)) ≡ cells before ++ (c ∷ cells after)
cells_around before at after c top = cells_append before (append at after) ∙ ap (λ (xs : List Entry). cells before ++ xs) (cells_append at after ∙ ap (λ (xs : List Entry). xs ++ cells after) top)

-- after the place is nothing, or trees whose keys are after the key
pub after_place : (key : List ℕ) (high : Option (List ℕ)) (f : Forest) (p : Place key high f) → (p.after ≡ no_trees) ⊎ ((j : List ℕ) × (next p.after None ≡ Some j) × (is_below key j ≡ true))
after_place key high f p = ⊎_elim (λ gone. inl gone) (λ more. inr (more.0, more.1, subst (λ (o : Option (List ℕ)). IsUnder key o) (first_key p.after more.0 high more.1) p.ends)) (begin p.after)

module _ (A : Array) (d : ℕ) (key : List ℕ) (high : Option (List ℕ)) (f : Forest) (p : Place key high f) (s : Placed A d key high f p) where
  pub value_place : value_for key (entries f) ≡ value_for key (entries p.at)
  value_place =
      ap (λ (x : Forest). value_for key (entries x)) p.whole ∙ (ap (λ (xs : List Entry). value_for key xs) (entries_around p.before p.at p.after)
      ∙ (value_right key p.from p.reaches (entries p.at ++ entries p.after) (entries p.before) (all_under A d (Some p.from) p.before s.before_sound)
      ∙ ⊎_elim
      (λ gone. ap (λ (x : Forest). value_for key (entries p.at ++ entries x)) gone ∙ ap (λ (xs : List Entry). value_for key xs) (append-nil (entries p.at)))
      (λ more. value_left key more.0 more.2 (entries p.after) (all_from A d high p.after more.0 s.after_sound more.1) (entries p.at)) (after_place key high f p)))

  pub first_place : first_at key (entries f) ≡ first_at key (entries p.at ++ entries p.after)
  first_place =
      ap (λ (x : Forest). first_at key (entries x)) p.whole ∙ (ap (λ (xs : List Entry). first_at key xs) (entries_around p.before p.at p.after)
      ∙ first_right key p.from p.reaches (entries p.at ++ entries p.after) (entries p.before) (all_under A d (Some p.from) p.before s.before_sound))

  pub edited_place : (u : Forest) (payload : Option (List ℕ)) → entries u ≡ edited key payload (entries p.at) → entries (append p.before (append u p.after)) ≡ edited key payload (entries f)
  edited_place u payload e =
      let at_part : edited key payload (entries p.at ++ entries p.after) ≡ edited key payload (entries p.at) ++ entries p.after = ⊎_elim
      (λ gone. ap (λ (x : Forest). edited key payload (entries p.at ++ entries x)) gone ∙ (ap (λ (xs : List Entry). edited key payload xs) (append-nil (entries p.at)) ∙ (sym (append-nil (edited key payload (entries p.at))) ∙ ap (λ (x : Forest). edited key payload (entries p.at) ++ entries x) (sym gone))))
      (λ more. edited_left key more.0 more.2 (entries p.after) (all_from A d high p.after more.0 s.after_sound more.1) payload (entries p.at)) (after_place key high f p) in
      entries_around p.before u p.after ∙ (ap (λ (xs : List Entry). entries p.before ++ (xs ++ entries p.after)) e ∙ (ap (λ (xs : List Entry). entries p.before ++ xs) (sym at_part)
      ∙ (sym (edited_right key p.from p.reaches (entries p.at ++ entries p.after) payload (entries p.before) (all_under A d (Some p.from) p.before s.before_sound))
      ∙ (ap (λ (xs : List Entry). edited key payload xs) (sym (entries_around p.before p.at p.after)) ∙ ap (λ (x : Forest). edited key payload (entries x)) (sym p.whole)))))

  -- the cells of the trees name the place
  pub child_place : (head : Entry) (rest : List Entry) → cells f ≡ head ∷ rest → child_in key head.1 rest ≡ four_bytes p.page
  child_place head rest e =
      let whole : head ∷ rest ≡ cells p.before ++ ((p.from, four_bytes p.page) ∷ cells p.after) =
      sym e ∙ (ap (λ (x : Forest). cells x) p.whole ∙ cells_around p.before p.at p.after (p.from, four_bytes p.page) p.top) in
      let last : child_in key (four_bytes p.page) (cells p.after) ≡ four_bytes p.page = ⊎_elim
      (λ gone. ap (λ (x : Forest). child_in key (four_bytes p.page) (cells x)) gone)
      (λ more. past_none key (four_bytes p.page) (cells p.after) more.0 more.2 (cells_from A d high p.after more.0 s.after_sound more.1)) (after_place key high f p) in
      child_is key rest head (cells p.before) (p.from, four_bytes p.page) (cells p.after) whole p.reaches (cells_under A d (Some p.from) p.before s.before_sound) last

  pub later_place : (head : Entry) (rest : List Entry) → cells f ≡ head ∷ rest → later_in key rest ≡ later_in key (cells p.after)
  later_place head rest e =
      let whole : head ∷ rest ≡ cells p.before ++ ((p.from, four_bytes p.page) ∷ cells p.after) =
      sym e ∙ (ap (λ (x : Forest). cells x) p.whole ∙ cells_around p.before p.at p.after (p.from, four_bytes p.page) p.top) in
      later_is key rest head (cells p.before) (p.from, four_bytes p.page) (cells p.after) whole p.reaches (cells_under A d (Some p.from) p.before s.before_sound)
