-- The child of a key among the children of an inner node, and its neighbour.
use Rattle.std.proofs.Common.{◌≡◌, ◌≢◌, ◌⊎◌, ⊎_elim, inl, inr, ℕ, ◌<◌, true, false, Option, Some, None, List, [], ◌∷◌, ◌++◌, length, refl, sym, ap, ◌∙◌, arith, subst, append_assoc, length-append}
use Rattle.pages.specs.State.{Array}
use Rattle.page_nodes.specs.Map.{is_below, Entry, with_entry, without}
use Rattle.page_nodes.specs.Node.{four_bytes}
use Rattle.page_nodes.specs.Search.{pair_from}
use Rattle.page_nodes.proofs.Order.{one_way, lt_le, lt_lt}
use Rattle.page_tree.specs.Forest.{Forest, no_trees, leaf, inner, append, cells, Meets, IsUnder, AllFrom, AllUnder, next, IsSound}
use Rattle.page_tree.specs.Puts.{made_cells}
use Rattle.page_tree.specs.Removal.{IsAround, with_made}
use Rattle.page_tree.proofs.Keys.{under_le, under_higher, under_append, with_right, without_right}
use Rattle.page_tree.proofs.Trees.{cells_append, meets_left, meets_right, in_use}
use Rattle.page_tree.proofs.Bounds.{irreflexive, cells_under, cells_from}
use Rattle.page_tree.proofs.Descent.{Numbered}
use Rattle.page_tree.proofs.RemovalNodes.{page_same}
use Rattle.page_tree.proofs.RemovalTrees.{cells_next, next_front}

tail_is : (x y : Entry) (xs ys : List Entry) → x ∷ xs ≡ y ∷ ys → xs ≡ ys
tail_is x y xs ys e = cc

head_is : (x y : Entry) (xs ys : List Entry) → x ∷ xs ≡ y ∷ ys → x ≡ y
head_is x y xs ys e = cc

-- trees below a key are below what is after it
widen_all : (f : Forest) (k : List ℕ) (high : Option (List ℕ)) (es : List Entry) → IsUnder k high → AllUnder (next f (Some k)) es → AllUnder (next f high) es
widen_all no_trees k high es lt all = under_higher k high es lt all
widen_all (leaf j p xs f) k high es lt all = all
widen_all (inner j p c f) k high es lt all = all

widen_one : (f : Forest) (j k : List ℕ) (high : Option (List ℕ)) → IsUnder k high → IsUnder j (next f (Some k)) → IsUnder j (next f high)
widen_one no_trees j k high lt one = under_le j k high (one_way j k one) lt
widen_one (leaf i p xs f) j k high lt one = one
widen_one (inner i p c f) j k high lt one = one

widen_in : (A : Array) (b : ℕ) (f c : Forest) (k : List ℕ) (high : Option (List ℕ)) → (IsSound A b (Some k) c → IsSound A b high c) → IsSound A b (next f (Some k)) c → IsSound A b (next f high) c
widen_in A b no_trees c k high wide s = wide s
widen_in A b (leaf j p xs f) c k high wide s = s
widen_in A b (inner j p d f) c k high wide s = s

pub widen : (A : Array) (d : ℕ) (k : List ℕ) (high : Option (List ℕ)) (f : Forest) → IsUnder k high → IsSound A d (Some k) f → IsSound A d high f
widen A d k high no_trees lt s = tt
widen A d k high (leaf j p es f) lt s = (s.0, s.1, (s.2.0, widen_all f k high es lt s.2.1, s.2.2), widen_one f j k high lt s.3, s.4, widen A d k high f lt s.5)
widen A d k high (inner j p c f) lt s =
    (s.0, s.1, (s.2.0, s.2.1, widen_in A s.2.0 f c k high (λ x. widen A s.2.0 k high c lt x) s.2.2), widen_one f j k high lt s.3, s.4, s.5, widen A d k high f lt s.6)

-- the last of trees
pub record Last (f : Forest) : Type 0 where
  pub init : Forest
  pub tree : Forest
  pub key : List ℕ
  pub page : ℕ
  pub whole : f ≡ append init tree
  pub top : cells tree ≡ (key, four_bytes page) ∷ []
  pub met : Meets page tree

pub last : (f : Forest) → (f ≡ no_trees) ⊎ Last f
last no_trees = inl refl
last (leaf k p es f) = inr (⊎_elim
    (λ gone. record { init = no_trees; tree = leaf k p es f; key = k; page = p; whole = refl; top = ap (λ (x : Forest). (k, four_bytes p) ∷ cells x) gone; met = inl refl })
    (λ more. record { init = leaf k p es more.init; tree = more.tree; key = more.key; page = more.page; whole = ap (λ (x : Forest). leaf k p es x) more.whole; top = more.top; met = more.met }) (last f))
last (inner k p c f) = inr (⊎_elim
    (λ gone. record { init = no_trees; tree = inner k p c f; key = k; page = p; whole = refl; top = ap (λ (x : Forest). (k, four_bytes p) ∷ cells x) gone; met = inl (inl refl) })
    (λ more. record { init = inner k p c more.init; tree = more.tree; key = more.key; page = more.page; whole = ap (λ (x : Forest). inner k p c x) more.whole; top = more.top; met = more.met }) (last f))

-- the pair of a key
abbrev AllTo : List ℕ → List Entry → Type 0
AllTo key [] = Unit {0}
AllTo key (e ∷ es) = (is_below key e.0 ≡ false) × AllTo key es

all_to : (key k : List ℕ) (es : List Entry) → is_below key k ≡ false → AllUnder (Some k) es → AllTo key es
all_to key k [] reaches all = tt
all_to key k (e ∷ es) reaches all = (one_way e.0 key (lt_le e.0 k key all.0 reaches), all_to key k es reaches all.1)

to_append : (key : List ℕ) (xs ys : List Entry) → AllTo key xs → AllTo key ys → AllTo key (xs ++ ys)
to_append key [] ys a b = b
to_append key (x ∷ xs) ys a b = (a.0, to_append key xs ys a.1 b)

pair_first : (key left : List ℕ) (c : Entry) (cs : List Entry) → is_below key c.0 ≡ true → AllFrom c.0 cs → pair_from key left c cs ≡ (left, c)
pair_first key left c [] lt all = refl
pair_first key left c (d ∷ ds) lt all = rw (lt_le key c.0 d.0 lt all.0) refl

pair_stop : (key left : List ℕ) (c : Entry) (cs : List Entry) (high : Option (List ℕ)) (f : Forest) → cells f ≡ cs → IsUnder key (next f high) → pair_from key left c cs ≡ (left, c)
pair_stop key left c [] high f e under = refl
pair_stop key left c (d ∷ ds) high no_trees e under = absurd (let bad : [] ≡ d ∷ ds = e in cc)
pair_stop key left c (d ∷ ds) high (leaf k p es f) e under =
    let same : (k, four_bytes p) ≡ d = head_is _ d _ ds e in
    let below : is_below key d.0 ≡ true = subst (λ (x : Entry). is_below key x.0 ≡ true) same under in rw below refl
pair_stop key left c (d ∷ ds) high (inner k p g f) e under =
    let same : (k, four_bytes p) ≡ d = head_is _ d _ ds e in
    let below : is_below key d.0 ≡ true = subst (λ (x : Entry). is_below key x.0 ≡ true) same under in rw below refl

second_to : (key : List ℕ) (c d : Entry) (ds xs : List Entry) (y at : Entry) (hs : List Entry) → c ∷ d ∷ ds ≡ xs ++ (y ∷ at ∷ hs) → AllTo key (xs ++ (y ∷ at ∷ [])) → is_below key d.0 ≡ false
second_to key c d ds [] y at hs e all =
    let same : d ≡ at = head_is d at ds hs (tail_is c y (d ∷ ds) (at ∷ hs) e) in rw same all.1.0
second_to key c d ds (x ∷ []) y at hs e all =
    let same : d ≡ y = head_is d y ds (at ∷ hs) (tail_is c x (d ∷ ds) (y ∷ at ∷ hs) e) in rw same all.1.0
second_to key c d ds (x ∷ z ∷ xs) y at hs e all =
    let same : d ≡ z = head_is d z ds (xs ++ (y ∷ at ∷ hs)) (tail_is c x (d ∷ ds) (z ∷ (xs ++ (y ∷ at ∷ hs))) e) in rw same all.1.0

one_is_two : (c : Entry) (xs : List Entry) (y at : Entry) (hs : List Entry) → c ∷ [] ≡ xs ++ (y ∷ at ∷ hs) → ⊥
one_is_two c xs y at hs e =
    let long = ap (λ (zs : List Entry). length zs) e in omega (arith, long, length-append xs (y ∷ at ∷ hs))

pair_later : (key : List ℕ) (l c : Entry) (cs xs : List Entry) (y at : Entry) (hs : List Entry) → l ∷ c ∷ cs ≡ xs ++ (y ∷ at ∷ hs) → AllTo key (xs ++ (y ∷ at ∷ [])) → pair_from key y.1 at hs ≡ (y.1, at)
    → pair_from key l.1 c cs ≡ (y.1, at)
pair_later key l c cs [] y at hs e all stop =
    let one : l ≡ y = head_is l y (c ∷ cs) (at ∷ hs) e in
    let rest : c ∷ cs ≡ at ∷ hs = tail_is l y (c ∷ cs) (at ∷ hs) e in
    let two : c ≡ at = head_is c at cs hs rest in
    let three : cs ≡ hs = tail_is c at cs hs rest in
    rw (one, two, three) stop
pair_later key l c [] (x ∷ xs) y at hs e all stop = absurd (one_is_two c xs y at hs (tail_is l x (c ∷ []) (xs ++ (y ∷ at ∷ hs)) e))
pair_later key l c (d ∷ ds) (x ∷ xs) y at hs e all stop =
    let rest : c ∷ d ∷ ds ≡ xs ++ (y ∷ at ∷ hs) = tail_is l x (c ∷ d ∷ ds) (xs ++ (y ∷ at ∷ hs)) e in
    rw (second_to key c d ds xs y at hs rest all.1) (pair_later key c d ds xs y at hs rest all.1 stop)

-- the cells without one of them
pub without_here : (c : Entry) (cs : List Entry) → without c.0 (c ∷ cs) ≡ cs
without_here c cs = rw (irreflexive c.0) refl

pub without_head : (k : List ℕ) (c : Entry) (cs : List Entry) → is_below c.0 k ≡ true → without k (c ∷ cs) ≡ c ∷ without k cs
without_head k c cs below = rw below refl

pub without_mid : (k b : List ℕ) (xs hs : List Entry) → AllUnder (Some k) xs → without k (xs ++ ((k, b) ∷ hs)) ≡ xs ++ hs
without_mid k b xs hs all = without_right k k (irreflexive k) ((k, b) ∷ hs) xs all ∙ ap (λ (zs : List Entry). xs ++ zs) (without_here (k, b) hs)

-- the cells with that of a second tree
pub with_ahead : (separator b : List ℕ) (f : Forest) (high : Option (List ℕ)) → IsUnder separator (next f high) → with_entry separator b (cells f) ≡ (separator, b) ∷ cells f
with_ahead separator b no_trees high under = refl
with_ahead separator b (leaf k p es f) high under = rw (one_way separator k under, under) refl
with_ahead separator b (inner k p c f) high under = rw (one_way separator k under, under) refl

with_head : (separator b : List ℕ) (head : Entry) (rest : List Entry) → is_below head.0 separator ≡ true → with_entry separator b (head ∷ rest) ≡ head ∷ with_entry separator b rest
with_head separator b head rest below = rw below refl

under_lt : (j k : List ℕ) (es : List Entry) → is_below j k ≡ true → AllUnder (Some j) es → AllUnder (Some k) es
under_lt j k [] lt all = tt
under_lt j k (e ∷ es) lt all = (lt_lt e.0 j k all.0 lt, under_lt j k es lt all.1)

pub head_under : (k : List ℕ) (head : Entry) (rest xs ys : List Entry) → head ∷ rest ≡ xs ++ ys → 0 < length xs → AllUnder (Some k) xs → is_below head.0 k ≡ true
head_under k head rest [] ys e some all = absurd (omega (arith, some))
head_under k head rest (x ∷ xs) ys e some all = rw (head_is head x rest (xs ++ ys) e) all.0

some_key : (a b : List ℕ) → Some a ≡ Some b → a ≡ b
some_key a b e = cc

next_above : (f : Forest) (k : List ℕ) (y : Entry) (high : Option (List ℕ)) → next f None ≡ Some y.0 → IsUnder k (next f high) → is_below k y.0 ≡ true
next_above no_trees k y high e u = absurd (let bad : None ≡ Some y.0 = e in cc)
next_above (leaf j p es f) k y high e u = subst (λ (x : List ℕ). is_below k x ≡ true) (some_key j y.0 e) u
next_above (inner j p c f) k y high e u = subst (λ (x : List ℕ). is_below k x ≡ true) (some_key j y.0 e) u

second_below : (A : Array) (d : ℕ) (high : Option (List ℕ)) (u : Forest) (x y : Entry) → IsSound A d high u → cells u ≡ x ∷ y ∷ [] → is_below x.0 y.0 ≡ true
second_below A d high no_trees x y s e = absurd (let bad : [] ≡ x ∷ y ∷ [] = e in cc)
second_below A d high (leaf k p es f) x y s e =
    subst (λ (z : Entry). is_below z.0 y.0 ≡ true) (head_is _ x _ (y ∷ []) e) (next_above f k y high (cells_next f y [] (tail_is _ x _ (y ∷ []) e)) s.3)
second_below A d high (inner k p c f) x y s e =
    subst (λ (z : Entry). is_below z.0 y.0 ≡ true) (head_is _ x _ (y ∷ []) e) (next_above f k y high (cells_next f y [] (tail_is _ x _ (y ∷ []) e)) s.3)

pub made_spelled : (A : Array) (d : ℕ) (high : Option (List ℕ)) (f u h : Forest) (k b separator : List ℕ) (made : Option ℕ) (head : Entry) (rest : List Entry) → IsSound A d (Some k) f → IsSound A d (next h high) u
    → cells u ≡ (k, b) ∷ made_cells separator made → cells f ++ ((k, b) ∷ cells h) ≡ head ∷ rest → cells (append f (append u h)) ≡ head ∷ with_made separator made rest
made_spelled A d high f u h k b separator None head rest s t e old =
    cells_append f (append u h) ∙ (ap (λ (xs : List Entry). cells f ++ xs) (cells_append u h ∙ ap (λ (xs : List Entry). xs ++ cells h) e) ∙ old)
made_spelled A d high f u h k b separator (Some made) head rest s t e old =
    let m = four_bytes made in
    let bs = cells f in
    let hs = cells h in
    let c : Entry = (k, b) in
    let order = second_below A d (next h high) u c (separator, m) t e in
    let both : AllUnder (next h high) (c ∷ (separator, m) ∷ []) = subst (λ (ys : List Entry). AllUnder (next h high) ys) e (cells_under A d (next h high) u t) in
    let all : AllUnder (Some separator) (bs ++ (c ∷ [])) = under_append (Some separator) bs (c ∷ []) (under_lt k separator bs order (cells_under A d (Some k) f s)) (order, tt) in
    let now : cells (append f (append u h)) ≡ (bs ++ (c ∷ [])) ++ ((separator, m) ∷ hs) =
    cells_append f (append u h) ∙ (ap (λ (xs : List Entry). bs ++ xs) (cells_append u h ∙ ap (λ (xs : List Entry). xs ++ hs) e) ∙ sym (append_assoc bs (c ∷ []) ((separator, m) ∷ hs))) in
    let was : head ∷ rest ≡ (bs ++ (c ∷ [])) ++ hs = sym old ∙ sym (append_assoc bs (c ∷ []) hs) in
    let below = head_under separator head rest (bs ++ (c ∷ [])) hs was (omega (arith, length-append bs (c ∷ []))) all in
    now ∙ (ap (λ (xs : List Entry). (bs ++ (c ∷ [])) ++ xs) (sym (with_ahead separator m h high both.1.0))
    ∙ (sym (with_right separator separator (irreflexive separator) hs m (bs ++ (c ∷ [])) all) ∙ (ap (λ (xs : List Entry). with_entry separator m xs) (sym was) ∙ with_head separator m head rest below)))

-- where the child of a key stands: first of all
pub record FirstSide (low first : List ℕ) (c : Entry) (cs : List Entry) (key from : List ℕ) (child : ℕ) (before after : Forest) : Type 0 where
  pub none : before ≡ no_trees
  pub low_is : from ≡ low
  pub pair_is : pair_from key first c cs ≡ (four_bytes child, c)
  pub cells_are : cells after ≡ c ∷ cs

-- or after another
pub record LaterSide (low first : List ℕ) (c : Entry) (cs : List Entry) (key from : List ℕ) (child : ℕ) (before after : Forest) : Type 0 where
  pub l : Last before
  pub pair_is : pair_from key first c cs ≡ (four_bytes l.page, (from, four_bytes child))
  pub rest_are : cells before ++ cells after ≡ (low, first) ∷ without from (c ∷ cs)
  pub other : four_bytes child ≢ four_bytes l.page

module _ (A : Array) (page d : ℕ) (low : List ℕ) (high : Option (List ℕ)) (key : List ℕ) (child : ℕ) (first : List ℕ) (c : Entry) (cs : List Entry) (from : List ℕ) (before after : Forest) (a : IsAround A page d low high key child first (c ∷ cs) from before after) where
  first_side : before ≡ no_trees → FirstSide low first c cs key from child before after
  first_side gone =
      let at : Entry = (from, four_bytes child) in
      let e : at ∷ cells after ≡ (low, first) ∷ c ∷ cs = ap (λ (x : Forest). cells x ++ (at ∷ cells after)) (sym gone) ∙ a.spelled in
      let one : at ≡ (low, first) = head_is at (low, first) (cells after) (c ∷ cs) e in
      let two : cells after ≡ c ∷ cs = tail_is at (low, first) (cells after) (c ∷ cs) e in
      let lt : is_below key c.0 ≡ true = subst (λ (o : Option (List ℕ)). IsUnder key o) (next_front after high c cs two) a.ends in
      let all : AllFrom c.0 (c ∷ cs) = subst (λ (xs : List Entry). AllFrom c.0 xs) two (cells_from A d high after c.0 a.after_sound (cells_next after c cs two)) in
      record {
        none = gone;
        low_is = ap (λ (x : Entry). x.0) one;
        pair_is = pair_first key first c cs lt all.1 ∙ ap (λ (x : List ℕ). (x, c)) (sym (ap (λ (x : Entry). x.1) one));
        cells_are = two;
      }

  later_side : Numbered A → child < 4294967296 → Last before → LaterSide low first c cs key from child before after
  later_side numbered small l =
      let at : Entry = (from, four_bytes child) in
      let y : Entry = (l.key, four_bytes l.page) in
      let hs = cells after in
      let ends : cells before ≡ cells l.init ++ (y ∷ []) = ap (λ (x : Forest). cells x) l.whole ∙ (cells_append l.init l.tree ∙ ap (λ (xs : List Entry). cells l.init ++ xs) l.top) in
      let e : (low, first) ∷ c ∷ cs ≡ cells l.init ++ (y ∷ at ∷ hs) = sym a.spelled ∙ (ap (λ (xs : List Entry). xs ++ (at ∷ hs)) ends ∙ append_assoc (cells l.init) (y ∷ []) (at ∷ hs)) in
      let under : AllUnder (Some from) (cells before) = cells_under A d (Some from) before a.before_sound in
      let to : AllTo key (cells l.init ++ (y ∷ at ∷ [])) = subst (λ (xs : List Entry). AllTo key xs) (ap (λ (xs : List Entry). xs ++ (at ∷ [])) ends ∙ append_assoc (cells l.init) (y ∷ []) (at ∷ []))
      (to_append key (cells before) (at ∷ []) (all_to key from (cells before) a.reaches under) (a.reaches, tt)) in
      let some : 0 < length (cells before) = let long = ap (λ (xs : List Entry). length xs) ends in omega (arith, long, length-append (cells l.init) (y ∷ [])) in
      record {
        l = l;
        pair_is = pair_later key (low, first) c cs (cells l.init) y at hs e to (pair_stop key y.1 at hs high after refl a.ends);
        rest_are = sym (without_mid from (four_bytes child) (cells before) hs under) ∙ (ap (λ (xs : List Entry). without from xs) a.spelled
            ∙ without_head from (low, first) (c ∷ cs) (head_under from (low, first) (c ∷ cs) (cells before) (at ∷ hs) (sym a.spelled) some under));
        other = λ same.
            let meets : Meets l.page before = subst (λ (x : Forest). Meets l.page x) (sym l.whole) (meets_right l.page l.init l.tree l.met) in
            let page_is : child ≡ l.page = page_same child l.page small (let less = numbered l.page (in_use A d (Some from) before a.before_sound l.page meets) in omega (arith, less)) same in
            a.child_apart (meets_left child before after (subst (λ (n : ℕ). Meets n before) (sym page_is) meets));
      }

  pub sides : Numbered A → child < 4294967296 → FirstSide low first c cs key from child before after ⊎ LaterSide low first c cs key from child before after
  sides numbered small = ⊎_elim (λ gone. inl (first_side gone)) (λ l. inr (later_side numbered small l)) (last before)

  -- which of the two the pair tells
  pub side_first : Numbered A → child < 4294967296 → (pair_from key first c cs).0 ≡ four_bytes child → FirstSide low first c cs key from child before after
  side_first numbered small e = ⊎_elim (λ f. f) (λ l. absurd (l.other (sym e ∙ ap (λ (p : List ℕ × Entry). p.0) l.pair_is))) (sides numbered small)

  pub side_later : Numbered A → child < 4294967296 → ((pair_from key first c cs).0 ≡ four_bytes child → ⊥) → LaterSide low first c cs key from child before after
  side_later numbered small not = ⊎_elim (λ f. absurd (not (ap (λ (p : List ℕ × Entry). p.0) f.pair_is))) (λ l. l) (sides numbered small)
