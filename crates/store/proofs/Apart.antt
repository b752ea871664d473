-- Changes from whose end some are taken, and to whose end others are put.
use Rattle.std.proofs.Common.{◌≡◌, ℕ, zero, suc, ◌<◌, ◌≤◌, Bool, true, false, if◌then◌else◌, ◌⊎◌, inl, inr, List, [], ◌∷◌, ◌++◌, Option, Some, None, length, get_or, set, take, refl, sym, ap, subst, ◌∙◌, arith}
use Rattle.std.specs.Prelude.{IfNone}
use Rattle.std.specs.List.{AllByRecursion}
use Rattle.std.proofs.lemmas.List.{append_assoc, append-nil, length-append}
use Rattle.std.proofs.lemmas.Slice.Eq.{bytes_eq-Decides}
use Rattle.std.specs.declared.cmp.Ordering.TheVariants.{Less, Equal, Greater}
use Rattle.std.specs.declared.cmp.Ordering.{Ordering}
use Rattle.std.specs.Ordering.{is_lt}
use Rattle.store.specs.Place.{IsPlace, has_key_at}
use Rattle.store.specs.Records.{Changes, Records, key_cmp, IsBefore, IsChangeSize, IsOrdered, entry_at, entry_of, found_by, lookup}
use Rattle.store.specs.Batch.{IsBatch, all_changes}
use Rattle.store.specs.Pieces.{AreFilled, AreLess, BeginWith, IsHome, IsSpot, ends_before, puts}
use Rattle.store.proofs.Changes.{after, before_trans, itself}
use Rattle.store.proofs.Turns.{end_ordered}
use Rattle.store.proofs.InOrder.{before_start, place_at_start, start_ordered}
use Rattle.store.proofs.Spots.{spot_made}
use Rattle.store.proofs.InPieces.{ArePieces, all_changes-append, all_lesser, before_end, before_rest, ends_less, lesser_pieces, piece_ordered, set_itself}
use Rattle.store.proofs.Counting.{IsRecounted, few_counted, puts-append}

-- ---- the last change

-- the last piece without its last changes
pub last_shorter : (ps : List Changes) (at : ℕ) (d p tail : Changes) → suc at ≡ length ps → get_or ps at d ≡ p ++ tail → all_changes ps ≡ all_changes (set ps at p) ++ tail
last_shorter [] at d p tail all is = absurd (omega (arith, all))
last_shorter (x ∷ []) zero d p tail all is = append-nil x ∙ is ∙ ap (λ (es : Changes). es ++ tail) (sym (append-nil p))
last_shorter (x ∷ y ∷ ps) zero d p tail all is = absurd (omega (arith, all))
last_shorter (x ∷ ps) (suc at) d p tail all is = ap (λ (es : Changes). x ++ es) (last_shorter ps at d p tail (omega (arith, all)) is) ∙ sym (append_assoc x (all_changes (set ps at p)) tail)

-- the pieces before the last, where that has no change
pub none_in_last : (ps : List Changes) (at : ℕ) → suc at ≡ length ps → all_changes (set ps at []) ≡ all_changes (take at ps)
none_in_last [] at all = absurd (omega (arith, all))
none_in_last (x ∷ []) zero all = refl
none_in_last (x ∷ y ∷ ps) zero all = absurd (omega (arith, all))
none_in_last (x ∷ ps) (suc at) all = ap (λ (es : Changes). x ++ es) (none_in_last ps at (omega (arith, all)))

taken_set : (ps : List Changes) (at : ℕ) (p : Changes) → take at (set ps at p) ≡ take at ps
taken_set [] at p = refl
taken_set (x ∷ ps) zero p = refl
taken_set (x ∷ ps) (suc at) p = ap (λ (qs : List Changes). x ∷ qs) (taken_set ps at p)

filled_taken : (n : ℕ) (ps : List Changes) → AreFilled ps → AreFilled (take n ps)
filled_taken zero ps f = tt
filled_taken (suc n) [] f = tt
filled_taken (suc n) (p ∷ ps) f = (f.0, filled_taken n ps f.1)

filled_set : (ps : List Changes) (at : ℕ) (p : Changes) → AreFilled ps → 1 ≤ length p → AreFilled (set ps at p)
filled_set [] at p f some = tt
filled_set (x ∷ ps) zero p f some = (some, f.1)
filled_set (x ∷ ps) (suc at) p f some = (f.0, filled_set ps at p f.1 some)

not_none : (p : Changes) → (p ≡ [] → ⊥) → 1 ≤ length p
not_none [] some = absurd (some refl)
not_none (c ∷ p) some = omega arith

-- a last piece that has changes still
pub some_in_last : (ps : List Changes) (at : ℕ) (old new tail : Changes) → IsOrdered (all_changes ps) → AreFilled ps → suc at ≡ length ps → old ≡ get_or ps at old → old ≡ new ++ tail → (new ≡ [] → ⊥)
    → ArePieces (set ps at new) × (all_changes ps ≡ all_changes (set ps at new) ++ tail)
some_in_last ps at old new tail o f all seen is some =
    let same = last_shorter ps at old new tail all (sym seen ∙ is) in (
      record {
        ordered = start_ordered (all_changes (set ps at new)) tail (subst (λ (es : Changes). IsOrdered es) same o);
        filled = filled_set ps at new f (not_none new some);
      },
      same,
    )

-- the last piece has a change
pub last_filled : (ps : List Changes) (at : ℕ) (old : Changes) → AreFilled ps → suc at ≡ length ps → old ≡ get_or ps at old → old ≡ [] → ⊥
last_filled [] at old f all seen none = absurd (omega (arith, all))
last_filled (x ∷ []) zero old f all seen none = let filled : 1 ≤ length x = f.0 in let empty : length x ≡ 0 = ap (λ (es : Changes). length es) (sym seen ∙ none) in absurd (omega (arith, filled, empty))
last_filled (x ∷ y ∷ ps) zero old f all seen none = absurd (omega (arith, all))
last_filled (x ∷ ps) (suc at) old f all seen none = last_filled ps at old f.1 (omega (arith, all)) seen none

pub never_none : {X P : Type 0} (Q : Type 0) (r : Option X) → IfNone r P → (P → ⊥) → IfNone r Q
never_none Q None is never = absurd (never is)
never_none Q (Some x) is never = tt

-- and one that has none, which goes
pub last_gone : (ps left : List Changes) (at : ℕ) (old new tail : Changes) → IsOrdered (all_changes ps) → AreFilled ps → suc at ≡ length ps → old ≡ get_or ps at old → old ≡ new ++ tail → new ≡ [] → left ≡ take at (set ps at new)
    → ArePieces left × (all_changes ps ≡ all_changes left ++ tail)
last_gone ps left at old new tail o f all seen is none gone =
    let kept : left ≡ take at ps = gone ∙ taken_set ps at new in
    let same : all_changes ps ≡ all_changes left ++ tail =
    last_shorter ps at old new tail all (sym seen ∙ is)
    ∙ ap (λ (p : Changes). all_changes (set ps at p) ++ tail) none
    ∙ ap (λ (es : Changes). es ++ tail) (none_in_last ps at all ∙ sym (ap all_changes kept)) in (
      record {
        ordered = start_ordered (all_changes left) tail (subst (λ (es : Changes). IsOrdered es) same o);
        filled = subst (λ (qs : List Changes). AreFilled qs) (sym kept) (filled_taken at ps f);
      },
      same,
    )

sizes_start : (xs ys : Changes) → AllByRecursion IsChangeSize (xs ++ ys) → AllByRecursion IsChangeSize xs
sizes_start [] ys sizes = tt
sizes_start (x ∷ xs) ys sizes = (sizes.0, sizes_start xs ys sizes.1)

-- a batch without its last changes
pub batch_start : (cs left tail : Changes) → cs ≡ left ++ tail → IsBatch cs → IsBatch left
batch_start cs left tail is b = record {
  ordered = start_ordered left tail (subst (λ (es : Changes). IsOrdered es) is b.ordered);
  sizes = sizes_start left tail (subst (λ (es : Changes). AllByRecursion IsChangeSize es) is b.sizes);
}

-- ---- behind all others

before_both : (key : List ℕ) (xs ys : Changes) → IsBefore key xs → IsBefore key ys → IsBefore key (xs ++ ys)
before_both key [] ys x y = y
before_both key (e ∷ xs) ys x y = (x.0, before_both key xs ys x.1 y)

first_before : (key k : List ℕ) (cs : Changes) → key_cmp key k ≡ Less → BeginWith k cs → IsOrdered cs → IsBefore key cs
first_before key k [] less first o = tt
first_before key k (c ∷ cs) less first o =
    let before : key_cmp key c.0 ≡ Less = subst (λ (x : List ℕ). key_cmp key x ≡ Less) (sym first) less in
    (before, before_trans key c.0 cs before o.0)

pub joined_ordered : (key : List ℕ) (es cs : Changes) → IsOrdered es → IsOrdered cs → AreLess key es → BeginWith key cs → IsOrdered (es ++ cs)
joined_ordered key [] cs e o less first = o
joined_ordered key (x ∷ es) cs e o less first = (before_both x.0 es cs e.0 (first_before x.0 key cs less.0 first o), joined_ordered key es cs e.1 o less.1 first)

pub filled_both : (ps qs : List Changes) → AreFilled ps → AreFilled qs → AreFilled (ps ++ qs)
filled_both [] qs p q = q
filled_both (x ∷ ps) qs p q = (p.0, filled_both ps qs p.1 q)

-- later changes are counted beside those that are there
pub recounted_both : (es new cs : Changes) (count more : ℕ) → new ≡ es ++ cs → count ≡ length (puts es) → more ≡ length (puts cs) → IsRecounted count 0 more (length new) new
recounted_both es new cs count more made counted more_is =
    let both = ap (λ (xs : Changes). length (puts xs)) made ∙ ap (λ (xs : Records). length xs) (puts-append es cs) ∙ length-append (puts es) (puts cs) in
    let few = few_counted new in
    record { there = omega arith; exact = omega (arith, counted, more_is, both); few = omega (arith, counted, more_is, both, few) }

-- pieces that come behind all others
pub pieces_behind : (ps qs : List Changes) (b : Bool) → IsOrdered (all_changes ps) → AreFilled ps → IsOrdered (all_changes ps ++ all_changes qs) → AreFilled qs → ArePieces (if b then ps ++ qs else ps)
pieces_behind ps qs false o f rising filled = record { ordered = o; filled = f }
pieces_behind ps qs true o f rising filled = record {
  ordered = subst (λ (es : Changes). IsOrdered es) (sym (all_changes-append ps qs)) rising;
  filled = filled_both ps qs f filled;
}

-- pieces that are moved away, or stay
pub pieces_left : (qs : List Changes) (b : Bool) → IsOrdered (all_changes qs) → AreFilled qs → ArePieces (if b then [] else qs)
pieces_left qs true o f = record { ordered = tt; filled = tt }
pieces_left qs false o f = record { ordered = o; filled = f }

-- the only piece
pub only_piece : (qs : List Changes) (p : Changes) → length qs ≡ 1 → p ≡ get_or qs 0 p → all_changes qs ≡ p
only_piece [] p one is = absurd (omega (arith, one))
only_piece (q ∷ []) p one is = append-nil q ∙ sym is
only_piece (q ∷ r ∷ qs) p one is = absurd (omega (arith, one))

-- the last piece has more changes
pub last_longer : (ps : List Changes) (at : ℕ) (d p : Changes) → suc at ≡ length ps → all_changes (set ps at (get_or ps at d ++ p)) ≡ all_changes ps ++ p
last_longer [] at d p is = absurd (omega (arith, is))
last_longer (x ∷ []) zero d p is = append-nil (x ++ p) ∙ ap (λ (es : Changes). es ++ p) (sym (append-nil x))
last_longer (x ∷ y ∷ ps) zero d p is = absurd (omega (arith, is))
last_longer (x ∷ ps) (suc at) d p is = ap (λ (es : Changes). x ++ es) (last_longer ps at d p (omega (arith, is))) ∙ sym (append_assoc x (all_changes ps) p)

pub longer_filled : (ps : List Changes) (at : ℕ) (d p : Changes) → AreFilled ps → AreFilled (set ps at (get_or ps at d ++ p))
longer_filled [] at d p f = f
longer_filled ((e ∷ x) ∷ ps) zero d p f = (omega arith, f.1)
longer_filled ([] ∷ ps) zero d p f = absurd (omega (arith, f.0))
longer_filled (x ∷ ps) (suc at) d p f = (f.0, longer_filled ps at d p f.1)

both : (key : List ℕ) (xs ys : Changes) → AreLess key xs → AreLess key ys → AreLess key (xs ++ ys)
both key [] ys a b = b
both key (x ∷ xs) ys a b = (a.0, both key xs ys a.1 b)

-- all changes come before a key that the last piece ends before
pub ends_all : (key : List ℕ) (at : ℕ) (ps : List Changes) (d : Changes) → IsOrdered (all_changes ps) → AreFilled ps → suc at ≡ length ps → ends_before key (get_or ps at d) ≡ true → AreLess key (all_changes ps)
ends_all key at [] d o f is ends = tt
ends_all key zero (x ∷ []) d o f is ends =
    both key x [] (ends_less key x (start_ordered x [] o) ends) tt
ends_all key zero (x ∷ y ∷ ps) d o f is ends = absurd (omega (arith, is))
ends_all key (suc at) (x ∷ ps) d o f is ends =
    let rest : suc at ≡ length ps = omega (arith, is) in
    let inside : at < length ps = omega (arith, rest) in
    both key x (all_changes ps)
    (all_lesser key x (all_changes ps) (before_rest x (all_changes ps) o) (λ k b. lesser_pieces key ps at d (end_ordered x (all_changes ps) o) f.1 inside ends k b))
    (ends_all key at ps d (end_ordered x (all_changes ps) o) f.1 rest ends)

-- ---- a place at which the key's change stands

before_there : (k key : List ℕ) (at : ℕ) (es : Changes) → IsBefore k es → has_key_at key at es ≡ true → key_cmp k key ≡ Less
before_there k key at [] b there = cc
before_there k key zero (e ∷ es) b there = subst (λ (x : List ℕ). key_cmp k x ≡ Less) ((bytes_eq-Decides e.0 key).0 there) b.0
before_there k key (suc at) (e ∷ es) b there = before_there k key at es b.1 there

place_there : (key : List ℕ) (at : ℕ) (es : Changes) → IsOrdered es → has_key_at key at es ≡ true → IsPlace key at es
place_there key at [] o there = cc
place_there key zero (e ∷ es) o there =
    let same : key_cmp e.0 key ≡ Equal = subst (λ (x : List ℕ). key_cmp e.0 x ≡ Equal) ((bytes_eq-Decides e.0 key).0 there) (itself e.0) in
    place_at_start key (e ∷ es) o (ap is_lt same)
place_there key (suc at) (e ∷ es) o there = (before_there e.0 key at es o.0 there, place_there key at es o.1 there)

there_before : (key : List ℕ) (at : ℕ) (p rest : Changes) → AllByRecursion (λ e. IsBefore e.0 rest) p → has_key_at key at p ≡ true → IsBefore key rest
there_before key at [] rest b there = cc
there_before key zero (e ∷ p) rest b there = subst (λ (x : List ℕ). IsBefore x rest) ((bytes_eq-Decides e.0 key).0 there) b.0
there_before key (suc at) (e ∷ p) rest b there = there_before key at p rest b.1 there

before_piece : (k : List ℕ) (ps : List Changes) (at : ℕ) (d : Changes) → at < length ps → IsBefore k (all_changes ps) → IsBefore k (get_or ps at d)
before_piece k [] at d inside b = absurd (omega arith)
before_piece k (p ∷ ps) zero d inside b = before_start k p (all_changes ps) b
before_piece k (p ∷ ps) (suc at) d inside b = before_piece k ps at d (omega arith) (before_end k p (all_changes ps) b)

home_there : (key : List ℕ) (piece at : ℕ) (ps : List Changes) (d : Changes) → IsOrdered (all_changes ps) → piece < length ps → has_key_at key at (get_or ps piece d) ≡ true → IsHome key piece ps
home_there key piece at [] d o inside there = absurd (omega arith)
home_there key zero at (p ∷ ps) d o inside there = there_before key at p (all_changes ps) (before_rest p (all_changes ps) o) there
home_there key (suc piece) at (p ∷ ps) d o inside there = (
  all_lesser key p (all_changes ps) (before_rest p (all_changes ps) o) (λ k b. before_there k key at (get_or ps piece d) (before_piece k ps piece d (omega arith) b) there),
  home_there key piece at ps d (end_ordered p (all_changes ps) o) (omega arith) there,
)

pub spot_at : (key : List ℕ) (piece at : ℕ) (ps : List Changes) (d : Changes) → IsOrdered (all_changes ps) → piece < length ps → has_key_at key at (get_or ps piece d) ≡ true → IsSpot key piece at ps
spot_at key piece at ps d o inside there =
    spot_made key piece at ps d (home_there key piece at ps d o inside there) inside (place_there key at (get_or ps piece d) (piece_ordered ps piece d o inside) there)

-- the last piece has more changes, or is as it was
pub longer_pieces : (ps : List Changes) (at : ℕ) (old new p : Changes) → IsOrdered (all_changes ps) → AreFilled ps → suc at ≡ length ps → IsOrdered (all_changes ps ++ p) → old ≡ get_or ps at old → (new ≡ old ++ p) ⊎ (new ≡ old) → ArePieces (set ps at new)
longer_pieces ps at old new p o f is rising seen (inl made) =
    let same : new ≡ get_or ps at old ++ p = made ∙ ap (λ (x : Changes). x ++ p) seen in
    record {
      ordered = subst (λ (x : Changes). IsOrdered (all_changes (set ps at x))) (sym same) (subst (λ (es : Changes). IsOrdered es) (sym (last_longer ps at old p is)) rising);
      filled = subst (λ (x : Changes). AreFilled (set ps at x)) (sym same) (longer_filled ps at old p f);
    }
longer_pieces ps at old new p o f is rising seen (inr same) =
    let inside : at < length ps = omega (arith, is) in
    let all : set ps at new ≡ ps = ap (set ps at) (same ∙ seen) ∙ set_itself ps at old inside in
    record { ordered = subst (λ (qs : List Changes). IsOrdered (all_changes qs)) (sym all) o; filled = subst (λ (qs : List Changes). AreFilled qs) (sym all) f }

pub longer_same : (ps : List Changes) (at : ℕ) (old new p : Changes) → suc at ≡ length ps → old ≡ get_or ps at old → new ≡ old ++ p → all_changes (set ps at new) ≡ all_changes ps ++ p
longer_same ps at old new p is seen made =
    ap (λ (x : Changes). all_changes (set ps at x)) (made ∙ ap (λ (x : Changes). x ++ p) seen) ∙ last_longer ps at old p is

-- a key behind all changes has none
pub none_behind : (key : List ℕ) (cs : Changes) → AreLess key cs → entry_at key cs ≡ None
none_behind key cs less = ap (entry_of key) (go cs less)
  where
    passed : (r : Ordering) (key k : List ℕ) (v : Option (List ℕ)) (later : Option (Option (List ℕ))) → r ≡ key_cmp key k → key_cmp k key ≡ Less → later ≡ None → found_by r v later ≡ None
    passed Less key k v later is less none = none
    passed Equal key k v later is less none = let wrong : Equal ≡ Greater = is ∙ after k key less in cc
    passed Greater key k v later is less none = none

    go : (es : Changes) → AreLess key es → lookup key es ≡ None
    go [] less = refl
    go (e ∷ es) less = passed (key_cmp key e.0) key e.0 e.1 (lookup key es) refl less.0 (go es less.1)
