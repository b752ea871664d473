-- Where a stop stands among changes in pieces.
use Rattle.std.proofs.Common.{◌≡◌, ℕ, zero, suc, ◌-◌, ◌<◌, ◌≤◌, Bool, true, false, List, [], ◌∷◌, Option, Some, refl, ap, sym, ◌∙◌, subst, inl, inr, arith, length, get_or, slice_get}
use Rattle.std.specs.List.{AllByRecursion}
use Rattle.std.specs.List.Sorted.{IsPartitionPoint, IsPartitionedBy}
use Rattle.std.proofs.lemmas.Bool.{cases_lt}
use Rattle.std.specs.declared.cmp.Ordering.TheVariants.{Less}
use Rattle.store.specs.Records.{Entries, Changes, key_cmp, IsBefore, IsOrdered}
use Rattle.store.specs.Batch.{all_changes}
use Rattle.store.specs.Place.{IsStopPlace}
use Rattle.store.specs.Pieces.{AreFilled, last_of, ends_within, IsStopIndex}
use Rattle.store.specs.Walks.{is_within}
use Rattle.store.proofs.InOrder.{start_ordered}
use Rattle.store.proofs.InPieces.{before_end, before_rest, last_there}
use Rattle.store.proofs.Places.{rising}
use Rattle.store.proofs.Turns.{end_ordered}
use Rattle.store.proofs.Walking.{stays_past}

-- before a key that is within the stop all are
earlier_within : (stop k e : List ℕ) → key_cmp k e ≡ Less → is_within stop e ≡ true → is_within stop k ≡ true
earlier_within stop k e less h = go (is_within stop k) refl
  where
    go : (b : Bool) → b ≡ is_within stop k → is_within stop k ≡ true
    go true c = sym c
    go false c = let wrong : is_within stop e ≡ false = stays_past stop k e (sym c) less in cc

-- ---- in one list

-- whether an entry is within the stop
abbrev pub is_in : {X : Type 0} → List ℕ → List ℕ × X → Bool
is_in stop e = is_within stop e.0

-- a search for the stop ends at its place
pub stop_parted : {X : Type 0} (stop : List ℕ) (es : Entries X) → IsOrdered es → IsPartitionedBy (is_in stop) es
stop_parted {X} stop es o i j d le inside within = elim (cases_lt i j) [
  | inl lt ↦ earlier_within stop (get_or es i d).0 (get_or es j d).0 (rising es i j d o lt inside) within
  | inr from ↦ let same : j ≡ i = omega (arith, from, le) in subst (λ (k : ℕ). is_in stop (get_or es k d) ≡ true) same within
]

none_in : {X : Type 0} (stop : List ℕ) (es : Entries X) → ((k : ℕ) (d : List ℕ × X) → k < length es → is_in stop (get_or es k d) ≡ false) → AllByRecursion (λ e. is_within stop e.0 ≡ false) es
none_in stop [] h = tt
none_in stop (e ∷ es) h = (h 0 e (omega arith), none_in stop es (λ k d lt. h (suc k) d (omega arith)))

pub is_stop_place : {X : Type 0} (stop : List ℕ) (at : ℕ) (es : Entries X) → at ≤ length es → IsPartitionPoint (λ e. is_in stop e ≡ true) (λ e. is_in stop e ≡ false) es at → IsStopPlace stop at es
is_stop_place stop zero es inside point = none_in stop es (λ k d lt. point.1 k d (omega arith) lt)
is_stop_place stop (suc at) [] inside point = absurd (omega arith)
is_stop_place stop (suc at) (e ∷ es) inside point = (
  point.0 0 e (omega arith) (omega arith),
  is_stop_place stop at es (omega arith) (λ k d le lt. point.0 (suc k) d (omega arith) (omega arith), λ k d le lt. point.1 (suc k) d (omega arith) (omega arith)),
)

-- ---- in pieces

-- whether a piece ends within the stop, by what stands at its end
pub within_by_last : (stop : List ℕ) (p : Changes) (e : List ℕ × Option (List ℕ)) → slice_get p (length p - 1) ≡ Some e → ends_within stop p ≡ is_within stop e.0
within_by_last stop [] e h = cc
within_by_last stop (f ∷ es) e h =
    let there : slice_get (f ∷ es) (length es) ≡ Some e = subst (λ (n : ℕ). slice_get (f ∷ es) n ≡ Some e) (omega arith) h in
    let same : Some (last_of f es) ≡ Some e = sym (last_there f es) ∙ there in
    let is : last_of f es ≡ e = cc in
    ap (λ (x : List ℕ × Option (List ℕ)). is_within stop x.0) is

last_before_all : (stop : List ℕ) (e : List ℕ × Option (List ℕ)) (es : Changes) → AllByRecursion (λ x. is_within stop x.0 ≡ true) (e ∷ es) → is_within stop (last_of e es).0 ≡ true
last_before_all stop e [] all = all.0
last_before_all stop e (f ∷ es) all = last_before_all stop f es all.1

-- all keys of a piece that ends within the stop are within it
pub all_in : (stop : List ℕ) (p : Changes) → IsOrdered p → ends_within stop p ≡ true → AllByRecursion (λ e. is_within stop e.0 ≡ true) p
all_in stop [] o h = tt
all_in stop (e ∷ []) o h = (h, tt)
all_in stop (e ∷ f ∷ es) o h = let rest = all_in stop (f ∷ es) o.1 h in (earlier_within stop e.0 f.0 o.0.0 rest.0, rest)

in_ends : (stop : List ℕ) (p : Changes) → 1 ≤ length p → AllByRecursion (λ e. is_within stop e.0 ≡ true) p → ends_within stop p ≡ true
in_ends stop [] f all = absurd (omega (arith, f))
in_ends stop (e ∷ es) f all = last_before_all stop e es all

all_earlier : (stop : List ℕ) (p rest : Changes) → AllByRecursion (λ e. IsBefore e.0 rest) p → ((k : List ℕ) → IsBefore k rest → is_within stop k ≡ true) → AllByRecursion (λ e. is_within stop e.0 ≡ true) p
all_earlier stop [] rest b h = tt
all_earlier stop (e ∷ p) rest b h = (h e.0 b.0, all_earlier stop p rest b.1 h)

-- what comes before all pieces, one of which ends within the stop, is within it
earlier_pieces : (stop : List ℕ) (ps : List Changes) (j : ℕ) (d : Changes) → IsOrdered (all_changes ps) → AreFilled ps → j < length ps → ends_within stop (get_or ps j d) ≡ true → (k : List ℕ) → IsBefore k (all_changes ps) → is_within stop k ≡ true
earlier_pieces stop [] j d o f inside ends k b = absurd (omega arith)
earlier_pieces stop ([] ∷ ps) zero d o f inside ends k b = absurd (omega (arith, f.0))
earlier_pieces stop ((e ∷ es) ∷ ps) zero d o f inside ends k b = earlier_within stop k e.0 b.0 (all_in stop (e ∷ es) (start_ordered (e ∷ es) (all_changes ps) o) ends).0
earlier_pieces stop (p ∷ ps) (suc j) d o f inside ends k b = earlier_pieces stop ps j d (end_ordered p (all_changes ps) o) f.1 (omega arith) ends k (before_end k p (all_changes ps) b)

-- a search for the stop ends at its index
pub stops_parted : (stop : List ℕ) (ps : List Changes) → IsOrdered (all_changes ps) → AreFilled ps → IsPartitionedBy (ends_within stop) ps
stops_parted stop [] o f i j d le inside ends = absurd (omega arith)
stops_parted stop (p ∷ ps) o f zero zero d le inside ends = ends
stops_parted stop (p ∷ ps) o f zero (suc j) d le inside ends =
    in_ends stop p f.0 (all_earlier stop p (all_changes ps) (before_rest p (all_changes ps) o) (λ k b. earlier_pieces stop ps j d (end_ordered p (all_changes ps) o) f.1 (omega arith) ends k b))
stops_parted stop (p ∷ ps) o f (suc i) zero d le inside ends = absurd (omega arith)
stops_parted stop (p ∷ ps) o f (suc i) (suc j) d le inside ends = stops_parted stop ps (end_ordered p (all_changes ps) o) f.1 i j d (omega arith) (omega arith) ends

none_ends : (stop : List ℕ) (ps : List Changes) → ((k : ℕ) (d : Changes) → k < length ps → ends_within stop (get_or ps k d) ≡ false) → AllByRecursion (λ p. ends_within stop p ≡ false) ps
none_ends stop [] h = tt
none_ends stop (p ∷ ps) h = (h 0 p (omega arith), none_ends stop ps (λ k d lt. h (suc k) d (omega arith)))

pub is_stop_index : (stop : List ℕ) (at : ℕ) (ps : List Changes) → at ≤ length ps → IsPartitionPoint (λ p. ends_within stop p ≡ true) (λ p. ends_within stop p ≡ false) ps at → IsStopIndex stop at ps
is_stop_index stop zero ps inside point = none_ends stop ps (λ k d lt. point.1 k d (omega arith) lt)
is_stop_index stop (suc at) [] inside point = absurd (omega arith)
is_stop_index stop (suc at) (p ∷ ps) inside point = (
  point.0 0 p (omega arith) (omega arith),
  is_stop_index stop at ps (omega arith) (λ k d le lt. point.0 (suc k) d (omega arith) (omega arith), λ k d le lt. point.1 (suc k) d (omega arith) (omega arith)),
)

-- a piece before the index ends within the stop
pub ends_in : (stop : List ℕ) (at i : ℕ) (ps : List Changes) (d : Changes) → IsStopIndex stop at ps → i < at → ends_within stop (get_or ps i d) ≡ true
ends_in stop zero i ps d is lt = absurd (omega arith)
ends_in stop (suc at) i [] d is lt = absurd is
ends_in stop (suc at) zero (p ∷ ps) d is lt = is.0
ends_in stop (suc at) (suc i) (p ∷ ps) d is lt = ends_in stop at i ps d is.1 (omega arith)

-- and one from the index on does not
pub ends_out : (stop : List ℕ) (at i : ℕ) (ps : List Changes) (d : Changes) → IsStopIndex stop at ps → at ≤ i → i < length ps → ends_within stop (get_or ps i d) ≡ false
ends_out stop at i [] d is le inside = absurd (omega arith)
ends_out stop zero zero (p ∷ ps) d is le inside = is.0
ends_out stop zero (suc i) (p ∷ ps) d is le inside = ends_out stop zero i ps d is.1 (omega arith) (omega arith)
ends_out stop (suc at) zero (p ∷ ps) d is le inside = absurd (omega arith)
ends_out stop (suc at) (suc i) (p ∷ ps) d is le inside = ends_out stop at i ps d is.1 (omega arith) (omega arith)
