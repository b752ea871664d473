-- Changes in pieces: what stands at a key's index, and what an edit there makes of the changes.
use Rattle.std.proofs.Common.{◌≡◌, ℕ, zero, suc, ◌+◌, ◌-◌, ◌/◌, ◌<◌, ◌≤◌, Bool, true, false, if◌then◌else◌, List, [], ◌∷◌, ◌++◌, Option, Some, None, Result, Ok, Err, OnOk, OnErr, IsOk, is_ok, ◌⊎◌, inl, inr, add-one, refl, ap, sym, ◌∙◌, subst, arith, length, get_or, take, drop, set, slice_get}
use Rattle.std.specs.List.{AllByRecursion, insert, remove}
use Rattle.std.specs.List.Sorted.{IsPartitionPoint, IsPartitionedBy}
use Rattle.std.proofs.lemmas.List.{append_assoc, append-nil, take-append-drop, length-take, length-drop, get_or-set_same}
use Rattle.std.specs.declared.cmp.Ordering.{Ordering}
use Rattle.std.specs.declared.cmp.Ordering.TheVariants.{Less, Equal, Greater}
use Rattle.std.specs.Ordering.{is_lt}
use Rattle.store.specs.Records.{Entries, Changes, key_cmp, is_from, is_not_less, IsBefore, IsOrdered, lookup, found_by, entry_at, entry_of, first, first_from, entries_where, with_front, changed, changed_by}
use Rattle.store.specs.Batch.{all_changes}
use Rattle.store.specs.Pieces.{AreFilled, last_of, ends_before, IsIndex, AreLess, IsHome}
use Rattle.store.proofs.Changes.{key_trans, same_key, after, reversed, before_trans, lookup-before, changed_front, ordered_changed}
use Rattle.store.proofs.Places.{less_key, not_less_key}
use Rattle.store.proofs.InOrder.{start_ordered}
use Rattle.store.proofs.Turns.{end_ordered}

-- ---- lists that are joined

pub before_end : {X : Type 0} (key : List ℕ) (xs ys : Entries X) → IsBefore key (xs ++ ys) → IsBefore key ys
before_end key [] ys b = b
before_end key (x ∷ xs) ys b = before_end key xs ys b.1

-- each key of the first part comes before those of the second
pub before_rest : {X : Type 0} (xs ys : Entries X) → IsOrdered (xs ++ ys) → AllByRecursion (λ e. IsBefore e.0 ys) xs
before_rest [] ys o = tt
before_rest (e ∷ xs) ys o = (before_end e.0 xs ys o.0, before_rest xs ys o.1)

pub all_changes-append : (ps qs : List Changes) → all_changes (ps ++ qs) ≡ all_changes ps ++ all_changes qs
all_changes-append [] qs = refl
all_changes-append (p ∷ ps) qs = ap (λ (es : Changes). p ++ es) (all_changes-append ps qs) ∙ sym (append_assoc p (all_changes ps) (all_changes qs))

-- no piece is there where there is no change
pub no_pieces : (ps : List Changes) → AreFilled ps → all_changes ps ≡ [] → ps ≡ []
no_pieces [] f is = refl
no_pieces ([] ∷ ps) f is = absurd (omega (arith, f.0))
no_pieces ((e ∷ p) ∷ ps) f is = cc

-- ---- the last key of a piece

pub last_there : {X : Type 0} (e : X) (es : List X) → slice_get (e ∷ es) (length es) ≡ Some (last_of e es)
last_there e [] = refl
last_there e (f ∷ es) = last_there f es

less_from_last : (key : List ℕ) (e : List ℕ × Option (List ℕ)) (es : Changes) → IsOrdered (e ∷ es) → key_cmp (last_of e es).0 key ≡ Less → AreLess key (e ∷ es)
less_from_last key e [] o l = (l, tt)
less_from_last key e (f ∷ es) o l = let rest = less_from_last key f es o.1 l in (key_trans e.0 f.0 key o.0.0 rest.0, rest)

-- whether a piece ends before a key, by what stands at its end
pub ends_by_last : (key : List ℕ) (p : Changes) (e : List ℕ × Option (List ℕ)) → slice_get p (length p - 1) ≡ Some e → ends_before key p ≡ is_lt (key_cmp e.0 key)
ends_by_last key [] e h = cc
ends_by_last key (f ∷ es) e h =
    let there : slice_get (f ∷ es) (length es) ≡ Some e = subst (λ (n : ℕ). slice_get (f ∷ es) n ≡ Some e) (omega arith) h in
    let same : Some (last_of f es) ≡ Some e = sym (last_there f es) ∙ there in
    let is : last_of f es ≡ e = cc in
    ap (λ (x : List ℕ × Option (List ℕ)). is_lt (key_cmp x.0 key)) is

-- a piece that ends before a key has lesser keys
pub ends_less : (key : List ℕ) (p : Changes) → IsOrdered p → ends_before key p ≡ true → AreLess key p
ends_less key [] o h = tt
ends_less key (e ∷ es) o h = less_from_last key e es o (less_key (key_cmp (last_of e es).0 key) h)

last_less : (key : List ℕ) (e : List ℕ × Option (List ℕ)) (es : Changes) → AreLess key (e ∷ es) → key_cmp (last_of e es).0 key ≡ Less
last_less key e [] all = all.0
last_less key e (f ∷ es) all = last_less key f es all.1

pub less_ends : (key : List ℕ) (p : Changes) → 1 ≤ length p → AreLess key p → ends_before key p ≡ true
less_ends key [] f all = absurd (omega (arith, f))
less_ends key (e ∷ es) f all = ap is_lt (last_less key e es all)

last_before : (e : List ℕ × Option (List ℕ)) (es rest : Changes) → IsOrdered (e ∷ (es ++ rest)) → IsBefore (last_of e es).0 rest
last_before e [] rest o = o.0
last_before e (f ∷ es) rest o = last_before f es rest o.1

-- a key that is not after another comes before what the other comes before
from_before : (key last : List ℕ) (es : Changes) → is_lt (key_cmp last key) ≡ false → IsBefore last es → IsBefore key es
from_before key last es h b = go (key_cmp last key) refl
  where
    go : (r : Ordering) → r ≡ key_cmp last key → IsBefore key es
    go Less c = let wrong : true ≡ false = ap is_lt c ∙ h in cc
    go Equal c = subst (λ (k : List ℕ). IsBefore k es) (same_key last key (sym c)) b
    go Greater c = before_trans key last es (reversed last key (sym c)) b

-- what is behind a piece that does not end before a key is behind the key
pub behind_piece : (key : List ℕ) (p rest : Changes) → 1 ≤ length p → ends_before key p ≡ false → IsOrdered (p ++ rest) → IsBefore key rest
behind_piece key [] rest f h o = absurd (omega (arith, f))
behind_piece key (e ∷ es) rest f h o = from_before key (last_of e es).0 rest h (last_before e es rest o)

-- ---- the index of a key

pub all_lesser : (key : List ℕ) (p rest : Changes) → AllByRecursion (λ e. IsBefore e.0 rest) p → ((k : List ℕ) → IsBefore k rest → key_cmp k key ≡ Less) → AreLess key p
all_lesser key [] rest b h = tt
all_lesser key (e ∷ p) rest b h = (h e.0 b.0, all_lesser key p rest b.1 h)

-- what comes before all pieces, one of which ends before a key, comes before the key
pub lesser_pieces : (key : List ℕ) (ps : List Changes) (j : ℕ) (d : Changes) → IsOrdered (all_changes ps) → AreFilled ps → j < length ps → ends_before key (get_or ps j d) ≡ true → (k : List ℕ) → IsBefore k (all_changes ps) → key_cmp k key ≡ Less
lesser_pieces key [] j d o f inside ends k b = absurd (omega arith)
lesser_pieces key ([] ∷ ps) zero d o f inside ends k b = absurd (omega (arith, f.0))
lesser_pieces key ((e ∷ es) ∷ ps) zero d o f inside ends k b = key_trans k e.0 key b.0 (ends_less key (e ∷ es) (start_ordered (e ∷ es) (all_changes ps) o) ends).0
lesser_pieces key (p ∷ ps) (suc j) d o f inside ends k b = lesser_pieces key ps j d (end_ordered p (all_changes ps) o) f.1 (omega arith) ends k (before_end k p (all_changes ps) b)

-- a search for the key ends at its index
pub pieces_parted : (key : List ℕ) (ps : List Changes) → IsOrdered (all_changes ps) → AreFilled ps → IsPartitionedBy (ends_before key) ps
pieces_parted key [] o f i j d le inside ends = absurd (omega arith)
pieces_parted key (p ∷ ps) o f zero zero d le inside ends = ends
pieces_parted key (p ∷ ps) o f zero (suc j) d le inside ends =
    less_ends key p f.0 (all_lesser key p (all_changes ps) (before_rest p (all_changes ps) o) (λ k b. lesser_pieces key ps j d (end_ordered p (all_changes ps) o) f.1 (omega arith) ends k b))
pieces_parted key (p ∷ ps) o f (suc i) zero d le inside ends = absurd (omega arith)
pieces_parted key (p ∷ ps) o f (suc i) (suc j) d le inside ends = pieces_parted key ps (end_ordered p (all_changes ps) o) f.1 i j d (omega arith) (omega arith) ends

none_ends : (key : List ℕ) (ps : List Changes) → ((k : ℕ) (d : Changes) → k < length ps → ends_before key (get_or ps k d) ≡ false) → AllByRecursion (λ p. ends_before key p ≡ false) ps
none_ends key [] h = tt
none_ends key (p ∷ ps) h = (h 0 p (omega arith), none_ends key ps (λ k d lt. h (suc k) d (omega arith)))

pub is_index : (key : List ℕ) (at : ℕ) (ps : List Changes) → at ≤ length ps → IsPartitionPoint (λ p. ends_before key p ≡ true) (λ p. ends_before key p ≡ false) ps at → IsIndex key at ps
is_index key zero ps inside point = none_ends key ps (λ k d lt. point.1 k d (omega arith) lt)
is_index key (suc at) [] inside point = absurd (omega arith)
is_index key (suc at) (p ∷ ps) inside point = (
  point.0 0 p (omega arith) (omega arith),
  is_index key at ps (omega arith) (λ k d le lt. point.0 (suc k) d (omega arith) (omega arith), λ k d le lt. point.1 (suc k) d (omega arith) (omega arith)),
)

-- ---- what is read at the index of a key

lookup-lesser : (key : List ℕ) (p rest : Changes) → AreLess key p → lookup key (p ++ rest) ≡ lookup key rest
lookup-lesser key [] rest all = refl
lookup-lesser key (e ∷ p) rest all = rw (after e.0 key all.0) (lookup-lesser key p rest all.1)

lookup-start : (key : List ℕ) (p rest : Changes) → lookup key rest ≡ None → lookup key (p ++ rest) ≡ lookup key p
lookup-start key [] rest none = none
lookup-start key (e ∷ p) rest none = ap (λ (v : Option (Option (List ℕ))). found_by (key_cmp key e.0) e.1 v) (lookup-start key p rest none)

-- the value of a key is that in the piece at its index
lookup-index : (key : List ℕ) (at : ℕ) (ps : List Changes) (d : Changes) → IsOrdered (all_changes ps) → AreFilled ps → IsIndex key at ps → at < length ps → lookup key (all_changes ps) ≡ lookup key (get_or ps at d)
lookup-index key at [] d o f is inside = absurd (omega arith)
lookup-index key zero (p ∷ ps) d o f is inside = lookup-start key p (all_changes ps) (lookup-before key (all_changes ps) (behind_piece key p (all_changes ps) f.0 is.0 o))
lookup-index key (suc at) (p ∷ ps) d o f is inside =
    lookup-lesser key p (all_changes ps) (ends_less key p (start_ordered p (all_changes ps) o) is.0)
    ∙ lookup-index key at ps d (end_ordered p (all_changes ps) o) f.1 is.1 (omega arith)

pub entry_index : (key : List ℕ) (at : ℕ) (ps : List Changes) (d : Changes) → IsOrdered (all_changes ps) → AreFilled ps → IsIndex key at ps → at < length ps → entry_at key (all_changes ps) ≡ entry_at key (get_or ps at d)
entry_index key at ps d o f is inside = ap (entry_of key) (lookup-index key at ps d o f is inside)

-- past the last piece all keys are less
pub all_less : (key : List ℕ) (at : ℕ) (ps : List Changes) → IsOrdered (all_changes ps) → IsIndex key at ps → length ps ≤ at → AreLess key (all_changes ps)
all_less key at [] o is past = tt
all_less key zero (p ∷ ps) o is past = absurd (omega arith)
all_less key (suc at) (p ∷ ps) o is past =
    both key p (all_changes ps) (ends_less key p (start_ordered p (all_changes ps) o) is.0) (all_less key at ps (end_ordered p (all_changes ps) o) is.1 (omega arith))
  where
    both : (key : List ℕ) (xs ys : Changes) → AreLess key xs → AreLess key ys → AreLess key (xs ++ ys)
    both key [] ys a b = b
    both key (x ∷ xs) ys a b = (a.0, both key xs ys a.1 b)

pub entry_past : (key : List ℕ) (at : ℕ) (ps : List Changes) → IsOrdered (all_changes ps) → IsIndex key at ps → length ps ≤ at → entry_at key (all_changes ps) ≡ None
entry_past key at ps o is past =
    ap (entry_of key) (ap (lookup key) (sym (append-nil (all_changes ps))) ∙ lookup-lesser key (all_changes ps) [] (all_less key at ps o is past))

pub lesser_is_out : (key k : List ℕ) → key_cmp k key ≡ Less → is_from key k ≡ false
lesser_is_out key k h = ap is_not_less h

first-lesser : (key : List ℕ) (p rest : Changes) → AreLess key p → first_from key (p ++ rest) ≡ first_from key rest
first-lesser key [] rest all = refl
first-lesser key (e ∷ p) rest all = rw (lesser_is_out key e.0 all.0) (first-lesser key p rest all.1)

-- where a piece does not end before a key, the first from the key is in it
first-start : (key : List ℕ) (e : List ℕ × Option (List ℕ)) (es rest : Changes) → is_lt (key_cmp (last_of e es).0 key) ≡ false → first_from key ((e ∷ es) ++ rest) ≡ first_from key (e ∷ es)
first-start key e [] rest h = rw (not_less_key (key_cmp e.0 key) h) refl
first-start key e (f ∷ es) rest h = cases (is_from key e.0) (first-start key f es rest h)
  where
    cases : (b : Bool) → first_from key ((f ∷ es) ++ rest) ≡ first_from key (f ∷ es)
        → first (if b then e ∷ entries_where (is_from key) ((f ∷ es) ++ rest) else entries_where (is_from key) ((f ∷ es) ++ rest)) ≡ first (if b then e ∷ entries_where (is_from key) (f ∷ es) else entries_where (is_from key) (f ∷ es))
    cases true later = refl
    cases false later = later

-- the first from a key is in the piece at its index
pub first_index : (key : List ℕ) (at : ℕ) (ps : List Changes) (d : Changes) → IsOrdered (all_changes ps) → AreFilled ps → IsIndex key at ps → at < length ps → first_from key (all_changes ps) ≡ first_from key (get_or ps at d)
first_index key at [] d o f is inside = absurd (omega arith)
first_index key zero ([] ∷ ps) d o f is inside = absurd (omega (arith, f.0))
first_index key zero ((e ∷ es) ∷ ps) d o f is inside = first-start key e es (all_changes ps) is.0
first_index key (suc at) (p ∷ ps) d o f is inside =
    first-lesser key p (all_changes ps) (ends_less key p (start_ordered p (all_changes ps) o) is.0)
    ∙ first_index key at ps d (end_ordered p (all_changes ps) o) f.1 is.1 (omega arith)

pub first_past : (key : List ℕ) (at : ℕ) (ps : List Changes) → IsOrdered (all_changes ps) → IsIndex key at ps → length ps ≤ at → first_from key (all_changes ps) ≡ None
first_past key at ps o is past = ap (first_from key) (sym (append-nil (all_changes ps))) ∙ first-lesser key (all_changes ps) [] (all_less key at ps o is past)

-- ---- the piece in which a key belongs

pub index_home : (key : List ℕ) (at : ℕ) (ps : List Changes) → IsOrdered (all_changes ps) → AreFilled ps → IsIndex key at ps → at < length ps → IsHome key at ps
index_home key at [] o f is inside = absurd (omega arith)
index_home key zero (p ∷ ps) o f is inside = behind_piece key p (all_changes ps) f.0 is.0 o
index_home key (suc at) (p ∷ ps) o f is inside = (
  ends_less key p (start_ordered p (all_changes ps) o) is.0,
  index_home key at ps (end_ordered p (all_changes ps) o) f.1 is.1 (omega arith),
)

-- what comes after all changes belongs in the last piece, too
pub last_home : (key : List ℕ) (at : ℕ) (ps : List Changes) → IsOrdered (all_changes ps) → IsIndex key (suc at) ps → suc at ≡ length ps → IsHome key at ps
last_home key at [] o is len = absurd is
last_home key zero (p ∷ []) o is len = tt
last_home key zero (p ∷ q ∷ ps) o is len = absurd (omega (arith, len))
last_home key (suc at) (p ∷ ps) o is len = (
  ends_less key p (start_ordered p (all_changes ps) o) is.0,
  last_home key at ps (end_ordered p (all_changes ps) o) is.1 (omega (arith, len)),
)

changed-lesser : (key : List ℕ) (value : Option (Option (List ℕ))) (p rest : Changes) → AreLess key p → changed key value (p ++ rest) ≡ p ++ changed key value rest
changed-lesser key value [] rest all = refl
changed-lesser key value (e ∷ p) rest all = rw (after e.0 key all.0) (ap (λ (es : Changes). e ∷ es) (changed-lesser key value p rest all.1))

changed-start : (key : List ℕ) (value : Option (Option (List ℕ))) (p rest : Changes) → IsBefore key rest → changed key value (p ++ rest) ≡ changed key value p ++ rest
changed-start key value [] rest b = changed_front key value rest b ∙ front value
  where
    front : (v : Option (Option (List ℕ))) → with_front key v rest ≡ with_front key v [] ++ rest
    front None = refl
    front (Some v) = refl
changed-start key value (e ∷ p) rest b = go (key_cmp key e.0) (changed-start key value p rest b)
  where
    open_front : (v : Option (Option (List ℕ))) (es : Changes) → with_front key v (es ++ rest) ≡ with_front key v es ++ rest
    open_front None es = refl
    open_front (Some v) es = refl

    go : (r : Ordering) → changed key value (p ++ rest) ≡ changed key value p ++ rest
        → changed_by r key value e (p ++ rest) (changed key value (p ++ rest)) ≡ changed_by r key value e p (changed key value p) ++ rest
    go Less later = open_front value (e ∷ p)
    go Equal later = open_front value p
    go Greater later = ap (λ (es : Changes). e ∷ es) later

-- a change in the piece in which its key belongs is a change of all
pub home_changed : (key : List ℕ) (value : Option (Option (List ℕ))) (at : ℕ) (ps : List Changes) (d : Changes) → IsHome key at ps → all_changes (set ps at (changed key value (get_or ps at d))) ≡ changed key value (all_changes ps)
home_changed key value at [] d home = absurd home
home_changed key value zero (p ∷ ps) d home = sym (changed-start key value p (all_changes ps) home)
home_changed key value (suc at) (p ∷ ps) d home =
    ap (λ (es : Changes). p ++ es) (home_changed key value at ps d home.1) ∙ sym (changed-lesser key value p (all_changes ps) home.0)

-- the piece in which a key belongs is in order
pub piece_ordered : (ps : List Changes) (at : ℕ) (d : Changes) → IsOrdered (all_changes ps) → at < length ps → IsOrdered (get_or ps at d)
piece_ordered [] at d o inside = absurd (omega arith)
piece_ordered (p ∷ ps) zero d o inside = start_ordered p (all_changes ps) o
piece_ordered (p ∷ ps) (suc at) d o inside = piece_ordered ps at d (end_ordered p (all_changes ps) o) (omega arith)

-- a change behind all others
pub put_behind_all : (key : List ℕ) (value : Option (List ℕ)) (at : ℕ) (ps : List Changes) → IsOrdered (all_changes ps) → IsIndex key at ps → length ps ≤ at → all_changes (ps ++ (((key, value) ∷ []) ∷ [])) ≡ changed key (Some value) (all_changes ps)
put_behind_all key value at ps o is past =
    all_changes-append ps (((key, value) ∷ []) ∷ [])
    ∙ sym (changed-lesser key (Some value) (all_changes ps) [] (all_less key at ps o is past))
    ∙ ap (changed key (Some value)) (append-nil (all_changes ps))

-- a piece that is cut in two
pub pieces_cut : (half at : ℕ) (ps : List Changes) (d : Changes) → at < length ps → all_changes (insert (set ps at (take half (get_or ps at d))) (suc at) (drop half (get_or ps at d))) ≡ all_changes ps
pieces_cut half at [] d inside = absurd (omega arith)
pieces_cut half zero (p ∷ ps) d inside = sym (append_assoc (take half p) (drop half p) (all_changes ps)) ∙ ap (λ (es : Changes). es ++ all_changes ps) (take-append-drop half p)
pieces_cut half (suc at) (p ∷ ps) d inside = ap (λ (es : Changes). p ++ es) (pieces_cut half at ps d (omega arith))

-- ---- no piece is empty

pub put_filled : (key : List ℕ) (value : Option (List ℕ)) (p : Changes) → 1 ≤ length (changed key (Some value) p)
put_filled key value [] = omega arith
put_filled key value (e ∷ p) = go (key_cmp key e.0)
  where
    go : (r : Ordering) → 1 ≤ length (changed_by r key (Some value) e p (changed key (Some value) p))
    go Less = omega arith
    go Equal = omega arith
    go Greater = omega arith

pub set_filled : (ps : List Changes) (at : ℕ) (p : Changes) → AreFilled ps → 1 ≤ length p → AreFilled (set ps at p)
set_filled [] at p f one = tt
set_filled (q ∷ ps) zero p f one = (one, f.1)
set_filled (q ∷ ps) (suc at) p f one = (f.0, set_filled ps at p f.1 one)

pub insert_filled : (ps : List Changes) (at : ℕ) (p : Changes) → AreFilled ps → 1 ≤ length p → AreFilled (insert ps at p)
insert_filled [] zero p f one = (one, tt)
insert_filled [] (suc at) p f one = (one, tt)
insert_filled (q ∷ ps) zero p f one = (one, f)
insert_filled (q ∷ ps) (suc at) p f one = (f.0, insert_filled ps at p f.1 one)

pub append_filled : (ps : List Changes) (p : Changes) → AreFilled ps → 1 ≤ length p → AreFilled (ps ++ (p ∷ []))
append_filled [] p f one = (one, tt)
append_filled (q ∷ ps) p f one = (f.0, append_filled ps p f.1 one)

-- ---- edits of the list of pieces

pub set_itself : (ps : List Changes) (at : ℕ) (d : Changes) → at < length ps → set ps at (get_or ps at d) ≡ ps
set_itself [] at d inside = absurd (omega arith)
set_itself (p ∷ ps) zero d inside = refl
set_itself (p ∷ ps) (suc at) d inside = ap (λ (qs : List Changes). p ∷ qs) (set_itself ps at d (omega arith))

-- an element, whatever stands for none
pub same_item : (ps : List Changes) (at : ℕ) (d e : Changes) → at < length ps → get_or ps at d ≡ get_or ps at e
same_item [] at d e inside = absurd (omega arith)
same_item (p ∷ ps) zero d e inside = refl
same_item (p ∷ ps) (suc at) d e inside = same_item ps at d e (omega arith)

-- pieces whose changes are in order, none of which is empty
pub record ArePieces (ps : List Changes) : Type 0 where
  pub ordered : IsOrdered (all_changes ps)
  pub filled : AreFilled ps

-- of two outcomes one has come
pub either : {T E P Q : Type 0} (r : Result T E) → OnOk r P → OnErr r Q → P ⊎ Q
either (Ok x) p q = inl p
either (Err e) p q = inr q

pub ok_there : {T E X : Type 0} (r : Result T E) (a b : X) → IsOk r → (if is_ok r then a else b) ≡ a
ok_there (Ok x) a b ok = refl
ok_there (Err e) a b ok = let wrong : false ≡ true = ok in cc

-- a put in the piece in which its key belongs, which may have been refused
pub put_in_home : (key : List ℕ) (value : Option (List ℕ)) (at : ℕ) (ps : List Changes) (old new : Changes) → IsOrdered (all_changes ps) → AreFilled ps → IsHome key at ps → at < length ps → old ≡ get_or ps at old → (new ≡ changed key (Some value) old) ⊎ (new ≡ old) → ArePieces (set ps at new)
put_in_home key value at ps old new o f home inside is (inl made) =
    let same : new ≡ changed key (Some value) (get_or ps at old) = made ∙ ap (changed key (Some value)) is in
    let all : all_changes (set ps at new) ≡ changed key (Some value) (all_changes ps) = ap (λ (p : Changes). all_changes (set ps at p)) same ∙ home_changed key (Some value) at ps old home in
    record {
      ordered = subst (λ (es : Changes). IsOrdered es) (sym all) (ordered_changed key (Some value) (all_changes ps) o);
      filled = set_filled ps at new f (subst (λ (p : Changes). 1 ≤ length p) (sym same) (put_filled key value (get_or ps at old)));
    }
put_in_home key value at ps old new o f home inside is (inr same) =
    let all : set ps at new ≡ ps = ap (λ (p : Changes). set ps at p) (same ∙ is) ∙ set_itself ps at old inside in
    record { ordered = subst (λ (qs : List Changes). IsOrdered (all_changes qs)) (sym all) o; filled = subst (λ (qs : List Changes). AreFilled qs) (sym all) f }

-- a new piece of a change behind all others, which may have been refused
pub behind_all : (key : List ℕ) (value : Option (List ℕ)) (at : ℕ) (ps : List Changes) (p : Changes) (b : Bool) → IsOrdered (all_changes ps) → AreFilled ps → IsIndex key at ps → length ps ≤ at → p ≡ (key, value) ∷ [] → ArePieces (if b then ps ++ (p ∷ []) else ps)
behind_all key value at ps p false o f is past made = record { ordered = o; filled = f }
behind_all key value at ps p true o f is past made =
    let all : all_changes (ps ++ (p ∷ [])) ≡ changed key (Some value) (all_changes ps) = ap (λ (q : Changes). all_changes (ps ++ (q ∷ []))) made ∙ put_behind_all key value at ps o is past in
    record {
      ordered = subst (λ (es : Changes). IsOrdered es) (sym all) (ordered_changed key (Some value) (all_changes ps) o);
      filled = append_filled ps p f (subst (λ (q : Changes). 1 ≤ length q) (sym made) (omega arith));
    }

-- a piece that was cut in two
pub record IsCut (ps qs : List Changes) : Type 0 where
  pub same : all_changes qs ≡ all_changes ps
  pub filled : AreFilled ps → AreFilled qs

pub cut_made : (half at : ℕ) (ps qs : List Changes) (old kept behind : Changes) → at < length ps → 1 ≤ half → half < length old → old ≡ get_or ps at old → kept ≡ take half old → behind ≡ drop half old → qs ≡ insert (set ps at kept) (at + 1) behind → IsCut ps qs
cut_made half at ps qs old kept behind inside one less is front back made =
    let long : half < length (get_or ps at old) = subst (λ (p : Changes). half < length p) is less in
    let kept_is : kept ≡ take half (get_or ps at old) = front ∙ ap (λ (p : Changes). take half p) is in
    let behind_is : behind ≡ drop half (get_or ps at old) = back ∙ ap (λ (p : Changes). drop half p) is in
    let all : qs ≡ insert (set ps at (take half (get_or ps at old))) (suc at) (drop half (get_or ps at old)) =
    made ∙ ap (λ (n : ℕ). insert (set ps at kept) n behind) (add-one at) ∙ ap (λ (p : Changes). insert (set ps at p) (suc at) behind) kept_is ∙ ap (λ (p : Changes). insert (set ps at (take half (get_or ps at old))) (suc at) p) behind_is in
    record {
      same = ap all_changes all ∙ pieces_cut half at ps old inside;
      filled = λ f. subst (λ (rs : List Changes). AreFilled rs) (sym all)
          (insert_filled (set ps at (take half (get_or ps at old))) (suc at) (drop half (get_or ps at old))
          (set_filled ps at (take half (get_or ps at old)) f (let n = length-take half (get_or ps at old) in omega (arith, n, long, one)))
          (let n = length-drop half (get_or ps at old) in omega (arith, n, long)));
    }

-- a piece that was cut in halves, by what was read and written of it
pub halved : (at len : ℕ) (items ps : List Changes) (seen old kept behind : Changes) → ps ≡ items → at < length items → 2 ≤ length (get_or items at []) → len ≡ length seen → seen ≡ get_or ps at seen → old ≡ get_or ps at old → kept ≡ take (len / 2) old → behind ≡ drop (len / 2) old → IsCut items (insert (set ps at kept) (at + 1) behind)
halved at len items ps seen old kept behind same inside long count seen_is old_is front back =
    let within : at < length ps = subst (λ (qs : List Changes). at < length qs) (sym same) inside in
    let two : 2 ≤ length old = subst (λ (p : Changes). 2 ≤ length p) (ap (λ (qs : List Changes). get_or qs at []) (sym same) ∙ same_item ps at [] old within ∙ sym old_is) long in
    let whole : len ≡ length old = count ∙ ap (λ (p : Changes). length p) (seen_is ∙ same_item ps at seen old within ∙ sym old_is) in
    subst (λ (qs : List Changes). IsCut qs (insert (set ps at kept) (at + 1) behind)) same
    (cut_made (len / 2) at ps (insert (set ps at kept) (at + 1) behind) old kept behind within (omega (arith, whole, two)) (omega (arith, whole, two)) old_is front back refl)

taken_more : (ps : List Changes) (i : ℕ) (d : Changes) → i < length ps → all_changes (take (suc i) ps) ≡ all_changes (take i ps) ++ get_or ps i d
taken_more [] i d inside = absurd (omega arith)
taken_more (p ∷ ps) zero d inside = append-nil p
taken_more (p ∷ ps) (suc i) d inside = ap (λ (es : Changes). p ++ es) (taken_more ps i d (omega arith)) ∙ sym (append_assoc p (all_changes (take i ps)) (get_or ps i d))

-- the changes of one piece more
pub all_taken_more : (ps : List Changes) (i : ℕ) (d : Changes) → i < length ps → all_changes (take (i + 1) ps) ≡ all_changes (take i ps) ++ get_or ps i d
all_taken_more ps i d inside = ap (λ (n : ℕ). all_changes (take n ps)) (add-one i) ∙ taken_more ps i d inside

-- ---- removals

-- an empty piece that is taken out
pub empty_taken : (at : ℕ) (ps : List Changes) → at < length ps → all_changes (remove (set ps at []) at) ≡ all_changes (set ps at [])
empty_taken at [] inside = absurd (omega arith)
empty_taken zero (p ∷ ps) inside = refl
empty_taken (suc at) (p ∷ ps) inside = ap (λ (es : Changes). p ++ es) (empty_taken at ps (omega arith))

pub removed_filled : (at : ℕ) (ps : List Changes) (p : Changes) → at < length ps → AreFilled ps → AreFilled (remove (set ps at p) at)
removed_filled at [] p inside f = absurd (omega arith)
removed_filled zero (q ∷ ps) p inside f = f.1
removed_filled (suc at) (q ∷ ps) p inside f = (f.0, removed_filled at ps p (omega arith) f.1)

long_piece : (p : Changes) → (p ≡ [] → ⊥) → 1 ≤ length p
long_piece [] some = absurd (some refl)
long_piece (e ∷ p) some = omega arith

-- pieces without the change of a key, none of which is empty
pub record AreWithout (key : List ℕ) (old new : List Changes) : Type 0 where
  pub same : all_changes new ≡ changed key None (all_changes old)
  pub ordered : IsOrdered (all_changes new)
  pub filled : AreFilled new

without : (key : List ℕ) (old new : List Changes) → IsOrdered (all_changes old) → all_changes new ≡ changed key None (all_changes old) → AreFilled new → AreWithout key old new
without key old new o same f = record { same = same; ordered = subst (λ (es : Changes). IsOrdered es) (sym same) (ordered_changed key None (all_changes old) o); filled = f }

removed_home : (key : List ℕ) (at : ℕ) (ps : List Changes) (old new : Changes) → IsHome key at ps → old ≡ get_or ps at old → new ≡ changed key None old → all_changes (set ps at new) ≡ changed key None (all_changes ps)
removed_home key at ps old new home is made = ap (λ (p : Changes). all_changes (set ps at p)) (made ∙ ap (changed key None) is) ∙ home_changed key None at ps old home

-- a removal that leaves changes in the piece
pub some_left : (key : List ℕ) (at : ℕ) (ps : List Changes) (old new : Changes) → IsOrdered (all_changes ps) → AreFilled ps → IsHome key at ps → old ≡ get_or ps at old → new ≡ changed key None old → (new ≡ [] → ⊥) → AreWithout key ps (set ps at new)
some_left key at ps old new o f home is made some = without key ps (set ps at new) o (removed_home key at ps old new home is made) (set_filled ps at new f (long_piece new some))

-- and one that leaves none, after which the piece is taken out
pub none_left : (key : List ℕ) (at : ℕ) (ps : List Changes) (old new : Changes) → IsOrdered (all_changes ps) → AreFilled ps → IsHome key at ps → at < length ps → old ≡ get_or ps at old → new ≡ changed key None old → new ≡ [] → AreWithout key ps (remove (set ps at new) at)
none_left key at ps old new o f home inside is made none =
    let taken : all_changes (remove (set ps at new) at) ≡ all_changes (set ps at new) = subst (λ (p : Changes). all_changes (remove (set ps at p) at) ≡ all_changes (set ps at p)) (sym none) (empty_taken at ps inside) in
    without key ps (remove (set ps at new) at) o (taken ∙ removed_home key at ps old new home is made) (removed_filled at ps new inside f)

-- a piece that was written is read again
pub read_again : (ps : List Changes) (at : ℕ) (new seen : Changes) → at < length ps → seen ≡ get_or (set ps at new) at seen → seen ≡ new
read_again ps at new seen inside is = is ∙ get_or-set_same ps at new seen inside

-- ---- the value of a key whose change is there

-- a key that has a change has it in the piece in which it belongs
pub lookup_home : (key : List ℕ) (at : ℕ) (ps : List Changes) (d : Changes) → IsHome key at ps → lookup key (all_changes ps) ≡ lookup key (get_or ps at d)
lookup_home key at [] d home = absurd home
lookup_home key zero (p ∷ ps) d home = lookup-start key p (all_changes ps) (lookup-before key (all_changes ps) home)
lookup_home key (suc at) (p ∷ ps) d home = lookup-lesser key p (all_changes ps) home.0 ∙ lookup_home key at ps d home.1
