-- How many records changes in pieces put within a stop.
use Rattle.std.proofs.Common.{◌≡◌, ℕ, zero, suc, ◌+◌, ◌-◌, ◌^◌, ◌<◌, ◌≤◌, min, Bool, true, false, if◌then◌else◌, List, [], ◌∷◌, ◌++◌, Option, Some, None, add-one, refl, ap, sym, ◌∙◌, subst, arith, length, get_or, take, drop, set}
use Rattle.std.specs.List.{AllByRecursion, insert, remove}
use Rattle.std.proofs.lemmas.List.{length-append}
use Rattle.std.proofs.Math.ListN.{length-set}
use Rattle.store.specs.Records.{Changes, Records, IsBefore, IsOrdered, entries_where, with_front}
use Rattle.store.specs.Batch.{all_changes}
use Rattle.store.specs.Place.{IsStopPlace}
use Rattle.store.specs.Pieces.{AreFilled, last_of, ends_within, from_place, puts, puts_within, weight}
use Rattle.store.specs.Walks.{count_of, count_to, is_within}
use Rattle.store.proofs.InOrder.{start_ordered}
use Rattle.store.proofs.Stops.{all_in}
use Rattle.store.proofs.Turns.{end_ordered}
use Rattle.store.proofs.Walking.{stays_past}

-- ---- what joined changes put

front_joined : (k : List ℕ) (v : Option (List ℕ)) (a b : Records) → with_front k v (a ++ b) ≡ with_front k v a ++ b
front_joined k None a b = refl
front_joined k (Some v) a b = refl

pub puts-append : (xs ys : Changes) → puts (xs ++ ys) ≡ puts xs ++ puts ys
puts-append [] ys = refl
puts-append (x ∷ xs) ys = ap (with_front x.0 x.1) (puts-append xs ys) ∙ front_joined x.0 x.1 (puts xs) (puts ys)

where-joined : (q : List ℕ → Bool) (xs ys : Records) → entries_where q (xs ++ ys) ≡ entries_where q xs ++ entries_where q ys
where-joined q [] ys = refl
where-joined q (x ∷ xs) ys = cases (q x.0) (where-joined q xs ys)
  where
    cases : (b : Bool) → entries_where q (xs ++ ys) ≡ entries_where q xs ++ entries_where q ys
        → (if b then x ∷ entries_where q (xs ++ ys) else entries_where q (xs ++ ys)) ≡ (if b then x ∷ entries_where q xs else entries_where q xs) ++ entries_where q ys
    cases true later = ap (λ (es : Records). x ∷ es) later
    cases false later = later

within-joined : (stop : List ℕ) (xs ys : Changes) → puts_within stop (xs ++ ys) ≡ puts_within stop xs ++ puts_within stop ys
within-joined stop xs ys = ap (λ (es : Records). entries_where (is_within stop) es) (puts-append xs ys) ∙ where-joined (is_within stop) (puts xs) (puts ys)

-- ---- one change more

pub heavier : (k : List ℕ) (v : Option (List ℕ)) (es : Records) → length (with_front k v es) ≡ length (with_front k v []) + length es
heavier k None es = omega arith
heavier k (Some v) es = omega arith

taken_one : (i : ℕ) (cs : Changes) (d : List ℕ × Option (List ℕ)) → i < length cs → length (puts (take (suc i) cs)) ≡ length (puts (take i cs)) + weight (get_or cs i d)
taken_one i [] d inside = absurd (omega arith)
taken_one zero (c ∷ cs) d inside = omega arith
taken_one (suc i) (c ∷ cs) d inside =
    let later = taken_one i cs d (omega arith) in
    let more = heavier c.0 c.1 (puts (take (suc i) cs)) in
    let less = heavier c.0 c.1 (puts (take i cs)) in
    omega (arith, later, more, less)

pub one_counted : (i : ℕ) (cs : Changes) (c : List ℕ × Option (List ℕ)) → i < length cs → c ≡ get_or cs i c → length (puts (take (i + 1) cs)) ≡ length (puts (take i cs)) + weight c
one_counted i cs c inside is = ap (λ (n : ℕ). length (puts (take n cs))) (add-one i) ∙ taken_one i cs c inside ∙ ap (λ (x : List ℕ × Option (List ℕ)). length (puts (take i cs)) + weight x) (sym is)

-- ---- edits of a list

pub set_counted : (at : ℕ) (cs : Changes) (d c : List ℕ × Option (List ℕ)) → at < length cs → length (puts (set cs at c)) + weight (get_or cs at d) ≡ length (puts cs) + weight c
set_counted at [] d c inside = absurd (omega arith)
set_counted zero (x ∷ cs) d c inside =
    let new = heavier c.0 c.1 (puts cs) in
    let old = heavier x.0 x.1 (puts cs) in
    omega (arith, new, old)
set_counted (suc at) (x ∷ cs) d c inside =
    let later = set_counted at cs d c (omega arith) in
    let new = heavier x.0 x.1 (puts (set cs at c)) in
    let old = heavier x.0 x.1 (puts cs) in
    omega (arith, later, new, old)

pub insert_counted : (at : ℕ) (cs : Changes) (c : List ℕ × Option (List ℕ)) → at ≤ length cs → length (puts (insert cs at c)) ≡ length (puts cs) + weight c
insert_counted zero [] c inside = omega arith
insert_counted zero (x ∷ cs) c inside = let new = heavier c.0 c.1 (puts (x ∷ cs)) in omega (arith, new)
insert_counted (suc at) [] c inside = absurd (omega arith)
insert_counted (suc at) (x ∷ cs) c inside =
    let later = insert_counted at cs c (omega arith) in
    let new = heavier x.0 x.1 (puts (insert cs at c)) in
    let old = heavier x.0 x.1 (puts cs) in
    omega (arith, later, new, old)

pub remove_counted : (at : ℕ) (cs : Changes) (d : List ℕ × Option (List ℕ)) → at < length cs → length (puts (remove cs at)) + weight (get_or cs at d) ≡ length (puts cs)
remove_counted at [] d inside = absurd (omega arith)
remove_counted zero (x ∷ cs) d inside = let old = heavier x.0 x.1 (puts cs) in omega (arith, old)
remove_counted (suc at) (x ∷ cs) d inside =
    let later = remove_counted at cs d (omega arith) in
    let new = heavier x.0 x.1 (puts (remove cs at)) in
    let old = heavier x.0 x.1 (puts cs) in
    omega (arith, later, new, old)

pub cut_counted : (at : ℕ) (cs : Changes) → length (puts (take at cs)) + length (puts (drop at cs)) ≡ length (puts cs)
cut_counted zero cs = omega arith
cut_counted (suc at) [] = omega arith
cut_counted (suc at) (x ∷ cs) =
    let later = cut_counted at cs in
    let new = heavier x.0 x.1 (puts (take at cs)) in
    let old = heavier x.0 x.1 (puts cs) in
    omega (arith, later, new, old)

weight_small : (k : List ℕ) (v : Option (List ℕ)) → length (with_front k v []) ≤ 1
weight_small k None = omega arith
weight_small k (Some v) = omega arith

pub few_counted : (cs : Changes) → length (puts cs) ≤ length cs
few_counted [] = omega arith
few_counted (c ∷ cs) =
    let later = few_counted cs in
    let one = weight_small c.0 c.1 in
    let new = heavier c.0 c.1 (puts cs) in
    omega (arith, later, one, new)

-- ---- a count that is kept beside its changes

pub record IsRecounted (old less : ℕ) (new most : ℕ) (cs : Changes) : Type 0 where
  pub there : less ≤ old
  pub exact : old - less + new ≡ length (puts cs)
  pub few : old - less + new ≤ most

-- a change that is replaced
pub recounted_set : (at : ℕ) (es : Changes) (d c : List ℕ × Option (List ℕ)) (count old new : ℕ) → at < length es → d ≡ get_or es at d → count ≡ length (puts es) → old ≡ weight d → new ≡ weight c → IsRecounted count old new (length es) (set es at c)
recounted_set at es d c count old new inside is counted old_is new_is =
    let both = set_counted at es d c inside in
    let less = remove_counted at es d inside in
    let here = ap weight is in
    let few = few_counted (set es at c) in
    let same = length-set es at c in
    record {
      there = omega (arith, counted, old_is, here, less);
      exact = omega (arith, counted, old_is, new_is, here, both, less);
      few = omega (arith, counted, old_is, new_is, here, both, less, few, same);
    }

-- a change that is put between two
pub recounted_insert : (at : ℕ) (es new : Changes) (c : List ℕ × Option (List ℕ)) (count more : ℕ) → at ≤ length es → new ≡ insert es at c → count ≡ length (puts es) → more ≡ weight c → IsRecounted count 0 more (length new) new
recounted_insert at es new c count more inside is counted more_is =
    let made = insert_counted at es c inside in
    let same = ap (λ (cs : Changes). length (puts cs)) is in
    let few = few_counted new in
    record { there = omega arith; exact = omega (arith, counted, more_is, made, same); few = omega (arith, counted, more_is, made, same, few) }

-- a change that is taken out
pub recounted_remove : (at : ℕ) (es new : Changes) (d : List ℕ × Option (List ℕ)) (count old : ℕ) → at < length es → d ≡ get_or es at d → new ≡ remove es at → count ≡ length (puts es) → old ≡ weight d → IsRecounted count old 0 (length new) new
recounted_remove at es new d count old inside is made counted old_is =
    let less = remove_counted at es d inside in
    let here = ap weight is in
    let same = ap (λ (cs : Changes). length (puts cs)) made in
    let few = few_counted new in
    record { there = omega (arith, counted, old_is, here, less); exact = omega (arith, counted, old_is, here, less, same); few = omega (arith, counted, old_is, here, less, same, few) }

-- the last change, which is taken off
pub recounted_pop : (es left : Changes) (c : List ℕ × Option (List ℕ)) (count old : ℕ) → es ≡ left ++ (c ∷ []) → count ≡ length (puts es) → old ≡ weight c → IsRecounted count old 0 (length left) left
recounted_pop es left c count old is counted old_is =
    let both = ap (λ (cs : Changes). length (puts cs)) is ∙ ap (λ (rs : Records). length rs) (puts-append left (c ∷ [])) ∙ length-append (puts left) (puts (c ∷ [])) in
    let few = few_counted left in
    record { there = omega (arith, counted, old_is, both); exact = omega (arith, counted, old_is, both); few = omega (arith, counted, old_is, both, few) }

-- the changes behind a cut
pub recounted_cut : (at : ℕ) (es kept behind : Changes) (count old : ℕ) → kept ≡ take at es → behind ≡ drop at es → count ≡ length (puts es) → old ≡ length (puts behind) → IsRecounted count old 0 (length kept) kept
recounted_cut at es kept behind count old front back counted old_is =
    let cut = cut_counted at es in
    let first = ap (λ (cs : Changes). length (puts cs)) front in
    let second = ap (λ (cs : Changes). length (puts cs)) back in
    let few = few_counted kept in
    record { there = omega (arith, counted, old_is, cut, second); exact = omega (arith, counted, old_is, cut, first, second); few = omega (arith, counted, old_is, cut, first, second, few) }

-- ---- what passes

none_pass : (stop : List ℕ) (cs : Changes) → AllByRecursion (λ e. is_within stop e.0 ≡ false) cs → puts_within stop cs ≡ []
none_pass stop [] h = refl
none_pass stop (c ∷ cs) h = go c.1 (none_pass stop cs h.1)
  where
    go : (v : Option (List ℕ)) → puts_within stop cs ≡ [] → entries_where (is_within stop) (with_front c.0 v (puts cs)) ≡ []
    go None later = later
    go (Some v) later = rw h.0 later

all_pass : (stop : List ℕ) (cs : Changes) → AllByRecursion (λ e. is_within stop e.0 ≡ true) cs → puts_within stop cs ≡ puts cs
all_pass stop [] h = refl
all_pass stop (c ∷ cs) h = go c.1 (all_pass stop cs h.1)
  where
    go : (v : Option (List ℕ)) → puts_within stop cs ≡ puts cs → entries_where (is_within stop) (with_front c.0 v (puts cs)) ≡ with_front c.0 v (puts cs)
    go None later = later
    go (Some v) later = rw h.0 (ap (λ (es : Records). (c.0, v) ∷ es) later)

all_dropped : (P : List ℕ × Option (List ℕ) → Type 0) (at : ℕ) (cs : Changes) → AllByRecursion P cs → AllByRecursion P (drop at cs)
all_dropped P zero cs h = h
all_dropped P (suc at) [] h = tt
all_dropped P (suc at) (c ∷ cs) h = all_dropped P at cs h.1

-- ---- in one piece

pass_taken : (stop : List ℕ) (n : ℕ) (cs : Changes) → IsStopPlace stop n cs → puts_within stop cs ≡ puts (take n cs)
pass_taken stop zero cs is = none_pass stop cs is
pass_taken stop (suc n) [] is = absurd is
pass_taken stop (suc n) (c ∷ cs) is = go c.1 (pass_taken stop n cs is.1)
  where
    go : (v : Option (List ℕ)) → puts_within stop cs ≡ puts (take n cs) → entries_where (is_within stop) (with_front c.0 v (puts cs)) ≡ with_front c.0 v (puts (take n cs))
    go None later = later
    go (Some v) later = rw is.0 (ap (λ (es : Records). (c.0, v) ∷ es) later)

place_dropped : (stop : List ℕ) (at n end : ℕ) (cs : Changes) → end ≡ at + n → IsStopPlace stop end cs → IsStopPlace stop n (drop at cs)
place_dropped stop zero n end cs e is = subst (λ (m : ℕ). IsStopPlace stop m cs) (omega (arith, e)) is
place_dropped stop (suc at) n zero cs e is = absurd (omega (arith, e))
place_dropped stop (suc at) n (suc end) [] e is = absurd is
place_dropped stop (suc at) n (suc end) (c ∷ cs) e is = place_dropped stop at n end cs (omega (arith, e)) is.1

-- the changes from an index on to the stop's place
pub counted_between : (stop : List ℕ) (at end : ℕ) (cs : Changes) → IsStopPlace stop end cs → at ≤ end → puts_within stop (drop at cs) ≡ puts (take (end - at) (drop at cs))
counted_between stop at end cs is le = pass_taken stop (end - at) (drop at cs) (place_dropped stop at (end - at) end cs (omega (arith, le)) is)

-- from the stop's place on none is counted
pub counted_past : (stop : List ℕ) (at end : ℕ) (cs : Changes) → IsStopPlace stop end cs → end ≤ at → puts_within stop (drop at cs) ≡ []
counted_past stop at zero cs is le = none_pass stop (drop at cs) (all_dropped (λ e. is_within stop e.0 ≡ false) at cs is)
counted_past stop at (suc end) [] is le = absurd is
counted_past stop zero (suc end) (c ∷ cs) is le = absurd (omega (arith, le))
counted_past stop (suc at) (suc end) (c ∷ cs) is le = counted_past stop at end cs is.1 (omega (arith, le))

-- ---- in pieces

whole_start : (ps : List Changes) → from_place 0 0 ps ≡ all_changes ps
whole_start [] = refl
whole_start (p ∷ ps) = refl

-- a piece that ends within the stop counts whole
piece_passed : (stop : List ℕ) (piece at : ℕ) (ps : List Changes) (d : Changes) → IsOrdered (all_changes ps) → piece < length ps → ends_within stop (get_or ps piece d) ≡ true
    → length (puts_within stop (from_place piece at ps)) ≡ length (puts (drop at (get_or ps piece d))) + length (puts_within stop (from_place (suc piece) 0 ps))
piece_passed stop piece at [] d o inside ends = absurd (omega arith)
piece_passed stop zero at (p ∷ ps) d o inside ends =
    let all = all_pass stop (drop at p) (all_dropped (λ e. is_within stop e.0 ≡ true) at p (all_in stop p (start_ordered p (all_changes ps) o) ends)) in
    ap (λ (es : Records). length es) (within-joined stop (drop at p) (all_changes ps))
    ∙ length-append (puts_within stop (drop at p)) (puts_within stop (all_changes ps))
    ∙ ap (λ (es : Records). length es + length (puts_within stop (all_changes ps))) all
    ∙ ap (λ (cs : Changes). length (puts (drop at p)) + length (puts_within stop cs)) (sym (whole_start ps))
piece_passed stop (suc piece) at (p ∷ ps) d o inside ends = piece_passed stop piece at ps d (end_ordered p (all_changes ps) o) (omega arith) ends

pub piece_counted : (stop : List ℕ) (piece at : ℕ) (ps : List Changes) (d : Changes) → IsOrdered (all_changes ps) → piece < length ps → ends_within stop (get_or ps piece d) ≡ true
    → length (puts_within stop (from_place piece at ps)) ≡ length (puts (drop at (get_or ps piece d))) + length (puts_within stop (from_place (piece + 1) 0 ps))
piece_counted stop piece at ps d o inside ends = rw (add-one piece) (piece_passed stop piece at ps d o inside ends)

past_last : (stop : List ℕ) (k : List ℕ) (es : Changes) → is_within stop k ≡ false → IsBefore k es → AllByRecursion (λ e. is_within stop e.0 ≡ false) es
past_last stop k [] h b = tt
past_last stop k (e ∷ es) h b = (stays_past stop k e.0 h b.0, past_last stop k es h b.1)

behind_last : (stop : List ℕ) (e : List ℕ × Option (List ℕ)) (es rest : Changes) → IsOrdered (e ∷ (es ++ rest)) → is_within stop (last_of e es).0 ≡ false → AllByRecursion (λ x. is_within stop x.0 ≡ false) rest
behind_last stop e [] rest o h = past_last stop e.0 rest h o.0
behind_last stop e (f ∷ es) rest o h = behind_last stop f es rest o.1 h

behind_out : (stop : List ℕ) (p rest : Changes) → 1 ≤ length p → IsOrdered (p ++ rest) → ends_within stop p ≡ false → AllByRecursion (λ x. is_within stop x.0 ≡ false) rest
behind_out stop [] rest f o h = absurd (omega (arith, f))
behind_out stop (e ∷ es) rest f o h = behind_last stop e es rest o h

-- behind a piece that does not, none is counted
pub last_counted : (stop : List ℕ) (piece at : ℕ) (ps : List Changes) (d : Changes) → IsOrdered (all_changes ps) → AreFilled ps → piece < length ps → ends_within stop (get_or ps piece d) ≡ false
    → length (puts_within stop (from_place piece at ps)) ≡ length (puts_within stop (drop at (get_or ps piece d)))
last_counted stop piece at [] d o f inside ends = absurd (omega arith)
last_counted stop zero at (p ∷ ps) d o f inside ends =
    let none = none_pass stop (all_changes ps) (behind_out stop p (all_changes ps) f.0 o ends) in
    ap (λ (es : Records). length es) (within-joined stop (drop at p) (all_changes ps))
    ∙ length-append (puts_within stop (drop at p)) (puts_within stop (all_changes ps))
    ∙ ap (λ (es : Records). length (puts_within stop (drop at p)) + length es) none
    ∙ omega arith
last_counted stop (suc piece) at (p ∷ ps) d o f inside ends = last_counted stop piece at ps d (end_ordered p (all_changes ps) o) f.1 (omega arith) ends

-- ---- up to a bound

-- what is counted and what is left are all, and as many as are wanted were counted
pub counted_enough : (records : Records) (count left most : ℕ) → min (count + left) (2 ^ 64 - 1) ≡ count_of records → most ≤ count → count ≤ 2 ^ 64 - 1 → most ≡ count_to most records
counted_enough records count left most all enough fits = omega (arith, all, enough, fits)

-- all were counted
pub counted_whole : (records : Records) (count most : ℕ) → count ≡ count_of records → most ≤ 2 ^ 64 - 1 → min count most ≡ count_to most records
counted_whole records count most all fits = omega (arith, all, fits)
