-- Steps between the records of a map and the changes of lists.
use Rattle.std.proofs.Common.{◌≡◌, ℕ, Bool, true, false, ◌&&◌, List, [], ◌∷◌, ◌++◌, Option, Some, None, Result, Ok, Err, refl, ap, sym, ◌∙◌, subst}
use Rattle.std.specs.Prelude.{◌≢◌}
use Rattle.std.specs.Ordering.{is_lt, is_gt}
use Rattle.std.specs.declared.cmp.Ordering.{Ordering}
use Rattle.std.specs.declared.cmp.Ordering.TheVariants.{Less, Equal, Greater}
use Rattle.store.specs.Records.{Record, Records, Changes, IsOrdered, IsFound, key_cmp, is_from, is_not_less, entries_where, first, first_from}
use Rattle.store.proofs.Changes.{same_key, reversed, after, itself}
use Rattle.store.proofs.Scans.{scanned, next_key, found_from}
use Rattle.store.specs.Steps.{Goes, Takes}
use Rattle.store.specs.Store.{StoreState, OnlyReads}
use Rattle.store.specs.declared.fault.StoreFault.{StoreFault}
use Rattle.transactions.specs.Views.{applied_all, view_state, ordered_view, HasLeast, IsLeast}
use Rattle.transactions.specs.Within.{AreMergedTo}
use Rattle.transactions.specs.Places.{AreAhead, AreAheadTo, IsFoundAt}
use Rattle.transactions.specs.declared.place.ViewPlace.{ViewPlace}
use Rattle.transactions.specs.declared.place.ViewPlace.TheVariants.{Merged}
use Rattle.transactions.specs.declared.merge.MergedPlace.{MergedPlace}
use Rattle.transactions.specs.Merging.{AreBelow, AreMerged, IsHeld, IsLent, IsLentFrom, IsMerge, IsPassed, comes_first, is_read, is_unread, passed}
use Rattle.transactions.specs.declared.merge.Below.{Below}
use Rattle.transactions.specs.declared.merge.Below.TheVariants.{Unread, Read, Ended}
use Rattle.transactions.specs.declared.merge.Found.{Found}
use Rattle.transactions.specs.declared.merge.Found.TheVariants.{InMap}
use Rattle.transactions.specs.declared.merge.Passed.TheVariants.{Entry, Nothing, Removal}
use Rattle.transactions.specs.declared.merge.Merge.{Merge}
use Rattle.transactions.proofs.Scanning.{nothing_from, nothing_between, found_none, found_later, from_on, from_less, next_is_from}
use Rattle.transactions.proofs.Steps.{unchanged_from, entry_is_first, change_is_first, removal_is_first}

-- ---- records from a key on

none_first : (xs : Records) → first xs ≡ None → xs ≡ []
none_first [] is = refl
none_first (x ∷ xs) is = let bad : Some x ≡ None = is in cc

tail_is : (e : Record) (xs ys : Records) → e ∷ xs ≡ e ∷ ys → xs ≡ ys
tail_is e xs ys same = cc

-- scans that find the same entry find the same entries
same_ahead : (a b : List ℕ) (es : Records) → IsOrdered es → first_from a es ≡ first_from b es → entries_where (is_from a) es ≡ entries_where (is_from b) es
same_ahead a b es rise same = go (first_from b es) refl
  where
    go : (found : Option Record) → found ≡ first_from b es → entries_where (is_from a) es ≡ entries_where (is_from b) es
    go None f = none_first (entries_where (is_from a) es) (same ∙ sym f) ∙ sym (none_first (entries_where (is_from b) es) (sym f))
    go (Some e) f = scanned a es e rise (same ∙ sym f) ∙ sym (scanned b es e rise (sym f))

-- the next key of one from a start on
next_on : (from key : List ℕ) → is_from from key ≡ true → is_from from (key ++ 0 ∷ []) ≡ true
next_on from key late = from_on from key (key ++ 0 ∷ []) late (next_is_from key)

-- a key that comes before another one comes before all from the next key on
next_before : (key other : List ℕ) → key_cmp key other ≡ Less → is_from (key ++ 0 ∷ []) other ≡ true
next_before key other less = next_key key other ∙ ap is_gt (after key other less)

not_less_from : (a b : List ℕ) → is_from a b ≡ true → is_lt (key_cmp b a) ≡ false
not_less_from a b late = go (key_cmp b a) late
  where
    go : (o : Ordering) → is_not_less o ≡ true → is_lt o ≡ false
    go Less is = cc
    go Equal is = refl
    go Greater is = refl

-- ---- the least change from a later key on

pub later_none : (from next : List ℕ) (lists : List Changes) → is_from from next ≡ true → HasLeast from None lists → HasLeast next None lists
later_none from next lists late none = λ key on. none key (from_on from next key late on)

pub later_some : (from next : List ℕ) (change : List ℕ × Option (List ℕ)) (lists : List Changes) → is_from from next ≡ true → is_from next change.0 ≡ true → IsLeast from change lists → IsLeast next change lists
later_some from next change lists late ahead least = record {
  from_on = ahead;
  latest_is = least.latest_is;
  before = λ key on less. least.before key (from_on from next key late on) less;
}

less_is : (o : Ordering) → is_lt o ≡ true → o ≡ Less
less_is Less is = refl
less_is Equal is = cc
less_is Greater is = cc

-- ---- the record that was read is passed

module _ (rest : Records) (lists : List Changes) (es : Records) (merge : Merge) (records : Records) (rise : IsOrdered es) (m : IsMerge rest lists es merge records) (read : merge.ahead ≡ Read) where
  abbrev next : List ℕ
  next = merge.read.0 ++ 0 ∷ []

  was : AreBelow rest Read merge.read (entries_where (is_from m.from) es)
  was = subst (λ (a : Below). AreBelow rest a merge.read (entries_where (is_from m.from) es)) read m.ahead

  pub read_first : first_from m.from es ≡ Some merge.read
  read_first = ap first was

  behind_is : rest ≡ entries_where (is_from next) es
  behind_is = tail_is merge.read rest (entries_where (is_from next) es) (sym was ∙ scanned m.from es merge.read rise read_first)

  -- what is ahead of it
  abbrev pub behind_record : Records
  behind_record = entries_where (is_from next) (applied_all lists es)

  taken : (after : Merge) → first_from m.from (applied_all lists es) ≡ Some merge.read → HasLeast next after.least lists → after.ahead ≡ Unread → (records ≡ merge.read ∷ behind_record) × IsMerge rest lists es after behind_record
  taken after found least unread = (
    sym m.records_are ∙ scanned m.from (applied_all lists es) merge.read (ordered_view lists es rise) found,
    record {
      from = next;
      ahead = subst (λ (a : Below). AreBelow rest a after.read (entries_where (is_from next) es)) (sym unread) (sym behind_is);
      least = least;
      records_are = refl;
    },
  )

  late : is_from m.from next ≡ true
  late = next_on m.from merge.read.0 (found_from m.from es merge.read read_first)

  -- no change is ahead, or it comes before the least one
  pub taken_before : (after : Merge) (change : Option (List ℕ × Option (List ℕ))) → merge.least ≡ change → comes_first merge.read.0 change ≡ true → after.ahead ≡ Unread → after.least ≡ merge.least
      → (records ≡ merge.read ∷ behind_record) × IsMerge rest lists es after behind_record
  taken_before after None none first unread same =
      let least = subst (λ o. HasLeast m.from o lists) none m.least in
      taken after (unchanged_from m.from lists es rise least ∙ read_first)
      (subst (λ o. HasLeast next o lists) (sym same) (subst (λ o. HasLeast next o lists) (sym none) (later_none m.from next lists late least))) unread
  taken_before after (Some change) some first unread same =
      let least = subst (λ o. HasLeast m.from o lists) some m.least in
      taken after (entry_is_first m.from lists es merge.read change true rise read_first least first)
      (subst (λ o. HasLeast next o lists) (sym same) (subst (λ o. HasLeast next o lists) (sym some) (later_some m.from next change lists late (next_before merge.read.0 change.0 (less_is (key_cmp merge.read.0 change.0) first)) least))) unread

  -- so it is found, and the walk keeps it
  pub record_passed : (after : Merge) (change : Option (List ℕ × Option (List ℕ))) → merge.least ≡ change → comes_first merge.read.0 change ≡ true → IsHeld after merge.read → after.ahead ≡ Unread → after.least ≡ merge.least
      → IsPassed rest lists es Entry after records
  record_passed after change is first held unread same =
      let behind = taken_before after change is first unread same in
      (merge.read, behind_record, behind.0, held, behind.1)

-- ---- the least change is passed

module _ (rest : Records) (lists : List Changes) (es : Records) (merge : Merge) (records : Records) (rise : IsOrdered es) (m : IsMerge rest lists es merge records)
    (change : List ℕ × Option (List ℕ)) (some : merge.least ≡ Some change) (known : merge.ahead ≢ Unread) (not_before : (is_read merge.ahead && is_lt (key_cmp merge.read.0 change.0)) ≡ false) where
  abbrev behind : List ℕ
  behind = change.0 ++ 0 ∷ []

  least_is : IsLeast m.from change lists
  least_is = subst (λ o. HasLeast m.from o lists) some m.least

  behind_on : is_from m.from behind ≡ true
  behind_on = next_on m.from change.0 least_is.from_on

  -- what a scan of the map finds
  seen : (a : Below) → a ≢ Unread → AreBelow rest a merge.read (entries_where (is_from m.from) es) → IsFound (is_read a) merge.read (first_from m.from es)
  seen Unread not is = absurd (not refl)
  seen Read not is = ap first is
  seen Ended not is = ap first is

  found : IsFound (is_read merge.ahead) merge.read (first_from m.from es)
  found = seen merge.ahead known m.ahead

  -- the record that was read stays ahead, or has the key of the change
  stays : (o : Ordering) → o ≡ key_cmp merge.read.0 change.0 → is_lt o ≡ false → AreBelow rest Read merge.read (entries_where (is_from m.from) es)
      → AreBelow rest (passed Read (is_lt (key_cmp change.0 merge.read.0))) merge.read (entries_where (is_from behind) es)
  stays Less o not is = cc
  stays Equal o not is =
      let same : merge.read.0 ≡ change.0 = same_key merge.read.0 change.0 (sym o) in
      let equal : is_lt (key_cmp change.0 merge.read.0) ≡ false = subst (λ (k : List ℕ). is_lt (key_cmp change.0 k) ≡ false) (sym same) (not_itself change.0) in
      let next : rest ≡ entries_where (is_from behind) es =
      tail_is merge.read rest (entries_where (is_from behind) es) (sym is ∙ scanned m.from es merge.read rise (ap first is) ∙ ap (λ (k : List ℕ). merge.read ∷ entries_where (is_from (k ++ 0 ∷ [])) es) same) in
      rw equal (sym next)
    where
      not_itself : (k : List ℕ) → is_lt (key_cmp k k) ≡ false
      not_itself k = ap is_lt (itself k)
  stays Greater o not is =
      let less : key_cmp change.0 merge.read.0 ≡ Less = reversed merge.read.0 change.0 (sym o) in
      let first_is : first_from m.from es ≡ Some merge.read = ap first is in
      let ahead : is_from behind merge.read.0 ≡ true = next_before change.0 merge.read.0 less in
      let same = found_later m.from behind es rise behind_on (λ key on early. nothing_between m.from es merge.read rise first_is key on (from_less key behind merge.read.0 early (not_less_from behind merge.read.0 ahead))) in
      rw less (same_ahead behind m.from es rise same ∙ is)

  ended : entries_where (is_from m.from) es ≡ [] → entries_where (is_from behind) es ≡ []
  ended is =
      none_first (entries_where (is_from behind) es)
      (found_none behind es rise (λ key on. nothing_from m.from es (ap first is) key (from_on m.from behind key behind_on on)))

  side : (a : Below) → a ≢ Unread → (is_read a && is_lt (key_cmp merge.read.0 change.0)) ≡ false → AreBelow rest a merge.read (entries_where (is_from m.from) es)
      → AreBelow rest (passed a (is_lt (key_cmp change.0 merge.read.0))) merge.read (entries_where (is_from behind) es)
  side Unread not first is = absurd (not refl)
  side Read not first is = stays (key_cmp merge.read.0 change.0) refl first is
  side Ended not first is = ended is

  module _ (after : Merge) (read : after.read ≡ merge.read) (ahead : after.ahead ≡ passed merge.ahead (is_lt (key_cmp change.0 merge.read.0))) (least : HasLeast behind after.least lists) where
    goes_on : (later : Records) → entries_where (is_from behind) (applied_all lists es) ≡ later → IsMerge rest lists es after later
    goes_on later is = record {
      from = behind;
      ahead = subst (λ (a : Below). AreBelow rest a after.read (entries_where (is_from behind) es)) (sym ahead)
          (subst (λ (e : Record). AreBelow rest (passed merge.ahead (is_lt (key_cmp change.0 merge.read.0))) e (entries_where (is_from behind) es)) (sym read) (side merge.ahead known not_before m.ahead));
      least = least;
      records_are = is;
    }

    -- it puts a value
    pub put_passed : (value : List ℕ) → change.1 ≡ Some value → IsHeld after (change.0, value) → IsPassed rest lists es Entry after records
    put_passed value puts held = (
      (change.0, value),
      entries_where (is_from behind) (applied_all lists es),
      sym m.records_are ∙ scanned m.from (applied_all lists es) (change.0, value) (ordered_view lists es rise) (change_is_first m.from lists es merge.read change value (is_read merge.ahead) rise found least_is not_before puts),
      held,
      goes_on _ refl,
    )

    -- it removes its key
    pub removal_passed : change.1 ≡ None → IsPassed rest lists es Removal after records
    removal_passed removes =
        goes_on records (same_ahead behind m.from (applied_all lists es) (ordered_view lists es rise) (removal_is_first m.from lists es merge.read change (is_read merge.ahead) rise found least_is not_before removes) ∙ m.records_are)

-- ---- nothing is ahead

pub nothing_passed : (rest : Records) (lists : List Changes) (es : Records) (merge after : Merge) (records : Records) → IsOrdered es → IsMerge rest lists es merge records → merge.least ≡ None → merge.ahead ≢ Unread
    → is_read merge.ahead ≡ false → IsPassed rest lists es Nothing after records
nothing_passed rest lists es merge after records rise m none known ended =
    sym m.records_are ∙ none_first _ (unchanged_from m.from lists es rise (subst (λ o. HasLeast m.from o lists) none m.least) ∙ ap first (go merge.ahead known ended m.ahead))
  where
    go : (a : Below) → a ≢ Unread → is_read a ≡ false → AreBelow rest a merge.read (entries_where (is_from m.from) es) → entries_where (is_from m.from) es ≡ []
    go Unread not unread is = absurd (not refl)
    go Read not unread is = cc
    go Ended not unread is = is

-- ---- a step of the map

pub unread_is : (a : Below) → is_unread a ≡ true → a ≡ Unread
unread_is Unread is = refl
unread_is Read is = cc
unread_is Ended is = cc

module _ {P : Type 0} (below later_below : P → Records → Type 0) (found_at : P → Record → Type 0) (lists : List Changes) (es : Records) (rise : IsOrdered es) (place after : MergedPlace P) (unread : place.merge.ahead ≡ Unread)
    (still : after.merge.ahead ≡ place.merge.ahead) (same : after.merge.least ≡ place.merge.least) (in_map : after.merge.found ≡ InMap) where
  not_ended : place.merge.ahead ≢ Ended
  not_ended is = let bad : Unread ≡ Ended = sym unread ∙ is in cc

  -- the record that it found comes first, and the map lends it
  pub found_below : ((e : Record) → found_at after.below e → comes_first e.0 place.merge.least ≡ true) → ((rs : Records) → below place.below rs → Takes (found_at after.below) (later_below after.below) true rs)
      → (records : Records) → AreMerged below lists es place records → Takes (IsLent found_at after) (AreMerged later_below lists es after) true records
  found_below first step records ahead =
      let m = ahead.merge in
      let took = step ahead.rest (ahead.at_place not_ended) in
      let read : Merge = record place.merge { ahead = Read; read = took.0 } in
      let is : IsMerge took.1 lists es read records = record {
        from = m.from;
        ahead = subst (λ (a : Below). AreBelow ahead.rest a place.merge.read (entries_where (is_from m.from) es)) unread m.ahead ∙ took.2;
        least = m.least;
        records_are = m.records_are;
      } in
      let behind = taken_before took.1 lists es read records rise is refl after.merge place.merge.least refl (first took.0 took.3) (still ∙ unread) same in (
        took.0,
        behind_record took.1 lists es read records rise is refl,
        behind.0,
        subst (λ (f : Found). IsLentFrom f found_at after took.0) (sym in_map) took.3,
        record { rest = took.1; at_place = λ not. took.4; merge = behind.1 },
      )

-- ---- what is held

-- an entry that a walk keeps is the one that it lends
pub held_lent : {P : Type 0} (found_at : P → Record → Type 0) (place : MergedPlace P) (e : Record) → IsHeld place.merge e → IsLent found_at place e
held_lent {P} found_at place e held = subst (λ (f : Found). IsLentFrom f found_at place e) (sym held.0) held.1

-- ---- what was read

pub read_is : (a : Below) → is_read a ≡ true → a ≡ Read
read_is Unread is = cc
read_is Read is = refl
read_is Ended is = cc

pub both_are : (a b : Bool) → (a && b) ≡ true → (a ≡ true) × (b ≡ true)
both_are true b is = (refl, is)
both_are false b is = cc

-- ---- a step of a view

module _ {P : Type 0} (lists : List Changes) (below later_below : P → Records → Type 0) (found_below : P → Record → Type 0) (old new : StoreState) (place : ViewPlace P) (merged after : MergedPlace P) (is : place ≡ Merged merged)
    (reads : OnlyReads old new) where
  -- what a step over the merge takes, a step of the view does
  takes : (found : Bool) → old.sound → ((records : Records) → AreMerged below lists old.map merged records → Takes (IsLent found_below after) (AreMerged later_below lists old.map after) found records)
      → (records : Records) → AreAhead below lists old place records → Takes (λ e. IsFoundAt found_below (Merged after) e) (λ later. AreAhead later_below lists new (Merged after) later) found records
  takes true sound step records ahead =
      let at = subst (λ (p : ViewPlace P). AreAhead below lists old p records) is ahead in
      let took = step records at.1 in
      (took.0, took.1, took.2, took.3, (reads.history.sound sound, subst (λ (es : Records). AreMerged later_below lists es after took.1) (sym (reads.unchanged sound).map) took.4))
  takes false sound step records ahead =
      let at = subst (λ (p : ViewPlace P). AreAhead below lists old p records) is ahead in
      step records at.1

  pub merged_steps : (result : Result Bool StoreFault)
      → Goes (λ found. (records : Records) → AreMerged below lists old.map merged records → Takes (IsLent found_below after) (AreMerged later_below lists old.map after) found records) result (view_state lists old) (view_state lists new)
      → Goes (λ found. (records : Records) → AreAhead below lists old place records → Takes (λ e. IsFoundAt found_below (Merged after) e) (λ later. AreAhead later_below lists new (Merged after) later) found records) result (view_state lists old) (view_state lists new)
  merged_steps (Ok found) goes = record { only_reads = goes.only_reads; answer = λ sound. takes found sound (goes.answer sound); cause = tt; failed = goes.failed; closed = goes.closed }
  merged_steps (Err fault) goes = record { only_reads = goes.only_reads; answer = λ sound. tt; cause = goes.cause; failed = goes.failed; closed = goes.closed }

-- and one up to a stop
module _ {P : Type 0} (stop : List ℕ) (lists : List Changes) (below later_below : P → Records → Type 0) (found_below : P → Record → Type 0) (old new : StoreState) (place : ViewPlace P) (merged after : MergedPlace P) (is : place ≡ Merged merged)
    (reads : OnlyReads old new) where
  -- what a step over the merge takes, a step of the view does
  takes_to : (found : Bool) → old.sound → ((records : Records) → AreMergedTo below stop lists old.map merged records → Takes (IsLent found_below after) (AreMergedTo later_below stop lists old.map after) found records)
      → (records : Records) → AreAheadTo below stop lists old place records → Takes (λ e. IsFoundAt found_below (Merged after) e) (λ later. AreAheadTo later_below stop lists new (Merged after) later) found records
  takes_to true sound step records ahead =
      let at = subst (λ (p : ViewPlace P). AreAheadTo below stop lists old p records) is ahead in
      let took = step records at.1 in
      (took.0, took.1, took.2, took.3, (reads.history.sound sound, subst (λ (es : Records). AreMergedTo later_below stop lists es after took.1) (sym (reads.unchanged sound).map) took.4))
  takes_to false sound step records ahead =
      let at = subst (λ (p : ViewPlace P). AreAheadTo below stop lists old p records) is ahead in
      step records at.1

  pub merged_steps_to : (result : Result Bool StoreFault)
      → Goes (λ found. (records : Records) → AreMergedTo below stop lists old.map merged records → Takes (IsLent found_below after) (AreMergedTo later_below stop lists old.map after) found records) result (view_state lists old) (view_state lists new)
      → Goes (λ found. (records : Records) → AreAheadTo below stop lists old place records → Takes (λ e. IsFoundAt found_below (Merged after) e) (λ later. AreAheadTo later_below stop lists new (Merged after) later) found records) result (view_state lists old) (view_state lists new)
  merged_steps_to (Ok found) goes = record { only_reads = goes.only_reads; answer = λ sound. takes_to found sound (goes.answer sound); cause = tt; failed = goes.failed; closed = goes.closed }
  merged_steps_to (Err fault) goes = record { only_reads = goes.only_reads; answer = λ sound. tt; cause = goes.cause; failed = goes.failed; closed = goes.closed }
