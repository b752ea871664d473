-- Walks over a store in pages.
use Rattle.std.proofs.Common.{◌≡◌, ◌||◌, min, length, arith, ℕ, Bool, true, false, List, [], ◌∷◌, None, Result, Ok, Err, refl, ap, sym, ◌∙◌}
use Rattle.std.specs.declared.cmp.Ordering.{Ordering}
use Rattle.std.specs.declared.cmp.Ordering.TheVariants.{Less, Equal, Greater}
use Rattle.std.specs.Ordering.{is_lt}
use Rattle.std.proofs.lemmas.Bool.{false≢true}
use Rattle.sector_device.specs.declared.device.Device.{Ghosts}
use Rattle.cow_pages.specs.Cow.{durable_array}
use Rattle.cow_pages.specs.Preserved.{HoldsDurable}
use Rattle.page_nodes.specs.Map.{is_below, AllAbove, IsRising, rest_entries}
use Rattle.page_nodes.proofs.Order.{one_way, le_le}
use Rattle.page_tree.specs.Ahead.{IsFoundBy, IsStepped}
use Rattle.page_tree.specs.Counts.{count_within, is_within as within}
use Rattle.page_tree.specs.Walk.{records_of}
use Rattle.page_tree.specs.declared.tree_walk.TreeWalk.{TreeWalk}
use Rattle.store.specs.Records.{Record, Records, key_cmp, entries_where, has_prefix, is_from, is_not_less}
use Rattle.store.specs.Steps.{Goes, Takes}
use Rattle.store.specs.Store.{StoreState, OnlyReads, Reads}
use Rattle.store.specs.Walks.{count_to, is_within, span}
use Rattle.store.proofs.Walking.{same_prefix}
use Rattle.store.specs.declared.fault.StoreFault.{StoreFault}
use Rattle.store.specs.declared.fault.StoreFault.TheVariants.{Full, Memory, Device, Number}
use Rattle.kv_store.specs.declared.tree_store.TreeStore.{TreeStore}
use Rattle.kv_store.specs.TreeStore.{pages_of}
use Rattle.kv_store.specs.TreeLaws.{below_is}
use Rattle.kv_store.specs.Unwritten.{WritesNothing}
use Rattle.kv_store.specs.Walks.{AreAhead, ahead_later}

-- ---- the entries from a key on, as records

from_is : (a b : List ℕ) → is_below a b ≡ false → is_from b a ≡ true
from_is a b not = go (key_cmp a b) (sym (below_is a b) ∙ not)
  where
    go : (o : Ordering) → is_lt o ≡ false → is_not_less o ≡ true
    go Less is = cc
    go Equal is = refl
    go Greater is = refl

all_from : (key low : List ℕ) (es : Records) → is_below low key ≡ false → AllAbove low es → entries_where (is_from key) es ≡ es
all_from key low [] from all = refl
all_from key low (e ∷ es) from all = rw (from_is e.0 key (le_le key low e.0 from (one_way low e.0 all.0))) (ap (λ (xs : Records). e ∷ xs) (all_from key low es from all.1))

pub rest_is : (key : List ℕ) (es : Records) → IsRising es → rest_entries key es ≡ entries_where (is_from key) es
rest_is key [] rising = refl
rest_is key (e ∷ es) rising = go (key_cmp e.0 key) refl (rest_is key es rising.1)
  where
    go : (r : Ordering) → key_cmp e.0 key ≡ r → rest_entries key es ≡ entries_where (is_from key) es → rest_entries key (e ∷ es) ≡ entries_where (is_from key) (e ∷ es)
    go Less is later = rw (below_is e.0 key, is) later
    go Equal is later = rw (below_is e.0 key, is) (ap (λ (xs : Records). e ∷ xs) (sym (all_from key e.0 es (below_is e.0 key ∙ ap is_lt is) rising.0)))
    go Greater is later = rw (below_is e.0 key, is) (ap (λ (xs : Records). e ∷ xs) (sym (all_from key e.0 es (below_is e.0 key ∙ ap is_lt is) rising.0)))

-- ---- the entries of a span, as records

within_is : (stop key : List ℕ) → within stop key ≡ is_within stop key
within_is stop key =
    ap (λ (b : Bool). b || is_below key stop) (same_prefix stop key) ∙ ap (λ (b : Bool). has_prefix stop key || b) (below_is key stop)

count_is : (stop : List ℕ) (es : Records) → count_within stop es ≡ length (entries_where (is_within stop) es)
count_is stop [] = refl
count_is stop (e ∷ es) = go (is_within stop e.0) refl (count_is stop es)
  where
    go : (b : Bool) → is_within stop e.0 ≡ b → count_within stop es ≡ length (entries_where (is_within stop) es) → count_within stop (e ∷ es) ≡ length (entries_where (is_within stop) (e ∷ es))
    go true is later = rw (within_is stop e.0, is) (omega (arith, later))
    go false is later = rw (within_is stop e.0, is) later

pub span_counted : (start stop : List ℕ) (most : ℕ) (es : Records) (count : ℕ) → IsRising es → count ≡ min (count_within stop (rest_entries start es)) most → count ≡ count_to most (span start stop es)
span_counted start stop most es count rising is =
    is ∙ ap (λ (n : ℕ). min n most) (ap (count_within stop) (rest_is start es rising) ∙ count_is stop (entries_where (is_from start) es))

-- ---- the answers of walks

pub goes_on : {T : Type 0} (does : T → Type 0) (x : T) (old new : StoreState) → OnlyReads old new → old.has_failed ≡ false → new.has_failed ≡ false → (old.sound → does x) → Goes does (Ok x) old new
goes_on does x old new reads worked works is = record {
  only_reads = reads;
  answer = is;
  cause = tt;
  failed = works ∙ sym worked;
  closed = λ closes had. absurd (false≢true (sym worked ∙ had));
}

fault_is : {T : Type 0} (a b : StoreFault) → ◌≡◌ {A = Result T StoreFault} (Err a) (Err b) → a ≡ b
fault_is a b same = cc

-- a fault that another read would answer, too
pub goes_to_fault : {T : Type 0} (does : T → Type 0) (fault : StoreFault) (out : Record) (old new : StoreState) → Reads None (Err fault) out old new → Goes does (Err fault) old new
goes_to_fault does Full out old new reads = absurd reads.cause
goes_to_fault does Memory out old new reads = record {
  only_reads = reads.only_reads;
  answer = λ sound. tt;
  cause = tt;
  failed = reads.failed;
  closed = λ closes had. ap (λ (f : StoreFault). Err f) (fault_is Memory Device (reads.closed closes had));
}
goes_to_fault does Device out old new reads = record { only_reads = reads.only_reads; answer = λ sound. tt; cause = reads.cause; failed = reads.failed; closed = λ closes had. refl }
goes_to_fault does Number out old new reads = absurd reads.cause

-- a step of a walk over the tree is one over the records
pub takes : {D : Type 0} {g : Ghosts D} (old new : TreeStore D g) (walk : TreeWalk) (found : Bool) (records : Records) → WritesNothing (pages_of old) (pages_of new) → HoldsDurable (pages_of old)
    → IsStepped (records_of (durable_array (pages_of old))) found walk records → Takes (IsFoundBy walk) (AreAhead new walk) found records
takes {D} {g} old new walk true records nothing durable is = (is.0, is.1, is.2, is.3, ahead_later old new walk is.1 nothing (record { durable = durable; in_map = is.4 }))
takes {D} {g} old new walk false records nothing durable is = is
