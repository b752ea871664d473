-- Walks over the records of a span.
use Rattle.std.proofs.Common.{◌≡◌, ℕ, Bool, true, false, List, [], ◌∷◌, Ok, Err, refl, ap, sym, ◌∙◌, subst, if◌then◌else◌}
use Rattle.store.specs.Records.{Record, Records, IsOrdered, entries_where}
use Rattle.store.specs.Walks.{is_within}
use Rattle.store.specs.Steps.{AheadWithin, Goes, Takes}
use Rattle.store.specs.Store.{StoreState}
use Rattle.store.specs.declared.fault.StoreFault.{StoreFault}
use Rattle.store.proofs.Walking.{answered, none_within}

-- nothing is ahead
pub none_ahead : (stop : List ℕ) (found : Record → Type 0) (ahead later : Records → Type 0) (b : Bool) (left : Records) → b ≡ false → AheadWithin stop ahead left → ((records : Records) → ahead records → Takes found later b records)
    → left ≡ []
none_ahead stop found ahead later true left not is step = cc
none_ahead stop found ahead later false left not is step = is.1 ∙ ap (λ (records : Records). entries_where (is_within stop) records) (step is.0 is.3)

-- the first record that is ahead, by its key
first_ahead : (stop : List ℕ) (found : Record → Type 0) (ahead : Records → Type 0) (within : Bool) (left : Records) (e : Record) (later : Records) → is_within stop e.0 ≡ within
    → left ≡ (if within then e ∷ entries_where (is_within stop) later else entries_where (is_within stop) later) → IsOrdered (e ∷ later) → found e → ahead later → Takes found (AheadWithin stop ahead) within left
first_ahead stop found ahead true left e later t is o f a = (e, entries_where (is_within stop) later, is, f, (later, refl, o.1, a))
first_ahead stop found ahead false left e later t is o f a = is ∙ none_within stop e.0 later t o.0

-- a record is ahead
pub one_ahead : (stop : List ℕ) (found : Record → Type 0) (ahead later : Records → Type 0) (b within : Bool) (left : Records) → b ≡ true → AheadWithin stop ahead left → ((records : Records) → ahead records → Takes found later b records)
    → ((e : Record) → found e → within ≡ is_within stop e.0) → Takes found (AheadWithin stop later) within left
one_ahead stop found ahead later false within left more is step key = cc
one_ahead stop found ahead later true within left more is step key =
    let took = step is.0 is.3 in
    let e = took.0 in
    let ordered : IsOrdered (e ∷ took.1) = subst (λ (r : Records). IsOrdered r) took.2 is.2 in
    let t : is_within stop e.0 ≡ within = sym (key e took.3) in
    let all : left ≡ entries_where (is_within stop) (e ∷ took.1) = is.1 ∙ ap (λ (r : Records). entries_where (is_within stop) r) took.2 in
    first_ahead stop found later within left e took.1 t (all ∙ ap (λ (b : Bool). if b then e ∷ entries_where (is_within stop) took.1 else entries_where (is_within stop) took.1) t) ordered took.3 took.4

-- ---- a step that ends at a stop

module _ (stop : List ℕ) (lent : Record → Type 0) (ahead later : Records → Type 0) (old new : StoreState) where
  -- what a step answers
  abbrev pub Steps : Bool → Type 0
  Steps found = (records : Records) → ahead records → Takes lent later found records

  -- and one up to the stop
  abbrev pub StepsWithin : Bool → Type 0
  StepsWithin found = (records : Records) → AheadWithin stop ahead records → Takes lent (AheadWithin stop later) found records

  pub step_ends : (found : Bool) → found ≡ false → Goes Steps (Ok found) old new → Goes StepsWithin (Ok false) old new
  step_ends found none goes = record {
    only_reads = goes.only_reads;
    answer = λ sound records left. none_ahead stop lent ahead later found records none left (goes.answer sound);
    cause = tt;
    failed = goes.failed;
    closed = λ closes had. absurd (answered (goes.closed closes had));
  }

  pub step_stops : (found within : Bool) → found ≡ true → ((e : Record) → lent e → within ≡ is_within stop e.0) → Goes Steps (Ok found) old new → Goes StepsWithin (Ok within) old new
  step_stops found within some key goes = record {
    only_reads = goes.only_reads;
    answer = λ sound records left. one_ahead stop lent ahead later found within records some left (goes.answer sound) key;
    cause = tt;
    failed = goes.failed;
    closed = λ closes had. absurd (answered (goes.closed closes had));
  }

  pub step_fails : (fault : StoreFault) → Goes Steps (Err fault) old new → Goes StepsWithin (Err fault) old new
  step_fails fault goes = record { only_reads = goes.only_reads; answer = λ sound. tt; cause = goes.cause; failed = goes.failed; closed = goes.closed }
