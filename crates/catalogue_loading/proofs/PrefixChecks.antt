-- Walks from one prefix of keys to the next.
use Rattle.std.proofs.Common.{◌≡◌, ℕ, Bool, true, false, List, [], ◌∷◌, Ok, Err, refl, ap, sym, ◌∙◌, subst, inl, inr, if◌then◌else◌, ◌++◌, append-nil, append_assoc}
use Rattle.std.specs.declared.cmp.Ordering.{Ordering}
use Rattle.std.specs.declared.cmp.Ordering.TheVariants.{Less, Equal, Greater}
use Rattle.std.proofs.lemmas.Bool.{both_ways}
use Rattle.store.specs.declared.fault.Fault.{Fault}
use Rattle.store.specs.declared.fault.Fault.TheVariants.{Memory, Device, Damaged}
use Rattle.store.specs.Records.{Record, Records, IsBefore, IsOrdered, key_cmp, entries_where, first, has_prefix, is_from, is_not_less}
use Rattle.store.specs.Steps.{Takes}
use Rattle.store.proofs.Changes.{after, ordered_entries_where}
use Rattle.store.proofs.HeldItems.{own_prefix}
use Rattle.store.proofs.Scans.{past_prefix, prefix_begins, prefix_ends}
use Rattle.abstract_database.specs.Lists.{Among}
use Rattle.abstract_database.specs.Whole.{Each}
use Rattle.stored_database.proofs.AllRecords.{into_where, of_where}
use Rattle.stored_database.proofs.Prefixes.{front_of}
use Rattle.catalogue_loading.specs.Orphans.{JumpsOn, Jumps, records_from}
use Rattle.catalogue_loading.specs.RecordChecks.{AllPass, ChecksRecords}

-- ---- records that pass a test of their keys

pub passes_where : (q : List ℕ → Bool) (es : Records) (e : Record) → Among e (entries_where q es) → q e.0 ≡ true
passes_where q [] e h = absurd h
passes_where q (f ∷ es) e h = go (q f.0) refl (passes_where q es e) h where
  go : (b : Bool) → q f.0 ≡ b → (Among e (entries_where q es) → q e.0 ≡ true) → Among e (if b then f ∷ entries_where q es else entries_where q es) → q e.0 ≡ true
  go true t rest (inl is) = ap (λ (r : Record). q r.0) (sym is) ∙ t
  go true t rest (inr later) = rest later
  go false t rest later = rest later

-- a record behind the first one has a greater key
behind_first : (key : List ℕ) (es : Records) (e : Record) → IsBefore key es → Among e es → key_cmp key e.0 ≡ Less
behind_first key [] e before h = absurd h
behind_first key (f ∷ es) e before (inl is) = subst (λ (r : Record). key_cmp key r.0 ≡ Less) is before.0
behind_first key (f ∷ es) e before (inr later) = behind_first key es e before.1 later

not_from : (key k : List ℕ) → is_from key k ≡ false → key_cmp k key ≡ Less
not_from key k h = go (key_cmp k key) refl h where
  go : (o : Ordering) → key_cmp k key ≡ o → is_not_less o ≡ false → key_cmp k key ≡ Less
  go Less is f = is
  go Equal is f = cc
  go Greater is f = cc

-- ---- a step

module _ (Passes : Record → Type 0) (prefix : List ℕ) (records : Records) (start : List ℕ) where
  -- the records that begin as the first one does are passed over, and they are all that come before this key
  passed_over : (e : Record) (later : Records) (known next : List ℕ) → IsOrdered (e ∷ later) → has_prefix known e.0 ≡ true → has_prefix known next ≡ true
      → ((r : Record) → has_prefix known r.0 ≡ true → Passes r) → (r : Record) → Among r (e ∷ later) → is_from next r.0 ≡ false → Passes r
  passed_over e later known next rise begins goes_on none r (inl is) before = subst Passes is (none e begins)
  passed_over e later known next rise begins goes_on none r (inr among) before = go (has_prefix known r.0) refl where
    less : key_cmp e.0 r.0 ≡ Less
    less = behind_first e.0 later r rise.0 among

    from : is_from e.0 r.0 ≡ true
    from = ap is_not_less (after e.0 r.0 less)

    go : (b : Bool) → has_prefix known r.0 ≡ b → Passes r
    go true is = none r is
    go false is = absurd (both_ways (has_prefix known next) (past_prefix known e.0 r.0 begins from is next (not_from next r.0 before)) goes_on)

  pub jumps_on : (ahead : Records → Type 0) (e : Record) (later : Records) (known next : List ℕ) → IsOrdered records → entries_where (is_from start) records ≡ e ∷ later
      → has_prefix known e.0 ≡ true → has_prefix known next ≡ true → has_prefix prefix next ≡ true → ((r : Record) → has_prefix known r.0 ≡ true → Passes r)
      → ahead (entries_where (is_from next) records) → JumpsOn Passes prefix ahead records start
  jumps_on ahead e later known next rise is begins goes_on within none there =
      record { next = next; begins = within; passed = passed; is_ahead = there }
    where
      ordered : IsOrdered (e ∷ later)
      ordered = subst (λ (es : Records). IsOrdered es) is (ordered_entries_where (is_from start) records rise)

      passed : Each Passes (records_from prefix next records) → Each Passes (records_from prefix start records)
      passed all r among = go (is_from next r.0) refl where
        from_start : Among r (entries_where (is_from start) records)
        from_start = of_where (has_prefix prefix) (entries_where (is_from start) records) r among

        go : (b : Bool) → is_from next r.0 ≡ b → Passes r
        go true from = all r (into_where (has_prefix prefix) (entries_where (is_from next) records) r
            (into_where (is_from next) records r (of_where (is_from start) records r from_start) from)
            (passes_where (has_prefix prefix) (entries_where (is_from start) records) r among))
        go false before = passed_over e later known next ordered begins goes_on none r (subst (λ (es : Records). Among r es) is from_start) before

-- behind a record without the prefix none has it
pub past_all : (prefix : List ℕ) (records : Records) (start : List ℕ) (e : Record) (later : Records) → IsOrdered records → has_prefix prefix start ≡ true
    → entries_where (is_from start) records ≡ e ∷ later → has_prefix prefix e.0 ≡ false → records_from prefix start records ≡ []
past_all prefix records start e later rise begins is not_within = prefix_ends prefix start records e rise begins (ap (λ (es : Records). first es) is) not_within

pub begins_further : (prefix front rest : List ℕ) → has_prefix prefix front ≡ true → has_prefix prefix (front ++ rest) ≡ true
begins_further prefix front rest h =
    let found = front_of prefix front h in
    ap (λ (zs : List ℕ). has_prefix prefix (zs ++ rest)) found.1 ∙ ap (λ (zs : List ℕ). has_prefix prefix zs) (append_assoc prefix found.0 rest) ∙ own_prefix prefix (found.0 ++ rest)

-- ---- the walk

module _ (Passes : Record → Type 0) (prefix : List ℕ) (records : Records) where
  pub begun : (ahead : Records → Type 0) → ahead (entries_where (is_from prefix) records) → JumpsOn Passes prefix ahead records prefix
  begun ahead start = record { next = prefix; begins = self_prefix prefix; passed = λ all. all; is_ahead = start }
    where
      self_prefix : (p : List ℕ) → has_prefix p p ≡ true
      self_prefix p = subst (λ (k : List ℕ). has_prefix p k ≡ true) (append-nil p) (own_prefix p [])

  pub one_more_passed : (old new : Records → Type 0) (so_far : JumpsOn Passes prefix old records prefix) → JumpsOn Passes prefix new records so_far.next → JumpsOn Passes prefix new records prefix
  one_more_passed old new so_far further =
      record { next = further.next; begins = further.begins; passed = λ all. so_far.passed (further.passed all); is_ahead = further.is_ahead }

  pub all_passed : (ahead : Records → Type 0) (so_far : JumpsOn Passes prefix ahead records prefix) → records_from prefix so_far.next records ≡ [] → AllPass Passes records prefix
  all_passed ahead so_far none =
      subst (Each Passes) (prefix_begins prefix records) (so_far.passed (subst (Each Passes) (sym none) (λ e among. absurd among)))

  pub fault_found : (old new : Records → Type 0) (fault : Fault) (so_far : JumpsOn Passes prefix old records prefix) → Jumps Passes prefix new records so_far.next (Err fault)
      → ChecksRecords Passes records prefix (Err fault)
  fault_found old new Memory so_far jumped = tt
  fault_found old new Device so_far jumped = tt
  fault_found old new Damaged so_far jumped = λ all. jumped (λ e among.
      let from = of_where (has_prefix prefix) (entries_where (is_from so_far.next) records) e among in
      all e (into_where (has_prefix prefix) records e (of_where (is_from so_far.next) records e from)
      (passes_where (has_prefix prefix) (entries_where (is_from so_far.next) records) e among)))

-- ---- an answer

pub goes_on : (Passes : Record → Type 0) (prefix : List ℕ) (ahead : Records → Type 0) (records : Records) (start : List ℕ) (b : Bool) → b ≡ true
    → Jumps Passes prefix ahead records start (Ok b) → JumpsOn Passes prefix ahead records start
goes_on Passes prefix ahead records start b is jumped = subst (λ (z : Bool). Jumps Passes prefix ahead records start (Ok z)) is jumped

pub none_left : (Passes : Record → Type 0) (prefix : List ℕ) (ahead : Records → Type 0) (records : Records) (start : List ℕ) (b : Bool) → b ≡ false
    → Jumps Passes prefix ahead records start (Ok b) → records_from prefix start records ≡ []
none_left Passes prefix ahead records start b is jumped = subst (λ (z : Bool). Jumps Passes prefix ahead records start (Ok z)) is jumped

-- a step of the map that finds a record
pub found_one : (found : Record → Type 0) (ahead : Records → Type 0) (records : Records) (b : Bool) → b ≡ true → Takes found ahead b records → Takes found ahead true records
found_one found ahead records b is takes = subst (λ (z : Bool). Takes found ahead z records) is takes
