-- A walk between the records of a map and the changes of lists.
use Rattle.std.specs.Prelude.{◌≡◌, ◌≢◌, Bool, true, false, ℕ, List, [], ◌∷◌, Option, Some, None}
use Rattle.std.specs.Ordering.{is_lt}
use Rattle.store.specs.Records.{Record, Records, Changes, entries_where, is_from, key_cmp}
use Rattle.store.specs.Steps.{Takes}
use Rattle.transactions.specs.Views.{applied_all, HasLeast}
use Rattle.transactions.specs.declared.merge.Below.{Below}
use Rattle.transactions.specs.declared.merge.Below.TheVariants.{Unread, Read, Ended}
use Rattle.transactions.specs.declared.merge.Found.{Found}
use Rattle.transactions.specs.declared.merge.Found.TheVariants.{InMap, Held}
use Rattle.transactions.specs.declared.merge.Passed.{Passed}
use Rattle.transactions.specs.declared.merge.Passed.TheVariants.{Entry, Nothing, Removal}
use Rattle.transactions.specs.declared.merge.Merge.{Merge}
use Rattle.transactions.specs.declared.merge.MergedPlace.{MergedPlace}

-- a record of the map was read
abbrev pub is_read : Below → Bool
is_read Unread = false
is_read Read = true
is_read Ended = false

-- what is ahead of the map's place was not read
abbrev pub is_unread : Below → Bool
is_unread Unread = true
is_unread Read = false
is_unread Ended = false

-- the map's side behind a change that comes before the record that was read, or has its key
abbrev pub passed : Below → Bool → Below
passed Unread before = Unread
passed Read true = Read
passed Read false = Unread
passed Ended before = Ended

-- a key comes before a change, or there is none
abbrev pub comes_first : List ℕ → Option (List ℕ × Option (List ℕ)) → Bool
comes_first key None = true
comes_first key (Some change) = is_lt (key_cmp key change.0)

-- these records of the map are ahead: the rest, which is ahead of its place, the one that was read and the rest, or none
abbrev pub AreBelow : Records → Below → Record → Records → Type 0
AreBelow rest Unread read es = es ≡ rest
AreBelow rest Read read es = es ≡ read ∷ rest
AreBelow rest Ended read es = es ≡ []

-- these are the records of a map under lists of changes from some key on
pub record IsMerge (rest : Records) (lists : List Changes) (es : Records) (merge : Merge) (records : Records) : Type 0 where
  pub from : List ℕ
  pub ahead : AreBelow rest merge.ahead merge.read (entries_where (is_from from) es)
  pub least : HasLeast from merge.least lists
  pub records_are : entries_where (is_from from) (applied_all lists es) ≡ records

-- the entry that was found last is this one, which the walk keeps
abbrev pub IsHeld : Merge → Record → Type 0
IsHeld merge e = (merge.found ≡ Held) × (merge.entry ≡ e)

-- the first record was found and passed, or there was none, or a removal was passed
abbrev pub IsPassed : Records → List Changes → Records → Passed → Merge → Records → Type 0
IsPassed rest lists es Entry merge records = Takes (λ e. IsHeld merge e) (λ later. IsMerge rest lists es merge later) true records
IsPassed rest lists es Nothing merge records = records ≡ []
IsPassed rest lists es Removal merge records = IsMerge rest lists es merge records

-- these records of a map under lists are ahead of a place
pub record AreMerged {P : Type 0} (below : P → Records → Type 0) (lists : List Changes) (es : Records) (place : MergedPlace P) (records : Records) : Type 0 where
  pub rest : Records
  pub at_place : place.merge.ahead ≢ Ended → below place.below rest
  pub merge : IsMerge rest lists es place.merge records

-- the entry that was found last, in the map at its place or in the walk, is this record
abbrev pub IsLentFrom : {P : Type 0} → Found → (P → Record → Type 0) → MergedPlace P → Record → Type 0
IsLentFrom InMap below place e = below place.below e
IsLentFrom Held below place e = place.merge.entry ≡ e

-- wherever it lies
abbrev pub IsLent : {P : Type 0} → (P → Record → Type 0) → MergedPlace P → Record → Type 0
IsLent below place e = IsLentFrom place.merge.found below place e

-- the first of these records was found and passed in the map, or what the map has ahead of its place is known
abbrev pub IsReadBelow : (Record → Type 0) → (Records → Type 0) → Below → Bool → Records → Type 0
IsReadBelow lent ahead below true records = Takes lent ahead true records
IsReadBelow lent ahead below false records = (below ≢ Unread) × ahead records
