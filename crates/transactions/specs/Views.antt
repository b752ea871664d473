-- A map under lists of changes: what it holds, and what it is to a reader.
use Rattle.std.specs.Prelude.{◌≡◌, true, ℕ, List, [], ◌∷◌, Option, Some, None}
use Rattle.store.specs.Records.{Records, Changes, IsOrdered, lookup, applied, is_from, key_cmp}
use Rattle.store.specs.Store.{StoreState}
use Rattle.store.proofs.Changes.{ordered_applied}
use Rattle.std.specs.declared.cmp.Ordering.TheVariants.{Less}

-- the records under lists of changes, the first list first
abbrev pub applied_all : List Changes → Records → Records
applied_all [] es = es
applied_all (cs ∷ lists) es = applied_all lists (applied cs es)

-- all but the records is the map's; some reads are answered from the changes, so it does not close
abbrev pub view_state : List Changes → StoreState → StoreState
view_state lists s = record s { map = applied_all lists s.map; closes = ⊥ }

-- a list's word on a key, or else what the lists before it say
abbrev pub or_earlier : Option (Option (List ℕ)) → Option (Option (List ℕ)) → Option (Option (List ℕ))
or_earlier None earlier = earlier
or_earlier (Some value) earlier = Some value

-- what lists say of a key: the last that names it decides
abbrev pub latest : List ℕ → List Changes → Option (Option (List ℕ))
latest key [] = None
latest key (cs ∷ lists) = or_earlier (latest key lists) (lookup key cs)

-- the lists say nothing of the keys from this one on
abbrev pub SayNothingFrom : List ℕ → List Changes → Type 0
SayNothingFrom from lists = (key : List ℕ) → is_from from key ≡ true → latest key lists ≡ None

-- of the keys from this one on this change has the least of which the lists say something, and it is what they say
pub record IsLeast (from : List ℕ) (change : List ℕ × Option (List ℕ)) (lists : List Changes) : Type 0 where
  pub from_on : is_from from change.0 ≡ true
  pub latest_is : latest change.0 lists ≡ Some change.1
  pub before : (key : List ℕ) → is_from from key ≡ true → key_cmp key change.0 ≡ Less → latest key lists ≡ None

-- this is the least change from a key on, or there is none
abbrev pub HasLeast : List ℕ → Option (List ℕ × Option (List ℕ)) → List Changes → Type 0
HasLeast from None lists = SayNothingFrom from lists
HasLeast from (Some change) lists = IsLeast from change lists

-- keys rise under changes
pub ordered_view : (lists : List Changes) (es : Records) → IsOrdered es → IsOrdered (applied_all lists es)
ordered_view [] es is = is
ordered_view (cs ∷ lists) es is = ordered_view lists (applied cs es) (ordered_applied cs es is)
