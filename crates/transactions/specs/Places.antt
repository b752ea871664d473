-- What a walk of a view has ahead of its place.
use Rattle.std.specs.Prelude.{◌≡◌, ℕ, List, []}
use Rattle.std.proofs.Common.{sym, subst, ◌∙◌}
use Rattle.store.specs.Records.{Record, Records, Changes, IsOrdered, entries_where}
use Rattle.store.specs.Store.{StoreState}
use Rattle.store.specs.Walks.{is_within}
use Rattle.transactions.specs.Calls.{KeepsRecords}
use Rattle.transactions.specs.Merging.{AreMerged, IsLent}
use Rattle.transactions.specs.Within.{AreMergedTo}
use Rattle.transactions.specs.WithinLaws.{merged_cut}
use Rattle.transactions.specs.declared.place.ViewPlace.{ViewPlace}
use Rattle.transactions.specs.declared.place.ViewPlace.TheVariants.{Below, Merged}

-- these records are ahead of a place: of one in the map, where no list changes it, or those of a sound map under the lists
abbrev pub AreAhead : {P : Type 0} → (P → Records → Type 0) → List Changes → StoreState → ViewPlace P → Records → Type 0
AreAhead below lists map (Below place) records = (lists ≡ []) × below place records
AreAhead below lists map (Merged place) records = map.sound × AreMerged below lists map.map place records

-- and these up to a stop
abbrev pub AreAheadTo : {P : Type 0} → (P → Records → Type 0) → List ℕ → List Changes → StoreState → ViewPlace P → Records → Type 0
AreAheadTo below stop lists map (Below place) records = (lists ≡ []) × below place records
AreAheadTo below stop lists map (Merged place) records = map.sound × AreMergedTo below stop lists map.map place records

-- a step to this place found this record
abbrev pub IsFoundAt : {P : Type 0} → (P → Record → Type 0) → ViewPlace P → Record → Type 0
IsFoundAt below (Below place) found = below place found
IsFoundAt below (Merged place) found = IsLent below place found

-- what is ahead still is once the map below was read
pub ahead_later : {P : Type 0} (below later_below : P → Records → Type 0) (lists later : List Changes) (old new : StoreState) → ((place : P) (records : Records) → below place records → later_below place records)
    → later ≡ lists → KeepsRecords old new → (place : ViewPlace P) (records : Records) → AreAhead below lists old place records → AreAhead later_below later new place records
ahead_later {P} below later_below lists later old new stays same keeps (Below place) records is = (same ∙ is.0, stays place records is.1)
ahead_later {P} below later_below lists later old new stays same keeps (Merged place) records is = (
  keeps.sound is.0,
  subst (λ (ls : List Changes). AreMerged later_below ls new.map place records) (sym same) (subst (λ (es : Records). AreMerged later_below lists es place records) (sym (keeps.unchanged is.0).map)
      (record { rest = is.1.rest; at_place = λ not. stays place.below is.1.rest (is.1.at_place not); merge = is.1.merge })),
)

-- of what is ahead that part is ahead up to a stop which is within it
pub ahead_cut : {P : Type 0} (below later : P → Records → Type 0) (stop : List ℕ) (lists : List Changes) (map : StoreState) → (map.sound → IsOrdered map.map)
    → ((at : P) (rest : Records) → IsOrdered rest → below at rest → later at (entries_where (is_within stop) rest))
    → (place : ViewPlace P) (records : Records) → IsOrdered records → AreAhead below lists map place records → AreAheadTo later stop lists map place (entries_where (is_within stop) records)
ahead_cut {P} below later stop lists map ordered law (Below place) records rise is = (is.0, law place records rise is.1)
ahead_cut {P} below later stop lists map ordered law (Merged place) records rise is = (is.0, merged_cut below later stop lists map.map place records (ordered is.0) law is.1)
