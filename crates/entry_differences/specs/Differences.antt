-- Changes that take records to others: what differs is put or removed, and no more.
use Rattle.std.specs.Prelude.{ℕ, List, Option, [], ◌∷◌, map, bytes_eq, if◌then◌else◌, Some, None}
use Rattle.std.specs.declared.cmp.Ordering.{Ordering}
use Rattle.std.specs.declared.cmp.Ordering.TheVariants.{Less, Equal, Greater}
use Rattle.store.specs.Records.{Record, Records, Changes, key_cmp, changed}

-- the removal of a record
abbrev pub removal : Record → List ℕ × Option (List ℕ)
removal e = (e.0, None)

-- the put of a record
abbrev pub put_of : Record → List ℕ × Option (List ℕ)
put_of e = (e.0, Some e.1)

-- the changes after those of a key which has the value of e before and that of f afterwards
abbrev pub replaced : Record → Record → Changes → Changes
replaced e f later = if bytes_eq e.1 f.1 then later else put_of f ∷ later

-- what differs from e and the records after it to f and those after it, by how their keys compare; what differs later is
-- from the records after e, from those after both, and from e on to those after f
abbrev pub differences_by : Ordering → Record → Record → Changes → Changes → Changes → Changes
differences_by Less e f without_e without_both without_f = removal e ∷ without_e
differences_by Equal e f without_e without_both without_f = replaced e f without_both
differences_by Greater e f without_e without_both without_f = put_of f ∷ without_f

-- what differs from e and the records after it, where this is what differs from those after it
abbrev pub differences_from : Record → (Records → Changes) → Records → Changes
differences_from e later [] = removal e ∷ later []
differences_from e later (f ∷ fs) = differences_by (key_cmp e.0 f.0) e f (later (f ∷ fs)) (later fs) (differences_from e later fs)

-- the changes that take records in order to others in order: each that differs, in the order of their keys
abbrev pub differences : Records → Records → Changes
differences [] fs = map put_of fs
differences (e ∷ es) fs = differences_from e (differences es) fs

-- the records after these changes, the first of them first
abbrev pub applied_in_turn : Changes → Records → Records
applied_in_turn [] es = es
applied_in_turn (c ∷ cs) es = applied_in_turn cs (changed c.0 c.1 es)
