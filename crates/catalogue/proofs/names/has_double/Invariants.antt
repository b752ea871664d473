use Rattle.std.proofs.Common.{◌≡◌, false, take, map, List, ℕ, Bor, nat_eq}
use Rattle.std.specs.List.{list_any}
use Rattle.std.specs.HashSet.{contains}
use Rattle.std.specs.Cmp.Lexicographic.{pointwise}
use Rattle.abstract_database.specs.Lists.{has_double}
use Rattle.catalogue.proofs.names.has_double.Given as goal

-- the names before differ, and are those that were seen
abbrev pub invariant-loop-name : goal.invariant-loop-name
invariant-loop-name l =
    (has_double (map (λ n. n.now) (take l.name-index l.names)) ≡ false)
    × ((q : Bor (List ℕ)) → contains (λ a b. pointwise nat_eq a.now b.now) l.seen q ≡ list_any (λ n. pointwise nat_eq n.now q.now) (take l.name-index l.names))
