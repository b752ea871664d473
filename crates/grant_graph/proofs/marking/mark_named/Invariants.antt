use Rattle.std.proofs.Common.{◌≡◌, take, map}
use Rattle.abstract_database.specs.Privileges.{is_taken_by}
use Rattle.grant_graph.proofs.marking.mark_named.Given as goal

abbrev pub invariant-loop-descriptor : goal.invariant-loop-descriptor
invariant-loop-descriptor l = l.marks.items ≡ map (is_taken_by l.named) (take l.descriptor-index l.descriptors)
