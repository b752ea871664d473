-- The steps of a merge.
use Rattle.std.specs.Prelude.{◌≡◌, ◌<◌, ◌+◌, List, [], ◌∷◌, Option, Some, None, length}
use Rattle.sql_ast.specs.declared.privilege.Descriptor.{Descriptor}
use Rattle.abstract_database.specs.Lists.{Rising}
use Rattle.abstract_database.specs.Database.{descriptor_cmp}
use Rattle.abstract_database.specs.Privileges.{with_descriptors}
use Rattle.grant_graph.specs.declared.granting.MergeStep.{MergeStep}

-- the first of the merged list, and what is left of both
pub record IsStepOf (old new : List Descriptor) (first : Descriptor) (old_left new_left : List Descriptor) : Type 0 where
  pub list : with_descriptors new old ≡ first ∷ with_descriptors new_left old_left
  pub rising : Rising descriptor_cmp new_left
  pub fewer : length old_left + length new_left < length old + length new

abbrev pub IsNextStep : List Descriptor → List Descriptor → Option MergeStep → Type 0
IsNextStep old new None = with_descriptors new old ≡ []
IsNextStep old new (Some step) = IsStepOf old new step.first step.old.now step.new.now
