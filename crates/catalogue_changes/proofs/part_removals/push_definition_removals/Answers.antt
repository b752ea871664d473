use Rattle.std.proofs.Common.{[], ◌∷◌, refl}
use Rattle.store.specs.Records.{Changes}
use Rattle.catalogue_changes.specs.Differences.{differences}
use Rattle.catalogue_changes.specs.SchemaChanges.{descriptor_entries, policy_entries}
use Rattle.catalogue_changes.proofs.AddLemmas.{both_added}
use Rattle.catalogue_changes.proofs.part_removals.push_definition_removals.Goals as goal

pub returns-clause-ok : goal.returns-clause-ok
returns-clause-ok c =
    let descriptors : Changes = differences (descriptor_entries (c.args.table.now ∷ [])) [] in
    let policies : Changes = differences (policy_entries (c.args.table.now ∷ [])) [] in
    both_added descriptors policies descriptors policies c.args.out.now c.push_descriptor_removals.new.out c.push_policy_removals.new.out refl refl
    c.in_ok-push_descriptor_removals.ensures.ok c.in_ok-push_policy_removals.ensures.ok
