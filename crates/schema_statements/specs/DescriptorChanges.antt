-- What a GRANT or a REVOKE changes of the privilege descriptors of its table.
use Rattle.std.specs.Prelude.{Bool, not, ◌&&◌, ◌||◌, cond, List, [], ◌∷◌, ◌++◌, find, Option, Some, None, option_to_list}
use Rattle.sql_ast.specs.declared.privilege.Descriptor.{Descriptor}
use Rattle.abstract_database.specs.Lists.{the_new, drop_where}
use Rattle.abstract_database.specs.Database.{descriptor_cmp}
use Rattle.abstract_database.specs.Privileges.{same_key, with_option_of, without_option, is_named_in}
use Rattle.catalogue.specs.Descriptors.{put_each}
pub use Rattle.catalogue_changes.specs.DescriptorChanges.{Fits}

-- the old descriptor with the option of the new one, unless it has it or does not get it; or the new one, where there is no old
abbrev pub anew_beside : Descriptor → Option Descriptor → Option Descriptor
anew_beside d None = Some d
anew_beside d (Some old) = cond (old.grantable || not d.grantable) None (Some (with_option_of old d))

-- what comes where a descriptor is granted beside these, if anything does
abbrev pub granted_anew : List Descriptor → Descriptor → Option Descriptor
granted_anew ds d = anew_beside d (find (same_key d) ds)

-- what comes where each of some descriptors is granted
abbrev pub come_of : List Descriptor → List Descriptor → List Descriptor
come_of ds [] = []
come_of ds (d ∷ granted) = option_to_list (granted_anew ds d) ++ come_of ds granted

-- the descriptor alone where the test holds
abbrev pub where_it_holds : Bool → Descriptor → List Descriptor
where_it_holds test d = cond test (d ∷ []) []

-- the descriptors that have no mark of what stays
abbrev pub gone_of : List Bool → List Descriptor → List Descriptor
gone_of (stays ∷ staying) (d ∷ ds) = cond stays (gone_of staying ds) (d ∷ gone_of staying ds)
gone_of _ _ = []

-- the descriptors that stay and lose their grant option, without it
abbrev pub cleared_of : Bool → List Bool → List Bool → List Descriptor → List Descriptor
cleared_of option (is_named ∷ named) (stays ∷ staying) (d ∷ ds) = cond (stays && (option && (is_named && d.grantable))) (without_option d ∷ cleared_of option named staying ds) (cleared_of option named staying ds)
cleared_of option _ _ _ = []

-- the descriptors without these
abbrev pub without_those : List Descriptor → List Descriptor → List Descriptor
without_those removed ds = drop_where (is_named_in removed) ds

-- the descriptors with these, each in place of the one of its key
abbrev pub with_those : List Descriptor → List Descriptor → List Descriptor
with_those added ds = put_each descriptor_cmp the_new added ds
