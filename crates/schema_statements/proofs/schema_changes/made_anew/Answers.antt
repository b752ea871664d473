use Rattle.std.proofs.Common.{◌≡◌, ◌∙◌, List, sym, ap, subst}
use Rattle.std.proofs.lemmas.Result.{IfOk-weaker}
use Rattle.sql_ast.specs.declared.privilege.Descriptor.{Descriptor}
use Rattle.abstract_database.specs.Privileges.{with_descriptors}
use Rattle.stored_database.specs.Definitions.{TableDefinition}
use Rattle.catalogue.specs.Tables.{AreParts}
use Rattle.schema_statements.specs.DescriptorChanges.{without_those}
use Rattle.schema_statements.proofs.Anew.{anew_is_after, parts_anew}
use Rattle.schema_statements.proofs.schema_changes.made_anew.Goals as goal

pub new-requires : goal.new-requires
new-requires c =
    let change = c.args.change.now in
    let t = c.args.table.now in
    let p = c.in_ok-parts.parts in
    let made : c.from_vec.result ≡ with_descriptors change.added (without_those change.added (without_those change.removed t.descriptors)) =
    c.from_vec.ensures ∙ c.in_ok-grant.ensures.granted
    ∙ ap (λ (l : List Descriptor). with_descriptors l c.in_ok-descriptors.descriptors.items) c.added-2.ensures.added
    ∙ ap (with_descriptors change.added) (c.in_ok-descriptors.ensures
    ∙ ap (λ (l : List Descriptor). without_those l c.as_slice.result.now) c.added.ensures.added
    ∙ ap (without_those change.added) (c.as_slice.ensures.value ∙ c.in_ok-left.ensures
    ∙ ap (λ (l : List Descriptor). without_those l c.descriptors.result.now) c.removed.ensures
    ∙ ap (without_those change.removed) c.descriptors.ensures.descriptors)) in
    subst (λ (l : List Descriptor). AreParts (record p { descriptors = l })) (sym made) (parts_anew change t c.requires p c.in_ok-parts.ensures.parts c.in_ok-parts.ensures.table)

pub returns : goal.returns
returns c =
    let change = c.args.change.now in
    let t = c.args.table.now in
    let p = c.in_ok-parts.parts in
    let is = c.in_ok-parts.ensures.table in
    let made : c.from_vec.result ≡ with_descriptors change.added (without_those change.added (without_those change.removed t.descriptors)) =
    c.from_vec.ensures ∙ c.in_ok-grant.ensures.granted
    ∙ ap (λ (l : List Descriptor). with_descriptors l c.in_ok-descriptors.descriptors.items) c.added-2.ensures.added
    ∙ ap (with_descriptors change.added) (c.in_ok-descriptors.ensures
    ∙ ap (λ (l : List Descriptor). without_those l c.as_slice.result.now) c.added.ensures.added
    ∙ ap (without_those change.added) (c.as_slice.ensures.value ∙ c.in_ok-left.ensures
    ∙ ap (λ (l : List Descriptor). without_those l c.descriptors.result.now) c.removed.ensures
    ∙ ap (without_those change.removed) c.descriptors.ensures.descriptors)) in
    let after = made ∙ anew_is_after change t c.requires p c.in_ok-parts.ensures.parts is in
    IfOk-weaker c.new.result _ _ (λ (table : TableDefinition) made_of.
    made_of ∙ ap (λ (u : TableDefinition). record u { descriptors = c.from_vec.result }) is ∙ ap (λ (l : List Descriptor). record t { descriptors = l }) after) c.new.ensures
