-- Descriptors stand in a total order.
use Rattle.std.proofs.Common.{Ordering}
use Rattle.std.specs.Cmp.{IsTotalOrder}
use Rattle.std.specs.Cmp.Lexicographic.{lists_total, options_total}
use Rattle.std.proofs.lemmas.Cmp.{nat_cmp_total, then_total}
use Rattle.sql_ast.specs.declared.privilege.Descriptor.{Descriptor}
use Rattle.abstract_database.specs.Lists.{name_cmp}
use Rattle.abstract_database.specs.Database.{action_number, grantor_name, grantee_name, descriptor_cmp}

-- the order of what f makes of each
pub ordered_by : {X K : Type 0} {cmp : K → K → Ordering} → IsTotalOrder cmp → (f : X → K) → IsTotalOrder (λ (a b : X). cmp (f a) (f b))
ordered_by total f = record { antisymm = λ a b. total.antisymm (f a) (f b); trans = λ a b c. total.trans (f a) (f b) (f c); congr = λ a b c. total.congr (f a) (f b) (f c) }

pub names_ordered : IsTotalOrder name_cmp
names_ordered = lists_total nat_cmp_total

pub descriptors_ordered : IsTotalOrder descriptor_cmp
descriptors_ordered =
    then_total (ordered_by names_ordered (λ (d : Descriptor). d.table))
    (then_total (ordered_by nat_cmp_total (λ (d : Descriptor). action_number d.action))
    (then_total (ordered_by (options_total nat_cmp_total) (λ (d : Descriptor). d.column))
    (then_total (ordered_by names_ordered (λ (d : Descriptor). grantor_name d.grantor)) (ordered_by names_ordered (λ (d : Descriptor). grantee_name d.grantee)))))
