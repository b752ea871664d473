use Rattle.std.proofs.Common.{◌∙◌, List, bytes_eq, sym, ap, arith}
use Rattle.std.specs.List.{list_any}
use Rattle.std.proofs.lemmas.List.{take_all}
use Rattle.sql_ast.specs.declared.privilege.Descriptor.{Descriptor}
use Rattle.abstract_database.specs.Privileges.{grant_option_holders}
use Rattle.grant_graph.proofs.Holders.{none_more, one_holds}
use Rattle.grant_graph.proofs.acting.holds_option.Goals as goal

pub loop-descriptor-preserved : goal.loop-descriptor-preserved
loop-descriptor-preserved c =
    none_more c.args.table.now c.args.privilege (bytes_eq c.args.role.now) c.args.descriptors.now c.loop-descriptor.descriptor-index c.descriptor-item.result c.loop-descriptor-test.true c.descriptor-item.is c.loop-descriptor.invariant
    (ap (list_any (bytes_eq c.args.role.now)) (sym c.holder.ensures) ∙ sym c.is_holder-holds.ensures ∙ c.if-holds.false)

pub returns-then-holds : goal.returns-then-holds
returns-then-holds c =
    sym (one_holds c.args.table.now c.args.privilege (bytes_eq c.args.role.now) c.args.descriptors.now c.loop-descriptor.descriptor-index c.descriptor-item.result c.loop-descriptor-test.true c.descriptor-item.is
    (ap (list_any (bytes_eq c.args.role.now)) (sym c.holder.ensures) ∙ sym c.is_holder-holds.ensures ∙ c.if-holds.true))

pub returns : goal.returns
returns c =
    sym (ap (λ (l : List Descriptor). list_any (bytes_eq c.args.role.now) (grant_option_holders l c.args.table.now c.args.privilege)) (sym (take_all c.loop-descriptor.descriptor-index c.args.descriptors.now (omega (arith, c.loop-descriptor-test.false)))) ∙ c.loop-descriptor.invariant)
