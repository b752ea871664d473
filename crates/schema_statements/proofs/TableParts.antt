-- Parts of a table with other flags are parts of a table.
use Rattle.std.proofs.Common.{Bool}
use Rattle.catalogue.specs.declared.table.TableParts.{TableParts}
use Rattle.catalogue.specs.Tables.{AreParts}

pub flagged : (p : TableParts) (row_security forced : Bool) → AreParts p → AreParts (record p { row_security = row_security; forced = forced })
flagged p row_security forced are = record {
  order = record {
    descriptors = are.order.descriptors;
    descriptor_order = are.order.descriptor_order;
    policies = are.order.policies;
    policy_order = are.order.policy_order;
  };
  bound = are.bound;
}
