use Rattle.dumps.specs.Form.{fields}
use Rattle.dumps.proofs.Joined.{three_pushed}
use Rattle.dumps.proofs.bytes.head_fields.Goals as goal

pub returns : goal.returns
unfolding fields
returns c = three_pushed _ _ _ _ _ _ _ _ c.in_ok-bytes.ensures.items c.in_ok-push_u32.ensures c.in_ok-push_u32-2.ensures c.in_ok-push_u64.ensures
