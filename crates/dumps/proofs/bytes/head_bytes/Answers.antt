use Rattle.std.proofs.Common.{length, ap, ◌∙◌, arith}
use Rattle.dumps.specs.Form.{head, in_pages}
use Rattle.dumps.proofs.HeadBytes.{fields_long}
use Rattle.dumps.proofs.bytes.head_bytes.Goals as goal

pub returns-clause-spelled : goal.returns-clause-spelled
unfolding head
returns-clause-spelled c = c.in_ok-fill_pages.ensures.filled ∙ ap in_pages c.in_ok-bytes.ensures

pub returns-clause-long : goal.returns-clause-long
returns-clause-long c = omega (arith, c.in_ok-fill_pages.ensures.long, ap length c.in_ok-bytes.ensures, fields_long c.args.number)
