use Rattle.std.proofs.Common.{rules, arith}
use Rattle.std.proofs.lemmas.Grind.{common_steps}
use Rattle.dumps.specs.Form.{in_pages}
use Rattle.dumps.proofs.Joined.{long_when_filled}
use Rattle.dumps.proofs.bytes.fill_pages.Goals as goal

filled : goal.returns-clause-filled
unfolding in_pages
filled c = first_of (search rules, grind (arith, common_steps))

pub returns-clause-filled : goal.returns-clause-filled
returns-clause-filled c = filled c

pub returns-clause-long : goal.returns-clause-long
returns-clause-long c = long_when_filled c.push_zeros.result c.push_zeros.new.out.items c.args.out.now.items (filled c)
