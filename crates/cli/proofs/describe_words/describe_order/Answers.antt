use Rattle.std.proofs.Common.{ap, refl, rules}
use Rattle.cli.specs.CommandLine.{role_asked}
use Rattle.cli.specs.DescribeWords.{given_for}
use Rattle.cli.proofs.GivenWords.{no_name}
use Rattle.cli.proofs.describe_words.describe_order.Goals as goal

pub returns-then-not-is_name-clause-refused : goal.returns-then-not-is_name-clause-refused
returns-then-not-is_name-clause-refused c =
    let none = no_name c.in-Role.name.now c.is_name.result c.is_name.ensures (search rules) in
    (given_for c.args.file.now c.args.asked c.args.json, refl, ap role_asked c.in-Role.is, none)
