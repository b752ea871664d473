use Rattle.std.proofs.Common.{subst, sym}
use Rattle.cli.specs.declared.describe_words.DescribeAsked.{DescribeAsked}
use Rattle.cli.specs.Describing.{IsDescribedFor}
use Rattle.cli.proofs.describing.print_asked.Goals as goal

pub returns-in-Table : goal.returns-in-Table
returns-in-Table g c = subst (λ (a : DescribeAsked). IsDescribedFor c.args.catalogue.now a c.args.json (g.K.Sink.held c.args.out.now) c.print_table.result (g.K.Sink.held c.print_table.new.out)) (sym c.in-Table.is) c.print_table.ensures

pub returns-in-Powers : goal.returns-in-Powers
returns-in-Powers g c = subst (λ (a : DescribeAsked). IsDescribedFor c.args.catalogue.now a c.args.json (g.K.Sink.held c.args.out.now) c.print_powers.result (g.K.Sink.held c.print_powers.new.out)) (sym c.in-Powers.is) c.print_powers.ensures

pub returns-in-Role : goal.returns-in-Role
returns-in-Role g c = subst (λ (a : DescribeAsked). IsDescribedFor c.args.catalogue.now a c.args.json (g.K.Sink.held c.args.out.now) c.print_role.result (g.K.Sink.held c.print_role.new.out)) (sym c.in-Role.is) c.print_role.ensures

pub returns-in-Database : goal.returns-in-Database
returns-in-Database g c = subst (λ (a : DescribeAsked). IsDescribedFor c.args.catalogue.now a c.args.json (g.K.Sink.held c.args.out.now) c.print_role-in-Database.result (g.K.Sink.held c.print_role-in-Database.new.out)) (sym c.in-Database.is) c.print_role-in-Database.ensures

pub returns-in-Since : goal.returns-in-Since
returns-in-Since g c = subst (λ (a : DescribeAsked). IsDescribedFor c.args.catalogue.now a c.args.json (g.K.Sink.held c.args.out.now) c.print_role-in-Since.result (g.K.Sink.held c.print_role-in-Since.new.out)) (sym c.in-Since.is) c.print_role-in-Since.ensures
