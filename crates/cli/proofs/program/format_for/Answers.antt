use Rattle.std.proofs.Common.{refl, rules, inl}
use Rattle.sql_types.specs.Name.{IsName}
use Rattle.cli.proofs.Changes.{same_itself}
use Rattle.cli.specs.declared.ending.Ending.TheVariants.{Fault}
use Rattle.cli.specs.declared.fault.CommandFault.TheVariants.{Memory}
use Rattle.cli.proofs.program.format_for.Goals as goal

pub returns-in_default : goal.returns-in_default
returns-in_default g c =
    let is : IsName c.args.admin.now = search rules in
    record {
      does = record {
        named = λ named. (
          Fault Memory,
          inl (record { ends = refl; same = same_itself (g.Y.System.state c.args.system.now); silent = refl }),
          record { status = c.exit_with.ensures.status; told = c.exit_with.ensures.told; silent = c.exit_with.ensures.silent },
        );
        unnamed = λ unnamed. absurd (unnamed is);
      };
      unnamed = λ unnamed. absurd (unnamed is);
    }
