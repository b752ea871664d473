use Rattle.std.proofs.Common.{refl, rules, inl}
use Rattle.sql_types.specs.Name.{IsName}
use Rattle.cli.proofs.runs.run_read_for.Goals as goal

pub returns-in_default : goal.returns-in_default
returns-in_default g c =
    let is : IsName c.args.admin.now = search rules in
    record {
      named = λ named. inl (record { status = c.exit_with.ensures.status; told = c.exit_with.ensures.told; silent = c.exit_with.ensures.silent }, refl);
      unnamed = λ unnamed. absurd (unnamed is);
    }
