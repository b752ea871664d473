use Rattle.std.proofs.Common.{◌≡◌, ◌∙◌, Bool, true, false, refl, rules, sym, subst}
use Rattle.cli.specs.Restoring.{ChecksBy}
use Rattle.cli.proofs.Changes.{same_itself}
use Rattle.cli.proofs.file_restores.check_as_dump.Goals as goal

pub returns-then-has_no_database : goal.returns-then-has_no_database
returns-then-has_no_database g c =
    let holds : c.has_no_database.result ≡ true = search rules in
    subst (λ (b : Bool). ChecksBy b g.Y.Device.Device (g.Y.System.state c.args.system.now) c.args.path.now c.args.checked c.read_as_dump.result (g.Y.System.state c.read_as_dump.new.system)) (sym holds ∙ c.has_no_database.ensures) c.read_as_dump.ensures

pub returns-else-has_no_database : goal.returns-else-has_no_database
returns-else-has_no_database g c =
    let s = g.Y.System.state c.args.system.now in
    let fails : c.has_no_database.result ≡ false = search rules in
    subst (λ (b : Bool). ChecksBy b g.Y.Device.Device s c.args.path.now c.args.checked c.args.checked s) (sym fails ∙ c.has_no_database.ensures) (refl, λ is. same_itself s)
