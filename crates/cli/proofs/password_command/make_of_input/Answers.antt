use Rattle.std.proofs.Common.{◌≡◌, ◌∙◌, ℕ, List, ap, subst}
use Rattle.new_verifiers.specs.PasswordLines.{HasNoPassword, IsLine}
use Rattle.cli.specs.PasswordCommand.{input_fault}
use Rattle.cli.proofs.Makings.{drawn_before, line_given, refused_made}
use Rattle.cli.proofs.password_command.make_of_input.Goals as goal

pub returns-in_default-clause-made : goal.returns-in_default-clause-made
returns-in_default-clause-made g c =
    let old = g.Y.System.state c.args.system.now in
    let new = g.Y.System.state c.read_input.new.self in
    let read = c.in-Ok.input.items in
    let lacks : HasNoPassword read = subst HasNoPassword c.as_slice.ensures.value c.in_default.ensures in
    let is : c.input_fault.result ≡ input_fault read = c.input_fault.ensures ∙ ap input_fault c.as_slice-in_default.ensures.value in
    refused_made old new read c.in-Ok.ensures.read c.input_fault.result lacks is

pub returns-in-Ok-verifier_line-clause-made : goal.returns-in-Ok-verifier_line-clause-made
returns-in-Ok-verifier_line-clause-made g c =
    let old = g.Y.System.state c.args.system.now in
    let mid = g.Y.System.state c.read_input.new.self in
    let read = c.in-Ok.input.items in
    let password = c.in-Some.password.now in
    let line : IsLine read password = subst (λ (i : List ℕ). IsLine i password) c.as_slice.ensures.value c.in-Some.ensures.1 in
    record {
      password = password;
      salt = c.in-Ok-draw.salt;
      is_password = c.in-Some.ensures.0;
      given = line_given old mid read c.in-Ok.ensures.read password c.in-Some.ensures.0 line;
      salted = drawn_before old mid 0 c.in-Ok-draw.salt c.read_input.ensures.same c.read_input.ensures.draws c.in-Ok-draw.ensures.drawn;
      text_is = c.in-Ok-verifier_line.ensures;
    }
