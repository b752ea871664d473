use Rattle.std.proofs.Common.{◌≡◌, Some, refl}
use Rattle.cli.specs.declared.number.NumberOption.TheVariants.{Connections, Idle}
use Rattle.cli.specs.CommandLine.{ServeSocket, IsUnfit, lent_word}
use Rattle.cli.proofs.GivenSo.{handed_on, no_number_so}
use Rattle.cli.proofs.serve_words.serve_on_socket.Goals as goal

pub returns-in_err-connections-clause-refused : goal.returns-in_err-connections-clause-refused
returns-in_err-connections-clause-refused c =
    let given = ServeSocket c.args.file.now c.args.socket.now c.args.count_word.now (lent_word c.args.limit) in
    let fault = c.in_err-connections.field-0.0 in
    handed_on (IsUnfit (λ g. g ≡ given)) c.from_residual.result fault c.from_residual.ensures.1
    (no_number_so Connections given (Some c.args.count_word.now) refl fault c.in_err-connections.ensures.refused)

pub returns-in_err-idle-clause-refused : goal.returns-in_err-idle-clause-refused
returns-in_err-idle-clause-refused c =
    let given = ServeSocket c.args.file.now c.args.socket.now c.args.count_word.now (lent_word c.args.limit) in
    let fault = c.in_err-idle.field-0.0 in
    handed_on (IsUnfit (λ g. g ≡ given)) c.from_residual-in_err-idle.result fault c.from_residual-in_err-idle.ensures.1
    (no_number_so Idle given (lent_word c.args.limit) refl fault c.in_err-idle.ensures.refused)
