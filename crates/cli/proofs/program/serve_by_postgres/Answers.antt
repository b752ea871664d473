use Rattle.std.proofs.Common.{◌∙◌, ap}
use Rattle.cli.proofs.ServingOrders.{served_at_door, served_with_passwords}
use Rattle.cli.proofs.program.serve_by_postgres.Goals as goal

pub returns-in-Anyone : goal.returns-in-Anyone
returns-in-Anyone g c =
    served_at_door (λ talk. talk.login.place) (λ talk. talk.login.drawn) c.args.place c.by_itself.result c.new-maker.result.door c.by_itself.ensures c.new-maker.ensures c.in-Anyone.is c.serve_many.ensures

pub returns-in-Passwords : goal.returns-in-Passwords
returns-in-Passwords g c =
    let door = c.new-maker-in-Passwords.result.door in
    let made = c.new-maker-in-Passwords.ensures in
    served_with_passwords (λ talk. talk.login.place) (λ talk. talk.login.drawn) door.draw c.args.place c.by_itself.result c.in-Passwords.table c.in-Passwords.mock door.table.now door.mock.now c.by_itself.ensures c.in-Passwords.is
    (ap (λ d. d.table.now) made ∙ c.new-door.ensures.table) (ap (λ d. d.mock.now) made ∙ c.new-door.ensures.mock)
    c.serve_many-in-Passwords.ensures
