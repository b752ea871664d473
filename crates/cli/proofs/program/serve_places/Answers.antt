use Rattle.std.proofs.Common.{rules, ◌≡◌, ◌∙◌, ap}
use Rattle.cli.specs.Program.{bound_places}
use Rattle.cli.proofs.ServingOrders.{served_at_each}
use Rattle.cli.proofs.program.serve_places.Goals as goal

pub returns : goal.returns
returns g c =
    let bound : c.as_slice.result.now ≡ bound_places c.args.places.now = search rules in
    let made : c.new-maker.result.places.items ≡ c.args.places.now = ap (λ v. v.items) c.new-maker.ensures ∙ c.in-Ok-from_slice.ensures.items in
    served_at_each c.new-maker.result.draw c.as_slice.result c.args.places.now c.new-maker.result.places.items c.each_of.result bound c.each_of.ensures made c.serve_many.ensures
