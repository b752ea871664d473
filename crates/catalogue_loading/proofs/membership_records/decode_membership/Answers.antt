use Rattle.std.proofs.Common.{◌≡◌, ◌∙◌, ap, ◌∷◌, List, ℕ, rules, true, false, length}
use Rattle.std.specs.Bool.{◌==◌}
use Rattle.catalogue_loading.proofs.Named.{no_member, more_after}
use Rattle.catalogue_loading.proofs.membership_records.decode_membership.Goals as goal

pub returns-in-Err-name_at : goal.returns-in-Err-name_at
returns-in-Err-name_at c =
    let key : c.args.entry.now.0 ≡ 2 ∷ c.in-Some-eq2-default.names.now = search rules in
    no_member c.args.entry.now c.in-Some-eq2-default.names.now c.in-Ok.front.0 c.in-Ok.front.1.now c.in-Err-name_at.fault key c.in-Ok.ensures.1 c.in-Err-name_at.ensures

pub returns-then-not-is_empty : goal.returns-then-not-is_empty
returns-then-not-is_empty c m is =
    let key : c.args.entry.now.0 ≡ 2 ∷ c.in-Some-eq2-default.names.now = search rules in
    let wrong : false ≡ true = c.if-not-is_empty.ensures ∙ ap (λ (zs : List ℕ). length zs == 0) (more_after c.args.entry.now c.in-Some-eq2-default.names.now c.in-Ok.front.0 c.in-Ok-name_at.front.0 c.in-Ok.front.1.now c.in-Ok-name_at.front.1.now m key c.in-Ok.ensures.1 c.in-Ok-name_at.ensures.1 is) in
    cc
