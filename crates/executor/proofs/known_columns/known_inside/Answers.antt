use Rattle.std.proofs.Common.{List, ℕ, None, ap, subst}
use Rattle.executor.specs.declared.known_columns.KnownColumn.{KnownColumn}
use Rattle.executor.specs.declared.known_columns.KnownColumns.{KnownColumns}
use Rattle.executor.specs.Known.{KnowsMore}
use Rattle.executor.proofs.Known.{inside_known}
use Rattle.executor.proofs.known_columns.known_inside.Goals as goal

pub returns-in_ok-push_known-in-Some : goal.returns-in_ok-push_known-in-Some
returns-in_ok-push_known-in-Some c = λ id.
    let columns = c.args.columns.now in
    let s = c.in-Some.start.now in
    let t = c.in-Some.stop.now in
    let old : KnownColumns = record { columns = c.new.result; least = None; greatest = None } in
    let empty = ap (λ (cs : List KnownColumn). let k : KnownColumns = record { columns = cs; least = None; greatest = None } in k) c.new.ensures in
    let knows = subst (λ (key : List ℕ). KnowsMore columns s t key old c.push_known.new.known) c.key.ensures.key c.in_ok-push_known-in-Some.ensures in
    inside_known id columns c.args.start.now c.args.stop.now s t old c.push_known.new.known empty c.key.ensures.layout c.in-Some.ensures knows
