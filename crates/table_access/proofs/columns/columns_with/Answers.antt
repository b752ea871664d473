use Rattle.std.proofs.Common.{◌≡◌, ℕ, length, ◌+◌, ◌-◌, ◌<◌, ◌≤◌, ◌∷◌, [], ◌++◌, ap, sym, ◌∙◌, subst, arith}
use Rattle.std.specs.List.{range_with_len}
use Rattle.abstract_database.specs.Privileges.{on_column, has_privilege}
use Rattle.descriptions.proofs.Finding.{Finds, takes, passes}
use Rattle.table_access.proofs.Ranges.{range_from, range_end}
use Rattle.table_access.proofs.columns.columns_with.Goals.{then-has_privilege+in_ok-push, else-has_privilege}
use Rattle.table_access.proofs.columns.columns_with.Goals as goal

pub loop-index-preserved : goal.loop-index-preserved
loop-index-preserved c = λ db described among.
    let test = λ (i : ℕ). has_privilege db c.args.role.now c.args.table.now.definition.name (on_column c.args.action i) in
    let i = c.loop-index.index in
    let end = c.len-index-end.result in
    let old = c.loop-index.found.items in
    let now = subst (λ r. Finds test (range_with_len 0 end) r old) (range_from i end c.loop-index-test.true) (c.loop-index.invariant db described among) in
    let told = c.has_privilege.ensures db described among in
    elim c.if-has_privilege.branch [
      | then-has_privilege+in_ok-push w ↦
          subst (Finds test (range_with_len 0 end) (range_with_len (i + 1) (end - (i + 1)))) (sym (ap (λ v. v.items) w.found-is ∙ w.in_ok-push.ensures.items))
          (takes test (range_with_len 0 end) i (range_with_len (i + 1) (end - (i + 1))) old (sym told ∙ w.if-has_privilege.true) now)
      | else-has_privilege w ↦
          subst (λ l. Finds test (range_with_len 0 end) (range_with_len (i + 1) (end - (i + 1))) l) (ap (λ v. v.items) (sym w.found-is))
          (passes test (range_with_len 0 end) i (range_with_len (i + 1) (end - (i + 1))) old (sym told ∙ w.if-has_privilege.false) now)
    ]

pub returns : goal.returns
returns c = λ db described among.
    let test = λ (i : ℕ). has_privilege db c.args.role.now c.args.table.now.definition.name (on_column c.args.action i) in
    let past : c.len-index-end.result ≤ c.loop-index.index = omega (arith, c.loop-index-test.false) in
    range_end test c.loop-index.index c.len-index-end.result _ c.loop-index.found.items past (c.len-index-end.ensures ∙ ap (λ l. length l.columns) c.columns.ensures) (c.loop-index.invariant db described among)
