use Rattle.std.proofs.Common.{ℕ, List, [], ◌++◌, OnOk, ap, sym, ◌∙◌, subst}
use Rattle.store.specs.Records.{Records}
use Rattle.row_codec.specs.Rows.{row_prefix}
use Rattle.catalogue_changes.specs.Differences.{differences}
use Rattle.catalogue_changes.specs.Entries.{Adds}
use Rattle.catalogue_changes.specs.Reads.{HaveKeySizes}
use Rattle.catalogue_changes.proofs.RemovalLemmas.{over_prefix}
use Rattle.catalogue_changes.proofs.row_removals.push_row_removals.Goals as goal

pub returns-clause-ok : goal.returns-clause-ok
returns-clause-ok g c = λ s.
    let prefix = c.deref.ensures.value ∙ c.in_ok-push_row_prefix.ensures.ok ∙ ap (λ (ps : List ℕ). ps ++ row_prefix c.args.table) c.new-prefix.ensures.items in
    let start = over_prefix c.in_ok-cursor.cursor c.deref.result.now (row_prefix c.args.table) (g.M.Map.state c.args.map.now).map c.in_ok-cursor.ensures prefix in
    subst (λ (es : Records). OnOk c.push_removals.result (Adds (differences es []) c.args.out.now c.push_removals.new.out)) start (c.push_removals.ensures.ok s)

pub returns-clause-undamaged : goal.returns-clause-undamaged
returns-clause-undamaged g c = λ s sizes.
    let prefix = c.deref.ensures.value ∙ c.in_ok-push_row_prefix.ensures.ok ∙ ap (λ (ps : List ℕ). ps ++ row_prefix c.args.table) c.new-prefix.ensures.items in
    let start = over_prefix c.in_ok-cursor.cursor c.deref.result.now (row_prefix c.args.table) (g.M.Map.state c.args.map.now).map c.in_ok-cursor.ensures prefix in
    c.push_removals.ensures.undamaged s (subst HaveKeySizes (sym start) sizes)
