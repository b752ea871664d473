use Rattle.std.proofs.Common.{◌≡◌, ◌∙◌, ◌++◌, Option, List, ℕ, true, sym, ap, subst}
use Rattle.std.specs.Prelude.{◌&&◌}
use Rattle.std.specs.List.{list_any}
use Rattle.sql_ast.specs.declared.role.Role.{Role}
use Rattle.abstract_database.specs.Database.{is_role_named}
use Rattle.sql_types.specs.declared.value.Value.TheVariants as value
use Rattle.sql_ast.specs.Layout.{Layout}
use Rattle.store.specs.Records.{entry_at}
use Rattle.row_codec.specs.Cells.{key_cell}
use Rattle.row_codec.specs.Rows.{row_prefix, Spells}
use Rattle.kept_verifiers.specs.Verifiers.{IsFoundKept}
use Rattle.kept_verifiers.proofs.Keeping.{layouts, none_kept, kept_read}
use Rattle.kept_verifiers.proofs.look_up.verifier_of.Goals as goal

pub returns-in_default-clause-kept : goal.returns-in_default-clause-kept
returns-in_default-clause-kept g c sound db shows = sym (none_kept (g.M.Map.state c.args.map.now).map c.args.catalogue.now db shows c.args.table.now c.args.role.now c.in_default.ensures)

pub returns-in-Ok-clause-kept : goal.returns-in-Ok-clause-kept
returns-in-Ok-clause-kept g c sound db shows =
    let records = (g.M.Map.state c.args.map.now).map in
    let d = c.args.catalogue.now in
    let name = c.args.table.now in
    let role = c.args.role.now in
    let t = c.in-Some.table.now in
    let key_is : c.deref.result.now ≡ row_prefix t.id ++ key_cell (value.Text role) =
    c.deref.ensures.value ∙ c.in-Ok.ensures ∙ ap (λ (n : ℕ). row_prefix n ++ key_cell (value.Text role)) c.id.ensures in
    let may : list_any (λ (r : Role). is_role_named role r && r.attributes.login) d.roles ≡ true =
    ap (λ (roles : List Role). list_any (λ (r : Role). is_role_named role r && r.attributes.login) roles) (sym c.roles.ensures.roles) ∙ sym c.may_log_in.ensures ∙ c.if-not-may_log_in.false in
    kept_read records d db shows name role t c.in-Some.ensures.0 c.in-Some.ensures.1 may (layouts d name t shows.defined.valid c.in-Some.ensures.0)
    (λ (kept : Option (List ℕ)). IsFoundKept kept c.text_at.result)
    (λ none. c.text_at.ensures.none sound (ap (λ (k : List ℕ). entry_at k records) key_is ∙ none))
    (λ rest v row at spells. c.text_at.ensures.some sound t.id rest v row (ap (λ (k : List ℕ). entry_at k records) key_is ∙ at)
    (subst (λ (l : Layout). Spells l rest v row) (sym c.columns.ensures) spells))
