use Rattle.std.proofs.Common.{◌≡◌, ◌∙◌, ap, List, ℕ, true, false, length}
use Rattle.std.specs.Bool.{◌==◌}
use Rattle.sql_ast.specs.Read.{IsReadGrantee}
use Rattle.stored_database.specs.Items.{IsStoredGrantor}
use Rattle.catalogue_loading.specs.Parties.{AreParties, grantor_bytes, grantee_bytes}
use Rattle.catalogue_loading.proofs.Fronts.{no_second, pair_ends}
use Rattle.catalogue_loading.proofs.descriptor_records.decode_parties.Goals as goal

pub returns-in-Err-grantee_at : goal.returns-in-Err-grantee_at
returns-in-Err-grantee_at c =
    no_second IsStoredGrantor grantor_bytes IsReadGrantee grantee_bytes AreParties (λ p is. is.grantor) (λ p is. is.grantee)
    c.args.bytes.now c.in-Ok.front.0 c.in-Ok.front.1.now c.in-Err-grantee_at.fault c.in-Ok.ensures.1 c.in-Err-grantee_at.ensures

pub returns-then-not-is_empty : goal.returns-then-not-is_empty
returns-then-not-is_empty c p is =
    let ends = pair_ends IsStoredGrantor grantor_bytes IsReadGrantee grantee_bytes AreParties (λ p is. is.grantor) (λ p is. is.grantee)
    c.args.bytes.now c.in-Ok.front.0 c.in-Ok-grantee_at.front.0 c.in-Ok.front.1.now c.in-Ok-grantee_at.front.1.now c.in-Ok.ensures.1 c.in-Ok-grantee_at.ensures.1 p is in
    let wrong : false ≡ true = c.if-not-is_empty.ensures ∙ ap (λ (zs : List ℕ). length zs == 0) ends in
    cc
