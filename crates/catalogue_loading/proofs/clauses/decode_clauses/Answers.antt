use Rattle.std.proofs.Common.{◌≡◌, ◌∙◌, ap, List, ℕ, true, false, length}
use Rattle.std.specs.Bool.{◌==◌}
use Rattle.stored_database.specs.RecordFormat.{clause_bytes}
use Rattle.catalogue_loading.specs.Clauses.{AreStoredClauses, IsStoredClauseIfAny}
use Rattle.catalogue_loading.proofs.Fronts.{no_second, pair_ends}
use Rattle.catalogue_loading.proofs.clauses.decode_clauses.Goals as goal

pub returns-in-Err-clause_at : goal.returns-in-Err-clause_at
returns-in-Err-clause_at c =
    no_second IsStoredClauseIfAny clause_bytes IsStoredClauseIfAny clause_bytes AreStoredClauses (λ p is. is.using) (λ p is. is.check)
    c.args.bytes.now c.in-Ok.front.0 c.in-Ok.front.1.now c.in-Err-clause_at.fault c.in-Ok.ensures.1 c.in-Err-clause_at.ensures

pub returns-then-not-is_empty : goal.returns-then-not-is_empty
returns-then-not-is_empty c p is =
    let ends = pair_ends IsStoredClauseIfAny clause_bytes IsStoredClauseIfAny clause_bytes AreStoredClauses (λ p is. is.using) (λ p is. is.check)
    c.args.bytes.now c.in-Ok.front.0 c.in-Ok-clause_at.front.0 c.in-Ok.front.1.now c.in-Ok-clause_at.front.1.now c.in-Ok.ensures.1 c.in-Ok-clause_at.ensures.1 p is in
    let wrong : false ≡ true = c.if-not-is_empty.ensures ∙ ap (λ (zs : List ℕ). length zs == 0) ends in
    cc
