use Rattle.std.proofs.Common.{inr}
use Rattle.sessions.proofs.Describing.{admitted_told, refused_told}
use Rattle.sessions.proofs.statements.OpenSession.describe.Goals as goal

pub returns-in-Ok-None : goal.returns-in-Ok-None
returns-in-Ok-None g c read records db holder sessions there =
    admitted_told c.args.self.now c.in-OnDatabase.over records db holder sessions there c.args.statement.now c.seen_catalogue-seen.result.now c.in-Ok-None.field-0 c.in-OnDatabase.is c.seen_catalogue-seen.ensures
    c.in-Ok-None.ensures c.describe.result c.in-Ok-None.field-0-is read c.describe.ensures.describes

pub returns-in-Ok-Some : goal.returns-in-Ok-Some
returns-in-Ok-Some g c read records db holder sessions there =
    inr (refused_told c.args.self.now c.in-OnDatabase.over records db holder sessions there c.args.statement.now c.seen_catalogue-seen.result.now c.in-Ok-Some.field-0 c.in-OnDatabase.is c.seen_catalogue-seen.ensures
    c.in-Ok-Some.ensures c.in-Ok-Some.code c.in-Ok-Some.field-0-is)
