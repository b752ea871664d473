use Rattle.std.proofs.Common.{ℕ, List, Option, Ok, IfSome, sym, subst}
use Rattle.sql_ast.specs.declared.statement.Statement.{Statement}
use Rattle.sessions.specs.Readings.{ReadsText}
use Rattle.sessions.proofs.kept_text.KeptText.take.Goals as goal

pub returns-clause-reads : goal.returns-clause-reads
returns-clause-reads c =
    subst (λ (text : List ℕ). IfSome c.take.result (λ s. ReadsText text (Ok s))) c.self.view_is
    (subst (λ (kept : Option Statement). IfSome kept (λ s. ReadsText c.self.inside.text (Ok s))) (sym c.take.ensures.value) c.self.invariant)
