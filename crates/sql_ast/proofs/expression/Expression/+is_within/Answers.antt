use Rattle.std.proofs.Common.{arith, rules}
use Rattle.sql_ast.specs.Term.{term_of}
use Rattle.sql_ast.proofs.DepthLemmas.{one-le-depth}
use Rattle.sql_ast.proofs.expression.Expression.+is_within.Goals as goal

pub returns-then-limit-eq0 : goal.returns-then-limit-eq0
returns-then-limit-eq0 g t c = (λ h. absurd (search rules), λ h. absurd (omega (arith, one-le-depth (term_of c.args.self.now))))
