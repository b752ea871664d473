use Rattle.expr_parser.proofs.Descent.{found, missing}
use Rattle.expr_parser.proofs.Primaries.{member_read, member_alone_ok}
use Rattle.expr_parser.proofs.member.member_test_at.Goals as goal

pub returns-in_ok-member_test-in-Some : goal.returns-in_ok-member_test-in-Some
returns-in_ok-member_test-in-Some c =
    let r = found _ _ _ _ _ _ c.requires.operand c.in-Some.is in
    rw c.in_ok-member_test-in-Some.ensures (member_read c.requires.words r.0 r.1)

pub returns-in-None : goal.returns-in-None
returns-in-None c = member_alone_ok _ _ _ c.requires.words (missing _ _ _ _ c.requires.operand c.in-None.is) c.column_at.ensures
