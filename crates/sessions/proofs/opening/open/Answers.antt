use Rattle.std.proofs.Common.{◌∙◌, sym, arith}
use Rattle.sessions.proofs.OpenLemmas.{in_use, no_place, no_login, opened}
use Rattle.sessions.proofs.opening.open.Goals as goal

pub returns-then-contains_key-clause-opens : goal.returns-then-contains_key-clause-opens
returns-then-contains_key-clause-opens c db holder same held =
    in_use db holder c.args.sessions.now.entries c.args.number c.args.login.now _ (sym c.contains_key.ensures ∙ c.if-contains_key.true) c.refused.ensures

pub returns-then-count_own-ge-MAX_SESSIONS-clause-opens : goal.returns-then-count_own-ge-MAX_SESSIONS-clause-opens
returns-then-count_own-ge-MAX_SESSIONS-clause-opens c db holder same held =
    no_place db holder c.args.sessions.now.entries c.args.number c.args.login.now _ (sym c.contains_key.ensures ∙ c.if-contains_key.false) (omega (arith, c.count_own.ensures, c.if-count_own-ge-MAX_SESSIONS.true)) c.refused-then-count_own-ge-MAX_SESSIONS.ensures

pub returns-in_default-clause-opens : goal.returns-in_default-clause-opens
returns-in_default-clause-opens c db holder same held =
    no_login db holder c.args.sessions.now.entries c.args.number c.args.login.now _ (sym c.contains_key.ensures ∙ c.if-contains_key.false) (omega (arith, c.count_own.ensures, c.if-count_own-ge-MAX_SESSIONS.false))
    (sym c.in_default.is ∙ c.in_ok-login.ensures db same) c.refused-in_default.ensures

pub returns-clause-opens : goal.returns-clause-opens
returns-clause-opens c db holder same held =
    opened db holder c.args.sessions.now.entries c.args.number c.args.login.now _ _ _ _ (sym c.contains_key.ensures ∙ c.if-contains_key.false) (omega (arith, c.count_own.ensures, c.if-count_own-ge-MAX_SESSIONS.false))
    (sym c.in-Some.is ∙ c.in_ok-login.ensures db same) c.in_ok-role.ensures c.new.ensures c.done.ensures held
