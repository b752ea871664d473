use Rattle.std.proofs.Common.{◌≡◌, ◌∙◌, true, false, drop, ap, sym}
use Rattle.journal.specs.Chain.{Part, Holds}
use Rattle.journal.specs.Sectors.{may_be, part_at}
use Rattle.journal.proofs.Written.{blank_at, unmarked_at, unfit_at, held_at}
use Rattle.journal.proofs.SectorsRead.{found_where, blank_where}
use Rattle.journal.proofs.sector.read_sector.Goals as goal

pub returns-then-is_zero-clause-exact : goal.returns-then-is_zero-clause-exact
returns-then-is_zero-clause-exact c = sym (blank_at c.args.room c.args.bytes.now (sym c.if-is_zero.ensures))

pub returns-then-is_zero-clause-found : goal.returns-then-is_zero-clause-found
returns-then-is_zero-clause-found c = found_where _ _ _ c.fits-bytes c.told-bytes (returns-then-is_zero-clause-exact c)

pub returns-then-is_zero-clause-blank : goal.returns-then-is_zero-clause-blank
returns-then-is_zero-clause-blank c = blank_where _ _ _ (returns-then-is_zero-clause-exact c)

pub returns-then-not-has_magic-clause-exact : goal.returns-then-not-has_magic-clause-exact
returns-then-not-has_magic-clause-exact c = sym (unmarked_at c.args.room c.args.bytes.now (sym c.if-is_zero.ensures) (sym c.if-not-has_magic.ensures))

pub returns-then-not-has_magic-clause-found : goal.returns-then-not-has_magic-clause-found
returns-then-not-has_magic-clause-found c = found_where _ _ _ c.fits-bytes c.told-bytes (returns-then-not-has_magic-clause-exact c)

pub returns-then-not-has_magic-clause-blank : goal.returns-then-not-has_magic-clause-blank
returns-then-not-has_magic-clause-blank c = blank_where _ _ _ (returns-then-not-has_magic-clause-exact c)

pub returns-then-not-may_be-clause-exact : goal.returns-then-not-may_be-clause-exact
returns-then-not-may_be-clause-exact c =
    let unfit : may_be c.args.room (part_at c.args.bytes.now) ≡ false = ap (may_be c.args.room) (sym c.tag_in-tag.ensures) ∙ sym (c.if-not-may_be.ensures (drop 24 c.args.bytes.now)) in
    sym (unfit_at c.args.room c.args.bytes.now (sym c.if-is_zero.ensures) (sym c.if-not-has_magic.ensures) unfit)

pub returns-then-not-may_be-clause-found : goal.returns-then-not-may_be-clause-found
returns-then-not-may_be-clause-found c = found_where _ _ _ c.fits-bytes c.told-bytes (returns-then-not-may_be-clause-exact c)

pub returns-then-not-may_be-clause-blank : goal.returns-then-not-may_be-clause-blank
returns-then-not-may_be-clause-blank c = blank_where _ _ _ (returns-then-not-may_be-clause-exact c)

pub returns-clause-exact : goal.returns-clause-exact
returns-clause-exact c =
    let may : may_be c.args.room (part_at c.args.bytes.now) ≡ true = ap (may_be c.args.room) (sym c.tag_in-tag.ensures) ∙ sym (c.if-not-may_be.ensures (drop 24 c.args.bytes.now)) in
    ap (λ (part : Part). Holds part) c.tag_in-tag.ensures
    ∙ sym (held_at c.args.room c.args.bytes.now (sym c.if-is_zero.ensures) (sym c.if-not-has_magic.ensures) may)

pub returns-clause-found : goal.returns-clause-found
returns-clause-found c = found_where _ _ _ c.fits-bytes c.told-bytes (returns-clause-exact c)

pub returns-clause-blank : goal.returns-clause-blank
returns-clause-blank c = blank_where _ _ _ (returns-clause-exact c)
