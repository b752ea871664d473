use Rattle.std.proofs.Common.{◌≡◌, ◌∙◌, true, false, ap, sym}
use Rattle.std.specs.Str.{bytes_eq}
use Rattle.page_roots.specs.Root.{root_bytes}
use Rattle.page_roots.specs.Sector.{fields_in}
use Rattle.page_roots.specs.declared.sector.RootSector.TheVariants.{Found}
use Rattle.page_roots.proofs.Reading.{found_where}
use Rattle.page_roots.proofs.Reading.{found_has_magic}
use Rattle.page_roots.proofs.Spelled.{empty_at, found_at, unfit_at, misspelled_at}
use Rattle.page_roots.proofs.sector.read_root.Goals as goal

pub returns-then-is_zero-clause-exact : goal.returns-then-is_zero-clause-exact
returns-then-is_zero-clause-exact c = sym (empty_at c.args.sector c.args.bytes.now (sym c.if-is_zero.ensures))

pub returns-then-is_zero-clause-found : goal.returns-then-is_zero-clause-found
returns-then-is_zero-clause-found c = found_where _ _ _ c.fits-bytes c.told-bytes (returns-then-is_zero-clause-exact c)

pub returns-then-eq-clause-exact : goal.returns-then-eq-clause-exact
returns-then-eq-clause-exact c =
    let spelled : bytes_eq c.args.bytes.now (root_bytes (fields_in c.args.bytes.now)) ≡ true = ap (bytes_eq c.args.bytes.now) (sym (c.bytes.ensures.spelled ∙ ap root_bytes c.in-Some.ensures.some.1)) ∙ sym c.if-eq.ensures in
    ap Found c.in-Some.ensures.some.1 ∙ sym (found_at c.args.sector c.args.bytes.now (sym c.if-is_zero.ensures) c.in-Some.ensures.some.0 spelled)

pub returns-then-eq-clause-found : goal.returns-then-eq-clause-found
returns-then-eq-clause-found c = found_where _ _ _ c.fits-bytes c.told-bytes (returns-then-eq-clause-exact c)

pub returns-else-eq-clause-exact : goal.returns-else-eq-clause-exact
returns-else-eq-clause-exact c =
    let misspelled : bytes_eq c.args.bytes.now (root_bytes (fields_in c.args.bytes.now)) ≡ false = ap (bytes_eq c.args.bytes.now) (sym (c.bytes.ensures.spelled ∙ ap root_bytes c.in-Some.ensures.some.1)) ∙ sym c.if-eq.ensures in
    sym (misspelled_at c.args.sector c.args.bytes.now (sym c.if-is_zero.ensures) c.in-Some.ensures.some.0 misspelled)

pub returns-else-eq-clause-found : goal.returns-else-eq-clause-found
returns-else-eq-clause-found c = found_where _ _ _ c.fits-bytes c.told-bytes (returns-else-eq-clause-exact c)

pub returns-in-None-clause-exact : goal.returns-in-None-clause-exact
returns-in-None-clause-exact c = sym (unfit_at c.args.sector c.args.bytes.now (sym c.if-is_zero.ensures) c.in-None.ensures.none)

pub returns-in-None-clause-found : goal.returns-in-None-clause-found
returns-in-None-clause-found c = found_where _ _ _ c.fits-bytes c.told-bytes (returns-in-None-clause-exact c)

pub returns-then-eq-clause-magic : goal.returns-then-eq-clause-magic
returns-then-eq-clause-magic c = found_has_magic _ _ _ c.fits-bytes c.told-bytes (returns-then-eq-clause-exact c)

pub returns-else-eq-clause-magic : goal.returns-else-eq-clause-magic
returns-else-eq-clause-magic c = found_has_magic _ _ _ c.fits-bytes c.told-bytes (returns-else-eq-clause-exact c)

pub returns-in-None-clause-magic : goal.returns-in-None-clause-magic
returns-in-None-clause-magic c = found_has_magic _ _ _ c.fits-bytes c.told-bytes (returns-in-None-clause-exact c)

pub returns-then-is_zero-clause-magic : goal.returns-then-is_zero-clause-magic
returns-then-is_zero-clause-magic c = found_has_magic _ _ _ c.fits-bytes c.told-bytes (returns-then-is_zero-clause-exact c)
