use Rattle.std.proofs.Common.{inl, inr, refl, arith}
use Rattle.std.proofs.lemmas.Bool.Decides.{nat_tests}
use Rattle.std.specs.Prelude.{slice_index}
use Rattle.cow_pages.proofs.cow.CowPages.spares.Goals as goal

pub returns-then-has_own_page : goal.returns-then-has_own_page
returns-then-has_own_page g c is =
    let own = c.if-has_own_page.ensures refl in
    inl (slice_index c.args.self.now.map.working.items c.args.page, record { some = own.0; named = refl; apart = own.1 })

pub returns : goal.returns
returns g c is = inr (c.free_pages.result, c.free_pages.ensures, grind (arith, nat_tests, is))
