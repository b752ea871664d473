use Rattle.std.proofs.Common.{◌≡◌, ◌*◌, ◌/◌, ℕ, List, ◌++◌, length, sym, ap, subst, ◌∙◌, arith}
use Rattle.sha2.specs.Hashers.{Holds256}
use Rattle.dumps.specs.OnDevice.{bytes_from}
use Rattle.dumps.proofs.writing.put_list.Goals as goal

pub returns-clause-written : goal.returns-clause-written
returns-clause-written g c = λ faithful before hashed.
    let new = g.E.Device.state c.write_pages.new.device in
    let page = c.args.place.now.page in
    let block = c.in-Some.block.items in
    let is = rw c.in-Some.is at c.in_ok-block.ensures.found in
    let whole = rw c.in-Some.is at c.in_ok-block.ensures.whole in
    let count = c.in-Some-pages_that_fit.count in
    let fits = c.in-Some-pages_that_fit.ensures in
    let same : c.as_slice.result.now ≡ block = c.as_slice.ensures.value in
    let size : length c.as_slice.result.now / 4096 ≡ count = omega (arith, ap length same, fits.0, c.len.ensures) in
    record {
      block = block;
      is = is;
      pages = count;
      there = ap (λ (n : ℕ). bytes_from new.content (8 * page) (8 * n)) (sym size) ∙ c.in-Ok.ensures.written faithful ∙ same;
      long = omega (arith, whole, fits.0, c.len.ensures);
      page = c.go_on.ensures.page;
      inside = omega (arith, c.go_on.ensures.page, fits.2, c.sectors-pages.ensures, c.write_pages.ensures.history.sectors);
      lists = c.go_on.ensures.lists;
      hashed = subst (λ (l : List ℕ). Holds256 c.go_on.new.self.hasher (before ++ l)) c.as_slice-2.ensures.value (c.go_on.ensures.hashed before hashed);
    }
