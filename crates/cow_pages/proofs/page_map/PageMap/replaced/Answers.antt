use Rattle.std.proofs.Common.{◌∙◌, arith}
use Rattle.std.proofs.Math.ListN.{length-set}
use Rattle.cow_pages.specs.MapCalls.{IsReplacedMapPage}
use Rattle.cow_pages.proofs.MapSteps.{each_more}
use Rattle.cow_pages.proofs.page_map.PageMap.replaced.Goals as goal

pub loop-index-preserved : goal.loop-index-preserved
loop-index-preserved c =
    let so_far = c.loop-index.invariant in
    let pages = c.loop-index.pages in
    let index = c.loop-index.index in
    let page = c.replaced_page.result in
    record {
      count = length-set pages index page ∙ so_far.count;
      each = λ j lt. each_more (λ k x. IsReplacedMapPage c.args.self.now k x) pages index page (omega (arith, so_far.count)) so_far.each c.replaced_page.ensures j (omega (arith, lt));
    }
