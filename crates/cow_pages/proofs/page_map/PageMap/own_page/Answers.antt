use Rattle.std.proofs.Common.{◌≡◌, Ok, get_or, inr, ap, sym, ◌∙◌, arith}
use Rattle.std.proofs.lemmas.List.{get_or_default}
use Rattle.cow_pages.proofs.Owning.{used_inside, keeps_own, gets_or_shared}
use Rattle.cow_pages.proofs.page_map.PageMap.own_page.Goals as goal

pub returns-then-page-index-clause-own : goal.returns-then-page-index-clause-own
returns-then-page-index-clause-own c apart =
    let m = c.args.self.now in
    let page : c.index-page.result.now ≡ get_or m.working.items c.args.logical 0 = c.index-page.ensures ∙ get_or_default m.working.items c.args.logical c.index-page.result.now 0 (used_inside m.working.items c.args.logical c.requires.used) in
    ap Ok page

pub returns-then-page-index-clause-outcome : goal.returns-then-page-index-clause-outcome
returns-then-page-index-clause-outcome c =
    let m = c.args.self.now in
    let l = c.args.logical in
    let inside = used_inside m.working.items l c.requires.used in
    let page : c.index-page.result.now ≡ get_or m.working.items l 0 = c.index-page.ensures ∙ get_or_default m.working.items l c.index-page.result.now 0 inside in
    let durable : c.index.result.now ≡ get_or m.durable.items l 0 = c.index.ensures ∙ get_or_default m.durable.items l c.index.result.now 0 (omega (arith, inside, m.consistent.working_count, m.consistent.durable_count)) in
    keeps_own m l c.index-page.result.now page c.requires.used (λ same. c.if-page-index.true (page ∙ same ∙ sym durable))

pub take_for-requires-clause-inside : goal.take_for-requires-clause-inside
take_for-requires-clause-inside c =
    let m = c.args.self.now in
    omega (arith, used_inside m.working.items c.args.logical c.requires.used, m.consistent.working_count)

pub take_for-requires-clause-no_own_page : goal.take_for-requires-clause-no_own_page
take_for-requires-clause-no_own_page c =
    let m = c.args.self.now in
    let l = c.args.logical in
    let inside = used_inside m.working.items l c.requires.used in
    let page : c.index-page.result.now ≡ get_or m.working.items l 0 = c.index-page.ensures ∙ get_or_default m.working.items l c.index-page.result.now 0 inside in
    let durable : c.index.result.now ≡ get_or m.durable.items l 0 = c.index.ensures ∙ get_or_default m.durable.items l c.index.result.now 0 (omega (arith, inside, m.consistent.working_count, m.consistent.durable_count)) in
    inr (sym page ∙ c.if-page-index.false ∙ durable)

pub returns-clause-own : goal.returns-clause-own
returns-clause-own c apart =
    let m = c.args.self.now in
    let l = c.args.logical in
    let inside = used_inside m.working.items l c.requires.used in
    let page : c.index-page.result.now ≡ get_or m.working.items l 0 = c.index-page.ensures ∙ get_or_default m.working.items l c.index-page.result.now 0 inside in
    let durable : c.index.result.now ≡ get_or m.durable.items l 0 = c.index.ensures ∙ get_or_default m.durable.items l c.index.result.now 0 (omega (arith, inside, m.consistent.working_count, m.consistent.durable_count)) in
    absurd (apart (sym page ∙ c.if-page-index.false ∙ durable))

pub returns-clause-outcome : goal.returns-clause-outcome
returns-clause-outcome c =
    let m = c.args.self.now in
    let l = c.args.logical in
    let inside = used_inside m.working.items l c.requires.used in
    let page : c.index-page.result.now ≡ get_or m.working.items l 0 = c.index-page.ensures ∙ get_or_default m.working.items l c.index-page.result.now 0 inside in
    let durable : c.index.result.now ≡ get_or m.durable.items l 0 = c.index.ensures ∙ get_or_default m.durable.items l c.index.result.now 0 (omega (arith, inside, m.consistent.working_count, m.consistent.durable_count)) in
    gets_or_shared c.take_for.result l m c.take_for.new.self (sym page ∙ c.if-page-index.false ∙ durable) c.take_for.ensures.outcome
