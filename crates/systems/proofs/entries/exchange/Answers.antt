use Rattle.std.proofs.Common.{◌≡◌, ◌∙◌, sym, ap, List, Some, position, slice_index_or}
use Rattle.systems.specs.declared.entries.NamedContent.{NamedContent}
use Rattle.systems.proofs.EntryLemmas.{is_of, content_found, content_changed, found_is, is_other, others_set, not_found}
use Rattle.systems.proofs.entries.exchange.Goals as goal

pub returns-in-Some-clause-old : goal.returns-in-Some-clause-old
returns-in-Some-clause-old g c =
    ap Some (c.replace.ensures.value ∙ ap (λ e. e.content) c.index_mut.ensures.value) ∙ sym (content_found c.args.path.now c.args.entries.now.items c.in-Some.i c.index_mut.result.now (ap (λ (entries : List (NamedContent g.row.D.Denot)). position (is_of c.args.path.now) entries) (sym c.as_slice.ensures.value) ∙ sym c.find.ensures ∙ c.in-Some.is))

pub returns-in-Some-clause-new : goal.returns-in-Some-clause-new
returns-in-Some-clause-new g c =
    let found = ap (λ (entries : List (NamedContent g.row.D.Denot)). position (is_of c.args.path.now) entries) (sym c.as_slice.ensures.value) ∙ sym c.find.ensures ∙ c.in-Some.is in
    let is = ap (is_of c.args.path.now) c.index_mut.ensures.value ∙ found_is c.args.path.now c.args.entries.now.items c.in-Some.i c.index_mut.result.now found in
    content_changed c.args.path.now c.args.entries.now.items c.in-Some.i c.index_mut.result.now _ found is ∙ ap Some c.replace.ensures.after

pub returns-in-Some-clause-others : goal.returns-in-Some-clause-others
returns-in-Some-clause-others g c = λ p other.
    let found = ap (λ (entries : List (NamedContent g.row.D.Denot)). position (is_of c.args.path.now) entries) (sym c.as_slice.ensures.value) ∙ sym c.find.ensures ∙ c.in-Some.is in
    let was = found_is c.args.path.now c.args.entries.now.items c.in-Some.i c.index_mut.result.now found in
    let is = ap (is_of c.args.path.now) c.index_mut.ensures.value ∙ was in
    let new : NamedContent g.row.D.Denot = record { path = c.index_mut.result.now.path; content = c.replace.new.dest } in
    others_set p c.args.entries.now.items c.in-Some.i c.index_mut.result.now new (is_other c.args.path.now p (slice_index_or c.args.entries.now.items c.in-Some.i c.index_mut.result.now) was other) (is_other c.args.path.now p new is other)

pub returns-in-None-clause-old : goal.returns-in-None-clause-old
returns-in-None-clause-old g c = sym (not_found c.args.path.now c.args.entries.now.items (ap (λ (entries : List (NamedContent g.row.D.Denot)). position (is_of c.args.path.now) entries) (sym c.as_slice.ensures.value) ∙ sym c.find.ensures ∙ c.in-None.is))
