use Rattle.std.proofs.Common.{◌≡◌, ◌∙◌, ap, List, true}
use Rattle.std.proofs.lemmas.Slice.Eq.{bytes_eq-Decides}
use Rattle.systems.specs.declared.entries.NamedContent.{NamedContent}
use Rattle.systems.specs.Entries.{content_of}
use Rattle.systems.proofs.EntryLemmas.{is_of, is_other, content_added, others_added}
use Rattle.systems.proofs.entries.add.Goals as goal

pub returns-clause-new : goal.returns-clause-new
returns-clause-new g c =
    let new : NamedContent g.row.D.Denot = record { path = c.in_ok-from_str.field-0; content = c.args.content } in
    let is : is_of c.args.path.now new ≡ true = (bytes_eq-Decides _ _).1 c.in_ok-from_str.ensures.ok in
    ap (λ (entries : List (NamedContent g.row.D.Denot)). content_of entries c.args.path.now) c.in_ok-push.ensures.items ∙ content_added c.args.path.now c.args.entries.now.items new c.requires is

pub returns-clause-others : goal.returns-clause-others
returns-clause-others g c = λ p other.
    let new : NamedContent g.row.D.Denot = record { path = c.in_ok-from_str.field-0; content = c.args.content } in
    let is : is_of c.args.path.now new ≡ true = (bytes_eq-Decides _ _).1 c.in_ok-from_str.ensures.ok in
    ap (λ (entries : List (NamedContent g.row.D.Denot)). content_of entries p) c.in_ok-push.ensures.items ∙ others_added p c.args.entries.now.items new (is_other c.args.path.now p new is other)
