use Rattle.std.proofs.Common.{◌∙◌, sym}
use Rattle.systems.proofs.EntryLemmas.{content_found, not_found}
use Rattle.systems.proofs.entries.find_content.Goals as goal

pub returns-in-Some : goal.returns-in-Some
returns-in-Some g c = sym (content_found c.args.path.now c.args.entries.now c.in-Some.i c.index-entries-i.result (sym c.find.ensures ∙ c.in-Some.is))

pub returns-in-None : goal.returns-in-None
returns-in-None g c = sym (not_found c.args.path.now c.args.entries.now (sym c.find.ensures ∙ c.in-None.is))
