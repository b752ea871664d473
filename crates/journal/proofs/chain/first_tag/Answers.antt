use Rattle.std.proofs.Common.{◌∙◌, ℕ, drop, refl, sym, ap, arith}
use Rattle.journal.specs.Chain.{Holds}
use Rattle.journal.specs.Sectors.{part_with}
use Rattle.journal.specs.Reading.{part_under}
use Rattle.journal.proofs.chain.first_tag.Goals as goal

pub returns-else-tag-ne0-clause-found : goal.returns-else-tag-ne0-clause-found
returns-else-tag-ne0-clause-found c =
    let range = ((c.in-Part.ensures.found (part_with c.in-Part.tag (drop 24 c.args.sector.now))).0 refl).0.in_range in
    record {
      is = sym c.in-Part.ensures.exact ∙ ap (λ (index : ℕ). Holds (part_under c.in-Part.tag index (drop 24 c.args.sector.now))) c.if-tag-ne0.false;
      of_root = c.if-tag-root.false;
      some = omega (arith, range.inside);
    }
