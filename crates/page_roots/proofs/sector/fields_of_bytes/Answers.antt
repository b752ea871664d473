use Rattle.std.proofs.Common.{◌∙◌, ℕ, ap, drop, arith}
use Rattle.page_roots.specs.Numbers.{numbers_in}
use Rattle.page_roots.specs.Sector.{fields_in}
use Rattle.page_roots.proofs.Reading.{may_where}
use Rattle.page_roots.specs.Formats.{format_in}
use Rattle.page_roots.proofs.Spelled.{same_fields}
use Rattle.page_roots.proofs.sector.fields_of_bytes.Goals as goal

pub returns-clause-some : goal.returns-clause-some
unfolding fields_in
returns-clause-some c = (
  may_where c.args.sector c.args.bytes.now c.u32_at-count.result c.u64_at-number.result c.u32_at-count.ensures c.u64_at-number.ensures
      (omega (arith, c.if-count-eq0.false)) (omega (arith, c.if-count-gt-MAX_MAP_PAGES.false)) (omega (arith, c.if-number-eq0.false)) c.if-number-sector.false,
  c.new.ensures ∙ same_fields _ _ (c.of_number-format.ensures ∙ ap format_in c.u32_at.ensures) c.u64_at-number.ensures c.u32_at-2.ensures
      (c.read_numbers_at.ensures ∙ ap (λ (count : ℕ). numbers_in count (drop 28 c.args.bytes.now)) c.u32_at-count.ensures),
)
