use Rattle.std.proofs.Common.{◌≡◌, ◌∷◌, ◌∙◌, [], List, ap, rules, sym}
use Rattle.key_ranges.specs.declared.range.KeyRange.{KeyRange}
use Rattle.key_ranges.specs.declared.range.KeyRange.TheVariants.{Point}
use Rattle.key_ranges.specs.Ranges.{is_in, is_in_any}
use Rattle.executor.proofs.InsideRange.{point_kept, point_dropped}
use Rattle.executor.proofs.narrowed.narrowed.Goals as goal
use Rattle.executor.proofs.narrowed.narrowed.Goals.{then-is_in+in_ok-push-in-Point, else-is_in}

pub returns-in-Point-clause-keys : goal.returns-in-Point-clause-keys
returns-in-Point-clause-keys c = λ key. elim c.if-is_in.branch [
  | then-is_in+in_ok-push-in-Point w ↦
      let parts : c.if-is_in.parts ≡ Point c.in-Point.key ∷ [] = search rules in
      ap (λ (l : List KeyRange). is_in_any l key) parts
      ∙ point_kept c.args.range c.args.bounds c.in-Some.bounds c.in-Point.key c.in-Point.is c.in-Some.is key
      (ap (is_in c.in-Some.bounds.now) (sym c.as_slice.ensures) ∙ sym c.is_in.ensures ∙ w.if-is_in.true)
  | else-is_in w ↦
      ap (λ (l : List KeyRange). is_in_any l key) (w.parts-is ∙ c.new-parts.ensures)
      ∙ point_dropped c.args.range c.args.bounds c.in-Some.bounds c.in-Point.key c.in-Point.is c.in-Some.is key
      (ap (is_in c.in-Some.bounds.now) (sym c.as_slice.ensures) ∙ sym c.is_in.ensures ∙ w.if-is_in.false)
]
