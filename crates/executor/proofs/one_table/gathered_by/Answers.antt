use Rattle.std.proofs.Common.{◌∙◌, List, ap, sym, inl, inr}
use Rattle.gathering.specs.declared.query.TypedSortKey.{TypedSortKey}
use Rattle.gathering.specs.KeyOrder.{are_first_of}
use Rattle.executor.proofs.one_table.gathered_by.Goals as goal

pub returns-then-are_first_of : goal.returns-then-are_first_of
returns-then-are_first_of c = inr (
  ap (λ (keys : List TypedSortKey). are_first_of c.args.key.now keys) (sym c.as_slice.ensures) ∙ sym c.are_first_of.ensures ∙ c.if-are_first_of.true,
  c.unsorted.ensures,
)

pub returns-else-are_first_of : goal.returns-else-are_first_of
returns-else-are_first_of c = inl c.new.ensures
