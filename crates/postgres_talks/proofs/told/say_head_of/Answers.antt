use Rattle.std.proofs.Common.{◌≡◌, ◌++◌, ℕ, List, Option, subst, ap, ◌∙◌}
use Rattle.postgres_messages.specs.declared.backend.ValueFormat.{ValueFormat}
use Rattle.postgres_talks.specs.declared.moment.DescribedKind.{DescribedKind}
use Rattle.postgres_talks.specs.declared.settled.Settled.{Settled}
use Rattle.postgres_talks.specs.Moments.{parameters_said, settled_head}
use Rattle.postgres_talks.specs.Sayings.{Puts}
use Rattle.postgres_talks.specs.Settled.{told_row}
use Rattle.postgres_talks.proofs.Putting.{puts_on}
use Rattle.postgres_talks.proofs.told.say_head_of.Goals as goal

head_so : (k : DescribedKind) (oids : List ℕ) (f : ValueFormat) (ls : List (Option (List ℕ))) (s : Settled) (r : Option (List ℕ × List ℕ)) (a b c : List ℕ) → r ≡ told_row ls s
    → Puts (parameters_said k oids) a b → Puts (settled_head f r) b c → Puts (parameters_said k oids ++ settled_head f (told_row ls s)) a c
head_so k oids f ls s r a b c is first last =
    puts_on (parameters_said k oids) (settled_head f (told_row ls s)) a b c first (subst (λ (o : Option (List ℕ × List ℕ)). Puts (settled_head f o) b c) is last)

pub returns : goal.returns
returns c = head_so _ _ _ c.args.moment.now.labels c.args.settled _ _ _ _ (c.told_row.ensures ∙ ap (λ (ls : List (Option (List ℕ))). told_row ls c.args.settled) c.as_slice.ensures) c.in_ok-say_parameters.ensures c.in_ok-say_settled_head.ensures
