use Rattle.std.proofs.Common.{◌≡◌, ◌++◌, ◌∷◌, [], ℕ, List, Option, subst, ap, ◌∙◌}
use Rattle.postgres_talks.specs.declared.moment.Mode.{Mode}
use Rattle.postgres_talks.specs.declared.settled.Settled.{Settled}
use Rattle.postgres_talks.specs.Moments.{settled_columns, settled_rows, settled_said}
use Rattle.postgres_talks.specs.Sayings.{Puts, complete_said}
use Rattle.postgres_talks.specs.Settled.{settled_tag, told_row}
use Rattle.postgres_talks.proofs.Putting.{puts_on}
use Rattle.postgres_talks.proofs.told.say_settled.Goals as goal

settled_so : (t : Mode) (ls : List (Option (List ℕ))) (s : Settled) (r : Option (List ℕ × List ℕ)) (tag a b c d : List ℕ) → r ≡ told_row ls s → tag ≡ settled_tag s
    → Puts (settled_columns t r) a b → Puts (settled_rows r) b c → Puts (complete_said tag ∷ []) c d → Puts (settled_said t ls s) a d
settled_so t ls s r tag a b c d is_r is_tag columns rows complete =
    puts_on (settled_columns t (told_row ls s)) (settled_rows (told_row ls s) ++ complete_said (settled_tag s) ∷ []) a b d
    (subst (λ (o : Option (List ℕ × List ℕ)). Puts (settled_columns t o) a b) is_r columns)
    (puts_on (settled_rows (told_row ls s)) (complete_said (settled_tag s) ∷ []) b c d
    (subst (λ (o : Option (List ℕ × List ℕ)). Puts (settled_rows o) b c) is_r rows)
    (subst (λ (l : List ℕ). Puts (complete_said l ∷ []) c d) is_tag complete))

pub returns : goal.returns
returns c = settled_so _ c.args.moment.now.labels c.args.settled _ _ _ _ _ _ (c.told_row-row.ensures ∙ ap (λ (ls : List (Option (List ℕ))). told_row ls c.args.settled) c.as_slice.ensures) c.tag.ensures c.in_ok-say_settled_columns.ensures c.in_ok-say_settled_rows.ensures c.in_ok-put.ensures
