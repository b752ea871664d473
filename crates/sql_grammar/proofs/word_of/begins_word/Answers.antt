use Rattle.std.proofs.Common.{refl, ◌≡◌, true, false}
use Rattle.sql_grammar.proofs.Determined.{word_known}
use Rattle.sql_grammar.proofs.Leaves.{word_stands}
use Rattle.sql_grammar.proofs.word_of.begins_word.Goals as goal

pub returns-in-Some-clause-value : goal.returns-in-Some-clause-value
returns-in-Some-clause-value g c = (λ _. word_known _ _ _ c.in-Some.ensures.value, λ _. refl)

pub returns-in-None-clause-value : goal.returns-in-None-clause-value
returns-in-None-clause-value g c = (λ h. let e : false ≡ true = h in cc, λ h. absurd (word_stands _ _ c.requires h c.in-None.ensures.value))
