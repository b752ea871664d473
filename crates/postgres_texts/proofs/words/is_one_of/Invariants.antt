use Rattle.std.proofs.Common.{◌≡◌, length, map}
use Rattle.postgres_texts.specs.Words.{is_one_of}
use Rattle.postgres_texts.proofs.words.is_one_of.Given as goal

abbrev pub invariant-loop-words : goal.invariant-loop-words
invariant-loop-words l = is_one_of (map (λ word. word.now) l.words) l.text ≡ is_one_of (map (λ word. word.now) l.initial.words) l.text

abbrev pub decreases-loop-words : goal.decreases-loop-words
decreases-loop-words l = length l.words
