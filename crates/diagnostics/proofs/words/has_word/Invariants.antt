use Rattle.std.proofs.Common.{◌≡◌, length, map}
use Rattle.diagnostics.specs.Words.{has_word}
use Rattle.diagnostics.proofs.words.has_word.Given as goal

abbrev pub invariant-loop-words : goal.invariant-loop-words
invariant-loop-words l = has_word (map (λ w. w.now) l.words) l.word ≡ has_word (map (λ w. w.now) l.initial.words) l.word

abbrev pub decreases-loop-words : goal.decreases-loop-words
decreases-loop-words l = length l.words
