use Rattle.std.proofs.Common.{◌-◌, length}
use Rattle.sql_lexer.specs.Lexeme.{lexemes}
use Rattle.sql_grammar.specs.Phrases.{Spells}
use Rattle.sql_grammar.specs.LookAhead.{CanBegin}
use Rattle.sql_grammar.proofs.Repeats.{Repeating}
use Rattle.sql_grammar.proofs.OneReading.{CanExtend}
use Rattle.sql_commands.proofs.repeated.RepeatedReadable.read.Given as goal

abbrev pub invariant-loop-alloc : goal.invariant-loop-alloc
invariant-loop-alloc g l = Repeating (Spells (lexemes l.tokens) g.T.Readable.phrase) (CanExtend g.T.Readable.phrase) (CanBegin g.T.Readable.phrase) (lexemes l.tokens) l.at l.end l.items

abbrev pub decreases-loop-alloc : goal.decreases-loop-alloc
decreases-loop-alloc g l = length l.tokens - l.end
