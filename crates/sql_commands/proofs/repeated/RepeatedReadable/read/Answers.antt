use Rattle.std.proofs.Common.{List, rules, arith}
use Rattle.std.proofs.lemmas.Bool.{iff_false}
use Rattle.sql_lexer.specs.Lexeme.{Lexeme, lexemes}
use Rattle.sql_grammar.specs.Phrases.{Spells}
use Rattle.sql_grammar.specs.LookAhead.{CanBegin}
use Rattle.sql_grammar.proofs.Laws.{Known}
use Rattle.sql_grammar.proofs.OneReading.{CanExtend, known_of, one_reading}
use Rattle.sql_grammar.proofs.Steps.{of_law, reading_lt, as_item, as_no_item, as_many, as_no_many}
use Rattle.sql_grammar.proofs.Repeats.{repeating_begins, repeating_goes_on, repeating_fails, repeating_ends}
use Rattle.sql_commands.proofs.repeated.RepeatedReadable.read.Goals as goal
use Rattle.sql_commands.proofs.repeated.RepeatedReadable.read.Given as given

-- the laws of the production
known : (g : given.Over) (ts : List Lexeme) → Known (Spells ts g.T.Readable.phrase) (CanExtend g.T.Readable.phrase) (CanBegin g.T.Readable.phrase) ts
known g ts = let d = of_law g.T.Readable.phrase g.met.T.Production.listable in known_of g.T.Readable.phrase ts (one_reading g.T.Readable.phrase ts d.itself) g.met.T.KnownProduction.repeatable

pub loop-alloc-init : goal.loop-alloc-init
loop-alloc-init g c = rw c.new-items.ensures (repeating_begins c.args.at)

pub returns-in_err-item : goal.returns-in_err-item
returns-in_err-item g c =
    let m = as_no_many {p = g.T.Readable.phrase} (repeating_fails (known g (lexemes c.args.tokens.now)) c.loop-alloc.invariant (c.begins.ensures.value.0 c.loop-alloc-test.true) (as_no_item c.in_err-item.ensures)) in
    search rules

pub loop-alloc-preserved : goal.loop-alloc-preserved
loop-alloc-preserved g c = rw c.in_ok-push.ensures.ok (repeating_goes_on (known g _) c.loop-alloc.invariant (c.begins.ensures.value.0 c.loop-alloc-test.true) (as_item c.in_ok-item.ensures))

pub returns : goal.returns
returns g c = as_many (repeating_ends (known g _) c.loop-alloc.invariant (iff_false c.begins.ensures.value c.loop-alloc-test.false))

pub loop-alloc-smaller : goal.loop-alloc-smaller
loop-alloc-smaller g c = omega (arith, reading_lt (of_law _ g.met.T.Production.listable) c.in_ok-item.ensures, c.begins.ensures.within c.loop-alloc-test.true)
