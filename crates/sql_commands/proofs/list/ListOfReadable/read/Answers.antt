use Rattle.std.proofs.Common.{List, rules, arith}
use Rattle.std.proofs.lemmas.Bool.{iff_false}
use Rattle.sql_lexer.specs.Lexeme.{Lexeme, lexemes}
use Rattle.sql_grammar.specs.Phrases.{Spells}
use Rattle.sql_grammar.proofs.Laws.{Lawful}
use Rattle.sql_grammar.proofs.OneReading.{CanExtend, laws_of, one_reading}
use Rattle.sql_grammar.proofs.Steps.{of_law, reading_lt, as_item, as_no_item, as_list, as_no_list}
use Rattle.sql_grammar.proofs.Lists.{listing_begins, listing_goes_on, listing_fails, listing_never, listing_ends}
use Rattle.sql_commands.proofs.list.ListOfReadable.read.Goals as goal
use Rattle.sql_commands.proofs.list.ListOfReadable.read.Given as given

-- the laws of the production
lawful : (g : given.Over) (ts : List Lexeme) → Lawful (Spells ts g.T.Readable.phrase) (CanExtend g.T.Readable.phrase) ts
lawful g ts = let d = of_law g.T.Readable.phrase g.met.T.Production.listable in laws_of g.T.Readable.phrase ts (one_reading g.T.Readable.phrase ts d.itself) d.in_list

pub returns-in_err-first : goal.returns-in_err-first
returns-in_err-first g c =
    let m = as_no_list {p = g.T.Readable.phrase} (listing_never (lawful g (lexemes c.args.tokens.now)) (as_no_item c.in_err-first.ensures)) in
    search rules

pub loop-alloc-init : goal.loop-alloc-init
loop-alloc-init g c = rw (c.in_ok-push.ensures.ok, c.new-items.ensures) (listing_begins (lawful g _) (as_item c.in_ok-first.ensures))

pub returns-in_err-item : goal.returns-in_err-item
returns-in_err-item g c =
    let m = as_no_list {p = g.T.Readable.phrase} (listing_fails (lawful g (lexemes c.args.tokens.now)) c.loop-alloc.invariant (c.has.ensures.value.0 c.loop-alloc-test.true) (as_no_item c.in_err-item.ensures)) in
    search rules

pub loop-alloc-preserved : goal.loop-alloc-preserved
loop-alloc-preserved g c = rw c.in_ok-push-2.ensures.ok (listing_goes_on (lawful g _) c.loop-alloc.invariant (c.has.ensures.value.0 c.loop-alloc-test.true) (as_item c.in_ok-item.ensures))

pub returns : goal.returns
returns g c = as_list (listing_ends c.loop-alloc.invariant (iff_false c.has.ensures.value c.loop-alloc-test.false))

pub loop-alloc-smaller : goal.loop-alloc-smaller
loop-alloc-smaller g c = omega (arith, reading_lt (of_law _ g.met.T.Production.listable) c.in_ok-item.ensures, c.has.ensures.within c.loop-alloc-test.true)
