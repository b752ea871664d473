use Rattle.std.proofs.Common.{rules, codes}
use Rattle.clap.specs.Words.{found_of, rows_of}
use Rattle.cli.proofs.GivenWords.{got_none, got_word, no_serve, not_both}
use Rattle.cli.proofs.serve_words.read_unblocked.Goals as goal

pub read_each-requires : goal.read_each-requires
read_each-requires c = (c.requires.clients, c.requires.wait, got_none (found_of c.args.given.now) (codes "block") c.get_str.result c.get_str.ensures (search rules), c.requires.at)

pub returns-in-Some-clause-refused : goal.returns-in-Some-clause-refused
returns-in-Some-clause-refused c =
    let found = found_of c.args.given.now in
    let block = got_word found (codes "block") c.get_str.result c.get_str.ensures c.in-Some.field-0 c.in-Some.is in
    no_serve (rows_of found)
    (λ file port connections idle has. not_both _ c.in-Some.field-0.now has.5.2 block)
    (λ file socket connections idle has. not_both _ c.in-Some.field-0.now has.5.2 block)
    (λ file place counts has. not_both _ counts.clients c.requires.clients has.2.clients)
