use Rattle.std.proofs.Common.{rules, codes}
use Rattle.clap.specs.Words.{found_of, rows_of}
use Rattle.cli.proofs.GivenWords.{got_none, got_word, no_serve, not_both}
use Rattle.cli.proofs.serve_words.read_sequential.Goals as goal

pub read_unblocked-requires-clause-wait : goal.read_unblocked-requires-clause-wait
read_unblocked-requires-clause-wait c = got_none (found_of c.args.given.now) (codes "wait") c.get_str.result c.get_str.ensures (search rules)

pub returns-in-Some-clause-refused : goal.returns-in-Some-clause-refused
returns-in-Some-clause-refused c =
    let found = found_of c.args.given.now in
    let wait = got_word found (codes "wait") c.get_str.result c.get_str.ensures c.in-Some.field-0 c.in-Some.is in
    no_serve (rows_of found)
    (λ file port connections idle has. not_both _ c.in-Some.field-0.now has.5.1 wait)
    (λ file socket connections idle has. not_both _ c.in-Some.field-0.now has.5.1 wait)
    (λ file place counts has. not_both _ counts.clients c.requires.clients has.2.clients)
