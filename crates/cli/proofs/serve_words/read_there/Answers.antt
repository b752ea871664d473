use Rattle.std.proofs.Common.{rules, codes}
use Rattle.clap.specs.Words.{found_of}
use Rattle.cli.proofs.GivenWords.{got_none, got_word}
use Rattle.cli.proofs.serve_words.read_there.Goals as goal

pub read_many-requires-clause-clients : goal.read_many-requires-clause-clients
read_many-requires-clause-clients c = got_word (found_of c.args.given.now) (codes "clients") c.get_str.result c.get_str.ensures c.in-Some.clients c.in-Some.is

pub read_sequential-requires-clause-clients : goal.read_sequential-requires-clause-clients
read_sequential-requires-clause-clients c = got_none (found_of c.args.given.now) (codes "clients") c.get_str.result c.get_str.ensures (search rules)
