use Rattle.std.proofs.Common.{◌≡◌, true, false}
use Rattle.journal.specs.Reading.{entries_of}
use Rattle.journal.proofs.Opening.{sound_where}
use Rattle.journal.proofs.chain.find_journal.Goals as goal

pub returns-then-not-are_sound-clause-damaged : goal.returns-then-not-are_sound-clause-damaged
returns-then-not-are_sound-clause-damaged c is es journal =
    let wrong : false ≡ true = c.if-not-are_sound.ensures.1
    (sound_where c.args.root c.args.room c.in_ok-chain.chain.end c.args.sectors.now (entries_of c.in_ok-chain.chain.records.items) es c.requires
    c.in_ok-chain.ensures.chain c.in_ok-chain.ensures.end journal) in
    cc
