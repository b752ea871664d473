use Rattle.scram_hashes.specs.Keys.{ShowsPassword}
use Rattle.scram.specs.Exchanges.{HasProof, messages}
use Rattle.scram.proofs.Lasts.{one_proof}
use Rattle.scram.proofs.exchange.Exchange.finish.Goals as goal

pub returns-else-is_shown : goal.returns-else-is_shown
returns-else-is_shown c text it =
    let found : HasProof c.args.self.now c.args.last.now c.in-Some.proof = rw c.in-Some.is at c.in_ok-proof.ensures in
    let same = one_proof c.args.self.now c.args.last.now it.proof c.in-Some.proof it.has_proof found in
    let shows : ShowsPassword c.args.self.now.verifier (messages c.args.self.now) c.in-Some.proof = rw same at it.shows in
    let yes = c.in_ok-is_shown.ensures.1 shows in
    let never = rw c.if-is_shown.false at yes in
    cc never
