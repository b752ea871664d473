use Rattle.scram_hashes.specs.Keys.{ShowsPassword}
use Rattle.scram.specs.Exchanges.{messages}
use Rattle.scram.proofs.Lasts.{one_proof}
use Rattle.scram.proofs.laws.wrong_proof_is_refused.Goals as goal

pub returns : goal.returns
returns c x last proof now has wrong text shown =
    let same = one_proof x last shown.proof proof shown.has_proof has in
    let shows : ShowsPassword x.verifier (messages x) proof = rw same at shown.shows in
    wrong shows
