use Rattle.scram.proofs.laws.no_verifier_is_refused.Goals as goal

pub returns : goal.returns
returns c mock role drawn first last stored now x begins none text shown =
    let by = rw shown.was_stored at begins.goes_by in
    let never = rw by.0 at none in
    never x.verifier by.1
