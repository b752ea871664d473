use Rattle.scram.proofs.laws.what_is_shown_was_shown.Goals as goal

pub returns : goal.returns
returns c mock role drawn first last text stored now x begins shown =
    let by = rw shown.was_stored at begins.goes_by in
    record {
      was_stored = by.0;
      is_stored = shown.is_stored;
      verifier = x.verifier;
      spells = by.1;
      authenticates = record {
        binding = x.binding;
        bare = x.bare;
        nonce = begins.nonce;
        proof = shown.proof;
        is_first = begins.is_first;
        last_is = rw begins.nonce_is at shown.has_proof.last_is;
        size = shown.has_proof.size;
        are_bytes = shown.has_proof.are_bytes;
        shows = rw begins.nonce_is at shown.shows;
      };
    }
