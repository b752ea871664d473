use Rattle.std.proofs.Common.{◌≡◌}
use Rattle.std.specs.Prelude.{codes, decimal}
use Rattle.scram_hashes.specs.Base64.{base64}
use Rattle.scram_hashes.proofs.Base64.{base64_lacks_colon, base64_lacks_dollar}
use Rattle.scram_hashes.proofs.Texts.{behind_count, behind_salt, behind_scheme, behind_stored_key, count_lacks, scheme_lacks}
use Rattle.scram_hashes.proofs.verifier_text.parts_of.Goals as goal

pub returns-in_default-clause-complete : goal.returns-in_default-clause-complete
returns-in_default-clause-complete c v is e = c.in_default.ensures.complete (codes "SCRAM-SHA-256") (behind_scheme v) scheme_lacks e

pub returns-then-ne-clause-complete : goal.returns-then-ne-clause-complete
returns-then-ne-clause-complete c v is e =
    let scheme = c.in-Some.ensures.complete (codes "SCRAM-SHA-256") (behind_scheme v) scheme_lacks e in
    let same : c.in-Some.scheme.now ≡ codes "SCRAM-SHA-256" = scheme.0 in
    let never = rw same at c.if-ne.ensures in
    cc never

pub returns-in_default-cut-clause-complete : goal.returns-in_default-cut-clause-complete
returns-in_default-cut-clause-complete c v is e =
    let scheme = c.in-Some.ensures.complete (codes "SCRAM-SHA-256") (behind_scheme v) scheme_lacks e in
    c.in_default-cut.ensures.complete (decimal v.iterations) (behind_count v) (count_lacks v is) scheme.1

pub returns-in_default-cut-2-clause-complete : goal.returns-in_default-cut-2-clause-complete
returns-in_default-cut-2-clause-complete c v is e =
    let scheme = c.in-Some.ensures.complete (codes "SCRAM-SHA-256") (behind_scheme v) scheme_lacks e in
    let count = c.in-Some-cut.ensures.complete (decimal v.iterations) (behind_count v) (count_lacks v is) scheme.1 in
    c.in_default-cut-2.ensures.complete (base64 v.salt) (behind_salt v) (base64_lacks_dollar v.salt) count.1

pub returns-in_default-cut-3-clause-complete : goal.returns-in_default-cut-3-clause-complete
returns-in_default-cut-3-clause-complete c v is e =
    let scheme = c.in-Some.ensures.complete (codes "SCRAM-SHA-256") (behind_scheme v) scheme_lacks e in
    let count = c.in-Some-cut.ensures.complete (decimal v.iterations) (behind_count v) (count_lacks v is) scheme.1 in
    let salt = c.in-Some-cut-2.ensures.complete (base64 v.salt) (behind_salt v) (base64_lacks_dollar v.salt) count.1 in
    c.in_default-cut-3.ensures.complete (base64 v.stored_key) (behind_stored_key v) (base64_lacks_colon v.stored_key) salt.1

pub returns-clause-complete : goal.returns-clause-complete
returns-clause-complete c v is e =
    let scheme = c.in-Some.ensures.complete (codes "SCRAM-SHA-256") (behind_scheme v) scheme_lacks e in
    let count = c.in-Some-cut.ensures.complete (decimal v.iterations) (behind_count v) (count_lacks v is) scheme.1 in
    let salt = c.in-Some-cut-2.ensures.complete (base64 v.salt) (behind_salt v) (base64_lacks_dollar v.salt) count.1 in
    let keys = c.in-Some-cut-3.ensures.complete (base64 v.stored_key) (behind_stored_key v) (base64_lacks_colon v.stored_key) salt.1 in
    (count.0, salt.0, keys.0, keys.1)
