use Rattle.std.proofs.Common.{[], ◌∷◌, ◌++◌, length, ap, ◌∙◌, arith, length-append}
use Rattle.byteorder.specs.Endian.{big_bytes}
use Rattle.byteorder.specs.Numbers.{length-bytes_high_first}
use Rattle.dumps.specs.Form.{ending, in_pages}
use Rattle.dumps.proofs.Joined.{two_pushed}
use Rattle.dumps.proofs.bytes.end_bytes.Goals as goal

pub returns-clause-spelled : goal.returns-clause-spelled
unfolding ending
returns-clause-spelled c = λ before is.
    c.in_ok-fill_pages.ensures.filled
    ∙ ap in_pages (two_pushed (0 ∷ []) _ _ _ _ _ (c.in_ok-push.ensures.items ∙ ap (λ l. l ++ (0 ∷ [])) c.new-bytes.ensures.items) c.in_ok-push_u64.ensures c.in_ok-extend_from_slice.ensures.items
    ∙ ap (λ d. 0 ∷ (big_bytes 8 c.args.count ++ d)) is)

pub returns-clause-long : goal.returns-clause-long
returns-clause-long c =
    let fields = two_pushed (0 ∷ []) _ _ _ _ _ (c.in_ok-push.ensures.items ∙ ap (λ l. l ++ (0 ∷ [])) c.new-bytes.ensures.items) c.in_ok-push_u64.ensures c.in_ok-extend_from_slice.ensures.items in
    omega (arith, c.in_ok-fill_pages.ensures.long, ap length fields, length-append (big_bytes 8 c.args.count) c.args.digest.now, length-bytes_high_first 8 c.args.count, c.told-digest)
