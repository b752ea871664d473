use Rattle.std.proofs.Common.{[], ◌∷◌, ◌++◌, ap, ◌∙◌}
use Rattle.dumps.specs.Form.{block_of, in_pages}
use Rattle.dumps.proofs.Joined.{two_pushed}
use Rattle.dumps.proofs.bytes.block_around.Goals as goal

pub returns : goal.returns
unfolding block_of
returns c =
    c.in_ok-fill_pages.ensures.filled
    ∙ ap in_pages (two_pushed (1 ∷ []) _ _ _ _ _ (c.in_ok-push.ensures.items ∙ ap (λ l. l ++ (1 ∷ [])) c.in_ok-bytes.ensures.items) c.in_ok-push_u32.ensures c.in_ok-extend_from_slice.ensures.items)
