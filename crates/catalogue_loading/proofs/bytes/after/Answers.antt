use Rattle.std.proofs.Common.{sym, ◌∙◌, ap, List, ℕ, ◌++◌}
use Rattle.catalogue_loading.proofs.Prefixed.{after_prefix, no_prefix}
use Rattle.catalogue_loading.proofs.bytes.after.Goals as goal

pub returns-then-not-starts_with : goal.returns-then-not-starts_with
returns-then-not-starts_with c rest is = no_prefix c.args.prefix.now c.args.bytes.now rest (sym c.starts_with.ensures.value ∙ c.if-not-starts_with.true) is

pub returns : goal.returns
returns c = after_prefix c.args.prefix.now c.args.bytes.now (sym c.starts_with.ensures.value ∙ c.if-not-starts_with.false) ∙ ap (λ (zs : List ℕ). c.args.prefix.now ++ zs) (sym c.split_at.ensures.back)
