use Rattle.std.proofs.Common.{◌≡◌, ℕ, List, Bool, true, false, sym, ap, subst, ◌∙◌}
use Rattle.std.specs.Prelude.{◌↔◌, IsTrue, Vec}
use Rattle.std.specs.declared.alloc.Global.{Global}
use Rattle.statement_parameters.specs.Parts.{HasExactTokens}
use Rattle.statement_parameters.proofs.binding.checked_text.Goals as goal

other : (expected : List (List ℕ)) (made text : List ℕ) (has : Bool) → text ≡ made → (IsTrue has ↔ HasExactTokens expected text) → has ≡ false → HasExactTokens expected made → ⊥
other expected made text has e compared so h = let holds : IsTrue has = compared.1 (subst (HasExactTokens expected) (sym e) h) in let wrong : true ≡ false = sym holds ∙ so in cc

pub returns-else-branch : goal.returns-else-branch
returns-else-branch c = λ expected is utf8 has. other expected c.args.made.items _ _ (c.as_str.ensures.value ∙ ap (λ (v : Vec ℕ Global). v.items) c.in-Ok.ensures.ok) (c.in_ok-has_tokens.ensures expected is) c.if-branch.false has
