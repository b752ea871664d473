use Rattle.std.specs.Prelude.{Option, Some, None, MatchOption, IfSome}
use Rattle.std.proofs.lemmas.Str.Pattern.{split_after, split_parts}
use Rattle.scram_hashes.proofs.verifier_text.cut.Goals as goal

first_part : {T : Type 0} (r : Option T) (N : Type 0) (P Q : T → Type 0) → MatchOption r N (λ x. P x × Q x) → IfSome r P
first_part None N P Q h = tt
first_part (Some x) N P Q h = h.0

pub returns-clause-sound : goal.returns-clause-sound
returns-clause-sound c = first_part c.split_once.result _ _ _ (split_parts c.args.sign c.args.text.now c.split_once.result c.split_once.ensures.cases c.requires)

pub returns-clause-complete : goal.returns-clause-complete
returns-clause-complete c front rest none e =
    split_after c.args.sign c.args.text.now front rest c.split_once.result c.split_once.ensures.cases c.requires e (λ i below. none i 0 below)
