use Rattle.std.proofs.Common.{◌≡◌, ◌-◌, ◌<◌, ◌∙◌, ℕ, [], suc, true, false, length, set, take, sym, ap, arith}
use Rattle.std.specs.Prelude.{option_to_list}
use Rattle.std.proofs.lemmas.List.{append-nil, nil_from_length}
use Rattle.store.specs.Batch.{all_changes}
use Rattle.store.proofs.InPieces.{read_again}
use Rattle.store.proofs.Apart.{last_filled, last_gone, never_none, some_in_last}
use Rattle.store.proofs.pieces.Pieces.pop.Goals as goal

-- there is no piece
pub returns-then-len-eq0 : goal.returns-then-len-eq0
returns-then-len-eq0 c =
    let s = c.args.self.now in
    record {
      last = sym (append-nil (all_changes s.list.items));
      none = ap all_changes (nil_from_length s.list.items (omega (arith, c.if-len-eq0.true, c.len-len.ensures, s.list.ok)));
    }

-- the last piece is empty, and taken off
pub invariant_of-self : goal.invariant_of-self
invariant_of-self c =
    let s = c.args.self.now in
    let end = c.len-len.result - 1 in
    let all : suc end ≡ length s.list.items = omega (arith, c.if-len-eq0.false, c.len-len.ensures, s.list.ok) in
    let inside : end < length s.list.items = omega (arith, all) in
    let none = sym (read_again s.list.items end c.pop-change.new.self c.index.result.now inside c.index.ensures) ∙ c.is_empty.ensures.0 c.if-is_empty.true in
    let gone = c.pop.ensures.rest ∙ ap (λ (n : ℕ). take (n - 1) (set s.list.items end c.pop-change.new.self)) (sym c.len-len.ensures) in
    let made = (last_gone s.list.items c.pop.new.self.items end c.index_mut.result.now c.pop-change.new.self (option_to_list c.pop-change.result) s.ordered s.filled all c.index_mut.ensures.value c.pop-change.ensures.last none gone).0 in
    record { ordered = made.ordered; filled = made.filled }

pub returns-then-is_empty : goal.returns-then-is_empty
returns-then-is_empty c =
    let s = c.args.self.now in
    let end = c.len-len.result - 1 in
    let all : suc end ≡ length s.list.items = omega (arith, c.if-len-eq0.false, c.len-len.ensures, s.list.ok) in
    let inside : end < length s.list.items = omega (arith, all) in
    let none = sym (read_again s.list.items end c.pop-change.new.self c.index.result.now inside c.index.ensures) ∙ c.is_empty.ensures.0 c.if-is_empty.true in
    let gone = c.pop.ensures.rest ∙ ap (λ (n : ℕ). take (n - 1) (set s.list.items end c.pop-change.new.self)) (sym c.len-len.ensures) in
    record {
      last = (last_gone s.list.items c.pop.new.self.items end c.index_mut.result.now c.pop-change.new.self (option_to_list c.pop-change.result) s.ordered s.filled all c.index_mut.ensures.value c.pop-change.ensures.last none gone).1;
      none = never_none _ c.pop-change.result c.pop-change.ensures.none (last_filled s.list.items end c.index_mut.result.now s.filled all c.index_mut.ensures.value);
    }

-- the last piece has other changes
pub invariant_of-self-else-is_empty : goal.invariant_of-self-else-is_empty
invariant_of-self-else-is_empty c =
    let s = c.args.self.now in
    let end = c.len-len.result - 1 in
    let all : suc end ≡ length s.list.items = omega (arith, c.if-len-eq0.false, c.len-len.ensures, s.list.ok) in
    let inside : end < length s.list.items = omega (arith, all) in
    let seen = read_again s.list.items end c.pop-change.new.self c.index.result.now inside c.index.ensures in
    let made = (some_in_last s.list.items end c.index_mut.result.now c.pop-change.new.self (option_to_list c.pop-change.result) s.ordered s.filled all c.index_mut.ensures.value c.pop-change.ensures.last
    (λ (none : c.pop-change.new.self ≡ []). let wrong : false ≡ true = sym c.if-is_empty.false ∙ c.is_empty.ensures.1 (seen ∙ none) in cc)).0 in
    record { ordered = made.ordered; filled = made.filled }

pub returns-else-is_empty : goal.returns-else-is_empty
returns-else-is_empty c =
    let s = c.args.self.now in
    let end = c.len-len.result - 1 in
    let all : suc end ≡ length s.list.items = omega (arith, c.if-len-eq0.false, c.len-len.ensures, s.list.ok) in
    let inside : end < length s.list.items = omega (arith, all) in
    let seen = read_again s.list.items end c.pop-change.new.self c.index.result.now inside c.index.ensures in
    record {
      last = (some_in_last s.list.items end c.index_mut.result.now c.pop-change.new.self (option_to_list c.pop-change.result) s.ordered s.filled all c.index_mut.ensures.value c.pop-change.ensures.last
          (λ (none : c.pop-change.new.self ≡ []). let wrong : false ≡ true = sym c.if-is_empty.false ∙ c.is_empty.ensures.1 (seen ∙ none) in cc)).1;
      none = never_none _ c.pop-change.result c.pop-change.ensures.none (last_filled s.list.items end c.index_mut.result.now s.filled all c.index_mut.ensures.value);
    }
