-- Records that are taken into changes.
use Rattle.std.proofs.Common.{◌≡◌, Bool, true, false, [], ◌∷◌, ◌++◌, Some, Result, Ok, Err, refl, sym, ap, subst, ◌∙◌}
use Rattle.std.specs.Result.{IsErrAnd}
use Rattle.store.specs.declared.fault.Fault.{Fault}
use Rattle.std.proofs.lemmas.List.{append_assoc}
use Rattle.store.specs.Records.{Record, Records, Changes, IsChangeSize, changed}
use Rattle.store.specs.Steps.{Takes}
use Rattle.copies.specs.RecordCopies.{Fills, HasOutsized, put_in}

put_in_more : (xs : Records) (e : Record) (cs : Changes) → put_in (xs ++ (e ∷ [])) cs ≡ changed e.0 (Some (Some e.1)) (put_in xs cs)
put_in_more [] e cs = refl
put_in_more (x ∷ xs) e cs = put_in_more xs e (changed x.0 (Some (Some x.1)) cs)

pub put_in_all : (xs : Records) (cs : Changes) → put_in (xs ++ []) cs ≡ put_in xs cs
put_in_all [] cs = refl
put_in_all (x ∷ xs) cs = put_in_all xs (changed x.0 (Some (Some x.1)) cs)

-- none is left, and all are taken
pub all_taken : (A B : Records → Type 0) (F : Record → Type 0) (found : Bool) (records : Records) (old mid new : Changes) → found ≡ false → new ≡ mid
    → Fills A true records old mid → ((later : Records) → A later → Takes F B found later) → new ≡ put_in records old
all_taken A B F false records old mid new is same fills takes =
    let none : fills.1 ≡ [] = takes fills.1 fills.4 in
    same ∙ fills.3 ∙ sym (ap (λ (xs : Records). put_in xs old) (fills.2 ∙ ap (λ (xs : Records). fills.0 ++ xs) none) ∙ put_in_all fills.0 old)
all_taken A B F true records old mid new is same fills takes = absurd cc

-- one record more is taken
pub one_more : (A B : Records → Type 0) (found : Bool) (records : Records) (old mid new : Changes) → found ≡ true
    → Fills A true records old mid → ((later : Records) → A later → Takes (λ (e : Record). new ≡ changed e.0 (Some (Some e.1)) mid) B found later)
    → Fills B true records old new
one_more A B true records old mid new is fills takes =
    let t = takes fills.1 fills.4 in (
      fills.0 ++ (t.0 ∷ []),
      t.1,
      fills.2 ∙ ap (λ (xs : Records). fills.0 ++ xs) t.2 ∙ sym (append_assoc fills.0 (t.0 ∷ []) t.1),
      t.3 ∙ ap (λ (cs : Changes). changed t.0.0 (Some (Some t.0.1)) cs) fills.3 ∙ sym (put_in_more fills.0 t.0 old),
      t.4,
    )
one_more A B false records old mid new is fills takes = absurd cc

-- the record at which a step arrived has a size that no store takes
pub first_outsized : (F : Record → Type 0) (B : Records → Type 0) (found : Bool) (records : Records) (entry : Record) → found ≡ true
    → ((e : Record) → F e → entry ≡ e) → Takes F B found records → (IsChangeSize (entry.0, Some entry.1) → ⊥) → HasOutsized records
first_outsized F B true records entry is same takes none = record {
  before = [];
  outsized = takes.0;
  later = takes.1;
  all = takes.2;
  no_size = subst (λ (e : Record). IsChangeSize (e.0, Some e.1) → ⊥) (same takes.0 takes.3) none;
}
first_outsized F B false records entry is same takes none = absurd cc

-- one ahead of the place has
pub outsized_later : (A : Records → Type 0) (records : Records) (old mid : Changes) → Fills A true records old mid → ((later : Records) → A later → HasOutsized later) → HasOutsized records
outsized_later A records old mid fills ahead =
    let o = ahead fills.1 fills.4 in
    record {
      before = fills.0 ++ o.before;
      outsized = o.outsized;
      later = o.later;
      all = fills.2 ∙ ap (λ (xs : Records). fills.0 ++ xs) o.all ∙ sym (append_assoc fills.0 o.before (o.outsized ∷ o.later));
      no_size = o.no_size;
    }

-- the answer is this fault
pub answered_fault : {T : Type 0} (P : Result T Fault → Type 0) (fault : Fault) (result : Result T Fault) → IsErrAnd result (λ given. given ≡ fault) → P (Err fault) → P result
answered_fault P fault (Err given) is p = subst (λ (f : Fault). P (Err f)) (sym is) p
answered_fault P fault (Ok x) is p = absurd is
