-- Items that are counted, seen by view.
use Rattle.std.proofs.Common.{◌<◌, ◌^◌, List, length, map, All, sym, arith}
use Rattle.std.proofs.lemmas.List.{get_or-map, length-map}
use Rattle.std.proofs.lemmas.List.Elements.{All-map, All-get_or}
use Rattle.std.proofs.lemmas.Grind.{common_steps}
use Rattle.postgres_messages.specs.Fields.{AreCounted}

pub All-unmap : {X Y : Type 0} (P : X → Type 0) (f : Y → X) (ys : List Y) → All P (map f ys) → All (λ y. P (f y)) ys
All-unmap P f ys all k d lt = rw (sym (get_or-map f ys k d (f d) lt)) (All-get_or P (map f ys) k (f d) (rw (length-map ys f) lt) all)

pub counted_view : {X Y : Type 0} (P : X → Type 0) (f : Y → X) (ys : List Y) → length ys < 2 ^ 16 → All (λ y. P (f y)) ys → AreCounted P (map f ys)
counted_view P f ys few all = record { count = grind (arith, common_steps); each = All-map P f ys all }

pub each_viewed : {X Y : Type 0} (P : X → Type 0) (f : Y → X) (ys : List Y) → AreCounted P (map f ys) → All (λ y. P (f y)) ys
each_viewed P f ys counted = All-unmap P f ys counted.each
