-- Steps that leave a block as it is.
use Rattle.std.proofs.Common.{◌≡◌, ℕ, Bool, true, false, if◌then◌else◌, List, [], ◌∷◌, length, nat_lt, codes, Option, Some, None, refl}
use Rattle.sql_ast.specs.declared.description.ResultColumn.{ResultColumn}
use Rattle.sql_types.specs.declared.value.Value.{Value}
use Rattle.postgres_talks.specs.declared.moment.TalkBlock.{TalkBlock}
use Rattle.postgres_talks.specs.declared.moment.TalkBlock.TheVariants as block
use Rattle.postgres_talks.specs.declared.moment.DescribedKind.{DescribedKind}
use Rattle.postgres_talks.specs.declared.moment.Mode.{Mode}
use Rattle.postgres_talks.specs.declared.moment.Mode.TheVariants as mode
use Rattle.postgres_talks.specs.declared.moment.TalkStage.TheVariants as stage
use Rattle.postgres_talks.specs.declared.moment.TalkMoment.{TalkMoment}
use Rattle.postgres_talks.specs.declared.named_pieces.NamedPiece.{NamedPiece}
use Rattle.postgres_talks.specs.declared.piece.LabelledText.{LabelledText}
use Rattle.postgres_talks.specs.declared.piece.StatementPiece.{StatementPiece}
use Rattle.postgres_talks.specs.declared.piece.StatementPiece.TheVariants as piece
use Rattle.postgres_talks.specs.declared.settled.Settled.{Settled}
use Rattle.postgres_talks.specs.Moments.{asks, closes_or_listens, describes, describes_found, describes_piece, describes_settled, discards, finishes, goes_on, goes_on_with, is_several, keeps_if, keeps_rows, selects, selects_known, starts_on, writes_unless}
use Rattle.postgres_talks.specs.Portals.{is_kept}
use Rattle.postgres_talks.specs.Requests.{carries_by, carries_on, carries_out}
use Rattle.postgres_talks.specs.Settled.{settled_row}

pub finishes_block : (b : TalkBlock) (t : Mode) (m : TalkMoment) → (finishes b t m).block ≡ m.block
finishes_block block.Outside mode.Query m = refl
finishes_block block.Outside mode.Batch m = refl
finishes_block block.Outside mode.Skipping m = refl
finishes_block block.Implicit mode.Query m = refl
finishes_block block.Implicit mode.Batch m = refl
finishes_block block.Implicit mode.Skipping m = refl
finishes_block block.Open mode.Query m = refl
finishes_block block.Open mode.Batch m = refl
finishes_block block.Open mode.Skipping m = refl
finishes_block block.Failed mode.Query m = refl
finishes_block block.Failed mode.Batch m = refl
finishes_block block.Failed mode.Skipping m = refl

pub closes_block : (t : Mode) (m : TalkMoment) → (closes_or_listens t m).block ≡ m.block
closes_block mode.Query m = refl
closes_block mode.Batch m = refl
closes_block mode.Skipping m = refl

formats_block : (b : Bool) (t : LabelledText) (m : TalkMoment) → (if b then describes stage.Describing t m else asks stage.Running t.text m).block ≡ m.block
formats_block true t m = refl
formats_block false t m = refl

known_block : (columns : Option (List ResultColumn)) (t : LabelledText) (m : TalkMoment) → (selects_known columns t m).block ≡ m.block
known_block None t m = formats_block (nat_lt 1 (length m.formats)) t m
known_block (Some columns) t m = refl

selects_block : (s : Mode) (t : LabelledText) (m : TalkMoment) → (selects s t m).block ≡ m.block
selects_block mode.Query t m = refl
selects_block mode.Batch t m = known_block m.columns t m
selects_block mode.Skipping t m = known_block m.columns t m

writes_block : (b : Bool) (text : List ℕ) (m : TalkMoment) → (writes_unless b text m).block ≡ m.block
writes_block true text m = refl
writes_block false text m = refl

discards_block : (b : TalkBlock) (m : TalkMoment) → (discards b m).block ≡ m.block
discards_block block.Outside m = refl
discards_block block.Implicit m = refl
discards_block block.Open m = refl
discards_block block.Failed m = refl

starts_on_block : (p : StatementPiece) (m : TalkMoment) → (starts_on p m).block ≡ m.block
starts_on_block (piece.Statement text) m = writes_block m.read_only text m
starts_on_block (piece.Control text) m = refl
starts_on_block piece.BeginReadOnly m = refl
starts_on_block piece.DiscardAll m = discards_block m.block m
starts_on_block (piece.Select t) m = selects_block m.mode t m
starts_on_block (piece.Settled s ls) m = refl
starts_on_block (piece.Faulty f) m = refl
starts_on_block piece.Empty m = refl

goes_on_with_block : (left : List StatementPiece) (m : TalkMoment) → (goes_on_with left m).block ≡ m.block
goes_on_with_block [] m = finishes_block m.block m.mode m
goes_on_with_block (p ∷ ps) m = starts_on_block p (record m { left = ps })

goes_on_if : (b : Bool) (m : TalkMoment) → (if b then asks stage.Beginning (codes "BEGIN") m else goes_on_with m.left m).block ≡ m.block
goes_on_if true m = refl
goes_on_if false m = goes_on_with_block m.left m

pub goes_on_block : (m : TalkMoment) → (goes_on m).block ≡ m.block
goes_on_block m = goes_on_if (is_several m.block m.mode (length m.left)) m

describes_settled_block : (k : DescribedKind) (x : Settled) (ls : List (Option (List ℕ))) (r : Option (List ℕ × List ℕ)) (m : TalkMoment) → (describes_settled k x ls r m).block ≡ m.block
describes_settled_block k x ls None m = refl
describes_settled_block k x ls (Some r) m = refl

describes_piece_block : (k : DescribedKind) (p : StatementPiece) (m : TalkMoment) → (describes_piece k p m).block ≡ m.block
describes_piece_block k (piece.Statement text) m = refl
describes_piece_block k (piece.Control text) m = refl
describes_piece_block k piece.BeginReadOnly m = refl
describes_piece_block k piece.DiscardAll m = refl
describes_piece_block k (piece.Select t) m = refl
describes_piece_block k (piece.Settled x ls) m = describes_settled_block k x ls (settled_row x) m
describes_piece_block k (piece.Faulty f) m = refl
describes_piece_block k piece.Empty m = refl

pub describes_block : (k : DescribedKind) (o : Option NamedPiece) (m : TalkMoment) → (describes_found k o m).block ≡ m.block
describes_block k None m = refl
describes_block k (Some n) m = describes_piece_block k n.piece m

carried_block : (p : StatementPiece) (m : TalkMoment) → (carries_out p m).block ≡ m.block
carried_block (piece.Statement text) m = goes_on_block m
carried_block (piece.Control text) m = goes_on_block m
carried_block piece.BeginReadOnly m = goes_on_block m
carried_block piece.DiscardAll m = discards_block m.block (record m { left = [] })
carried_block (piece.Select t) m = goes_on_block m
carried_block (piece.Settled s ls) m = goes_on_block m
carried_block (piece.Faulty f) m = goes_on_block m
carried_block piece.Empty m = goes_on_block m

rest_block : (o : Option (List (List Value))) (p : StatementPiece) (m : TalkMoment) → (carries_by o p m).block ≡ m.block
rest_block None p m = carried_block p m
rest_block (Some rows) p m = refl

pub carries_block : (o : Option NamedPiece) (m : TalkMoment) → (carries_on o m).block ≡ m.block
carries_block None m = goes_on_block m
carries_block (Some n) m = rest_block n.rest n.piece m

kept_block : (b : Bool) (rows : List (List Value)) (m : TalkMoment) → (keeps_if b rows m).block ≡ m.block
kept_block true rows m = refl
kept_block false rows m = refl

pub rows_block : (rows : List (List Value)) (m : TalkMoment) → (keeps_rows rows m).block ≡ m.block
rows_block rows m = kept_block (is_kept m.block m.mode m.most (length rows)) rows m
