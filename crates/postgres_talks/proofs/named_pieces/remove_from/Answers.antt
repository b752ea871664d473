use Rattle.std.proofs.Common.{rules}
use Rattle.std.specs.Prelude.{not, bytes_eq}
use Rattle.std.proofs.lemmas.Fn.{filter_same}
use Rattle.postgres_talks.specs.declared.named_pieces.NamedPiece.{NamedPiece}
use Rattle.postgres_talks.proofs.named_pieces.remove_from.Goals as goal

pub returns : goal.returns
returns c = filter_same _ (λ (n : NamedPiece). not (bytes_eq n.name c.args.name.now)) _ (λ x b f' k. search rules) _ _ c.retain.ensures.filtered
