use Rattle.postgres_texts.proofs.Tables.{reserved_are_words}
use Rattle.postgres_texts.proofs.laws.words.Goals as goal

pub returns : goal.returns
returns c = reserved_are_words
