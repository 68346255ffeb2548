use Rattle.user_keys.proofs.Blobs.{words_marked}
use Rattle.user_keys.proofs.laws.marked_words.Goals as goal

pub returns : goal.returns
returns c = words_marked
