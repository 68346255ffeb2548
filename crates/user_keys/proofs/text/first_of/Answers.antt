use Rattle.memchr.specs.Find.{is_byte}
use Rattle.user_keys.proofs.Spellings.{first_place}
use Rattle.user_keys.proofs.text.first_of.Goals as goal

pub returns : goal.returns
returns c = first_place (is_byte c.args.divider) c.args.text.now c.memchr.result c.memchr.ensures
