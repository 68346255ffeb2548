use Rattle.std.proofs.Common.{refl}
use Rattle.std.specs.Fmt.{char_count}
use Rattle.sshkey_fingerprints.specs.RandomArt.{picture, title, rows, row_line, bar, symbol, shade, last_of, trail, reached}
use Rattle.sshkey_fingerprints.proofs.examples.worked_picture.Goals as goal

pub returns : goal.returns
unfolding picture title rows row_line bar symbol shade last_of trail reached char_count
returns c = refl
