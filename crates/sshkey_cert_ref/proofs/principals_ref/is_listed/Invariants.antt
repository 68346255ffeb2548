use Rattle.std.proofs.Common.{◌≡◌, length, true, bytes_eq}
use Rattle.std.specs.List.{list_any}
use Rattle.sshkey_model.specs.Texts.{text_list_at}
use Rattle.sshkey_cert_ref.specs.Lists.{texts_in}
use Rattle.sshkey_terms.specs.Slices.{is_taken}
use Rattle.sshkey_cert_ref.proofs.principals_ref.is_listed.Given as goal

abbrev pub invariant-texts : goal.invariant-texts
invariant-texts l = (is_taken (text_list_at l.rest) ≡ true) × (list_any (bytes_eq l.fn.wanted) (texts_in l.fn.texts) ≡ list_any (bytes_eq l.fn.wanted) (texts_in l.rest))

abbrev pub decreases-texts : goal.decreases-texts
decreases-texts l = length l.rest
