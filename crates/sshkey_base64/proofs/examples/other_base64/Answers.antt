use Rattle.std.proofs.Common.{◌≡◌, ℕ, List, ap, arith, filter, length, not, ◌∙◌}
use Rattle.std.specs.Prelude.{codes, get_or}
use Rattle.base64.specs.Rfc4648.{encode_symbols}
use Rattle.sshkey_base64.specs.Armour.{is_white}
use Rattle.sshkey_base64.proofs.ArmourBodies.{one_body}
use Rattle.sshkey_base64.proofs.ArmourWorked.{more_bits, no_padding}
use Rattle.sshkey_base64.proofs.examples.other_base64.Goals as goal

pub returns : goal.returns
unfolding encode_symbols
returns c = (
  (λ x. let two : ◌≡◌ {A = List ℕ} (codes "QQ") (codes "QQ==") = ap (filter (λ c. not (is_white c))) (one_body _ (codes "QQ") x.0 no_padding x.1) ∙ x.2.1 in omega (arith, ap length two)),
  (λ x. let other : ◌≡◌ {A = List ℕ} (codes "QR==") (codes "QQ==") = ap (filter (λ c. not (is_white c))) (one_body _ (codes "QR==") x.0 more_bits x.1) ∙ x.2.1 in omega (arith, ap (λ (l : List ℕ). get_or l 1 0) other)),
)
