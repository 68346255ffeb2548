use Rattle.std.proofs.Common.{◌≡◌, ℕ, [], arith, refl}
use Rattle.std.specs.Prelude.{codes}
use Rattle.sshkey_model.proofs.LineTests.{lacks}
use Rattle.sshkey_base64.specs.Armour.{dash}
use Rattle.sshkey_base64.proofs.ArmourWorked.{no_end, no_line}
use Rattle.sshkey_base64.proofs.examples.other_lines.Goals as goal

pub returns : goal.returns
returns c = (
  (λ x. let first : ◌≡◌ {A = ℕ} 32 45 = cc x.1.is in omega (arith, first)),
  (λ x. no_end _ x.0 refl x.1),
  (λ x. no_line _ (codes "QQ==") (codes "----END SSH SIGNATURE-----") x.0 refl (lacks dash (codes "QQ==") refl) (lacks 10 (codes "QQ==") refl) x.1),
  (λ x. no_line _ [] (codes "----END SSH SIGNATURE-----") x.0 refl (lacks dash [] refl) (lacks 10 [] refl) x.1),
)
