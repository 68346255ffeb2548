use Rattle.std.proofs.Common.{◌≡◌, [], ◌∷◌, codes, inl, inr, refl, arith}
use Rattle.sshkey_entries.specs.Fields.{without_front}
use Rattle.sshkey_known_hosts.proofs.ExampleLemmas.{differ, never, without_key}
use Rattle.sshkey_known_hosts.proofs.Verdicts.{either, only}
use Rattle.sshkey_known_hosts.proofs.examples.numbers.Goals as goal

pub returns : goal.returns
unfolding without_front
returns c = (
  (codes "a" ∷ [], codes "b", codes "b" ∷ [], refl, (λ s. differ (codes "a") (codes "b") refl (only (λ l. l ≡ codes "b") (codes "a") s)), refl, omega arith),
  ([], codes "a", codes "b" ∷ [], refl, (λ s. omega (arith, s.2)), refl, omega arith),
  λ s. elim (either (λ l. l ≡ codes "c") (codes "a" ∷ []) (codes "b" ∷ []) s) [
    | inl a ↦ differ (codes "a") (codes "c") refl (only (λ l. l ≡ codes "c") (codes "a") a)
    | inr b ↦ differ (codes "b") (codes "c") refl (only (λ l. l ≡ codes "c") (codes "b") b)
  ],
  (refl, without_key),
  λ h. never h.0,
)
