use Rattle.std.proofs.Common.{None, Some, ◌∷◌, ◌++◌, ap, codes, inr, length, refl, arith}
use Rattle.std.specs.Char.{encode_utf8}
use Rattle.std.specs.Str.{IsUtf8, chars, is_utf8}
use Rattle.std.proofs.lemmas.Str.{IsUtf8-from_is_utf8, is_utf8-from_IsUtf8}
use Rattle.sshkey_entries.specs.Fields.{without_front}
use Rattle.sshkey_entries.specs.KnownHosts.{Patterns, Revoked}
use Rattle.sshkey_model.specs.KeyExamples.{ed25519_key}
use Rattle.sshkey_model.specs.Lines.{space}
use Rattle.sshkey_model.proofs.LineTests.{lacks}
use Rattle.sshkey_matching.specs.Patterns.{patterns}
use Rattle.sshkey_known_hosts.specs.Examples.{host, key_text, latin, line, revoking}
use Rattle.sshkey_known_hosts.proofs.ExampleLemmas.{field, host_fits, host_is, never, own_fields, read, said}
use Rattle.sshkey_known_hosts.proofs.examples.comments.Goals as goal

text : IsUtf8 (codes "me")
unfolding is_utf8 chars encode_utf8
text = IsUtf8-from_is_utf8 (codes "me") refl

no_text : IsUtf8 latin → ⊥
unfolding is_utf8 chars encode_utf8
no_text utf8 = never (is_utf8-from_IsUtf8 latin utf8)

pub returns : goal.returns
unfolding without_front
returns c =
    let first = line None host ++ (space ∷ latin) in
    let second = revoking ++ (space ∷ latin) in (
      said host first None (Patterns (patterns host)) latin
          (read first None host (codes " " ++ key_text ++ (space ∷ latin))
          (record { no_zero = lacks 0 first refl; no_comment = λ is. omega (arith, is); marked = (refl, λ is. omega (arith, is)); one_word = field host refl; ends = inr refl })
          (Patterns (patterns host)) host_is ed25519_key latin (own_fields (space ∷ latin) latin (inr refl) refl))
          host_fits,
      said host second (Some Revoked) (Patterns (patterns host)) latin
          (read second (Some Revoked) host (codes " " ++ key_text ++ (space ∷ latin))
          (record { no_zero = lacks 0 second refl; no_comment = λ is. omega (arith, is); marked = (codes " h.example " ++ key_text ++ (space ∷ latin), refl, (inr refl, tt), refl, λ is. omega (arith, is)); one_word = field host refl; ends = inr refl })
          (Patterns (patterns host)) host_is ed25519_key latin (own_fields (space ∷ latin) latin (inr refl) refl))
          host_fits,
      (λ _. refl, λ none. absurd (none text)),
      λ kept. omega (arith, ap length (kept.0 text)),
      (λ utf8. absurd (no_text utf8), λ _. refl),
      λ kept. omega (arith, ap length (kept.1 no_text)),
    )
