use Rattle.std.proofs.Common.{ℕ, None, Some, List, [], ◌∷◌, ◌++◌, codes, inl, inr, refl, arith}
use Rattle.sshkey_entries.specs.Fields.{without_front}
use Rattle.sshkey_entries.specs.KnownHosts.{Patterns, Revoked}
use Rattle.sshkey_model.specs.KeyExamples.{ed25519_key}
use Rattle.sshkey_model.proofs.LineTests.{lacks}
use Rattle.sshkey_matching.specs.Patterns.{patterns}
use Rattle.sshkey_known_hosts.specs.Examples.{host, key_text}
use Rattle.sshkey_known_hosts.proofs.ExampleLemmas.{field, host_fits, host_is, own_fields, read, said}
use Rattle.sshkey_known_hosts.proofs.examples.blanks.Goals as goal

abbrev tab : List ℕ
tab = 9 ∷ []

pub returns : goal.returns
unfolding without_front
returns c =
    let first = tab ++ codes "  h.example" ++ tab ++ key_text ++ codes " # me" in
    let second = codes "@revoked" ++ tab ++ codes "h.example " ++ key_text in (
      said host first None (Patterns (patterns host)) (codes "# me")
          (read first None host (tab ++ key_text ++ codes " # me")
          (record { no_zero = lacks 0 first refl; no_comment = λ is. omega (arith, is); marked = (refl, λ is. omega (arith, is)); one_word = field host refl; ends = inr refl })
          (Patterns (patterns host)) host_is ed25519_key (codes "# me") (own_fields (codes " # me") (codes "# me") (inr refl) refl))
          host_fits,
      said host second (Some Revoked) (Patterns (patterns host)) []
          (read second (Some Revoked) host (codes " " ++ key_text)
          (record { no_zero = lacks 0 second refl; no_comment = λ is. omega (arith, is); marked = (tab ++ codes "h.example " ++ key_text, refl, (inr refl, tt), refl, λ is. omega (arith, is)); one_word = field host refl; ends = inr refl })
          (Patterns (patterns host)) host_is ed25519_key [] (own_fields [] [] (inl refl) refl))
          host_fits,
    )
