use Rattle.std.proofs.Common.{◌≡◌, ◌∙◌, [], ◌∷◌, ◌++◌, ℕ, List, None, ap, append-nil, arith, length, refl, subst, sym, take}
use Rattle.std.proofs.Math.Seq.{drop-length}
use Rattle.std.proofs.lemmas.List.{take_all}
use Rattle.sshkey_entries.specs.Fields.{filled_lines, without_front}
use Rattle.sshkey_model.specs.KeyExamples.{ed25519_key}
use Rattle.sshkey_known_hosts.specs.Examples.{host, line}
use Rattle.sshkey_known_hosts.specs.HeldExamples.{place}
use Rattle.sshkey_known_hosts.specs.HeldNames.{IsAmong, TellsNames, name_hash}
use Rattle.sshkey_known_hosts.specs.Hmac.{hmac_sha1}
use Rattle.sshkey_known_hosts.specs.HeldLines.{ArePlacesOf}
use Rattle.sshkey_known_hosts.proofs.ExampleLemmas.{said_of_host}
use Rattle.sshkey_known_hosts.proofs.HeldNames.{among_all}
use Rattle.sshkey_known_hosts.proofs.examples.line_places.Goals as goal

-- a text of one line or of many has one place that may be for anybody
of_whole : (text : List ℕ) → ArePlacesOf (place (length text) ∷ []) text
of_whole text =
    let all : take (length text) text ≡ text = take_all (length text) text (omega arith) in (
      record {
        fits = omega arith;
        cut = sym (ap (λ (r : List ℕ). filled_lines (take (length text) text) ++ filled_lines r) (drop-length text) ∙ append-nil (filled_lines (take (length text) text)) ∙ ap filled_lines all);
        names = λ hmac name other. absurd (other (among_all name));
      },
      drop-length text,
    )

not_among : IsAmong 0 (name_hash host) → ⊥
not_among e = omega (arith, e)

-- the host's line says something of it
tells_none : TellsNames 0 (line None host) → ⊥
unfolding without_front
tells_none told = (told hmac_sha1 host not_among).0 None ed25519_key said_of_host.0.0.2

pub returns : goal.returns
unfolding without_front
returns c = (
  refl,
  refl,
  λ none. omega (arith, ap length none),
  of_whole (line None host),
  λ are. let fits = are.0.fits in omega (arith, fits),
  λ are. let two : 1 ≡ 2 = ap length are.0.cut in omega (arith, two),
  λ are. tells_none (subst (TellsNames 0) (take_all (length (line None host)) (line None host) (omega arith)) are.0.names),
)
