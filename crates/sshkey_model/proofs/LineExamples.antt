-- The worked examples of lines hold.
use Rattle.std.proofs.Common.{◌≡◌, ℕ, ◌<◌, true, false, List, [], ◌∷◌, ◌++◌, length, get_or, Ok, refl, sym, ap, ◌∙◌, arith, append-nil}
use Rattle.std.specs.Prelude.{codes}
use Rattle.std.specs.Str.{trim_end, is_utf8, chars}
use Rattle.std.specs.Char.{encode_utf8}
use Rattle.base64.specs.Rfc4648.{encode_symbols}
use Rattle.base64.specs.Decode.{groups_error, scan_steps}
use Rattle.base64.specs.Engines.{standard}
use Rattle.base64.specs.GeneralPurpose.{encode_of}
use Rattle.sshkey_model.specs.HexText.{hex}
use Rattle.sshkey_model.specs.Parts.{flat}
use Rattle.sshkey_model.specs.Reading.{after_at, string_at, number_at, bytes_at}
use Rattle.sshkey_model.specs.Labels.{label_at}
use Rattle.sshkey_model.specs.Names.{named}
use Rattle.sshkey_model.specs.Mpints.{mpint_at}
use Rattle.sshkey_model.specs.Keys.{Key, Head, Plain, Head256, SpellsKey, key, key_at}
use Rattle.sshkey_model.specs.Lines.{space, after_space, joined, key_name, IsKeyLine, IsWithout, IsCut, IsNoKeyLine}
use Rattle.sshkey_model.specs.KeyExamples.{rsa_key, rsa_bytes, rsa_256_bytes}
use Rattle.sshkey_model.specs.LineExamples.{rsa_word, rsa_line, padded_key, LineEnds, NoTexts, Spaces, LastBits, FirstWords}
use Rattle.sshkey_model.proofs.CombinedReaders.{bytes_fit}
use Rattle.sshkey_model.proofs.KeyReaders.{key_reads}
use Rattle.sshkey_model.proofs.LineCuts.{one_front, without_space}
use Rattle.sshkey_model.proofs.Lines.{no_cut, other_first}
use Rattle.sshkey_model.proofs.Lines as lines
use Rattle.sshkey_model.proofs.Blobs.{key_blobs}
use Rattle.sshkey_model.proofs.LineTests.{all_characters, lacks, is_no_space, cut, no_base64, one_word, no_character}

-- ---- what is a line, and what is none

-- the key that the bytes spell
spells : (blob : List ℕ) (k : Key) (h : Head) → key_at blob ≡ Ok ((k, h), []) → SpellsKey k blob
spells blob k h e =
    let t = key_reads.takes blob (k, h) [] e in
    record { is = t.0.is; choices = h; place = t.0.place; fits = t.1; shape = t.2 ∙ append-nil (flat (key k h)) }

-- the line of a key
is_key : (text w m blob : List ℕ) (k : Key) → is_utf8 text ≡ true → IsCut text (key_name k) w m → w ≡ encode_of standard blob → SpellsKey k blob → IsKeyLine text k m
is_key text w m blob k utf8 parts word spelled = lines.is_line key_name SpellsKey key_blobs text (key_name k) w m blob k utf8 parts word spelled refl

-- not UTF-8
no_text : (text : List ℕ) → is_utf8 text ≡ false → IsNoKeyLine text
no_text text e k m line = cc (sym e ∙ line.line.utf8)

-- another first word
other_word : (text f w m blob : List ℕ) (k : Key) → IsCut text f w m → w ≡ encode_of standard blob → SpellsKey k blob → (f ≡ key_name k → ⊥) → IsNoKeyLine text
other_word text f w m blob k parts word spelled other = other_first key_name SpellsKey key_blobs text f w m blob k parts word (bytes_fit blob (key_blobs.bytes k blob spelled)) spelled other

-- ---- words that are missing

-- a space in front of a word
spaced : (w rest : List ℕ) → 0 < length w → IsWithout space w → (after : List ℕ) → w ++ after ≡ space ∷ rest → ⊥
spaced [] rest some h after e = absurd (omega arith)
spaced (c ∷ cs) rest some h after e = h 0 (omega arith) (let first : c ≡ space = cc e in first)

leading : (text rest : List ℕ) → trim_end text ≡ space ∷ rest → IsNoKeyLine text
leading text rest e = no_cut key_name SpellsKey text (λ f w m parts. spaced f rest parts.some_first (without_space f parts.characters) (space ∷ (w ++ after_space m)) (sym parts.is ∙ e))

doubled : (text first rest : List ℕ) → all_characters is_no_space first ≡ true → trim_end text ≡ first ++ (space ∷ (space ∷ rest)) → IsNoKeyLine text
doubled text first rest clean e = no_cut key_name SpellsKey text (λ f w m parts.
    let front = one_front space f first (w ++ after_space m) (space ∷ rest) (without_space f parts.characters) (lacks space first clean) (sym parts.is ∙ e) in
    spaced w rest parts.some_word parts.one_word (after_space m) front.1)

-- ---- the examples

abbrev ssh_rsa : List ℕ
ssh_rsa = codes "ssh-rsa"

rsa_spelled : SpellsKey rsa_key rsa_bytes
unfolding key_at label_at mpint_at after_at string_at number_at bytes_at named
rsa_spelled = spells rsa_bytes rsa_key Plain refl

hashed_spelled : SpellsKey rsa_key rsa_256_bytes
unfolding key_at label_at mpint_at after_at string_at number_at bytes_at named
hashed_spelled = spells rsa_256_bytes rsa_key Head256 refl

abbrev padded_bytes : List ℕ
padded_bytes = hex "00000007 7373682d727361 00000002 0101 00000002 00ff"

padded_spelled : SpellsKey padded_key padded_bytes
unfolding key_at label_at mpint_at after_at string_at number_at bytes_at named
padded_spelled = spells padded_bytes padded_key Plain refl

rsa_cut : (text m : List ℕ) → trim_end text ≡ joined ssh_rsa rsa_word m → IsCut text ssh_rsa rsa_word m
rsa_cut text m e = cut text ssh_rsa rsa_word m e (omega arith) (omega arith) refl refl

rsa_text : (text m : List ℕ) → is_utf8 text ≡ true → trim_end text ≡ joined ssh_rsa rsa_word m → IsKeyLine text rsa_key m
unfolding encode_symbols
rsa_text text m utf8 e = is_key text rsa_word m rsa_bytes rsa_key utf8 (rsa_cut text m e) refl rsa_spelled

pub line_ends : LineEnds
unfolding is_utf8 trim_end chars encode_utf8 groups_error scan_steps
line_ends = (
  rsa_text _ [] refl refl,
  rsa_text _ [] refl refl,
  rsa_text _ [] refl refl,
  rsa_text _ (codes "me") refl refl,
  rsa_text _ (codes "me") refl refl,
  rsa_text _ (codes "me") refl refl,
  rsa_text _ (codes "me" ++ hex "e2808b") refl refl,
  no_base64 _ ssh_rsa (rsa_word ++ hex "e2808b") [] (cut _ _ _ _ refl (omega arith) (omega arith) refl refl) refl,
)

pub no_texts : NoTexts
unfolding is_utf8 chars encode_utf8
no_texts = (no_text _ refl, no_text _ refl, no_text _ refl, no_text _ refl)

pub spaces : Spaces
unfolding is_utf8 trim_end chars encode_utf8
spaces = (
  one_word _ refl,
  one_word _ refl,
  one_word _ refl,
  leading _ rsa_line refl,
  doubled _ ssh_rsa rsa_word refl refl,
  rsa_text _ (codes " me") refl refl,
)

pub last_bits : LastBits
unfolding is_utf8 trim_end chars encode_utf8 encode_symbols groups_error scan_steps
last_bits = (
  is_key _ (codes "AAAAB3NzaC1yc2EAAAACAQEAAAACAP8=") [] padded_bytes padded_key refl (cut _ _ _ _ refl (omega arith) (omega arith) refl refl) refl padded_spelled,
  no_base64 _ ssh_rsa (codes "AAAAB3NzaC1yc2EAAAACAQEAAAACAP9=") [] (cut _ _ _ _ refl (omega arith) (omega arith) refl refl) refl,
  no_base64 _ ssh_rsa (codes "AAAAB3NzaC1yc2EAAAACAQEAAAACAP8") [] (cut _ _ _ _ refl (omega arith) (omega arith) refl refl) refl,
)

abbrev hashed_word : List ℕ
hashed_word = codes "AAAADHJzYS1zaGEyLTI1NgAAAAMBAAEAAAACAP8="

pub first_words : FirstWords
unfolding is_utf8 trim_end chars encode_utf8 encode_symbols
first_words = (
  is_key _ hashed_word [] rsa_256_bytes rsa_key refl (cut _ _ _ _ refl (omega arith) (omega arith) refl refl) refl hashed_spelled,
  other_word _ (codes "rsa-sha2-256") hashed_word [] rsa_256_bytes rsa_key (cut _ _ _ _ refl (omega arith) (omega arith) refl refl) refl hashed_spelled (λ e. let first : 0x72 ≡ 0x73 = ap (λ (l : List ℕ). get_or l 0 0) e in absurd (omega (arith, first))),
  other_word _ (codes "ssh-dss") rsa_word [] rsa_bytes rsa_key (cut _ _ _ _ refl (omega arith) (omega arith) refl refl) refl rsa_spelled (λ e. let fifth : 0x64 ≡ 0x72 = ap (λ (l : List ℕ). get_or l 4 0) e in absurd (omega (arith, fifth))),
  no_character _ (codes "ssh_rsa") rsa_word 3 refl refl (omega arith) refl,
)
