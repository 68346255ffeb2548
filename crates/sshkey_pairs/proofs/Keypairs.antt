-- Pairs with their names are read exactly where they are spelled.
use Rattle.std.proofs.Common.{◌≡◌, ℕ, Option, Some, None, List, ◌++◌, Ok, refl, sym, subst, ◌∙◌}
use Rattle.sshkey_model.specs.Reading.{◌>>=◌, Front, checked_at, string_at, after_at}
use Rattle.sshkey_model.specs.Grammar.{IsGrammar, SpellsWith, value_at}
use Rattle.sshkey_model.specs.Names.{Algorithm, name_format}
use Rattle.sshkey_model.specs.Names as names
use Rattle.sshkey_model.specs.KeyPairs.{KeyPair, OpaquePair, IsKeyPair, HasKeyPairPlaces, keypair, keypair_at, pair_at, some_pair_format, SpellsKeypair, keypair_data_at, opaque_pair_format, pair_kind_format, keypair_format, plain_pair}
use Rattle.sshkey_model.proofs.CombinedReaders.{bind_assoc, bind_ok, bind_same, ok_is}
use Rattle.sshkey_model.proofs.Grammars.{grammar_with, same_grammar, both_at}
use Rattle.sshkey_model.proofs.KeyPairReaders.{keypair_reads, pair_value, plain_keypair_has}
use Rattle.sshkey_terms.proofs.Lawful.{IsChosen, IsMapped, called_chosen, called_lawful, known_as_lawful, tested_lawful, then_lawful}
use Rattle.sshkey_model.specs.Formats.{IsFormat}
use Rattle.sshkey_base.proofs.Lawful.{string_lawful}
use Rattle.sshkey_keys.proofs.Lawful.{name_lawful}
use Rattle.sshkey_pair_kinds.proofs.Lawful.{dsa_pair_lawful, any_ecdsa_pair_lawful, ed25519_pair_lawful, rsa_pair_lawful, sk_ecdsa_pair_lawful, sk_ed25519_pair_lawful}
use Rattle.sshkey_model.specs.Parts.{flat, Fits}
use Rattle.sshkey_pairs.specs.declared.keypair_data.KeypairData.{KeypairData}
use Rattle.sshkey_pairs.specs.Keypairs.{pair_of, keypair_parts, ciphertext_of, pair_or_bytes, IsWellFormedPair}

-- the public and the private bytes under that name, as a pair that is not encrypted
pub some_opaque_parts_read : (name : List ℕ) → IsMapped (some_pair_format (names.Other name)).read (λ a. Ok (Some (OpaquePair name a.0 a.1))) (both_at string_at string_at)
some_opaque_parts_read name = record { same = λ b. simp bind_assoc }

-- the pair is read after its name
pub keypair_chosen : IsChosen keypair_data_at name_format.read (λ a. (some_pair_format a).read)
unfolding keypair_data_at
keypair_chosen = called_chosen name_format.read (λ a. (some_pair_format a).read)

-- ---- it takes exactly the spellings

abbrev some_at : {A : Type 0} → Front A → Front (Option A)
some_at read = checked_at (λ x. Ok (Some x)) read

some_grammar : {A : Type 0} {Spells : A → List ℕ → Type 0} (Some_spells : Option A → List ℕ → Type 0) {read : Front A} → ((x : A) (b : List ℕ) → Spells x b → Some_spells (Some x) b) → ((y : Option A) (b : List ℕ) → Some_spells y b → (x : A) × (y ≡ Some x) × Spells x b) → IsGrammar Spells read → IsGrammar Some_spells (some_at read)
some_grammar {A} {Spells} Some_spells {read} there back g = record {
  takes = λ b y rest e.
      let x = bind_ok (read b) (λ x. Ok (Some x.0, x.1)) (y, rest) e in
      let t = g.takes b x.0.0 x.0.1 x.1 in
      let made : Option A × List ℕ = (Some x.0.0, x.0.1) in
      subst (λ (p : Option A × List ℕ). (front : List ℕ) × Some_spells p.0 front × (b ≡ front ++ p.1)) (ok_is made (y, rest) x.2) (t.0, there x.0.0 t.0 t.1, t.2);
  again = λ y front rest s.
      let x = back y front s in
      rw (x.1, g.again x.0 front rest x.2) refl;
}

spelled_some : (y : Option KeyPair) (b : List ℕ) → SpellsKeypair y b → (k : KeyPair) × (y ≡ Some k) × SpellsWith IsKeyPair HasKeyPairPlaces keypair k b
spelled_some (Some k) b s = (k, refl, s)
spelled_some None b s = absurd s

after_name : (n : Algorithm × List ℕ) → some_at (value_at (pair_at n.0)) n.1 ≡ (some_pair_format n.0).read n.1
after_name n = rw (pair_value n.0 n.1) refl

without_choices : (b : List ℕ) → some_at (value_at keypair_at) b ≡ keypair_data_at b
unfolding keypair_at after_at
without_choices b =
    let steps : some_at (value_at keypair_at) b ≡ (name_format.read b >>= λ n. some_at (value_at (pair_at n.0)) n.1) = simp bind_assoc in
    steps ∙ bind_same (name_format.read b) _ _ after_name ∙ sym (keypair_chosen.same b)

pub keypair_grammar : IsGrammar SpellsKeypair keypair_data_at
keypair_grammar = same_grammar (some_grammar SpellsKeypair (λ k b s. s) spelled_some (grammar_with keypair_reads)) without_choices

-- The formats of pairs with their names are lawful.

pub opaque_pair_lawful : (name : List ℕ) → IsFormat (opaque_pair_format name)
opaque_pair_lawful name = tested_lawful _ (then_lawful string_lawful string_lawful)

kind_lawful : (a : Algorithm) → IsFormat (pair_kind_format a)
kind_lawful names.Dsa = dsa_pair_lawful
kind_lawful (names.Ecdsa curve) = tested_lawful _ any_ecdsa_pair_lawful
kind_lawful names.Ed25519 = ed25519_pair_lawful
kind_lawful (names.Rsa hash) = rsa_pair_lawful
kind_lawful names.SkEcdsa = sk_ecdsa_pair_lawful
kind_lawful names.SkEd25519 = sk_ed25519_pair_lawful
kind_lawful (names.Other name) = opaque_pair_lawful name

some_lawful : (a : Algorithm) → IsFormat (some_pair_format a)
some_lawful a = tested_lawful _ (kind_lawful a)

pub keypair_lawful : IsFormat keypair_format
unfolding keypair_data_at
keypair_lawful = known_as_lawful (called_lawful name_lawful some_lawful) (λ b. refl) keypair_grammar

-- The normal form of a pair is one of its spellings.

plain_spells : (k : Option KeyPair) (b : List ℕ) → IsWellFormedPair k → Fits (pair_or_bytes k b) → SpellsKeypair k (flat (pair_or_bytes k b))
plain_spells (Some k) b is fits = record { is = is; choices = plain_pair; place = plain_keypair_has k; fits = fits; shape = refl }
plain_spells None b is fits = absurd is

pub keypair_normal : (k : KeypairData) → IsWellFormedPair (pair_of k) → Fits (keypair_parts k) → SpellsKeypair (pair_of k) (flat (keypair_parts k))
keypair_normal k is fits = plain_spells (pair_of k) (ciphertext_of k) is fits
