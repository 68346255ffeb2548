-- What is read is no encrypted pair.
use Rattle.std.proofs.Common.{◌≡◌, ℕ, List, Ok, false, refl}
use Rattle.ssh_key.proofs.Lawful.{keypair_lawful, string_lawful, then_lawful}
use Rattle.ssh_key.specs.model.Leaves.{string_format, number32_format, SpellsNumber32, SpellsString}
use Rattle.ssh_key.specs.model.KeyPairs.{keypair_format, SpellsKeypair}
use Rattle.ssh_key.specs.pairs.Keypairs.{pair_of, keypair_parts, is_encrypted}
use Rattle.ssh_key.specs.model.Terms.{◌then◌}
use Rattle.ssh_key.specs.types.private.KeypairData.{KeypairData}
use Rattle.ssh_key.specs.types.private.KeypairData.TheVariants as kinds
use Rattle.std.specs.Int.{w32}
use Rattle.ssh_key.proofs.Counted.{keypair_normal}
use Rattle.ssh_key.specs.model.Grammar.{normal_is_spelling}
use Rattle.ssh_key.specs.model.Parts.{number, ◌&◌, flat, Fits}
use Rattle.ssh_key.specs.model.Texts.{string}
use Rattle.agent.specs.Records.{IsWellFormedAddition, addition, addition_format, addition_of, identity, identity_format, identity_of, sign_request, sign_request_format, sign_request_of}
use Rattle.agent.specs.declared.addition.Addition as code_addition
use Rattle.agent.specs.declared.identity.Identity as code_identity
use Rattle.agent.specs.declared.sign_request.SignRequest as code_sign_request
use Rattle.agent.proofs.Frames.{both_spelled}

spelled_plain : (k : KeypairData) (b : List ℕ) → SpellsKeypair (pair_of k) b → is_encrypted k ≡ false
spelled_plain (kinds.Dsa k) b s = refl
spelled_plain (kinds.Ecdsa k) b s = refl
spelled_plain (kinds.Ed25519 k) b s = refl
spelled_plain (kinds.Encrypted c) b s = absurd s
spelled_plain (kinds.Rsa k) b s = refl
spelled_plain (kinds.SkEcdsaSha2NistP256 k) b s = refl
spelled_plain (kinds.SkEd25519 k) b s = refl
spelled_plain (kinds.Other k) b s = refl

pub read_plain : (k : KeypairData) (comment b rest : List ℕ) → (keypair_format then string_format).read b ≡ Ok ((pair_of k, comment), rest) → is_encrypted k ≡ false
read_plain k comment b rest e = spelled_plain k _ ((then_lawful keypair_lawful string_lawful).grammar.takes b (pair_of k, comment) rest e).1.first

-- What is written of the values that messages hold is a spelling.

pub identity_normal : (i : code_identity.Identity) → Unit {0} → Fits (identity (identity_of i)) → identity_format.Spells (identity_of i) (flat (identity (identity_of i)))
identity_normal i is fits = record {
  inner = (i.key, i.comment);
  spelled = both_spelled string_format string_lawful (λ b. refl) SpellsString i.key i.comment (string i.key) (string i.comment) (normal_is_spelling i.key tt) (normal_is_spelling i.comment tt) fits;
  makes = refl;
}

pub sign_request_normal : (r : code_sign_request.SignRequest) → Unit {0} → Fits (sign_request (sign_request_of r)) → sign_request_format.Spells (sign_request_of r) (flat (sign_request (sign_request_of r)))
sign_request_normal r is fits = record {
  inner = (r.key, (r.message, r.flags));
  spelled = both_spelled string_format string_lawful (λ b. refl) (string_format then number32_format).Spells r.key (r.message, r.flags) (string r.key) (string r.message & number w32 r.flags) (normal_is_spelling r.key tt) (both_spelled string_format string_lawful (λ b. refl) SpellsNumber32 r.message r.flags (string r.message) (number w32 r.flags) (normal_is_spelling r.message tt) (normal_is_spelling r.flags tt)) fits;
  makes = refl;
}

pub addition_normal : (a : code_addition.Addition) → IsWellFormedAddition a → Fits (addition a) → addition_format.Spells (addition_of a) (flat (addition a))
addition_normal a is fits = record {
  inner = (pair_of a.keypair, a.comment);
  spelled = both_spelled keypair_format keypair_lawful (λ b. refl) SpellsString (pair_of a.keypair) a.comment (keypair_parts a.keypair) (string a.comment) (keypair_normal a.keypair is) (normal_is_spelling a.comment tt) fits;
  makes = refl;
}
