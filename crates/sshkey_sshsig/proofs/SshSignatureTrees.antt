-- The term of SSH signatures spells what PROTOCOL.sshsig lays out.
use Rattle.std.proofs.Common.{◌≡◌, ℕ, List, true, length, refl, subst}
use Rattle.std.specs.Prelude.{nat_lt}
use Rattle.std.specs.Int.{w32}
use Rattle.sshkey_model.specs.Parts.{Any, bytes, number, box, ◌&◌, flat, Fits}
use Rattle.sshkey_model.specs.Grammar.{IsGrammar, IsSpelled, spelled}
use Rattle.sshkey_model.specs.Reading.{Version, Namespace}
use Rattle.sshkey_model.specs.Keys.{Head, Plain, IsKey, HasKeyPlaces, key}
use Rattle.sshkey_model.specs.SshSignatures.{SshSignature, IsSshSignature, HasSshSignaturePlaces, ssh_signature, normal_ssh_signature, signature_magic}
use Rattle.sshkey_model.proofs.Grammars.{all_end, ends}
use Rattle.sshkey_model.proofs.Trees.{IsTree, Alike, regrouped, leaf_tree, open_tree, then_tree, box_tree, kept_tree, made_tree, determined, read_back}
use Rattle.sshkey_model.specs.Leaves.{string_format}
use Rattle.sshkey_model.specs.Names.{hash_format}
use Rattle.sshkey_base.proofs.Lawful.{string_lawful}
use Rattle.sshkey_sshsig.specs.SshSignatures.{statement}
use Rattle.sshkey_sshsig.specs.SshSignatureFormats.{SshSignatureOpening, magic_format, version_format, opening_format, namespace_format, ssh_signature_with}
use Rattle.sshkey_sshsig.specs.SshSignatureReaders.{SpellsSshSignature, ssh_signature_value_at}
use Rattle.sshkey_sshsig.proofs.Lawful.{magic_lawful, version_lawful, opening_lawful, namespace_lawful, hash_lawful, ssh_signature_lawful}

pub ssh_signature_grammar : IsGrammar SpellsSshSignature ssh_signature_value_at
ssh_signature_grammar = all_end ssh_signature_lawful.grammar (λ b. refl)

opening_tree : IsTree opening_format.Spells (λ (x : SshSignatureOpening × (Unit {0} × (Unit {0} × Head))). (x.0.0 ≡ signature_magic) × ((Any x.0.1.0 × (nat_lt x.0.1.0 2 ≡ true)) × IsSpelled IsKey HasKeyPlaces (x.0.1.1, x.1.1.1))) (λ x. bytes x.0.0 & number w32 x.0.1.0 & box (key x.0.1.1 x.1.1.1))
opening_tree =
    then_tree {First = magic_format.Spells} {delimited_at = magic_format.delimited_at} (ends magic_lawful.grammar (λ _. refl)) leaf_tree
    (then_tree {First = version_format.Spells} {delimited_at = version_format.delimited_at} (ends version_lawful.grammar (λ _. refl)) (kept_tree leaf_tree (λ n. nat_lt n 2) Version) (box_tree open_tree))

pub ssh_signature_tree : IsTree SpellsSshSignature (IsSpelled IsSshSignature HasSshSignaturePlaces) (spelled ssh_signature)
ssh_signature_tree = made_tree
    (then_tree {First = opening_format.Spells} {delimited_at = opening_format.delimited_at} (ends opening_lawful.grammar (λ _. refl)) opening_tree
    (then_tree {First = namespace_format.Spells} {delimited_at = namespace_format.delimited_at} (ends namespace_lawful.grammar (λ _. refl)) (kept_tree leaf_tree (λ t. nat_lt 0 (length t)) (λ _. Namespace))
    (then_tree {First = string_format.Spells} {delimited_at = string_format.delimited_at} (ends string_lawful.grammar (λ _. refl)) leaf_tree
    (then_tree {First = hash_format.Spells} {delimited_at = hash_format.delimited_at} (ends hash_lawful.grammar (λ _. refl)) leaf_tree (box_tree leaf_tree)))))
    ssh_signature_with
    (λ x is. (
      x.1.0.1.1,
      record { is = record { version = is.0.1.0.1; key = is.0.1.1.is; namespace = is.1.0; signature = is.1.1.1.1 }; place = is.0.1.1.place },
      subst (λ (b : List ℕ). Alike ((bytes x.0.0.0 & number w32 x.0.0.1.0 & box (key x.0.0.1.1 x.1.0.1.1)) & statement (ssh_signature_with x.0)) (bytes b & number w32 x.0.0.1.0 & box (key x.0.0.1.1 x.1.0.1.1) & statement (ssh_signature_with x.0))) is.0.0 (regrouped (bytes x.0.0.0) (number w32 x.0.0.1.0) (box (key x.0.0.1.1 x.1.0.1.1)) (statement (ssh_signature_with x.0))),
    ))
    (λ x is. (
      (((signature_magic, (x.0.version, x.0.key)), (x.0.namespace, (x.0.reserved, (x.0.hash, x.0.signature)))), ((tt, (tt, x.1)), (tt, (tt, (tt, tt))))),
      ((refl, ((tt, is.is.version), record { is = is.is.key; place = is.place })), (is.is.namespace, (tt, (tt, is.is.signature)))),
      refl,
      regrouped (bytes signature_magic) (number w32 x.0.version) (box (key x.0.key x.1)) (statement x.0),
    ))

-- what is written of an SSH signature is one of its spellings
pub ssh_signature_normal : (f : SshSignature) → IsSshSignature f → Fits (normal_ssh_signature f) → SpellsSshSignature f (flat (normal_ssh_signature f))
ssh_signature_normal f is fits = ssh_signature_tree.again (f, Plain) (record { is = is; place = tt }) fits

-- the lemmas of the laws, which their functions name together
pub ruleset laws = (determined, read_back, ssh_signature_grammar, ssh_signature_normal)
