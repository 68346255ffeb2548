-- The lemmas of the laws, which their functions name together.
use Rattle.std.specs.Prelude.{ℕ}
use Rattle.sshkey_model.specs.Parts.{IsPrefixFree}
use Rattle.sshkey_model.specs.Reading.{Ecdsa}
use Rattle.sshkey_model.specs.Grammar.{IsSpelled, spelled}
use Rattle.sshkey_model.specs.Names.{Curve, Algorithm}
use Rattle.sshkey_model.specs.Texts.{string}
use Rattle.sshkey_model.specs.Points.{IsPoint, is_point, field_size}
use Rattle.sshkey_model.specs.Keys.{IsBodyUnder, body, IsKey, key, normal_key, Plain}
use Rattle.sshkey_model.specs.Options.{AreOptions, options, normal_options, plain_nestings}
use Rattle.sshkey_model.specs.Certificates.{IsCertificate, certificate, normal_certificate, plain_choices}
use Rattle.sshkey_model.specs.KeyPairs.{IsScalar, HasScalarPlaces, scalar, IsPairUnder, HasPairPlaces, pair, IsKeyPair, keypair, normal_keypair, plain_pair}
use Rattle.sshkey_model.specs.Laws.{DetermineValues}
use Rattle.sshkey_model.proofs.Grammars.{grammar}
use Rattle.sshkey_model.proofs.CombinedReaders.{prefix_free, checked_string_reads, kept_bytes}
use Rattle.sshkey_model.proofs.TextReaders.{text_reads, texts_reads}
use Rattle.sshkey_model.proofs.NameReaders.{curve_reads, hash_reads, algorithm_reads}
use Rattle.sshkey_model.proofs.CertificateNameReaders.{certificate_algorithm_reads}
use Rattle.sshkey_model.proofs.MpintReaders.{mpint_reads}
use Rattle.sshkey_model.proofs.PointReaders.{point_reads}
use Rattle.sshkey_model.proofs.KeyReaders.{body_reads, any_ecdsa_reads, key_reads}
use Rattle.sshkey_model.proofs.SignatureReaders.{signature_reads}
use Rattle.sshkey_model.proofs.OptionReaders.{options_reads}
use Rattle.sshkey_model.proofs.CertificateReaders.{type_reads, time_reads, end_reads, signed_fields_reads, certificate_reads}
use Rattle.sshkey_model.proofs.KeyPairReaders.{scalar_reads, rsa_private_reads, any_ecdsa_pair_reads, pair_reads, keypair_reads, plain_keypair_has, any_ecdsa_pair_value, pair_value}
use Rattle.sshkey_model.proofs.NormalForms.{determined, read_back, determined_plain, read_back_plain, plain_options_have, plain_choices_have, determine_fields}
use Rattle.sshkey_model.proofs.NormalFits.{key_fits, options_fit, certificate_fits, signed_fields_fit, ssh_signature_fits}
use Rattle.sshkey_model.proofs.SignedBytes.{determine_signed_data, are_apart}
use Rattle.sshkey_model.proofs.Blobs.{key_blobs, certificate_blobs}
use Rattle.sshkey_model.proofs.Lines.{one_value}
use Rattle.sshkey_model.proofs.WrittenLines.{key_normally, certificate_normally, lines_read_back}
use Rattle.sshkey_model.proofs.LinesApart.{lines_apart}
use Rattle.sshkey_model.proofs.InsertedOptions.{inserted}
use Rattle.sshkey_model.proofs.SignedDrafts.{signed_through}

pub prefix_points : (c : Curve) → IsPrefixFree (IsPoint c) string
prefix_points c = prefix_free (checked_string_reads (kept_bytes (is_point (field_size c)) Ecdsa))

pub normal_points : (c : Curve) → DetermineValues (IsPoint c) string
normal_points c = determined (checked_string_reads (kept_bytes (is_point (field_size c)) Ecdsa))

pub prefix_bodies : (a : Algorithm) → IsPrefixFree (IsBodyUnder a) body
prefix_bodies a = prefix_free (body_reads a)

pub normal_bodies : (a : Algorithm) → DetermineValues (IsBodyUnder a) body
normal_bodies a = determined (body_reads a)

pub prefix_scalars : (size : ℕ) → IsPrefixFree (IsSpelled (IsScalar size) HasScalarPlaces) (spelled scalar)
prefix_scalars size = prefix_free (scalar_reads size)

pub prefix_pairs : (a : Algorithm) → IsPrefixFree (IsSpelled (IsPairUnder a) HasPairPlaces) (spelled pair)
prefix_pairs a = prefix_free (pair_reads a)

pub normal_keys : DetermineValues IsKey normal_key
normal_keys = determined_plain key key_reads (λ _. Plain) (λ _ _. tt)

pub normal_option_lists : DetermineValues AreOptions normal_options
normal_option_lists = determined_plain options options_reads plain_nestings (λ os _. plain_options_have os)

pub normal_certificates : DetermineValues IsCertificate normal_certificate
normal_certificates = determined_plain certificate certificate_reads (λ c. plain_choices c.signed) (λ c _. plain_choices_have c.signed)

pub normal_keypairs : DetermineValues IsKeyPair normal_keypair
normal_keypairs = determined_plain keypair keypair_reads (λ _. plain_pair) (λ k _. plain_keypair_has k)

-- how each kind is read
pub ruleset readers = (text_reads, texts_reads, curve_reads, hash_reads, algorithm_reads, certificate_algorithm_reads, mpint_reads, point_reads, body_reads, any_ecdsa_reads, key_reads, signature_reads, options_reads, type_reads, time_reads, end_reads, signed_fields_reads, certificate_reads, scalar_reads, rsa_private_reads, any_ecdsa_pair_reads, pair_reads, keypair_reads)

-- what follows from that
pub ruleset laws = (readers, grammar, prefix_free, prefix_points, prefix_bodies, prefix_scalars, prefix_pairs, determined, normal_points, normal_bodies, normal_keys, normal_option_lists, normal_certificates, normal_keypairs, read_back, read_back_plain, plain_options_have, plain_choices_have, plain_keypair_has, key_fits, options_fit, certificate_fits, signed_fields_fit, ssh_signature_fits, determine_fields, determine_signed_data, inserted, signed_through, are_apart, key_blobs, certificate_blobs, key_normally, certificate_normally, one_value, any_ecdsa_pair_value, pair_value, lines_read_back, lines_apart)
