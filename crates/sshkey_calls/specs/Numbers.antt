-- The numbers that calls answer with.
use Rattle.std.specs.Prelude.{ℕ, Option, Some, None}
use Rattle.sshkey_base.specs.Causes.{Cause, Faulty, NoMemory, Other, cause}
use Rattle.sshkey_base.specs.declared.certificate.field.Field.{Field}
use Rattle.sshkey_base.specs.declared.certificate.field.Field.TheVariants as field
use Rattle.sshkey_base.specs.declared.encoding.Error.TheVariants.{Base64}
use Rattle.sshkey_base.specs.declared.error.Error.{Error}
use Rattle.sshkey_base.specs.declared.error.Error.TheVariants.{CertificateFieldInvalid, Encoding}
use Rattle.sshkey_model.specs.Names.{Algorithm, Sha256, Sha512, Nistp256, Nistp384, Nistp521}
use Rattle.sshkey_model.specs.Reading.{Fault}
use Rattle.sshkey_model.specs.Reading as fault
use Rattle.sshkey_model.specs.Refusals.{Refusal, NotSigned, UntrustedAuthority, InvalidTime, OutOfWindow, UnlistedPrincipal}

-- why bytes are none of what they are to be
abbrev pub fault_number : Fault → ℕ
fault_number fault.CharacterEncoding = 11
fault_number fault.Label = 12
fault_number fault.Length = 13
fault_number (fault.TrailingData n) = 14
fault_number fault.FormatEncoding = 15
fault_number fault.AlgorithmUnknown = 16
fault_number fault.Crypto = 17
fault_number fault.Ecdsa = 18
fault_number fault.Time = 19
fault_number fault.Namespace = 20
fault_number fault.PublicKey = 21
fault_number (fault.Version n) = 22
fault_number (fault.TrailingKeyData n) = 14

-- an error: memory, a fault of a word in Base64, another fault, or what no call meets
abbrev pub cause_number : Cause → ℕ
cause_number NoMemory = 1
cause_number (Faulty f) = fault_number f
cause_number Other = 23

abbrev pub error_status : Error → ℕ
error_status (Encoding Base64) = 10
error_status e = cause_number (cause e)

-- the field of a certificate that lets nobody in; no call meets another one
abbrev pub field_status : Field → ℕ
field_status field.CertType = 71
field_status field.PublicKey = 72
field_status field.CriticalOptions = 73
field_status field.Extensions = 74
field_status field.KeyId = 75
field_status field.ValidPrincipals = 76
field_status f = 23

-- why bytes are no certificate, or one that lets nobody in
abbrev pub certificate_error_status : Error → ℕ
certificate_error_status (CertificateFieldInvalid f) = field_status f
certificate_error_status e = error_status e

-- what is wrong with a certificate first, and 0 where nothing is
abbrev pub refusal_status : Option Refusal → ℕ
refusal_status None = 0
refusal_status (Some NotSigned) = 30
refusal_status (Some UntrustedAuthority) = 31
refusal_status (Some InvalidTime) = 32
refusal_status (Some OutOfWindow) = 33
refusal_status (Some UnlistedPrincipal) = 34

-- the algorithm of a question; no question has one of the last
abbrev pub algorithm_number : Algorithm → ℕ
algorithm_number Algorithm.Dsa = 1
algorithm_number (Algorithm.Ecdsa Nistp256) = 2
algorithm_number (Algorithm.Ecdsa Nistp384) = 3
algorithm_number (Algorithm.Ecdsa Nistp521) = 4
algorithm_number Algorithm.Ed25519 = 5
algorithm_number (Algorithm.Rsa (Some Sha256)) = 6
algorithm_number (Algorithm.Rsa (Some Sha512)) = 7
algorithm_number (Algorithm.Rsa None) = 0
algorithm_number Algorithm.SkEcdsa = 0
algorithm_number Algorithm.SkEd25519 = 0
algorithm_number (Algorithm.Other name) = 0
