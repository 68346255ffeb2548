-- What contracts see of borrowed lists.
use Rattle.std.specs.Prelude.{ℕ, List}
use Rattle.sshkey_model.specs.Options.{CertificateOption, Nesting}
use Rattle.sshkey_cert_ref.specs.Lists.{texts_in, options_in, nestings_in}
use Rattle.sshkey_cert_ref.specs.declared.certificate_options_ref.CertificateOptionsRef.{CertificateOptionsRef}
use Rattle.sshkey_cert_ref.specs.declared.principals_ref.PrincipalsRef.{PrincipalsRef}

-- the bytes, and the texts in them
abbrev pub bytes_of_texts : PrincipalsRef → List ℕ
bytes_of_texts t = t.bytes.now

abbrev pub texts_of : PrincipalsRef → List (List ℕ)
texts_of t = texts_in t.bytes.now

-- the bytes, the options in them, and how each is spelled
abbrev pub bytes_of_options : CertificateOptionsRef → List ℕ
bytes_of_options o = o.bytes.now

abbrev pub options_of : CertificateOptionsRef → List CertificateOption
options_of o = options_in o.bytes.now

abbrev pub nestings_of : CertificateOptionsRef → List Nesting
nestings_of o = nestings_in o.bytes.now

abbrev pub spelled_options_of : CertificateOptionsRef → List CertificateOption × List Nesting
spelled_options_of o = (options_of o, nestings_of o)
