-- Worked examples of who may sign, on both sides of each edge: what holds, and the same with one
-- thing changed (ssh-keygen(1), ALLOWED SIGNERS; sshsig.c of OpenSSH).
use Rattle.std.specs.Prelude.{ℕ, List, [], ◌∷◌, ◌++◌, true, false, Some, None, codes}
use Rattle.sshkey_entries.specs.AuthorizedKeys.{AuthorizedKey}
use Rattle.sshkey_entries.specs.OptionItems.{Names}
use Rattle.sshkey_model.specs.CertificateExamples.{authority}
use Rattle.sshkey_model.specs.KeyExamples.{ed25519_key, ed25519_point}
use Rattle.sshkey_model.specs.Keys.{Key, SkEd25519}
use Rattle.sshkey_model.specs.Names.{Algorithm, Sha512}
use Rattle.sshkey_model.specs.SshSignatures.{SshSignature}
use Rattle.sshkey_matching.specs.Times.{IsTimeText}
use Rattle.sshkey_matching.specs.declared.times.Span.{Span}
use Rattle.allowed_signers.specs.AllowedSigners.{AllowsSigner, Counts, HasSigned, IsAllowed, IsEntryFor, HasPrincipals, AddsValue, AreTerms, AreTimesInOrder, Permits, Terms, no_terms, words}
use Rattle.allowed_signers.specs.declared.options.Word.{Word}
use Rattle.allowed_signers.specs.declared.options.Word.TheVariants.{CertAuthority, Namespaces, ValidAfter, ValidBefore}

-- ---- the front of a line

abbrev carriage : List ℕ
carriage = 13 ∷ []

-- A word, or what stands in double quotes; with a quote within it, and with a carriage return, it is
-- none.
abbrev pub Fronts : Type 0
Fronts = HasPrincipals (codes "alice,bob KEY") (codes "alice,bob") (codes " KEY")
    × HasPrincipals (codes "\"al ice\" KEY") (codes "al ice") (codes " KEY")
    × ¬ HasPrincipals (codes "al\"ice KEY") (codes "al\"ice") (codes " KEY")
    × ¬ HasPrincipals (codes "\"alice KEY") (codes "\"alice") (codes " KEY")
    × ¬ HasPrincipals (codes "alice KEY") (codes "alice KEY") []
    × ¬ HasPrincipals (codes "alice" ++ carriage ++ codes " KEY") (codes "alice" ++ carriage) (codes " KEY")
    × ¬ HasPrincipals (codes "\"alice" ++ carriage ++ codes "\" KEY") (codes "alice" ++ carriage) (codes " KEY")

-- ---- options

-- Their names are compared without case.
abbrev pub OptionNames : Type 0
OptionNames = Names words (codes "cert-authority") CertAuthority
    × Names words (codes "Namespaces") Namespaces
    × Names words (codes "valid-AFTER") ValidAfter
    × Names words (codes "valid-before") ValidBefore
    × ((word : Word) → ¬ Names words (codes "valid_before") word)
    × ((word : Word) → ¬ Names words (codes "touch-required") word)

-- What an option adds, where it stands first and where it stands twice. A time may be any second of
-- its span: the key signs from the last on, and to the first.
abbrev pub Values : Type 0
Values = AddsValue CertAuthority None no_terms (record no_terms { is_authority = true })
    × AddsValue CertAuthority None (record no_terms { is_authority = true }) (record no_terms { is_authority = true })
    × ((t : Terms) → ¬ AddsValue CertAuthority (Some (codes "x")) no_terms t)
    × AddsValue Namespaces (Some (codes "file")) no_terms (record no_terms { namespaces = Some (codes "file") })
    × ((t : Terms) → ¬ AddsValue Namespaces None no_terms t)
    × ((t : Terms) → ¬ AddsValue Namespaces (Some (codes "git")) (record no_terms { namespaces = Some (codes "file") }) t)
    × ((text : List ℕ) (n : Span) → IsTimeText text n → AddsValue ValidAfter (Some text) no_terms (record no_terms { valid_after = Some n.last }))
    × ((text : List ℕ) (n : Span) → IsTimeText text n → AddsValue ValidBefore (Some text) no_terms (record no_terms { valid_before = Some n.first }))
    × ((t : Terms) → ¬ AddsValue ValidAfter None no_terms t)
    × ((text : List ℕ) (t : Terms) → ¬ AddsValue ValidAfter (Some text) (record no_terms { valid_after = Some 1 }) t)
    × ((text : List ℕ) (t : Terms) → ¬ AddsValue ValidBefore (Some text) (record no_terms { valid_before = Some 1 }) t)

abbrev pub between : ℕ → ℕ → Terms
between first last = record no_terms { valid_after = Some first; valid_before = Some last }

-- The first second stands before the last; and no text says nothing.
abbrev pub Orders : Type 0
Orders = AreTimesInOrder (between 10 11)
    × ¬ AreTimesInOrder (between 10 10)
    × ¬ AreTimesInOrder (between 11 10)
    × AreTimesInOrder (record no_terms { valid_after = Some 10 })
    × AreTimesInOrder (record no_terms { valid_before = Some 10 })
    × AreTerms [] no_terms

abbrev pub in_list : List ℕ → Terms
in_list list = record no_terms { namespaces = Some list }

-- The first second and the last count; namespaces are compared with case.
abbrev pub Permitted : Type 0
Permitted = Permits (codes "file") 5 no_terms
    × ¬ Permits (codes "file") 5 (record no_terms { is_authority = true })
    × ¬ Permits (codes "file") 9 (between 10 20)
    × Permits (codes "file") 10 (between 10 20)
    × Permits (codes "file") 20 (between 10 20)
    × ¬ Permits (codes "file") 21 (between 10 20)
    × Permits (codes "file") 5 (in_list (codes "git,file"))
    × ¬ Permits (codes "file") 5 (in_list (codes "git"))
    × ¬ Permits (codes "File") 5 (in_list (codes "file"))
    × ¬ Permits (codes "file") 5 (in_list (codes "*,!file"))

-- ---- a line

abbrev pub entry_of : Key → AuthorizedKey
entry_of key = record { options = []; key = key; comment = [] }

abbrev pub security_key : List ℕ → Key
security_key application = SkEd25519 (record { key = ed25519_point; application = application })

-- The same key, whose application has no zero byte.
abbrev pub Entries : Type 0
Entries = IsEntryFor (codes "file") 5 ed25519_key (entry_of ed25519_key)
    × ¬ IsEntryFor (codes "file") 5 ed25519_key (entry_of authority)
    × IsEntryFor (codes "file") 5 (security_key (codes "ssh:")) (entry_of (security_key (codes "ssh:")))
    × ¬ IsEntryFor (codes "file") 5 (security_key (codes "ssh:" ++ (0 ∷ []))) (entry_of (security_key (codes "ssh:" ++ (0 ∷ []))))

-- A line with a zero byte, one for somebody else, and one whose front is none, let nobody sign.
abbrev pub Lines : Type 0
Lines = (namespace : List ℕ) (time : ℕ) (key : Key)
    → ¬ AllowsSigner (codes "alice") namespace time key (codes "alice KEY" ++ (0 ∷ []))
    × ¬ AllowsSigner (codes "carol") namespace time key (codes "alice,bob KEY")
    × ¬ AllowsSigner (codes "Alice") namespace time key (codes "alice KEY")
    × ¬ AllowsSigner (codes "alice") namespace time key (codes "*,!alice KEY")
    × ¬ AllowsSigner (codes "alice") namespace time key (codes "alice" ++ carriage ++ codes " KEY")

-- ---- a signature

abbrev pub signature : SshSignature
signature = record { version = 1; key = ed25519_key; namespace = codes "file"; reserved = []; hash = Sha512; signature = record { algorithm = Algorithm.Ed25519; blob = [] } }

-- One that the verifier does not accept, in another namespace, and with reserved bytes.
abbrev pub Signed : Type 0
Signed = HasSigned (λ q. true) (codes "file") (codes "message") signature
    × ¬ HasSigned (λ q. false) (codes "file") (codes "message") signature
    × ¬ HasSigned (λ q. true) (codes "git") (codes "message") signature
    × ¬ HasSigned (λ q. true) (codes "file") (codes "message") (record signature { reserved = 1 ∷ [] })

-- Where a line allows the key: it counts, and not where the key is revoked or has not signed. And
-- without a line; and of an identity of no bytes, which `*` matches (ssh-keygen takes it).
abbrev pub Verdicts : Type 0
Verdicts = ((signers : List ℕ) → IsAllowed (codes "alice") (codes "file") 5 ed25519_key signers →
    Counts (λ q. true) (λ k. false) signers (codes "alice") (codes "file") (codes "message") 5 signature
    × ¬ Counts (λ q. true) (λ k. true) signers (codes "alice") (codes "file") (codes "message") 5 signature
    × ¬ Counts (λ q. false) (λ k. false) signers (codes "alice") (codes "file") (codes "message") 5 signature)
    × ¬ Counts (λ q. true) (λ k. false) [] (codes "alice") (codes "file") (codes "message") 5 signature
    × ((signers : List ℕ) → ¬ Counts (λ q. true) (λ k. false) signers [] (codes "file") (codes "message") 5 signature)
