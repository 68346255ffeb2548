-- Worked examples: which line is the first, which lines are of a principal or may spell a key, and who
-- is let in, each part held and broken by itself, as OpenSSH has it (auth2-pubkeyfile.c,
-- `auth_check_authkeys_file` and `auth_check_principals_line`; auth2-pubkey.c, `user_cert_trusted_ca`).
use Rattle.std.specs.Prelude.{◌≡◌, ℕ, List, [], ◌∷◌, ◌++◌, Bool, true, false, None, Some, codes, slice_index}
use Rattle.std.specs.declared.net.ip_addr.IpAddr.{IpAddr}
use Rattle.login_policy.specs.Logins as policy
use Rattle.login_policy.specs.Logins.{LetsIn}
use Rattle.login_policy.specs.declared.client.Client.TheVariants.{At, Unknown}
use Rattle.login_terms.specs.Options.{Terms, no_terms, terms_of}
use Rattle.sshkey_entries.specs.AuthorizedKeys.{AuthorizedKey}
use Rattle.sshkey_entries.specs.OpenSshLines.{IsAuthorizedLine}
use Rattle.sshkey_krl.specs.Revocations.{is_key_revoked}
use Rattle.sshkey_model.specs.CertificateExamples.{openssh_certificate}
use Rattle.sshkey_model.specs.Certificates.{Certificate, normal_certificate}
use Rattle.sshkey_model.specs.Fingerprints.{Fingerprint}
use Rattle.sshkey_model.specs.HexText.{hex}
use Rattle.sshkey_model.specs.Keys.{Dsa, DsaKey, Key, Opaque}
use Rattle.sshkey_model.specs.Parts.{flat}
use Rattle.user_keys.specs.CertificateLogins.{AdmitsBy, BindsTogether, CertificateLogin, IsCertified, IsCertifiedBy, client_of}
use Rattle.user_keys.specs.Certificates.{merged}
use Rattle.user_keys.specs.Lines.{IsPassedOver, HasName, IsFor, IsNameFor, IsOddlySpelled, IsTextEntry, MayBeFor, before_zero, is_zero, AreTerms, MayBeTerms}
use Rattle.user_keys.specs.UserLogins.{IsFirst, LetsFirst, Admits, GrantsFirst, IsOwn, JudgesWith, MayAllow, OfCertificate, OfKey, RefusesFor, UserLogin}
use Rattle.sshkey_entries.specs.Entries.{IsNoEntry, hash_sign}
use Rattle.sshkey_entries.specs.Fields.{without_blanks}
use Rattle.std.specs.Str.{IsUtf8}
use Rattle.user_keys.specs.LoginExamples.{by_key, login_at, other}
use Rattle.user_keys.specs.Principals.{DecidesBy, HasOptions, MayDecideBy, after_last, is_feed, is_space, is_tab}
use Rattle.user_keys.specs.Spellings.{MaySpell, StandAt, own_part}
use Rattle.user_keys.specs.TermExamples.{expiring}
use Rattle.user_keys.specs.declared.answer.Judgement.TheVariants as judgement
use Rattle.user_keys.specs.declared.grant.Certified.{Certified}
use Rattle.user_keys.specs.declared.grant.UserGrant.{UserGrant}
use Rattle.user_keys.specs.declared.refusal.Reason.TheVariants as reason

-- ---- the first line

abbrev pub is_b : List ℕ → Type 0
is_b line = line ≡ codes "b"

abbrev pub is_c : List ℕ → Type 0
is_c line = line ≡ codes "c"

-- The number of a line is counted from 1, and no line before it will do.
abbrev pub FirstLines : Type 0
FirstLines = IsFirst is_b (codes "a" ∷ codes "b" ∷ codes "b" ∷ []) (codes "b") 2
    × ¬ IsFirst is_b (codes "a" ∷ codes "b" ∷ codes "b" ∷ []) (codes "b") 3
    × ¬ IsFirst is_b (codes "a" ∷ codes "b" ∷ codes "b" ∷ []) (codes "b") 1
    × ¬ IsFirst is_b (codes "a" ∷ []) (codes "a") 1

abbrev pub lets_b : List ℕ → Terms → Type 0
lets_b line t = is_b line × (t ≡ no_terms)

-- The first line decides that lets in or may do so: nobody is let in by one after it, nor by one that
-- only may, nor on terms of which there are two.
abbrev pub FirstLets : Type 0
FirstLets = LetsFirst lets_b is_c (codes "a" ∷ codes "b" ∷ codes "c" ∷ []) 2 no_terms
    × ((n : ℕ) (t : Terms) → LetsFirst lets_b is_c (codes "c" ∷ codes "b" ∷ []) n t → ⊥)
    × ((n : ℕ) (t : Terms) → LetsFirst lets_b is_b (codes "b" ∷ []) n t → ⊥)
    × ((n : ℕ) (t : Terms) → LetsFirst (λ line t. is_b line) is_c (codes "b" ∷ []) n t → ⊥)

-- ---- a file of principals

-- A line feed ends a line, and the name stands after the last space or tab.
abbrev pub Breaks : Type 0
Breaks = (is_feed 0x0a ≡ true) × (is_feed 0x0d ≡ false) × (is_space 0x20 ≡ true) × (is_space 0x09 ≡ false) × (is_tab 0x09 ≡ true) × (is_tab 0x20 ≡ false)
    × (after_last is_space (codes "a b c") ≡ codes "c") × (after_last is_space (codes "abc") ≡ codes "abc") × (after_last is_space (codes "a ") ≡ [])
    × (after_last is_tab (codes "a b\tc d") ≡ codes "c d")

abbrev pub of_alice : Certificate
of_alice = record openssh_certificate { signed = record openssh_certificate.signed { valid_principals = codes "alice" ∷ [] } }

-- A line decides for a principal of the certificate alone, on the terms that its options say, and may
-- do so where these cannot be told.
abbrev pub LinesOfPrincipals : Type 0
LinesOfPrincipals = ((options : List ℕ) (t : Terms) → AreTerms options t → DecidesBy of_alice (codes "alice") (Some options) t)
    × ((options : List ℕ) (t : Terms) → DecidesBy of_alice (codes "bob") (Some options) t → ⊥)
    × ((options : List ℕ) (t : Terms) → (AreTerms options t → ⊥) → DecidesBy of_alice (codes "alice") (Some options) t → ⊥)
    × ((t : Terms) → DecidesBy of_alice (codes "alice") None t → ⊥)
    × MayDecideBy of_alice (codes "alice") None × ¬ MayDecideBy of_alice (codes "bob") None
    × ((options : List ℕ) → MayBeTerms options → MayDecideBy of_alice (codes "alice") (Some options))
    × ((options : List ℕ) → MayDecideBy of_alice (codes "bob") (Some options) → ⊥)
    × ((options : List ℕ) → (MayBeTerms options → ⊥) → MayDecideBy of_alice (codes "alice") (Some options) → ⊥)

-- The options of a line that is no UTF-8 up to a `#` cannot be told.
abbrev pub OptionsOfLines : Type 0
OptionsOfLines = HasOptions (codes " alice ") (Some []) × HasOptions (codes "alice #" ++ (0xff ∷ [])) (Some []) × HasOptions (0xff ∷ codes " alice") None
    × ¬ HasOptions (codes " alice ") None × ((options : List ℕ) → HasOptions (0xff ∷ codes " alice") (Some options) → ⊥)

-- ---- where a key is spelled

-- Symbols stand one after the other, a carriage return between them aside, and a space not.
abbrev pub Places : Type 0
Places = StandAt (codes "ab") (codes "xab") 1 × StandAt (codes "ab") (codes "xa\rb") 1 × StandAt (codes "ab") (codes "aab") 1
    × ¬ StandAt (codes "ab") (codes "xab") 0 × ¬ StandAt (codes "ab") (codes "xa b") 1 × ¬ StandAt (codes "ab") (codes "xa") 1 × ¬ StandAt [] (codes "x") 0

abbrev pub point : List ℕ
point = hex "b33eaef37ea2df7caa010defdea34e241f65f1b529a4f43ed14327f5c54aab62"

-- An Ed25519 key in a line, also with a carriage return in its Base64, and under a short name.
abbrev pub Spelled : Type 0
Spelled = MaySpell point (codes "ssh-ed25519 " ++ (codes "AAAAC3NzaC1lZDI1NTE5AAAAILM+rvN+ot98qgEN796jTiQfZfG1KaT0PtFDJ/XFSqti" ++ codes " alice"))
    × MaySpell point (codes "ssh-ed25519 " ++ (codes "AAAAC3NzaC1lZDI1NTE5AAAAILM+rvN+ot98qgEN796\rjTiQfZfG1KaT0PtFDJ/XFSqti" ++ []))
    × MaySpell point (codes "ssh-ed25519 " ++ (codes "AAAAB0VEMjU1MTkAAAAgsz6u836i33yqAQ3v3qNOJB9l8bUppPQ+0UMn9cVKq2I=" ++ []))
    × ¬ MaySpell point []

-- ---- a line

-- A key may begin with its own name, each fixed one, a later one, or a short one in either case, and
-- with no word that only ends so; nor with a certificate's name, nor with that of another private use.
abbrev pub KeyNames : Type 0
KeyNames = IsNameFor other (codes "ssh-ed25519") × IsNameFor other (codes "ssh-dss") × IsNameFor other (codes "rsa-sha2-512") × IsNameFor other (codes "sk-ssh-ed25519@openssh.com")
    × IsNameFor other (codes "webauthn-sk-ecdsa-sha2-nistp256@openssh.com") × IsNameFor other (codes "ssh-mldsa44-ed25519") × IsNameFor other (codes "ED25519") × IsNameFor other (codes "Ecdsa-sk")
    × IsNameFor (Opaque (codes "ssh-xmss@openssh.com") (codes "p")) (codes "ssh-xmss@openssh.com") × ¬ IsNameFor other (codes "ssh-xmss@openssh.com")
    × ¬ IsNameFor other (codes "//ssh-ed25519") × ¬ IsNameFor other (codes "ssh-ed25519-cert-v01@openssh.com") × ¬ IsNameFor other []

-- A name stands at the front, or behind options, in whose quotes blanks are no end. Options end at a
-- blank behind a comma, too, and those whose quotes stay open nowhere.
abbrev pub HasNames : Type 0
HasNames = HasName other (codes "ssh-ed25519 AAAA") × HasName other (codes "command=\"a b\" \tED25519 AAAA")
    × ¬ HasName other (codes ";ssh-ed25519 AAAA") × ¬ HasName other (codes "no-pty, no-user-rc ssh-ed25519 AAAA")
    × ¬ HasName other (codes "command=\"a\" x ssh-ed25519 AAAA") × ¬ HasName other (codes "\"\\\" ssh-ed25519 AAAA")

-- A line that is no UTF-8 is no entry, and a comment or an entry is none that is oddly spelled; nor is
-- one of UTF-8 without a name.
abbrev pub OddLines : Type 0
OddLines = (is_zero 0 ≡ true) × (is_zero 0x30 ≡ false)
    × ((entry : AuthorizedKey) → IsTextEntry (0xff ∷ []) entry → ⊥) × ((text : List ℕ) (entry : AuthorizedKey) → IsTextEntry text entry → IsAuthorizedLine text entry)
    × ¬ IsOddlySpelled other (codes " # comment")
    × ((line : List ℕ) (entry : AuthorizedKey) → IsTextEntry (before_zero line) entry → IsOddlySpelled other line → ⊥)
    × ((line : List ℕ) → (MaySpell (own_part other) (before_zero line) → ⊥) → IsOddlySpelled other line → ⊥)
    × ((line : List ℕ) → IsUtf8 (before_zero line) → (HasName other (without_blanks (before_zero line)) → ⊥) → IsOddlySpelled other line → ⊥)
    × ((line : List ℕ) → (slice_index (without_blanks (before_zero line)) 0 ≡ hash_sign → ⊥) → IsNoEntry IsTextEntry (before_zero line) → MaySpell (own_part other) (before_zero line) → (IsUtf8 (before_zero line) → ⊥) → IsOddlySpelled other line)

-- No line of the key is passed over, as that of an authority neither, nor one that sshd may take for one.
abbrev pub PassedOver : Type 0
PassedOver = ((line : List ℕ) (t : Terms) → IsFor false other line t → IsPassedOver other line → ⊥)
    × ((line : List ℕ) (t : Terms) → IsFor true other line t → IsPassedOver other line → ⊥)
    × ((line : List ℕ) → MayBeFor other line → IsPassedOver other line → ⊥)
    × ((line : List ℕ) → ((authority : Bool) (t : Terms) → IsFor authority other line t → ⊥) → (MayBeFor other line → ⊥) → IsPassedOver other line)

-- A line refuses a key once it is over in each zone, and may allow it until then.
abbrev pub RefusedLines : Type 0
RefusedLines = ((line : List ℕ) → IsOwn by_key line expiring → RefusesFor (login_at 21) by_key line reason.Expired)
    × ((line : List ℕ) → ((t : Terms) → IsOwn by_key line t → t ≡ expiring) → RefusesFor (login_at 20) by_key line reason.Expired → ⊥)
    × ((line : List ℕ) → IsOwn by_key line expiring → MayAllow (login_at 20) by_key line)
    × ((line : List ℕ) → ((t : Terms) → IsOwn by_key line t → t ≡ expiring) → MayAllow (login_at 21) by_key line → ⊥)
    × JudgesWith by_key (codes "bob") no_terms (λ j. j ≡ judgement.Allows) judgement.Allows
    × JudgesWith (OfCertificate of_alice) (codes "alice") no_terms (λ j. j ≡ judgement.Allows) judgement.Allows
    × JudgesWith (OfCertificate of_alice) (codes "bob") no_terms (λ j. j ≡ judgement.Allows) (judgement.Refuses reason.Principals)

-- ---- who is let in

-- Nobody by a key that is revoked or of DSA, nor but for the first line; and no certificate is told.
abbrev pub AdmittedKeys : Type 0
AdmittedKeys = ((login : UserLogin) (key : Key) (revokes_key : List ℕ → Bool) (g : UserGrant) → Admits login key revokes_key g → is_key_revoked revokes_key key ≡ true → ⊥)
    × ((login : UserLogin) (key : Key) (revokes_key : List ℕ → Bool) (g : UserGrant) (k : DsaKey) → key ≡ Dsa k → Admits login key revokes_key g → ⊥)
    × ((login : UserLogin) (key : Key) (revokes_key : List ℕ → Bool) (g : UserGrant) → Admits login key revokes_key g → GrantsFirst login (OfKey key) g)
    × ((login : UserLogin) (key : Key) (revokes_key : List ℕ → Bool) (g : UserGrant) (by : Certified) → g.certified ≡ Some by → Admits login key revokes_key g → ⊥)

-- A certificate by an authority of DSA lets nobody in, nor one that no line lets in, that is not in its
-- normal form or that the policy refuses. A client's address is the policy's, too.
abbrev pub AdmittedCertificates : Type 0
AdmittedCertificates = ((authorities : Certificate → List Fingerprint) (l : CertificateLogin) (g : UserGrant) (a : AdmitsBy (λ c n t name. Unit {0}) authorities l g) (k : DsaKey) → a.certificate.signed.signature_key ≡ Dsa k → ⊥)
    × ((authorities : Certificate → List Fingerprint) (l : CertificateLogin) (g : UserGrant) → AdmitsBy (λ c n t name. ⊥) authorities l g → ⊥)
    × ((p : policy.Login) (c : Certificate) (t : Terms) (g : UserGrant) → BindsTogether p c t g → p.blob ≡ flat (normal_certificate c))
    × ((p : policy.Login) (c : Certificate) (t : Terms) (g : UserGrant) → BindsTogether p c t g → LetsIn p c)
    × ((p : policy.Login) (c : Certificate) (t : Terms) (g : UserGrant) → BindsTogether p c t g → terms_of g.terms ≡ merged t c)
    × ((p : policy.Login) (c : Certificate) (t : Terms) (g : UserGrant) → g.certified ≡ None → BindsTogether p c t g → ⊥)
    × ¬ IsCertified openssh_certificate None × ((by : Certified) → IsCertifiedBy openssh_certificate by → by.serial ≡ 0)
    × (client_of None ≡ Unknown) × ((address : IpAddr) → client_of (Some address) ≡ At address)
