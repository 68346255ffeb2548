-- What is issued, and what is used up.
use Rattle.std.proofs.Common.{◌≡◌, ap, ℕ, ◌+◌, ◌<◌, ◌^◌, List, Bool, true, false, None, Result, Ok, Err, IfOk, nat_lt, refl, inr, arith}
use Rattle.std.proofs.lemmas.Bool.Decides.{nat_tests}
use Rattle.ssh_key.specs.cert.Certificates.{certificate_of}
use Rattle.ssh_key.specs.keys.Keys.{key_of}
use Rattle.ssh_key.specs.model.Certificates.{AreSignedFields, SignedFields, is_time}
use Rattle.ssh_key.specs.model.Drafts.{bad_window}
use Rattle.ssh_key.specs.model.Keys.{IsKey, Key}
use Rattle.ssh_key.specs.model.Verification.{Question}
use Rattle.ssh_key.specs.types.Certificate.{Certificate}
use Rattle.ssh_key.specs.types.Error.{Error}
use Rattle.authority.specs.Issuance.{CertifiesExactly, IsLeft, IsWithinLimits, IssuesExactly, OtherExtensions, OtherKey, OtherKeyId, OtherUsers, OtherWindow, RefusesRequest, IsHistory, serial_of}
use Rattle.authority.specs.declared.limits.Limits.{Limits}
use Rattle.authority.specs.declared.request.Request.{Request}
use Rattle.authority.proofs.Forms.{are_fields}

-- one serial number is used up, whether the certificate was signed or not
pub used : (accepts : Question → Bool) (authority : Key) (refuses : List ℕ → Error → Type 0) (r : Request) (serial next : ℕ) (nonce : List ℕ) → next ≡ serial + 1 → (result : Result Certificate Error) → CertifiesExactly accepts authority refuses r serial nonce result → IsHistory serial (serial_of result) next
used accepts authority refuses r serial next nonce more (Ok c) certified =
    let same = ap (λ (s : SignedFields). s.serial) certified.fields in
    (omega (arith, same), omega (arith, same, more))
used accepts authority refuses r serial next nonce more (Err e) refused = omega (arith, more)

-- a request is refused for what is outside the limits
pub outside : (limits : Limits) (t : ℕ) (r : Request) (e : Error) → RefusesRequest limits t r e → IsWithinLimits limits t r → ⊥
outside limits t r e (OtherKey none) within = none within.key
outside limits t r e (OtherKeyId key none) within = none within.key_id
outside limits t r e (OtherUsers key key_id none) within = none within.users
outside limits t r e (OtherExtensions key key_id names none) within = none within.extensions
outside limits t r e (OtherWindow key key_id names extensions none) within = none within.window

window : (after before : ℕ) → before < 2 ^ 63 → after < before → bad_window after before ≡ None
window after before time less =
    let first : is_time after ≡ true = grind (arith, nat_tests) in
    let second : is_time before ≡ true = grind (arith, nat_tests) in
    let third : nat_lt before after ≡ false = grind (arith, nat_tests) in
    rw (first, second, third) refl

-- what is issued of a request within the limits
pub issued : (accepts : Question → Bool) (authority : Key) (refuses : List ℕ → Error → Type 0) (limits : Limits) (t : ℕ) (r : Request) (serial : ℕ) (nonce : List ℕ) → IsWithinLimits limits t r → (result : Result Certificate Error) → CertifiesExactly accepts authority refuses r serial nonce result → IsLeft serial → IssuesExactly accepts authority refuses limits t r serial nonce result
issued accepts authority refuses limits t r serial nonce within (Ok c) certified left = (within, certified)
issued accepts authority refuses limits t r serial nonce within (Err e) refused left = inr (inr (within, left, refused (window r.valid_after r.valid_before within.window.0 within.window.1) within.users.0))

-- the number that is given is the next one
pub numbered : (accepts : Question → Bool) (authority : Key) (refuses : List ℕ → Error → Type 0) (r : Request) (serial : ℕ) (nonce : List ℕ) → 0 < serial → (result : Result Certificate Error) → CertifiesExactly accepts authority refuses r serial nonce result → IfOk result (λ c. 0 < (certificate_of c).signed.serial)
numbered accepts authority refuses r serial nonce some (Ok c) certified =
    let same = ap (λ (s : SignedFields). s.serial) certified.fields in
    omega (arith, same, some)
numbered accepts authority refuses r serial nonce some (Err e) refused = tt

-- what is signed are the fields of a certificate
pub well_formed : (accepts : Question → Bool) (authority : Key) (refuses : List ℕ → Error → Type 0) (limits : Limits) (t : ℕ) (r : Request) (serial : ℕ) (nonce : List ℕ) → IsWithinLimits limits t r → IsKey (key_of r.key) → IsKey authority → (result : Result Certificate Error) → CertifiesExactly accepts authority refuses r serial nonce result → IfOk result (λ c. AreSignedFields (certificate_of c).signed)
well_formed accepts authority refuses limits t r serial nonce within key signer (Ok c) certified = rw certified.fields (are_fields limits t r serial nonce authority within key signer)
well_formed accepts authority refuses limits t r serial nonce within key signer (Err e) refused = tt
