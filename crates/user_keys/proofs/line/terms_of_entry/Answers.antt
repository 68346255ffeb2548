use Rattle.std.proofs.Common.{◌≡◌, ◌∙◌, List, ap, subst, sym, ℕ}
use Rattle.sshkey_authorized_keys.specs.OpenSshEntries.{openssh_entry_of}
use Rattle.sshkey_keys.specs.Keys.{key_of}
use Rattle.sshkey_public.specs.PublicKeys.{data_of}
use Rattle.sshkey_entries.specs.Answers.{Tells}
use Rattle.login_terms.specs.Options.{terms_of}
use Rattle.sshkey_entries.specs.declared.reading.Reading.{Reading}
use Rattle.login_terms.specs.declared.terms.Terms as code
use Rattle.user_keys.specs.Lines.{AreTerms, MayBeTerms}
use Rattle.user_keys.proofs.Lines.{is_own, is_rejected, is_unclear, of_other, other_bit, same_bit}
use Rattle.user_keys.proofs.line.terms_of_entry.Goals as goal

pub returns-then-terms-is_authority : goal.returns-then-terms-is_authority
returns-then-terms-is_authority c =
    let entry = openssh_entry_of c.args.entry.now in
    let same : entry.key ≡ key_of c.args.key.now = ap key_of (sym (c.key_data-listed.ensures ∙ ap data_of c.public_key.ensures)) ∙ c.is.ensures.same c.if-not-is.false in
    let read = subst (λ (text : List ℕ). Tells terms_of (AreTerms text) (MayBeTerms text) c.in_ok-terms.field-0) (c.as_str.ensures ∙ c.options.ensures) c.in_ok-terms.ensures in
    let told = subst (λ (r : Reading code.Terms). Tells terms_of (AreTerms entry.options) (MayBeTerms entry.options) r) c.in-Is.is read in
    of_other c.args.is_authority (key_of c.args.key.now) entry same c.in-Is.terms told (other_bit c.in-Is.terms.is_authority c.args.is_authority c.if-terms-is_authority.true)

pub returns-else-terms-is_authority : goal.returns-else-terms-is_authority
returns-else-terms-is_authority c =
    let entry = openssh_entry_of c.args.entry.now in
    let same : entry.key ≡ key_of c.args.key.now = ap key_of (sym (c.key_data-listed.ensures ∙ ap data_of c.public_key.ensures)) ∙ c.is.ensures.same c.if-not-is.false in
    let read = subst (λ (text : List ℕ). Tells terms_of (AreTerms text) (MayBeTerms text) c.in_ok-terms.field-0) (c.as_str.ensures ∙ c.options.ensures) c.in_ok-terms.ensures in
    let told = subst (λ (r : Reading code.Terms). Tells terms_of (AreTerms entry.options) (MayBeTerms entry.options) r) c.in-Is.is read in
    is_own c.args.is_authority (key_of c.args.key.now) entry same c.in-Is.terms told (same_bit c.in-Is.terms.is_authority c.args.is_authority c.if-terms-is_authority.false)

pub returns-in-Rejected : goal.returns-in-Rejected
returns-in-Rejected c =
    let entry = openssh_entry_of c.args.entry.now in
    let same : entry.key ≡ key_of c.args.key.now = ap key_of (sym (c.key_data-listed.ensures ∙ ap data_of c.public_key.ensures)) ∙ c.is.ensures.same c.if-not-is.false in
    let read = subst (λ (text : List ℕ). Tells terms_of (AreTerms text) (MayBeTerms text) c.in_ok-terms.field-0) (c.as_str.ensures ∙ c.options.ensures) c.in_ok-terms.ensures in
    is_rejected c.args.is_authority (key_of c.args.key.now) entry same (subst (λ (r : Reading code.Terms). Tells terms_of (AreTerms entry.options) (MayBeTerms entry.options) r) c.in-Rejected.is read)

pub returns-in-Unclear : goal.returns-in-Unclear
returns-in-Unclear c =
    let entry = openssh_entry_of c.args.entry.now in
    let same : entry.key ≡ key_of c.args.key.now = ap key_of (sym (c.key_data-listed.ensures ∙ ap data_of c.public_key.ensures)) ∙ c.is.ensures.same c.if-not-is.false in
    let read = subst (λ (text : List ℕ). Tells terms_of (AreTerms text) (MayBeTerms text) c.in_ok-terms.field-0) (c.as_str.ensures ∙ c.options.ensures) c.in_ok-terms.ensures in
    is_unclear c.args.is_authority (key_of c.args.key.now) entry same (subst (λ (r : Reading code.Terms). Tells terms_of (AreTerms entry.options) (MayBeTerms entry.options) r) c.in-Unclear.is read)
