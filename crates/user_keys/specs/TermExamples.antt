-- Worked examples: what the terms of a line and a certificate say of a login, each part held and broken
-- by itself, as OpenSSH has it (auth2-pubkeyfile.c, `auth_authorise_keyopts`, `match_principals_option`
-- and `auth_check_principals_line`; auth-options.c, `sshauthopt_merge`).
use Rattle.std.specs.Prelude.{◌≡◌, ℕ, List, [], ◌∷◌, Bool, true, false, None, Some, codes}
use Rattle.std.specs.declared.net.ip_addr.IpAddr.{IpAddr}
use Rattle.std.specs.declared.net.ip_addr.IpAddr.TheVariants.{V4}
use Rattle.login_terms.specs.Options.{Terms, all_permitted, no_terms, none_permitted}
use Rattle.sshkey_model.specs.CertificateExamples.{openssh_certificate}
use Rattle.sshkey_model.specs.Certificates.{Certificate}
use Rattle.sshkey_model.specs.Options.{CertificateOption}
use Rattle.sshkey_matching.specs.declared.times.Span.{Span}
use Rattle.user_keys.specs.Certificates.{both_permit, judged_with, merged, merged_with, name_for}
use Rattle.user_keys.specs.Judgements.{Judges, LetsFrom}
use Rattle.user_keys.specs.Principals.{judged_in_place, AreOptionsIn, is_principal, lines_at_feeds, names_principal}
use Rattle.user_keys.specs.declared.answer.Answer.TheVariants.{Yes, No, Unclear}
use Rattle.user_keys.specs.declared.answer.Judgement.TheVariants as judgement
use Rattle.user_keys.specs.declared.refusal.Reason.TheVariants as reason

-- ---- a line by itself

abbrev until : Span
until = record { first = 10; last = 20 }

abbrev pub expiring : Terms
expiring = record no_terms { expires = Some until }

abbrev pub for_names : List ℕ → Terms
for_names names = record no_terms { principals = Some names }

abbrev authority_for : List ℕ → Terms
authority_for names = record (for_names names) { is_authority = true }

-- Without options a line allows each login; with a time those up to it.
abbrev pub Expiry : Type 0
Expiry = Judges no_terms 21 None None judgement.Allows × Judges expiring 10 None None judgement.Allows
    × Judges expiring 11 None None judgement.Unclear × Judges expiring 20 None None judgement.Unclear
    × Judges expiring 21 None None (judgement.Refuses reason.Expired) × ¬ Judges expiring 21 None None judgement.Allows

-- `principals` refuses on the line of a key that is no authority's, whatever else the line says.
abbrev pub Misplaced : Type 0
Misplaced = Judges (for_names (codes "alice")) 5 None None (judgement.Refuses reason.MisplacedOption)
    × ¬ Judges (for_names (codes "alice")) 5 None None judgement.Allows
    × ¬ Judges (record (for_names (codes "alice")) { command = Some (codes "ls") }) 5 None None judgement.Allows
    × Judges (authority_for (codes "alice")) 5 None None judgement.Allows

abbrev address : IpAddr
address = V4 (record { octets = 10 ∷ 1 ∷ 2 ∷ 3 ∷ [] })

-- Without `from` a line lets in from anywhere; with it nothing is told of a client without an address.
abbrev pub From : Type 0
From = LetsFrom None None None Yes × LetsFrom None (Some address) None Yes × ¬ LetsFrom None (Some address) None No
    × ¬ LetsFrom (Some (codes "*")) None None Yes × ¬ LetsFrom (Some (codes "*")) None None No × LetsFrom (Some (codes "*")) None None Unclear

-- ---- a line and a certificate

abbrev option : List ℕ → CertificateOption
option name = record { name = name; value = [] }

abbrev certified : List (List ℕ) → List CertificateOption → List CertificateOption → Certificate
certified names critical extensions = record openssh_certificate { signed = record openssh_certificate.signed { valid_principals = names; critical_options = critical; extensions = extensions } }

abbrev forcing : List ℕ → Certificate
forcing command = certified (codes "alice" ∷ []) (record { name = codes "force-command"; value = command } ∷ []) []

abbrev listing : List (List ℕ) → Certificate
listing names = certified names [] []

-- The user counts where the line names nobody; and where it does, the first of its names that the
-- certificate lists, up to an empty one, and the user does not.
abbrev pub Named : Type 0
Named = (name_for (listing (codes "alice" ∷ [])) (codes "alice") no_terms ≡ Some (codes "alice"))
    × (name_for (listing (codes "alice" ∷ [])) (codes "bob") no_terms ≡ None)
    × (name_for (listing (codes "alice" ∷ [])) (codes "Alice") no_terms ≡ None)
    × (name_for (listing []) (codes "alice") no_terms ≡ None)
    × (name_for (listing (codes "alice" ∷ codes "bob" ∷ [])) (codes "alice") (authority_for (codes "carol,bob")) ≡ Some (codes "bob"))
    × (name_for (listing (codes "alice" ∷ [])) (codes "alice") (authority_for (codes "bob")) ≡ None)
    × (name_for (listing (codes "alice" ∷ [])) (codes "alice") (authority_for (codes "bob,,alice")) ≡ None)
    × (name_for (listing (codes "alice" ∷ [])) (codes "alice") (authority_for []) ≡ None)

abbrev commanding : List ℕ → Terms
commanding command = record no_terms { is_authority = true; command = Some command }

-- What a line allows the certificate refuses by another command, and then by its names; what the line
-- refuses stays refused for that.
abbrev pub Certified : Type 0
Certified = (judged_with (forcing (codes "ls")) (codes "alice") (commanding (codes "ls")) judgement.Allows ≡ judgement.Allows)
    × (judged_with (forcing (codes "ls")) (codes "alice") no_terms judgement.Allows ≡ judgement.Allows)
    × (judged_with (listing (codes "alice" ∷ [])) (codes "alice") (commanding (codes "ls")) judgement.Unclear ≡ judgement.Unclear)
    × (judged_with (forcing (codes "ls -l")) (codes "alice") (commanding (codes "ls")) judgement.Allows ≡ judgement.Refuses reason.Command)
    × (judged_with (forcing (codes "ls -l")) (codes "bob") (commanding (codes "ls")) judgement.Unclear ≡ judgement.Refuses reason.Command)
    × (judged_with (forcing (codes "ls")) (codes "bob") (commanding (codes "ls")) judgement.Allows ≡ judgement.Refuses reason.Principals)
    × (judged_with (forcing (codes "ls -l")) (codes "bob") (commanding (codes "ls")) (judgement.Refuses reason.Elsewhere) ≡ judgement.Refuses reason.Elsewhere)

-- ---- what a login is bound to

abbrev asking : Bool → Bool → Terms
asking touch verify = record no_terms { touch_required = touch; verify_required = verify }

-- A touch and a verified user are asked for if the line or the certificate asks for them.
abbrev pub Strictest : Type 0
Strictest = ((merged_with (asking true false) None [] true false).touch_required ≡ true) × ((merged_with (asking true false) None [] false false).touch_required ≡ true)
    × ((merged_with (asking false false) None [] true false).touch_required ≡ true) × ((merged_with (asking false true) None [] false true).touch_required ≡ false)
    × ((merged_with (asking false true) None [] false true).verify_required ≡ true) × ((merged_with (asking false true) None [] false false).verify_required ≡ true)
    × ((merged_with (asking false false) None [] false true).verify_required ≡ true) × ((merged_with (asking true false) None [] true false).verify_required ≡ false)

-- The certificate asks for a touch without the extension, and for a verified user by the option.
abbrev pub Asked : Type 0
Asked = ((merged (asking false false) (certified [] [] (option (codes "no-touch-required") ∷ []))).touch_required ≡ false)
    × ((merged (asking false false) (certified [] [] [])).touch_required ≡ true)
    × ((merged (asking true false) (certified [] [] (option (codes "no-touch-required") ∷ []))).touch_required ≡ true)
    × ((merged (asking false false) (certified [] (option (codes "verify-required") ∷ []) [])).verify_required ≡ true)
    × ((merged (asking false false) (certified [] [] (option (codes "verify-required") ∷ []))).verify_required ≡ false)

-- The line's command counts before the certificate's, and either where it is the only one.
abbrev pub Commands : Type 0
Commands = ((merged (commanding (codes "ls")) (forcing (codes "id"))).command ≡ Some (codes "ls"))
    × ((merged no_terms (forcing (codes "id"))).command ≡ Some (codes "id"))
    × ((merged (commanding (codes "ls")) (listing [])).command ≡ Some (codes "ls"))
    × ((merged no_terms (listing [])).command ≡ None)

abbrev each_permit : List CertificateOption
each_permit = option (codes "permit-X11-forwarding") ∷ option (codes "permit-agent-forwarding") ∷ option (codes "permit-port-forwarding") ∷ option (codes "permit-pty") ∷ option (codes "permit-user-rc") ∷ []

-- Each extension permits one thing, and so does a line; of tunnels the line alone says something.
abbrev pub Permitted : Type 0
Permitted = (both_permit all_permitted (option (codes "permit-port-forwarding") ∷ []) ≡ record none_permitted { port_forwarding = true; tunnels = true })
    × (both_permit all_permitted (option (codes "permit-agent-forwarding") ∷ []) ≡ record none_permitted { agent_forwarding = true; tunnels = true })
    × (both_permit all_permitted (option (codes "permit-X11-forwarding") ∷ []) ≡ record none_permitted { x11_forwarding = true; tunnels = true })
    × (both_permit all_permitted (option (codes "permit-pty") ∷ []) ≡ record none_permitted { pty = true; tunnels = true })
    × (both_permit all_permitted (option (codes "permit-user-rc") ∷ []) ≡ record none_permitted { user_rc = true; tunnels = true })
    × (both_permit all_permitted [] ≡ record none_permitted { tunnels = true })
    × (both_permit none_permitted each_permit ≡ none_permitted)
    × (both_permit (record none_permitted { pty = true }) each_permit ≡ record none_permitted { pty = true })
    × (both_permit all_permitted each_permit ≡ all_permitted)

-- ---- a file of principals

-- `cert-authority` has no place there. The certificate's command counts, and the user does not.
abbrev pub Decided : Type 0
Decided = (judged_in_place (listing (codes "alice" ∷ [])) no_terms judgement.Allows ≡ judgement.Allows)
    × (judged_in_place (listing (codes "alice" ∷ [])) (record no_terms { is_authority = true }) judgement.Allows ≡ judgement.Refuses reason.MisplacedOption)
    × (judged_in_place (listing (codes "alice" ∷ [])) (record no_terms { is_authority = true }) judgement.Unclear ≡ judgement.Refuses reason.MisplacedOption)
    × (judged_in_place (forcing (codes "id")) (record no_terms { command = Some (codes "ls") }) judgement.Allows ≡ judgement.Refuses reason.Command)
    × (judged_in_place (listing []) no_terms (judgement.Refuses reason.Expired) ≡ judgement.Refuses reason.Expired)

-- An empty name is nobody's, also where the certificate lists one; and names are compared whole.
abbrev pub Principals : Type 0
Principals = (is_principal (listing (codes "alice" ∷ [] ∷ [])) (codes "alice") ≡ true) × (is_principal (listing (codes "alice" ∷ [] ∷ [])) [] ≡ false)
    × (is_principal (listing (codes "alice" ∷ [])) (codes "alic") ≡ false) × (is_principal (listing (codes "alice" ∷ [])) (codes "alice2") ≡ false)
    × (names_principal (listing (codes "alice" ∷ [])) (codes "  no-pty alice # bob") ≡ true) × (names_principal (listing (codes "alice" ∷ [])) (codes "alice bob") ≡ false)
    × (names_principal (listing ([] ∷ [])) (codes " # alice") ≡ false)

-- A line feed alone divides lines, and the name that is all of a line has no options before it.
abbrev pub PrincipalLines : Type 0
PrincipalLines = (lines_at_feeds (codes "a\r\nb\n") ≡ codes "a\r" ∷ codes "b" ∷ [] ∷ []) × AreOptionsIn (codes " alice ") []
