-- Worked examples: maps of options, and how a certificate is made.
use Rattle.std.specs.Prelude.{◌≡◌, ℕ, ◌-◌, ◌^◌, List, [], ◌∷◌, Some, None, Ok, Err, codes}
use Rattle.sshkey_model.specs.HexText.{hex}
use Rattle.sshkey_model.specs.Options.{CertificateOption}
use Rattle.sshkey_model.specs.OptionMaps.{value_of, with_option, with_options}
use Rattle.sshkey_model.specs.Certificates.{User, Host}
use Rattle.sshkey_model.specs.Drafts.{Draft, begun, Serial, Kind, KeyId, Comment, Principal, AllPrincipals, Critical, Extension, SerialField, KindField, KeyIdField, AfterField, BeforeField, CriticalField, ExtensionsField, CommentField, bad_window, after_step, after_steps, drafted}
use Rattle.sshkey_model.specs.KeyExamples.{ed25519_key}
use Rattle.sshkey_model.specs.CertificateExamples.{small_certificate, authority}

abbrev pub named : List ℕ → List ℕ → CertificateOption
named name value = record { name = name; value = value }

-- The names rise whatever the order of the calls, and a later value of a name is kept.
abbrev pub InsertedOptions : Type 0
InsertedOptions = (with_option (named (codes "b") []) (named (codes "a") [] ∷ named (codes "c") [] ∷ []) ≡ named (codes "a") [] ∷ named (codes "b") [] ∷ named (codes "c") [] ∷ [])
    × (with_option (named (codes "ab") []) (named (codes "a") [] ∷ named (codes "b") [] ∷ []) ≡ named (codes "a") [] ∷ named (codes "ab") [] ∷ named (codes "b") [] ∷ [])
    × (with_option (named (codes "a") (codes "2")) (named (codes "a") (codes "1") ∷ []) ≡ named (codes "a") (codes "2") ∷ [])
    × (with_options (named (codes "b") (codes "1") ∷ named (codes "a") [] ∷ named (codes "b") (codes "2") ∷ []) [] ≡ named (codes "a") [] ∷ named (codes "b") (codes "2") ∷ [])
    × (value_of (codes "b") (named (codes "a") [] ∷ named (codes "b") (codes "2") ∷ []) ≡ Some (codes "2"))
    × (value_of (codes "B") (named (codes "a") [] ∷ named (codes "b") (codes "2") ∷ []) ≡ None)

-- The window: both times up to 2^63 - 1, and not the wrong way round.
abbrev pub DraftWindows : Type 0
DraftWindows = (bad_window 10 20 ≡ None)
    × (bad_window 10 10 ≡ None)
    × (bad_window 11 10 ≡ Some BeforeField)
    × (bad_window (2 ^ 63 - 1) (2 ^ 63 - 1) ≡ None)
    × (bad_window 0 (2 ^ 63) ≡ Some BeforeField)
    × (bad_window 0 (2 ^ 64 - 1) ≡ Some BeforeField)
    × (bad_window (2 ^ 63) (2 ^ 63) ≡ Some AfterField)

abbrev pub draft : Draft
draft = begun (hex "01") ed25519_key 10 20

-- A field is set once, and a name of an option given once; principals are added, or all of them
-- made valid.
abbrev pub DraftSteps : Type 0
DraftSteps = (after_step (Serial 5) draft ≡ Ok (record draft { serial = Some 5 }))
    × (after_step (Serial 5) (record draft { serial = Some 0 }) ≡ Err SerialField)
    × (after_step (Kind Host) (record draft { certificate_type = Some User }) ≡ Err KindField)
    × (after_step (KeyId []) (record draft { key_id = Some [] }) ≡ Err KeyIdField)
    × (after_step (Comment []) (record draft { comment = Some [] }) ≡ Err CommentField)
    × (after_step (Critical (named (codes "a") [])) (record draft { critical_options = named (codes "a") (codes "1") ∷ [] }) ≡ Err CriticalField)
    × (after_step (Extension (named (codes "a") [])) (record draft { critical_options = named (codes "a") [] ∷ [] }) ≡ Ok (record draft { critical_options = named (codes "a") [] ∷ []; extensions = named (codes "a") [] ∷ [] }))
    × (after_step (Extension (named (codes "a") [])) (record draft { extensions = named (codes "a") [] ∷ [] }) ≡ Err ExtensionsField)
    × (after_steps (Principal (codes "a") ∷ AllPrincipals ∷ Principal (codes "b") ∷ Principal (codes "b") ∷ []) draft ≡ record draft { valid_principals = Some (codes "b" ∷ codes "b" ∷ []) })
    × (after_steps (Serial 1 ∷ Serial 2 ∷ AllPrincipals ∷ []) draft ≡ record draft { serial = Some 1; valid_principals = Some [] })

-- What was not set has its default.
abbrev pub DraftDefaults : Type 0
DraftDefaults = (drafted (after_steps (AllPrincipals ∷ []) draft) ed25519_key ≡ small_certificate ed25519_key)
    × (drafted (after_steps (Kind Host ∷ Serial 7 ∷ KeyId (codes "id") ∷ Principal (codes "a") ∷ Critical (named (codes "c") []) ∷ Extension (named (codes "e") []) ∷ Comment (codes "x") ∷ []) draft) authority
    ≡ record (small_certificate authority) { certificate_type = Host; serial = 7; key_id = codes "id"; valid_principals = codes "a" ∷ []; critical_options = named (codes "c") [] ∷ []; extensions = named (codes "e") [] ∷ [] })
