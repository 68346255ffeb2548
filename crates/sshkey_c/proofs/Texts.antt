-- The texts of some parts, one more at a time.
use Rattle.std.proofs.Common.{◌≡◌, ℕ, ◌+◌, ◌<◌, ◌++◌, List, [], ◌∷◌, ap, get_or, length, map, sym, take, ◌∙◌}
use Rattle.std.proofs.lemmas.List.{map-append, take_more}
use Rattle.publickey_login.specs.Sources as logins
use Rattle.publickey_login.specs.Values.{text_of}
use Rattle.publickey_login.specs.declared.trusted.Text.{Text}
use Rattle.sshkey_c.specs.Logins.{text_in, texts_in}
use Rattle.sshkey_c.specs.declared.login.TextParts.{TextParts}

pub one_more : (parts : List TextParts) (i : ℕ) (p : TextParts) (t : Text) (found new : List Text) → i < length parts → map text_of found ≡ texts_in (take i parts) → text_of t ≡ text_in (get_or parts i p) → new ≡ found ++ (t ∷ []) → map text_of new ≡ texts_in (take (i + 1) parts)
one_more parts i p t found new lt so_far is more =
    ap (map text_of) more
    ∙ map-append text_of found (t ∷ [])
    ∙ ap (λ (ts : List logins.Text). ts ++ (text_of t ∷ [])) so_far
    ∙ ap (λ (x : logins.Text). texts_in (take i parts) ++ (x ∷ [])) is
    ∙ sym (ap texts_in (take_more parts i p lt) ∙ map-append text_in (take i parts) (get_or parts i p ∷ []))
