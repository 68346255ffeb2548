-- A picture, put together.
use Rattle.std.proofs.Common.{◌≡◌, ◌++◌, ◌∷◌, ℕ, List, ap, ◌∙◌, append_assoc}
use Rattle.sshkey_fingerprints.specs.RandomArt.{hash_label, picture, rows, shade, title}
use Rattle.sshkey_fingerprints.specs.Walks.{IsNumbered, first_rows}
use Rattle.sshkey_model.specs.Names.{Hash}
use Rattle.sshkey_fingerprints.proofs.Rows.{rows_are}

pub pictured : (header label d e shades : List ℕ) (h : Hash) → IsNumbered shades (shade d) → d ≡ e → label ≡ hash_label h → (title header ++ (10 ∷ first_rows 9 shades)) ++ title label ≡ picture header h e
unfolding picture
pictured header label d e shades h is digest named =
    append_assoc (title header) (10 ∷ first_rows 9 shades) (title label)
    ∙ ap (λ (l : List ℕ). title header ++ (10 ∷ l ++ title label)) (rows_are shades d is ∙ ap rows digest)
    ∙ ap (λ (l : List ℕ). title header ++ (10 ∷ rows e ++ title l)) named
