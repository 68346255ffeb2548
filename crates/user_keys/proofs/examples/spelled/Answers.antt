use Rattle.std.proofs.Common.{◌++◌, [], arith, codes, inl, inr, refl}
use Rattle.base64.specs.Rfc4648.{encode_symbols}
use Rattle.sshkey_model.specs.HexText.{hex}
use Rattle.user_keys.specs.EdgeExamples.{point}
use Rattle.user_keys.proofs.Blobs.{words_marked}
use Rattle.user_keys.proofs.examples.spelled.Goals as goal

pub returns : goal.returns
unfolding encode_symbols
returns c = (
  words_marked point (hex "0000000b 7373682d65643235353139 00000020" ++ point) (hex "0000000b 7373682d65643235353139 00000020") [] (codes "ssh-ed25519 ") (codes "AAAAC3NzaC1lZDI1NTE5AAAAILM+rvN+ot98qgEN796jTiQfZfG1KaT0PtFDJ/XFSqti") (codes " alice") (omega arith) refl refl,
  words_marked point (hex "0000000b 7373682d65643235353139 00000020" ++ point) (hex "0000000b 7373682d65643235353139 00000020") [] (codes "ssh-ed25519 ") (codes "AAAAC3NzaC1lZDI1NTE5AAAAILM+rvN+ot98qgEN796\rjTiQfZfG1KaT0PtFDJ/XFSqti") [] (omega arith) refl refl,
  words_marked point (hex "00000007 45443235353139 00000020" ++ point) (hex "00000007 45443235353139 00000020") [] (codes "ssh-ed25519 ") (codes "AAAAB0VEMjU1MTkAAAAgsz6u836i33yqAQ3v3qNOJB9l8bUppPQ+0UMn9cVKq2I=") [] (omega arith) refl refl,
  (λ is. elim is [
    | inl a ↦ omega (arith, a.1)
    | inr more ↦ elim more [ inl b ↦ omega (arith, b.1) | inr d ↦ omega (arith, d.1) ]
  ]),
)
