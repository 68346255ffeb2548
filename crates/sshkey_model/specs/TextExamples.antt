-- Worked examples: fingerprints and lines.
use Rattle.std.specs.Prelude.{◌≡◌, [], codes}
use Rattle.sshkey_model.specs.HexText.{hex}
use Rattle.sshkey_model.specs.Names.{Sha256, Sha512}
use Rattle.sshkey_model.specs.CertificateNames.{certificate_name}
use Rattle.sshkey_model.specs.Keys.{key_algorithm}
use Rattle.sshkey_model.specs.Fingerprints.{fingerprint, fingerprint_text}
use Rattle.sshkey_model.specs.Lines.{written, key_name}
use Rattle.sshkey_model.specs.KeyExamples.{ed25519_key, ed25519_bytes, rsa_key, rsa_bytes}
use Rattle.sshkey_model.specs.CertificateExamples.{authority, openssh_bytes}

-- The digests of an Ed25519 key's 51 bytes, and how they are shown.
abbrev pub Fingerprint : Type 0
Fingerprint = (fingerprint Sha256 ed25519_key ≡ record { hash = Sha256; digest = hex "5025222ebecf8ecf7014524c0c1c8b81cdcdaed754df8e0e814338e7064f7084" })
    × (fingerprint_text Sha256 ed25519_key ≡ codes "SHA256:UCUiLr7Pjs9wFFJMDByLgc3NrtdU344OgUM45wZPcIQ")
    × (fingerprint Sha512 ed25519_key ≡ record { hash = Sha512; digest = hex "f079b878d4e2624f65e9647ce48a98f942b80176a345fe5ab8b0ff408c426502f01a90e210389767466db4fba1c86f081ec59bb76ceef06d3e1ba548557a0784" })
    × (fingerprint_text Sha512 ed25519_key ≡ codes "SHA512:8Hm4eNTiYk9l6WR85IqY+UK4AXajRf5auLD/QIxCZQLwGpDiEDiXZ0ZttPuhyG8IHsWbt2zu8G0+G6VIVXoHhA")

-- That of an RSA key is of the 24 bytes under its own name.
abbrev pub RsaFingerprint : Type 0
RsaFingerprint = (fingerprint Sha256 rsa_key).digest ≡ hex "1ce647e6309d26293ad336d303de6cea44175b6baaec86a4548b7c474d5a7c25"

-- A line with a comment, one without, and the line of the certificate that OpenSSH made.
abbrev pub WrittenLines : Type 0
WrittenLines = (written (key_name ed25519_key) ed25519_bytes (codes "user@example.com") ≡ codes "ssh-ed25519 AAAAC3NzaC1lZDI1NTE5AAAAILM+rvN+ot98qgEN796jTiQfZfG1KaT0PtFDJ/XFSqti user@example.com")
    × (written (key_name rsa_key) rsa_bytes [] ≡ codes "ssh-rsa AAAAB3NzaC1yc2EAAAADAQABAAAAAgD/")
    × (written (certificate_name (key_algorithm authority)) openssh_bytes [] ≡ codes "ssh-ed25519-cert-v01@openssh.com AAAAIHNzaC1lZDI1NTE5LWNlcnQtdjAxQG9wZW5zc2guY29tAAAAIBW/4zLqXWROWmN1sPgdySnH1GUsEFBjFrRwKKw71BoBAAAAIH1MFwI1oRdEifXgBQvWQfCBBtA/Pi8YCUE/I3wXFJo2AAAAAAAAAAAAAAABAAAAA2ZvbwAAAAAAAAAAAAAAAH//////////AAAAIwAAABFoZWxsb0BleGFtcGxlLmNvbQAAAAoAAAAGZm9vYmFyAAAAAAAAAAAAAAAzAAAAC3NzaC1lZDI1NTE5AAAAIH1MFwI1oRdEifXgBQvWQfCBBtA/Pi8YCUE/I3wXFJo2AAAAUwAAAAtzc2gtZWQyNTUxOQAAAEDRoPdI48KyoaLgaDZsSGs80qBeYQOXBd84CX8GYzFt/L21rxF1EeuPOkgsx7Q39WllXp+FgMMojsHftK/DJHEN")
