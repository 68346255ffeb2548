-- Worked examples: which text is the armour of which bytes, on both sides of each edge (OpenSSH's
-- sshsig.c, `sshsig_dearmor`).
use Rattle.std.specs.Prelude.{[], codes}
use Rattle.sshkey_base64.specs.Armour.{IsArmour}

-- Lines end with LF or CR LF, and what follows the last one does not count.
abbrev pub Lines : Type 0
Lines = IsArmour (codes "-----BEGIN SSH SIGNATURE-----\nQQ==\n-----END SSH SIGNATURE-----") (codes "A")
    × IsArmour (codes "-----BEGIN SSH SIGNATURE-----\r\nQQ==\r\n-----END SSH SIGNATURE-----\r\n") (codes "A")
    × IsArmour (codes "-----BEGIN SSH SIGNATURE-----\nQQ==\n-----END SSH SIGNATURE-----a text -") (codes "A")
    × IsArmour (codes "-----BEGIN SSH SIGNATURE-----\n\n-----END SSH SIGNATURE-----") []

-- Any white space may stand in the Base64.
abbrev pub WhiteSpace : Type 0
WhiteSpace = IsArmour (codes "-----BEGIN SSH SIGNATURE-----\n Q\tQ\n\r\n= =\n\n-----END SSH SIGNATURE-----") (codes "A")

-- The first line and the last have nothing before them, and the first one nothing after it.
abbrev pub OtherLines : Type 0
OtherLines = ¬ IsArmour (codes " -----BEGIN SSH SIGNATURE-----\nQQ==\n-----END SSH SIGNATURE-----") (codes "A")
    × ¬ IsArmour (codes "-----BEGIN SSH SIGNATURE----- \nQQ==\n-----END SSH SIGNATURE-----") (codes "A")
    × ¬ IsArmour (codes "-----BEGIN SSH SIGNATURE-----\nQQ==-----END SSH SIGNATURE-----") (codes "A")
    × ¬ IsArmour (codes "-----BEGIN SSH SIGNATURE-----\n-----END SSH SIGNATURE-----") []

-- It is padded, and the one Base64 of its bytes.
abbrev pub OtherBase64 : Type 0
OtherBase64 = ¬ IsArmour (codes "-----BEGIN SSH SIGNATURE-----\nQQ\n-----END SSH SIGNATURE-----") (codes "A")
    × ¬ IsArmour (codes "-----BEGIN SSH SIGNATURE-----\nQR==\n-----END SSH SIGNATURE-----") (codes "A")
