-- Worked examples: HMAC-SHA1 of RFC 2202, section 3. The third key is longer than a block.
use Rattle.std.specs.Prelude.{◌≡◌, codes, replicate}
use Rattle.sshkey_model.specs.HexText.{hex}
use Rattle.sshkey_known_hosts.specs.Hmac.{hmac_sha1}

abbrev pub Digests : Type 0
Digests = (hmac_sha1 (replicate 20 0x0b) (codes "Hi There") ≡ hex "b617318655057264e28bc0b6fb378c8ef146be00")
    × (hmac_sha1 (codes "Jefe") (codes "what do ya want for nothing?") ≡ hex "effcdf6ae5eb2fa2d27416d5f184df9c259a7c79")
    × (hmac_sha1 (replicate 80 0xaa) (codes "Test Using Larger Than Block-Size Key - Hash Key First") ≡ hex "aa4ae5e15272d00e95705637ce8a3b55ed402112")
