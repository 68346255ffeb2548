use Rattle.std.proofs.Common.{codes, refl, arith}
use Rattle.base64.specs.Rfc4648.{encode_symbols}
use Rattle.sha1.specs.Sha1.{compress, digest_bytes, first_words, hash_after, rounds, schedule, sha1}
use Rattle.sshkey_model.specs.HexText.{hex}
use Rattle.sshkey_entries.specs.KnownHosts.{HashedName, Hosts, IsHosts}
use Rattle.sshkey_known_hosts.specs.Examples.{hashed, hashed_at_port, host, short_salt}
use Rattle.sshkey_known_hosts.proofs.ExampleLemmas.{differ, hash_is, says_nothing, says_of_keys}
use Rattle.sshkey_known_hosts.proofs.examples.hashes.Goals as goal

abbrev at_host : Hosts
at_host = HashedName (hex "fe6b2f01abebf3fa38a28ee6eaab22bc832ec7c9") (hex "d876a93458fee25f9d31d18fa9750100475495f6")

abbrev at_port : Hosts
at_port = HashedName (hex "d175bd4befb5f6f1821e1bc3af2ba6203d4f0351") (hex "bfe21dfaf33f294d1cb696f52f8da567a41e9534")

abbrev odd : Hosts
odd = HashedName (hex "000102030405060708090a0b0c0d0e0f101112") (hex "82cd6c42adbef094567421d6c20fdb29dc74baa5")

pub returns : goal.returns
unfolding encode_symbols first_words schedule rounds compress hash_after digest_bytes sha1
returns c =
    let host_hash : IsHosts hashed at_host = hash_is hashed _ _ refl refl refl in
    let port_hash : IsHosts hashed_at_port at_port = hash_is hashed_at_port _ _ refl refl refl in
    let odd_hash : IsHosts short_salt odd = hash_is short_salt _ _ refl refl refl in (
      says_of_keys host hashed refl at_host host_hash (refl, refl),
      says_nothing (codes "g.example") hashed refl at_host host_hash (λ f. differ _ _ refl f.1),
      says_nothing (codes "[h.example]:2222") hashed refl at_host host_hash (λ f. differ _ _ refl f.1),
      says_of_keys (codes "[h.example]:2222") hashed_at_port refl at_port port_hash (refl, refl),
      says_nothing host hashed_at_port refl at_port port_hash (λ f. differ _ _ refl f.1),
      says_nothing host short_salt refl odd odd_hash (λ f. omega (arith, f.0)),
    )
