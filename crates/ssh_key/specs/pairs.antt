pub use Rattle.sshkey_pairs.specs.Keypairs
