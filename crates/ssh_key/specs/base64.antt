pub use Rattle.sshkey_base64.specs.Words64
