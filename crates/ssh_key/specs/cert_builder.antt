pub use Rattle.sshkey_cert_builder.specs.Builders
