-- Words of other crates that the worked examples compute.
unfoldable pub use Rattle.std.specs.Str.{is_utf8, chars}
unfoldable pub use Rattle.std.specs.Char.{encode_utf8}
unfoldable pub use Rattle.sha2.specs.Sha256.{sha256, digest_bytes, hash_after, compress, rounds, schedule, first_words}
unfoldable pub use Rattle.sha2.specs.Sha512.{sha512, digest_bytes as digest_bytes_512, hash_after as hash_after_512, compress as compress_512, rounds as rounds_512, schedule as schedule_512, first_words as first_words_512}
unfoldable pub use Rattle.base64.specs.Rfc4648.{encode_symbols}
