use Rattle.std.proofs.Common.{inl, inr, refl, false}
use Rattle.std.proofs.lemmas.Result.{err_from_is_err_and}
use Rattle.sshkey_model.specs.Keys.{key_format, SpellsKey}
use Rattle.sshkey_model.proofs.Blobs.{key_blobs}
use Rattle.sshkey_model.specs.Lines.{key_name}
use Rattle.sshkey_revoked_keys.specs.RevokedKeys.{IsReadKey}
use Rattle.sshkey_revoked_keys.proofs.NamedWords.{key_asks, not_later, unread}
use Rattle.sshkey_revoked_keys.proofs.line.read_key.Goals as goal

pub returns-in_err-key-clause-reads : goal.returns-in_err-key-clause-reads
returns-in_err-key-clause-reads c = let p = err_from_is_err_and c.from_residual-in_err-key.result c.from_residual-in_err-key.ensures.1 in
    rw (p.1, p.2) (λ other key says. elim says [
      | inl own ↦ c.in_err-key.ensures.reads other own.0 own.1.named
      | inr later ↦ not_later _ _ _ c.in_ok-blob.ensures.found c.in_default.not-Some key later
    ])

pub returns-then-not-is_read_line_key-clause-reads : goal.returns-then-not-is_read_line_key-clause-reads
returns-then-not-is_read_line_key-clause-reads c = λ _ key says. elim says [
  | inl own ↦ unread key_format key_name SpellsKey key_blobs IsReadKey c.args.name.now c.args.word.now _ c.in_ok-key.ensures.reads (λ is. let found = c.is_read_line_key.ensures.1 is in absurd cc) own.0 own.1
  | inr later ↦ not_later _ _ _ c.in_ok-blob.ensures.found c.in_default.not-Some key later
]

pub returns-clause-asks : goal.returns-clause-asks
returns-clause-asks c = key_asks false c.args.name.now c.args.word.now _ (inl (_, record { named = c.in_ok-key.ensures.reads; read = c.is_read_line_key.ensures.0 c.if-not-is_read_line_key.false }, refl)) c.normal_form.result
