use Rattle.std.proofs.Common.{inl, refl}
use Rattle.sshkey_base.specs.Causes.{cause}
use Rattle.sshkey_entry_calls.proofs.AuthorityFields.{memory_alone}
use Rattle.sshkey_entry_calls.proofs.authorities.tell_fields.Goals as goal

pub returns-in-Err : goal.returns-in-Err
returns-in-Err c = record {
  key = λ none. absurd (c.no_key_status.ensures.some none);
  no_key = λ _ some. c.in-Err.ensures.reads (λ m. some (c.no_key_status.ensures.memory m));
  later = c.no_key_status.ensures.later;
  fault = λ _ some other.
      let told = c.no_key_status.ensures.fault (λ m. some (c.no_key_status.ensures.memory m)) other in
      (told.0, (c.in-Err.error, c.in-Err.ensures.fault (λ m. some (c.no_key_status.ensures.memory m)), told.1));
  memory = λ one. inl (c.in-Err.ensures.asks (memory_alone (cause c.in-Err.error) c.no_key_status.result c.no_key_status.ensures.range one));
  stays = λ _. refl;
}
