use Rattle.std.proofs.Common.{List, ap, rules, ◌++◌, ◌∙◌, ℕ}
use Rattle.sshkey_keys.specs.Questions.{asks}
use Rattle.sshkey_model.specs.Fingerprints.{digest}
use Rattle.sshkey_model.specs.Names.{Sha256}
use Rattle.sshkey_c.specs.Verdicts.{head}
use Rattle.sshkey_c.specs.Grants.{bit}
use Rattle.sshkey_c.proofs.Asked.{laid}
use Rattle.sshkey_c.proofs.questions.lay_out_questions.Goals as goal

pub returns-clause-laid : goal.returns-clause-laid
returns-clause-laid c = laid (λ it. asks it.now) c.authority_question-of_authority.result c.client_question-of_client.result _ _ c.in_ok-authority.authority c.in_ok-client.client _ _ c.add_asked-2.new.content.items c.len-length.result c.ticket_of-ticket.result c.bit.result c.bit-2.result c.new-content.ensures.items c.authority_question-of_authority.ensures c.client_question-of_client.ensures c.in_ok-authority.ensures.added c.in_ok-client.ensures.added (search rules) (c.ticket_of-ticket.ensures ∙ ap (λ (l : List ℕ). digest Sha256 (head c.in_ok-authority.authority ++ (head c.in_ok-client.client ++ l))) c.deref.ensures.value) (c.bit.ensures.value ∙ ap (bit 1) c.is_some.ensures) (c.bit-2.ensures.value ∙ ap (bit 2) c.is_some-2.ensures)
