use Rattle.sshkey_c.proofs.Grants.{HasAdded, spelled_texts}
use Rattle.sshkey_c.proofs.grant.add_strings.Given as goal

abbrev pub invariant-loop-text : goal.invariant-loop-text
invariant-loop-text l = HasAdded spelled_texts l.texts l.text-index l.fn.content.items l.content.items
