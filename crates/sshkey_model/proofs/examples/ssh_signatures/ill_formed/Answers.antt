use Rattle.sshkey_model.proofs.examples.ssh_signatures.ill_formed.Goals as goal

pub returns : goal.returns
returns c = (λ is. cc is.version, λ is. cc is.1)
