use Rattle.sshkey_entry_calls.proofs.host_request.HostRequest.with_texts.Goals as goal

pub text_of-requires : goal.text_of-requires
text_of-requires c = c.requires
