use Rattle.std.proofs.Common.{◌≡◌, map, take}
use Rattle.publickey_login.specs.Values.{text_of}
use Rattle.sshkey_c.specs.Logins.{texts_in}
use Rattle.sshkey_c.proofs.sources.texts_in.Given as goal

-- those of the parts so far
abbrev pub invariant-loop-part : goal.invariant-loop-part
invariant-loop-part l = map text_of l.found.items ≡ texts_in (take l.part-index l.parts)
