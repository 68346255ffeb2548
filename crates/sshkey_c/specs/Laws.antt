-- What holds of every grant that is written.
use Rattle.std.specs.Prelude.{ℕ, List}
use Rattle.login_terms.specs.Options.{terms_of}
use Rattle.publickey_login.specs.declared.grant.PublickeyGrant.{PublickeyGrant}
use Rattle.sshkey_calls.specs.Rooms.{IsAtFront}
use Rattle.sshkey_c.specs.Grants.{ArePlaced, grant_bytes, HasCommand}
use Rattle.sshkey_c.specs.declared.grant.GrantParts.{GrantParts}

-- Whatever follows it in the room, the command that is forced is where the answer says.
abbrev pub CommandIsThere : Type 0
CommandIsThere = (g : PublickeyGrant) (a : GrantParts) (before after : List ℕ) → IsAtFront (grant_bytes g) (ArePlaced g a) before after → HasCommand (terms_of g.user.terms) a after
