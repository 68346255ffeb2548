-- What the terms of a line say of a login: whether they allow its place and its time (sshd(8),
-- "AUTHORIZED_KEYS FILE FORMAT", `expiry-time`, `principals` and `from`).
use Rattle.std.specs.Prelude.{◌≡◌, ◌⊎◌, ◌<◌, ◌≤◌, ℕ, List, Bool, true, false, Option, Some, None, is_some, Result, Ok, Err}
use Rattle.std.specs.Net.Text.{ip_text}
use Rattle.std.specs.declared.net.ip_addr.IpAddr.{IpAddr}
use Rattle.sshkey_matching.specs.FromLists.{DecidesFrom}
use Rattle.sshkey_matching.specs.SourceAddresses.{IsSeenAs}
use Rattle.sshkey_matching.specs.declared.from.FromFault.{FromFault}
use Rattle.sshkey_matching.specs.declared.from.FromFault.TheVariants.{Address, Host, List as Pieces}
use Rattle.sshkey_matching.specs.declared.times.Span.{Span}
use Rattle.login_terms.specs.Options.{Terms}
use Rattle.user_keys.specs.declared.answer.Answer.{Answer}
use Rattle.user_keys.specs.declared.answer.Answer.TheVariants.{Yes, No, Unclear}
use Rattle.user_keys.specs.declared.answer.Judgement.{Judgement}
use Rattle.user_keys.specs.declared.answer.Judgement.TheVariants as judgement
use Rattle.user_keys.specs.declared.refusal.Reason.TheVariants as reason
use denote.Ref.{Bor}

-- ---- the time

-- The line counts through its last second. Which second that is cannot be told of a time without a
-- zone, but for the first and the last that it may be.
abbrev pub CountsAt : Option Span → ℕ → Answer → Type 0
CountsAt None time Yes = Unit {0}
CountsAt None time No = ⊥
CountsAt None time Unclear = ⊥
CountsAt (Some last) time Yes = time ≤ last.first
CountsAt (Some last) time No = (last.first < time) × (last.last < time)
CountsAt (Some last) time Unclear = (last.first < time) × (time ≤ last.last)

-- ---- the place

-- The list decides that of a client at the address, as sshd sees it, whose host has that name or
-- none.
abbrev pub Decides : List ℕ → Option (Bor (List ℕ)) → IpAddr → Result Bool FromFault → Type 0
Decides list host address r = (seen : IpAddr) × IsSeenAs address seen × DecidesFrom list host (ip_text seen) r

-- A line without a list lets in from anywhere. By one with a list nothing can be told of a client
-- without an address, nor where the list, the address or the host's name has a fault: sshd may take
-- the list to be for the client.
abbrev pub LetsFrom : Option (List ℕ) → Option IpAddr → Option (Bor (List ℕ)) → Answer → Type 0
LetsFrom None client host Yes = Unit {0}
LetsFrom None client host No = ⊥
LetsFrom None client host Unclear = ⊥
LetsFrom (Some list) None host Yes = ⊥
LetsFrom (Some list) None host No = ⊥
LetsFrom (Some list) None host Unclear = Unit {0}
LetsFrom (Some list) (Some address) host Yes = Decides list host address (Ok true)
LetsFrom (Some list) (Some address) host No = Decides list host address (Ok false)
LetsFrom (Some list) (Some address) host Unclear = Decides list host address (Err Address) ⊎ Decides list host address (Err Host) ⊎ Decides list host address (Err Pieces)

-- ---- both

-- Principals are named for a key that is no authority's.
abbrev pub NamesInVain : Terms → Type 0
NamesInVain t = (t.is_authority ≡ false) × (is_some t.principals ≡ true)

-- The terms allow the time and the place; or refuse for the first of these; or neither can be told.
abbrev pub Judges : Terms → ℕ → Option IpAddr → Option (Bor (List ℕ)) → Judgement → Type 0
Judges t time client host judgement.Allows = CountsAt t.expires time Yes × ¬ NamesInVain t × LetsFrom t.from client host Yes
Judges t time client host (judgement.Refuses reason.Expired) = CountsAt t.expires time No
Judges t time client host (judgement.Refuses reason.MisplacedOption) = ¬ CountsAt t.expires time No × NamesInVain t
Judges t time client host (judgement.Refuses reason.Command) = ⊥
Judges t time client host (judgement.Refuses reason.Principals) = ⊥
Judges t time client host (judgement.Refuses reason.Elsewhere) = ¬ CountsAt t.expires time No × ¬ NamesInVain t × LetsFrom t.from client host No
Judges t time client host judgement.Unclear = ¬ CountsAt t.expires time No × ¬ NamesInVain t × ¬ LetsFrom t.from client host No × (CountsAt t.expires time Unclear ⊎ LetsFrom t.from client host Unclear)

-- what follows from both, and from whether principals are named in vain, which sshd asks in between
abbrev pub joined : Answer → Bool → Answer → Judgement
joined No in_vain in_place = judgement.Refuses reason.Expired
joined Yes true in_place = judgement.Refuses reason.MisplacedOption
joined Yes false No = judgement.Refuses reason.Elsewhere
joined Yes false Yes = judgement.Allows
joined Yes false Unclear = judgement.Unclear
joined Unclear true in_place = judgement.Refuses reason.MisplacedOption
joined Unclear false No = judgement.Refuses reason.Elsewhere
joined Unclear false Yes = judgement.Unclear
joined Unclear false Unclear = judgement.Unclear
