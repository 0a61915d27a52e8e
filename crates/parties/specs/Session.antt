-- What contracts see of a session, of whichever level, and of one that waits: its proxy.
use Rattle.std.specs.Prelude.{⊤}
use Rattle.session_proxy.specs.State.{PlainProxy}
use Rattle.parties.specs.PlainWaiting.{waiting_proxy}
use Rattle.parties.specs.declared.session.SessionOver.{SessionOver}
use Rattle.parties.specs.declared.session.SessionOver.TheVariants as levels

-- The proxy of the session's level, which is that of its client. Beside its ends `T` and `R` the type takes the key of `T`, the senders of
-- the box `R`, its key, and theirs.
abbrev pub proxy_of : {T R TK From RK FromK : Type 0} → SessionOver T R TK From RK FromK → PlainProxy T R
proxy_of (levels.Eventual proxy) = proxy
proxy_of (levels.Committed proxy) = proxy
proxy_of (levels.Causal proxy) = proxy
proxy_of (levels.Waiting waiting) = waiting_proxy waiting

-- it waits for the end of another
abbrev pub Waits : {T R TK From RK FromK : Type 0} → SessionOver T R TK From RK FromK → Type 0
Waits (levels.Eventual proxy) = ⊥
Waits (levels.Committed proxy) = ⊥
Waits (levels.Causal proxy) = ⊥
Waits (levels.Waiting waiting) = ⊤
