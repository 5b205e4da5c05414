-- How far a session has come, and the bytes that terminal and card then know.
use Rattle.std.specs.Prelude.{ℕ, ◌+◌, ◌%◌, Bool, true, false, leb, replicate, Option, None, Some}
use Rattle.tables.specs.Choice.{pick}
use Rattle.access.specs.Rights.{last_key}
use Rattle.chains.specs.declared.Chain.{Chain}
use Rattle.chains.specs.Chain.{unchained, completes, shortened}
use Rattle.channel.specs.declared.Stage.{Stage}
use Rattle.channel.specs.declared.Stage.TheVariants.{Closed, Bench, Waiting, Real}
use Rattle.channel.specs.declared.Channel.{Channel}

-- a session of the bench stays plain
abbrev pub stage_of : Option ℕ → Stage
stage_of None = Closed
stage_of (Some k) = Bench k

-- the session that access is decided by; between the two parts of an authentication there is none
abbrev pub acting_of : Stage → Option ℕ
acting_of Closed = None
acting_of (Bench k) = Some k
acting_of (Waiting k) = None
acting_of (Real k n) = Some k

-- the key that it names; 0 without one
abbrev pub named : Stage → ℕ
named Closed = 0
named (Bench k) = k
named (Waiting k) = k
named (Real k n) = k

-- it is 0 to 4; a real session and a waiting first part never hold together, by the type
abbrev pub stage_sound : Stage → Bool
stage_sound g = leb (named g) last_key

-- a first part waits for its second
abbrev pub is_waiting : Stage → Bool
is_waiting Closed = false
is_waiting (Bench k) = false
is_waiting (Waiting k) = true
is_waiting (Real k n) = false

-- opened by AuthenticateEV2First
abbrev pub is_real : Stage → Bool
is_real Closed = false
is_real (Bench k) = false
is_real (Waiting k) = false
is_real (Real k n) = true

-- the key of a real session or a waiting first part; 0 without one
abbrev pub stage_key : Stage → ℕ
stage_key Closed = 0
stage_key (Bench k) = 0
stage_key (Waiting k) = k
stage_key (Real k n) = k

-- the command counter; 0 without one
abbrev pub counter_of : Stage → ℕ
counter_of Closed = 0
counter_of (Bench k) = 0
counter_of (Waiting k) = 0
counter_of (Real k n) = n

-- the last that its two bytes can tell
abbrev pub last_count : ℕ
last_count = 0xFFFF

-- an accepted command in a real session moves it up by one; at the last none is accepted
abbrev pub counted_up : Stage → Stage
counted_up Closed = Closed
counted_up (Bench k) = Bench k
counted_up (Waiting k) = Waiting k
counted_up (Real k n) = Real k ((n + 1) % 65536)

unfoldable pub counted : Channel → Channel
counted c = record { stage = counted_up c.stage; secret = c.secret; ti = c.ti; caps = c.caps; chain = c.chain }

-- the stage with zero bytes beside it, and no chain
unfoldable pub bare : Stage → Channel
bare g = record { stage = g; secret = replicate 16 0; ti = replicate 4 0; caps = replicate 6 0; chain = unchained }

-- no session, no chain, and nothing that one left
abbrev pub closed : Channel
closed = bare Closed

-- ---- a chain

unfoldable pub chained : Channel → Chain → Channel
chained c k = record { stage = c.stage; secret = c.secret; ti = c.ti; caps = c.caps; chain = k }

-- n bytes of the open chain have come: the last of them is the whole command's, which moves a real session's counter
unfoldable pub advanced : Channel → ℕ → Channel
advanced c n =
    pick (completes c.chain n) (counted (chained c (shortened c.chain n)))
    (chained c (shortened c.chain n))
