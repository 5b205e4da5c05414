-- What the terminal holds between two lines of a draft. It sees no reply: a session is held as if the card had accepted each
-- command.
use Rattle.std.specs.Prelude.{ℕ, ◌+◌, false, ◌||◌, List, eqb, ltb, replicate}
use Rattle.tables.specs.Choice.{pick}
use Rattle.wire.specs.Bytes.{part}
use Rattle.frames.specs.Frame.{ins_of}
use Rattle.held.specs.declared.Draft.{Draft}

-- at the start: zeros, and no session
unfoldable pub begun : Draft
begun = record { random = replicate 16 0; identifier = replicate 4 0; held = false; key = replicate 16 0; ti = replicate 4 0; counter = 0 }

-- no session is held any more
unfoldable pub over : Draft → Draft
over d = record { random = d.random; identifier = d.identifier; held = false; key = d.key; ti = d.ti; counter = d.counter }

-- the command counter up by one; at FFFFh it stays, since the card takes no further command there
unfoldable pub raised : ℕ → ℕ
raised c = pick (ltb c 0xFFFF) (c + 1) c

-- a command counts; a chain is one command, which counts at its opening
unfoldable pub counted : Draft → Draft
counted d = record { random = d.random; identifier = d.identifier; held = d.held; key = d.key; ti = d.ti; counter = raised d.counter }

-- after a plain frame: a part of an authentication ends the session, any other counts
unfoldable pub sent : Draft → List ℕ → Draft
sent d f = pick (eqb (ins_of f) 0x71 || eqb (ins_of f) 0xAF) (over d) (counted d)

-- the card's random number and transaction identifier, as the bench hands them in from here on
unfoldable pub noted : Draft → List ℕ → Draft
noted d b = record { random = part b 0 16; identifier = part b 16 20; held = d.held; key = d.key; ti = d.ti; counter = d.counter }
